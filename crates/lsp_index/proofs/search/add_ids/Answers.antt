-- One more id.
use Rattle.std.proofs.Common.{◌∙◌, sym, ap, map, arith}
use Rattle.lsp_rpc.specs.Shown.{show_id}
use Rattle.lsp_base.specs.Position.{id_of}
use Rattle.lsp_index.specs.Queries.{with_new_id}
use Rattle.lsp_index.proofs.SetLemmas.{insert-shown, fold_shown_more}
use Rattle.lsp_index.proofs.search.add_ids.Goals as goal

pub loop-id-preserved : goal.loop-id-preserved
loop-id-preserved c =
    insert-shown c.loop-id.set.keys c.insert.new.self.keys c.in_ok-key_of.field-0 (id_of c.id-item.result) c.in_ok-key_of.ensures.key c.in_ok-insert.ensures.keys ∙ ap (λ l. with_new_id l (id_of c.id-item.result)) c.loop-id.invariant
    ∙ sym (fold_shown_more with_new_id id_of (map show_id c.args.set.now.keys) c.deref-id-items.result.now c.loop-id.id-index c.id-item.result (omega arith) c.id-item.is)
