-- One more range, and all of them.
use Rattle.std.proofs.Common.{◌∙◌, sym, ap, map, fold, arith}
use Rattle.std.proofs.lemmas.List.{take_all}
use Rattle.lsp_base.specs.Position.{id_of}
use Rattle.lsp_uri.specs.Uri.{uri_text}
use Rattle.lsp_index.specs.Shown.{show_location}
use Rattle.lsp_index.specs.Queries.{with_range, range_at}
use Rattle.lsp_index.proofs.SetLemmas.{fold_shown_more}
use Rattle.lsp_index.proofs.graph.Index.add_ranges.Goals as goal

pub loop-id-preserved : goal.loop-id-preserved
loop-id-preserved c = λ g kept.
    c.in_ok-add_range.ensures ∙ ap (with_range (uri_text c.args.uri.now) (map show_location c.loop-id.found.keys)) (c.range.ensures g kept ∙ ap (range_at g) c.in_ok-key.ensures.key)
    ∙ ap (λ l. with_range (uri_text c.args.uri.now) l (range_at g (id_of c.id-item.result))) (c.loop-id.invariant g kept)
    ∙ sym (fold_shown_more (λ ls id. with_range (uri_text c.args.uri.now) ls (range_at g id)) id_of (map show_location c.args.found.now.keys) c.deref-id-items.result.now c.loop-id.id-index c.id-item.result (omega arith) c.id-item.is)

pub returns : goal.returns
returns c = λ g kept.
    c.loop-id.invariant g kept
    ∙ ap (λ l. fold (λ ls id. with_range (uri_text c.args.uri.now) ls (range_at g id)) (map show_location c.args.found.now.keys) (map id_of l))
    (take_all c.loop-id.id-index c.deref-id-items.result.now c.loop-id-test.false ∙ c.deref-id-items.ensures.value)
