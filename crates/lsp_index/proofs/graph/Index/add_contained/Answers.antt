-- The edge comes from the document.
use Rattle.std.proofs.Common.{◌∙◌, sym, ap, fold, cond}
use Rattle.lsp_index.specs.Entries.{entry_ids}
use Rattle.lsp_index.specs.Shown.{show_ids}
use Rattle.lsp_index.specs.Queries.{with_new_id}
use Rattle.lsp_index.proofs.ValueLemmas.{on_ok}
use Rattle.lsp_index.proofs.graph.Index.add_contained.Goals as goal

pub returns-then-is_document : goal.returns-then-is_document
returns-then-is_document c =
    let old = show_ids c.args.named.now.keys in
    on_ok c.add_ids.result (λ p g kept. p ∙ sym (ap (λ b. cond b (fold with_new_id old (entry_ids c.args.outgoing.now.targets.items)) old) (sym (c.is_document.ensures g kept) ∙ c.if-is_document.true))) c.add_ids.ensures
