-- The item has a document.
use Rattle.std.proofs.Common.{◌∙◌, ap, map}
use Rattle.lsp_index.specs.Entries.{entry_ids}
use Rattle.lsp_index.specs.Shown.{show_location}
use Rattle.lsp_index.specs.Queries.{with_ranges}
use Rattle.lsp_index.proofs.ValueLemmas.{on_ok}
use Rattle.lsp_index.proofs.graph.Index.add_item.Goals as goal

pub returns-in-Some : goal.returns-in-Some
returns-in-Some c =
    on_ok c.add_ranges.result (λ p g kept. p g kept ∙ ap (with_ranges g (entry_ids c.args.item.now.targets.items) (map show_location c.args.found.now.keys)) (c.in-Some.ensures g kept)) c.add_ranges.ensures
