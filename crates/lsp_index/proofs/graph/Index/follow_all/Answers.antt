-- One more item.
use Rattle.std.proofs.Common.{◌∙◌, sym, ap, map, arith}
use Rattle.lsp_rpc.specs.Shown.{show_id}
use Rattle.lsp_index.specs.Shown.{show_item_edge, show_location}
use Rattle.lsp_index.specs.Entries.{entry_ids}
use Rattle.lsp_index.specs.Queries.{with_linked, with_place}
use Rattle.lsp_index.proofs.SetLemmas.{fold_shown_more}
use Rattle.lsp_index.proofs.graph.Index.follow_all.Goals as goal

pub loop-item-preserved : goal.loop-item-preserved
loop-item-preserved c = (
  λ g kept.
      c.in_ok-follow.ensures.places g kept ∙ ap (λ l. with_place g l c.item-item.result.role (show_item_edge c.item-item.result)) (c.loop-item.invariant.0 g kept)
      ∙ sym (fold_shown_more (λ ls i. with_place g ls i.role i) show_item_edge (map show_location c.args.found.now.keys) c.args.items.now c.loop-item.item-index c.item-item.result (omega arith) c.item-item.is),
  c.in_ok-follow.ensures.linked ∙ ap (λ l. with_linked l c.item-item.result.role (entry_ids c.item-item.result.targets.items)) c.loop-item.invariant.1
      ∙ sym (fold_shown_more (λ rs i. with_linked rs i.role i.targets) show_item_edge (map show_id c.args.results.now.keys) c.args.items.now c.loop-item.item-index c.item-item.result (omega arith) c.item-item.is),
)
