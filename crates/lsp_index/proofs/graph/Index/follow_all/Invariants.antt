-- The items so far were followed.
use Rattle.std.proofs.Common.{◌≡◌, map, take, fold}
use Rattle.lsp_rpc.specs.Shown.{show_id}
use Rattle.lsp_index.specs.Graph.{Graph}
use Rattle.lsp_index.specs.Kept.{IsKept}
use Rattle.lsp_index.specs.Shown.{show_item_edge, show_location}
use Rattle.lsp_index.specs.Queries.{with_linked, with_place}
use Rattle.lsp_index.proofs.graph.Index.follow_all.Given as goal

abbrev pub invariant-loop-item : goal.invariant-loop-item
invariant-loop-item l =
    ((g : Graph) → IsKept g l.self → map show_location l.found.keys ≡ fold (λ ls i. with_place g ls i.role i) (map show_location l.initial.found.keys) (map show_item_edge (take l.item-index l.items)))
    × (map show_id l.results.keys ≡ fold (λ rs i. with_linked rs i.role i.targets) (map show_id l.initial.results.keys) (map show_item_edge (take l.item-index l.items)))
