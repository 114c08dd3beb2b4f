-- The results after the members that were gone through, and the places of these members.
use Rattle.std.proofs.Common.{◌≡◌, Some, map, take, fold, []}
use Rattle.std.specs.Prelude.{option_map}
use Rattle.std.specs.Borrow.{Bor}
use Rattle.lsp_rpc.specs.Message.{IdData}
use Rattle.lsp_rpc.specs.Shown.{show_id}
use Rattle.lsp_rpc.specs.declared.id.Id.{Id}
use Rattle.lsp_index.specs.Graph.{Graph}
use Rattle.lsp_index.specs.Kept.{IsKept}
use Rattle.lsp_index.specs.Shown.{show_location}
use Rattle.lsp_index.specs.Queries.{results_after, with_places}
use Rattle.lsp_index.proofs.graph.Index.add_reached.Given as goal

abbrev pub invariant-loop-i : goal.invariant-loop-i
invariant-loop-i l = (g : Graph) → IsKept g l.self → (from : IdData) → option_map (λ (id : Bor Id). show_id id.now) l.reached ≡ Some from
    → (results_after g from l.i ≡ map show_id l.results.keys)
    × (map show_location l.found.keys ≡ fold (with_places g) [] (take l.i (map show_id l.results.keys)))
