-- The walk has come to the vertex, and was at the one that is kept to compare with.
use Rattle.std.proofs.Common.{◌≡◌, ℕ}
use Rattle.std.specs.Prelude.{Some, option_map}
use Rattle.std.specs.Borrow.{Bor}
use Rattle.lsp_rpc.specs.Message.{IdData}
use Rattle.lsp_rpc.specs.Shown.{show_id}
use Rattle.lsp_rpc.specs.declared.id.Id.{Id}
use Rattle.lsp_index.specs.Graph.{Graph}
use Rattle.lsp_index.specs.Kept.{IsKept}
use Rattle.lsp_index.proofs.ReachLemmas.{Walk}
use Rattle.lsp_index.proofs.graph.Index.walk.Given as goal

abbrev pub invariant-loop-i : goal.invariant-loop-i
invariant-loop-i l = (g : Graph) → IsKept g l.self → (start : IdData) → option_map (λ (id : Bor Id). show_id id.now) l.from ≡ Some start
    → Walk g start l.i (show_id l.vertex) × ((m : ℕ) × Walk g (show_id l.before) m (show_id l.vertex))
