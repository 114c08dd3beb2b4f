use Rattle.std.proofs.Common.{◌≡◌, ◌++◌, drop, map}
use Rattle.serde_json.specs.View.{view}
use Rattle.lsp_shape.specs.Unfit.{step_shown}
use Rattle.lsp_shape.specs.Why.{path_by}
use Rattle.lsp_shape.proofs.unfit.path_of.Given as goal

-- the path so far, and what the steps that are left lead to
abbrev pub invariant-loop-number : goal.invariant-loop-number
invariant-loop-number l = map step_shown l.path.items ++ path_by (drop l.number-index l.steps) (view l.place) ≡ path_by l.steps (view l.value)
