use Rattle.std.proofs.Common.{◌≡◌, true, take, map}
use Rattle.serde_json.specs.View.{view}
use Rattle.lsp_shape.specs.Plain.{parts_of}
use Rattle.lsp_shape.specs.Write.{write}
use Rattle.lsp_shape.specs.Values.{is_of, every}
use Rattle.lsp_shape.proofs.std_types.VecWire.to_value.Given as goal

abbrev pub invariant-loop-x : goal.invariant-loop-x
invariant-loop-x g l =
    (map view l.items.items ≡ map (λ x. write g.T.Wire.shape (g.T.Wire.shown x)) (take l.x-index l.x-items))
    × (every (is_of g.T.Wire.shape) (parts_of (map g.T.Wire.shown (take l.x-index l.x-items))) ≡ true)
