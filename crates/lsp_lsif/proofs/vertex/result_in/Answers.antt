use Rattle.std.proofs.Common.{refl, ap, sym, subst}
use Rattle.std.specs.Prelude.{Err}
use Rattle.serde_json.specs.Data.{Data}
use Rattle.lsp_shape.specs.Why.{Refuses}
use Rattle.lsp_shape.proofs.Refusals.{passed}
use Rattle.lsp_lsif.specs.Vertex.{result_alone}
use Rattle.lsp_lsif.proofs.vertex.result_in.Goals as goal

pub returns-in_err-object-clause-unfit : goal.returns-in_err-object-clause-unfit
returns-in_err-object-clause-unfit g c =
    passed c.from_residual.result c.in_err-object.field-0.0 _ c.from_residual.ensures.1 (λ why is. c.in_err-object.ensures.unfit why (ap Err is) (result_alone g.T.Wire.shape) refl)

pub returns-clause-unfit : goal.returns-clause-unfit
returns-clause-unfit g c = λ why is.
    subst (λ (d : Data). Refuses (result_alone g.T.Wire.shape) d why) (sym c.in_ok-object.ensures.ok) (c.field.ensures.unfit why is (result_alone g.T.Wire.shape) refl)
