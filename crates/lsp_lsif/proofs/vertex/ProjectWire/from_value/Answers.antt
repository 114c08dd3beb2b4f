use Rattle.std.proofs.Common.{refl, ap}
use Rattle.std.specs.Prelude.{Err}
use Rattle.lsp_shape.proofs.Refusals.{passed}
use Rattle.lsp_lsif.specs.Vertex.{project_row}
use Rattle.lsp_lsif.proofs.vertex.ProjectWire.from_value.Goals as goal

pub returns-in_err-resource-clause-unfit : goal.returns-in_err-resource-clause-unfit
unfolding project_row
returns-in_err-resource-clause-unfit c = passed c.from_residual.result c.in_err-resource.field-0.0 _ c.from_residual.ensures.1 (λ why is. c.in_err-resource.ensures.unfit why (ap Err is) project_row.shape refl (refl, refl, refl))
