use Rattle.std.proofs.Common.{refl, ap}
use Rattle.std.specs.Prelude.{Err}
use Rattle.lsp_shape.proofs.Refusals.{passed}
use Rattle.lsp_report.specs.Workspace.{previous_result_id_row}
use Rattle.lsp_report.proofs.workspace.PreviousResultIdWire.from_value.Goals as goal

pub returns-in_err-uri-clause-unfit : goal.returns-in_err-uri-clause-unfit
unfolding previous_result_id_row
returns-in_err-uri-clause-unfit c = passed c.from_residual.result c.in_err-uri.field-0.0 _ c.from_residual.ensures.1 (λ why is. c.in_err-uri.ensures.unfit why (ap Err is) previous_result_id_row.shape refl (refl, refl))
