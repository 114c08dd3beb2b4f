use Rattle.std.proofs.Common.{refl, ap}
use Rattle.std.specs.Prelude.{Err}
use Rattle.lsp_shape.proofs.Refusals.{passed}
use Rattle.lsp_report.specs.Workspace.{workspace_diagnostic_report_partial_result_row}
use Rattle.lsp_report.proofs.workspace.WorkspaceDiagnosticReportPartialResultWire.from_value.Goals as goal

pub returns-in_err-items-clause-unfit : goal.returns-in_err-items-clause-unfit
unfolding workspace_diagnostic_report_partial_result_row
returns-in_err-items-clause-unfit c = passed c.from_residual.result c.in_err-items.field-0.0 _ c.from_residual.ensures.1 (λ why is. c.in_err-items.ensures.unfit why (ap Err is) workspace_diagnostic_report_partial_result_row.shape refl refl)
