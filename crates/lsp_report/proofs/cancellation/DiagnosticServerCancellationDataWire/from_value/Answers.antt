use Rattle.std.proofs.Common.{refl, ap}
use Rattle.std.specs.Prelude.{Err}
use Rattle.lsp_shape.proofs.Refusals.{passed}
use Rattle.lsp_report.specs.Cancellation.{diagnostic_server_cancellation_data_row}
use Rattle.lsp_report.proofs.cancellation.DiagnosticServerCancellationDataWire.from_value.Goals as goal

pub returns-in_err-retrigger_request-clause-unfit : goal.returns-in_err-retrigger_request-clause-unfit
unfolding diagnostic_server_cancellation_data_row
returns-in_err-retrigger_request-clause-unfit c = passed c.from_residual.result c.in_err-retrigger_request.field-0.0 _ c.from_residual.ensures.1 (λ why is. c.in_err-retrigger_request.ensures.unfit why (ap Err is) diagnostic_server_cancellation_data_row.shape refl refl)
