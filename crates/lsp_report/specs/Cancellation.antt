-- Rows: what a server says when it cancels a request for diagnostics.
use Rattle.lsp_shape.specs.Row.{Row, fields, required, truth}
use Rattle.lsp_report.specs.declared.cancellation.DiagnosticServerCancellationData.{DiagnosticServerCancellationData}

unfoldable pub diagnostic_server_cancellation_data_row : Row DiagnosticServerCancellationData
diagnostic_server_cancellation_data_row = fields (
    required "retriggerRequest" truth (λ x. x.retrigger_request))
