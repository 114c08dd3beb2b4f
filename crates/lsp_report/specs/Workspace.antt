-- Rows: reports on the workspace.
use Rattle.lsp_shape.specs.Plain.{Plain, choice}
use Rattle.lsp_shape.specs.Row.{Row, fields, flat, i64, list, nullable, required, string, tag, tagged, union, variant, ◌&◌, ◌or◌}
use Rattle.lsp_uri.specs.Uri.{uri_row}
use Rattle.lsp_base.specs.Progress.{partial_result_params_row, work_done_progress_params_row}
use Rattle.lsp_report.specs.Document.{full_document_diagnostic_report_row, unchanged_document_diagnostic_report_row}
use Rattle.lsp_report.specs.declared.workspace.PreviousResultId.{PreviousResultId}
use Rattle.lsp_report.specs.declared.workspace.WorkspaceDiagnosticParams.{WorkspaceDiagnosticParams}
use Rattle.lsp_report.specs.declared.workspace.WorkspaceDiagnosticReport.{WorkspaceDiagnosticReport}
use Rattle.lsp_report.specs.declared.workspace.WorkspaceDiagnosticReportPartialResult.{WorkspaceDiagnosticReportPartialResult}
use Rattle.lsp_report.specs.declared.workspace.WorkspaceDiagnosticReportResult.{WorkspaceDiagnosticReportResult}
use Rattle.lsp_report.specs.declared.workspace.WorkspaceDiagnosticReportResult.TheVariants as workspace_diagnostic_report_result
use Rattle.lsp_report.specs.declared.workspace.WorkspaceDocumentDiagnosticReport.{WorkspaceDocumentDiagnosticReport}
use Rattle.lsp_report.specs.declared.workspace.WorkspaceDocumentDiagnosticReport.TheVariants as workspace_document_diagnostic_report
use Rattle.lsp_report.specs.declared.workspace.WorkspaceFullDocumentDiagnosticReport.{WorkspaceFullDocumentDiagnosticReport}
use Rattle.lsp_report.specs.declared.workspace.WorkspaceUnchangedDocumentDiagnosticReport.{WorkspaceUnchangedDocumentDiagnosticReport}

unfoldable pub previous_result_id_row : Row PreviousResultId
previous_result_id_row = fields (
    required "uri" uri_row (λ x. x.uri) &
    required "value" string (λ x. x.value))

unfoldable pub workspace_diagnostic_params_row : Row WorkspaceDiagnosticParams
workspace_diagnostic_params_row = fields (
    nullable "identifier" string (λ x. x.identifier) &
    required "previousResultIds" (list previous_result_id_row) (λ x. x.previous_result_ids) &
    flat work_done_progress_params_row (λ x. x.work_done_progress_params) &
    flat partial_result_params_row (λ x. x.partial_result_params))

unfoldable pub workspace_full_document_diagnostic_report_row : Row WorkspaceFullDocumentDiagnosticReport
workspace_full_document_diagnostic_report_row = fields (
    required "uri" uri_row (λ x. x.uri) &
    nullable "version" i64 (λ x. x.version) &
    flat full_document_diagnostic_report_row (λ x. x.full_document_diagnostic_report))

unfoldable pub workspace_unchanged_document_diagnostic_report_row : Row WorkspaceUnchangedDocumentDiagnosticReport
workspace_unchanged_document_diagnostic_report_row = fields (
    required "uri" uri_row (λ x. x.uri) &
    nullable "version" i64 (λ x. x.version) &
    flat unchanged_document_diagnostic_report_row (λ x. x.unchanged_document_diagnostic_report))

abbrev pub show_workspace_document_diagnostic_report : WorkspaceDocumentDiagnosticReport → Plain
show_workspace_document_diagnostic_report (workspace_document_diagnostic_report.Full x) = choice 0 (workspace_full_document_diagnostic_report_row.shown x)
show_workspace_document_diagnostic_report (workspace_document_diagnostic_report.Unchanged x) = choice 1 (workspace_unchanged_document_diagnostic_report_row.shown x)

unfoldable pub workspace_document_diagnostic_report_row : Row WorkspaceDocumentDiagnosticReport
workspace_document_diagnostic_report_row = tagged "kind" (
    tag "full" workspace_full_document_diagnostic_report_row or
    tag "unchanged" workspace_unchanged_document_diagnostic_report_row) show_workspace_document_diagnostic_report

unfoldable pub workspace_diagnostic_report_row : Row WorkspaceDiagnosticReport
workspace_diagnostic_report_row = fields (
    required "items" (list workspace_document_diagnostic_report_row) (λ x. x.items))

unfoldable pub workspace_diagnostic_report_partial_result_row : Row WorkspaceDiagnosticReportPartialResult
workspace_diagnostic_report_partial_result_row = fields (
    required "items" (list workspace_document_diagnostic_report_row) (λ x. x.items))

abbrev pub show_workspace_diagnostic_report_result : WorkspaceDiagnosticReportResult → Plain
show_workspace_diagnostic_report_result (workspace_diagnostic_report_result.Report x) = choice 0 (workspace_diagnostic_report_row.shown x)
show_workspace_diagnostic_report_result (workspace_diagnostic_report_result.Partial x) = choice 1 (workspace_diagnostic_report_partial_result_row.shown x)

unfoldable pub workspace_diagnostic_report_result_row : Row WorkspaceDiagnosticReportResult
workspace_diagnostic_report_result_row = union (
    variant workspace_diagnostic_report_row or
    variant workspace_diagnostic_report_partial_result_row) show_workspace_diagnostic_report_result
