-- Rows: reports on a document.
use Rattle.lsp_shape.specs.Plain.{Plain, choice}
use Rattle.lsp_shape.specs.Row.{Row, fields, flat, list, map_of, nullable, omitted, required, string, tag, tagged, union, variant, ◌&◌, ◌or◌}
use Rattle.lsp_uri.specs.Uri.{uris}
use Rattle.lsp_base.specs.Diagnostic.{diagnostic_row}
use Rattle.lsp_base.specs.Document.{text_document_identifier_row}
use Rattle.lsp_base.specs.Progress.{partial_result_params_row, work_done_progress_params_row}
use Rattle.lsp_report.specs.declared.document.DocumentDiagnosticParams.{DocumentDiagnosticParams}
use Rattle.lsp_report.specs.declared.document.DocumentDiagnosticReport.{DocumentDiagnosticReport}
use Rattle.lsp_report.specs.declared.document.DocumentDiagnosticReport.TheVariants as document_diagnostic_report
use Rattle.lsp_report.specs.declared.document.DocumentDiagnosticReportKind.{DocumentDiagnosticReportKind}
use Rattle.lsp_report.specs.declared.document.DocumentDiagnosticReportKind.TheVariants as document_diagnostic_report_kind
use Rattle.lsp_report.specs.declared.document.DocumentDiagnosticReportPartialResult.{DocumentDiagnosticReportPartialResult}
use Rattle.lsp_report.specs.declared.document.DocumentDiagnosticReportResult.{DocumentDiagnosticReportResult}
use Rattle.lsp_report.specs.declared.document.DocumentDiagnosticReportResult.TheVariants as document_diagnostic_report_result
use Rattle.lsp_report.specs.declared.document.FullDocumentDiagnosticReport.{FullDocumentDiagnosticReport}
use Rattle.lsp_report.specs.declared.document.RelatedFullDocumentDiagnosticReport.{RelatedFullDocumentDiagnosticReport}
use Rattle.lsp_report.specs.declared.document.RelatedUnchangedDocumentDiagnosticReport.{RelatedUnchangedDocumentDiagnosticReport}
use Rattle.lsp_report.specs.declared.document.UnchangedDocumentDiagnosticReport.{UnchangedDocumentDiagnosticReport}

unfoldable pub document_diagnostic_params_row : Row DocumentDiagnosticParams
document_diagnostic_params_row = fields (
    required "textDocument" text_document_identifier_row (λ x. x.text_document) &
    nullable "identifier" string (λ x. x.identifier) &
    nullable "previousResultId" string (λ x. x.previous_result_id) &
    flat work_done_progress_params_row (λ x. x.work_done_progress_params) &
    flat partial_result_params_row (λ x. x.partial_result_params))

unfoldable pub full_document_diagnostic_report_row : Row FullDocumentDiagnosticReport
full_document_diagnostic_report_row = fields (
    omitted "resultId" string (λ x. x.result_id) &
    required "items" (list diagnostic_row) (λ x. x.items))

unfoldable pub unchanged_document_diagnostic_report_row : Row UnchangedDocumentDiagnosticReport
unchanged_document_diagnostic_report_row = fields (
    required "resultId" string (λ x. x.result_id))

abbrev pub show_document_diagnostic_report_kind : DocumentDiagnosticReportKind → Plain
show_document_diagnostic_report_kind (document_diagnostic_report_kind.Full x) = choice 0 (full_document_diagnostic_report_row.shown x)
show_document_diagnostic_report_kind (document_diagnostic_report_kind.Unchanged x) = choice 1 (unchanged_document_diagnostic_report_row.shown x)

unfoldable pub document_diagnostic_report_kind_row : Row DocumentDiagnosticReportKind
document_diagnostic_report_kind_row = tagged "kind" (
    tag "full" full_document_diagnostic_report_row or
    tag "unchanged" unchanged_document_diagnostic_report_row) show_document_diagnostic_report_kind

unfoldable pub related_full_document_diagnostic_report_row : Row RelatedFullDocumentDiagnosticReport
related_full_document_diagnostic_report_row = fields (
    omitted "relatedDocuments" (map_of uris document_diagnostic_report_kind_row) (λ x. x.related_documents) &
    flat full_document_diagnostic_report_row (λ x. x.full_document_diagnostic_report))

unfoldable pub related_unchanged_document_diagnostic_report_row : Row RelatedUnchangedDocumentDiagnosticReport
related_unchanged_document_diagnostic_report_row = fields (
    omitted "relatedDocuments" (map_of uris document_diagnostic_report_kind_row) (λ x. x.related_documents) &
    flat unchanged_document_diagnostic_report_row (λ x. x.unchanged_document_diagnostic_report))

abbrev pub show_document_diagnostic_report : DocumentDiagnosticReport → Plain
show_document_diagnostic_report (document_diagnostic_report.Full x) = choice 0 (related_full_document_diagnostic_report_row.shown x)
show_document_diagnostic_report (document_diagnostic_report.Unchanged x) = choice 1 (related_unchanged_document_diagnostic_report_row.shown x)

unfoldable pub document_diagnostic_report_row : Row DocumentDiagnosticReport
document_diagnostic_report_row = tagged "kind" (
    tag "full" related_full_document_diagnostic_report_row or
    tag "unchanged" related_unchanged_document_diagnostic_report_row) show_document_diagnostic_report

unfoldable pub document_diagnostic_report_partial_result_row : Row DocumentDiagnosticReportPartialResult
document_diagnostic_report_partial_result_row = fields (
    omitted "relatedDocuments" (map_of uris document_diagnostic_report_kind_row) (λ x. x.related_documents))

abbrev pub show_document_diagnostic_report_result : DocumentDiagnosticReportResult → Plain
show_document_diagnostic_report_result (document_diagnostic_report_result.Report x) = choice 0 (document_diagnostic_report_row.shown x)
show_document_diagnostic_report_result (document_diagnostic_report_result.Partial x) = choice 1 (document_diagnostic_report_partial_result_row.shown x)

unfoldable pub document_diagnostic_report_result_row : Row DocumentDiagnosticReportResult
document_diagnostic_report_result_row = union (
    variant document_diagnostic_report_row or
    variant document_diagnostic_report_partial_result_row) show_document_diagnostic_report_result
