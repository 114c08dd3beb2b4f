use Rattle.std.proofs.Common.{refl, ap}
use Rattle.std.specs.Prelude.{Err}
use Rattle.lsp_shape.proofs.Refusals.{passed}
use Rattle.lsp_report.specs.Document.{document_diagnostic_report_partial_result_row}
use Rattle.lsp_report.proofs.document.DocumentDiagnosticReportPartialResultWire.from_value.Goals as goal

pub returns-in_err-related_documents-clause-unfit : goal.returns-in_err-related_documents-clause-unfit
unfolding document_diagnostic_report_partial_result_row
returns-in_err-related_documents-clause-unfit c = passed c.from_residual.result c.in_err-related_documents.field-0.0 _ c.from_residual.ensures.1 (λ why is. c.in_err-related_documents.ensures.unfit why (ap Err is) document_diagnostic_report_partial_result_row.shape refl refl)
