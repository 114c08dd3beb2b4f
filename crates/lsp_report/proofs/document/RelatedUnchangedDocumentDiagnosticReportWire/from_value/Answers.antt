use Rattle.std.proofs.Common.{refl, ap, inl}
use Rattle.std.specs.Prelude.{Err}
use Rattle.lsp_shape.proofs.Refusals.{passed}
use Rattle.lsp_report.specs.Document.{related_unchanged_document_diagnostic_report_row}
use Rattle.lsp_report.specs.Document.{unchanged_document_diagnostic_report_row}
use Rattle.lsp_report.proofs.document.RelatedUnchangedDocumentDiagnosticReportWire.from_value.Goals as goal

pub returns-in_err-related_documents-clause-unfit : goal.returns-in_err-related_documents-clause-unfit
unfolding related_unchanged_document_diagnostic_report_row unchanged_document_diagnostic_report_row
returns-in_err-related_documents-clause-unfit c = passed c.from_residual.result c.in_err-related_documents.field-0.0 _ c.from_residual.ensures.1 (λ why is. c.in_err-related_documents.ensures.unfit why (ap Err is) related_unchanged_document_diagnostic_report_row.shape refl (refl, inl refl))
