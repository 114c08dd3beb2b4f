use Rattle.std.proofs.Common.{refl, ap}
use Rattle.std.specs.Prelude.{Err}
use Rattle.lsp_shape.proofs.Refusals.{passed}
use Rattle.lsp_report.specs.Notebook.{notebook_document_change_text_content_row}
use Rattle.lsp_report.proofs.notebook.NotebookDocumentChangeTextContentWire.from_value.Goals as goal

pub returns-in_err-document-clause-unfit : goal.returns-in_err-document-clause-unfit
unfolding notebook_document_change_text_content_row
returns-in_err-document-clause-unfit c = passed c.from_residual.result c.in_err-document.field-0.0 _ c.from_residual.ensures.1 (λ why is. c.in_err-document.ensures.unfit why (ap Err is) notebook_document_change_text_content_row.shape refl (refl, refl))
