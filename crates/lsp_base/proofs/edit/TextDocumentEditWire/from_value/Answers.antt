use Rattle.std.proofs.Common.{refl, ap}
use Rattle.std.specs.Prelude.{Err}
use Rattle.lsp_shape.proofs.Refusals.{passed}
use Rattle.lsp_base.specs.Edit.{text_document_edit_row}
use Rattle.lsp_base.proofs.edit.TextDocumentEditWire.from_value.Goals as goal

pub returns-in_err-text_document-clause-unfit : goal.returns-in_err-text_document-clause-unfit
unfolding text_document_edit_row
returns-in_err-text_document-clause-unfit c = passed c.from_residual.result c.in_err-text_document.field-0.0 _ c.from_residual.ensures.1 (λ why is. c.in_err-text_document.ensures.unfit why (ap Err is) text_document_edit_row.shape refl (refl, refl))
