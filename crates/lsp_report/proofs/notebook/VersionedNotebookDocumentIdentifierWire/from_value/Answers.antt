use Rattle.std.proofs.Common.{refl, ap}
use Rattle.std.specs.Prelude.{Err}
use Rattle.lsp_shape.proofs.Refusals.{passed}
use Rattle.lsp_report.specs.Notebook.{versioned_notebook_document_identifier_row}
use Rattle.lsp_report.proofs.notebook.VersionedNotebookDocumentIdentifierWire.from_value.Goals as goal

pub returns-in_err-version-clause-unfit : goal.returns-in_err-version-clause-unfit
unfolding versioned_notebook_document_identifier_row
returns-in_err-version-clause-unfit c = passed c.from_residual.result c.in_err-version.field-0.0 _ c.from_residual.ensures.1 (λ why is. c.in_err-version.ensures.unfit why (ap Err is) versioned_notebook_document_identifier_row.shape refl (refl, refl))
