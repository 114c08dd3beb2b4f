use Rattle.std.proofs.Common.{refl, ap}
use Rattle.std.specs.Prelude.{Err}
use Rattle.lsp_shape.proofs.Refusals.{passed}
use Rattle.lsp_report.specs.Notebook.{did_open_notebook_document_params_row}
use Rattle.lsp_report.proofs.notebook.DidOpenNotebookDocumentParamsWire.from_value.Goals as goal

pub returns-in_err-notebook_document-clause-unfit : goal.returns-in_err-notebook_document-clause-unfit
unfolding did_open_notebook_document_params_row
returns-in_err-notebook_document-clause-unfit c = passed c.from_residual.result c.in_err-notebook_document.field-0.0 _ c.from_residual.ensures.1 (λ why is. c.in_err-notebook_document.ensures.unfit why (ap Err is) did_open_notebook_document_params_row.shape refl (refl, refl))
