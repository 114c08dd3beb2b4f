use Rattle.std.proofs.Common.{refl, ap}
use Rattle.std.specs.Prelude.{Err}
use Rattle.lsp_shape.proofs.Refusals.{passed}
use Rattle.lsp_offer_work.specs.Notebook.{notebook_document_sync_options_row}
use Rattle.lsp_offer_work.proofs.notebook.NotebookDocumentSyncOptionsWire.from_value.Goals as goal

pub returns-in_err-notebook_selector-clause-unfit : goal.returns-in_err-notebook_selector-clause-unfit
unfolding notebook_document_sync_options_row
returns-in_err-notebook_selector-clause-unfit c = passed c.from_residual.result c.in_err-notebook_selector.field-0.0 _ c.from_residual.ensures.1 (λ why is. c.in_err-notebook_selector.ensures.unfit why (ap Err is) notebook_document_sync_options_row.shape refl (refl, refl))
