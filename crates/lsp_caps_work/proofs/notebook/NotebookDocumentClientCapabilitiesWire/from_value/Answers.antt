use Rattle.std.proofs.Common.{refl, ap}
use Rattle.std.specs.Prelude.{Err}
use Rattle.lsp_shape.proofs.Refusals.{passed}
use Rattle.lsp_caps_work.specs.Notebook.{notebook_document_client_capabilities_row}
use Rattle.lsp_caps_work.proofs.notebook.NotebookDocumentClientCapabilitiesWire.from_value.Goals as goal

pub returns-in_err-synchronization-clause-unfit : goal.returns-in_err-synchronization-clause-unfit
unfolding notebook_document_client_capabilities_row
returns-in_err-synchronization-clause-unfit c = passed c.from_residual.result c.in_err-synchronization.field-0.0 _ c.from_residual.ensures.1 (λ why is. c.in_err-synchronization.ensures.unfit why (ap Err is) notebook_document_client_capabilities_row.shape refl refl)
