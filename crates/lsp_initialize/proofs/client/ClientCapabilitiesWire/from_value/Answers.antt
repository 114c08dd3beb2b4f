use Rattle.std.proofs.Common.{refl, ap}
use Rattle.std.specs.Prelude.{Err}
use Rattle.lsp_shape.proofs.Refusals.{passed}
use Rattle.lsp_initialize.specs.Client.{client_capabilities_row}
use Rattle.lsp_initialize.proofs.client.ClientCapabilitiesWire.from_value.Goals as goal

pub returns-in_err-notebook_document-clause-unfit : goal.returns-in_err-notebook_document-clause-unfit
unfolding client_capabilities_row
returns-in_err-notebook_document-clause-unfit c = passed c.from_residual.result c.in_err-notebook_document.field-0.0 _ c.from_residual.ensures.1 (λ why is. c.in_err-notebook_document.ensures.unfit why (ap Err is) client_capabilities_row.shape refl (refl, refl, refl, refl, refl, refl))
