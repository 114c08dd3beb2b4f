use Rattle.std.proofs.Common.{refl, ap}
use Rattle.std.specs.Prelude.{Err}
use Rattle.lsp_shape.proofs.Refusals.{passed}
use Rattle.lsp_caps_work.specs.Edit.{workspace_edit_client_capabilities_row}
use Rattle.lsp_caps_work.proofs.edit.WorkspaceEditClientCapabilitiesWire.from_value.Goals as goal

pub returns-in_err-document_changes-clause-unfit : goal.returns-in_err-document_changes-clause-unfit
unfolding workspace_edit_client_capabilities_row
returns-in_err-document_changes-clause-unfit c = passed c.from_residual.result c.in_err-document_changes.field-0.0 _ c.from_residual.ensures.1 (λ why is. c.in_err-document_changes.ensures.unfit why (ap Err is) workspace_edit_client_capabilities_row.shape refl (refl, refl, refl, refl, refl))
