use Rattle.std.proofs.Common.{refl, ap}
use Rattle.std.specs.Prelude.{Err}
use Rattle.lsp_shape.proofs.Refusals.{passed}
use Rattle.lsp_offer_work.specs.Workspace.{workspace_folders_server_capabilities_row}
use Rattle.lsp_offer_work.proofs.workspace.WorkspaceFoldersServerCapabilitiesWire.from_value.Goals as goal

pub returns-in_err-supported-clause-unfit : goal.returns-in_err-supported-clause-unfit
unfolding workspace_folders_server_capabilities_row
returns-in_err-supported-clause-unfit c = passed c.from_residual.result c.in_err-supported.field-0.0 _ c.from_residual.ensures.1 (λ why is. c.in_err-supported.ensures.unfit why (ap Err is) workspace_folders_server_capabilities_row.shape refl (refl, refl))
