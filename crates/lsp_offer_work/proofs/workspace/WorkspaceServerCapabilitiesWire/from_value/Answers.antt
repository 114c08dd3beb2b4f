use Rattle.std.proofs.Common.{refl, ap}
use Rattle.std.specs.Prelude.{Err}
use Rattle.lsp_shape.proofs.Refusals.{passed}
use Rattle.lsp_offer_work.specs.Workspace.{workspace_server_capabilities_row}
use Rattle.lsp_offer_work.proofs.workspace.WorkspaceServerCapabilitiesWire.from_value.Goals as goal

pub returns-in_err-workspace_folders-clause-unfit : goal.returns-in_err-workspace_folders-clause-unfit
unfolding workspace_server_capabilities_row
returns-in_err-workspace_folders-clause-unfit c = passed c.from_residual.result c.in_err-workspace_folders.field-0.0 _ c.from_residual.ensures.1 (λ why is. c.in_err-workspace_folders.ensures.unfit why (ap Err is) workspace_server_capabilities_row.shape refl (refl, refl))
