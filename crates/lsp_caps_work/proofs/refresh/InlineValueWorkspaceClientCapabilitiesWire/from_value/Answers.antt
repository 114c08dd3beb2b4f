use Rattle.std.proofs.Common.{refl, ap}
use Rattle.std.specs.Prelude.{Err}
use Rattle.lsp_shape.proofs.Refusals.{passed}
use Rattle.lsp_caps_work.specs.Refresh.{inline_value_workspace_client_capabilities_row}
use Rattle.lsp_caps_work.proofs.refresh.InlineValueWorkspaceClientCapabilitiesWire.from_value.Goals as goal

pub returns-in_err-refresh_support-clause-unfit : goal.returns-in_err-refresh_support-clause-unfit
unfolding inline_value_workspace_client_capabilities_row
returns-in_err-refresh_support-clause-unfit c = passed c.from_residual.result c.in_err-refresh_support.field-0.0 _ c.from_residual.ensures.1 (λ why is. c.in_err-refresh_support.ensures.unfit why (ap Err is) inline_value_workspace_client_capabilities_row.shape refl refl)
