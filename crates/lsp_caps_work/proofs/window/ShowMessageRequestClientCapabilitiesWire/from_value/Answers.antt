use Rattle.std.proofs.Common.{refl, ap}
use Rattle.std.specs.Prelude.{Err}
use Rattle.lsp_shape.proofs.Refusals.{passed}
use Rattle.lsp_caps_work.specs.Window.{show_message_request_client_capabilities_row}
use Rattle.lsp_caps_work.proofs.window.ShowMessageRequestClientCapabilitiesWire.from_value.Goals as goal

pub returns-in_err-message_action_item-clause-unfit : goal.returns-in_err-message_action_item-clause-unfit
unfolding show_message_request_client_capabilities_row
returns-in_err-message_action_item-clause-unfit c = passed c.from_residual.result c.in_err-message_action_item.field-0.0 _ c.from_residual.ensures.1 (λ why is. c.in_err-message_action_item.ensures.unfit why (ap Err is) show_message_request_client_capabilities_row.shape refl refl)
