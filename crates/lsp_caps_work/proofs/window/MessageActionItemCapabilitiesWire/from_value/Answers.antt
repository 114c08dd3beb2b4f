use Rattle.std.proofs.Common.{refl, ap}
use Rattle.std.specs.Prelude.{Err}
use Rattle.lsp_shape.proofs.Refusals.{passed}
use Rattle.lsp_caps_work.specs.Window.{message_action_item_capabilities_row}
use Rattle.lsp_caps_work.proofs.window.MessageActionItemCapabilitiesWire.from_value.Goals as goal

pub returns-in_err-additional_properties_support-clause-unfit : goal.returns-in_err-additional_properties_support-clause-unfit
unfolding message_action_item_capabilities_row
returns-in_err-additional_properties_support-clause-unfit c = passed c.from_residual.result c.in_err-additional_properties_support.field-0.0 _ c.from_residual.ensures.1 (λ why is. c.in_err-additional_properties_support.ensures.unfit why (ap Err is) message_action_item_capabilities_row.shape refl refl)
