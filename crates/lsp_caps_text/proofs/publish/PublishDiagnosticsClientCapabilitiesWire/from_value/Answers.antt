use Rattle.std.proofs.Common.{refl, ap}
use Rattle.std.specs.Prelude.{Err}
use Rattle.lsp_shape.proofs.Refusals.{passed}
use Rattle.lsp_caps_text.specs.Publish.{publish_diagnostics_client_capabilities_row}
use Rattle.lsp_caps_text.proofs.publish.PublishDiagnosticsClientCapabilitiesWire.from_value.Goals as goal

pub returns-in_err-related_information-clause-unfit : goal.returns-in_err-related_information-clause-unfit
unfolding publish_diagnostics_client_capabilities_row
returns-in_err-related_information-clause-unfit c = passed c.from_residual.result c.in_err-related_information.field-0.0 _ c.from_residual.ensures.1 (λ why is. c.in_err-related_information.ensures.unfit why (ap Err is) publish_diagnostics_client_capabilities_row.shape refl (refl, refl, refl, refl, refl))
