use Rattle.std.proofs.Common.{refl, ap}
use Rattle.std.specs.Prelude.{Err}
use Rattle.lsp_shape.proofs.Refusals.{passed}
use Rattle.lsp_caps_work.specs.General.{stale_request_support_client_capabilities_row}
use Rattle.lsp_caps_work.proofs.general.StaleRequestSupportClientCapabilitiesWire.from_value.Goals as goal

pub returns-in_err-cancel-clause-unfit : goal.returns-in_err-cancel-clause-unfit
unfolding stale_request_support_client_capabilities_row
returns-in_err-cancel-clause-unfit c = passed c.from_residual.result c.in_err-cancel.field-0.0 _ c.from_residual.ensures.1 (λ why is. c.in_err-cancel.ensures.unfit why (ap Err is) stale_request_support_client_capabilities_row.shape refl (refl, refl))
