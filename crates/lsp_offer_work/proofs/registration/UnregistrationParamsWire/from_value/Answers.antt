use Rattle.std.proofs.Common.{refl, ap}
use Rattle.std.specs.Prelude.{Err}
use Rattle.lsp_shape.proofs.Refusals.{passed}
use Rattle.lsp_offer_work.specs.Registration.{unregistration_params_row}
use Rattle.lsp_offer_work.proofs.registration.UnregistrationParamsWire.from_value.Goals as goal

pub returns-in_err-unregisterations-clause-unfit : goal.returns-in_err-unregisterations-clause-unfit
unfolding unregistration_params_row
returns-in_err-unregisterations-clause-unfit c = passed c.from_residual.result c.in_err-unregisterations.field-0.0 _ c.from_residual.ensures.1 (λ why is. c.in_err-unregisterations.ensures.unfit why (ap Err is) unregistration_params_row.shape refl refl)
