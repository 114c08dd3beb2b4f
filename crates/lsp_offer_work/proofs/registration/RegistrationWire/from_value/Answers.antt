use Rattle.std.proofs.Common.{refl, ap}
use Rattle.std.specs.Prelude.{Err}
use Rattle.lsp_shape.proofs.Refusals.{passed}
use Rattle.lsp_offer_work.specs.Registration.{registration_row}
use Rattle.lsp_offer_work.proofs.registration.RegistrationWire.from_value.Goals as goal

pub returns-in_err-id-clause-unfit : goal.returns-in_err-id-clause-unfit
unfolding registration_row
returns-in_err-id-clause-unfit c = passed c.from_residual.result c.in_err-id.field-0.0 _ c.from_residual.ensures.1 (λ why is. c.in_err-id.ensures.unfit why (ap Err is) registration_row.shape refl (refl, refl, refl))
