use Rattle.std.proofs.Common.{refl, ap}
use Rattle.std.specs.Prelude.{Err}
use Rattle.lsp_shape.proofs.Refusals.{passed}
use Rattle.lsp_base.specs.Diagnostic.{diagnostic_related_information_row}
use Rattle.lsp_base.proofs.diagnostic.DiagnosticRelatedInformationWire.from_value.Goals as goal

pub returns-in_err-location-clause-unfit : goal.returns-in_err-location-clause-unfit
unfolding diagnostic_related_information_row
returns-in_err-location-clause-unfit c = passed c.from_residual.result c.in_err-location.field-0.0 _ c.from_residual.ensures.1 (λ why is. c.in_err-location.ensures.unfit why (ap Err is) diagnostic_related_information_row.shape refl (refl, refl))
