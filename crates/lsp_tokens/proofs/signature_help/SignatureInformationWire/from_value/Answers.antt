use Rattle.std.proofs.Common.{refl, ap}
use Rattle.std.specs.Prelude.{Err}
use Rattle.lsp_shape.proofs.Refusals.{passed}
use Rattle.lsp_tokens.specs.SignatureHelp.{signature_information_row}
use Rattle.lsp_tokens.proofs.signature_help.SignatureInformationWire.from_value.Goals as goal

pub returns-in_err-label-clause-unfit : goal.returns-in_err-label-clause-unfit
unfolding signature_information_row
returns-in_err-label-clause-unfit c = passed c.from_residual.result c.in_err-label.field-0.0 _ c.from_residual.ensures.1 (λ why is. c.in_err-label.ensures.unfit why (ap Err is) signature_information_row.shape refl (refl, refl, refl, refl))
