use Rattle.std.proofs.Common.{refl, ap}
use Rattle.std.specs.Prelude.{Err}
use Rattle.lsp_shape.proofs.Refusals.{passed}
use Rattle.lsp_caps_text.specs.SignatureHelp.{signature_information_settings_row}
use Rattle.lsp_caps_text.proofs.signature_help.SignatureInformationSettingsWire.from_value.Goals as goal

pub returns-in_err-documentation_format-clause-unfit : goal.returns-in_err-documentation_format-clause-unfit
unfolding signature_information_settings_row
returns-in_err-documentation_format-clause-unfit c = passed c.from_residual.result c.in_err-documentation_format.field-0.0 _ c.from_residual.ensures.1 (λ why is. c.in_err-documentation_format.ensures.unfit why (ap Err is) signature_information_settings_row.shape refl (refl, refl, refl))
