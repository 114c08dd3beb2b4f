use Rattle.std.proofs.Common.{refl, ap}
use Rattle.std.specs.Prelude.{Err}
use Rattle.lsp_shape.proofs.Refusals.{passed}
use Rattle.lsp_caps_text.specs.SignatureHelp.{parameter_information_settings_row}
use Rattle.lsp_caps_text.proofs.signature_help.ParameterInformationSettingsWire.from_value.Goals as goal

pub returns-in_err-label_offset_support-clause-unfit : goal.returns-in_err-label_offset_support-clause-unfit
unfolding parameter_information_settings_row
returns-in_err-label_offset_support-clause-unfit c = passed c.from_residual.result c.in_err-label_offset_support.field-0.0 _ c.from_residual.ensures.1 (λ why is. c.in_err-label_offset_support.ensures.unfit why (ap Err is) parameter_information_settings_row.shape refl refl)
