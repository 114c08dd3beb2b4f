use Rattle.std.proofs.Common.{refl, ap}
use Rattle.std.specs.Prelude.{Err}
use Rattle.lsp_shape.proofs.Refusals.{passed}
use Rattle.lsp_offer_text.specs.Formatting.{document_on_type_formatting_registration_options_row}
use Rattle.lsp_offer_text.proofs.formatting.DocumentOnTypeFormattingRegistrationOptionsWire.from_value.Goals as goal

pub returns-in_err-document_selector-clause-unfit : goal.returns-in_err-document_selector-clause-unfit
unfolding document_on_type_formatting_registration_options_row
returns-in_err-document_selector-clause-unfit c = passed c.from_residual.result c.in_err-document_selector.field-0.0 _ c.from_residual.ensures.1 (λ why is. c.in_err-document_selector.ensures.unfit why (ap Err is) document_on_type_formatting_registration_options_row.shape refl (refl, refl, refl))
