use Rattle.std.proofs.Common.{refl, ap}
use Rattle.std.specs.Prelude.{Err}
use Rattle.lsp_shape.proofs.Refusals.{passed}
use Rattle.lsp_names.specs.Markup.{language_string_row}
use Rattle.lsp_names.proofs.markup.LanguageStringWire.from_value.Goals as goal

pub returns-in_err-language-clause-unfit : goal.returns-in_err-language-clause-unfit
unfolding language_string_row
returns-in_err-language-clause-unfit c = passed c.from_residual.result c.in_err-language.field-0.0 _ c.from_residual.ensures.1 (λ why is. c.in_err-language.ensures.unfit why (ap Err is) language_string_row.shape refl (refl, refl))
