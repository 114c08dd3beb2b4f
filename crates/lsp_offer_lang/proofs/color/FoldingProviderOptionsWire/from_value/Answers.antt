use Rattle.std.proofs.Common.{refl, ap, inl, inr}
use Rattle.std.specs.Prelude.{Err}
use Rattle.lsp_shape.proofs.Refusals.{passed, passed_in}
use Rattle.lsp_offer_lang.specs.Color.{folding_provider_options_row}
use Rattle.lsp_offer_lang.proofs.color.FoldingProviderOptionsWire.from_value.Goals as goal

pub returns-in_err-new-clause-unfit : goal.returns-in_err-new-clause-unfit
unfolding folding_provider_options_row
returns-in_err-new-clause-unfit c = passed c.from_residual.result c.in_err-new.field-0.0 _ c.from_residual.ensures.1 (λ why is. c.in_err-new.ensures.unfit why (ap Err is) folding_provider_options_row.shape refl)
