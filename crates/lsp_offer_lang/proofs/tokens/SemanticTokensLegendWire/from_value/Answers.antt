use Rattle.std.proofs.Common.{refl, ap}
use Rattle.std.specs.Prelude.{Err}
use Rattle.lsp_shape.proofs.Refusals.{passed}
use Rattle.lsp_offer_lang.specs.Tokens.{semantic_tokens_legend_row}
use Rattle.lsp_offer_lang.proofs.tokens.SemanticTokensLegendWire.from_value.Goals as goal

pub returns-in_err-token_types-clause-unfit : goal.returns-in_err-token_types-clause-unfit
unfolding semantic_tokens_legend_row
returns-in_err-token_types-clause-unfit c = passed c.from_residual.result c.in_err-token_types.field-0.0 _ c.from_residual.ensures.1 (λ why is. c.in_err-token_types.ensures.unfit why (ap Err is) semantic_tokens_legend_row.shape refl (refl, refl))
