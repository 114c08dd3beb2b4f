use Rattle.std.proofs.Common.{refl, ap}
use Rattle.std.specs.Prelude.{Err}
use Rattle.lsp_shape.proofs.Refusals.{passed}
use Rattle.lsp_names.specs.SemanticTokens.{semantic_tokens_full_options_delta_row}
use Rattle.lsp_names.proofs.semantic_tokens.SemanticTokensFullOptionsDeltaWire.from_value.Goals as goal

pub returns-in_err-delta-clause-unfit : goal.returns-in_err-delta-clause-unfit
unfolding semantic_tokens_full_options_delta_row
returns-in_err-delta-clause-unfit c = passed c.from_residual.result c.in_err-delta.field-0.0 _ c.from_residual.ensures.1 (λ why is. c.in_err-delta.ensures.unfit why (ap Err is) semantic_tokens_full_options_delta_row.shape refl refl)
