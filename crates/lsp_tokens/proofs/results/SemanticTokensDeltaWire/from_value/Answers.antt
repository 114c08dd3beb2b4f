use Rattle.std.proofs.Common.{refl, ap}
use Rattle.std.specs.Prelude.{Err}
use Rattle.lsp_shape.proofs.Refusals.{passed}
use Rattle.lsp_tokens.specs.Results.{semantic_tokens_delta_row}
use Rattle.lsp_tokens.proofs.results.SemanticTokensDeltaWire.from_value.Goals as goal

pub returns-in_err-result_id-clause-unfit : goal.returns-in_err-result_id-clause-unfit
unfolding semantic_tokens_delta_row
returns-in_err-result_id-clause-unfit c = passed c.from_residual.result c.in_err-result_id.field-0.0 _ c.from_residual.ensures.1 (λ why is. c.in_err-result_id.ensures.unfit why (ap Err is) semantic_tokens_delta_row.shape refl (refl, refl))
