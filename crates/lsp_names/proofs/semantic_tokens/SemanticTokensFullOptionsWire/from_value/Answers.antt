use Rattle.std.proofs.Common.{refl, ap, rules}
use Rattle.std.specs.Prelude.{Err}
use Rattle.serde_json.specs.View.{view}
use Rattle.lsp_shape.proofs.Told.{form_told}
use Rattle.lsp_names.specs.SemanticTokens.{semantic_tokens_full_options_row}
use Rattle.lsp_names.specs.SemanticTokens.{semantic_tokens_full_options_delta_row}
use Rattle.lsp_names.proofs.semantic_tokens.SemanticTokensFullOptionsWire.from_value.Goals as goal

pub returns-in_err-x-clause-unfit : goal.returns-in_err-x-clause-unfit
unfolding semantic_tokens_full_options_row semantic_tokens_full_options_delta_row
returns-in_err-x-clause-unfit c =
    form_told c.from_residual-in_err-x.result c.in_err-x.field-0.0 semantic_tokens_full_options_row.shape (view c.args.value.now) refl c.from_residual-in_err-x.ensures.1 (λ why is. c.in_err-x.ensures.refuses why (ap Err is))
    (λ why is. let none = c.in_err-x.ensures.unfit why (ap Err is) in search rules)
