-- Options of tokens.
use Rattle.lsp_shape.specs.Plain.{Plain, choice}
use Rattle.lsp_shape.specs.Row.{Row, fields, omitted, truth, union, variant, ◌or◌}
use Rattle.lsp_names.specs.declared.semantic_tokens.SemanticTokensFullOptions.{SemanticTokensFullOptions}
use Rattle.lsp_names.specs.declared.semantic_tokens.SemanticTokensFullOptions.TheVariants as semantic_tokens_full_options
use Rattle.lsp_names.specs.declared.semantic_tokens.SemanticTokensFullOptionsDelta.{SemanticTokensFullOptionsDelta}

unfoldable pub semantic_tokens_full_options_delta_row : Row SemanticTokensFullOptionsDelta
semantic_tokens_full_options_delta_row = fields (
    omitted "delta" truth (λ x. x.delta))

abbrev pub show_semantic_tokens_full_options : SemanticTokensFullOptions → Plain
show_semantic_tokens_full_options (semantic_tokens_full_options.Bool x) = choice 0 (truth.shown x)
show_semantic_tokens_full_options (semantic_tokens_full_options.Delta delta) = choice 1 (semantic_tokens_full_options_delta_row.shown (record { delta = delta }))

unfoldable pub semantic_tokens_full_options_row : Row SemanticTokensFullOptions
semantic_tokens_full_options_row = union (variant truth or variant semantic_tokens_full_options_delta_row) show_semantic_tokens_full_options
