-- Rows: semantic tokens.
use Rattle.lsp_shape.specs.Plain.{Plain, choice}
use Rattle.lsp_shape.specs.Row.{Row, fields, flat, list, omitted, required, truth, union, variant, ◌&◌, ◌or◌}
use Rattle.lsp_names.specs.KindText.{text_kind_row}
use Rattle.lsp_names.specs.Progress.{work_done_progress_options_row}
use Rattle.lsp_names.specs.SemanticTokens.{semantic_tokens_full_options_row}
use Rattle.lsp_base.specs.Registration.{static_registration_options_row, text_document_registration_options_row}
use Rattle.lsp_offer_lang.specs.declared.tokens.SemanticTokensLegend.{SemanticTokensLegend}
use Rattle.lsp_offer_lang.specs.declared.tokens.SemanticTokensOptions.{SemanticTokensOptions}
use Rattle.lsp_offer_lang.specs.declared.tokens.SemanticTokensRegistrationOptions.{SemanticTokensRegistrationOptions}
use Rattle.lsp_offer_lang.specs.declared.tokens.SemanticTokensServerCapabilities.{SemanticTokensServerCapabilities}
use Rattle.lsp_offer_lang.specs.declared.tokens.SemanticTokensServerCapabilities.TheVariants as semantic_tokens_server_capabilities

unfoldable pub semantic_tokens_legend_row : Row SemanticTokensLegend
semantic_tokens_legend_row = fields (
    required "tokenTypes" (list text_kind_row) (λ x. x.token_types) &
    required "tokenModifiers" (list text_kind_row) (λ x. x.token_modifiers))

unfoldable pub semantic_tokens_options_row : Row SemanticTokensOptions
semantic_tokens_options_row = fields (
    flat work_done_progress_options_row (λ x. x.work_done_progress_options) &
    required "legend" semantic_tokens_legend_row (λ x. x.legend) &
    omitted "range" truth (λ x. x.range) &
    omitted "full" semantic_tokens_full_options_row (λ x. x.full))

unfoldable pub semantic_tokens_registration_options_row : Row SemanticTokensRegistrationOptions
semantic_tokens_registration_options_row = fields (
    flat text_document_registration_options_row (λ x. x.text_document_registration_options) &
    flat semantic_tokens_options_row (λ x. x.semantic_tokens_options) &
    flat static_registration_options_row (λ x. x.static_registration_options))

abbrev pub show_semantic_tokens_server_capabilities : SemanticTokensServerCapabilities → Plain
show_semantic_tokens_server_capabilities (semantic_tokens_server_capabilities.SemanticTokensOptions x) = choice 0 (semantic_tokens_options_row.shown x)
show_semantic_tokens_server_capabilities (semantic_tokens_server_capabilities.SemanticTokensRegistrationOptions x) = choice 1 (semantic_tokens_registration_options_row.shown x)

unfoldable pub semantic_tokens_server_capabilities_row : Row SemanticTokensServerCapabilities
semantic_tokens_server_capabilities_row = union (
    variant semantic_tokens_options_row or
    variant semantic_tokens_registration_options_row) show_semantic_tokens_server_capabilities
