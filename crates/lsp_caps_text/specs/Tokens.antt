-- Rows: semantic tokens.
use Rattle.lsp_shape.specs.Row.{Row, fields, list, omitted, required, truth, ◌&◌}
use Rattle.lsp_names.specs.KindText.{text_kind_row}
use Rattle.lsp_names.specs.SemanticTokens.{semantic_tokens_full_options_row}
use Rattle.lsp_caps_text.specs.declared.tokens.SemanticTokensClientCapabilities.{SemanticTokensClientCapabilities}
use Rattle.lsp_caps_text.specs.declared.tokens.SemanticTokensClientCapabilitiesRequests.{SemanticTokensClientCapabilitiesRequests}

unfoldable pub semantic_tokens_client_capabilities_requests_row : Row SemanticTokensClientCapabilitiesRequests
semantic_tokens_client_capabilities_requests_row = fields (
    omitted "range" truth (λ x. x.range) &
    omitted "full" semantic_tokens_full_options_row (λ x. x.full))

unfoldable pub semantic_tokens_client_capabilities_row : Row SemanticTokensClientCapabilities
semantic_tokens_client_capabilities_row = fields (
    omitted "dynamicRegistration" truth (λ x. x.dynamic_registration) &
    required "requests" semantic_tokens_client_capabilities_requests_row (λ x. x.requests) &
    required "tokenTypes" (list text_kind_row) (λ x. x.token_types) &
    required "tokenModifiers" (list text_kind_row) (λ x. x.token_modifiers) &
    required "formats" (list text_kind_row) (λ x. x.formats) &
    omitted "overlappingTokenSupport" truth (λ x. x.overlapping_token_support) &
    omitted "multilineTokenSupport" truth (λ x. x.multiline_token_support) &
    omitted "serverCancelSupport" truth (λ x. x.server_cancel_support) &
    omitted "augmentsSyntaxTokens" truth (λ x. x.augments_syntax_tokens))
