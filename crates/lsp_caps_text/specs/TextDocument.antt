-- Rows: all features of a text document.
use Rattle.lsp_shape.specs.Row.{Fields, Row, fields, omitted, ◌&◌}
use Rattle.lsp_base.specs.Registration.{dynamic_registration_client_capabilities_row, goto_capability_row}
use Rattle.lsp_caps_text.specs.CodeAction.{code_action_client_capabilities_row}
use Rattle.lsp_caps_text.specs.Completion.{completion_client_capabilities_row}
use Rattle.lsp_caps_text.specs.Folding.{folding_range_client_capabilities_row}
use Rattle.lsp_caps_text.specs.Hover.{hover_client_capabilities_row}
use Rattle.lsp_caps_text.specs.Inline.{inlay_hint_client_capabilities_row}
use Rattle.lsp_caps_text.specs.Link.{document_link_client_capabilities_row}
use Rattle.lsp_caps_text.specs.Publish.{diagnostic_client_capabilities_row, publish_diagnostics_client_capabilities_row}
use Rattle.lsp_caps_text.specs.Rename.{rename_client_capabilities_row}
use Rattle.lsp_caps_text.specs.Selection.{selection_range_client_capabilities_row}
use Rattle.lsp_caps_text.specs.SignatureHelp.{signature_help_client_capabilities_row}
use Rattle.lsp_caps_text.specs.Symbols.{document_symbol_client_capabilities_row}
use Rattle.lsp_caps_text.specs.Sync.{text_document_sync_client_capabilities_row}
use Rattle.lsp_caps_text.specs.Tokens.{semantic_tokens_client_capabilities_row}
use Rattle.lsp_caps_text.specs.declared.text_document.TextDocumentClientCapabilities.{TextDocumentClientCapabilities}

unfoldable pub text_document_client_capabilities_fields : Fields TextDocumentClientCapabilities
text_document_client_capabilities_fields =
    omitted "synchronization" text_document_sync_client_capabilities_row (λ x. x.synchronization) &
    omitted "completion" completion_client_capabilities_row (λ x. x.completion) &
    omitted "hover" hover_client_capabilities_row (λ x. x.hover) &
    omitted "signatureHelp" signature_help_client_capabilities_row (λ x. x.signature_help) &
    omitted "references" dynamic_registration_client_capabilities_row (λ x. x.references) &
    omitted "documentHighlight" dynamic_registration_client_capabilities_row (λ x. x.document_highlight) &
    omitted "documentSymbol" document_symbol_client_capabilities_row (λ x. x.document_symbol) &
    omitted "formatting" dynamic_registration_client_capabilities_row (λ x. x.formatting) &
    omitted "rangeFormatting" dynamic_registration_client_capabilities_row (λ x. x.range_formatting) &
    omitted "onTypeFormatting" dynamic_registration_client_capabilities_row (λ x. x.on_type_formatting) &
    omitted "declaration" goto_capability_row (λ x. x.declaration) &
    omitted "definition" goto_capability_row (λ x. x.definition) &
    omitted "typeDefinition" goto_capability_row (λ x. x.type_definition) &
    omitted "implementation" goto_capability_row (λ x. x.implementation) &
    omitted "codeAction" code_action_client_capabilities_row (λ x. x.code_action) &
    omitted "codeLens" dynamic_registration_client_capabilities_row (λ x. x.code_lens) &
    omitted "documentLink" document_link_client_capabilities_row (λ x. x.document_link) &
    omitted "colorProvider" dynamic_registration_client_capabilities_row (λ x. x.color_provider) &
    omitted "rename" rename_client_capabilities_row (λ x. x.rename) &
    omitted "publishDiagnostics" publish_diagnostics_client_capabilities_row (λ x. x.publish_diagnostics) &
    omitted "foldingRange" folding_range_client_capabilities_row (λ x. x.folding_range) &
    omitted "selectionRange" selection_range_client_capabilities_row (λ x. x.selection_range) &
    omitted "linkedEditingRange" dynamic_registration_client_capabilities_row (λ x. x.linked_editing_range) &
    omitted "callHierarchy" dynamic_registration_client_capabilities_row (λ x. x.call_hierarchy) &
    omitted "semanticTokens" semantic_tokens_client_capabilities_row (λ x. x.semantic_tokens) &
    omitted "moniker" dynamic_registration_client_capabilities_row (λ x. x.moniker) &
    omitted "typeHierarchy" dynamic_registration_client_capabilities_row (λ x. x.type_hierarchy) &
    omitted "inlineValue" dynamic_registration_client_capabilities_row (λ x. x.inline_value) &
    omitted "inlayHint" inlay_hint_client_capabilities_row (λ x. x.inlay_hint) &
    omitted "diagnostic" diagnostic_client_capabilities_row (λ x. x.diagnostic)

unfoldable pub text_document_client_capabilities_row : Row TextDocumentClientCapabilities
text_document_client_capabilities_row = fields text_document_client_capabilities_fields
