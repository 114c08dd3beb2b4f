-- Rows: what a server sends in response to `initialize`.
use Rattle.lsp_shape.specs.Row.{Fields, Row, any, fields, omitted, required, truth, ◌&◌}
use Rattle.lsp_names.specs.KindText.{text_kind_row}
use Rattle.lsp_base.specs.Edit.{one_of_row}
use Rattle.lsp_offer_lang.specs.Color.{color_provider_capability_row, folding_range_provider_capability_row}
use Rattle.lsp_offer_lang.specs.Diagnostic.{diagnostic_server_capabilities_row}
use Rattle.lsp_offer_lang.specs.Hierarchy.{call_hierarchy_server_capability_row}
use Rattle.lsp_offer_lang.specs.Inline.{inlay_hint_server_capabilities_row, inline_value_server_capabilities_row}
use Rattle.lsp_offer_lang.specs.LinkedEditing.{linked_editing_range_server_capabilities_row}
use Rattle.lsp_offer_lang.specs.Moniker.{moniker_server_capabilities_row}
use Rattle.lsp_offer_lang.specs.Tokens.{semantic_tokens_server_capabilities_row}
use Rattle.lsp_offer_text.specs.CodeAction.{code_action_provider_capability_row, code_lens_options_row, document_link_options_row}
use Rattle.lsp_offer_text.specs.Completion.{completion_options_row}
use Rattle.lsp_offer_text.specs.Formatting.{document_formatting_options_row, document_on_type_formatting_options_row, document_range_formatting_options_row, rename_options_row}
use Rattle.lsp_offer_text.specs.Goto.{declaration_capability_row, definition_options_row, document_highlight_options_row, implementation_provider_capability_row, references_options_row, type_definition_provider_capability_row}
use Rattle.lsp_offer_text.specs.Hover.{hover_provider_capability_row}
use Rattle.lsp_offer_text.specs.Selection.{selection_range_provider_capability_row}
use Rattle.lsp_offer_text.specs.SignatureHelp.{signature_help_options_row}
use Rattle.lsp_offer_text.specs.Symbols.{document_symbol_options_row, workspace_symbol_options_row}
use Rattle.lsp_offer_text.specs.Sync.{text_document_sync_capability_row}
use Rattle.lsp_offer_work.specs.Command.{execute_command_options_row}
use Rattle.lsp_offer_work.specs.Notebook.{notebook_document_sync_options_row, notebook_document_sync_registration_options_row}
use Rattle.lsp_offer_work.specs.Server.{server_info_row}
use Rattle.lsp_offer_work.specs.Workspace.{workspace_server_capabilities_row}
use Rattle.lsp_initialize.specs.declared.server.InitializeResult.{InitializeResult}
use Rattle.lsp_initialize.specs.declared.server.ServerCapabilities.{ServerCapabilities}

unfoldable pub server_capabilities_fields : Fields ServerCapabilities
server_capabilities_fields =
    omitted "positionEncoding" text_kind_row (λ x. x.position_encoding) &
    omitted "textDocumentSync" text_document_sync_capability_row (λ x. x.text_document_sync) &
    omitted "notebookDocumentSync" (one_of_row notebook_document_sync_options_row notebook_document_sync_registration_options_row) (λ x. x.notebook_document_sync) &
    omitted "selectionRangeProvider" selection_range_provider_capability_row (λ x. x.selection_range_provider) &
    omitted "hoverProvider" hover_provider_capability_row (λ x. x.hover_provider) &
    omitted "completionProvider" completion_options_row (λ x. x.completion_provider) &
    omitted "signatureHelpProvider" signature_help_options_row (λ x. x.signature_help_provider) &
    omitted "definitionProvider" (one_of_row truth definition_options_row) (λ x. x.definition_provider) &
    omitted "typeDefinitionProvider" type_definition_provider_capability_row (λ x. x.type_definition_provider) &
    omitted "implementationProvider" implementation_provider_capability_row (λ x. x.implementation_provider) &
    omitted "referencesProvider" (one_of_row truth references_options_row) (λ x. x.references_provider) &
    omitted "documentHighlightProvider" (one_of_row truth document_highlight_options_row) (λ x. x.document_highlight_provider) &
    omitted "documentSymbolProvider" (one_of_row truth document_symbol_options_row) (λ x. x.document_symbol_provider) &
    omitted "workspaceSymbolProvider" (one_of_row truth workspace_symbol_options_row) (λ x. x.workspace_symbol_provider) &
    omitted "codeActionProvider" code_action_provider_capability_row (λ x. x.code_action_provider) &
    omitted "codeLensProvider" code_lens_options_row (λ x. x.code_lens_provider) &
    omitted "documentFormattingProvider" (one_of_row truth document_formatting_options_row) (λ x. x.document_formatting_provider) &
    omitted "documentRangeFormattingProvider" (one_of_row truth document_range_formatting_options_row) (λ x. x.document_range_formatting_provider) &
    omitted "documentOnTypeFormattingProvider" document_on_type_formatting_options_row (λ x. x.document_on_type_formatting_provider) &
    omitted "renameProvider" (one_of_row truth rename_options_row) (λ x. x.rename_provider) &
    omitted "documentLinkProvider" document_link_options_row (λ x. x.document_link_provider) &
    omitted "colorProvider" color_provider_capability_row (λ x. x.color_provider) &
    omitted "foldingRangeProvider" folding_range_provider_capability_row (λ x. x.folding_range_provider) &
    omitted "declarationProvider" declaration_capability_row (λ x. x.declaration_provider) &
    omitted "executeCommandProvider" execute_command_options_row (λ x. x.execute_command_provider) &
    omitted "workspace" workspace_server_capabilities_row (λ x. x.workspace) &
    omitted "callHierarchyProvider" call_hierarchy_server_capability_row (λ x. x.call_hierarchy_provider) &
    omitted "semanticTokensProvider" semantic_tokens_server_capabilities_row (λ x. x.semantic_tokens_provider) &
    omitted "monikerProvider" (one_of_row truth moniker_server_capabilities_row) (λ x. x.moniker_provider) &
    omitted "linkedEditingRangeProvider" linked_editing_range_server_capabilities_row (λ x. x.linked_editing_range_provider) &
    omitted "inlineValueProvider" (one_of_row truth inline_value_server_capabilities_row) (λ x. x.inline_value_provider) &
    omitted "inlayHintProvider" (one_of_row truth inlay_hint_server_capabilities_row) (λ x. x.inlay_hint_provider) &
    omitted "diagnosticProvider" diagnostic_server_capabilities_row (λ x. x.diagnostic_provider) &
    omitted "experimental" any (λ x. x.experimental)

unfoldable pub server_capabilities_row : Row ServerCapabilities
server_capabilities_row = fields server_capabilities_fields

unfoldable pub initialize_result_row : Row InitializeResult
initialize_result_row = fields (
    required "capabilities" server_capabilities_row (λ x. x.capabilities) &
    omitted "serverInfo" server_info_row (λ x. x.server_info))
