-- Rows: completion.
use Rattle.lsp_shape.specs.Row.{Fields, Row, fields, i32, list, omitted, required, string, supported, truth, ◌&◌}
use Rattle.lsp_names.specs.Markup.{markup_kind_row}
use Rattle.lsp_base.specs.Registration.{tag_support_row}
use Rattle.lsp_caps_text.specs.declared.completion.CompletionClientCapabilities.{CompletionClientCapabilities}
use Rattle.lsp_caps_text.specs.declared.completion.CompletionItemCapability.{CompletionItemCapability}
use Rattle.lsp_caps_text.specs.declared.completion.CompletionItemCapabilityResolveSupport.{CompletionItemCapabilityResolveSupport}
use Rattle.lsp_caps_text.specs.declared.completion.CompletionItemKindCapability.{CompletionItemKindCapability}
use Rattle.lsp_caps_text.specs.declared.completion.CompletionListCapability.{CompletionListCapability}
use Rattle.lsp_caps_text.specs.declared.completion.InsertTextModeSupport.{InsertTextModeSupport}

unfoldable pub completion_item_capability_resolve_support_row : Row CompletionItemCapabilityResolveSupport
completion_item_capability_resolve_support_row = fields (
    required "properties" (list string) (λ x. x.properties))

unfoldable pub insert_text_mode_support_row : Row InsertTextModeSupport
insert_text_mode_support_row = fields (
    required "valueSet" (list i32) (λ x. x.value_set))

unfoldable pub completion_item_capability_fields : Fields CompletionItemCapability
completion_item_capability_fields =
    omitted "snippetSupport" truth (λ x. x.snippet_support) &
    omitted "commitCharactersSupport" truth (λ x. x.commit_characters_support) &
    omitted "documentationFormat" (list markup_kind_row) (λ x. x.documentation_format) &
    omitted "deprecatedSupport" truth (λ x. x.deprecated_support) &
    omitted "preselectSupport" truth (λ x. x.preselect_support) &
    supported "tagSupport" (tag_support_row i32) (λ x. x.tag_support) &
    omitted "insertReplaceSupport" truth (λ x. x.insert_replace_support) &
    omitted "resolveSupport" completion_item_capability_resolve_support_row (λ x. x.resolve_support) &
    omitted "insertTextModeSupport" insert_text_mode_support_row (λ x. x.insert_text_mode_support) &
    omitted "labelDetailsSupport" truth (λ x. x.label_details_support)

unfoldable pub completion_item_capability_row : Row CompletionItemCapability
completion_item_capability_row = fields completion_item_capability_fields

unfoldable pub completion_item_kind_capability_row : Row CompletionItemKindCapability
completion_item_kind_capability_row = fields (
    omitted "valueSet" (list i32) (λ x. x.value_set))

unfoldable pub completion_list_capability_row : Row CompletionListCapability
completion_list_capability_row = fields (
    omitted "itemDefaults" (list string) (λ x. x.item_defaults))

unfoldable pub completion_client_capabilities_row : Row CompletionClientCapabilities
completion_client_capabilities_row = fields (
    omitted "dynamicRegistration" truth (λ x. x.dynamic_registration) &
    omitted "completionItem" completion_item_capability_row (λ x. x.completion_item) &
    omitted "completionItemKind" completion_item_kind_capability_row (λ x. x.completion_item_kind) &
    omitted "contextSupport" truth (λ x. x.context_support) &
    omitted "insertTextMode" i32 (λ x. x.insert_text_mode) &
    omitted "completionList" completion_list_capability_row (λ x. x.completion_list))
