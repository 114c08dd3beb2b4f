-- Rows: code actions.
use Rattle.lsp_shape.specs.Row.{Row, fields, list, omitted, required, string, truth, ◌&◌}
use Rattle.lsp_caps_text.specs.declared.code_action.CodeActionCapabilityResolveSupport.{CodeActionCapabilityResolveSupport}
use Rattle.lsp_caps_text.specs.declared.code_action.CodeActionClientCapabilities.{CodeActionClientCapabilities}
use Rattle.lsp_caps_text.specs.declared.code_action.CodeActionKindLiteralSupport.{CodeActionKindLiteralSupport}
use Rattle.lsp_caps_text.specs.declared.code_action.CodeActionLiteralSupport.{CodeActionLiteralSupport}

unfoldable pub code_action_kind_literal_support_row : Row CodeActionKindLiteralSupport
code_action_kind_literal_support_row = fields (
    required "valueSet" (list string) (λ x. x.value_set))

unfoldable pub code_action_literal_support_row : Row CodeActionLiteralSupport
code_action_literal_support_row = fields (
    required "codeActionKind" code_action_kind_literal_support_row (λ x. x.code_action_kind))

unfoldable pub code_action_capability_resolve_support_row : Row CodeActionCapabilityResolveSupport
code_action_capability_resolve_support_row = fields (
    required "properties" (list string) (λ x. x.properties))

unfoldable pub code_action_client_capabilities_row : Row CodeActionClientCapabilities
code_action_client_capabilities_row = fields (
    omitted "dynamicRegistration" truth (λ x. x.dynamic_registration) &
    omitted "codeActionLiteralSupport" code_action_literal_support_row (λ x. x.code_action_literal_support) &
    omitted "isPreferredSupport" truth (λ x. x.is_preferred_support) &
    omitted "disabledSupport" truth (λ x. x.disabled_support) &
    omitted "dataSupport" truth (λ x. x.data_support) &
    omitted "resolveSupport" code_action_capability_resolve_support_row (λ x. x.resolve_support) &
    omitted "honorsChangeAnnotations" truth (λ x. x.honors_change_annotations))
