-- Rows: the symbols of the workspace.
use Rattle.lsp_shape.specs.Row.{Row, fields, i32, list, omitted, required, string, supported, truth, ◌&◌}
use Rattle.lsp_base.specs.Capability.{symbol_kind_capability_row}
use Rattle.lsp_base.specs.Registration.{tag_support_row}
use Rattle.lsp_caps_work.specs.declared.symbols.WorkspaceSymbolClientCapabilities.{WorkspaceSymbolClientCapabilities}
use Rattle.lsp_caps_work.specs.declared.symbols.WorkspaceSymbolResolveSupportCapability.{WorkspaceSymbolResolveSupportCapability}

unfoldable pub workspace_symbol_resolve_support_capability_row : Row WorkspaceSymbolResolveSupportCapability
workspace_symbol_resolve_support_capability_row = fields (
    required "properties" (list string) (λ x. x.properties))

unfoldable pub workspace_symbol_client_capabilities_row : Row WorkspaceSymbolClientCapabilities
workspace_symbol_client_capabilities_row = fields (
    omitted "dynamicRegistration" truth (λ x. x.dynamic_registration) &
    omitted "symbolKind" symbol_kind_capability_row (λ x. x.symbol_kind) &
    supported "tagSupport" (tag_support_row i32) (λ x. x.tag_support) &
    omitted "resolveSupport" workspace_symbol_resolve_support_capability_row (λ x. x.resolve_support))
