-- Rows: the symbols of a document.
use Rattle.lsp_shape.specs.Row.{Row, fields, i32, omitted, supported, truth, ◌&◌}
use Rattle.lsp_base.specs.Capability.{symbol_kind_capability_row}
use Rattle.lsp_base.specs.Registration.{tag_support_row}
use Rattle.lsp_caps_text.specs.declared.symbols.DocumentSymbolClientCapabilities.{DocumentSymbolClientCapabilities}

unfoldable pub document_symbol_client_capabilities_row : Row DocumentSymbolClientCapabilities
document_symbol_client_capabilities_row = fields (
    omitted "dynamicRegistration" truth (λ x. x.dynamic_registration) &
    omitted "symbolKind" symbol_kind_capability_row (λ x. x.symbol_kind) &
    omitted "hierarchicalDocumentSymbolSupport" truth (λ x. x.hierarchical_document_symbol_support) &
    supported "tagSupport" (tag_support_row i32) (λ x. x.tag_support))
