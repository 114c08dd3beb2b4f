-- Rows: links in documents.
use Rattle.lsp_shape.specs.Row.{Row, fields, omitted, truth, ◌&◌}
use Rattle.lsp_caps_text.specs.declared.link.DocumentLinkClientCapabilities.{DocumentLinkClientCapabilities}

unfoldable pub document_link_client_capabilities_row : Row DocumentLinkClientCapabilities
document_link_client_capabilities_row = fields (
    omitted "dynamicRegistration" truth (λ x. x.dynamic_registration) &
    omitted "tooltipSupport" truth (λ x. x.tooltip_support))
