-- Rows: inlay hints and inline values.
use Rattle.lsp_shape.specs.Row.{Row, fields, list, omitted, required, string, truth, ◌&◌}
use Rattle.lsp_caps_text.specs.declared.inline.InlayHintClientCapabilities.{InlayHintClientCapabilities}
use Rattle.lsp_caps_text.specs.declared.inline.InlayHintResolveClientCapabilities.{InlayHintResolveClientCapabilities}

unfoldable pub inlay_hint_resolve_client_capabilities_row : Row InlayHintResolveClientCapabilities
inlay_hint_resolve_client_capabilities_row = fields (
    required "properties" (list string) (λ x. x.properties))

unfoldable pub inlay_hint_client_capabilities_row : Row InlayHintClientCapabilities
inlay_hint_client_capabilities_row = fields (
    omitted "dynamicRegistration" truth (λ x. x.dynamic_registration) &
    omitted "resolveSupport" inlay_hint_resolve_client_capabilities_row (λ x. x.resolve_support))
