-- Rows: hovers.
use Rattle.lsp_shape.specs.Row.{Row, fields, list, omitted, truth, ◌&◌}
use Rattle.lsp_names.specs.Markup.{markup_kind_row}
use Rattle.lsp_caps_text.specs.declared.hover.HoverClientCapabilities.{HoverClientCapabilities}

unfoldable pub hover_client_capabilities_row : Row HoverClientCapabilities
hover_client_capabilities_row = fields (
    omitted "dynamicRegistration" truth (λ x. x.dynamic_registration) &
    omitted "contentFormat" (list markup_kind_row) (λ x. x.content_format))
