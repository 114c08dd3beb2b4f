-- Rows: ranges that can be selected, and ranges that are edited together.
use Rattle.lsp_shape.specs.Row.{Row, fields, omitted, truth}
use Rattle.lsp_caps_text.specs.declared.selection.SelectionRangeClientCapabilities.{SelectionRangeClientCapabilities}

unfoldable pub selection_range_client_capabilities_row : Row SelectionRangeClientCapabilities
selection_range_client_capabilities_row = fields (
    omitted "dynamicRegistration" truth (λ x. x.dynamic_registration))
