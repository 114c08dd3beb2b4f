-- Rows: ranges that can be folded.
use Rattle.lsp_shape.specs.Row.{Row, fields, list, omitted, truth, u32, ◌&◌}
use Rattle.lsp_names.specs.Folding.{folding_range_kind_row}
use Rattle.lsp_caps_text.specs.declared.folding.FoldingRangeCapability.{FoldingRangeCapability}
use Rattle.lsp_caps_text.specs.declared.folding.FoldingRangeClientCapabilities.{FoldingRangeClientCapabilities}
use Rattle.lsp_caps_text.specs.declared.folding.FoldingRangeKindCapability.{FoldingRangeKindCapability}

unfoldable pub folding_range_kind_capability_row : Row FoldingRangeKindCapability
folding_range_kind_capability_row = fields (
    omitted "valueSet" (list folding_range_kind_row) (λ x. x.value_set))

unfoldable pub folding_range_capability_row : Row FoldingRangeCapability
folding_range_capability_row = fields (
    omitted "collapsedText" truth (λ x. x.collapsed_text))

unfoldable pub folding_range_client_capabilities_row : Row FoldingRangeClientCapabilities
folding_range_client_capabilities_row = fields (
    omitted "dynamicRegistration" truth (λ x. x.dynamic_registration) &
    omitted "rangeLimit" u32 (λ x. x.range_limit) &
    omitted "lineFoldingOnly" truth (λ x. x.line_folding_only) &
    omitted "foldingRangeKind" folding_range_kind_capability_row (λ x. x.folding_range_kind) &
    omitted "foldingRange" folding_range_capability_row (λ x. x.folding_range))
