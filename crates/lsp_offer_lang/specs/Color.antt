-- Rows: colors and ranges that can be folded.
use Rattle.lsp_shape.specs.Plain.{Plain, choice}
use Rattle.lsp_shape.specs.Row.{Row, fields, list, no_fields, nullable, omitted, string, truth, union, variant, ◌&◌, ◌or◌}
use Rattle.lsp_base.specs.Document.{document_filter_row}
use Rattle.lsp_offer_lang.specs.declared.color.ColorProviderCapability.{ColorProviderCapability}
use Rattle.lsp_offer_lang.specs.declared.color.ColorProviderCapability.TheVariants as color_provider_capability
use Rattle.lsp_offer_lang.specs.declared.color.ColorProviderOptions.{ColorProviderOptions}
use Rattle.lsp_offer_lang.specs.declared.color.FoldingProviderOptions.{FoldingProviderOptions}
use Rattle.lsp_offer_lang.specs.declared.color.FoldingRangeProviderCapability.{FoldingRangeProviderCapability}
use Rattle.lsp_offer_lang.specs.declared.color.FoldingRangeProviderCapability.TheVariants as folding_range_provider_capability
use Rattle.lsp_offer_lang.specs.declared.color.StaticTextDocumentColorProviderOptions.{StaticTextDocumentColorProviderOptions}

unfoldable pub color_provider_options_row : Row ColorProviderOptions
color_provider_options_row = no_fields

unfoldable pub static_text_document_color_provider_options_row : Row StaticTextDocumentColorProviderOptions
static_text_document_color_provider_options_row = fields (
    nullable "documentSelector" (list document_filter_row) (λ x. x.document_selector) &
    omitted "id" string (λ x. x.id))

abbrev pub show_color_provider_capability : ColorProviderCapability → Plain
show_color_provider_capability (color_provider_capability.Simple x) = choice 0 (truth.shown x)
show_color_provider_capability (color_provider_capability.ColorProvider x) = choice 1 (color_provider_options_row.shown x)
show_color_provider_capability (color_provider_capability.Options x) = choice 2 (static_text_document_color_provider_options_row.shown x)

unfoldable pub color_provider_capability_row : Row ColorProviderCapability
color_provider_capability_row = union (
    variant truth or
    variant color_provider_options_row or
    variant static_text_document_color_provider_options_row) show_color_provider_capability

unfoldable pub folding_provider_options_row : Row FoldingProviderOptions
folding_provider_options_row = no_fields

abbrev pub show_folding_range_provider_capability : FoldingRangeProviderCapability → Plain
show_folding_range_provider_capability (folding_range_provider_capability.Simple x) = choice 0 (truth.shown x)
show_folding_range_provider_capability (folding_range_provider_capability.FoldingProvider x) = choice 1 (folding_provider_options_row.shown x)
show_folding_range_provider_capability (folding_range_provider_capability.Options x) = choice 2 (static_text_document_color_provider_options_row.shown x)

unfoldable pub folding_range_provider_capability_row : Row FoldingRangeProviderCapability
folding_range_provider_capability_row = union (
    variant truth or
    variant folding_provider_options_row or
    variant static_text_document_color_provider_options_row) show_folding_range_provider_capability
