-- Rows: hovers.
use Rattle.lsp_shape.specs.Plain.{Plain, choice}
use Rattle.lsp_shape.specs.Row.{Row, fields, flat, truth, union, variant, ◌&◌, ◌or◌}
use Rattle.lsp_names.specs.Progress.{work_done_progress_options_row}
use Rattle.lsp_base.specs.Registration.{text_document_registration_options_row}
use Rattle.lsp_offer_text.specs.declared.hover.HoverOptions.{HoverOptions}
use Rattle.lsp_offer_text.specs.declared.hover.HoverProviderCapability.{HoverProviderCapability}
use Rattle.lsp_offer_text.specs.declared.hover.HoverProviderCapability.TheVariants as hover_provider_capability
use Rattle.lsp_offer_text.specs.declared.hover.HoverRegistrationOptions.{HoverRegistrationOptions}

unfoldable pub hover_options_row : Row HoverOptions
hover_options_row = fields (
    flat work_done_progress_options_row (λ x. x.work_done_progress_options))

abbrev pub show_hover_provider_capability : HoverProviderCapability → Plain
show_hover_provider_capability (hover_provider_capability.Simple x) = choice 0 (truth.shown x)
show_hover_provider_capability (hover_provider_capability.Options x) = choice 1 (hover_options_row.shown x)

unfoldable pub hover_provider_capability_row : Row HoverProviderCapability
hover_provider_capability_row = union (variant truth or variant hover_options_row) show_hover_provider_capability

unfoldable pub hover_registration_options_row : Row HoverRegistrationOptions
hover_registration_options_row = fields (
    flat text_document_registration_options_row (λ x. x.text_document_registration_options) &
    flat hover_options_row (λ x. x.hover_options))
