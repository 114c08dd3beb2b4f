-- Rows: ranges that can be selected.
use Rattle.lsp_shape.specs.Plain.{Plain, choice}
use Rattle.lsp_shape.specs.Row.{Row, fields, flat, truth, union, variant, ◌&◌, ◌or◌}
use Rattle.lsp_names.specs.Progress.{work_done_progress_options_row}
use Rattle.lsp_offer_text.specs.Goto.{static_text_document_registration_options_row}
use Rattle.lsp_offer_text.specs.declared.selection.SelectionRangeOptions.{SelectionRangeOptions}
use Rattle.lsp_offer_text.specs.declared.selection.SelectionRangeProviderCapability.{SelectionRangeProviderCapability}
use Rattle.lsp_offer_text.specs.declared.selection.SelectionRangeProviderCapability.TheVariants as selection_range_provider_capability
use Rattle.lsp_offer_text.specs.declared.selection.SelectionRangeRegistrationOptions.{SelectionRangeRegistrationOptions}

unfoldable pub selection_range_options_row : Row SelectionRangeOptions
selection_range_options_row = fields (
    flat work_done_progress_options_row (λ x. x.work_done_progress_options))

unfoldable pub selection_range_registration_options_row : Row SelectionRangeRegistrationOptions
selection_range_registration_options_row = fields (
    flat selection_range_options_row (λ x. x.selection_range_options) &
    flat static_text_document_registration_options_row (λ x. x.registration_options))

abbrev pub show_selection_range_provider_capability : SelectionRangeProviderCapability → Plain
show_selection_range_provider_capability (selection_range_provider_capability.Simple x) = choice 0 (truth.shown x)
show_selection_range_provider_capability (selection_range_provider_capability.Options x) = choice 1 (selection_range_options_row.shown x)
show_selection_range_provider_capability (selection_range_provider_capability.RegistrationOptions x) = choice 2 (selection_range_registration_options_row.shown x)

unfoldable pub selection_range_provider_capability_row : Row SelectionRangeProviderCapability
selection_range_provider_capability_row = union (
    variant truth or
    variant selection_range_options_row or
    variant selection_range_registration_options_row) show_selection_range_provider_capability
