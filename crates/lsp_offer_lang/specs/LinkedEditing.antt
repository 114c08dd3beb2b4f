-- Rows: ranges that are edited together.
use Rattle.lsp_shape.specs.Plain.{Plain, choice}
use Rattle.lsp_shape.specs.Row.{Row, fields, flat, truth, union, variant, ◌&◌, ◌or◌}
use Rattle.lsp_names.specs.Progress.{work_done_progress_options_row}
use Rattle.lsp_base.specs.Registration.{static_registration_options_row, text_document_registration_options_row}
use Rattle.lsp_offer_lang.specs.declared.linked_editing.LinkedEditingRangeOptions.{LinkedEditingRangeOptions}
use Rattle.lsp_offer_lang.specs.declared.linked_editing.LinkedEditingRangeRegistrationOptions.{LinkedEditingRangeRegistrationOptions}
use Rattle.lsp_offer_lang.specs.declared.linked_editing.LinkedEditingRangeServerCapabilities.{LinkedEditingRangeServerCapabilities}
use Rattle.lsp_offer_lang.specs.declared.linked_editing.LinkedEditingRangeServerCapabilities.TheVariants as linked_editing_range_server_capabilities

unfoldable pub linked_editing_range_options_row : Row LinkedEditingRangeOptions
linked_editing_range_options_row = fields (
    flat work_done_progress_options_row (λ x. x.work_done_progress_options))

unfoldable pub linked_editing_range_registration_options_row : Row LinkedEditingRangeRegistrationOptions
linked_editing_range_registration_options_row = fields (
    flat text_document_registration_options_row (λ x. x.text_document_registration_options) &
    flat linked_editing_range_options_row (λ x. x.linked_editing_range_options) &
    flat static_registration_options_row (λ x. x.static_registration_options))

abbrev pub show_linked_editing_range_server_capabilities : LinkedEditingRangeServerCapabilities → Plain
show_linked_editing_range_server_capabilities (linked_editing_range_server_capabilities.Simple x) = choice 0 (truth.shown x)
show_linked_editing_range_server_capabilities (linked_editing_range_server_capabilities.Options x) = choice 1 (linked_editing_range_options_row.shown x)
show_linked_editing_range_server_capabilities (linked_editing_range_server_capabilities.RegistrationOptions x) = choice 2 (linked_editing_range_registration_options_row.shown x)

unfoldable pub linked_editing_range_server_capabilities_row : Row LinkedEditingRangeServerCapabilities
linked_editing_range_server_capabilities_row = union (
    variant truth or
    variant linked_editing_range_options_row or
    variant linked_editing_range_registration_options_row) show_linked_editing_range_server_capabilities
