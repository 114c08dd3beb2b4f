-- Rows: inlay hints and inline values.
use Rattle.lsp_shape.specs.Plain.{Plain, choice}
use Rattle.lsp_shape.specs.Row.{Row, fields, flat, omitted, truth, union, variant, ◌&◌, ◌or◌}
use Rattle.lsp_names.specs.Progress.{work_done_progress_options_row}
use Rattle.lsp_base.specs.Registration.{static_registration_options_row, text_document_registration_options_row}
use Rattle.lsp_offer_lang.specs.declared.inline.InlayHintOptions.{InlayHintOptions}
use Rattle.lsp_offer_lang.specs.declared.inline.InlayHintRegistrationOptions.{InlayHintRegistrationOptions}
use Rattle.lsp_offer_lang.specs.declared.inline.InlayHintServerCapabilities.{InlayHintServerCapabilities}
use Rattle.lsp_offer_lang.specs.declared.inline.InlayHintServerCapabilities.TheVariants as inlay_hint_server_capabilities
use Rattle.lsp_offer_lang.specs.declared.inline.InlineValueOptions.{InlineValueOptions}
use Rattle.lsp_offer_lang.specs.declared.inline.InlineValueRegistrationOptions.{InlineValueRegistrationOptions}
use Rattle.lsp_offer_lang.specs.declared.inline.InlineValueServerCapabilities.{InlineValueServerCapabilities}
use Rattle.lsp_offer_lang.specs.declared.inline.InlineValueServerCapabilities.TheVariants as inline_value_server_capabilities

unfoldable pub inlay_hint_options_row : Row InlayHintOptions
inlay_hint_options_row = fields (
    flat work_done_progress_options_row (λ x. x.work_done_progress_options) &
    omitted "resolveProvider" truth (λ x. x.resolve_provider))

unfoldable pub inlay_hint_registration_options_row : Row InlayHintRegistrationOptions
inlay_hint_registration_options_row = fields (
    flat inlay_hint_options_row (λ x. x.inlay_hint_options) &
    flat text_document_registration_options_row (λ x. x.text_document_registration_options) &
    flat static_registration_options_row (λ x. x.static_registration_options))

abbrev pub show_inlay_hint_server_capabilities : InlayHintServerCapabilities → Plain
show_inlay_hint_server_capabilities (inlay_hint_server_capabilities.Options x) = choice 0 (inlay_hint_options_row.shown x)
show_inlay_hint_server_capabilities (inlay_hint_server_capabilities.RegistrationOptions x) = choice 1 (inlay_hint_registration_options_row.shown x)

unfoldable pub inlay_hint_server_capabilities_row : Row InlayHintServerCapabilities
inlay_hint_server_capabilities_row = union (variant inlay_hint_options_row or variant inlay_hint_registration_options_row) show_inlay_hint_server_capabilities

unfoldable pub inline_value_options_row : Row InlineValueOptions
inline_value_options_row = fields (
    flat work_done_progress_options_row (λ x. x.work_done_progress_options))

unfoldable pub inline_value_registration_options_row : Row InlineValueRegistrationOptions
inline_value_registration_options_row = fields (
    flat inline_value_options_row (λ x. x.inline_value_options) &
    flat text_document_registration_options_row (λ x. x.text_document_registration_options) &
    flat static_registration_options_row (λ x. x.static_registration_options))

abbrev pub show_inline_value_server_capabilities : InlineValueServerCapabilities → Plain
show_inline_value_server_capabilities (inline_value_server_capabilities.Options x) = choice 0 (inline_value_options_row.shown x)
show_inline_value_server_capabilities (inline_value_server_capabilities.RegistrationOptions x) = choice 1 (inline_value_registration_options_row.shown x)

unfoldable pub inline_value_server_capabilities_row : Row InlineValueServerCapabilities
inline_value_server_capabilities_row = union (
    variant inline_value_options_row or
    variant inline_value_registration_options_row) show_inline_value_server_capabilities
