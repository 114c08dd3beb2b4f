-- Rows: monikers.
use Rattle.lsp_shape.specs.Plain.{Plain, choice}
use Rattle.lsp_shape.specs.Row.{Row, fields, flat, union, variant, ◌&◌, ◌or◌}
use Rattle.lsp_names.specs.Progress.{work_done_progress_options_row}
use Rattle.lsp_base.specs.Registration.{text_document_registration_options_row}
use Rattle.lsp_offer_lang.specs.declared.moniker.MonikerOptions.{MonikerOptions}
use Rattle.lsp_offer_lang.specs.declared.moniker.MonikerRegistrationOptions.{MonikerRegistrationOptions}
use Rattle.lsp_offer_lang.specs.declared.moniker.MonikerServerCapabilities.{MonikerServerCapabilities}
use Rattle.lsp_offer_lang.specs.declared.moniker.MonikerServerCapabilities.TheVariants as moniker_server_capabilities

unfoldable pub moniker_options_row : Row MonikerOptions
moniker_options_row = fields (
    flat work_done_progress_options_row (λ x. x.work_done_progress_options))

unfoldable pub moniker_registration_options_row : Row MonikerRegistrationOptions
moniker_registration_options_row = fields (
    flat text_document_registration_options_row (λ x. x.text_document_registration_options) &
    flat moniker_options_row (λ x. x.moniker_options))

abbrev pub show_moniker_server_capabilities : MonikerServerCapabilities → Plain
show_moniker_server_capabilities (moniker_server_capabilities.Options x) = choice 0 (moniker_options_row.shown x)
show_moniker_server_capabilities (moniker_server_capabilities.RegistrationOptions x) = choice 1 (moniker_registration_options_row.shown x)

unfoldable pub moniker_server_capabilities_row : Row MonikerServerCapabilities
moniker_server_capabilities_row = union (variant moniker_options_row or variant moniker_registration_options_row) show_moniker_server_capabilities
