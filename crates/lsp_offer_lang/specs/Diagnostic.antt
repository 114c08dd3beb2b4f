-- Rows: diagnostics that the client asks for.
use Rattle.lsp_shape.specs.Plain.{Plain, choice}
use Rattle.lsp_shape.specs.Row.{Row, fields, flat, omitted, required, string, truth, union, variant, ◌&◌, ◌or◌}
use Rattle.lsp_names.specs.Progress.{work_done_progress_options_row}
use Rattle.lsp_base.specs.Registration.{static_registration_options_row, text_document_registration_options_row}
use Rattle.lsp_offer_lang.specs.declared.diagnostic.DiagnosticOptions.{DiagnosticOptions}
use Rattle.lsp_offer_lang.specs.declared.diagnostic.DiagnosticRegistrationOptions.{DiagnosticRegistrationOptions}
use Rattle.lsp_offer_lang.specs.declared.diagnostic.DiagnosticServerCapabilities.{DiagnosticServerCapabilities}
use Rattle.lsp_offer_lang.specs.declared.diagnostic.DiagnosticServerCapabilities.TheVariants as diagnostic_server_capabilities

unfoldable pub diagnostic_options_row : Row DiagnosticOptions
diagnostic_options_row = fields (
    omitted "identifier" string (λ x. x.identifier) &
    required "interFileDependencies" truth (λ x. x.inter_file_dependencies) &
    required "workspaceDiagnostics" truth (λ x. x.workspace_diagnostics) &
    flat work_done_progress_options_row (λ x. x.work_done_progress_options))

unfoldable pub diagnostic_registration_options_row : Row DiagnosticRegistrationOptions
diagnostic_registration_options_row = fields (
    flat text_document_registration_options_row (λ x. x.text_document_registration_options) &
    flat diagnostic_options_row (λ x. x.diagnostic_options) &
    flat static_registration_options_row (λ x. x.static_registration_options))

abbrev pub show_diagnostic_server_capabilities : DiagnosticServerCapabilities → Plain
show_diagnostic_server_capabilities (diagnostic_server_capabilities.Options x) = choice 0 (diagnostic_options_row.shown x)
show_diagnostic_server_capabilities (diagnostic_server_capabilities.RegistrationOptions x) = choice 1 (diagnostic_registration_options_row.shown x)

unfoldable pub diagnostic_server_capabilities_row : Row DiagnosticServerCapabilities
diagnostic_server_capabilities_row = union (variant diagnostic_options_row or variant diagnostic_registration_options_row) show_diagnostic_server_capabilities
