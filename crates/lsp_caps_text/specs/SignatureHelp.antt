-- Rows: help on signatures.
use Rattle.lsp_shape.specs.Row.{Row, fields, list, omitted, truth, ◌&◌}
use Rattle.lsp_names.specs.Markup.{markup_kind_row}
use Rattle.lsp_caps_text.specs.declared.signature_help.ParameterInformationSettings.{ParameterInformationSettings}
use Rattle.lsp_caps_text.specs.declared.signature_help.SignatureHelpClientCapabilities.{SignatureHelpClientCapabilities}
use Rattle.lsp_caps_text.specs.declared.signature_help.SignatureInformationSettings.{SignatureInformationSettings}

unfoldable pub parameter_information_settings_row : Row ParameterInformationSettings
parameter_information_settings_row = fields (
    omitted "labelOffsetSupport" truth (λ x. x.label_offset_support))

unfoldable pub signature_information_settings_row : Row SignatureInformationSettings
signature_information_settings_row = fields (
    omitted "documentationFormat" (list markup_kind_row) (λ x. x.documentation_format) &
    omitted "parameterInformation" parameter_information_settings_row (λ x. x.parameter_information) &
    omitted "activeParameterSupport" truth (λ x. x.active_parameter_support))

unfoldable pub signature_help_client_capabilities_row : Row SignatureHelpClientCapabilities
signature_help_client_capabilities_row = fields (
    omitted "dynamicRegistration" truth (λ x. x.dynamic_registration) &
    omitted "signatureInformation" signature_information_settings_row (λ x. x.signature_information) &
    omitted "contextSupport" truth (λ x. x.context_support))
