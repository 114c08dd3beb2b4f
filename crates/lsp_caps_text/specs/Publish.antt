-- Rows: diagnostics that a server publishes, and those that the client asks for.
use Rattle.lsp_shape.specs.Row.{Row, fields, i32, omitted, supported, truth, ◌&◌}
use Rattle.lsp_base.specs.Registration.{tag_support_row}
use Rattle.lsp_caps_text.specs.declared.publish.DiagnosticClientCapabilities.{DiagnosticClientCapabilities}
use Rattle.lsp_caps_text.specs.declared.publish.PublishDiagnosticsClientCapabilities.{PublishDiagnosticsClientCapabilities}

unfoldable pub publish_diagnostics_client_capabilities_row : Row PublishDiagnosticsClientCapabilities
publish_diagnostics_client_capabilities_row = fields (
    omitted "relatedInformation" truth (λ x. x.related_information) &
    supported "tagSupport" (tag_support_row i32) (λ x. x.tag_support) &
    omitted "versionSupport" truth (λ x. x.version_support) &
    omitted "codeDescriptionSupport" truth (λ x. x.code_description_support) &
    omitted "dataSupport" truth (λ x. x.data_support))

unfoldable pub diagnostic_client_capabilities_row : Row DiagnosticClientCapabilities
diagnostic_client_capabilities_row = fields (
    omitted "dynamicRegistration" truth (λ x. x.dynamic_registration) &
    omitted "relatedDocumentSupport" truth (λ x. x.related_document_support))
