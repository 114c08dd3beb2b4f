-- Rows of registrations and of what an editor supports.
use Rattle.lsp_shape.specs.Row.{Row, fields, list, nullable, omitted, required, string, truth, ◌&◌}
use Rattle.lsp_base.specs.Document.{document_filter_row}
use Rattle.lsp_base.specs.declared.registration.DynamicRegistrationClientCapabilities.{DynamicRegistrationClientCapabilities}
use Rattle.lsp_base.specs.declared.registration.GotoCapability.{GotoCapability}
use Rattle.lsp_base.specs.declared.registration.StaticRegistrationOptions.{StaticRegistrationOptions}
use Rattle.lsp_base.specs.declared.registration.TagSupport.{TagSupport}
use Rattle.lsp_base.specs.declared.registration.TextDocumentRegistrationOptions.{TextDocumentRegistrationOptions}

abbrev pub tag_support_row : {T : Type 0} → Row T → Row (TagSupport T)
tag_support_row tag = fields (
    required "valueSet" (list tag) (λ x. x.value_set))

unfoldable pub dynamic_registration_client_capabilities_row : Row DynamicRegistrationClientCapabilities
dynamic_registration_client_capabilities_row = fields (
    omitted "dynamicRegistration" truth (λ x. x.dynamic_registration))

unfoldable pub goto_capability_row : Row GotoCapability
goto_capability_row = fields (
    omitted "dynamicRegistration" truth (λ x. x.dynamic_registration) &
    omitted "linkSupport" truth (λ x. x.link_support))

unfoldable pub text_document_registration_options_row : Row TextDocumentRegistrationOptions
text_document_registration_options_row = fields (
    nullable "documentSelector" (list document_filter_row) (λ x. x.document_selector))

unfoldable pub static_registration_options_row : Row StaticRegistrationOptions
static_registration_options_row = fields (
    omitted "id" string (λ x. x.id))
