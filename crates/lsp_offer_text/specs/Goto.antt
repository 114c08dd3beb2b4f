-- Rows: declarations, definitions, types and implementations.
use Rattle.lsp_shape.specs.Plain.{Plain, choice}
use Rattle.lsp_shape.specs.Row.{Row, fields, flat, list, nullable, omitted, string, truth, union, variant, ◌&◌, ◌or◌}
use Rattle.lsp_names.specs.Progress.{work_done_progress_options_row}
use Rattle.lsp_base.specs.Document.{document_filter_row}
use Rattle.lsp_base.specs.Registration.{static_registration_options_row, text_document_registration_options_row}
use Rattle.lsp_offer_text.specs.declared.goto.DeclarationCapability.{DeclarationCapability}
use Rattle.lsp_offer_text.specs.declared.goto.DeclarationCapability.TheVariants as declaration_capability
use Rattle.lsp_offer_text.specs.declared.goto.DeclarationOptions.{DeclarationOptions}
use Rattle.lsp_offer_text.specs.declared.goto.DeclarationRegistrationOptions.{DeclarationRegistrationOptions}
use Rattle.lsp_offer_text.specs.declared.goto.DefinitionOptions.{DefinitionOptions}
use Rattle.lsp_offer_text.specs.declared.goto.DocumentHighlightOptions.{DocumentHighlightOptions}
use Rattle.lsp_offer_text.specs.declared.goto.GenericOptions.{GenericOptions}
use Rattle.lsp_offer_text.specs.declared.goto.GenericRegistrationOptions.{GenericRegistrationOptions}
use Rattle.lsp_offer_text.specs.declared.goto.ImplementationProviderCapability.{ImplementationProviderCapability}
use Rattle.lsp_offer_text.specs.declared.goto.ImplementationProviderCapability.TheVariants as implementation_provider_capability
use Rattle.lsp_offer_text.specs.declared.goto.ReferencesOptions.{ReferencesOptions}
use Rattle.lsp_offer_text.specs.declared.goto.StaticTextDocumentRegistrationOptions.{StaticTextDocumentRegistrationOptions}
use Rattle.lsp_offer_text.specs.declared.goto.TypeDefinitionProviderCapability.{TypeDefinitionProviderCapability}
use Rattle.lsp_offer_text.specs.declared.goto.TypeDefinitionProviderCapability.TheVariants as type_definition_provider_capability

unfoldable pub static_text_document_registration_options_row : Row StaticTextDocumentRegistrationOptions
static_text_document_registration_options_row = fields (
    nullable "documentSelector" (list document_filter_row) (λ x. x.document_selector) &
    omitted "id" string (λ x. x.id))

abbrev pub show_implementation_provider_capability : ImplementationProviderCapability → Plain
show_implementation_provider_capability (implementation_provider_capability.Simple x) = choice 0 (truth.shown x)
show_implementation_provider_capability (implementation_provider_capability.Options x) = choice 1 (static_text_document_registration_options_row.shown x)

unfoldable pub implementation_provider_capability_row : Row ImplementationProviderCapability
implementation_provider_capability_row = union (variant truth or variant static_text_document_registration_options_row) show_implementation_provider_capability

abbrev pub show_type_definition_provider_capability : TypeDefinitionProviderCapability → Plain
show_type_definition_provider_capability (type_definition_provider_capability.Simple x) = choice 0 (truth.shown x)
show_type_definition_provider_capability (type_definition_provider_capability.Options x) = choice 1 (static_text_document_registration_options_row.shown x)

unfoldable pub type_definition_provider_capability_row : Row TypeDefinitionProviderCapability
type_definition_provider_capability_row = union (variant truth or variant static_text_document_registration_options_row) show_type_definition_provider_capability

unfoldable pub declaration_options_row : Row DeclarationOptions
declaration_options_row = fields (
    flat work_done_progress_options_row (λ x. x.work_done_progress_options))

unfoldable pub declaration_registration_options_row : Row DeclarationRegistrationOptions
declaration_registration_options_row = fields (
    flat declaration_options_row (λ x. x.declaration_options) &
    flat text_document_registration_options_row (λ x. x.text_document_registration_options) &
    flat static_registration_options_row (λ x. x.static_registration_options))

abbrev pub show_declaration_capability : DeclarationCapability → Plain
show_declaration_capability (declaration_capability.Simple x) = choice 0 (truth.shown x)
show_declaration_capability (declaration_capability.RegistrationOptions x) = choice 1 (declaration_registration_options_row.shown x)
show_declaration_capability (declaration_capability.Options x) = choice 2 (declaration_options_row.shown x)

unfoldable pub declaration_capability_row : Row DeclarationCapability
declaration_capability_row = union (
    variant truth or
    variant declaration_registration_options_row or
    variant declaration_options_row) show_declaration_capability

unfoldable pub definition_options_row : Row DefinitionOptions
definition_options_row = fields (
    flat work_done_progress_options_row (λ x. x.work_done_progress_options))

unfoldable pub references_options_row : Row ReferencesOptions
references_options_row = fields (
    flat work_done_progress_options_row (λ x. x.work_done_progress_options))

unfoldable pub document_highlight_options_row : Row DocumentHighlightOptions
document_highlight_options_row = fields (
    flat work_done_progress_options_row (λ x. x.work_done_progress_options))

unfoldable pub generic_options_row : Row GenericOptions
generic_options_row = fields (
    flat work_done_progress_options_row (λ x. x.work_done_progress_options))

unfoldable pub generic_registration_options_row : Row GenericRegistrationOptions
generic_registration_options_row = fields (
    flat text_document_registration_options_row (λ x. x.text_document_registration_options) &
    flat generic_options_row (λ x. x.options) &
    flat static_registration_options_row (λ x. x.static_registration_options))
