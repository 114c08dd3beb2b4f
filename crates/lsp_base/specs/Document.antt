-- Rows of documents.
use Rattle.lsp_shape.specs.Row.{Row, fields, i32, nullable, omitted, required, string, u32, ◌&◌}
use Rattle.lsp_uri.specs.Uri.{uri_row}
use Rattle.lsp_base.specs.Position.{position_row, range_row}
use Rattle.lsp_base.specs.declared.document.DocumentFilter.{DocumentFilter}
use Rattle.lsp_base.specs.declared.document.OptionalVersionedTextDocumentIdentifier.{OptionalVersionedTextDocumentIdentifier}
use Rattle.lsp_base.specs.declared.document.TextDocumentContentChangeEvent.{TextDocumentContentChangeEvent}
use Rattle.lsp_base.specs.declared.document.TextDocumentIdentifier.{TextDocumentIdentifier}
use Rattle.lsp_base.specs.declared.document.TextDocumentItem.{TextDocumentItem}
use Rattle.lsp_base.specs.declared.document.TextDocumentPositionParams.{TextDocumentPositionParams}
use Rattle.lsp_base.specs.declared.document.VersionedTextDocumentIdentifier.{VersionedTextDocumentIdentifier}
use Rattle.lsp_base.specs.declared.document.WorkspaceFolder.{WorkspaceFolder}

unfoldable pub text_document_identifier_row : Row TextDocumentIdentifier
text_document_identifier_row = fields (
    required "uri" uri_row (λ x. x.uri))

unfoldable pub text_document_item_row : Row TextDocumentItem
text_document_item_row = fields (
    required "uri" uri_row (λ x. x.uri) &
    required "languageId" string (λ x. x.language_id) &
    required "version" i32 (λ x. x.version) &
    required "text" string (λ x. x.text))

unfoldable pub versioned_text_document_identifier_row : Row VersionedTextDocumentIdentifier
versioned_text_document_identifier_row = fields (
    required "uri" uri_row (λ x. x.uri) &
    required "version" i32 (λ x. x.version))

unfoldable pub optional_versioned_text_document_identifier_row : Row OptionalVersionedTextDocumentIdentifier
optional_versioned_text_document_identifier_row = fields (
    required "uri" uri_row (λ x. x.uri) &
    nullable "version" i32 (λ x. x.version))

unfoldable pub text_document_position_params_row : Row TextDocumentPositionParams
text_document_position_params_row = fields (
    required "textDocument" text_document_identifier_row (λ x. x.text_document) &
    required "position" position_row (λ x. x.position))

unfoldable pub document_filter_row : Row DocumentFilter
document_filter_row = fields (
    omitted "language" string (λ x. x.language) &
    omitted "scheme" string (λ x. x.scheme) &
    omitted "pattern" string (λ x. x.pattern))

unfoldable pub text_document_content_change_event_row : Row TextDocumentContentChangeEvent
text_document_content_change_event_row = fields (
    omitted "range" range_row (λ x. x.range) &
    omitted "rangeLength" u32 (λ x. x.range_length) &
    required "text" string (λ x. x.text))

unfoldable pub workspace_folder_row : Row WorkspaceFolder
workspace_folder_row = fields (
    required "uri" uri_row (λ x. x.uri) &
    required "name" string (λ x. x.name))
