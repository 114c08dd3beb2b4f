-- Rows: documents that are opened, changed, saved and closed.
use Rattle.lsp_shape.specs.Row.{Row, fields, i32, list, omitted, required, string, ◌&◌}
use Rattle.lsp_uri.specs.Uri.{uri_row}
use Rattle.lsp_base.specs.Diagnostic.{diagnostic_row}
use Rattle.lsp_base.specs.Document.{text_document_content_change_event_row, text_document_identifier_row, text_document_item_row, versioned_text_document_identifier_row}
use Rattle.lsp_work.specs.declared.document.DidChangeTextDocumentParams.{DidChangeTextDocumentParams}
use Rattle.lsp_work.specs.declared.document.DidCloseTextDocumentParams.{DidCloseTextDocumentParams}
use Rattle.lsp_work.specs.declared.document.DidOpenTextDocumentParams.{DidOpenTextDocumentParams}
use Rattle.lsp_work.specs.declared.document.DidSaveTextDocumentParams.{DidSaveTextDocumentParams}
use Rattle.lsp_work.specs.declared.document.PublishDiagnosticsParams.{PublishDiagnosticsParams}
use Rattle.lsp_work.specs.declared.document.WillSaveTextDocumentParams.{WillSaveTextDocumentParams}

unfoldable pub did_open_text_document_params_row : Row DidOpenTextDocumentParams
did_open_text_document_params_row = fields (
    required "textDocument" text_document_item_row (λ x. x.text_document))

unfoldable pub did_change_text_document_params_row : Row DidChangeTextDocumentParams
did_change_text_document_params_row = fields (
    required "textDocument" versioned_text_document_identifier_row (λ x. x.text_document) &
    required "contentChanges" (list text_document_content_change_event_row) (λ x. x.content_changes))

unfoldable pub will_save_text_document_params_row : Row WillSaveTextDocumentParams
will_save_text_document_params_row = fields (
    required "textDocument" text_document_identifier_row (λ x. x.text_document) &
    required "reason" i32 (λ x. x.reason))

unfoldable pub did_save_text_document_params_row : Row DidSaveTextDocumentParams
did_save_text_document_params_row = fields (
    required "textDocument" text_document_identifier_row (λ x. x.text_document) &
    omitted "text" string (λ x. x.text))

unfoldable pub did_close_text_document_params_row : Row DidCloseTextDocumentParams
did_close_text_document_params_row = fields (
    required "textDocument" text_document_identifier_row (λ x. x.text_document))

unfoldable pub publish_diagnostics_params_row : Row PublishDiagnosticsParams
publish_diagnostics_params_row = fields (
    required "uri" uri_row (λ x. x.uri) &
    required "diagnostics" (list diagnostic_row) (λ x. x.diagnostics) &
    omitted "version" i32 (λ x. x.version))
