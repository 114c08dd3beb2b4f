-- Rows: notebooks, and the notifications on them.
use Rattle.lsp_shape.specs.Row.{Row, fields, i32, list, object, omitted, required, string, truth, u32, ◌&◌}
use Rattle.lsp_uri.specs.Uri.{uri_row}
use Rattle.lsp_base.specs.Document.{text_document_content_change_event_row, text_document_identifier_row, text_document_item_row, versioned_text_document_identifier_row}
use Rattle.lsp_report.specs.CellKind.{notebook_cell_kind_row}
use Rattle.lsp_report.specs.declared.notebook.DidChangeNotebookDocumentParams.{DidChangeNotebookDocumentParams}
use Rattle.lsp_report.specs.declared.notebook.DidCloseNotebookDocumentParams.{DidCloseNotebookDocumentParams}
use Rattle.lsp_report.specs.declared.notebook.DidOpenNotebookDocumentParams.{DidOpenNotebookDocumentParams}
use Rattle.lsp_report.specs.declared.notebook.DidSaveNotebookDocumentParams.{DidSaveNotebookDocumentParams}
use Rattle.lsp_report.specs.declared.notebook.ExecutionSummary.{ExecutionSummary}
use Rattle.lsp_report.specs.declared.notebook.NotebookCell.{NotebookCell}
use Rattle.lsp_report.specs.declared.notebook.NotebookCellArrayChange.{NotebookCellArrayChange}
use Rattle.lsp_report.specs.declared.notebook.NotebookDocument.{NotebookDocument}
use Rattle.lsp_report.specs.declared.notebook.NotebookDocumentCellChange.{NotebookDocumentCellChange}
use Rattle.lsp_report.specs.declared.notebook.NotebookDocumentCellChangeStructure.{NotebookDocumentCellChangeStructure}
use Rattle.lsp_report.specs.declared.notebook.NotebookDocumentChangeEvent.{NotebookDocumentChangeEvent}
use Rattle.lsp_report.specs.declared.notebook.NotebookDocumentChangeTextContent.{NotebookDocumentChangeTextContent}
use Rattle.lsp_report.specs.declared.notebook.NotebookDocumentIdentifier.{NotebookDocumentIdentifier}
use Rattle.lsp_report.specs.declared.notebook.VersionedNotebookDocumentIdentifier.{VersionedNotebookDocumentIdentifier}

unfoldable pub execution_summary_row : Row ExecutionSummary
execution_summary_row = fields (
    required "executionOrder" u32 (λ x. x.execution_order) &
    omitted "success" truth (λ x. x.success))

unfoldable pub notebook_cell_row : Row NotebookCell
notebook_cell_row = fields (
    required "kind" notebook_cell_kind_row (λ x. x.kind) &
    required "document" uri_row (λ x. x.document) &
    omitted "metadata" object (λ x. x.metadata) &
    omitted "executionSummary" execution_summary_row (λ x. x.execution_summary))

unfoldable pub notebook_document_row : Row NotebookDocument
notebook_document_row = fields (
    required "uri" uri_row (λ x. x.uri) &
    required "notebookType" string (λ x. x.notebook_type) &
    required "version" i32 (λ x. x.version) &
    omitted "metadata" object (λ x. x.metadata) &
    required "cells" (list notebook_cell_row) (λ x. x.cells))

unfoldable pub did_open_notebook_document_params_row : Row DidOpenNotebookDocumentParams
did_open_notebook_document_params_row = fields (
    required "notebookDocument" notebook_document_row (λ x. x.notebook_document) &
    required "cellTextDocuments" (list text_document_item_row) (λ x. x.cell_text_documents))

unfoldable pub versioned_notebook_document_identifier_row : Row VersionedNotebookDocumentIdentifier
versioned_notebook_document_identifier_row = fields (
    required "version" i32 (λ x. x.version) &
    required "uri" uri_row (λ x. x.uri))

unfoldable pub notebook_cell_array_change_row : Row NotebookCellArrayChange
notebook_cell_array_change_row = fields (
    required "start" u32 (λ x. x.start) &
    required "deleteCount" u32 (λ x. x.delete_count) &
    omitted "cells" (list notebook_cell_row) (λ x. x.cells))

unfoldable pub notebook_document_cell_change_structure_row : Row NotebookDocumentCellChangeStructure
notebook_document_cell_change_structure_row = fields (
    required "array" notebook_cell_array_change_row (λ x. x.array) &
    omitted "didOpen" (list text_document_item_row) (λ x. x.did_open) &
    omitted "didClose" (list text_document_identifier_row) (λ x. x.did_close))

unfoldable pub notebook_document_change_text_content_row : Row NotebookDocumentChangeTextContent
notebook_document_change_text_content_row = fields (
    required "document" versioned_text_document_identifier_row (λ x. x.document) &
    required "changes" (list text_document_content_change_event_row) (λ x. x.changes))

unfoldable pub notebook_document_cell_change_row : Row NotebookDocumentCellChange
notebook_document_cell_change_row = fields (
    omitted "structure" notebook_document_cell_change_structure_row (λ x. x.structure) &
    omitted "data" (list notebook_cell_row) (λ x. x.payload) &
    omitted "textContent" (list notebook_document_change_text_content_row) (λ x. x.text_content))

unfoldable pub notebook_document_change_event_row : Row NotebookDocumentChangeEvent
notebook_document_change_event_row = fields (
    omitted "metadata" object (λ x. x.metadata) &
    omitted "cells" notebook_document_cell_change_row (λ x. x.cells))

unfoldable pub did_change_notebook_document_params_row : Row DidChangeNotebookDocumentParams
did_change_notebook_document_params_row = fields (
    required "notebookDocument" versioned_notebook_document_identifier_row (λ x. x.notebook_document) &
    required "change" notebook_document_change_event_row (λ x. x.change))

unfoldable pub notebook_document_identifier_row : Row NotebookDocumentIdentifier
notebook_document_identifier_row = fields (
    required "uri" uri_row (λ x. x.uri))

unfoldable pub did_save_notebook_document_params_row : Row DidSaveNotebookDocumentParams
did_save_notebook_document_params_row = fields (
    required "notebookDocument" notebook_document_identifier_row (λ x. x.notebook_document))

unfoldable pub did_close_notebook_document_params_row : Row DidCloseNotebookDocumentParams
did_close_notebook_document_params_row = fields (
    required "notebookDocument" notebook_document_identifier_row (λ x. x.notebook_document) &
    required "cellTextDocuments" (list text_document_identifier_row) (λ x. x.cell_text_documents))
