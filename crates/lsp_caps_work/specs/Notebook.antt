-- Rows: notebooks.
use Rattle.lsp_shape.specs.Row.{Row, fields, omitted, required, truth, ◌&◌}
use Rattle.lsp_caps_work.specs.declared.notebook.NotebookDocumentClientCapabilities.{NotebookDocumentClientCapabilities}
use Rattle.lsp_caps_work.specs.declared.notebook.NotebookDocumentSyncClientCapabilities.{NotebookDocumentSyncClientCapabilities}

unfoldable pub notebook_document_sync_client_capabilities_row : Row NotebookDocumentSyncClientCapabilities
notebook_document_sync_client_capabilities_row = fields (
    omitted "dynamicRegistration" truth (λ x. x.dynamic_registration) &
    omitted "executionSummaryReport" truth (λ x. x.execution_summary_report))

unfoldable pub notebook_document_client_capabilities_row : Row NotebookDocumentClientCapabilities
notebook_document_client_capabilities_row = fields (
    required "synchronization" notebook_document_sync_client_capabilities_row (λ x. x.synchronization))
