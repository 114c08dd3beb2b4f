-- Rows: documents that are opened, changed, saved and closed.
use Rattle.lsp_shape.specs.Row.{Row, fields, omitted, truth, ◌&◌}
use Rattle.lsp_caps_text.specs.declared.sync.TextDocumentSyncClientCapabilities.{TextDocumentSyncClientCapabilities}

unfoldable pub text_document_sync_client_capabilities_row : Row TextDocumentSyncClientCapabilities
text_document_sync_client_capabilities_row = fields (
    omitted "dynamicRegistration" truth (λ x. x.dynamic_registration) &
    omitted "willSave" truth (λ x. x.will_save) &
    omitted "willSaveWaitUntil" truth (λ x. x.will_save_wait_until) &
    omitted "didSave" truth (λ x. x.did_save))
