-- Rows: windows.
use Rattle.lsp_shape.specs.Row.{Row, fields, omitted, required, truth, ◌&◌}
use Rattle.lsp_caps_work.specs.declared.window.MessageActionItemCapabilities.{MessageActionItemCapabilities}
use Rattle.lsp_caps_work.specs.declared.window.ShowDocumentClientCapabilities.{ShowDocumentClientCapabilities}
use Rattle.lsp_caps_work.specs.declared.window.ShowMessageRequestClientCapabilities.{ShowMessageRequestClientCapabilities}
use Rattle.lsp_caps_work.specs.declared.window.WindowClientCapabilities.{WindowClientCapabilities}

unfoldable pub message_action_item_capabilities_row : Row MessageActionItemCapabilities
message_action_item_capabilities_row = fields (
    omitted "additionalPropertiesSupport" truth (λ x. x.additional_properties_support))

unfoldable pub show_message_request_client_capabilities_row : Row ShowMessageRequestClientCapabilities
show_message_request_client_capabilities_row = fields (
    omitted "messageActionItem" message_action_item_capabilities_row (λ x. x.message_action_item))

unfoldable pub show_document_client_capabilities_row : Row ShowDocumentClientCapabilities
show_document_client_capabilities_row = fields (
    required "support" truth (λ x. x.support))

unfoldable pub window_client_capabilities_row : Row WindowClientCapabilities
window_client_capabilities_row = fields (
    omitted "workDoneProgress" truth (λ x. x.work_done_progress) &
    omitted "showMessage" show_message_request_client_capabilities_row (λ x. x.show_message) &
    omitted "showDocument" show_document_client_capabilities_row (λ x. x.show_document))
