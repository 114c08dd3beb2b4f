-- Rows: what a client sends in `initialize`.
use Rattle.lsp_shape.specs.Row.{Row, any, fields, flat, list, nullable, omitted, required, string, u32, ◌&◌}
use Rattle.lsp_uri.specs.Uri.{uri_row}
use Rattle.lsp_names.specs.Trace.{trace_value_row}
use Rattle.lsp_base.specs.Document.{workspace_folder_row}
use Rattle.lsp_base.specs.Progress.{work_done_progress_params_row}
use Rattle.lsp_caps_text.specs.TextDocument.{text_document_client_capabilities_row}
use Rattle.lsp_caps_work.specs.Client.{client_info_row}
use Rattle.lsp_caps_work.specs.General.{general_client_capabilities_row}
use Rattle.lsp_caps_work.specs.Notebook.{notebook_document_client_capabilities_row}
use Rattle.lsp_caps_work.specs.Window.{window_client_capabilities_row}
use Rattle.lsp_caps_work.specs.Workspace.{workspace_client_capabilities_row}
use Rattle.lsp_initialize.specs.declared.client.ClientCapabilities.{ClientCapabilities}
use Rattle.lsp_initialize.specs.declared.client.InitializeParams.{InitializeParams}

unfoldable pub client_capabilities_row : Row ClientCapabilities
client_capabilities_row = fields (
    omitted "workspace" workspace_client_capabilities_row (λ x. x.workspace) &
    omitted "textDocument" text_document_client_capabilities_row (λ x. x.text_document) &
    omitted "notebookDocument" notebook_document_client_capabilities_row (λ x. x.notebook_document) &
    omitted "window" window_client_capabilities_row (λ x. x.window) &
    omitted "general" general_client_capabilities_row (λ x. x.general) &
    omitted "experimental" any (λ x. x.experimental))

unfoldable pub initialize_params_row : Row InitializeParams
initialize_params_row = fields (
    nullable "processId" u32 (λ x. x.process_id) &
    omitted "rootPath" string (λ x. x.root_path) &
    nullable "rootUri" uri_row (λ x. x.root_uri) &
    omitted "initializationOptions" any (λ x. x.initialization_options) &
    required "capabilities" client_capabilities_row (λ x. x.capabilities) &
    omitted "trace" trace_value_row (λ x. x.trace) &
    omitted "workspaceFolders" (list workspace_folder_row) (λ x. x.workspace_folders) &
    omitted "clientInfo" client_info_row (λ x. x.client_info) &
    omitted "locale" string (λ x. x.locale) &
    flat work_done_progress_params_row (λ x. x.work_done_progress_params))
