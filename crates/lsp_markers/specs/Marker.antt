-- What the marker of a method has: its name, and the shapes of its params and its result. Where there are no params, and where a notification has no result, that is null's shape.
use Prim.Native.String.{String as Name}
use Rattle.std.specs.Prelude.{◌≡◌, ℕ, List, Option, Some, None, codes}
use Rattle.lsp_shape.specs.Shape.{Shape, nil}
use Rattle.lsp_shape.specs.Row.{any, list, maybe, object}
use Rattle.lsp_base.specs.Document.{workspace_folder_row}
use Rattle.lsp_base.specs.Edit.{one_of_row}
use Rattle.lsp_base.specs.Position.{cancel_params_row}
use Rattle.lsp_offer_work.specs.Registration.{registration_params_row, unregistration_params_row}
use Rattle.lsp_report.specs.Notebook.{did_change_notebook_document_params_row, did_close_notebook_document_params_row, did_open_notebook_document_params_row, did_save_notebook_document_params_row}
use Rattle.lsp_work.specs.Document.{publish_diagnostics_params_row}
use Rattle.lsp_work.specs.Progress.{progress_params_row, work_done_progress_cancel_params_row, work_done_progress_create_params_row}
use Rattle.lsp_work.specs.Window.{log_message_params_row, log_trace_params_row, message_action_item_row, set_trace_params_row, show_document_params_row, show_document_result_row, show_message_params_row, show_message_request_params_row}
use Rattle.lsp_work.specs.Workspace.{apply_workspace_edit_params_row, apply_workspace_edit_response_row, configuration_params_row}
use Rattle.lsp_lang_goto.specs.Symbols.{workspace_symbol_response_row}
use Rattle.lsp_session.specs.declared.table.Kind.TheVariants as kinds
use Rattle.lsp_methods.specs.Methods.{method_row}
use Rattle.lsp_methods.specs.Shapes.{params_shape, result_shape}
use Rattle.lsp_methods.specs.declared.method.Method.{Method}
use Rattle.lsp_markers.specs.declared.method.AskedMethod.{AskedMethod}
use Rattle.lsp_markers.specs.declared.method.AskedMethod.TheVariants as asked
use Rattle.lsp_markers.specs.declared.method.ToldMethod.{ToldMethod}
use Rattle.lsp_markers.specs.declared.method.ToldMethod.TheVariants as told

abbrev nil_unless : Option Shape → Shape
nil_unless None = nil
nil_unless (Some s) = s

-- the params of a method that a client calls on a server
abbrev pub served_params : Method → Shape
served_params m = nil_unless (params_shape m)

pub record MarkerRow : Type 0 where
  pub name : List ℕ
  pub params : Shape
  pub result : Shape

abbrev answered_by : Name → Shape → Shape → MarkerRow
answered_by name params result = record { name = codes name; params = params; result = result }

abbrev noted : Name → Shape → MarkerRow
noted name params = record { name = codes name; params = params; result = nil }

-- what a server asks of its client
abbrev pub asked_row : AskedMethod → MarkerRow
asked_row asked.RegisterCapability = answered_by "client/registerCapability" registration_params_row.shape nil
asked_row asked.UnregisterCapability = answered_by "client/unregisterCapability" unregistration_params_row.shape nil
asked_row asked.ShowMessage = answered_by "window/showMessageRequest" show_message_request_params_row.shape (maybe message_action_item_row).shape
asked_row asked.ShowDocument = answered_by "window/showDocument" show_document_params_row.shape show_document_result_row.shape
asked_row asked.CreateProgress = answered_by "window/workDoneProgress/create" work_done_progress_create_params_row.shape nil
asked_row asked.RefreshCodeLenses = answered_by "workspace/codeLens/refresh" nil nil
asked_row asked.RefreshSemanticTokens = answered_by "workspace/semanticTokens/refresh" nil nil
asked_row asked.RefreshInlineValues = answered_by "workspace/inlineValue/refresh" nil nil
asked_row asked.RefreshInlayHints = answered_by "workspace/inlayHint/refresh" nil nil
asked_row asked.RefreshDiagnostics = answered_by "workspace/diagnostic/refresh" nil nil
asked_row asked.Configuration = answered_by "workspace/configuration" configuration_params_row.shape (list any).shape
asked_row asked.WorkspaceFolders = answered_by "workspace/workspaceFolders" nil (maybe (list workspace_folder_row)).shape
asked_row asked.ApplyEdit = answered_by "workspace/applyEdit" apply_workspace_edit_params_row.shape apply_workspace_edit_response_row.shape

-- what isn't answered, and stands in no table
abbrev pub told_row : ToldMethod → MarkerRow
told_row told.ShowMessage = noted "window/showMessage" show_message_params_row.shape
told_row told.LogMessage = noted "window/logMessage" log_message_params_row.shape
told_row told.Telemetry = noted "telemetry/event" (one_of_row object (list any)).shape
told_row told.PublishDiagnostics = noted "textDocument/publishDiagnostics" publish_diagnostics_params_row.shape
told_row told.SetTrace = noted "$/setTrace" set_trace_params_row.shape
told_row told.LogTrace = noted "$/logTrace" log_trace_params_row.shape
told_row told.Progress = noted "$/progress" progress_params_row.shape
told_row told.CancelProgress = noted "window/workDoneProgress/cancel" work_done_progress_cancel_params_row.shape
told_row told.OpenNotebook = noted "notebookDocument/didOpen" did_open_notebook_document_params_row.shape
told_row told.ChangeNotebook = noted "notebookDocument/didChange" did_change_notebook_document_params_row.shape
told_row told.SaveNotebook = noted "notebookDocument/didSave" did_save_notebook_document_params_row.shape
told_row told.CloseNotebook = noted "notebookDocument/didClose" did_close_notebook_document_params_row.shape
told_row told.Cancel = noted "$/cancelRequest" cancel_params_row.shape
told_row told.Exit = noted "exit" nil

-- ---- what a marker is to its method: it has the name of the method, and the shapes of its params and its result

-- a request that a client makes, by what its result may be
abbrev IsAnsweredAs : Shape → Method → List ℕ → Shape → Shape → Type 0
IsAnsweredAs wanted m name params result =
    ((method_row m).kind ≡ kinds.Request) × (name ≡ (method_row m).name) × (params ≡ served_params m) × (result ≡ wanted)

abbrev pub IsAnsweredMarker : Method → List ℕ → Shape → Shape → Type 0
IsAnsweredMarker m = IsAnsweredAs (result_shape m) m

-- The request for symbols of a workspace. The marker's result may also be a list of the newer `WorkspaceSymbol`, as in the Rust
-- crate of that name; the method's is the older one.
abbrev pub IsSymbolsMarker : Method → List ℕ → Shape → Shape → Type 0
IsSymbolsMarker = IsAnsweredAs (maybe workspace_symbol_response_row).shape

-- a notification that a client sends
abbrev pub IsNotedMarker : Method → List ℕ → Shape → Type 0
IsNotedMarker m name params = ((method_row m).kind ≡ kinds.Notification) × (name ≡ (method_row m).name) × (params ≡ served_params m)

-- what a server asks of its client
abbrev pub IsAskedMarker : AskedMethod → List ℕ → Shape → Shape → Type 0
IsAskedMarker m name params result = (name ≡ (asked_row m).name) × (params ≡ (asked_row m).params) × (result ≡ (asked_row m).result)

-- what isn't answered
abbrev pub IsToldMarker : ToldMethod → List ℕ → Shape → Type 0
IsToldMarker m name params = (name ≡ (told_row m).name) × (params ≡ (told_row m).params)
