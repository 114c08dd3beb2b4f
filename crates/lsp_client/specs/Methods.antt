-- The one call on the desk that each call of a client is: the method, the params, and whether it waits for `initialize` (LSP 3.17, each method's section).
use Rattle.std.specs.Prelude.{ℕ, ℤ, List, true, false, Option, Vec, codes}
use Rattle.std.specs.declared.alloc.Global.{Global}
use Rattle.serde_json.specs.Data.{Data, null, boolean, number, string, array, object, no_items, item, Members, no_members, member}
use Rattle.serde_json.specs.Find.{of_integer}
use Rattle.lsp_shape.specs.Write.{write, put_present}
use Rattle.lsp_shape.specs.Shown.{show_option, show_signed}
use Rattle.lsp_shape.specs.Shape.{i32_shape}
use Rattle.lsp_shape.specs.Row.{Row, list}
use Rattle.lsp_uri.specs.declared.uri.Uri.{Uri}
use Rattle.lsp_uri.specs.Uri.{uri_text}
use Rattle.lsp_base.specs.declared.diagnostic.Diagnostic.{Diagnostic}
use Rattle.lsp_base.specs.Diagnostic.{diagnostic_row}
use Rattle.lsp_base.specs.declared.workspace_edit.WorkspaceEdit.{WorkspaceEdit}
use Rattle.lsp_base.specs.WorkspaceEdit.{workspace_edit_row}
use Rattle.lsp_offer_work.specs.declared.registration.Registration.{Registration}
use Rattle.lsp_offer_work.specs.declared.registration.Unregistration.{Unregistration}
use Rattle.lsp_offer_work.specs.Registration.{registration_row, unregistration_row}
use Rattle.lsp_work.specs.declared.window.MessageActionItem.{MessageActionItem}
use Rattle.lsp_work.specs.declared.window.ShowDocumentParams.{ShowDocumentParams}
use Rattle.lsp_work.specs.declared.workspace.ConfigurationItem.{ConfigurationItem}
use Rattle.lsp_work.specs.Window.{message_action_item_row, show_document_params_row}
use Rattle.lsp_work.specs.Workspace.{configuration_item_row}
use Rattle.lsp_desk.specs.Call.{Call, Ask, Tell}

-- what is written for a value
abbrev pub written_by_row : {A : Type 0} → Row A → A → Data
written_by_row r x = write r.shape (r.shown x)

-- an object with one member
abbrev pub one_member : List ℕ → Data → Data
one_member name d = object (member name d no_members)

-- ---- what a client is able to do

abbrev pub register_capability_call : Vec Registration Global → Call
register_capability_call registrations = Ask (codes "client/registerCapability") (one_member (codes "registrations") (written_by_row (list registration_row) registrations)) true

-- the standard itself spells the member so
abbrev pub unregister_capability_call : Vec Unregistration Global → Call
unregister_capability_call unregistrations = Ask (codes "client/unregisterCapability") (one_member (codes "unregisterations") (written_by_row (list unregistration_row) unregistrations)) true

-- ---- messages and documents that are shown

abbrev pub message_members : ℤ → List ℕ → Members
message_members typ message = member (codes "message") (string message) (member (codes "type") (number (of_integer typ)) no_members)

abbrev pub show_message_call : ℤ → List ℕ → Call
show_message_call typ message = Tell (codes "window/showMessage") (object (message_members typ message)) false

abbrev pub log_message_call : ℤ → List ℕ → Call
log_message_call typ message = Tell (codes "window/logMessage") (object (message_members typ message)) false

-- the actions stand among the params where there are some
abbrev pub show_message_request_call : ℤ → List ℕ → Option (Vec MessageActionItem Global) → Call
show_message_request_call typ message actions =
    Ask (codes "window/showMessageRequest") (object (put_present (codes "actions") (write (list message_action_item_row).shape) (show_option (list message_action_item_row).shown actions) (message_members typ message))) false

abbrev pub show_document_call : ShowDocumentParams → Call
show_document_call params = Ask (codes "window/showDocument") (written_by_row show_document_params_row params) true

-- ---- telemetry

abbrev pub in_array : Data → Data
in_array d = array (item d no_items)

-- what is no null, no array and no object is the one item of an array
abbrev pub telemetry_params : Data → Data
telemetry_params null = null
telemetry_params (boolean b) = in_array (boolean b)
telemetry_params (number n) = in_array (number n)
telemetry_params (string s) = in_array (string s)
telemetry_params (array ds) = array ds
telemetry_params (object ms) = object ms

abbrev pub telemetry_event_call : Data → Call
telemetry_event_call d = Tell (codes "telemetry/event") (telemetry_params d) false

-- ---- what the client is to ask for again

abbrev pub refresh_call : List ℕ → Call
refresh_call method = Ask method null true

-- ---- documents and the workspace

-- the version stands among the params where there is one
abbrev pub publish_diagnostics_call : Uri → Vec Diagnostic Global → Option ℤ → Call
publish_diagnostics_call uri diagnostics version =
    Tell (codes "textDocument/publishDiagnostics") (object (put_present (codes "version") (write i32_shape) (show_option show_signed version)
    (member (codes "diagnostics") (written_by_row (list diagnostic_row) diagnostics) (member (codes "uri") (string (uri_text uri)) no_members)))) true

abbrev pub configuration_call : Vec ConfigurationItem Global → Call
configuration_call items = Ask (codes "workspace/configuration") (one_member (codes "items") (written_by_row (list configuration_item_row) items)) true

abbrev pub workspace_folders_call : Call
workspace_folders_call = Ask (codes "workspace/workspaceFolders") null true

-- with no label
abbrev pub apply_edit_call : WorkspaceEdit → Call
apply_edit_call edit = Ask (codes "workspace/applyEdit") (one_member (codes "edit") (written_by_row workspace_edit_row edit)) true
