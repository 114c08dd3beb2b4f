-- What a server that keeps its client's open documents does (LSP 3.17, "Text Document Synchronization").
use Rattle.std.specs.Prelude.{◌≡◌, ℕ, pos, Bool, true, false, List, [], ◌∷◌, codes, Option, Some, None, unwrap_or, is_none, Result, Ok, Err}
use Rattle.std.specs.Option.{option_and_then}
use Rattle.std.specs.Str.{encode_utf8_all}
use Rattle.std.specs.FinMap as map
use Rattle.serde_json.specs.Data.{Data, null, string, number, object, member, no_members}
use Rattle.serde_json.specs.Find.{get, as_str, of_integer}
use Rattle.lsp_rpc.specs.declared.code.ErrorCode.TheVariants.{InvalidParams, MethodNotFound}
use Rattle.lsp_rpc.specs.Message.{ErrorData, error_with_code}
use Rattle.lsp_session.specs.declared.table.Kind.TheVariants as kinds
use Rattle.lsp_session.specs.declared.table.Layer.TheVariants as layers
use Rattle.lsp_session.specs.Table.{MethodData}
use Rattle.lsp_desk.specs.Call.{Call as DeskCall}
use Rattle.lsp_desk.specs.Trace.{DeskEntry}
use Rattle.lsp_initialize.specs.declared.server.ServerCapabilities.{ServerCapabilities}
use Rattle.lsp_offer_text.specs.declared.sync.TextDocumentSyncCapability.TheVariants as sync_capability
use Rattle.lsp_offer_text.specs.declared.sync.TextDocumentSyncOptions.{TextDocumentSyncOptions}
use Rattle.lsp_work.specs.Document.{did_open_text_document_params_row, did_change_text_document_params_row, did_close_text_document_params_row}
use Rattle.lsp_documents.specs.Documents.{DocumentMap, Notification, accepted}
use Rattle.lsp_documents.specs.OpenDocument.{OpenDocument}
use Rattle.lsp_methods.specs.declared.method.Method.TheVariants as methods
use Rattle.lsp_methods.specs.declared.method.LifeMethod.TheVariants as life
use Rattle.lsp_methods.specs.declared.method.SyncMethod.TheVariants as sync
use Rattle.lsp_ask.specs.declared.answers.Told.{Told}
use Rattle.lsp_ask.specs.Client.{IsTold}
use Rattle.lsp_client.specs.Methods.{log_message_call}
use Rattle.lsp_service.specs.declared.server.NoTask.{NoTask}
use Rattle.lsp_service.specs.Replies.{initialize_data}
use Rattle.lsp_service.specs.Data.{MethodCall, typed, custom, MethodReply, answer, written, custom_answer, refusal, noted, nil_row}
use Rattle.lsp_service.specs.Open.{no_call}
use Rattle.lsp_service.specs.Server.{Start, Now, Later, ServerSemantics}
use Rattle.lsp_docs.specs.declared.docs.DocsServer.{DocsServer}
use Rattle.lsp_docs.specs.Params.{json_by, did_open, did_change, did_close}

-- ---- `docs/text`

-- the params are an object with a string `uri`
abbrev pub requested_uri : Option Data → Option (List ℕ)
requested_uri params = option_and_then as_str (option_and_then (get (codes "uri")) params)

abbrev pub document_data : OpenDocument → Data
document_data d = object (member (codes "text") (string (encode_utf8_all d.text)) (member (codes "version") (number (of_integer d.version)) no_members))

-- null where the document isn't open
abbrev pub found_data : Option OpenDocument → Data
found_data None = null
found_data (Some d) = document_data d

abbrev pub text_answer : DocumentMap → Option (List ℕ) → Result Data ErrorData
text_answer ds None = Err (error_with_code InvalidParams)
text_answer ds (Some uri) = Ok (found_data (map.get ds uri))

-- ---- what a call comes to

-- documents are to be told when they are opened, changed and closed, and changes in ranges
abbrev pub wanted_sync : TextDocumentSyncOptions
wanted_sync = record { open_close = Some true; change = Some (pos 2); will_save = None; will_save_wait_until = None; save = None }

-- nothing else is offered
unfoldable pub offered : ServerCapabilities
offered = record {
  position_encoding = None;
  text_document_sync = Some (sync_capability.Options wanted_sync);
  notebook_document_sync = None;
  selection_range_provider = None;
  hover_provider = None;
  completion_provider = None;
  signature_help_provider = None;
  definition_provider = None;
  type_definition_provider = None;
  implementation_provider = None;
  references_provider = None;
  document_highlight_provider = None;
  document_symbol_provider = None;
  workspace_symbol_provider = None;
  code_action_provider = None;
  code_lens_provider = None;
  document_formatting_provider = None;
  document_range_formatting_provider = None;
  document_on_type_formatting_provider = None;
  rename_provider = None;
  document_link_provider = None;
  color_provider = None;
  folding_range_provider = None;
  declaration_provider = None;
  execute_command_provider = None;
  workspace = None;
  call_hierarchy_provider = None;
  semantic_tokens_provider = None;
  moniker_provider = None;
  linked_editing_range_provider = None;
  inline_value_provider = None;
  inlay_hint_provider = None;
  diagnostic_provider = None;
  experimental = None;
}

abbrev pub initialize_answer : MethodReply
initialize_answer = written (methods.Life life.Initialize) (Ok (initialize_data (record { capabilities = offered; server_info = None })))

-- a reply, or a notification of a document
pub data DocsTurn : Type 0 where
  replies : MethodReply → DocsTurn
  tells : Notification → DocsTurn

-- by the method; what a notification tells is read off the JSON of its params
abbrev pub docs_turn : DocumentMap → MethodCall → DocsTurn
docs_turn ds (typed (methods.Life life.Initialize) p) = replies initialize_answer
docs_turn ds (typed (methods.Life life.Shutdown) p) = replies (answer (methods.Life life.Shutdown) (Ok (nil_row.shown tt)))
docs_turn ds (typed (methods.Sync sync.DidOpen) p) = tells (did_open (json_by did_open_text_document_params_row p))
docs_turn ds (typed (methods.Sync sync.DidChange) p) = tells (did_change (json_by did_change_text_document_params_row p))
docs_turn ds (typed (methods.Sync sync.DidClose) p) = tells (did_close (json_by did_close_text_document_params_row p))
docs_turn ds (custom n p) = replies (custom_answer (text_answer ds (requested_uri p)))
docs_turn ds (typed m p) = replies (refusal (error_with_code MethodNotFound))

-- the documents and the reply then
abbrev pub TurnsTo : DocsTurn → DocumentMap → DocumentMap → MethodReply → Type 0
TurnsTo (replies r) ds ds2 reply = (ds2 ≡ ds) × (reply ≡ r)
TurnsTo (tells n) ds ds2 reply = (ds2 ≡ unwrap_or (accepted n ds) ds) × (reply ≡ noted)

-- whether it is a notification that isn't accepted
abbrev pub is_refused : DocsTurn → DocumentMap → Bool
is_refused (replies r) ds = false
is_refused (tells n) ds = is_none (accepted n ds)

-- that is logged, once, as an error; nothing else is asked of the client
abbrev pub refused_call : DeskCall
refused_call = log_message_call (pos 1) (codes "refused")

abbrev pub LogsRefusal : Bool → List DeskEntry → Type 0
LogsRefusal true asked = (told : Told) × IsTold refused_call told asked
LogsRefusal false asked = asked ≡ []

-- what came of it: the documents and the reply then, and what was logged
abbrev pub TakesTurn : DocsTurn → DocumentMap → DocumentMap → MethodReply → List DeskEntry → Type 0
TakesTurn turn ds ds2 reply asked = TurnsTo turn ds ds2 reply × LogsRefusal (is_refused turn ds) asked

-- a notification was taken note of
abbrev pub Heeded : Notification → DocumentMap → DocumentMap → List DeskEntry → Type 0
Heeded n ds ds2 asked = TakesTurn (tells n) ds ds2 noted asked

-- ---- the server

-- the one custom method
abbrev pub docs_methods : List MethodData
docs_methods = record { name = codes "docs/text"; layer = layers.Normal; kind = kinds.Request } ∷ []

-- a call ends at its first poll
pub record DocsPoll (s : DocsServer) (c : MethodCall) (asked : List DeskEntry) (s2 : DocsServer) (start : Start NoTask) : Type 0 where
  pub reply : MethodReply
  pub is : start ≡ Now reply
  pub turns : TurnsTo (docs_turn s.documents c) s.documents s2.documents reply
  pub logs : LogsRefusal (is_refused (docs_turn s.documents c) s.documents) asked

-- a task, of which none is ever made, goes on
pub record DocsGoesOn (s : DocsServer) (t : NoTask) (asked : List DeskEntry) (s2 : DocsServer) (start : Start NoTask) : Type 0 where
  pub asks : asked ≡ []
  pub same : s2 ≡ s
  pub is : start ≡ Later t

pub record DocsAnswers (c : MethodCall) (r : MethodReply) : Type 0 where
  pub before : DocsServer
  pub asked : List DeskEntry
  pub after : DocsServer
  pub polled : DocsPoll before c asked after (Now r)

abbrev pub docs_semantics : ServerSemantics DocsServer NoTask
docs_semantics = record {
  Task = NoTask;
  show_task = λ t. t;
  call_of = no_call;
  begins = DocsPoll;
  resumes = DocsGoesOn;
  answers = DocsAnswers;
}
