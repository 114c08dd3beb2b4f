-- What the code's typed calls come to. A lemma (proofs/ShownLemmas.antt) says that it is `docs_turn` of the calls that they show.
use Rattle.std.specs.Prelude.{Bool, false, option_map, Result, Ok, Err, map, string_bytes}
use Rattle.std.specs.FinMap as fin
use Rattle.std.specs.Str.{chars}
use Rattle.serde_json.specs.View.{view}
use Rattle.lsp_rpc.specs.declared.code.ErrorCode.TheVariants.{MethodNotFound}
use Rattle.lsp_rpc.specs.declared.error.Error.{Error}
use Rattle.lsp_rpc.specs.Message.{error_with_code}
use Rattle.lsp_rpc.specs.Shown.{show_error}
use Rattle.lsp_uri.specs.Uri.{uri_text}
use Rattle.lsp_work.specs.declared.document.DidChangeTextDocumentParams.{DidChangeTextDocumentParams}
use Rattle.lsp_work.specs.declared.document.DidCloseTextDocumentParams.{DidCloseTextDocumentParams}
use Rattle.lsp_work.specs.declared.document.DidOpenTextDocumentParams.{DidOpenTextDocumentParams}
use Rattle.lsp_documents.specs.Documents.{DocumentMap, Notification, Opened, Changed, Closed, change_of}
use Rattle.lsp_documents.specs.OpenDocument.{document_of}
use Rattle.lsp_methods.specs.declared.method.Method.TheVariants as methods
use Rattle.lsp_methods.specs.declared.method.LifeMethod.TheVariants as life
use Rattle.lsp_service.specs.declared.call.Call.{Call}
use Rattle.lsp_service.specs.declared.call.Call.TheVariants as calls
use Rattle.lsp_service.specs.declared.call.LifeCall.{LifeCall}
use Rattle.lsp_service.specs.declared.call.LifeCall.TheVariants as life_calls
use Rattle.lsp_service.specs.declared.call.SyncCall.{SyncCall}
use Rattle.lsp_service.specs.declared.call.SyncCall.TheVariants as sync_calls
use Rattle.lsp_service.specs.Data.{MethodReply, answer, custom_answer, refusal, nil_row}
use Rattle.lsp_docs.specs.Docs.{DocsTurn, replies, tells, initialize_answer, requested_uri, text_answer}

abbrev pub opening_of : DidOpenTextDocumentParams → Notification
opening_of p = Opened (uri_text p.text_document.uri) (document_of p.text_document.version (chars (string_bytes p.text_document.text)))

abbrev pub changes_of : DidChangeTextDocumentParams → Notification
changes_of p = Changed (uri_text p.text_document.uri) p.text_document.version (map change_of p.content_changes.items)

abbrev pub closing_of : DidCloseTextDocumentParams → Notification
closing_of p = Closed (uri_text p.text_document.uri)

-- no such method
abbrev pub unknown_turn : DocsTurn
unknown_turn = replies (refusal (error_with_code MethodNotFound))

abbrev pub life_turn : LifeCall → DocsTurn
life_turn (life_calls.Initialize p) = replies initialize_answer
life_turn (life_calls.Initialized p) = unknown_turn
life_turn life_calls.Shutdown = replies (answer (methods.Life life.Shutdown) (Ok (nil_row.shown tt)))

abbrev pub sync_turn : SyncCall → DocsTurn
sync_turn (sync_calls.DidOpen p) = tells (opening_of p.value)
sync_turn (sync_calls.DidChange p) = tells (changes_of p.value)
sync_turn (sync_calls.DidClose p) = tells (closing_of p.value)
sync_turn c = unknown_turn

abbrev pub call_turn : DocumentMap → Call → DocsTurn
call_turn ds (calls.Life c) = life_turn c
call_turn ds (calls.Sync c) = sync_turn c
call_turn ds (calls.Custom n params) = replies (custom_answer (text_answer ds (requested_uri (option_map view params))))
call_turn ds c = unknown_turn

-- a close of an open document
abbrev pub closes_open : DocsTurn → DocumentMap → Bool
closes_open (tells (Closed uri)) ds = fin.contains_key ds uri
closes_open turn ds = false

-- the reply that was made, or an error, whatever was asked
abbrev pub reply_or_error : {A : Type 0} → (A → MethodReply) → Result A Error → MethodReply
reply_or_error show (Ok x) = show x
reply_or_error show (Err e) = refusal (show_error e)
