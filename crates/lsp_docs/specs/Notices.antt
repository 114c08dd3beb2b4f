-- The documents after a session, and what `docs/text` tells of them: by the notifications of documents that were begun.
use Rattle.std.specs.Prelude.{◌≡◌, ◌≤◌, ℕ, List, [], ◌∷◌, Option, Some, None, map}
use Rattle.serde_json.specs.Data.{Data}
use Rattle.lsp_rpc.specs.Message.{IdData, MessageData, ResponseData, request, response}
use Rattle.lsp_work.specs.Document.{did_open_text_document_params_row, did_change_text_document_params_row, did_close_text_document_params_row}
use Rattle.lsp_documents.specs.Documents.{DocumentMap, Notification, documents_from}
use Rattle.lsp_methods.specs.declared.method.Method.TheVariants as methods
use Rattle.lsp_methods.specs.declared.method.SyncMethod.TheVariants as sync
use Rattle.lsp_session.specs.declared.table.Entry.{Entry}
use Rattle.lsp_session.specs.Admission.{Starts}
use Rattle.lsp_session.specs.Begins.{Begin, started}
use Rattle.lsp_session.specs.Item.{ItemData}
use Rattle.lsp_session.specs.Run.{Order, Picked, Step, Run, admission_of}
use Rattle.lsp_session.specs.Semantics.{Semantics}
use Rattle.lsp_session.specs.State.{State, Effect}
use Rattle.lsp_service.specs.declared.incoming.Incoming.{Incoming}
use Rattle.lsp_service.specs.declared.service.LspService.{LspService}
use Rattle.lsp_service.specs.Data.{MethodCall, typed, custom}
use Rattle.lsp_docs.specs.declared.docs.DocsServer.{DocsServer}
use Rattle.lsp_docs.specs.Docs.{requested_uri, text_answer}
use Rattle.lsp_docs.specs.Params.{json_by, did_open, did_change, did_close}

-- the notification of a document that a call is, if it is one
abbrev pub notice_of : MethodCall → Option Notification
notice_of (typed (methods.Sync sync.DidOpen) p) = Some (did_open (json_by did_open_text_document_params_row p))
notice_of (typed (methods.Sync sync.DidChange) p) = Some (did_change (json_by did_change_text_document_params_row p))
notice_of (typed (methods.Sync sync.DidClose) p) = Some (did_close (json_by did_close_text_document_params_row p))
notice_of c = None

abbrev pub with_notice : Option Notification → List Notification → List Notification
with_notice None ns = ns
with_notice (Some n) ns = n ∷ ns

-- the notifications of documents among these calls, in order
abbrev pub notices : List MethodCall → List Notification
notices [] = []
notices (c ∷ cs) = with_notice (notice_of c) (notices cs)

-- the documents that the notifications of documents leave which are among these calls, from others on
abbrev pub documents_told : {C : Type 0} → (C → MethodCall) → DocumentMap → List (Begin C) → DocumentMap
documents_told {C} shown ds bs = documents_from ds (notices (map (λ (b : Begin C). shown b.call) bs))

-- in each run that starts with no work, with at least one slot and one round a step: the documents at its end are those that
-- the notifications of documents leave which were begun in it, in order of admission
abbrev pub HoldsDocuments : {T P : Type 0} → (semantics : Semantics (LspService DocsServer) Incoming T) → (semantics.Call → MethodCall) → Order P → Type 0
HoldsDocuments {P = P} semantics shown order =
    (rounds : ℕ) → 1 ≤ rounds → (s : Picked (State (LspService DocsServer) semantics.Call semantics.Task) P) → s.session.slots ≡ [] → s.session.queue ≡ [] → 1 ≤ s.session.max
    → (items : List ItemData) (e : Effect) (s2 : Picked (State (LspService DocsServer) semantics.Call semantics.Task) P) (run : Run (Step semantics order rounds) s items e s2)
    → s2.session.service.server.documents ≡ documents_told shown s.session.service.server.documents (started semantics order rounds s items e s2 run)

-- ---- `docs/text`

-- the answers among messages
abbrev pub responses_of : List MessageData → List ResponseData
responses_of [] = []
responses_of (request r ∷ ms) = responses_of ms
responses_of (response r ∷ ms) = r ∷ responses_of ms

-- this item begins `docs/text`, the one custom method, for a request with this id and with these params
pub record BeginsText {T : Type 0} (semantics : Semantics (LspService DocsServer) Incoming T) (shown : semantics.Call → MethodCall) (s : State (LspService DocsServer) semantics.Call semantics.Task) (item : ItemData) (i : IdData) (p : Option Data) : Type 0 where
  pub entry : Entry
  pub call : semantics.Call
  pub number : ℕ
  pub starts : (admission_of semantics s item).verdict ≡ Starts (Some i) entry call
  pub is : shown call ≡ custom number p

-- after each such run, the step of an item that begins `docs/text` answers it and nothing else: with what the documents give
-- that the notifications of documents leave which were begun before it, in order of admission
abbrev pub AnswersTexts : {T P : Type 0} → (semantics : Semantics (LspService DocsServer) Incoming T) → (semantics.Call → MethodCall) → Order P → Type 0
AnswersTexts {P = P} semantics shown order =
    (rounds : ℕ) → 1 ≤ rounds → (s : Picked (State (LspService DocsServer) semantics.Call semantics.Task) P) → s.session.slots ≡ [] → s.session.queue ≡ [] → 1 ≤ s.session.max
    → (items : List ItemData) (e : Effect) (mid : Picked (State (LspService DocsServer) semantics.Call semantics.Task) P) (run : Run (Step semantics order rounds) s items e mid)
    → (item : ItemData) (i : IdData) (p : Option Data) → BeginsText semantics shown mid.session item i p
    → (added : Effect) (s2 : Picked (State (LspService DocsServer) semantics.Call semantics.Task) P) → Step semantics order rounds mid item added s2
    → responses_of added.out ≡ record {
      id = i;
      body = text_answer (documents_told shown s.session.service.server.documents (started semantics order rounds s items e mid run)) (requested_uri p);
    } ∷ []
