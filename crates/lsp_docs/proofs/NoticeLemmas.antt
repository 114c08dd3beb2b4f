-- The documents after the calls of a session, and the answers to `docs/text`.
use Rattle.std.proofs.Common.{◌≡◌, ℕ, List, [], ◌∷◌, false, cond, map, Option, Some, None, refl, ap, ◌∙◌, subst}
use Rattle.std.specs.Prelude.{ℤ, pos, negsuc, Result, Ok, unwrap_or}
use Rattle.std.specs.FinMap as fin
use Rattle.serde_json.specs.Data.{Data}
use Rattle.serde_json.specs.Written.{has_float}
use Rattle.lsp_rpc.specs.Message.{ErrorData}
use Rattle.lsp_desk.specs.Trace.{DeskEntry}
use Rattle.lsp_documents.specs.Documents.{DocumentMap, Notification, accepted, documents_from}
use Rattle.lsp_documents.specs.OpenDocument.{OpenDocument, document_of}
use Rattle.lsp_methods.specs.declared.method.Method.TheVariants as methods
use Rattle.lsp_methods.specs.declared.method.LifeMethod.TheVariants as life
use Rattle.lsp_methods.specs.declared.method.SyncMethod.TheVariants as sync
use Rattle.lsp_session.specs.declared.table.Kind.{Kind}
use Rattle.lsp_session.specs.Begins.{Begin}
use Rattle.lsp_session.specs.Run.{Order, answers_owed}
use Rattle.lsp_session.specs.Semantics.{Progress, Done}
use Rattle.lsp_service.specs.declared.server.NoTask.{NoTask}
use Rattle.lsp_service.specs.declared.service.LspService.{LspService}
use Rattle.lsp_service.specs.declared.call.Target.TheVariants as targets
use Rattle.lsp_service.specs.Calls.{target_of}
use Rattle.lsp_service.specs.Data.{MethodCall, typed, custom, IncomingCall, MethodReply, mismatch, outcome_by, unless_float}
use Rattle.lsp_service.specs.Service.{service_semantics, outcome_of, progress_of, KeptTask}
use Rattle.lsp_docs.specs.declared.docs.DocsServer.{DocsServer}
use Rattle.lsp_docs.specs.Docs.{docs_turn, TurnsTo, docs_semantics, document_data, found_data, requested_uri, text_answer}
use Rattle.lsp_docs.specs.Notices.{notice_of, with_notice, notices, documents_told, responses_of, HoldsDocuments, AnswersTexts}
use Rattle.lsp_docs.proofs.BegunLemmas.{LeadsOn, run_leads, step_answers}

-- the documents after a call that may be a notification of one
abbrev after_notice : Option Notification → DocumentMap → DocumentMap
after_notice None ds = ds
after_notice (Some n) ds = unwrap_or (accepted n ds) ds

-- a turn leaves the documents that its notification leaves
turn_leaves : (ds ds2 : DocumentMap) (c : MethodCall) (reply : MethodReply) → TurnsTo (docs_turn ds c) ds ds2 reply → ds2 ≡ after_notice (notice_of c) ds
turn_leaves ds ds2 (typed (methods.Life life.Initialize) p) reply h = h.0
turn_leaves ds ds2 (typed (methods.Life life.Initialized) p) reply h = h.0
turn_leaves ds ds2 (typed (methods.Life life.Shutdown) p) reply h = h.0
turn_leaves ds ds2 (typed (methods.Sync sync.DidOpen) p) reply h = h.0
turn_leaves ds ds2 (typed (methods.Sync sync.DidChange) p) reply h = h.0
turn_leaves ds ds2 (typed (methods.Sync sync.WillSave) p) reply h = h.0
turn_leaves ds ds2 (typed (methods.Sync sync.WillSaveWaitUntil) p) reply h = h.0
turn_leaves ds ds2 (typed (methods.Sync sync.DidSave) p) reply h = h.0
turn_leaves ds ds2 (typed (methods.Sync sync.DidClose) p) reply h = h.0
turn_leaves ds ds2 (typed (methods.Goto m) p) reply h = h.0
turn_leaves ds ds2 (typed (methods.Hierarchy m) p) reply h = h.0
turn_leaves ds ds2 (typed (methods.Show m) p) reply h = h.0
turn_leaves ds ds2 (typed (methods.Token m) p) reply h = h.0
turn_leaves ds ds2 (typed (methods.Edit m) p) reply h = h.0
turn_leaves ds ds2 (typed (methods.Work m) p) reply h = h.0
turn_leaves ds ds2 (custom n p) reply h = h.0

-- ---- the answer to `docs/text`

no_float : (version : ℤ) (text : List ℕ) → has_float (document_data (document_of version text)) ≡ false
no_float (pos n) text = refl
no_float (negsuc n) text = refl

-- it holds no float, so it is sent as it is
sent : (ds : DocumentMap) (uri : Option (List ℕ)) → unless_float (text_answer ds uri) ≡ text_answer ds uri
sent ds None = refl
sent ds (Some uri) = found (fin.get ds uri)
  where
    found : (o : Option OpenDocument) → unless_float (Ok (found_data o)) ≡ Ok (found_data o)
    found None = refl
    found (Some d) = ap (λ b. cond b mismatch (Ok (document_data d))) (no_float d.version d.text)

text_given : (c : IncomingCall) (ds ds2 : DocumentMap) (reply : MethodReply) → TurnsTo (docs_turn ds c.call) ds ds2 reply → (n : ℕ) (p : Option Data) → c.call ≡ custom n p → outcome_of c reply ≡ text_answer ds (requested_uri p)
text_given c ds ds2 reply h n p is =
    let turns : TurnsTo (docs_turn ds (custom n p)) ds ds2 reply = subst (λ x. TurnsTo (docs_turn ds x) ds ds2 reply) is h in
    ap (λ x. outcome_by (target_of x c.kind) reply) is ∙ ap (outcome_by (targets.Custom c.kind)) turns.1 ∙ sent ds (requested_uri p)

-- ---- runs

-- a call leads from documents to others
abbrev LeadsTo : IncomingCall → DocumentMap → DocumentMap → Type 0
LeadsTo c ds ds2 = ds2 ≡ after_notice (notice_of c.call) ds

-- and has this outcome, if it is `docs/text`
abbrev Gives : IncomingCall → DocumentMap → Result Data ErrorData → Type 0
Gives c ds outcome = (n : ℕ) (p : Option Data) → c.call ≡ custom n p → outcome ≡ text_answer ds (requested_uri p)

abbrev documents_in : LspService DocsServer → DocumentMap
documents_in s = s.server.documents

left_by : (bs : List (Begin IncomingCall)) (ds ds2 : DocumentMap) → LeadsOn LeadsTo bs ds ds2 → ds2 ≡ documents_told (λ (c : IncomingCall). c.call) ds bs
left_by [] ds ds2 h = h
left_by (b ∷ bs) ds ds2 h = left_by bs h.0 ds2 h.2 ∙ ap (λ x. documents_told (λ (c : IncomingCall). c.call) x bs) h.1 ∙ one (notice_of b.call.call) (notices (map (λ (b : Begin IncomingCall). b.call.call) bs))
  where
    one : (o : Option Notification) (ns : List Notification) → documents_from (after_notice o ds) ns ≡ documents_from ds (with_notice o ns)
    one None ns = refl
    one (Some n) ns = refl

module _ {T P : Type 0} (task : T → NoTask) (kind : T → Kind) (order : Order P) where
  -- each call ends at its first poll
  ends_at_once : (s : LspService DocsServer) (c : IncomingCall) (asked : List DeskEntry) (s2 : LspService DocsServer) (progress : Progress (KeptTask NoTask)) → (service_semantics docs_semantics task kind).begins s c asked s2 progress
      → (outcome : Result Data ErrorData) × (progress ≡ Done outcome) × Gives c s.server.documents outcome × LeadsTo c s.server.documents s2.server.documents
  ends_at_once s c asked s2 progress p = (
    outcome_of c p.polled.reply,
    p.gives ∙ ap (progress_of c) p.polled.is,
    text_given c s.server.documents s2.server.documents p.polled.reply p.polled.turns,
    turn_leaves s.server.documents s2.server.documents c.call p.polled.reply p.polled.turns,
  )

  pub holds_documents : HoldsDocuments (service_semantics docs_semantics task kind) (λ (c : IncomingCall). c.call) order
  holds_documents rounds some s no_slots no_queue slots items e s2 run =
      left_by _ _ _ (run_leads (service_semantics docs_semantics task kind) order documents_in LeadsTo Gives ends_at_once rounds some s items e s2
      (record { no_slots = no_slots; no_queue = no_queue; has_slots = slots }) run).1

  pub answers_texts : AnswersTexts (service_semantics docs_semantics task kind) (λ (c : IncomingCall). c.call) order
  answers_texts rounds some s no_slots no_queue slots items e mid run item i p begins added s2 step =
      let led = run_leads (service_semantics docs_semantics task kind) order documents_in LeadsTo Gives ends_at_once rounds some s items e mid
      (record { no_slots = no_slots; no_queue = no_queue; has_slots = slots }) run in
      let told = step_answers (service_semantics docs_semantics task kind) order documents_in LeadsTo Gives ends_at_once rounds some mid item added s2 led.0 step
      (record { id = Some i; entry = begins.entry; call = begins.call }) begins.starts in
      told.answered
      ∙ ap (λ x. responses_of (answers_owed (Some i) x)) (told.given begins.number p begins.is ∙ ap (λ ds. text_answer ds (requested_uri p)) (left_by _ _ _ led.1))
