-- A poll of the server comes to one end, and so does a session of it over a desk of its own.
use Rattle.std.proofs.Common.{◌≡◌, ℕ, List, [], ◌∷◌, ◌++◌, Bool, true, false, Option, Some, None, sym, ap, ◌∙◌, subst, map}
use Rattle.std.specs.Io.KnownBytes.{Appends}
use Rattle.lsp_desk.specs.Desk.{DeskState}
use Rattle.lsp_desk.specs.Meaning.{Meaning}
use Rattle.lsp_desk.specs.Trace.{DeskEntry, Replays}
use Rattle.lsp_frame.specs.Codec.{frames}
use Rattle.lsp_server.specs.Course.{course}
use Rattle.lsp_server.specs.Items.{stream_items}
use Rattle.lsp_session.proofs.SameRunLemmas.{same_run}
use Rattle.lsp_session.specs.declared.table.Entry.{Entry}
use Rattle.lsp_session.specs.declared.table.Kind.{Kind}
use Rattle.lsp_session.specs.Run.{Order, Step, Run, replied, served}
use Rattle.lsp_session.specs.Semantics.{Phase, Progress, Fresh, Held, Polls}
use Rattle.lsp_session.specs.State.{Effect}
use Rattle.lsp_session.specs.Table.{MethodData, find_in}
use Rattle.lsp_methods.specs.ServiceTable.{service_methods}
use Rattle.lsp_ask.specs.Answers.{told_reply}
use Rattle.lsp_documents.specs.Documents.{DocumentMap}
use Rattle.lsp_service.specs.declared.server.NoTask.{NoTask}
use Rattle.lsp_service.specs.declared.service.LspService.{LspService}
use Rattle.lsp_service.specs.Data.{MethodReply, IncomingCall}
use Rattle.lsp_service.specs.Server.{Now}
use Rattle.lsp_service.specs.Service.{service_semantics, kept_call, progress_of, KeptTask}
use Rattle.lsp_docs.specs.declared.docs.DocsServer.{DocsServer}
use Rattle.lsp_docs.specs.Determined.{PollsAreAFunction, SessionsAreAFunction}
use Rattle.lsp_docs.specs.Docs.{DocsTurn, replies, tells, docs_turn, TurnsTo, is_refused, refused_call, LogsRefusal, DocsPoll, docs_semantics}

-- ---- a poll

same_turn : (turn : DocsTurn) (ds a b : DocumentMap) (r r2 : MethodReply) → TurnsTo turn ds a r → TurnsTo turn ds b r2 → (b ≡ a) × (r2 ≡ r)
same_turn (replies x) ds a b r r2 h k = (k.0 ∙ sym h.0, k.1 ∙ sym h.1)
same_turn (tells n) ds a b r r2 h k = (k.0 ∙ sym h.0, k.1 ∙ sym h.1)

same_server : (s t : DocsServer) → t.documents ≡ s.documents → t ≡ s
same_server s t e = ap (λ (ds : DocumentMap). let x : DocsServer = record { documents = ds } in x) e

same_calls : (refused : Bool) (asked asked2 : List DeskEntry) → LogsRefusal refused asked → LogsRefusal refused asked2 → map (λ (e : DeskEntry). e.call) asked2 ≡ map (λ (e : DeskEntry). e.call) asked
same_calls true asked asked2 h k = ap (map (λ (e : DeskEntry). e.call)) k.1 ∙ sym (ap (map (λ (e : DeskEntry). e.call)) h.1)
same_calls false asked asked2 h k = ap (map (λ (e : DeskEntry). e.call)) (k ∙ sym h)

pub polls_are_a_function : PollsAreAFunction
polls_are_a_function s c asked asked2 s2 t2 start start2 h k =
    let same = same_turn (docs_turn s.documents c) s.documents s2.documents t2.documents h.reply k.reply h.turns k.turns in
    (k.is ∙ ap (λ r. Now r) same.1 ∙ sym h.is, same_server s2 t2 same.0, same_calls (is_refused (docs_turn s.documents c) s.documents) asked asked2 h.logs k.logs)

-- the desk replies the same to the same call
same_logs : (refused : Bool) (d d2 d3 : DeskState) (asked asked2 : List DeskEntry) → LogsRefusal refused asked → LogsRefusal refused asked2 → Replays d asked d2 → Replays d asked2 d3 → asked2 ≡ asked
same_logs true d d2 d3 asked asked2 h k made made2 =
    let one : Replays d (replied refused_call (told_reply h.0) ∷ []) d2 = subst (λ l. Replays d l d2) h.1 made in
    let other : Replays d (replied refused_call (told_reply k.0) ∷ []) d3 = subst (λ l. Replays d l d3) k.1 made2 in
    k.1 ∙ ap (λ r. replied refused_call r ∷ []) (other.0 ∙ sym one.0) ∙ sym h.1
same_logs false d d2 d3 asked asked2 h k made made2 = k ∙ sym h

-- ---- a session

-- what a session sees of its service
abbrev Seen : Type 0
Seen = DocsServer × List MethodData

abbrev seen_of : LspService DocsServer → Seen
seen_of s = (s.server, service_methods s.table)

same_seen : (s t s2 t2 : LspService DocsServer) → seen_of t ≡ seen_of s → t2.server ≡ s2.server → service_methods s2.table ≡ service_methods s.table → service_methods t2.table ≡ service_methods t.table → seen_of t2 ≡ seen_of s2
same_seen s t s2 t2 q server table table2 =
    ap (λ (x : DocsServer). let v : Seen = (x, service_methods t2.table) in v) server
    ∙ ap (λ (ms : List MethodData). let v : Seen = (s2.server, ms) in v) (table2 ∙ ap (λ (x : Seen). x.1) q ∙ sym table)

same_find : (s t : LspService DocsServer) → seen_of t ≡ seen_of s → ◌≡◌ {A = List ℕ → Option Entry} (λ name. find_in 0 (service_methods t.table) name) (λ name. find_in 0 (service_methods s.table) name)
same_find s t q = ap (λ (x : Seen). let find : List ℕ → Option Entry = λ name. find_in 0 x.1 name in find) q

module _ {T : Type 0} (task : T → NoTask) (kind : T → Kind) where
  same_ends : (d d2 d3 : DeskState) (s t : LspService DocsServer) (phase : Phase IncomingCall (KeptTask NoTask)) (asked asked2 : List DeskEntry) (s2 t2 : LspService DocsServer) (progress progress2 : Progress (KeptTask NoTask)) → seen_of t ≡ seen_of s
      → Polls (service_semantics docs_semantics task kind) s phase asked s2 progress → Polls (service_semantics docs_semantics task kind) t phase asked2 t2 progress2 → Replays d asked d2 → Replays d asked2 d3
      → (asked2 ≡ asked) × (seen_of t2 ≡ seen_of s2) × (progress2 ≡ progress)
  same_ends d d2 d3 s t (Fresh c) asked asked2 s2 t2 progress progress2 q h k made made2 =
      let polled = subst (λ x. DocsPoll x c.call asked2 t2.server k.start) (ap (λ (x : Seen). x.0) q) k.polled in
      let same = polls_are_a_function s.server c.call asked asked2 s2.server t2.server h.start k.start h.polled polled in (
        same_logs (is_refused (docs_turn s.server.documents c.call) s.server.documents) d d2 d3 asked asked2 h.polled.logs polled.logs made made2,
        same_seen s t s2 t2 q same.1 h.table k.table,
        k.gives ∙ ap (λ x. progress_of c x) same.0 ∙ sym h.gives,
      )
  same_ends d d2 d3 s t (Held held) asked asked2 s2 t2 progress progress2 q h k made made2 = (
    k.polled.asks ∙ sym h.polled.asks,
    same_seen s t s2 t2 q (k.polled.same ∙ ap (λ (x : Seen). x.0) q ∙ sym h.polled.same) h.table k.table,
    k.gives ∙ ap (λ x. progress_of (kept_call docs_semantics held) x) (k.polled.is ∙ sym h.polled.is) ∙ sym h.gives,
  )

same_taken : (before bytes bytes2 : List ℕ) (taken taken2 after after2 : Option (List ℕ)) → taken ≡ Some before → taken2 ≡ Some before → Appends taken after bytes → Appends taken2 after2 bytes2 → bytes2 ≡ bytes → after2 ≡ after
same_taken before bytes bytes2 taken taken2 after after2 is is2 h k same =
    go after after2 (subst (λ o. Appends o after bytes) is h) (subst (λ o. Appends o after2 bytes2) is2 k)
  where
    go : (after after2 : Option (List ℕ)) → Appends (Some before) after bytes → Appends (Some before) after2 bytes2 → after2 ≡ after
    go None after2 h k = absurd h
    go (Some ys) None h k = absurd k
    go (Some ys) (Some ys2) h k = ap Some (k ∙ ap (λ l. before ++ l) same ∙ sym h)

pub sessions_are_a_function : {D T P : Type 0} (task : T → NoTask) (kind : T → Kind) (m : Meaning D) (order : Order P) → SessionsAreAFunction (service_semantics docs_semantics task kind) m order
sessions_are_a_function task kind m order setting alone call call2 view view2 pick pick2 before bytes taken taken2 h k =
    let semantics = service_semantics docs_semantics task kind in
    let start = (course semantics m order setting).start in
    let find = (course semantics m order setting).find in
    let codec = (course semantics m order setting).codec in
    let items = served find (stream_items codec call.bytes) in
    let run = subst (λ bs. Run (Step semantics order setting.rounds) start (served find (stream_items codec bs)) k.ran.effect k.last) bytes k.ran.run in
    let same = same_run semantics order seen_of (record { finds = same_find; ends = same_ends task kind }) setting.rounds items start h.ran.effect k.ran.effect h.last k.last h.ran.run run
    (h.ran.grows.all_own alone) (k.ran.grows.all_own alone) in (
      same_taken before (frames h.ran.effect.out) (frames k.ran.effect.out) call.taken call2.taken call.taken_after call2.taken_after taken taken2 h.ran.writes k.ran.writes (ap (λ (e : Effect). frames e.out) same.0),
      ap (λ (s : LspService DocsServer). s.server) k.service_is ∙ ap (λ (x : Seen). x.0) same.1 ∙ sym (ap (λ (s : LspService DocsServer). s.server) h.service_is),
    )
