-- A language server behind a service keeps the laws of servers.
use Rattle.std.specs.Prelude.{◌≡◌, ◌==◌, ◌-◌, ℕ, nat_lt, List, Bool, true, false, not, if◌then◌else◌, Option, Some, None, Result, Ok, Err, refl}
use Rattle.std.proofs.Common.{ap, sym, ◌∙◌, subst, true≢false}
use Rattle.serde_json.specs.Data.{Data}
use Rattle.lsp_rpc.specs.Message.{ErrorData, may_have_float, body_has_float}
use Rattle.lsp_desk.specs.Trace.{DeskEntry}
use Rattle.lsp_session.specs.declared.table.Entry.{Entry}
use Rattle.lsp_session.specs.declared.table.Kind.{Kind}
use Rattle.lsp_session.specs.Semantics.{Reading, call, missing, unexpected, unfit, Progress, Pending, Done, Phase, Fresh, Held, Polls, call_in, AreClient, IsLawfulHandlers}
use Rattle.lsp_session.specs.Table.{find_in}
use Rattle.lsp_shape.specs.Plain.{Plain, plain_has_float}
use Rattle.lsp_shape.specs.Shape.{Shape}
use Rattle.lsp_shape.specs.Read.{read}
use Rattle.lsp_shape.specs.FloatsRead.{read_floatless}
use Rattle.lsp_methods.specs.declared.method.Method.{Method}
use Rattle.lsp_methods.specs.Methods.{method_at}
use Rattle.lsp_methods.specs.Shapes.{params_shape}
use Rattle.lsp_methods.specs.Standard.{standard_count}
use Rattle.lsp_service.specs.declared.service.LspService.{LspService}
use Rattle.lsp_service.specs.Data.{MethodCall, IncomingCall, typed, custom, MethodReply, params_have_float, mismatch, written_by}
use Rattle.lsp_service.specs.Calls.{target_of}
use Rattle.lsp_service.specs.Reads.{read_as, reads_by, reading, reading_custom, reading_by, reading_at, of_kind}
use Rattle.lsp_service.specs.Server.{Start, Now, Later, ServerSemantics, ServerPolls, polled_call, IsLawfulServer}
use Rattle.lsp_service.specs.Service.{KeptTask, outcome_of, progress_of, kept_call, ServesCall, Answers, service_semantics}

-- ---- what is read may be begun

abbrev IsSoundReading : Reading MethodCall → Type 0
IsSoundReading (call c) = not (params_have_float c) ≡ true
IsSoundReading missing = Unit {0}
IsSoundReading unexpected = Unit {0}
IsSoundReading unfit = Unit {0}

sound_as : (m : Method) (o : Option Plain) → ((p : Plain) → o ≡ Some p → plain_has_float p ≡ false) → IsSoundReading (read_as m o)
sound_as m None h = tt
sound_as m (Some p) h = ap not (h p refl)

sound_by : (m : Method) (o : Option Shape) (params : Option Data) → may_have_float params ≡ false → IsSoundReading (reads_by m o params)
sound_by m None None h = refl
sound_by m None (Some d) h = tt
sound_by m (Some s) None h = tt
sound_by m (Some s) (Some d) h = sound_as m (read s d) (λ p e. read_floatless s d p h e)

sound_unless : (b : Bool) (c : MethodCall) → not (params_have_float c) ≡ true → IsSoundReading (if b then unfit else call c)
sound_unless true c h = tt
sound_unless false c h = h

sound_reading : (o : Option Method) (place : ℕ) (params : Option Data) → may_have_float params ≡ false → IsSoundReading (reading_by o place params)
sound_reading (Some m) place params h = sound_by m (params_shape m) params h
sound_reading None place params h = sound_unless (nat_lt place standard_count) (custom (place - standard_count) params) (ap not h)

abbrev IsSoundIncoming : Reading IncomingCall → Type 0
IsSoundIncoming (call c) = not (params_have_float c.call) ≡ true
IsSoundIncoming missing = Unit {0}
IsSoundIncoming unexpected = Unit {0}
IsSoundIncoming unfit = Unit {0}

sound_of_kind : (kind : Kind) (r : Reading MethodCall) → IsSoundReading r → IsSoundIncoming (of_kind kind r)
sound_of_kind kind (call c) h = h
sound_of_kind kind missing h = tt
sound_of_kind kind unexpected h = tt
sound_of_kind kind unfit h = tt

-- ---- what a poll comes to

record IsLater {T : Type 0} (c : IncomingCall) (start : Start T) (t : KeptTask T) : Type 0 where
  is : start ≡ Later t.task
  kind : t.kind ≡ c.kind

later_is : {T : Type 0} (c : IncomingCall) (start : Start T) (t : KeptTask T) → Pending t ≡ progress_of c start → IsLater c start t
later_is c (Now r) t e = absurd (cc)
later_is c (Later u) t e =
    let same : t ≡ record { task = u; kind = c.kind } = cc in
    record { is = ap Later (sym (ap (λ (k : KeptTask _). k.task) same)); kind = ap (λ (k : KeptTask _). k.kind) same }

record IsNow {T : Type 0} (c : IncomingCall) (start : Start T) (outcome : Result Data ErrorData) : Type 0 where
  reply : MethodReply
  is : start ≡ Now reply
  gives : outcome ≡ outcome_of c reply

now_is : {T : Type 0} (c : IncomingCall) (start : Start T) (outcome : Result Data ErrorData) → Done outcome ≡ progress_of c start → IsNow c start outcome
now_is c (Now r) outcome e = record { reply = r; is = refl; gives = cc }
now_is c (Later u) outcome e = absurd (cc)

incoming_is : (c : IncomingCall) (asked : MethodCall) (kind : Kind) → asked ≡ c.call → kind ≡ c.kind → (let x : IncomingCall = record { call = asked; kind = kind } in x) ≡ c
incoming_is c asked kind e f = ap (λ (x : MethodCall). (let y : IncomingCall = record { call = x; kind = kind } in y)) e ∙ ap (λ (k : Kind). (let y : IncomingCall = record { call = c.call; kind = k } in y)) f

clean_if : (b : Bool) (r : Result Data ErrorData) → body_has_float r ≡ b → body_has_float (if b then mismatch else r) ≡ false
clean_if true r h = refl
clean_if false r h = h

-- ---- the laws

module _ {S T H : Type 0} (semantics : ServerSemantics S T) (task : H → T) (kind : H → Kind) (laws : IsLawfulServer semantics) where
  table_stays : (s : LspService S) (phase : Phase IncomingCall (KeptTask semantics.Task)) (asked : List DeskEntry) (s2 : LspService S) (progress : Progress (KeptTask semantics.Task))
      → Polls (service_semantics semantics task kind) s phase asked s2 progress → (name : List ℕ) → (service_semantics semantics task kind).find s2 name ≡ (service_semantics semantics task kind).find s name
  table_stays s (Fresh c) asked s2 progress p name = ap (λ t. find_in 0 t name) p.table
  table_stays s (Held t) asked s2 progress p name = ap (λ t. find_in 0 t name) p.table

  asks : (s : LspService S) (phase : Phase IncomingCall (KeptTask semantics.Task)) (asked : List DeskEntry) (s2 : LspService S) (progress : Progress (KeptTask semantics.Task))
      → Polls (service_semantics semantics task kind) s phase asked s2 progress → AreClient asked
  asks s (Fresh c) asked s2 progress p = laws.asks_client s.server (Fresh c.call) asked s2.server p.start p.polled
  asks s (Held t) asked s2 progress p = laws.asks_client s.server (Held t.task) asked s2.server p.start p.polled

  keeps : (s : LspService S) (phase : Phase IncomingCall (KeptTask semantics.Task)) (asked : List DeskEntry) (s2 : LspService S) (t : KeptTask semantics.Task)
      → Polls (service_semantics semantics task kind) s phase asked s2 (Pending t) → kept_call semantics t ≡ call_in (service_semantics semantics task kind) phase
  keeps s (Fresh c) asked s2 t p =
      let later = later_is c p.start t p.gives in
      incoming_is c _ t.kind (laws.keeps_call s.server (Fresh c.call) asked s2.server t.task (subst (λ start. semantics.begins s.server c.call asked s2.server start) later.is p.polled)) later.kind
  keeps s (Held u) asked s2 t p =
      let later = later_is (kept_call semantics u) p.start t p.gives in
      incoming_is (kept_call semantics u) _ t.kind (laws.keeps_call s.server (Held u.task) asked s2.server t.task (subst (λ start. semantics.resumes s.server u.task asked s2.server start) later.is p.polled)) later.kind

  has_answer : (s : LspService S) (phase : Phase IncomingCall (KeptTask semantics.Task)) (asked : List DeskEntry) (s2 : LspService S) (outcome : Result Data ErrorData)
      → Polls (service_semantics semantics task kind) s phase asked s2 (Done outcome) → Answers semantics (call_in (service_semantics semantics task kind) phase) outcome
  has_answer s (Fresh c) asked s2 outcome p =
      let now = now_is c p.start outcome p.gives in
      record { reply = now.reply; answers = laws.keeps_answers s.server (Fresh c.call) asked s2.server now.reply (subst (λ start. semantics.begins s.server c.call asked s2.server start) now.is p.polled); gives = now.gives }
  has_answer s (Held u) asked s2 outcome p =
      let now = now_is (kept_call semantics u) p.start outcome p.gives in
      record { reply = now.reply; answers = laws.keeps_answers s.server (Held u.task) asked s2.server now.reply (subst (λ start. semantics.resumes s.server u.task asked s2.server start) now.is p.polled); gives = now.gives }

  clean : (s : LspService S) (phase : Phase IncomingCall (KeptTask semantics.Task)) (asked : List DeskEntry) (s2 : LspService S) (outcome : Result Data ErrorData)
      → Polls (service_semantics semantics task kind) s phase asked s2 (Done outcome) → body_has_float outcome ≡ false
  clean s (Fresh c) asked s2 outcome p =
      let now = now_is c p.start outcome p.gives in
      ap body_has_float now.gives ∙ clean_if _ (written_by (target_of c.call c.kind) now.reply) refl
  clean s (Held u) asked s2 outcome p =
      let now = now_is (kept_call semantics u) p.start outcome p.gives in
      ap body_has_float now.gives ∙ clean_if _ (written_by (target_of (semantics.call_of u.task) u.kind) now.reply) refl

  pub service_laws : IsLawfulHandlers (service_semantics semantics task kind)
  service_laws = record {
    reads_sound = λ entry params c clean reads. subst IsSoundIncoming reads (sound_of_kind entry.kind _ (sound_reading (method_at entry.place) entry.place params clean));
    keeps_table = table_stays;
    asks_client = asks;
    keeps_call = keeps;
    keeps_answers = has_answer;
    keeps_float_free = λ s phase asked s2 outcome sound p. clean s phase asked s2 outcome p;
  }
