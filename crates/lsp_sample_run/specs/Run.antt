-- What the program serves, and what it writes.
use Rattle.std.specs.Prelude.{◌≡◌, ◌≢◌, ◌≤◌, ◌<◌, ◌⊎◌, ◌-◌, ◌^◌, ⊤, ℕ, true, false, List, length, Option, Some, None, String, IfSome}
use Rattle.std.specs.FinMap as map
use Rattle.std.specs.declared.alloc.Global.{Global}
use Rattle.lsp_desk.specs.declared.plain.PlainDesk.{PlainDesk}
use Rattle.lsp_desk.specs.Meaning.{IsOpening}
use Rattle.lsp_desk.specs.Plain.{plain_meaning}
use Rattle.lsp_frame.specs.Codec.{Refused, Read, default_limits}
use Rattle.lsp_session.specs.Run.{Picked}
use Rattle.lsp_session.specs.Semantics.{Semantics}
use Rattle.lsp_session.specs.State.{State}
use Rattle.lsp_methods.specs.ServiceTable.{customs_of}
use Rattle.lsp_server.specs.Course.{Course, course}
use Rattle.lsp_server.specs.Course as server_course
use Rattle.lsp_server.specs.Served.{CallBytes}
use Rattle.lsp_server.specs.SourceSink.{CountRose, IsFlushed}
use Rattle.lsp_service.specs.declared.service.LspService.{LspService}
use Rattle.lsp_shared.specs.declared.view.View.{View}
use Rattle.lsp_shared.specs.Seats.{entries_seen}
use Rattle.lsp_stdio.specs.Stdio.{in_order, EndsWith}
use Rattle.lsp_stdio.specs.Pumping.{EndsUnread, PumpEndsWith}
use Rattle.lsp_talk.specs.Talk.{HasTalked, WroteLine, WroteLinePart}
use Rattle.lsp_sample_server.specs.declared.sample.Sample.{Sample}
use Rattle.lsp_sample_server.specs.Sessions.{IsSampleService}
use Rattle.lsp_docs.specs.declared.docs.DocsServer.{DocsServer}
use Rattle.lsp_docs.specs.Docs.{docs_methods}
use Rattle.lsp_sample_run.specs.declared.arguments.Setting.{Setting}
use Rattle.lsp_sample_run.specs.declared.arguments.MadeUp.{MadeUp}
use Rattle.lsp_sample_run.specs.declared.arguments.Clones.{Clones}
use Rattle.lsp_sample_run.specs.declared.arguments.Form.{Form}
use Rattle.lsp_sample_run.specs.declared.arguments.Form.TheVariants.{Serve, Docs, Pump, Bulk, Talk}
use Rattle.lsp_sample_run.specs.Arguments.{form_asked}

-- ---- what a session begins with

-- a new service of the document server: no document is open
pub record IsDocsService (service : LspService DocsServer) : Type 0 where
  pub documents : service.server.documents ≡ map.empty
  pub customs : customs_of service.table ≡ docs_methods

-- what the sample is served with: but for the calls and the rounds all is as in a new server
abbrev pub sample_setting : {H : Type 0} → Setting → H → PlainDesk → server_course.Setting H PlainDesk ⊤
sample_setting setting service desk = record { service = service; desk = desk; max = setting.max; wait = 1024; rounds = setting.rounds; limits = default_limits; floats = Refused; empty_params = false; pick = tt }

-- what the document server is served with: floats are read, and empty params let in, as editors send both
abbrev pub docs_setting : {H : Type 0} → H → PlainDesk → server_course.Setting H PlainDesk ⊤
docs_setting service desk = record { service = service; desk = desk; max = 4; wait = 1024; rounds = 8; limits = default_limits; floats = Read; empty_params = true; pick = tt }

-- ---- what a session writes

-- there was no memory for a service, and nothing was read or written
pub record NotBegun (call : CallBytes) (status : ℕ) : Type 0 where
  pub memory : status ≡ 6
  pub unread : call.left ≡ Some call.bytes
  pub unwritten : call.taken_after ≡ call.taken

module _ {H C T : Type 0} (semantics : Semantics H C T) (IsNewService : H → Type 0) (setting_of : H → PlainDesk → server_course.Setting H PlainDesk ⊤) where
  -- this holds of the session of such a service over a new desk, which are served so
  pub record HoldsOfSession (P : Course (Picked (State H semantics.Call semantics.Task) ⊤) PlainDesk → Type 0) : Type 0 where
    pub service : H
    pub new : IsNewService service
    pub desk : PlainDesk
    pub opening : IsOpening plain_meaning desk
    pub holds : P (course semantics plain_meaning in_order (setting_of service desk))

  -- what was written is that of such a session, by the status
  abbrev pub ServedBy : CallBytes → ℕ → Type 0
  ServedBy call status = HoldsOfSession (λ course. EndsWith course call status) ⊎ NotBegun call status

  -- the same while a thread reads, with the counts of reads that failed
  abbrev pub PumpedBy : CallBytes → ℕ → ℕ → ℕ → Type 0
  PumpedBy call failed failed_after status = HoldsOfSession (λ course. PumpEndsWith course call failed failed_after status) ⊎ NotBegun call status

-- what was written is that of a session of the sample
abbrev pub ServesSample : {C T : Type 0} → Semantics (LspService Sample) C T → Setting → CallBytes → ℕ → Type 0
ServesSample semantics setting call status = ServedBy semantics IsSampleService (sample_setting setting) call status

-- the same while a thread reads
abbrev pub PumpsSample : {C T : Type 0} → Semantics (LspService Sample) C T → Setting → CallBytes → ℕ → ℕ → ℕ → Type 0
PumpsSample semantics setting call failed failed_after status = PumpedBy semantics IsSampleService (sample_setting setting) call failed failed_after status

-- what was written is that of a session of the document server
abbrev pub ServesDocs : {C T : Type 0} → Semantics (LspService DocsServer) C T → CallBytes → ℕ → Type 0
ServesDocs semantics call status = ServedBy semantics IsDocsService docs_setting call status

-- ---- the forms

-- where the form serves the sample over a source that tells its bytes
abbrev pub OfServing : Option (List ℕ) → (Setting → List ℕ → Type 0) → Form → Type 0
OfServing left P (Serve setting) = IfSome left (P setting)
OfServing left P Docs = Unit {0}
OfServing left P (Pump setting) = Unit {0}
OfServing left P (Bulk session) = Unit {0}
OfServing left P (Talk clones) = Unit {0}

-- where it serves the document server
abbrev pub OfDocs : Option (List ℕ) → (List ℕ → Type 0) → Form → Type 0
OfDocs left P (Serve setting) = Unit {0}
OfDocs left P Docs = IfSome left P
OfDocs left P (Pump setting) = Unit {0}
OfDocs left P (Bulk session) = Unit {0}
OfDocs left P (Talk clones) = Unit {0}

-- where it serves the sample while a thread reads
abbrev pub OfPumping : Option (List ℕ) → (Setting → List ℕ → Type 0) → Form → Type 0
OfPumping left P (Serve setting) = Unit {0}
OfPumping left P Docs = Unit {0}
OfPumping left P (Pump setting) = IfSome left (P setting)
OfPumping left P (Bulk session) = Unit {0}
OfPumping left P (Talk clones) = Unit {0}

-- where it is that of a made-up session
abbrev pub OfMadeUp : (MadeUp → Type 0) → Form → Type 0
OfMadeUp P (Serve setting) = Unit {0}
OfMadeUp P Docs = Unit {0}
OfMadeUp P (Pump setting) = Unit {0}
OfMadeUp P (Bulk session) = P session
OfMadeUp P (Talk clones) = Unit {0}

-- where it is that of a talk
abbrev pub OfTalking : (Clones → Type 0) → Form → Type 0
OfTalking P (Serve setting) = Unit {0}
OfTalking P Docs = Unit {0}
OfTalking P (Pump setting) = Unit {0}
OfTalking P (Bulk session) = Unit {0}
OfTalking P (Talk clones) = P clones

-- where it isn't
abbrev pub OfOthers : Type 0 → Form → Type 0
OfOthers P (Serve setting) = P
OfOthers P Docs = P
OfOthers P (Pump setting) = P
OfOthers P (Bulk session) = P
OfOthers P (Talk clones) = Unit {0}

-- the arguments are a form that serves the sample, over a source that tells its bytes: this holds of their setting and these bytes
abbrev pub WhereServing : List (String Global) → Option (List ℕ) → (Setting → List ℕ → Type 0) → Type 0
WhereServing arguments left P = IfSome (form_asked arguments) (OfServing left P)

-- they are the form that serves the document server
abbrev pub WhereDocs : List (String Global) → Option (List ℕ) → (List ℕ → Type 0) → Type 0
WhereDocs arguments left P = IfSome (form_asked arguments) (OfDocs left P)

-- they are a form that serves the sample while a thread reads
abbrev pub WherePumping : List (String Global) → Option (List ℕ) → (Setting → List ℕ → Type 0) → Type 0
WherePumping arguments left P = IfSome (form_asked arguments) (OfPumping left P)

-- the arguments are those of a made-up session, of which this holds
abbrev pub WhereMadeUp : List (String Global) → (MadeUp → Type 0) → Type 0
WhereMadeUp arguments P = IfSome (form_asked arguments) (OfMadeUp P)

-- the arguments are those of a talk, of which this holds
abbrev pub WhereTalking : List (String Global) → (Clones → Type 0) → Type 0
WhereTalking arguments P = IfSome (form_asked arguments) (OfTalking P)

-- the arguments are another form, and then this holds
abbrev pub WhereOther : List (String Global) → Type 0 → Type 0
WhereOther arguments P = IfSome (form_asked arguments) (OfOthers P)

-- the bytes of the source, where the form serves them
abbrev pub bytes_served : Option Form → Option (List ℕ) → Option (List ℕ)
bytes_served None left = None
bytes_served (Some (Serve setting)) left = left
bytes_served (Some Docs) left = left
bytes_served (Some (Pump setting)) left = left
bytes_served (Some (Bulk session)) left = None
bytes_served (Some (Talk clones)) left = None

-- ---- the status

-- at no status is a failed read left untold
abbrev pub NeverUnread : ℕ → Type 0
NeverUnread status = ⊥

-- the statuses at which it may be: where a thread reads, and the session has ended by then
abbrev pub UnreadAt : Option Form → ℕ → Type 0
UnreadAt None = NeverUnread
UnreadAt (Some (Serve setting)) = NeverUnread
UnreadAt (Some Docs) = NeverUnread
UnreadAt (Some (Pump setting)) = EndsUnread
UnreadAt (Some (Bulk session)) = NeverUnread
UnreadAt (Some (Talk clones)) = NeverUnread

-- what the status says of the source and of the sink: of the bytes to be served, of the counts of reads and of writes that failed, and of
-- what the sink has taken and flushed, before the call and after it
pub record ToldByStatus (bytes : Option (List ℕ)) (MayBeUnread : ℕ → Type 0) (reads reads_after writes writes_after : ℕ) (taken : Option (List ℕ)) (count : Option ℕ) (taken_after : Option (List ℕ)) (count_after : Option ℕ) (status : ℕ) : Type 0 where
  -- all that was written is flushed, if all was before, unless the sink failed or memory did
  pub flushed : status ≢ 4 → status ≢ 6 → IsFlushed taken count → IsFlushed taken_after count_after
  -- each failure has its cause, and is told, but for a read that failed when the session had ended
  pub read : status ≡ 3 → CountRose reads reads_after
  pub write : status ≡ 4 → CountRose writes writes_after
  pub read_told : reads < reads_after → (status ≡ 3) ⊎ MayBeUnread status
  pub write_told : writes < writes_after → status ≡ 4
  -- so with no failure, and with fewer bytes than reads, memory alone may lack
  pub complete : IfSome bytes (λ all. length all < 2 ^ 64 - 1 → ¬ CountRose reads reads_after → ¬ CountRose writes writes_after → (status ≤ 1) ⊎ (status ≡ 6))

-- the same of a form, and of the bytes left of the source
abbrev pub ToldByForm : Option Form → Option (List ℕ) → ℕ → ℕ → ℕ → ℕ → Option (List ℕ) → Option ℕ → Option (List ℕ) → Option ℕ → ℕ → Type 0
ToldByForm form left reads reads_after writes writes_after taken count taken_after count_after status =
    ToldByStatus (bytes_served form left) (UnreadAt form) reads reads_after writes writes_after taken count taken_after count_after status

-- callers talked on the owner's desk, and the line of its history was written; nothing was read
pub record EndsTalking {I O : Type 0} (clones : Clones) (source source_after : I) (sink sink_after : O) (taken taken_after : Option (List ℕ)) (owner : View) (status : ℕ) : Type 0 where
  pub known : (status ≡ 0) ⊎ (status ≡ 4) ⊎ (status ≡ 6) ⊎ (status ≡ 7)
  -- the talk was had, whether its line was written or not
  pub talked : status ≡ 0 → HasTalked clones.count clones.messages (entries_seen owner)
  pub unwritten : status ≡ 4 → HasTalked clones.count clones.messages (entries_seen owner)
  pub wrote : status ≡ 0 → WroteLine (entries_seen owner) taken taken_after
  pub part : 3 ≤ status → WroteLinePart (entries_seen owner) taken taken_after
  pub unread : source_after ≡ source
  pub silent : status ≡ 7 → sink_after ≡ sink
  -- all seats are the owner's again, but where there was no memory to hand them back
  pub whole : status ≢ 6 → owner.share ≡ 2 ^ 63
