-- The session beside which the callers talk.
use Rattle.std.specs.Prelude.{◌≡◌, ◌≤◌, ℕ, List, [], codes, ⊤, Bool, true, false, Result, Err, OnOk}
use Rattle.atomic_table.specs.Seated.{TableId}
use Rattle.lsp_desk.specs.declared.call.DeskFault.{DeskFault}
use Rattle.lsp_desk.specs.declared.call.DeskFault.TheVariants as faults
use Rattle.lsp_desk.specs.Trace.{TraceEntry, entries_of, places}
use Rattle.lsp_frame.specs.Codec.{default_settings}
use Rattle.lsp_frame.specs.Frames.{framed}
use Rattle.lsp_rpc.specs.Message.{MessageData}
use Rattle.lsp_session.specs.Item.{ItemData}
use Rattle.lsp_session.specs.State.{State}
use Rattle.lsp_session.specs.Run.{served}
use Rattle.lsp_session.specs.Laws.{OpenedRun}
use Rattle.lsp_server.specs.Items.{stream_items}
use Rattle.lsp_shared.specs.declared.view.View.{View}
use Rattle.lsp_shared.specs.Seats.{entries_seen}
use Rattle.lsp_callers.specs.Made.{KeepsSeat}
use Rattle.lsp_service.specs.declared.service.LspService.{LspService}
use Rattle.lsp_service.specs.Data.{IncomingCall}
use Rattle.lsp_service.specs.Service.{KeptTask}
use Rattle.lsp_sample_server.specs.declared.sample.Sample.{Sample}
use Rattle.lsp_sample_server.specs.Execute.{TaskData}
use Rattle.lsp_sample_server.specs.Sessions.{IsSampleService, in_order, service_of_sample}

-- the editor sends an `initialize`, and nothing more
abbrev pub hello_text : List ℕ
hello_text = codes "{\"jsonrpc\":\"2.0\",\"method\":\"initialize\",\"params\":{\"capabilities\":{}},\"id\":1}"

abbrev pub hello_bytes : List ℕ
hello_bytes = framed hello_text

-- what is served of these bytes by a service: their items and a tick
abbrev pub hello_items : LspService Sample → List ItemData
hello_items service = served (service_of_sample.find service) (stream_items default_settings hello_bytes)

-- this is the trace of a session of the sample behind its methods over them: each entry is marked as the session's own or as another's
pub record ServesHello (trace : List TraceEntry) : Type 0 where
  pub rounds : ℕ
  pub some : 1 ≤ rounds
  pub service : LspService Sample
  pub is_sample : IsSampleService service
  pub out : List MessageData
  pub last : State (LspService Sample) IncomingCall (KeptTask TaskData)
  pub serves : OpenedRun service_of_sample in_order rounds service (hello_items service) (record { trace = trace; out = out }) last

-- the seat has seen such a session, and made the calls of it that are its own
pub record HasServedHello (v : View) : Type 0 where
  pub trace : List TraceEntry
  pub serves : ServesHello trace
  pub seen : entries_seen v ≡ entries_of trace
  pub made : v.made ≡ places 0 trace

-- a seat that has seen nothing and made no call, of a desk with turns left
pub record IsUnseen (v : View) (spent : Bool) : Type 0 where
  pub seen : v.seen ≡ []
  pub made : v.made ≡ []
  pub unspent : spent ≡ false

-- the session came to its end, or to this fault
pub record EndsHello (old_desk : TableId) (old : View) (served : Result ⊤ DeskFault) (new_desk : TableId) (new : View) (spent : Bool) : Type 0 where
  pub done : OnOk served (HasServedHello new)
  pub failed : (n : ℕ) → served ≡ Err (faults.Spent n) → spent ≡ true
  pub keeps : KeepsSeat old_desk old new_desk new
