-- A language server as the handlers of a session.
use Rattle.std.specs.Prelude.{◌≡◌, List, not, Result}
use Rattle.serde_json.specs.Data.{Data}
use Rattle.lsp_rpc.specs.Message.{ErrorData}
use Rattle.lsp_desk.specs.Trace.{DeskEntry}
use Rattle.lsp_session.specs.declared.table.Kind.{Kind}
use Rattle.lsp_session.specs.Semantics.{Semantics, Progress, Pending, Done}
use Rattle.lsp_session.specs.Table.{find_in}
use Rattle.lsp_methods.specs.ServiceTable.{service_methods}
use Rattle.lsp_service.specs.declared.incoming.Incoming.{Incoming}
use Rattle.lsp_service.specs.declared.service.LspService.{LspService}
use Rattle.lsp_service.specs.Calls.{target_of}
use Rattle.lsp_service.specs.Incoming.{show_incoming}
use Rattle.lsp_service.specs.Data.{MethodCall, IncomingCall, MethodReply, params_have_float, outcome_by}
use Rattle.lsp_service.specs.Reads.{reading_entry}
use Rattle.lsp_service.specs.Server.{Start, Now, Later, ServerSemantics}

-- a task of the server, with the kind of its method
pub record KeptTask (T : Type 0) : Type 0 where
  pub task : T
  pub kind : Kind

abbrev pub outcome_of : IncomingCall → MethodReply → Result Data ErrorData
outcome_of c r = outcome_by (target_of c.call c.kind) r

-- a reply is turned into the outcome of the call
abbrev pub progress_of : {T : Type 0} → IncomingCall → Start T → Progress (KeptTask T)
progress_of c (Now r) = Done (outcome_of c r)
progress_of c (Later t) = Pending (record { task = t; kind = c.kind })

-- a poll of the service is one of its server, and leaves the method table
pub record ServesCall {S T : Type 0} (polls : S → List DeskEntry → S → Start T → Type 0) (c : IncomingCall) (s : LspService S) (asked : List DeskEntry) (s2 : LspService S) (progress : Progress (KeptTask T)) : Type 0 where
  pub start : Start T
  pub polled : polls s.server asked s2.server start
  pub table : service_methods s2.table ≡ service_methods s.table
  pub gives : progress ≡ progress_of c start

pub record Answers {S T : Type 0} (semantics : ServerSemantics S T) (c : IncomingCall) (outcome : Result Data ErrorData) : Type 0 where
  pub reply : MethodReply
  pub answers : semantics.answers c.call reply
  pub gives : outcome ≡ outcome_of c reply

-- the call that a task goes on with
abbrev pub kept_call : {S T : Type 0} → (semantics : ServerSemantics S T) → KeptTask semantics.Task → IncomingCall
kept_call semantics t = record { call = semantics.call_of t.task; kind = t.kind }

-- H are the service's tasks in the code, each of which shows one of the server's, and a kind
abbrev pub service_semantics : {S T H : Type 0} → (semantics : ServerSemantics S T) → (H → T) → (H → Kind) → Semantics (LspService S) Incoming H
service_semantics semantics task kind = record {
  Call = IncomingCall;
  show_call = show_incoming;
  Task = KeptTask semantics.Task;
  show_task = λ held. record { task = semantics.show_task (task held); kind = kind held };
  call_of = kept_call semantics;
  find = λ s name. find_in 0 (service_methods s.table) name;
  reads = reading_entry;
  is_sound = λ c. not (params_have_float c.call);
  begins = λ s c asked s2 progress. ServesCall (λ s asked s2 start. semantics.begins s c.call asked s2 start) c s asked s2 progress;
  resumes = λ s t asked s2 progress. ServesCall (λ s asked s2 start. semantics.resumes s t.task asked s2 start) (kept_call semantics t) s asked s2 progress;
  answers = Answers semantics;
}
