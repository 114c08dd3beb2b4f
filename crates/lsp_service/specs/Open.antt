-- A server of which nothing is told but what holds of every server.
use Rattle.std.specs.Prelude.{◌≡◌, List, None}
use Rattle.lsp_desk.specs.Trace.{DeskEntry}
use Rattle.lsp_session.specs.Semantics.{Phase, Fresh, Held, AreClient}
use Rattle.lsp_service.specs.declared.server.NoTask.{NoTask}
use Rattle.lsp_service.specs.Data.{MethodCall, MethodReply, custom}
use Rattle.lsp_service.specs.Server.{Start, Now, Later, ServerSemantics, ServerPolls, polled_call, IsLawfulServer}

-- a task keeps its call
abbrev pub KeepsOpen : {T : Type 0} → (T → MethodCall) → MethodCall → Start T → Type 0
KeepsOpen call_of c (Now r) = Unit {0}
KeepsOpen call_of c (Later t) = call_of t ≡ c

pub record Polled {T : Type 0} (call_of : T → MethodCall) (c : MethodCall) (asked : List DeskEntry) (start : Start T) : Type 0 where
  pub asks : AreClient asked
  pub keeps : KeepsOpen call_of c start

-- any values, and tasks of which it is told what call they keep
abbrev pub open_semantics : {S T : Type 0} → (T → MethodCall) → ServerSemantics S T
open_semantics {T = T} call_of = record {
  Task = T;
  show_task = λ t. t;
  call_of = call_of;
  begins = λ s c asked s2 start. Polled call_of c asked start;
  resumes = λ s t asked s2 start. Polled call_of (call_of t) asked start;
  answers = λ c r. Unit {0};
}

-- the call of a task that a server never makes: a custom one without params
abbrev pub no_call : NoTask → MethodCall
no_call t = custom 0 None

module _ {S T : Type 0} (call_of : T → MethodCall) where
  asks : (s : S) (phase : Phase MethodCall T) (asked : List DeskEntry) (s2 : S) (start : Start T)
      → ServerPolls (open_semantics {S = S} call_of) s phase asked s2 start → AreClient asked
  asks s (Fresh c) asked s2 start p = p.asks
  asks s (Held t) asked s2 start p = p.asks

  keeps : (s : S) (phase : Phase MethodCall T) (asked : List DeskEntry) (s2 : S) (t : T)
      → ServerPolls (open_semantics {S = S} call_of) s phase asked s2 (Later t) → call_of t ≡ polled_call (open_semantics {S = S} call_of) phase
  keeps s (Fresh c) asked s2 t p = p.keeps
  keeps s (Held u) asked s2 t p = p.keeps

  pub open_laws : IsLawfulServer (open_semantics {S = S} call_of)
  open_laws = record {
    asks_client = asks;
    keeps_call = keeps;
    keeps_answers = λ s phase asked s2 r p. tt;
  }
