-- What a language server's values and tasks mean to the service that it stands in.
use Rattle.std.specs.Prelude.{◌≡◌, List}
use Rattle.lsp_desk.specs.Trace.{DeskEntry}
use Rattle.lsp_session.specs.Semantics.{Phase, Fresh, Held, AreClient}
use Rattle.lsp_service.specs.Data.{MethodCall, MethodReply}

-- what a poll comes to: the call goes on as a task, or it has a reply
pub data Start (T : Type 0) : Type 0 where
  Now : MethodReply → Start T
  Later : T → Start T

-- S are the server's values, T its tasks
pub record ServerSemantics (S T : Type 0) : Type 1 where
  -- a task as plain data
  pub Task : Type 0
  pub show_task : T → Task
  -- the call that a task goes on with
  pub call_of : Task → MethodCall
  -- from the first value, the first poll of the call may make these calls on the desk with these replies, leave the second value and come to this
  pub begins : S → MethodCall → List DeskEntry → S → Start Task → Type 0
  -- the same of a later poll
  pub resumes : S → Task → List DeskEntry → S → Start Task → Type 0
  -- the replies that a call may have at all
  pub answers : MethodCall → MethodReply → Type 0

-- a poll: the first one of a call, or a later one
abbrev pub ServerPolls : {S T : Type 0} → (semantics : ServerSemantics S T) → S → Phase MethodCall semantics.Task → List DeskEntry → S → Start semantics.Task → Type 0
ServerPolls semantics s (Fresh c) asked s2 start = semantics.begins s c asked s2 start
ServerPolls semantics s (Held t) asked s2 start = semantics.resumes s t asked s2 start

abbrev pub polled_call : {S T : Type 0} → (semantics : ServerSemantics S T) → Phase MethodCall semantics.Task → MethodCall
polled_call semantics (Fresh c) = c
polled_call semantics (Held t) = semantics.call_of t

-- what holds of every language server
pub record IsLawfulServer {S T : Type 0} (semantics : ServerSemantics S T) : Type 0 where
  -- a poll makes no calls of the session
  pub asks_client : (s : S) (phase : Phase MethodCall semantics.Task) (asked : List DeskEntry) (s2 : S) (start : Start semantics.Task)
      → ServerPolls semantics s phase asked s2 start → AreClient asked
  -- a task goes on with the call that was polled
  pub keeps_call : (s : S) (phase : Phase MethodCall semantics.Task) (asked : List DeskEntry) (s2 : S) (t : semantics.Task)
      → ServerPolls semantics s phase asked s2 (Later t) → semantics.call_of t ≡ polled_call semantics phase
  -- a call ends with one of its replies
  pub keeps_answers : (s : S) (phase : Phase MethodCall semantics.Task) (asked : List DeskEntry) (s2 : S) (r : MethodReply)
      → ServerPolls semantics s phase asked s2 (Now r) → semantics.answers (polled_call semantics phase) r
