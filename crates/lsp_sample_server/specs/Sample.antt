-- What the sample does: its relations are a function of the calls, of what was asked and of the desk's replies.
use Rattle.std.specs.Prelude.{◌≡◌, ℕ, zero, suc, pos, Bool, true, false, List, [], codes, Option, Some, Result, Ok, Err}
use Rattle.serde_json.specs.Data.{Data, number, unsigned, object, no_members, member}
use Rattle.lsp_rpc.specs.declared.code.ErrorCode.TheVariants.{InvalidParams, MethodNotFound}
use Rattle.lsp_rpc.specs.Message.{ErrorData, error_with_code}
use Rattle.lsp_desk.specs.Call.{Call as DeskCall}
use Rattle.lsp_desk.specs.Trace.{DeskEntry}
use Rattle.lsp_session.specs.declared.table.Kind.{Kind}
use Rattle.lsp_session.specs.declared.table.Kind.TheVariants.{Request, Notification}
use Rattle.lsp_shape.specs.Plain.{Plain, absent, parts, Parts, no_parts, part}
use Rattle.lsp_methods.specs.declared.method.Method.{Method}
use Rattle.lsp_methods.specs.declared.method.Method.TheVariants as methods
use Rattle.lsp_methods.specs.declared.method.LifeMethod.{LifeMethod}
use Rattle.lsp_methods.specs.declared.method.LifeMethod.TheVariants as life
use Rattle.lsp_methods.specs.declared.method.WorkMethod.{WorkMethod}
use Rattle.lsp_methods.specs.declared.method.WorkMethod.TheVariants as work
use Rattle.lsp_methods.specs.Methods.{method_row}
use Rattle.lsp_ask.specs.declared.answers.Told.{Told}
use Rattle.lsp_ask.specs.Client.{IsTold}
use Rattle.lsp_client.specs.Methods.{log_message_call}
use Rattle.lsp_service.specs.declared.call.Target.{Target}
use Rattle.lsp_service.specs.declared.call.Target.TheVariants as targets
use Rattle.lsp_service.specs.Data.{MethodCall, typed, custom, MethodReply, answer, written, refusal, noted, nil_row}
use Rattle.lsp_service.specs.Server.{Start, Now, ServerSemantics}
use Rattle.lsp_sample_server.specs.declared.command.Command.{Command}
use Rattle.lsp_sample_server.specs.declared.command.Command.TheVariants.{Echo, Wait, Ask, Unknown}
use Rattle.lsp_sample_server.specs.declared.task.SampleTask.{SampleTask}
use Rattle.lsp_sample_server.specs.declared.sample.Sample.{Sample}
use Rattle.lsp_sample_server.specs.Command.{command_in, argument_in}
use Rattle.lsp_sample_server.specs.Execute.{TaskData, command_reply, command_result, Executes, ResumesCommand}
use Rattle.lsp_sample_server.specs.Shown.{show_task}

-- ---- what a call is

-- so many fields that are absent
abbrev pub absents : ℕ → Parts
absents zero = no_parts
absents (suc n) = part absent (absents n)

-- none of the 34 capabilities
abbrev pub no_capabilities_shown : Plain
no_capabilities_shown = parts (absents 34)

-- the default `InitializeResult`: no capabilities, and no information on the server
abbrev pub bare_result : Plain
bare_result = parts (part no_capabilities_shown (part absent no_parts))

-- the same as it is written
abbrev pub bare_data : Data
bare_data = object (member (codes "capabilities") (object no_members) no_members)

-- what the first poll of a call does: it has this reply; it greets the client; or it executes a command with these params
pub data SampleTurn : Type 0 where
  replies : MethodReply → SampleTurn
  greets : SampleTurn
  executes : Plain → SampleTurn

abbrev pub reply_by_kind : Kind → MethodReply
reply_by_kind Request = refusal (error_with_code MethodNotFound)
reply_by_kind Notification = noted

-- a request of another method isn't known, and another notification is taken note of
abbrev pub other_reply : Target → MethodReply
other_reply (targets.Typed m) = reply_by_kind (method_row m).kind
other_reply (targets.Custom kind) = reply_by_kind kind

abbrev pub life_turn : LifeMethod → SampleTurn
life_turn life.Initialize = replies (written (methods.Life life.Initialize) (Ok bare_data))
life_turn life.Initialized = greets
life_turn life.Shutdown = replies (answer (methods.Life life.Shutdown) (Ok (nil_row.shown tt)))

abbrev pub work_turn : WorkMethod → Option Plain → SampleTurn
work_turn work.ExecuteCommand (Some params) = executes params
work_turn m params = replies (other_reply (targets.Typed (methods.Work m)))

abbrev pub method_turn : Method → Option Plain → SampleTurn
method_turn (methods.Life m) params = life_turn m
method_turn (methods.Work m) params = work_turn m params
method_turn m params = replies (other_reply (targets.Typed m))

-- there are no custom methods; a call of one would be a request that isn't known
abbrev pub sample_turn : MethodCall → SampleTurn
sample_turn (typed m params) = method_turn m params
sample_turn (custom n params) = replies (other_reply (targets.Custom Request))

-- memory is taken where something is written for the reply, and where it is an error; the others are at hand
abbrev pub takes_memory : SampleTurn → Bool
takes_memory (replies (written m r)) = true
takes_memory (replies (refusal e)) = true
takes_memory turn = false

-- ---- polls

-- it is logged, as information, that the server is initialized
abbrev pub greeting_call : DeskCall
greeting_call = log_message_call (pos 3) (codes "server initialized!")

abbrev pub BeginsTurn : SampleTurn → List DeskEntry → Start TaskData → Type 0
BeginsTurn (replies r) asked start = (asked ≡ []) × (start ≡ Now r)
BeginsTurn greets asked start = ((told : Told) × IsTold greeting_call told asked) × (start ≡ Now noted)
BeginsTurn (executes params) asked start = Executes params (command_in params) asked start

pub record BeginsCall (s : Sample) (c : MethodCall) (asked : List DeskEntry) (s2 : Sample) (start : Start TaskData) : Type 0 where
  pub same : s2 ≡ s
  pub begins : BeginsTurn (sample_turn c) asked start

pub record ResumesTask (s : Sample) (t : TaskData) (asked : List DeskEntry) (s2 : Sample) (start : Start TaskData) : Type 0 where
  pub same : s2 ≡ s
  pub goes_on : ResumesCommand t asked start

-- the replies of a command: any for `ask`, and one for each other
abbrev pub MayEnd : Plain → Command → MethodReply → Type 0
MayEnd params Echo r = r ≡ command_reply (Ok (argument_in params))
MayEnd params (Wait polls) r = r ≡ command_result (number (unsigned polls))
MayEnd params Ask r = (body : Result Plain ErrorData) × (r ≡ command_reply body)
MayEnd params Unknown r = r ≡ command_reply (Err (error_with_code InvalidParams))

abbrev pub MayReply : SampleTurn → MethodReply → Type 0
MayReply (replies r1) r = r ≡ r1
MayReply greets r = r ≡ noted
MayReply (executes params) r = MayEnd params (command_in params) r

abbrev pub task_call : TaskData → MethodCall
task_call t = typed (methods.Work work.ExecuteCommand) (Some t.params)

abbrev pub sample_semantics : ServerSemantics Sample SampleTask
sample_semantics = record {
  Task = TaskData;
  show_task = show_task;
  call_of = task_call;
  begins = BeginsCall;
  resumes = ResumesTask;
  answers = λ c r. MayReply (sample_turn c) r;
}
