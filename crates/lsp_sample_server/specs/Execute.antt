-- What the polls of a command of the sample come to.
use Rattle.std.specs.Prelude.{◌≡◌, ◌==◌, ◌-◌, ℕ, Bool, true, false, List, [], if◌then◌else◌, Result, Ok, Err}
use Rattle.serde_json.specs.Data.{Data, number, unsigned}
use Rattle.lsp_rpc.specs.declared.code.ErrorCode.TheVariants.{InvalidParams}
use Rattle.lsp_rpc.specs.Message.{ErrorData, error_with_code}
use Rattle.lsp_desk.specs.Trace.{DeskEntry}
use Rattle.lsp_shape.specs.Plain.{Plain, leaf, present}
use Rattle.lsp_shape.specs.Row.{maybe, list}
use Rattle.lsp_shape.specs.Shape.{Shape}
use Rattle.lsp_shape.specs.Write.{write}
use Rattle.lsp_base.specs.Document.{workspace_folder_row}
use Rattle.lsp_methods.specs.declared.method.Method.TheVariants as methods
use Rattle.lsp_methods.specs.declared.method.WorkMethod.TheVariants as work
use Rattle.lsp_ask.specs.Answers.{AskedData, ticket, refused, AnsweredData, value, error, pending}
use Rattle.lsp_ask.specs.Client.{IsAsked, IsPolled}
use Rattle.lsp_client.specs.Methods.{workspace_folders_call}
use Rattle.lsp_service.specs.Data.{MethodReply, answer}
use Rattle.lsp_service.specs.Server.{Start, Now, Later}
use Rattle.lsp_sample_server.specs.declared.command.Command.{Command}
use Rattle.lsp_sample_server.specs.declared.command.Command.TheVariants.{Echo, Wait, Ask, Unknown}
use Rattle.lsp_sample_server.specs.Command.{command_in, argument_in}
use Rattle.lsp_sample_server.specs.Left.{LeftData, waiting, asking, command_left}

-- a command that goes on, with its params as they were read
pub record TaskData : Type 0 where
  pub params : Plain
  pub left : LeftData

-- ---- replies

abbrev pub command_reply : Result Plain ErrorData → MethodReply
command_reply r = answer (methods.Work work.ExecuteCommand) r

-- a result of any JSON value
abbrev pub command_result : Data → MethodReply
command_result d = command_reply (Ok (present (leaf d)))

-- ---- polls

-- a wait of so many polls, of which these are left
abbrev pub waits : Plain → ℕ → ℕ → Start TaskData
waits params left polls = if left == 0 then Now (command_result (number (unsigned polls))) else Later (record { params = params; left = waiting (left - 1) polls })

-- what was asked has a ticket, or it was refused
abbrev pub asked_start : Plain → AskedData → Start TaskData
asked_start params (ticket n) = Later (record { params = params; left = asking n })
asked_start params (refused e) = Now (command_reply (Err e))

-- the folders were asked for
pub record Asks (params : Plain) (asked : List DeskEntry) (start : Start TaskData) : Type 0 where
  pub asked_data : AskedData
  pub asks : IsAsked workspace_folders_call asked_data asked
  pub gives : start ≡ asked_start params asked_data

abbrev pub folders_shape : Shape
folders_shape = (maybe (list workspace_folder_row)).shape

-- the result as it was read is given back, or the error, and until then the call goes on
abbrev pub answered_start : Plain → AnsweredData → Start TaskData
answered_start params (value p) = Now (command_result (write folders_shape p))
answered_start params (error e) = Now (command_reply (Err e))
answered_start params (pending n) = Later (record { params = params; left = asking n })

-- the answer of this ticket was asked for
pub record PollsAnswer (params : Plain) (n : ℕ) (asked : List DeskEntry) (start : Start TaskData) : Type 0 where
  pub answered : AnsweredData
  pub polls : IsPolled folders_shape n answered asked
  pub gives : start ≡ answered_start params answered

-- nothing was asked of the client, and the poll came to this
pub record Quietly (gives : Start TaskData) (asked : List DeskEntry) (start : Start TaskData) : Type 0 where
  pub asks : asked ≡ []
  pub is : start ≡ gives

-- the first poll of a command
abbrev pub Executes : Plain → Command → List DeskEntry → Start TaskData → Type 0
Executes params Echo asked start = Quietly (Now (command_reply (Ok (argument_in params)))) asked start
Executes params (Wait polls) asked start = Quietly (waits params polls polls) asked start
Executes params Ask asked start = Asks params asked start
Executes params Unknown asked start = Quietly (Now (command_reply (Err (error_with_code InvalidParams)))) asked start

-- a poll fails only where it asks the client, or where its reply is an error
abbrev pub may_fail : Command → Bool
may_fail Echo = false
may_fail (Wait polls) = false
may_fail Ask = true
may_fail Unknown = true

abbrev pub ResumesLeft : Plain → LeftData → List DeskEntry → Start TaskData → Type 0
ResumesLeft params (waiting left polls) asked start = Quietly (waits params left polls) asked start
ResumesLeft params (asking n) asked start = PollsAnswer params n asked start

-- a later poll, of a task of that command
pub record ResumesCommand (t : TaskData) (asked : List DeskEntry) (start : Start TaskData) : Type 0 where
  pub tied : command_left t.left ≡ command_in t.params
  pub goes : ResumesLeft t.params t.left asked start
