-- What a command of the sample goes on with.
use Rattle.std.specs.Prelude.{ℕ}
use Rattle.lsp_ask.specs.Shown.{ticket_number}
use Rattle.lsp_sample_server.specs.declared.command.Command.{Command}
use Rattle.lsp_sample_server.specs.declared.command.Command.TheVariants.{Wait, Ask}
use Rattle.lsp_sample_server.specs.declared.task.Left.{Left}
use Rattle.lsp_sample_server.specs.declared.task.Left.TheVariants as lefts

-- it goes on for so many polls more, of so many; or until what was asked under this ticket is answered
pub data LeftData : Type 0 where
  waiting : ℕ → ℕ → LeftData
  asking : ℕ → LeftData

abbrev pub show_left : Left → LeftData
show_left (lefts.Waiting left polls) = waiting left polls
show_left (lefts.Asking t) = asking (ticket_number t)

-- the command that goes on with it
abbrev pub command_left : LeftData → Command
command_left (waiting left polls) = Wait polls
command_left (asking n) = Ask
