-- How a program ends.
use Rattle.std.specs.Prelude.{ℕ}
use Rattle.lsp_server.specs.declared.step.ServeError.{ServeError}
use Rattle.lsp_server.specs.declared.step.ServeError.TheVariants.{ReadFault, WriteFault, ReadsSpent, NoMemory, DeskSpent}

-- the exit status by the error
abbrev pub status_of : ServeError → ℕ
status_of ReadFault = 3
status_of WriteFault = 4
status_of ReadsSpent = 5
status_of NoMemory = 6
status_of (DeskSpent n) = 7
