-- How a session ends that is served as a program.
use Rattle.std.specs.Prelude.{◌≡◌, ◌≢◌, ℕ, Option, Some, None}
use Rattle.lsp_desk.specs.declared.life.Life.{Life}
use Rattle.lsp_desk.specs.declared.life.Life.TheVariants.{Uninitialized, Initializing, Initialized, ShutDown, Exited}

-- the exit status by the life that stood at `exit`
abbrev pub status_at : Option Life → ℕ
status_at None = 1
status_at (Some Uninitialized) = 1
status_at (Some Initializing) = 1
status_at (Some Initialized) = 1
status_at (Some ShutDown) = 0
status_at (Some Exited) = 1

abbrev pub IsShutDown : Option Life → Type 0
IsShutDown exited = exited ≡ Some ShutDown

abbrev pub IsNotShutDown : Option Life → Type 0
IsNotShutDown exited = exited ≢ Some ShutDown
