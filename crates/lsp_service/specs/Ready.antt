-- What a service tells of the life of its socket's desk.
use Rattle.std.specs.Prelude.{◌≡◌, List, [], ◌∷◌, Result, Ok, Err}
use Rattle.lsp_desk.specs.declared.life.ExitedError.{ExitedError}
use Rattle.lsp_desk.specs.declared.life.Life.TheVariants.{Exited}
use Rattle.lsp_desk.specs.declared.ready.Poll.{Poll}
use Rattle.lsp_desk.specs.declared.ready.Poll.TheVariants.{Ready, Pending}
use Rattle.lsp_desk.specs.Socket.{looked, HasNotExited}
use Rattle.lsp_desk.specs.Trace.{DeskEntry}

-- the life was asked for: ready until the session has exited, and never pending
abbrev pub IsReadiness : Poll (Result (Unit {0}) ExitedError) → List DeskEntry → Type 0
IsReadiness (Ready (Ok x)) own = HasNotExited own
IsReadiness (Ready (Err e)) own = own ≡ looked Exited ∷ []
IsReadiness Pending own = ⊥
