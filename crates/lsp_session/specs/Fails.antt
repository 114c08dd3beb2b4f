-- What a failing call leaves of a desk.
use Rattle.std.specs.Prelude.{◌≡◌, List, Result, Ok, Err}
use Rattle.lsp_desk.specs.declared.call.DeskFault.{DeskFault}
use Rattle.lsp_desk.specs.Trace.{DeskEntry, TraceEntry, owns}
use Rattle.lsp_desk.specs.Meaning.{Meaning, Grows, Spends, PollsOn, FailsOn}
use Rattle.lsp_session.specs.Semantics.{AreClient}

-- a poll made calls of a server, and then this fault came
pub record PollFails {D : Type 0} (m : Meaning D) (old new : D) (fault : DeskFault) : Type 0 where
  pub trace : List TraceEntry
  pub grows : Grows m old trace new
  pub asks : AreClient (owns trace)
  pub spends : Spends m new fault

-- the life stays
abbrev pub KeepsLife : {D : Type 0} → Meaning D → D → D → Type 0
KeepsLife m old new = (m.now new).life ≡ (m.now old).life

-- entries were made, and then this fault came; the life stays
pub record FailsKept {D : Type 0} (m : Meaning D) (old new : D) (fault : DeskFault) : Type 0 where
  pub failed : FailsOn m old new fault
  pub kept : KeepsLife m old new

-- how calls on a desk end of which this holds where they are made
abbrev pub Called : {D A : Type 0} → Meaning D → D → (A → List DeskEntry → Type 0) → D → Result A DeskFault → Type 0
Called m old P new (Ok x) = PollsOn m old new (P x)
Called m old P new (Err fault) = FailsKept m old new fault
