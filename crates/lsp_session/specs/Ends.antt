-- How a call of the code's session ends.
use Rattle.std.specs.Prelude.{Result, Ok, Err}
use Rattle.lsp_desk.specs.declared.call.DeskFault.{DeskFault}
use Rattle.lsp_desk.specs.Meaning.{Meaning, FailsOn}
use Rattle.lsp_session.specs.declared.admission.Verdict.{Verdict}
use Rattle.lsp_session.specs.declared.running.Running.{Running}
use Rattle.lsp_session.specs.Semantics.{Semantics}
use Rattle.lsp_session.specs.Admission.{RespectsLive}
use Rattle.lsp_session.specs.State.{State, Effect, live}
use Rattle.lsp_session.specs.Run.{Applying}
use Rattle.lsp_session.specs.Verdict.{show_verdict, IsSound}
use Rattle.lsp_session.specs.View.{running_view, Keeps, Goes, KeepsOut, PutsOut, TellsLife}

-- the session went on by this relation, and keeps these facts
pub record Does {H D C T : Type 0} (semantics : Semantics H C T) (m : Meaning D) (Kept : Running H D C T → Type 0) (old : Running H D C T) (P : State H semantics.Call semantics.Task → Effect → State H semantics.Call semantics.Task → Type 0) (new : Running H D C T) : Type 0 where
  pub ok : Goes semantics m old P new
  pub keeps : Kept new

-- it was to go on by this relation, and has failed on the way
pub record Breaks {H D C T : Type 0} (semantics : Semantics H C T) (m : Meaning D) (old : Running H D C T) (P : State H semantics.Call semantics.Task → Effect → State H semantics.Call semantics.Task → Type 0) (new : Running H D C T) (fault : DeskFault) : Type 0 where
  pub failed : FailsOn m old.desk new.desk fault
  pub stays : KeepsOut semantics m old new
  pub puts : PutsOut semantics m old P new
  pub life : TellsLife m new

-- how a part of a call ends that was to do this, after which the works may not yet fit the life
abbrev pub PartEnds : {H D C T A : Type 0} → (semantics : Semantics H C T) → Meaning D → Running H D C T → (State H semantics.Call semantics.Task → Effect → State H semantics.Call semantics.Task → Type 0) → Running H D C T → Result A DeskFault → Type 0
PartEnds semantics m old P new (Ok x) = Does semantics m (Keeps semantics m) old P new
PartEnds semantics m old P new (Err fault) = Breaks semantics m old P new fault

-- ---- a verdict

-- it may be done
pub record MayDo {H D C T : Type 0} (semantics : Semantics H C T) (m : Meaning D) (r : Running H D C T) (verdict : Verdict C) : Type 0 where
  pub keeps : Keeps semantics m r
  pub sound : IsSound semantics verdict
  pub fresh : RespectsLive (live (running_view semantics m r).state) (show_verdict semantics verdict)

-- how a call ends that was to do it
abbrev pub VerdictEnds : {H D C T A : Type 0} → (semantics : Semantics H C T) → Meaning D → Running H D C T → Verdict C → Running H D C T → Result A DeskFault → Type 0
VerdictEnds semantics m old verdict new r = PartEnds semantics m old (Applying semantics (show_verdict semantics verdict)) new r
