-- Where serving stands with a session.
use Rattle.std.proofs.Common.{◌≡◌, ℕ, List}
use Rattle.std.specs.Prelude.{Option, None}
use Rattle.lsp_desk.specs.declared.life.Life.TheVariants.{Exited}
use Rattle.lsp_session.specs.declared.table.Entry.{Entry}
use Rattle.lsp_session.specs.Semantics.{Semantics}
use Rattle.lsp_session.specs.State.{State}
use Rattle.lsp_session.specs.Run.{Picked}
use Rattle.lsp_server.specs.Written.{Place}

abbrev pub Point : {H C T : Type 0} → Semantics H C T → Type 0 → Type 0 → Type 0
Point {H} semantics D P = Place (Picked (State H semantics.Call semantics.Task) P) D

-- the method table there
abbrev pub find_at : {H C T D P : Type 0} → (semantics : Semantics H C T) → Point semantics D P → List ℕ → Option Entry
find_at semantics a = semantics.find a.state.session.service

-- no exit was admitted
pub record GoesOn {H C T D P : Type 0} (semantics : Semantics H C T) (a : Point semantics D P) : Type 0 where
  pub exited : a.state.session.exited ≡ None
  pub lives : a.state.session.desk.life ≡ Exited → ⊥
