-- What is written of a run.
use Rattle.std.specs.Prelude.{◌≡◌, ◌++◌, ℕ, List, Option}
use Rattle.std.specs.Io.KnownBytes.{Appends}
use Rattle.lsp_desk.specs.Meaning.{Meaning, Grows, Grown}
use Rattle.lsp_frame.specs.Codec.{frames}
use Rattle.lsp_session.specs.Item.{ItemData}
use Rattle.lsp_session.specs.State.{State, Effect}
use Rattle.lsp_session.specs.Run.{Picked, Run}
use Rattle.lsp_session.specs.Session.{SessionView}
use Rattle.lsp_server.specs.Course.{picked}

abbrev pub IsPrefixOf : List ℕ → List ℕ → Type 0
IsPrefixOf part whole = (rest : List ℕ) × (part ++ rest ≡ whole)

-- where serving stands: the session's state, its desk, and the bytes that the sink took, where they are told
pub record Place (S D : Type 0) : Type 0 where
  pub state : S
  pub desk : D
  pub taken : Option (List ℕ)

abbrev pub place : {H D C T P : Type 0} → SessionView H D C T → P → Option (List ℕ) → Place (Picked (State H C T) P) D
place view p taken = record { state = picked view p; desk = view.desk; taken = taken }

-- the steps of these items were made, the desk grew by their trace, and the frames of what they put out were written
pub record Ran {S D : Type 0} (step : S → ItemData → Effect → S → Type 0) (m : Meaning D) (old : Place S D) (items : List ItemData) (new : Place S D) : Type 0 where
  pub effect : Effect
  pub run : Run step old.state items effect new.state
  pub grows : Grows m old.desk effect.trace new.desk
  pub writes : Appends old.taken new.taken (frames effect.out)

-- these bytes begin the frames of a run over some first ones of these items, by whose trace the desk grew, and maybe further
pub record IsPartOf {S D : Type 0} (step : S → ItemData → Effect → S → Type 0) (m : Meaning D) (old : S) (old_desk : D) (items : List ItemData) (bytes : List ℕ) (new_desk : D) : Type 0 where
  pub given : List ItemData
  pub rest : List ItemData
  pub split : given ++ rest ≡ items
  pub effect : Effect
  pub last : S
  pub run : Run step old given effect last
  pub desk : D
  pub grows : Grows m old_desk effect.trace desk
  pub further : Grown m desk new_desk
  pub part : IsPrefixOf bytes (frames effect.out)

-- bytes that begin the frames of a run over some first ones of these items were written, and the desk grew by that run, and maybe further
pub record RanPart {S D : Type 0} (step : S → ItemData → Effect → S → Type 0) (m : Meaning D) (old : Place S D) (items : List ItemData) (new_desk : D) (new_taken : Option (List ℕ)) : Type 0 where
  pub written : List ℕ
  pub part : IsPartOf step m old.state old.desk items written new_desk
  pub writes : Appends old.taken new_taken written
