-- A run in the words of the history of a desk that others use too.
use Rattle.std.specs.Prelude.{◌≡◌, ◌+◌, ◌==◌, ℕ, Bool, true, List, [], ◌∷◌, Option, Some}
use Rattle.std.specs.List.{list_any}
use Rattle.std.specs.Io.KnownBytes.{Appends}
use Rattle.lsp_desk.specs.Meaning.{Meaning}
use Rattle.lsp_desk.specs.Trace.{DeskEntry, TraceEntry, entries_of, OthersAsk}
use Rattle.lsp_frame.specs.Codec.{frames}
use Rattle.lsp_session.specs.Item.{ItemData}
use Rattle.lsp_session.specs.Semantics.{Semantics}
use Rattle.lsp_session.specs.State.{State, Effect}
use Rattle.lsp_session.specs.Run.{Order, Picked, Run}
use Rattle.lsp_server.specs.Course.{Course, Setting, course}
use Rattle.lsp_server.specs.Served.{CallBytes, RanFrom}

abbrev pub is_among : ℕ → List ℕ → Bool
is_among n places = list_any (λ k. n == k) places

-- a history from its n-th entry on, in which those at these places are one's own, and the others are theirs
abbrev pub marked_from : ℕ → List ℕ → List DeskEntry → List TraceEntry
marked_from n own [] = []
marked_from n own (entry ∷ entries) = record { own = is_among n own; entry = entry } ∷ marked_from (n + 1) own entries

-- a desk that tells its history and has none yet, and through which the session alone makes its calls
pub record IsUnused {D : Type 0} (m : Meaning D) (desk : D) : Type 0 where
  pub none : m.history desk ≡ Some []
  pub own : m.own desk ≡ []
  pub chief : m.chief desk ≡ true

-- These items were served by a run whose trace is the desk's history: the entries at the places of calls made through this
-- desk are the session's own, and those of other callers stand between them, as calls of a server.
pub record RanInHistory {S D : Type 0} (course : Course S D) (call : CallBytes) (items : List ItemData) (last : S) (desk : D) : Type 0 where
  pub effect : Effect
  pub run : Run course.step course.start items effect last
  pub writes : Appends call.taken call.taken_after (frames effect.out)
  pub history : course.meaning.history desk ≡ Some (entries_of effect.trace)
  pub trace : effect.trace ≡ marked_from 0 (course.meaning.own desk) (entries_of effect.trace)
  pub others : OthersAsk effect.trace

-- what a server does from an unused desk on is a run whose trace is the desk's history
abbrev pub RunsInHistory : {H D C T P : Type 0} → (semantics : Semantics H C T) → Meaning D → Order P → Type 0
RunsInHistory {H} {D} {P = P} semantics m order =
    (setting : Setting H D P) (call : CallBytes) (items : List ItemData) (last : Picked (State H semantics.Call semantics.Task) P) (desk : D) → IsUnused m setting.desk
    → RanFrom (course semantics m order setting) call items last desk → RanInHistory (course semantics m order setting) call items last desk
