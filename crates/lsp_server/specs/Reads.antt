-- What stood as reads were made.
use Rattle.std.specs.Prelude.{◌≡◌, ◌≢◌, ◌++◌, ◌∷◌, [], ℕ, List, Option, Some, None}

-- the bytes still to come, those taken, and how many of these were flushed, where they are told
pub record Moment : Type 0 where
  pub left : Option (List ℕ)
  pub taken : Option (List ℕ)
  pub flushed : Option ℕ

abbrev pub moment : Option (List ℕ) → Option (List ℕ) → Option ℕ → Moment
moment left taken flushed = record { left = left; taken = taken; flushed = flushed }

-- a read made at this moment was noted, where reads are noted
abbrev pub Notes : Option (List Moment) → Moment → Option (List Moment) → Type 0
Notes None m new = Unit {0}
Notes (Some before) m None = ⊥
Notes (Some before) m (Some after) = after ≡ before ++ m ∷ []

-- what holds of the reads that were noted between two calls, where reads are noted
abbrev pub Made : Option (List Moment) → Option (List Moment) → (List Moment → Type 0) → Type 0
Made None new P = Unit {0}
Made (Some before) None P = ⊥
Made (Some before) (Some after) P = (made : List Moment) × (after ≡ before ++ made) × P made

-- this holds at each of these reads, and a read that finds the end of input is the last
abbrev pub InOrder : (Moment → Type 0) → List Moment → Type 0
InOrder P [] = Unit {0}
InOrder P (m ∷ []) = P m
InOrder P (m ∷ later ∷ rest) = P m × (m.left ≢ Some []) × InOrder P (later ∷ rest)
