-- Where a text is cut by a character.
use Rattle.std.specs.Prelude.{ℕ, ◌==◌, List, [], ◌∷◌, Bool, true, false, ◌&&◌, Option, Some, None, if◌then◌else◌}

-- what stands before the first c, or the whole text
abbrev pub before : ℕ → List ℕ → List ℕ
before c [] = []
before c (b ∷ s) = if b == c then [] else b ∷ before c s

-- what stands after the first c
abbrev pub after : ℕ → List ℕ → Option (List ℕ)
after c [] = None
after c (b ∷ s) = if b == c then Some s else after c s

-- the first c and what follows it, or nothing
abbrev pub from : ℕ → List ℕ → List ℕ
from c [] = []
from c (b ∷ s) = if b == c then b ∷ s else from c s

-- what follows a c at the front
abbrev pub stripped : ℕ → List ℕ → Option (List ℕ)
stripped c [] = None
stripped c (b ∷ s) = if b == c then Some s else None

-- a byte more at the front of the first piece
abbrev pub onto_first : ℕ → List (List ℕ) → List (List ℕ)
onto_first b [] = (b ∷ []) ∷ []
onto_first b (p ∷ ps) = (b ∷ p) ∷ ps

-- the pieces between one c and the next
abbrev pub pieces : ℕ → List ℕ → List (List ℕ)
pieces c [] = [] ∷ []
pieces c (b ∷ s) = if b == c then [] ∷ pieces c s else onto_first b (pieces c s)

-- what stands before the first two c in a row, or the whole text
abbrev pub before_two : ℕ → List ℕ → List ℕ
before_two c [] = []
before_two c (a ∷ []) = a ∷ []
before_two c (a ∷ b ∷ s) = if (a == c) && (b == c) then [] else a ∷ before_two c (b ∷ s)

-- what stands after the first two c in a row
abbrev pub after_two : ℕ → List ℕ → Option (List ℕ)
after_two c [] = None
after_two c (a ∷ []) = None
after_two c (a ∷ b ∷ s) = if (a == c) && (b == c) then Some s else after_two c (b ∷ s)

abbrev pub is_absent_or : (List ℕ → Bool) → Option (List ℕ) → Bool
is_absent_or test None = true
is_absent_or test (Some s) = test s

abbrev pub is_present_and : (List ℕ → Bool) → Option (List ℕ) → Bool
is_present_and test None = false
is_present_and test (Some s) = test s
