-- A list of entries, each with a number, a key and a value. The numbers rise.
use Rattle.std.specs.Prelude.{ℕ, ◌<◌, ◌+◌, ◌==◌, List, [], ◌∷◌, Bool, if◌then◌else◌}

module _ {K V : Type 0} where
  -- the entry has a key that is equal to this one
  abbrev pub has_key : (K → K → Bool) → K → ℕ × (K × V) → Bool
  has_key eq key e = eq key e.1.0

  abbrev pub has_number : ℕ → ℕ × (K × V) → Bool
  has_number n e = n == e.0

  -- the entries without the first of that number
  abbrev pub without : ℕ → List (ℕ × (K × V)) → List (ℕ × (K × V))
  without n [] = []
  without n (e ∷ es) = if n == e.0 then es else e ∷ without n es

  -- n is above each number
  abbrev pub IsAbove : ℕ → List (ℕ × (K × V)) → Type 0
  IsAbove n [] = Unit {0}
  IsAbove n (e ∷ es) = (e.0 < n) × IsAbove n es

  -- the number after that of the last entry, and 0 where there is none
  abbrev pub next_number : List (ℕ × (K × V)) → ℕ
  next_number [] = 0
  next_number (e ∷ []) = e.0 + 1
  next_number (e ∷ f ∷ es) = next_number (f ∷ es)
