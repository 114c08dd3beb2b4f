-- How the entries of a key are found.
use Rattle.std.specs.Prelude.{◌≡◌, ℕ, ◌<◌, ◌==◌, List, [], ◌∷◌, Bool, Option, Some, None, if◌then◌else◌}
use Rattle.std.specs.HashMap.{HashMap, get}
use Rattle.lsp_keyed.specs.declared.keyed.Numbers.{Numbers}

abbrev pub listed : Option Numbers → List ℕ
listed None = []
listed (Some ns) = ns.oldest ∷ ns.later.keys

abbrev pub first : List ℕ → Option ℕ
first [] = None
first (n ∷ ns) = Some n

abbrev pub rest : List ℕ → List ℕ
rest [] = []
rest (n ∷ ns) = ns

-- the numbers without the first that is n
abbrev pub without_number : ℕ → List ℕ → List ℕ
without_number n [] = []
without_number n (m ∷ ms) = if n == m then ms else m ∷ without_number n ms

-- each number is less than n
abbrev pub AreLess : ℕ → List ℕ → Type 0
AreLess n [] = Unit {0}
AreLess n (m ∷ ms) = (m < n) × AreLess n ms

module _ {K V : Type 0} where
  -- each number is above n
  abbrev pub AreAbove : ℕ → List (ℕ × (K × V)) → Type 0
  AreAbove n [] = Unit {0}
  AreAbove n (e ∷ es) = (n < e.0) × AreAbove n es

  abbrev pub AreRising : List (ℕ × (K × V)) → Type 0
  AreRising [] = Unit {0}
  AreRising (e ∷ es) = AreAbove e.0 es × AreRising es

  -- the numbers of the entries whose keys pass, in order
  abbrev pub numbers_of : (K → Bool) → List (ℕ × (K × V)) → List ℕ
  numbers_of test [] = []
  numbers_of test (e ∷ es) = if test e.1.0 then e.0 ∷ numbers_of test es else numbers_of test es

-- the numbers rise, and each key's are listed
pub record IsIndexed {K V S : Type 0} (eq : K → K → Bool) (es : List (ℕ × (K × V))) (numbers : HashMap K Numbers S) : Type 0 where
  pub rising : AreRising es
  pub found : (k : K) → listed (get eq numbers k) ≡ numbers_of (eq k) es
