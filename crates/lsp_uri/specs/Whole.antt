-- 5.3: the parts of a URI reference, put together again.
use Rattle.std.specs.Prelude.{ℕ, List, [], ◌∷◌, ◌++◌, Option, Some, None}

-- a part, with the character that comes before it
abbrev pub led_by : ℕ → Option (List ℕ) → List ℕ
led_by c None = []
led_by c (Some s) = c ∷ s

-- a scheme, with its ":"
abbrev pub scheme_front : Option (List ℕ) → List ℕ
scheme_front None = []
scheme_front (Some s) = s ++ 58 ∷ []

-- an authority, with its "//"
abbrev pub authority_front : Option (List ℕ) → List ℕ
authority_front None = []
authority_front (Some s) = 47 ∷ 47 ∷ s

abbrev pub recomposed : Option (List ℕ) → Option (List ℕ) → List ℕ → Option (List ℕ) → Option (List ℕ) → List ℕ
recomposed s a p q f = ((scheme_front s ++ (authority_front a ++ p)) ++ led_by 63 q) ++ led_by 35 f
