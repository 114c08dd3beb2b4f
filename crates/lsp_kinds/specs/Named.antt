-- The numbers of a kind that have a name.
use Rattle.std.specs.Prelude.{ℕ, List, [], ◌∷◌, ◌++◌, map, ℤ, int_le, ◌&&◌, ◌≡◌, bytes_eq, if◌then◌else◌, Option, Some, None, Result, MatchResult, codes}
use Rattle.std.specs.Fmt.{signed_decimal}

-- a name of LSP, by its bytes
abbrev pub Name : Type 0
Name = List ℕ

-- the number of that name
abbrev pub number_in : List (Name × ℤ) → Name → Option ℤ
number_in [] name = None
number_in (e ∷ es) name = if bytes_eq e.0 name then Some e.1 else number_in es name

-- the name of that number
abbrev pub name_in : List (Name × ℤ) → ℤ → Option Name
name_in [] n = None
name_in (e ∷ es) n = if int_le e.1 n && int_le n e.1 then Some e.0 else name_in es n

-- what a name is read as, where an error is the text that `text` gives of it: a kind where it is one of the names
abbrev pub IsReadBy : {E : Type 0} → List (Name × ℤ) → Name → (E → Name) → Result ℤ E → Type 0
IsReadBy names name text r = MatchResult r (λ n. number_in names name ≡ Some n) (λ e. (number_in names name ≡ None) × (text e ≡ codes "unknown enum variant"))

-- the numbers that have a name, in the order of the table
abbrev pub numbers_of : List (Name × ℤ) → List ℤ
numbers_of names = map (λ e. e.1) names

-- the name, or the number with the name of its type where it has none
abbrev pub name_or_number : Name → Option Name → ℤ → List ℕ
name_or_number type_name (Some name) n = name
name_or_number type_name None n = type_name ++ codes "(" ++ signed_decimal n ++ codes ")"

-- what Debug writes of a kind
abbrev pub kind_text : List (Name × ℤ) → Name → ℤ → List ℕ
kind_text names type_name n = name_or_number type_name (name_in names n) n
