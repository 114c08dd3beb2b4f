-- The lines of a text and the places in them (LSP 3.17, "Text Documents", "Position"). A text is the list of its characters, and a place in it is how many of them stand before it.
use Rattle.std.specs.Prelude.{◌≡◌, ℕ, zero, suc, ◌+◌, ◌-◌, ◌<◌, ◌≤◌, Bool, ◌==◌, ◌||◌, nat_lt, nat_le, List, [], ◌∷◌, ◌++◌, length, take, Option, None, Some, IfSome, sum_by, if◌then◌else◌}
use Rattle.std.specs.Option.{option_and_then}

abbrev pub line_feed : ℕ
line_feed = 10

abbrev pub carriage_return : ℕ
carriage_return = 13

-- how many UTF-16 code units a character is
abbrev pub units : ℕ → ℕ
units c = if nat_lt c 0x1_0000 then 1 else 2

-- an end of line begins with this character
abbrev pub ends_line : ℕ → Bool
ends_line c = c == line_feed || c == carriage_return

-- the first line, without its end
abbrev pub first_line : List ℕ → List ℕ
first_line [] = []
first_line (c ∷ cs) = if ends_line c then [] else c ∷ first_line cs

-- what follows a CR that ends a line: with an LF the two are one end
abbrev pub after_carriage_return : List ℕ → List ℕ
after_carriage_return [] = []
after_carriage_return (c ∷ cs) = if c == line_feed then cs else c ∷ cs

-- what follows the first line and its end, which is CR LF, LF, or CR without LF; none where it is the last line
abbrev pub later_lines : List ℕ → Option (List ℕ)
later_lines [] = None
later_lines (c ∷ cs) =
    if c == line_feed then Some cs
    else if c == carriage_return then Some (after_carriage_return cs)
    else later_lines cs

-- the text from the start of a line on, counted from zero; none where there is no such line
abbrev pub from_line : ℕ → List ℕ → Option (List ℕ)
from_line zero t = Some t
from_line (suc n) t = option_and_then later_lines (from_line n t)

-- the most whole characters, from the first on, whose code units are at most n
abbrev pub fitting : ℕ → List ℕ → ℕ
fitting n [] = 0
fitting n (c ∷ cs) = if nat_le (units c) n then suc (fitting (n - units c) cs) else 0

-- the place of a position in the text from its line on: behind the most characters that fit, and not behind the end of the line
abbrev pub place_from : ℕ → ℕ → Option (List ℕ) → ℕ
place_from end character None = end
place_from end character (Some t) = (end - length t) + fitting character (first_line t)

-- the place of a position, which is the end of the text where the line is not there
abbrev pub place_of : ℕ → ℕ → List ℕ → ℕ
place_of line character t = place_from (length t) character (from_line line t)

-- the position of a place: its line begins at the place or before, and the next line behind the place; its character is how many code units stand between the line's start and the place
pub record IsPosition (t : List ℕ) (at line character : ℕ) : Type 0 where
  pub rest : List ℕ
  pub line_is : from_line line t ≡ Some rest
  pub within : at ≤ length t
  pub begun : length t - length rest ≤ at
  pub not_later : IfSome (later_lines rest) (λ later. at < length t - length later)
  pub character_is : character ≡ sum_by units (take (at - (length t - length rest)) rest)

-- ---- laws

-- the place between the CR and the LF of one end of line
pub record IsInLineEnd (t : List ℕ) (at : ℕ) : Type 0 where
  pub before : List ℕ
  pub later : List ℕ
  pub text_is : t ≡ before ++ carriage_return ∷ line_feed ∷ later
  pub at_is : at ≡ length before + 1

-- places and positions lead to each other
pub record PositionsComeBack : Type 0 where
  -- each place has one position
  pub some : (t : List ℕ) (at : ℕ) → at ≤ length t → (line : ℕ) × (character : ℕ) × IsPosition t at line character
  pub one : (t : List ℕ) (at line character line' character' : ℕ) → IsPosition t at line character → IsPosition t at line' character' → (line ≡ line') × (character ≡ character')
  -- whose place it is; that of a place inside an end of line is the one before it
  pub back : (t : List ℕ) (at line character : ℕ) → IsPosition t at line character → ¬ IsInLineEnd t at → place_of line character t ≡ at
  pub before_end : (t : List ℕ) (at line character : ℕ) → IsPosition t at line character → IsInLineEnd t at → place_of line character t + 1 ≡ at
  -- the place of any position in a line is the last of the line whose character is not greater, and inside no end of line
  pub in_line : (t rest : List ℕ) (line character : ℕ) → from_line line t ≡ Some rest → (c : ℕ) × (c ≤ character) × IsPosition t (place_of line character t) line c
  pub last : (t : List ℕ) (at line c character : ℕ) → IsPosition t at line c → ¬ IsInLineEnd t at → c ≤ character → at ≤ place_of line character t
  pub outside : (t : List ℕ) (line character : ℕ) → ¬ IsInLineEnd t (place_of line character t)
