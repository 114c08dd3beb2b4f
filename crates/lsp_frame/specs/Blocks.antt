-- A block of bytes through its first empty line, and the head that it may be.
use Rattle.std.specs.Prelude.{◌≡◌, ℕ, zero, suc, ◌+◌, ◌≤◌, ◌==◌, List, [], ◌∷◌, length, take, drop, map, Bool, true, nat_eq, if◌then◌else◌, Option, Some, None, option_map, option_and_then}
use Rattle.std.specs.List.{starts_with, prefix_len}
use Rattle.httparse.specs.Grammar.{is_token_byte, is_value_byte, trim_ows, Field, LineEnd, ReadsSection}
use Rattle.httparse.specs.Spans.{name_and_value}

-- the length of the empty line at the front: an LF, or CR LF
abbrev pub empty_line : List ℕ → Option ℕ
empty_line bs =
    if starts_with nat_eq bs (10 ∷ []) then Some 1
    else (if starts_with nat_eq bs (13 ∷ 10 ∷ []) then Some 2 else None)

-- the same, where a line begins at the front
abbrev pub empty_line_if : Bool → List ℕ → Option ℕ
empty_line_if at_start bs = if at_start then empty_line bs else None

-- after place i by so many bytes, or else the later place
abbrev pub or_later : ℕ → Option ℕ → Option ℕ → Option ℕ
or_later i (Some n) later = Some (i + n)
or_later i None later = later

-- the place after the first empty line, which stands at the front or right after an LF; the bytes begin at place i
abbrev pub place_after : ℕ → Bool → List ℕ → Option ℕ
place_after i at_start [] = None
place_after i at_start (c ∷ bs) = or_later i (empty_line_if at_start (c ∷ bs)) (place_after (i + 1) (c == 10) bs)

-- the length of the block at the front, through the first empty line
abbrev pub block_len : List ℕ → Option ℕ
block_len bs = place_after 0 true bs

-- ---- a head of the grammar of `httparse`

-- a name, and the value without the white space around it
abbrev pub Header : Type 0
Header = List ℕ × List ℕ

-- the bytes after an LF, or CR LF
abbrev pub after_end : List ℕ → Option (List ℕ)
after_end bs = option_map (λ n. drop n bs) (empty_line bs)

-- the header of this name whose value stands at the front, and the bytes after its line
abbrev pub value_at : List ℕ → List ℕ → Option (Header × List ℕ)
value_at name bs = option_map (λ rest. ((name, trim_ows (take (prefix_len is_value_byte bs) bs)), rest)) (after_end (drop (prefix_len is_value_byte bs) bs))

-- the same, where a colon stands at the front
abbrev pub named_at : List ℕ → List ℕ → Option (Header × List ℕ)
named_at name [] = None
named_at name (c ∷ bs) = if c == 58 then value_at name bs else None

-- the header at the front, and the bytes after its line
unfoldable pub header_at : List ℕ → Option (Header × List ℕ)
header_at bs = if prefix_len is_token_byte bs == 0 then None else named_at (take (prefix_len is_token_byte bs) bs) (drop (prefix_len is_token_byte bs) bs)

-- no headers where the empty line has nothing after it, and else those that stand there
abbrev pub ended : Option (List ℕ) → Option (List Header) → Option (List Header)
ended None hs = hs
ended (Some rest) hs = if length rest == 0 then Some [] else None

-- the headers of a head that has at most so many
abbrev pub headers_in : ℕ → List ℕ → Option (List Header)
headers_in zero bs = ended (after_end bs) None
headers_in (suc k) bs = ended (after_end bs) (option_and_then (λ p. option_map (λ hs. p.0 ∷ hs) (headers_in k p.1)) (header_at bs))

-- the block is, whole, a head of the grammar of `httparse` with these headers, of which there are at most two
abbrev pub IsGoodBlock : List ℕ → List Header → Type 0
IsGoodBlock block hs = (fields : List Field) × (last : LineEnd) × ReadsSection block fields last [] × (length fields ≤ 2) × (map name_and_value fields ≡ hs)
