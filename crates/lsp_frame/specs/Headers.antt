-- What the headers of a frame say of its body.
use Rattle.std.specs.Prelude.{ℕ, ◌^◌, ◌==◌, ◌&&◌, ◌||◌, List, [], ◌∷◌, ◌++◌, length, Bool, false, nat_eq, nat_lt, if◌then◌else◌, Option, Some, None, Result, Ok, Err, codes, bytes_eq}
use Rattle.std.specs.List.{starts_with}
use Rattle.std.specs.Str.{is_utf8, all_ascii_digits, trim}
use Rattle.std.specs.Str.Parse.{digits_value, without_leading_plus}
use Rattle.lsp_frame.specs.Blocks.{Header}
use Rattle.lsp_frame.specs.declared.parse_error.ParseError.{ParseError}
use Rattle.lsp_frame.specs.declared.parse_error.ParseError.TheVariants.{InvalidContentType, InvalidContentLength, Utf8}

-- decimal digits, at least one
abbrev pub is_numeral : List ℕ → Bool
is_numeral ds = nat_lt 0 (length ds) && all_ascii_digits ds

-- the number of an optional plus sign and decimal digits, where it fits 64 bits
abbrev pub length_of : List ℕ → Option ℕ
length_of bs =
    if is_numeral (without_leading_plus bs) && nat_lt (digits_value 10 (without_leading_plus bs)) (2 ^ 64)
    then Some (digits_value 10 (without_leading_plus bs)) else None

-- the parts between the `;`; front is what has come of the first
abbrev pub parts_from : List ℕ → List ℕ → List (List ℕ)
parts_from front [] = front ∷ []
parts_from front (c ∷ bs) = if c == 59 then front ∷ parts_from [] bs else parts_from (front ++ c ∷ []) bs

-- UTF-8, by its name or by the name that older clients send
abbrev pub is_charset_utf8 : List ℕ → Bool
is_charset_utf8 part = bytes_eq part (codes "charset=utf-8") || bytes_eq part (codes "charset=utf8")

-- whether a part names UTF-8, where it names a charset
abbrev pub charset_in : List ℕ → Option Bool
charset_in p = if starts_with nat_eq (trim p) (codes "charset=") then Some (is_charset_utf8 (trim p)) else None

-- the first answer, where there is one
abbrev pub or_answer : Option Bool → Bool → Bool
or_answer (Some b) later = b
or_answer None later = later

-- the first part that names a charset decides
abbrev pub names_utf8 : List (List ℕ) → Bool
names_utf8 [] = false
names_utf8 (p ∷ ps) = or_answer (charset_in p) (names_utf8 ps)

-- the parts after the first
abbrev pub tail_parts : List (List ℕ) → List (List ℕ)
tail_parts [] = []
tail_parts (p ∷ ps) = ps

-- a media type whose parameters name UTF-8
abbrev pub is_type_good : List ℕ → Bool
is_type_good value = names_utf8 (tail_parts (parts_from [] value))

-- the length that a `Content-Length` gives
abbrev pub length_or_fault : Option ℕ → Result (Option ℕ) ParseError
length_or_fault (Some n) = Ok (Some n)
length_or_fault None = Err InvalidContentLength

-- the length after one more header, or the header's fault
abbrev pub length_after : Option ℕ → Header → Result (Option ℕ) ParseError
length_after before h =
    if bytes_eq h.0 (codes "Content-Length") then (if is_utf8 h.1 then length_or_fault (length_of h.1) else Err Utf8)
    else (if bytes_eq h.0 (codes "Content-Type") then (if is_utf8 h.1 then (if is_type_good h.1 then Ok before else Err InvalidContentType) else Err Utf8)
    else Ok before)

-- what follows a length; a fault stays
abbrev pub on_length : Result (Option ℕ) ParseError → (Option ℕ → Result (Option ℕ) ParseError) → Result (Option ℕ) ParseError
on_length (Ok n) next = next n
on_length (Err e) next = Err e

-- the last length that the headers give, or the first fault; before is the length of the headers in front
abbrev pub content_length : Option ℕ → List Header → Result (Option ℕ) ParseError
content_length before [] = Ok before
content_length before (h ∷ hs) = on_length (length_after before h) (λ n. content_length n hs)
