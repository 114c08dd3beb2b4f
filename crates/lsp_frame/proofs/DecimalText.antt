-- The decimal text of a length, as a header's value.
use Rattle.std.specs.Prelude.{⊤}
use Rattle.std.proofs.Common.{◌≡◌, ℕ, ◌+◌, ◌%◌, ◌^◌, ◌<◌, ◌≤◌, List, [], ◌∷◌, ◌++◌, length, reverse, true, false, ◌==◌, Some, Result, Ok, decimal, refl, sym, arith}
use Rattle.std.proofs.lemmas.List.{reverse-append}
use Rattle.std.proofs.lemmas.List.Elements.{All-nil, All-cons}
use Rattle.std.proofs.lemmas.Fmt.{decimal_by_steps, decimal_is_IsNumeral, IsAscii-decimal}
use Rattle.std.proofs.lemmas.Str.{is_utf8-from_IsUtf8, IsUtf8-from_ascii}
use Rattle.std.specs.Str.{is_utf8}
use Rattle.std.specs.Str.Parse.{without_leading_plus, digits_value, ParsesUnsigned}
use Rattle.httparse.specs.Grammar.{is_value_byte, is_ows, skip_ows, trim_ows, AllPass}
use Rattle.httparse.proofs.TrimLemmas.{trim_ows_space}
use Rattle.lsp_frame.specs.Headers.{length_of}
use Rattle.lsp_frame.proofs.LengthParse.{length_of_parse}

-- each byte is a decimal digit
abbrev pub AreDigits : List ℕ → Type 0
AreDigits [] = ⊤
AreDigits (c ∷ cs) = (48 ≤ c) × (c ≤ 57) × AreDigits cs

one_more : (cs : List ℕ) (d : ℕ) → AreDigits cs → d < 10 → AreDigits (cs ++ (48 + d) ∷ [])
one_more [] d are small = (omega arith, omega arith, tt)
one_more (c ∷ cs) d are small = (are.0, are.1, one_more cs d are.2 small)

last_digit : (n : ℕ) → n % 10 < 10
last_digit n = omega arith

pub decimal_digits : (n : ℕ) → n < 2 ^ 64 → AreDigits (decimal n)
decimal_digits = decimal_by_steps (λ n ds. AreDigits ds) (λ n small. (omega arith, omega arith, tt)) (λ n ds low are. one_more ds (n % 10) are (last_digit n))

decimal_some : (n : ℕ) → n < 2 ^ 64 → 0 < length (decimal n)
decimal_some n fits = (decimal_is_IsNumeral n fits).0.0

-- ---- no plus sign stands before it, so it is read as its number

not_plus : (c : ℕ) → 48 ≤ c → (c == 43) ≡ false
not_plus c low = grind arith

plus_free : (ds : List ℕ) → 0 < length ds → AreDigits ds → without_leading_plus ds ≡ ds
plus_free [] some are = absurd (omega arith)
plus_free (c ∷ cs) some are = rw (not_plus c are.0) refl

pub length_of-decimal : (n : ℕ) → n < 2 ^ 64 → length_of (decimal n) ≡ Some n
length_of-decimal n fits =
    let read = decimal_is_IsNumeral n fits in
    let same = plus_free (decimal n) read.0.0 (decimal_digits n fits) in
    let small : digits_value 10 (decimal n) < 2 ^ 64 = rw read.1 fits in
    let answer : Result ℕ ℕ = Ok n in
    let parses : ParsesUnsigned 64 10 (decimal n) answer = rw same ((read.0, small), sym read.1) in
    sym (length_of_parse (decimal n) answer parses)

-- ---- no white space stands at its ends

not_ows : (c : ℕ) → 48 ≤ c → is_ows c ≡ false
not_ows c low = grind arith

kept : (c : ℕ) (cs : List ℕ) → 48 ≤ c → skip_ows (c ∷ cs) ≡ c ∷ cs
kept c cs low = rw (not_ows c low) refl

front_kept : (ds : List ℕ) → 0 < length ds → AreDigits ds → skip_ows ds ≡ ds
front_kept [] some are = absurd (omega arith)
front_kept (c ∷ cs) some are = kept c cs are.0

back_kept : (n : ℕ) → n < 2 ^ 64 → skip_ows (reverse (decimal n)) ≡ reverse (decimal n)
back_kept = decimal_by_steps (λ n ds. skip_ows (reverse ds) ≡ reverse ds)
    (λ n small. kept (48 + n) [] (omega arith))
    (λ n ds low is. rw (reverse-append ds ((48 + n % 10) ∷ [])) (kept (48 + n % 10) (reverse ds) (omega arith)))

pub trim_ows-decimal : (n : ℕ) → n < 2 ^ 64 → trim_ows (32 ∷ decimal n) ≡ decimal n
trim_ows-decimal n fits = trim_ows_space (decimal n) (front_kept (decimal n) (decimal_some n fits) (decimal_digits n fits)) (back_kept n fits)

-- ---- its bytes are those of a value, and of UTF-8

value_digit : (c : ℕ) → 48 ≤ c → c ≤ 57 → is_value_byte c ≡ true
value_digit c low high = grind arith

digits_pass : (ds : List ℕ) → AreDigits ds → AllPass is_value_byte ds
digits_pass [] are = All-nil (λ b. is_value_byte b ≡ true)
digits_pass (c ∷ cs) are = All-cons (λ b. is_value_byte b ≡ true) c cs (value_digit c are.0 are.1) (digits_pass cs are.2)

pub decimal_passes : (n : ℕ) → n < 2 ^ 64 → AllPass is_value_byte (32 ∷ decimal n)
decimal_passes n fits = All-cons (λ b. is_value_byte b ≡ true) 32 (decimal n) refl (digits_pass (decimal n) (decimal_digits n fits))

pub is_utf8-decimal : (n : ℕ) → n < 2 ^ 64 → is_utf8 (decimal n) ≡ true
is_utf8-decimal n fits = is_utf8-from_IsUtf8 (decimal n) (IsUtf8-from_ascii (decimal n) (IsAscii-decimal n fits))
