-- What `parse` reads is `length_of`.
use Rattle.std.proofs.Common.{◌≡◌, ℕ, ◌<◌, ◌^◌, List, length, Bool, true, false, ◌&&◌, cond, Some, None, Result, Ok, Err, nat_lt, refl, sym, arith, true≢false}
use Rattle.std.specs.Str.{all_ascii_digits}
use Rattle.std.specs.Str.Parse.{ParsesUnsigned, IsNumeral, digits_value, without_leading_plus}
use Rattle.std.proofs.lemmas.Str.Parse.{IsNumeralModel, numerals_by_value, tells_all_ascii_digits}
use Rattle.std.specs.Result.{result_ok}
use Rattle.lsp_frame.specs.Headers.{length_of, is_numeral}

own : IsNumeralModel (λ ds. all_ascii_digits ds ≡ true) (digits_value 10)
own = numerals_by_value _ tells_all_ascii_digits

lt_true : (a b : ℕ) → a < b → nat_lt a b ≡ true
lt_true a b h = grind arith

lt_from : (a b : ℕ) → nat_lt a b ≡ true → a < b
lt_from a b h = grind arith

both : (a b : Bool) → a ≡ true → b ≡ true → (a && b) ≡ true
both true b h k = k
both false b h k = h

first : (a b : Bool) → (a && b) ≡ true → a ≡ true
first true b h = refl
first false b h = h

second : (a b : Bool) → (a && b) ≡ true → b ≡ true
second true b h = h
second false b h = absurd (true≢false (sym h))

abbrev fits : List ℕ → Bool
fits ds = is_numeral ds && nat_lt (digits_value 10 ds) (2 ^ 64)

fits_true : (ds : List ℕ) → IsNumeral 10 ds → digits_value 10 ds < 2 ^ 64 → fits ds ≡ true
fits_true ds n small = both _ _ (both _ _ (lt_true _ _ n.0) (own.from ds n.1)) (lt_true _ _ small)

fits_from : (ds : List ℕ) → fits ds ≡ true → IsNumeral 10 ds × (digits_value 10 ds < 2 ^ 64)
fits_from ds h =
    let numeral = first (is_numeral ds) _ h in
    ((lt_from _ _ (first _ _ numeral), own.to ds (second (nat_lt 0 (length ds)) _ numeral)), lt_from _ _ (second (is_numeral ds) _ h))

refused : (b : Bool) (n : ℕ) → (b ≡ true → ⊥) → None ≡ cond b (Some n) None
refused true n h = absurd (h refl)
refused false n h = refl

pub length_of_parse : {E : Type 0} → (bs : List ℕ) (r : Result ℕ E) → ParsesUnsigned 64 10 bs r → result_ok r ≡ length_of bs
length_of_parse bs (Ok n) h = rw (fits_true (without_leading_plus bs) h.0.0 h.0.1, h.1) refl
length_of_parse bs (Err e) h = refused (fits (without_leading_plus bs)) _ (λ t. h (fits_from (without_leading_plus bs) t))
