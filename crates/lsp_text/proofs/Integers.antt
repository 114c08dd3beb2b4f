-- Integers that are written as floats come back.
use Rattle.std.proofs.Common.{◌≡◌, ℕ, ◌^◌, ◌-◌, ◌*◌, ◌/◌, ◌≤◌, ◌<◌, ◌&&◌, ◌||◌, pos, Bool, true, false, cond, nat_lt, refl, ap, ◌∙◌, lit<, arith}
use Rattle.std.specs.Int.{w64}
use Rattle.std.specs.Float.{float_to_unsigned, float_to_signed}
use lib.Dec.{T, eqb, eqb_refl, le→leb, lt→ltb}
use mathlib.Core.Bool.{beq}
use lib.Ieee.{Float, nan, inf, fin, binary64, up, down, of_int, in_float, eq, to_unsigned, level}
use lib.Ieee.Bits.{is_true}
use lib.Ieee.Exact.{HasValue}
use lib.Ieee.Back.{round_whole, unsigned_back}
use Rattle.serde_json.specs.Data.{number, unsigned}
use Rattle.lsp_text.specs.Floats.{is_unsigned, is_signed, integer_or_null, IntegersComeBack}
use Rattle.lsp_text.proofs.LetIn.{chosen}

both_true : (a b : Bool) → a ≡ true → b ≡ true → (a && b) ≡ true
both_true a b h k = ap (λ x. x && b) h ∙ k

beq_same : (s : Bool) → beq s s ≡ true
beq_same true = refl
beq_same false = refl

level_same : (s : Bool) (a : ℕ) → level s a s a ≡ true
level_same s a = both_true _ _ (is_true (eqb a a) (eqb_refl a)) (ap (λ b. b || eqb a 0) (beq_same s))

-- a finite float is equal to itself
eq_same : (x : Float) (s : Bool) (a c : ℕ) → HasValue x s a c → eq x x ≡ true
unfolding eq
eq_same nan s a c h = absurd h
eq_same (inf t) s a c h = absurd h
eq_same (fin t m e) s a c h = level_same t (m * up e * down e)

small_is_float : (n : ℕ) → n ≤ 2 ^ 53 → T (in_float binary64 (pos n))
unfolding in_float
small_is_float n h = le→leb n (2 ^ 53) h

of_int_same : (n : ℕ) → n ≤ 2 ^ 53 → eq (of_int binary64 (pos n)) (of_int binary64 (pos n)) ≡ true
unfolding of_int
of_int_same n h = eq_same (of_int binary64 (pos n)) false n 1 (round_whole binary64 false n h)

below : (n : ℕ) → n ≤ 2 ^ 53 → n < 2 ^ 64 - 1
below n h = omega (arith, h)

natural : (n : ℕ) → n ≤ 2 ^ 53 → integer_or_null (of_int binary64 (pos n)) ≡ number (unsigned n)
natural n h =
    let x = of_int binary64 (pos n) in
    let cut : float_to_unsigned w64 x ≡ n = (unsigned_back binary64 64 n (small_is_float n h) (omega (arith, h))).1 in
    let less : nat_lt n (2 ^ 64 - 1) ≡ true = is_true _ (lt→ltb n (2 ^ 64 - 1) (below n h)) in
    let is : is_unsigned x ≡ true = both_true _ _ (ap (λ k. nat_lt k (2 ^ 64 - 1)) cut ∙ less) (ap (λ k. eq (of_int binary64 (pos k)) x) cut ∙ of_int_same n h) in
    ap (λ b. chosen b (is_signed x) (float_to_unsigned w64 x) (float_to_signed w64 x)) is ∙ ap (λ k. number (unsigned k)) cut

pub integers_back : IntegersComeBack
integers_back = record { natural = natural }
