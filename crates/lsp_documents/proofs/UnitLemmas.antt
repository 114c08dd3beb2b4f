-- UTF-16 code units of characters.
use Rattle.std.proofs.Common.{◌≡◌, ◌≤◌, ◌+◌, ℕ, List, [], ◌∷◌, Bool, true, false, cond, refl, sym, ap, ◌∙◌, arith, length, take, nat_lt, ltb-false, sum_by}
use Rattle.std.specs.Char.{len_utf8}
use Rattle.std.proofs.lemmas.Bool.{le-ltb}
use Rattle.std.proofs.lemmas.List.{take_all, length-append}
use Rattle.std.proofs.lemmas.List.Sums.{sum_by_more, sum_by-cons, sum_by-take-le}
use Rattle.std.proofs.lemmas.Str.{length-encode, len_utf8_bounds}
use lib.Utf8.{encodes, encode}
use Rattle.lsp_documents.specs.Lines.{units}
use Rattle.lsp_documents.proofs.FittingLemmas.{IsNext}

pub units_more : (cs : List ℕ) (n c : ℕ) → IsNext cs n c → sum_by units (take (n + 1) cs) ≡ sum_by units (take n cs) + units c
units_more cs n c next = sum_by_more units cs n c next.within ∙ ap (λ x. sum_by units (take n cs) + units x) (sym next.is)

-- a character is no more code units than bytes
units-le : (c : ℕ) → units c ≤ length (encode c)
units-le c = go (nat_lt c 0x1_0000) refl
  where
    go : (b : Bool) → nat_lt c 0x1_0000 ≡ b → cond b 1 2 ≤ length (encode c)
    go true p = omega (arith, length-encode c, (len_utf8_bounds c).0)
    go false p =
        let large : 65536 ≤ c = ltb-false c 0x1_0000 p in
        let is_four : len_utf8 c ≡ 4 =
        ap (λ b. cond b 1 (cond (nat_lt c 0x800) 2 (cond (nat_lt c 0x1_0000) 3 4))) (le-ltb c 0x80 (omega arith))
        ∙ ap (λ b. cond b 2 (cond (nat_lt c 0x1_0000) 3 4)) (le-ltb c 0x800 (omega arith))
        ∙ ap (λ b. cond b 3 4) p in
        omega (arith, length-encode c, is_four)

pub units_all_le : (cs : List ℕ) → sum_by units cs ≤ length (encodes cs)
units_all_le [] = omega arith
units_all_le (c ∷ cs) =
    let bytes : length (encodes (c ∷ cs)) ≡ length (encode c) + length (encodes cs) = length-append (encode c) (encodes cs) in
    let all : sum_by units (c ∷ cs) ≡ units c + sum_by units cs = sum_by-cons units c cs in
    omega (arith, units_all_le cs, units-le c, bytes, all)

pub units_within : (cs : List ℕ) (n : ℕ) → sum_by units (take n cs) ≤ length (encodes cs)
units_within cs n = omega (arith, sum_by-take-le units cs n, units_all_le cs)

pub units_all : (cs : List ℕ) (n : ℕ) → n ≡ length cs → sum_by units (take n cs) ≡ sum_by units cs
units_all cs n e = ap (sum_by units) (take_all n cs (omega arith))
