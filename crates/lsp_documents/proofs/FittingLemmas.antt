-- How many characters of a line fit.
use Rattle.std.proofs.Common.{◌≡◌, ◌≢◌, ◌<◌, ◌≤◌, ◌+◌, ◌-◌, ℕ, suc, List, [], ◌∷◌, ◌++◌, Bool, true, false, cond, refl, sym, ap, ◌∙◌, arith, length, take, drop, get_or, nat_le, ◌⊎◌, inl, inr}
use Rattle.std.specs.Prelude.{◌==◌, ◌||◌}
use Rattle.std.proofs.lemmas.List.{at_drop_more, at_drop_all, take_more, length-append, take-append-drop, append-nil}
use Rattle.std.proofs.lemmas.Str.{encodes-append, length-encode}
use Rattle.std.specs.Char.{len_utf8}
use Rattle.std.proofs.lemmas.Bool.{lt-leb, le-leb}
use Rattle.lsp_documents.proofs.LineLemmas.{other}
use lib.Utf8.{encodes, encode}
use Rattle.lsp_documents.specs.Lines.{ends_line, units, first_line, fitting}

-- what fits is no more than all, and a line no more than the text
pub fitting-le : (n : ℕ) (cs : List ℕ) → fitting n cs ≤ length cs
fitting-le n [] = omega arith
fitting-le n (c ∷ cs) = go (nat_le (units c) n) (fitting-le (n - units c) cs)
  where
    go : (b : Bool) → fitting (n - units c) cs ≤ length cs → cond b (suc (fitting (n - units c) cs)) 0 ≤ suc (length cs)
    go true h = omega (arith, h)
    go false h = omega arith

pub first_line-le : (cs : List ℕ) → length (first_line cs) ≤ length cs
first_line-le [] = omega arith
first_line-le (c ∷ cs) = go (ends_line c) (first_line-le cs)
  where
    go : (b : Bool) → length (first_line cs) ≤ length cs → length (cond b [] (c ∷ first_line cs)) ≤ suc (length cs)
    go true h = omega arith
    go false h = omega (arith, h)

-- one more character of the list cs, which stands behind n others
pub record IsNext (cs : List ℕ) (n c : ℕ) : Type 0 where
  pub within : n < length cs
  pub is : c ≡ get_or cs n c

line_at : (cs : List ℕ) (n c : ℕ) → IsNext cs n c → first_line (drop n cs) ≡ cond (ends_line c) [] (c ∷ first_line (drop (n + 1) cs))
line_at cs n c next =
    at_drop_more first_line cs n c next.within
    ∙ ap (λ x. cond (ends_line x) [] (x ∷ first_line (drop (n + 1) cs))) (sym next.is)

-- nothing fits behind n characters, where a line ends or too few units are left
pub none_fits : (cs : List ℕ) (n c left : ℕ) → IsNext cs n c → (ends_line c ≡ true) ⊎ (left < units c) → fitting left (first_line (drop n cs)) ≡ 0
none_fits cs n c left next (inl e) = ap (fitting left) (line_at cs n c next ∙ ap (λ b. cond b [] (c ∷ first_line (drop (n + 1) cs))) e)
none_fits cs n c left next (inr few) = ap (fitting left) (line_at cs n c next) ∙ go (ends_line c)
  where
    go : (b : Bool) → fitting left (cond b [] (c ∷ first_line (drop (n + 1) cs))) ≡ 0
    go true = refl
    go false = ap (λ b. cond b (suc (fitting (left - units c) (first_line (drop (n + 1) cs)))) 0) (lt-leb _ _ few)

pub one_fits : (cs : List ℕ) (n c left : ℕ) → IsNext cs n c → ends_line c ≡ false → units c ≤ left → fitting left (first_line (drop n cs)) ≡ suc (fitting (left - units c) (first_line (drop (n + 1) cs)))
one_fits cs n c left next e fits =
    ap (fitting left) (line_at cs n c next ∙ ap (λ b. cond b [] (c ∷ first_line (drop (n + 1) cs))) e)
    ∙ ap (λ b. cond b (suc (fitting (left - units c) (first_line (drop (n + 1) cs)))) 0) (le-leb _ _ fits)

-- the bytes of one character more
pub bytes_more : (cs : List ℕ) (n c : ℕ) → IsNext cs n c → length (encodes (take (n + 1) cs)) ≡ length (encodes (take n cs)) + length (encode c)
bytes_more cs n c next =
    ap (λ ds. length (encodes ds)) (take_more cs n c next.within ∙ ap (λ x. take n cs ++ x ∷ []) (sym next.is))
    ∙ ap length (encodes-append (take n cs) (c ∷ []))
    ∙ length-append (encodes (take n cs)) (encode c ++ [])
    ∙ ap (λ bs. length (encodes (take n cs)) + length bs) (append-nil (encode c))

-- the bytes of a front are no more than all
pub bytes_within : (cs : List ℕ) (n : ℕ) → length (encodes (take n cs)) ≤ length (encodes cs)
bytes_within cs n =
    let e : length (encodes (take n cs ++ drop n cs)) ≡ length (encodes (take n cs)) + length (encodes (drop n cs)) = ap length (encodes-append (take n cs) (drop n cs)) ∙ length-append (encodes (take n cs)) (encodes (drop n cs)) in
    let whole : length (encodes (take n cs ++ drop n cs)) ≡ length (encodes cs) = ap (λ ds. length (encodes ds)) (take-append-drop n cs) in
    omega (arith, e, whole)

-- a walk over the characters cs ends behind n of them, which are `len` bytes
pub record HasPassed (cs : List ℕ) (n len left character : ℕ) : Type 0 where
  pub passed : len ≡ length (encodes (take n cs))
  pub fits : n + fitting left (first_line (drop n cs)) ≡ fitting character (first_line cs)

ended : (cs : List ℕ) (n len left character : ℕ) → HasPassed cs n len left character → fitting left (first_line (drop n cs)) ≡ 0 → len ≡ length (encodes (take (fitting character (first_line cs)) cs))
ended cs n len left character h e =
    let all : n ≡ fitting character (first_line cs) = omega (arith, h.fits, e) in
    h.passed ∙ ap (λ k. length (encodes (take k cs))) all

pub stopped : (cs : List ℕ) (n c len left character : ℕ) → HasPassed cs n len left character → IsNext cs n c → (ends_line c ≡ true) ⊎ (left < units c) → len ≡ length (encodes (take (fitting character (first_line cs)) cs))
stopped cs n c len left character h next stop = ended cs n len left character h (none_fits cs n c left next stop)

pub at_end : (cs : List ℕ) (n len left character : ℕ) → HasPassed cs n len left character → n ≡ length cs → len ≡ length (encodes (take (fitting character (first_line cs)) cs))
at_end cs n len left character h all = ended cs n len left character h (at_drop_all (λ ds. fitting left (first_line ds)) cs n (omega arith))

pub passed_more : (cs : List ℕ) (n c len left character : ℕ) → HasPassed cs n len left character → IsNext cs n c → ends_line c ≡ false → units c ≤ left → HasPassed cs (n + 1) (len + len_utf8 c) (left - units c) character
passed_more cs n c len left character h next e fits = record {
  passed = ap (λ k. k + len_utf8 c) h.passed ∙ ap (λ k. length (encodes (take n cs)) + k) (sym (length-encode c)) ∙ sym (bytes_more cs n c next);
  fits = omega (arith, h.fits, one_fits cs n c left next e fits);
}

pub ends_10 : (c : ℕ) → c ≡ 10 → ends_line c ≡ true
ends_10 c e = ap ends_line e

pub ends_13 : (c : ℕ) → c ≡ 13 → ends_line c ≡ true
ends_13 c e = ap ends_line e

pub ends_none : (c : ℕ) → c ≢ 10 → c ≢ 13 → ends_line c ≡ false
ends_none c a b = ap (λ x. x || (c == 13)) (other c 10 a) ∙ other c 13 b
