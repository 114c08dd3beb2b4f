-- Lines of characters and lines of bytes.
use Rattle.std.proofs.Common.{◌≡◌, ◌≢◌, ◌<◌, ◌≤◌, ◌+◌, ◌-◌, ℕ, suc, zero, List, [], ◌∷◌, ◌++◌, Bool, true, false, cond, Option, Some, None, option_map, refl, sym, ap, ◌∙◌, subst, arith, length, drop, get_or, nat_lt, ltb-true, ltb-false, ◌⊎◌, inl, inr, add-zero}
use Rattle.std.specs.Prelude.{◌==◌, ◌||◌}
use Rattle.std.specs.Option.{option_and_then}
use Rattle.std.proofs.lemmas.Bool.{eqb-true, false≢true}
use Rattle.std.proofs.lemmas.List.{drop_at, drop-drop, drop_more, get_or-drop, length-append, length-drop}
use Rattle.std.proofs.lemmas.Str.{encode_ascii, inside_one, length-encode, len_utf8_bounds}
use Rattle.memchr.specs.Find.{IsFirstByte, is_byte2}
use lib.Utf8.{encodes, encode}
use Rattle.lsp_documents.specs.Lines.{ends_line, after_carriage_return, later_lines, from_line}

-- ---- the end of a line among bytes

pub other : (c n : ℕ) → c ≢ n → (c == n) ≡ false
other c n apart = go (c == n) refl
  where
    go : (b : Bool) → (c == n) ≡ b → b ≡ false
    go true e = absurd (apart (eqb-true c n e))
    go false e = refl

-- a character that ends no line is passed over
pub later-pass : (c : ℕ) (cs : List ℕ) → ends_line c ≡ false → later_lines (c ∷ cs) ≡ later_lines cs
later-pass c cs none = go (c == 10) (c == 13) none
  where
    go : (a b : Bool) → (a || b) ≡ false → cond a (Some cs) (cond b (Some (after_carriage_return cs)) (later_lines cs)) ≡ later_lines cs
    go true b e = absurd (false≢true (sym e))
    go false true e = absurd (false≢true (sym e))
    go false false e = refl

-- so are all before the first that ends one
pub later-drop : (t : List ℕ) (k : ℕ) → k ≤ length t → ((j : ℕ) → j < k → ends_line (get_or t j 0) ≡ false) → later_lines t ≡ later_lines (drop k t)
later-drop t zero le none = refl
later-drop [] (suc k) le none = refl
later-drop (c ∷ cs) (suc k) le none =
    later-pass c cs (none 0 (omega arith)) ∙ later-drop cs k (omega arith) (λ j less. none (suc j) (omega arith))

pub later_none : (t : List ℕ) → ((j : ℕ) → j < length t → ends_line (get_or t j 0) ≡ false) → later_lines t ≡ None
later_none [] none = refl
later_none (c ∷ cs) none =
    later-pass c cs (none 0 (omega arith)) ∙ later_none cs (λ j less. none (suc j) (omega arith))

-- ---- characters and their bytes

no_end : (c : ℕ) → 128 ≤ c → ends_line c ≡ false
no_end c large = ap (λ a. a || (c == 13)) (other c 10 (λ e. absurd (omega arith))) ∙ other c 13 (λ e. absurd (omega arith))

bytes_no_end : (c : ℕ) (xs : List ℕ) → 128 ≤ c → (j : ℕ) → j < length (encode c) → ends_line (get_or (encode c ++ xs) j 0) ≡ false
bytes_no_end c xs large j less = go (nat_lt (get_or (encode c ++ xs) j 0) 128) refl
  where
    go : (b : Bool) → nat_lt (get_or (encode c ++ xs) j 0) 128 ≡ b → ends_line (get_or (encode c ++ xs) j 0) ≡ false
    go true e =
        let small : get_or (encode c ++ xs) j 0 < 128 = ltb-true _ _ e in
        let same = inside_one c xs (encode c ++ xs) j refl less small in
        absurd (omega arith)
    go false e = no_end _ (ltb-false _ _ e)

pub later-encode : (c : ℕ) (xs : List ℕ) → 128 ≤ c → later_lines (encode c ++ xs) ≡ later_lines xs
later-encode c xs large =
    later-drop (encode c ++ xs) (length (encode c)) (omega (arith, length-append (encode c) xs)) (bytes_no_end c xs large)
    ∙ ap later_lines (drop_at (encode c) xs (length (encode c)) refl)

-- ---- the first byte that ends a line

-- k is the place of the first byte that ends a line
pub record IsEnd (t : List ℕ) (k : ℕ) : Type 0 where
  pub within : k < length t
  pub before : (j : ℕ) → j < k → ends_line (get_or t j 0) ≡ false
  pub is : ends_line (get_or t k 0) ≡ true

not_true : (b : Bool) → ¬ (b ≡ true) → b ≡ false
not_true true n = absurd (n refl)
not_true false n = refl

pub IsEnd-found : (t : List ℕ) (r : Option ℕ) (k : ℕ) → IsFirstByte (is_byte2 10 13) t r → r ≡ Some k → IsEnd t k
IsEnd-found t r k first is =
    let found = subst (IsFirstByte (is_byte2 10 13) t) is first in record {
      within = found.0.high;
      before = λ j less. not_true _ (found.0.before j (omega arith) less);
      is = found.1;
    }

pub no_end_found : (t : List ℕ) (r : Option ℕ) → IsFirstByte (is_byte2 10 13) t r → r ≡ None → later_lines t ≡ None
no_end_found t r first is =
    let found = subst (IsFirstByte (is_byte2 10 13) t) is first in
    later_none t (λ j less. not_true _ (found j (omega arith) less))

at_end : (t : List ℕ) (k : ℕ) → IsEnd t k → later_lines t ≡ later_lines (get_or t k 0 ∷ drop (k + 1) t)
at_end t k end = later-drop t k (omega (arith, end.within)) end.before ∙ ap later_lines (drop_more t k 0 end.within)

after_lf : (x : ℕ) (xs : List ℕ) → x ≡ 10 → later_lines (x ∷ xs) ≡ Some xs
after_lf x xs e = ap (λ c. later_lines (c ∷ xs)) e

after_cr : (x : ℕ) (xs : List ℕ) → x ≡ 13 → later_lines (x ∷ xs) ≡ Some (after_carriage_return xs)
after_cr x xs e = ap (λ c. later_lines (c ∷ xs)) e

pub past_lf : (t : List ℕ) (k : ℕ) → IsEnd t k → get_or t k 0 ≡ 10 → later_lines t ≡ Some (drop (k + 1) t)
past_lf t k end e = at_end t k end ∙ after_lf _ _ e

pub past_cr_lf : (t : List ℕ) (k : ℕ) → IsEnd t k → get_or t k 0 ≡ 13 → k + 1 < length t → get_or t (k + 1) 0 ≡ 10 → later_lines t ≡ Some (drop (k + 2) t)
past_cr_lf t k end e more f =
    at_end t k end ∙ after_cr _ _ e
    ∙ ap (λ ys. Some (after_carriage_return ys)) (drop_more t (k + 1) 0 more ∙ ap (λ c. c ∷ drop (k + 1 + 1) t) f)
    ∙ ap (λ n. Some (drop n t)) (omega arith)

without_lf : (ys : List ℕ) → (length ys ≡ 0) ⊎ (get_or ys 0 0 ≢ 10) → after_carriage_return ys ≡ ys
without_lf [] h = refl
without_lf (y ∷ ys) (inl e) = absurd (omega arith)
without_lf (y ∷ ys) (inr ne) = ap (λ b. cond b ys (y ∷ ys)) (other y 10 ne)

pub past_cr : (t : List ℕ) (k : ℕ) → IsEnd t k → get_or t k 0 ≡ 13 → (length t ≤ k + 1) ⊎ (get_or t (k + 1) 0 ≢ 10) → later_lines t ≡ Some (drop (k + 1) t)
past_cr t k end e alone =
    at_end t k end ∙ after_cr _ _ e
    ∙ ap Some (without_lf (drop (k + 1) t) (elim alone [
      | inl l ↦ inl (length-drop (k + 1) t ∙ omega arith)
      | inr ne ↦ inr (λ f. ne (sym (get_or-drop (k + 1) t 0 0 ∙ ap (λ n. get_or t n 0) (add-zero (k + 1))) ∙ f))
    ]))

pub is_lf : (x : ℕ) → ends_line x ≡ true → x ≢ 13 → x ≡ 10
is_lf x e ne = go (x == 10) refl
  where
    go : (b : Bool) → (x == 10) ≡ b → x ≡ 10
    go true p = eqb-true x 10 p
    go false p = absurd (false≢true (sym (ap (λ a. a || (x == 13)) p ∙ other x 13 ne) ∙ e))

-- ---- lines from a number on

-- behind a line that is not there, none is
pub no_line : (t : List ℕ) (k n : ℕ) → k ≤ n → from_line k t ≡ None → from_line n t ≡ None
no_line t k zero le e = let same : k ≡ 0 = omega arith in ap (λ m. from_line m t) (sym same) ∙ e
no_line t k (suc n) le e = go (nat_lt n k) refl (λ below. no_line t k n below e)
  where
    go : (b : Bool) → nat_lt n k ≡ b → (k ≤ n → from_line n t ≡ None) → from_line (suc n) t ≡ None
    go true p none =
        let above : n < k = ltb-true n k p in
        let same : suc n ≡ k = omega arith in
        ap (λ m. from_line m t) same ∙ e
    go false p none = ap (option_and_then later_lines) (none (ltb-false n k p))

pub last_line : (t : List ℕ) (start i : ℕ) → from_line i t ≡ Some (drop start t) → later_lines (drop start t) ≡ None → (n : ℕ) → i < n → from_line n t ≡ None
last_line t start i e last n less = no_line t (suc i) n less (ap (option_and_then later_lines) e ∙ last)

-- what follows a line's start is an end of the text
pub record IsEndOf (t rest : List ℕ) : Type 0 where
  pub shorter : length rest ≤ length t
  pub same : drop (length t - length rest) t ≡ rest

IsEndOf-cons : (c : ℕ) (cs rest : List ℕ) → IsEndOf cs rest → IsEndOf (c ∷ cs) rest
IsEndOf-cons c cs rest h = record {
  shorter = omega (arith, h.shorter);
  same =
      let k = length cs - length rest in
      let e : suc (length cs) - length rest ≡ suc k = omega (arith, h.shorter) in
      ap (λ n. drop n (c ∷ cs)) e ∙ h.same;
}

IsEndOf-refl : (t : List ℕ) → IsEndOf t t
IsEndOf-refl t = record {
  shorter = omega arith;
  same = let e : length t - length t ≡ 0 = omega arith in ap (λ n. drop n t) e;
}

IsEndOf-after_cr : (cs : List ℕ) → IsEndOf cs (after_carriage_return cs)
IsEndOf-after_cr [] = IsEndOf-refl []
IsEndOf-after_cr (c ∷ cs) = go (c == 10)
  where
    go : (b : Bool) → IsEndOf (c ∷ cs) (cond b cs (c ∷ cs))
    go true = IsEndOf-cons c cs cs (IsEndOf-refl cs)
    go false = IsEndOf-refl (c ∷ cs)

pub IsEndOf-trans : (a b c : List ℕ) → IsEndOf a b → IsEndOf b c → IsEndOf a c
IsEndOf-trans a b c h k = record {
  shorter = omega (arith, h.shorter, k.shorter);
  same =
      let e : length a - length c ≡ (length a - length b) + (length b - length c) = omega (arith, h.shorter, k.shorter) in
      ap (λ n. drop n a) e ∙ sym (drop-drop (length b - length c) (length a - length b) a)
      ∙ ap (drop (length b - length c)) h.same ∙ k.same;
}

-- the ends of an option, if there is one
abbrev pub IsOptionEnd : List ℕ → Option (List ℕ) → Type 0
IsOptionEnd t None = Unit {0}
IsOptionEnd t (Some rest) = IsEndOf t rest

IsOptionEnd-cons : (c : ℕ) (cs : List ℕ) (o : Option (List ℕ)) → IsOptionEnd cs o → IsOptionEnd (c ∷ cs) o
IsOptionEnd-cons c cs None h = tt
IsOptionEnd-cons c cs (Some rest) h = IsEndOf-cons c cs rest h

pub later-end : (t : List ℕ) → IsOptionEnd t (later_lines t)
later-end [] = tt
later-end (c ∷ cs) = go (c == 10) (c == 13) (later-end cs)
  where
    go : (a b : Bool) → IsOptionEnd cs (later_lines cs) → IsOptionEnd (c ∷ cs) (cond a (Some cs) (cond b (Some (after_carriage_return cs)) (later_lines cs)))
    go true b h = IsEndOf-cons c cs cs (IsEndOf-refl cs)
    go false true h = IsEndOf-cons c cs _ (IsEndOf-after_cr cs)
    go false false h = IsOptionEnd-cons c cs (later_lines cs) h

pub from_line-end : (n : ℕ) (t : List ℕ) → IsOptionEnd t (from_line n t)
from_line-end zero t = IsEndOf-refl t
from_line-end (suc n) t = go (from_line n t) (from_line-end n t)
  where
    through : (rest : List ℕ) → IsEndOf t rest → (o : Option (List ℕ)) → IsOptionEnd rest o → IsOptionEnd t o
    through rest h None k = tt
    through rest h (Some later) k = IsEndOf-trans t rest later h k

    go : (o : Option (List ℕ)) → IsOptionEnd t o → IsOptionEnd t (option_and_then later_lines o)
    go None h = tt
    go (Some rest) h = through rest h (later_lines rest) (later-end rest)

-- ---- the lines of the bytes are the bytes of the lines

some_byte : (c : ℕ) → 0 < length (encode c)
some_byte c = omega (arith, length-encode c, (len_utf8_bounds c).0)

head_no_lf : (c : ℕ) (xs : List ℕ) → 128 ≤ c → get_or (encode c ++ xs) 0 0 ≢ 10
head_no_lf c xs large e = false≢true (sym (bytes_no_end c xs large 0 (some_byte c)) ∙ ap ends_line e)

after_cr-encodes : (cs : List ℕ) → after_carriage_return (encodes cs) ≡ encodes (after_carriage_return cs)
after_cr-encodes [] = refl
after_cr-encodes (c ∷ cs) = go (nat_lt c 128) refl
  where
    ascii : (b : Bool) → c < 128 → cond b (encodes cs) (c ∷ encodes cs) ≡ encodes (cond b cs (c ∷ cs))
    ascii true small = refl
    ascii false small = ap (λ bs. bs ++ encodes cs) (sym (encode_ascii c small))

    go : (b : Bool) → nat_lt c 128 ≡ b → after_carriage_return (encode c ++ encodes cs) ≡ encodes (cond (c == 10) cs (c ∷ cs))
    go true p =
        let small : c < 128 = ltb-true c 128 p in
        ap (λ bs. after_carriage_return (bs ++ encodes cs)) (encode_ascii c small) ∙ ascii (c == 10) small
    go false p =
        let large : 128 ≤ c = ltb-false c 128 p in
        without_lf (encode c ++ encodes cs) (inr (head_no_lf c (encodes cs) large))
        ∙ ap (λ b. encodes (cond b cs (c ∷ cs))) (sym (other c 10 (λ e. absurd (omega arith))))

pub later-encodes : (cs : List ℕ) → later_lines (encodes cs) ≡ option_map encodes (later_lines cs)
later-encodes [] = refl
later-encodes (c ∷ cs) = go (nat_lt c 128) refl (later-encodes cs)
  where
    ascii : (a b : Bool) → later_lines (encodes cs) ≡ option_map encodes (later_lines cs)
        → cond a (Some (encodes cs)) (cond b (Some (after_carriage_return (encodes cs))) (later_lines (encodes cs)))
        ≡ option_map encodes (cond a (Some cs) (cond b (Some (after_carriage_return cs)) (later_lines cs)))
    ascii true b h = refl
    ascii false true h = ap Some (after_cr-encodes cs)
    ascii false false h = h

    go : (b : Bool) → nat_lt c 128 ≡ b → later_lines (encodes cs) ≡ option_map encodes (later_lines cs) → later_lines (encode c ++ encodes cs) ≡ option_map encodes (later_lines (c ∷ cs))
    go true p h = ap (λ bs. later_lines (bs ++ encodes cs)) (encode_ascii c (ltb-true c 128 p)) ∙ ascii (c == 10) (c == 13) h
    go false p h =
        let large : 128 ≤ c = ltb-false c 128 p in
        later-encode c (encodes cs) large ∙ h ∙ sym (ap (option_map encodes) (later-pass c cs (no_end c large)))

pub from_line-encodes : (n : ℕ) (cs : List ℕ) → from_line n (encodes cs) ≡ option_map encodes (from_line n cs)
from_line-encodes zero cs = refl
from_line-encodes (suc n) cs = ap (option_and_then later_lines) (from_line-encodes n cs) ∙ go (from_line n cs)
  where
    go : (o : Option (List ℕ)) → option_and_then later_lines (option_map encodes o) ≡ option_map encodes (option_and_then later_lines o)
    go None = refl
    go (Some rest) = later-encodes rest
