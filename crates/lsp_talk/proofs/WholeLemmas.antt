-- A seat that made each call of a history.
use Rattle.std.proofs.Common.{◌≡◌, ◌+◌, ◌<◌, ◌≤◌, ◌==◌, ℕ, zero, suc, List, [], ◌∷◌, ◌++◌, map, take, length, get_or, Bool, true, false, cond, refl, sym, ap, ◌∙◌, subst, arith}
use Rattle.std.specs.Prelude.{IsPermutation}
use Rattle.std.proofs.lemmas.List.{map-append, take_all}
use Rattle.std.proofs.lemmas.Grind.{common_steps}
use Rattle.std.proofs.lemmas.List.Sorted.{IsPermutation-refl, IsPermutation-trans, IsPermutation-cons, IsPermutation-middle, IsPermutation-to_front, IsPermutation-sym}
use Rattle.lsp_desk.specs.Trace.{DeskEntry, AllBelow, times}
use Rattle.lsp_callers.specs.Made.{no_entry, entries_at}

-- the numbers below n
abbrev pub upto : ℕ → List ℕ
upto zero = []
upto (suc n) = upto n ++ n ∷ []

-- 1 for what is so
abbrev one_for : Bool → ℕ
one_for b = cond b 1 0

-- ---- where a number stands in a list

record Stands (n : ℕ) (ks : List ℕ) : Type 0 where
  before : List ℕ
  after : List ℕ
  is : ks ≡ before ++ n ∷ after

same_number : (n k : ℕ) → (n == k) ≡ true → k ≡ n
same_number n k e = grind (arith, e)

found : (n : ℕ) (ks : List ℕ) → times n ks ≡ 1 → Stands n ks
found n [] e = absurd (omega (arith, e))
found n (k ∷ ks) e = at (n == k) refl e (λ later. found n ks later)
  where
    at : (b : Bool) → (n == k) ≡ b → cond b 1 0 + times n ks ≡ 1 → (times n ks ≡ 1 → Stands n ks) → Stands n (k ∷ ks)
    at true is h rest = record { before = []; after = ks; is = ap (λ (x : ℕ). x ∷ ks) (same_number n k is) }
    at false is h rest =
        let later = rest (omega (arith, h)) in
        record { before = k ∷ later.before; after = later.after; is = ap (λ l. k ∷ l) later.is }

times_both : (x : ℕ) (a b : List ℕ) → times x (a ++ b) ≡ times x a + times x b
times_both x [] b = omega arith
times_both x (k ∷ a) b = let rest = times_both x a b in omega (arith, rest)

times_without : (x n : ℕ) (a b : List ℕ) → times x (a ++ n ∷ b) ≡ one_for (x == n) + times x (a ++ b)
times_without x n a b = let one = times_both x a (n ∷ b) in let two = times_both x a b in omega (arith, one, two)

below_without : (m n : ℕ) (a b : List ℕ) → AllBelow m (a ++ n ∷ b) → AllBelow m (a ++ b)
below_without m n [] b p = p.1
below_without m n (k ∷ a) b p = (p.0, below_without m n a b p.1)

below_less : (n : ℕ) (ks : List ℕ) → AllBelow (suc n) ks → times n ks ≡ 0 → AllBelow n ks
below_less n [] p none = tt
below_less n (k ∷ ks) p none = at (n == k) refl none (λ later. below_less n ks p.1 later)
  where
    at : (b : Bool) → (n == k) ≡ b → cond b 1 0 + times n ks ≡ 0 → (times n ks ≡ 0 → AllBelow n ks) → AllBelow n (k ∷ ks)
    at true is h rest = absurd (omega (arith, h))
    at false is h rest = (grind (arith, is, p.0), rest (omega (arith, h)))

none_below : (ks : List ℕ) → AllBelow 0 ks → ks ≡ []
none_below [] p = refl
none_below (k ∷ ks) p = absurd (omega (arith, p.0))

-- ---- a list that has each number below n once

is_itself : (n : ℕ) → (n == n) ≡ true
is_itself n = grind arith

is_other : (x n : ℕ) → x < n → (x == n) ≡ false
is_other x n less = grind arith

pub in_another_order : (f : ℕ → DeskEntry) (n : ℕ) (ks : List ℕ) → AllBelow n ks → ((x : ℕ) → x < n → times x ks ≡ 1) → IsPermutation (map f (upto n)) (map f ks)
in_another_order f zero ks below once = subst (λ l. IsPermutation [] (map f l)) (sym (none_below ks below)) (IsPermutation-refl [])
in_another_order f (suc n) ks below once =
    let at = found n ks (once n (omega arith)) in
    let a = at.before in
    let b = at.after in
    let here : times n (a ++ n ∷ b) ≡ 1 = ap (times n) (sym at.is) ∙ once n (omega arith) in
    let one : one_for (n == n) ≡ 1 = ap one_for (is_itself n) in
    let gone : times n (a ++ b) ≡ 0 = let h = times_without n n a b in omega (arith, h, here, one) in
    let rest : AllBelow n (a ++ b) = below_less n (a ++ b) (below_without (suc n) n a b (subst (AllBelow (suc n)) at.is below)) gone in
    let each : (x : ℕ) → x < n → times x (a ++ b) ≡ 1 = λ x less. still x less a b (ap (times x) (sym at.is) ∙ once x (omega (arith, less))) in
    let smaller = in_another_order f n (a ++ b) rest each in
    let whole : map f ks ≡ map f a ++ f n ∷ map f b = ap (map f) at.is ∙ map-append f a (n ∷ b) in
    let less : IsPermutation (map f (upto n)) (map f a ++ map f b) = subst (IsPermutation (map f (upto n))) (map-append f a b) smaller in
    let front : IsPermutation (map f (upto n) ++ f n ∷ []) (f n ∷ map f (upto n)) = IsPermutation-to_front (map f (upto n)) (f n) in
    let middle : IsPermutation (f n ∷ (map f a ++ map f b)) (map f a ++ f n ∷ map f b) =
    IsPermutation-sym (map f a ++ f n ∷ map f b) (f n ∷ (map f a ++ map f b)) (IsPermutation-middle (map f a) (f n) (map f b)) in
    let all : IsPermutation (map f (upto n) ++ f n ∷ []) (map f a ++ f n ∷ map f b) =
    IsPermutation-trans (map f (upto n) ++ f n ∷ []) (f n ∷ map f (upto n)) (map f a ++ f n ∷ map f b) front
    (IsPermutation-trans (f n ∷ map f (upto n)) (f n ∷ (map f a ++ map f b)) (map f a ++ f n ∷ map f b) (IsPermutation-cons (f n) (map f (upto n)) (map f a ++ map f b) less) middle) in
    subst (λ l. IsPermutation l (map f ks)) (sym (map-append f (upto n) (n ∷ []))) (subst (IsPermutation (map f (upto n) ++ f n ∷ [])) (sym whole) all)
  where
    still : (x : ℕ) → x < n → (a b : List ℕ) → times x (a ++ n ∷ b) ≡ 1 → times x (a ++ b) ≡ 1
    still x less a b h =
        let t = times_without x n a b in
        let zero_one : one_for (x == n) ≡ 0 = ap one_for (is_other x n less) in
        omega (arith, t, zero_one, h)

-- ---- a history read from its front

read_front : (h : List DeskEntry) (n : ℕ) → n ≤ length h → entries_at h (upto n) ≡ take n h
read_front h zero le = refl
read_front h (suc n) le =
    let rest = read_front h n (omega (arith, le)) in
    map-append _ (upto n) (n ∷ []) ∙ ap (λ l. l ++ get_or h n no_entry ∷ []) rest ∙ next h n (omega (arith, le))
  where
    next : (h : List DeskEntry) (n : ℕ) → n < length h → take n h ++ get_or h n no_entry ∷ [] ≡ take (suc n) h
    next h n less = grind (arith, common_steps)

-- the history is in another order the entries at these places, if each of its places is among them once
pub whole_history : (h : List DeskEntry) (ks : List ℕ) → AllBelow (length h) ks → ((x : ℕ) → x < length h → times x ks ≡ 1) → IsPermutation (entries_at h ks) h
whole_history h ks below once =
    let order = in_another_order (λ n. get_or h n no_entry) (length h) ks below once in
    let front : entries_at h (upto (length h)) ≡ h = read_front h (length h) (omega arith) ∙ take_all (length h) h (omega arith) in
    subst (IsPermutation (entries_at h ks)) front (IsPermutation-sym (entries_at h (upto (length h))) (entries_at h ks) order)
