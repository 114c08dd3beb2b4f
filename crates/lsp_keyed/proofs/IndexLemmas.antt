-- The entries of a key, before and after each change.
use Rattle.std.proofs.Common.{◌≡◌, ◌<◌, ◌+◌, ℕ, suc, zero, List, [], ◌∷◌, ◌++◌, Bool, true, false, cond, not, ◌==◌, Option, Some, None, option_map, refl, sym, ap, ◌∙◌, subst, arith, nat_cmp, Less, Equal, Greater, nat_lt, ltb-true, length, take, drop, rules}
use Rattle.std.specs.Prelude.{is_some, ◌||◌, slice_get, ◌^◌, ◌-◌, SomeIff, IfSome}
use Rattle.std.specs.List.{find, list_any, before_first, after_first, position_or_len}
use Rattle.std.specs.Ordering.{is_eq, match_ordering}
use Rattle.std.specs.Map.{lookup, remove_entry}
use Rattle.std.specs.Set.{remove_key}
use Rattle.std.specs.Cmp.{IsEquivalence}
use Rattle.std.specs.BTreeMap.{is_at, insert_entry}
use Rattle.std.specs.BTreeSet.{insert_key}
use Rattle.std.specs.HashMap.{HashMap, get}
use Rattle.std.proofs.lemmas.Bool.{eqb-true, eq-eqb}
use Rattle.std.proofs.lemmas.Grind.{common_steps}
use Rattle.lsp_keyed.specs.declared.keyed.Numbers.{Numbers}
use Rattle.lsp_keyed.specs.Items.{has_number, without, IsAbove, next_number}
use Rattle.lsp_keyed.specs.Index.{listed, first, without_number, AreLess, AreAbove, AreRising, numbers_of, IsIndexed}

-- ---- a number among numbers

tests_agree : (a b : Bool) → (a ≡ true → b ≡ false) → is_eq (cond a Less (cond b Equal Greater)) ≡ b
tests_agree true b h = sym (h refl)
tests_agree false true h = refl
tests_agree false false h = refl

pub is_at-nat : (n k : ℕ) → is_at (nat_cmp n) k ≡ (n == k)
is_at-nat n k = tests_agree (nat_lt n k) (n == k) (λ below. let less : n < k = ltb-true n k below in go (n == k) refl less)
  where
    go : (b : Bool) → (n == k) ≡ b → n < k → b ≡ false
    go true h less = let same : n ≡ k = eqb-true n k h in absurd (omega arith)
    go false h less = refl

apart : (n k : ℕ) → k < n → (n == k) ≡ false
apart n k h = go (n == k) refl
  where
    go : (b : Bool) → (n == k) ≡ b → b ≡ false
    go true p = let same : n ≡ k = eqb-true n k p in absurd (omega arith)
    go false p = refl

above : (n k : ℕ) → k < n → nat_cmp n k ≡ Greater
above n k h = go (nat_lt n k) refl (n == k) refl
  where
    go : (a : Bool) → nat_lt n k ≡ a → (b : Bool) → (n == k) ≡ b → cond a Less (cond b Equal Greater) ≡ Greater
    go true p b q = let less : n < k = ltb-true n k p in absurd (omega arith)
    go false p true q = let same : n ≡ k = eqb-true n k q in absurd (omega arith)
    go false p false q = refl

-- a number above all others goes last
pub key_last : (n : ℕ) (ks : List ℕ) → AreLess n ks → insert_key nat_cmp ks n ≡ ks ++ n ∷ []
key_last n [] less = refl
key_last n (k ∷ ks) less = ap (λ o. match_ordering o (n ∷ k ∷ ks) (k ∷ ks) (k ∷ insert_key nat_cmp ks n)) (above n k less.0) ∙ ap (λ l. k ∷ l) (key_last n ks less.1)

pub key_removed : (n : ℕ) (ks : List ℕ) → remove_key (is_at (nat_cmp n)) ks ≡ without_number n ks
key_removed n [] = refl
key_removed n (k ∷ ks) = ap (λ b. cond b ks (k ∷ remove_key (is_at (nat_cmp n)) ks)) (is_at-nat n k) ∙ ap (λ l. cond (n == k) ks (k ∷ l)) (key_removed n ks)

pub some_listed : (o : Option Numbers) → is_some o ≡ is_some (first (listed o))
some_listed None = refl
some_listed (Some ns) = refl

pub oldest_listed : (o : Option Numbers) → option_map (λ ns. ns.oldest) o ≡ first (listed o)
oldest_listed None = refl
oldest_listed (Some ns) = refl

-- what is listed once the numbers of a key are others
pub listed_updated : {K S : Type 0} (eq : K → K → Bool) (old new : HashMap K Numbers S) (k : K) (o : Option Numbers) (ns : List ℕ)
    → ((q : K) → get eq new q ≡ cond (eq k q) o (get eq old q)) → listed o ≡ ns
    → (q : K) → listed (get eq new q) ≡ cond (eq k q) ns (listed (get eq old q))
listed_updated eq old new k o ns updates is q = ap listed (updates q) ∙ go (eq k q)
  where
    go : (b : Bool) → listed (cond b o (get eq old q)) ≡ cond b ns (listed (get eq old q))
    go true = is
    go false = refl

pub cond_again : {A : Type 0} (b : Bool) (x y z : A) → cond b x (cond b y z) ≡ cond b x z
cond_again true x y z = refl
cond_again false x y z = refl

module _ {K V : Type 0} where
  -- ---- what is found

  pub any_listed : (test : K → Bool) (es : List (ℕ × (K × V))) → is_some (first (numbers_of test es)) ≡ list_any (λ e. test e.1.0) es
  any_listed test [] = refl
  any_listed test (e ∷ es) = at (test e.1.0) (any_listed test es)
    where
      at : (b : Bool) → is_some (first (numbers_of test es)) ≡ list_any (λ e. test e.1.0) es
          → is_some (first (cond b (e.0 ∷ numbers_of test es) (numbers_of test es))) ≡ (b || list_any (λ e. test e.1.0) es)
      at true h = refl
      at false h = h

  pub first_found : (test : K → Bool) (es : List (ℕ × (K × V))) → first (numbers_of test es) ≡ option_map (λ e. e.0) (find (λ e. test e.1.0) es)
  first_found test [] = refl
  first_found test (e ∷ es) = at (test e.1.0) (first_found test es)
    where
      at : (b : Bool) → first (numbers_of test es) ≡ option_map (λ e. e.0) (find (λ e. test e.1.0) es)
          → first (cond b (e.0 ∷ numbers_of test es) (numbers_of test es)) ≡ option_map (λ e. e.0) (cond b (Some e) (find (λ e. test e.1.0) es))
      at true h = refl
      at false h = h

  pub none_found : (test : K → Bool) (es : List (ℕ × (K × V))) → first (numbers_of test es) ≡ None → find (λ e. test e.1.0) es ≡ None
  none_found test es h = at (find (λ e. test e.1.0) es) (sym (first_found test es) ∙ h)
    where
      at : (o : Option (ℕ × (K × V))) → option_map (λ e. e.0) o ≡ None → o ≡ None
      at None h = refl
      at (Some e) h = absurd (cc)

  pub any_number : (n : ℕ) (es : List (ℕ × (K × V))) → is_some (lookup (is_at (nat_cmp n)) es) ≡ list_any (has_number n) es
  any_number n [] = refl
  any_number n (e ∷ es) = at (is_at (nat_cmp n) e.0) (any_number n es) ∙ ap (λ b. b || list_any (has_number n) es) (is_at-nat n e.0)
    where
      at : (b : Bool) → is_some (lookup (is_at (nat_cmp n)) es) ≡ list_any (has_number n) es
          → is_some (cond b (Some e.1) (lookup (is_at (nat_cmp n)) es)) ≡ (b || list_any (has_number n) es)
      at true h = refl
      at false h = h

  -- ---- an entry by its number

  pub lookup_number : (n : ℕ) (es : List (ℕ × (K × V))) → lookup (is_at (nat_cmp n)) es ≡ option_map (λ e. e.1) (find (has_number n) es)
  lookup_number n [] = refl
  lookup_number n (e ∷ es) = ap (λ b. cond b (Some e.1) (lookup (is_at (nat_cmp n)) es)) (is_at-nat n e.0) ∙ at (n == e.0) (lookup_number n es)
    where
      at : (b : Bool) → lookup (is_at (nat_cmp n)) es ≡ option_map (λ e. e.1) (find (has_number n) es)
          → cond b (Some e.1) (lookup (is_at (nat_cmp n)) es) ≡ option_map (λ e. e.1) (cond b (Some e) (find (has_number n) es))
      at true h = refl
      at false h = h

  pub removed_number : (n : ℕ) (es : List (ℕ × (K × V))) → remove_entry (is_at (nat_cmp n)) es ≡ without n es
  removed_number n [] = refl
  removed_number n (e ∷ es) = ap (λ b. cond b es (e ∷ remove_entry (is_at (nat_cmp n)) es)) (is_at-nat n e.0) ∙ ap (λ l. cond (n == e.0) es (e ∷ l)) (removed_number n es)

  -- ---- the last number

  pub last_above : (n i : ℕ) (e : ℕ × (K × V)) (es : List (ℕ × (K × V))) → IsAbove n es → slice_get es i ≡ Some e → e.0 < n
  last_above n i e [] below at = absurd (cc)
  last_above n zero e (x ∷ es) below at = let same : x ≡ e = cc in subst (λ (y : ℕ × (K × V)). y.0 < n) same below.0
  last_above n (suc i) e (x ∷ es) below at = last_above n i e es below.1 at

  pub above_last : (n i : ℕ) (e : ℕ × (K × V)) (es : List (ℕ × (K × V))) → AreRising es → suc i ≡ length es → slice_get es i ≡ Some e → e.0 < n → IsAbove n es
  above_last n i e [] rising last at less = tt
  above_last n zero e (x ∷ []) rising last at less = let same : e ≡ x = cc in (subst (λ (y : ℕ × (K × V)). y.0 < n) same less, tt)
  above_last n zero e (x ∷ y ∷ es) rising last at less = absurd (omega arith)
  above_last n (suc i) e (x ∷ []) rising last at less = absurd (cc)
  above_last n (suc i) e (x ∷ y ∷ es) rising last at less =
      let more = above_last n i e (y ∷ es) rising.1 (omega arith) at less in
      let low : x.0 < y.0 = rising.0.0 in
      let high : y.0 < n = more.0 in
      (omega (arith, low, high), more)

  pub last_number : (i : ℕ) (e : ℕ × (K × V)) (es : List (ℕ × (K × V))) → slice_get es i ≡ Some e → list_any (has_number e.0) es ≡ true
  last_number i e [] at = absurd (cc)
  last_number zero e (x ∷ es) at = let same : e.0 ≡ x.0 = ap (λ y. y.0) (let s : e ≡ x = cc in s) in ap (λ b. b || list_any (has_number e.0) es) (eq-eqb e.0 x.0 same)
  last_number (suc i) e (x ∷ es) at = or_true (e.0 == x.0) (last_number i e es at)
    where
      or_true : (b : Bool) {c : Bool} → c ≡ true → (b || c) ≡ true
      or_true true h = refl
      or_true false h = h

  pub next_last : (i : ℕ) (e : ℕ × (K × V)) (es : List (ℕ × (K × V))) → suc i ≡ length es → slice_get es i ≡ Some e → next_number es ≡ e.0 + 1
  next_last i e [] last at = absurd (cc)
  next_last zero e (x ∷ []) last at = let same : x ≡ e = cc in ap (λ (y : ℕ × (K × V)). y.0 + 1) same
  next_last zero e (x ∷ y ∷ es) last at = absurd (omega arith)
  next_last (suc i) e (x ∷ []) last at = absurd (cc)
  next_last (suc i) e (x ∷ y ∷ es) last at = next_last i e (y ∷ es) (omega arith) at

  -- ---- an entry after the others

  pub inserted_last : (n : ℕ) (x : K × V) (es : List (ℕ × (K × V))) → IsAbove n es → insert_entry nat_cmp es n x ≡ es ++ (n, x) ∷ []
  inserted_last n x [] below = refl
  inserted_last n x (e ∷ es) below =
      ap (λ o. match_ordering o ((n, x) ∷ e ∷ es) ((e.0, x) ∷ es) (e ∷ insert_entry nat_cmp es n x)) (above n e.0 below.0)
      ∙ ap (λ l. e ∷ l) (inserted_last n x es below.1)

  pub removed_last : (n : ℕ) (x : K × V) (es : List (ℕ × (K × V))) → IsAbove n es → without n (es ++ (n, x) ∷ []) ≡ es
  removed_last n x [] below = ap (λ b. cond b [] ((n, x) ∷ [])) (eq-eqb n n refl)
  removed_last n x (e ∷ es) below =
      ap (λ b. cond b (es ++ (n, x) ∷ []) (e ∷ without n (es ++ (n, x) ∷ []))) (apart n e.0 below.0)
      ∙ ap (λ l. e ∷ l) (removed_last n x es below.1)

  pub numbers_less : (test : K → Bool) (n : ℕ) (es : List (ℕ × (K × V))) → IsAbove n es → AreLess n (numbers_of test es)
  numbers_less test n [] below = tt
  numbers_less test n (e ∷ es) below = at (test e.1.0) (numbers_less test n es below.1)
    where
      at : (b : Bool) → AreLess n (numbers_of test es) → AreLess n (cond b (e.0 ∷ numbers_of test es) (numbers_of test es))
      at true more = (below.0, more)
      at false more = more

  AreAbove-push : (m n : ℕ) (x : K × V) (es : List (ℕ × (K × V))) → AreAbove m es → m < n → AreAbove m (es ++ (n, x) ∷ [])
  AreAbove-push m n x [] h less = (less, tt)
  AreAbove-push m n x (e ∷ es) h less = (h.0, AreAbove-push m n x es h.1 less)

  AreRising-push : (n : ℕ) (x : K × V) (es : List (ℕ × (K × V))) → AreRising es → IsAbove n es → AreRising (es ++ (n, x) ∷ [])
  AreRising-push n x [] h below = (tt, tt)
  AreRising-push n x (e ∷ es) h below = (AreAbove-push e.0 n x es h.0 below.0, AreRising-push n x es h.1 below.1)

  numbers_of-push : (test : K → Bool) (n : ℕ) (x : K × V) (es : List (ℕ × (K × V))) → numbers_of test (es ++ (n, x) ∷ []) ≡ numbers_of test es ++ cond (test x.0) (n ∷ []) []
  numbers_of-push test n x [] = refl
  numbers_of-push test n x (e ∷ es) = at (test e.1.0) (numbers_of-push test n x es)
    where
      at : (b : Bool) → numbers_of test (es ++ (n, x) ∷ []) ≡ numbers_of test es ++ cond (test x.0) (n ∷ []) []
          → cond b (e.0 ∷ numbers_of test (es ++ (n, x) ∷ [])) (numbers_of test (es ++ (n, x) ∷ [])) ≡ cond b (e.0 ∷ numbers_of test es) (numbers_of test es) ++ cond (test x.0) (n ∷ []) []
      at true h = ap (λ l. e.0 ∷ l) h
      at false h = h

  numbers_of-alike : (t u : K → Bool) (es : List (ℕ × (K × V))) → ((k : K) → t k ≡ u k) → numbers_of t es ≡ numbers_of u es
  numbers_of-alike t u [] same = refl
  numbers_of-alike t u (e ∷ es) same =
      ap (λ b. cond b (e.0 ∷ numbers_of t es) (numbers_of t es)) (same e.1.0)
      ∙ ap (λ l. cond (u e.1.0) (e.0 ∷ l) l) (numbers_of-alike t u es same)

  -- ---- the oldest entry of a key

  first_above : (test : K → Bool) (m n : ℕ) (es : List (ℕ × (K × V))) → AreAbove m es → first (numbers_of test es) ≡ Some n → m < n
  first_above test m n [] h at = absurd (cc)
  first_above test m n (e ∷ es) h at = go (test e.1.0) at (first_above test m n es h.1)
    where
      go : (b : Bool) → first (cond b (e.0 ∷ numbers_of test es) (numbers_of test es)) ≡ Some n → (first (numbers_of test es) ≡ Some n → m < n) → m < n
      go true is more = let same : e.0 ≡ n = cc in subst (λ (k : ℕ). m < k) same h.0
      go false is more = more is

  -- without an entry
  AreAbove-without : (m n : ℕ) (es : List (ℕ × (K × V))) → AreAbove m es → AreAbove m (without n es)
  AreAbove-without m n [] h = tt
  AreAbove-without m n (e ∷ es) h = at (n == e.0) (AreAbove-without m n es h.1)
    where
      at : (b : Bool) → AreAbove m (without n es) → AreAbove m (cond b es (e ∷ without n es))
      at true more = h.1
      at false more = (h.0, more)

  AreRising-without : (n : ℕ) (es : List (ℕ × (K × V))) → AreRising es → AreRising (without n es)
  AreRising-without n [] h = tt
  AreRising-without n (e ∷ es) h = at (n == e.0) (AreRising-without n es h.1)
    where
      at : (b : Bool) → AreRising (without n es) → AreRising (cond b es (e ∷ without n es))
      at true more = h.1
      at false more = (AreAbove-without e.0 n es h.0, more)

  -- what is at its number is what is found by its key
  pub found_at : (test : K → Bool) (n : ℕ) (es : List (ℕ × (K × V))) → AreRising es → first (numbers_of test es) ≡ Some n → find (has_number n) es ≡ find (λ e. test e.1.0) es
  found_at test n [] rising at = refl
  found_at test n (e ∷ es) rising at = go (test e.1.0) at (found_at test n es rising.1)
    where
      go : (b : Bool) → first (cond b (e.0 ∷ numbers_of test es) (numbers_of test es)) ≡ Some n
          → (first (numbers_of test es) ≡ Some n → find (has_number n) es ≡ find (λ x. test x.1.0) es)
          → cond (n == e.0) (Some e) (find (has_number n) es) ≡ cond b (Some e) (find (λ x. test x.1.0) es)
      go true is more = let same : n ≡ e.0 = cc in ap (λ b. cond b (Some e) (find (has_number n) es)) (eq-eqb n e.0 same)
      go false is more = ap (λ b. cond b (Some e) (find (has_number n) es)) (apart n e.0 (first_above test e.0 n es rising.0 is)) ∙ more is

  pub second : (o : Option (ℕ × (K × V))) → option_map (λ x. x.1) (option_map (λ e. e.1) o) ≡ option_map (λ e. e.1.1) o
  second None = refl
  second (Some e) = refl

  -- and what is left is what stands before it and after it
  pub rest_at : (test : K → Bool) (n : ℕ) (es : List (ℕ × (K × V))) → AreRising es → first (numbers_of test es) ≡ Some n
      → without n es ≡ before_first (λ e. test e.1.0) es ++ after_first (λ e. test e.1.0) es
  rest_at test n [] rising at = refl
  rest_at test n (e ∷ es) rising at = go (test e.1.0) at (rest_at test n es rising.1)
    where
      go : (b : Bool) → first (cond b (e.0 ∷ numbers_of test es) (numbers_of test es)) ≡ Some n
          → (first (numbers_of test es) ≡ Some n → without n es ≡ before_first (λ e. test e.1.0) es ++ after_first (λ e. test e.1.0) es)
          → cond (n == e.0) es (e ∷ without n es)
          ≡ take (cond (not b) (1 + position_or_len (λ e. test e.1.0) es) 0) (e ∷ es) ++ drop (cond (not b) (1 + position_or_len (λ e. test e.1.0) es) 0 + 1) (e ∷ es)
      go true is later = let same : n ≡ e.0 = cc in ap (λ b. cond b es (e ∷ without n es)) (eq-eqb n e.0 same) ∙ grind (arith, common_steps)
      go false is later =
          let more = later is in
          ap (λ b. cond b es (e ∷ without n es)) (apart n e.0 (first_above test e.0 n es rising.0 is))
          ∙ ap (λ l. e ∷ l) more ∙ grind (arith, common_steps)

  -- where none is found, all are left
  pub rest_none : (test : K → Bool) (es : List (ℕ × (K × V))) → first (numbers_of test es) ≡ None → es ≡ before_first (λ e. test e.1.0) es ++ after_first (λ e. test e.1.0) es
  rest_none test [] at = refl
  rest_none test (e ∷ es) at = go (test e.1.0) at (rest_none test es)
    where
      go : (b : Bool) → first (cond b (e.0 ∷ numbers_of test es) (numbers_of test es)) ≡ None
          → (first (numbers_of test es) ≡ None → es ≡ before_first (λ e. test e.1.0) es ++ after_first (λ e. test e.1.0) es)
          → e ∷ es ≡ take (cond (not b) (1 + position_or_len (λ e. test e.1.0) es) 0) (e ∷ es) ++ drop (cond (not b) (1 + position_or_len (λ e. test e.1.0) es) 0 + 1) (e ∷ es)
      go true is more = absurd (cc)
      go false is more = ap (λ l. e ∷ l) (more is) ∙ grind (arith, common_steps)

  -- the entry of number n has this key and value
  abbrev IsAt : ℕ → K × V → List (ℕ × (K × V)) → Type 0
  IsAt n x es = option_map (λ e. e.1) (find (has_number n) es) ≡ Some x

  -- the key's numbers are the others
  numbers_of-without : (test : K → Bool) (n : ℕ) (x : K × V) (es : List (ℕ × (K × V))) → test x.0 ≡ true → IsAt n x es → numbers_of test (without n es) ≡ without_number n (numbers_of test es)
  numbers_of-without test n x [] passes at = refl
  numbers_of-without test n x (e ∷ es) passes at = go (n == e.0) refl at (numbers_of-without test n x es passes)
    where
      go : (b : Bool) → (n == e.0) ≡ b → option_map (λ y. y.1) (cond b (Some e) (find (has_number n) es)) ≡ Some x
          → (IsAt n x es → numbers_of test (without n es) ≡ without_number n (numbers_of test es))
          → numbers_of test (cond b es (e ∷ without n es)) ≡ without_number n (cond (test e.1.0) (e.0 ∷ numbers_of test es) (numbers_of test es))
      go true is at later =
          let same : e.1 ≡ x = cc in
          let here : test e.1.0 ≡ true = ap (λ (y : K × V). test y.0) same ∙ passes in
          sym (ap (λ b. without_number n (cond b (e.0 ∷ numbers_of test es) (numbers_of test es))) here
          ∙ ap (λ b. cond b (numbers_of test es) (e.0 ∷ without_number n (numbers_of test es))) is)
      go false is at later = both (test e.1.0) (later at)
        where
          both : (c : Bool) → numbers_of test (without n es) ≡ without_number n (numbers_of test es)
              → cond c (e.0 ∷ numbers_of test (without n es)) (numbers_of test (without n es)) ≡ without_number n (cond c (e.0 ∷ numbers_of test es) (numbers_of test es))
          both true h = ap (λ l. e.0 ∷ l) h ∙ sym (ap (λ b. cond b (numbers_of test es) (e.0 ∷ without_number n (numbers_of test es))) is)
          both false h = h

  -- and other keys keep theirs
  numbers_of-others : (test : K → Bool) (n : ℕ) (x : K × V) (es : List (ℕ × (K × V))) → test x.0 ≡ false → IsAt n x es → numbers_of test (without n es) ≡ numbers_of test es
  numbers_of-others test n x [] fails at = refl
  numbers_of-others test n x (e ∷ es) fails at = go (n == e.0) at (numbers_of-others test n x es fails)
    where
      go : (b : Bool) → option_map (λ y. y.1) (cond b (Some e) (find (has_number n) es)) ≡ Some x
          → (IsAt n x es → numbers_of test (without n es) ≡ numbers_of test es)
          → numbers_of test (cond b es (e ∷ without n es)) ≡ cond (test e.1.0) (e.0 ∷ numbers_of test es) (numbers_of test es)
      go true at later =
          let same : e.1 ≡ x = cc in
          sym (ap (λ b. cond b (e.0 ∷ numbers_of test es) (numbers_of test es)) (ap (λ (y : K × V). test y.0) same ∙ fails))
      go false at later = ap (λ l. cond (test e.1.0) (e.0 ∷ l) l) (later at)

  -- ---- the index after a change

  module _ {S : Type 0} {eq : K → K → Bool} (laws : IsEquivalence eq) where
    -- keys that are equal have the same numbers
    pub listed_alike : (es : List (ℕ × (K × V))) (old : HashMap K Numbers S) (k : K) → IsIndexed eq es old
        → (q : K) → listed (get eq old q) ≡ cond (eq k q) (listed (get eq old k)) (listed (get eq old q))
    listed_alike es old k was q = go (eq k q) refl
      where
        go : (b : Bool) → eq k q ≡ b → listed (get eq old q) ≡ cond b (listed (get eq old k)) (listed (get eq old q))
        go true h = was.found q ∙ sym (was.found k ∙ numbers_of-alike (eq k) (eq q) es (λ x. laws.congr k q x h))
        go false h = refl

    pub indexed_pushed : (es es2 : List (ℕ × (K × V))) (old new : HashMap K Numbers S) (n : ℕ) (key same : K) (v : V) → IsIndexed eq es old → IsAbove n es → eq same key ≡ true
        → es2 ≡ es ++ (n, (key, v)) ∷ []
        → ((q : K) → listed (get eq new q) ≡ cond (eq same q) (listed (get eq old same) ++ n ∷ []) (listed (get eq old q))) → IsIndexed eq es2 new
    indexed_pushed es es2 old new n key same v was below alike is updates = record {
      rising = subst AreRising (sym is) (AreRising-push n (key, v) es was.rising below);
      found = λ q. updates q ∙ go q (eq same q) refl ∙ sym (ap (numbers_of (eq q)) is ∙ numbers_of-push (eq q) n (key, v) es);
    }
      where
        go : (q : K) (b : Bool) → eq same q ≡ b → cond b (listed (get eq old same) ++ n ∷ []) (listed (get eq old q)) ≡ numbers_of (eq q) es ++ cond (eq q key) (n ∷ []) []
        go q true h =
            let here : eq q key ≡ true = sym (laws.congr same q key h) ∙ alike in
            ap (λ l. l ++ n ∷ []) (was.found same ∙ numbers_of-alike (eq same) (eq q) es (λ k. laws.congr same q k h))
            ∙ ap (λ b. numbers_of (eq q) es ++ cond b (n ∷ []) []) (sym here)
        go q false h =
            let there : eq q key ≡ false = laws.symm q key ∙ sym (laws.congr same key q alike) ∙ h in
            was.found q ∙ grind (arith, common_steps, there)

    pub indexed_same : (es es2 : List (ℕ × (K × V))) (old new : HashMap K Numbers S) → IsIndexed eq es old → es2 ≡ es
        → ((q : K) → listed (get eq new q) ≡ listed (get eq old q)) → IsIndexed eq es2 new
    indexed_same es es2 old new was is updates = record {
      rising = subst AreRising (sym is) was.rising;
      found = λ q. updates q ∙ was.found q ∙ ap (numbers_of (eq q)) (sym is);
    }

    pub indexed_without : (es es2 : List (ℕ × (K × V))) (old new : HashMap K Numbers S) (n : ℕ) (x : K × V) → IsIndexed eq es old → IsAt n x es → es2 ≡ without n es
        → ((q : K) → listed (get eq new q) ≡ cond (eq x.0 q) (without_number n (listed (get eq old x.0))) (listed (get eq old q))) → IsIndexed eq es2 new
    indexed_without es es2 old new n x was at is updates = record {
      rising = subst AreRising (sym is) (AreRising-without n es was.rising);
      found = λ q. updates q ∙ go q (eq x.0 q) refl ∙ ap (numbers_of (eq q)) (sym is);
    }
      where
        go : (q : K) (b : Bool) → eq x.0 q ≡ b → cond b (without_number n (listed (get eq old x.0))) (listed (get eq old q)) ≡ numbers_of (eq q) (without n es)
        go q true h =
            ap (without_number n) (was.found x.0) ∙ sym (numbers_of-without (eq x.0) n x es (laws.refl x.0) at)
            ∙ numbers_of-alike (eq x.0) (eq q) (without n es) (λ k. laws.congr x.0 q k h)
        go q false h = was.found q ∙ sym (numbers_of-others (eq q) n x es (laws.symm q x.0 ∙ h) at)

-- ---- the number after the last

pub next_above : (n : ℕ) (o : Option ℕ) (P : ℕ → Type 0) → SomeIff o (n + 1 < 2 ^ 64) (n + 1) → P (n + 1) → IfSome o P
next_above n None P tells p = tt
next_above n (Some m) P tells p = subst P (search rules) p

pub next_none : (n : ℕ) (o : Option ℕ) → n < 2 ^ 64 → SomeIff o (n + 1 < 2 ^ 64) (n + 1) → o ≡ None → n ≡ 2 ^ 64 - 1
next_none n None fits tells is = omega (arith, fits, tells)
next_none n (Some m) fits tells is = absurd (cc)
