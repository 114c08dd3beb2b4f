-- Where a text is cut.
use Rattle.std.proofs.Common.{◌≡◌, ◌≢◌, ℕ, zero, suc, ◌+◌, ◌<◌, ◌≤◌, List, [], ◌∷◌, ◌++◌, length, get_or, take, drop, Bool, true, false, Option, Some, None, option_map, refl, sym, ap, ◌∙◌, arith}
use Rattle.std.proofs.lemmas.Bool.Decides.{nat_tests}
use Rattle.std.proofs.lemmas.Bool.{and_parts}
use Rattle.std.specs.Prelude.{◌==◌, ◌&&◌, MatchOption, if◌then◌else◌}
use denote.Ref.{Bor}
use Rattle.lsp_uri.specs.Cuts.{before, after, from, stripped, onto_first, pieces, before_two, after_two}

-- no byte of s is c
pub record Lacks (c : ℕ) (s : List ℕ) : Type 0 where
  pub at : (i : ℕ) → i < length s → get_or s i 0 ≢ c

differs : (b c : ℕ) → b ≢ c → (b == c) ≡ false
differs b c n = grind (arith, nat_tests)

same : (c : ℕ) → (c == c) ≡ true
same c = grind (arith, nat_tests)

lacks_head : (c b : ℕ) (s : List ℕ) → Lacks c (b ∷ s) → (b == c) ≡ false
lacks_head c b s h = differs b c (h.at 0 (omega arith))

lacks_tail : (c b : ℕ) (s : List ℕ) → Lacks c (b ∷ s) → Lacks c s
lacks_tail c b s h = record { at = λ i l. h.at (suc i) (omega arith) }

pub before-lacks : (c : ℕ) (s : List ℕ) → Lacks c s → before c s ≡ s
before-lacks c [] h = refl
before-lacks c (b ∷ s) h = rw (lacks_head c b s h) (ap (λ t. b ∷ t) (before-lacks c s (lacks_tail c b s h)))

pub after-lacks : (c : ℕ) (s : List ℕ) → Lacks c s → after c s ≡ None
after-lacks c [] h = refl
after-lacks c (b ∷ s) h = rw (lacks_head c b s h) (after-lacks c s (lacks_tail c b s h))

pub from-lacks : (c : ℕ) (s : List ℕ) → Lacks c s → from c s ≡ []
from-lacks c [] h = refl
from-lacks c (b ∷ s) h = rw (lacks_head c b s h) (from-lacks c s (lacks_tail c b s h))

pub before-append : (c : ℕ) (s t : List ℕ) → Lacks c s → before c (s ++ c ∷ t) ≡ s
before-append c [] t h = rw (same c) refl
before-append c (b ∷ s) t h = rw (lacks_head c b s h) (ap (λ u. b ∷ u) (before-append c s t (lacks_tail c b s h)))

pub after-append : (c : ℕ) (s t : List ℕ) → Lacks c s → after c (s ++ c ∷ t) ≡ Some t
after-append c [] t h = rw (same c) refl
after-append c (b ∷ s) t h = rw (lacks_head c b s h) (after-append c s t (lacks_tail c b s h))

pub from-append : (c : ℕ) (s t : List ℕ) → Lacks c s → from c (s ++ c ∷ t) ≡ c ∷ t
from-append c [] t h = rw (same c) refl
from-append c (b ∷ s) t h = rw (lacks_head c b s h) (from-append c s t (lacks_tail c b s h))

pub stripped-cons : (c : ℕ) (s : List ℕ) → stripped c (c ∷ s) ≡ Some s
stripped-cons c s = rw (same c) refl

pub stripped-other : (c : ℕ) (s : List ℕ) → ((t : List ℕ) → s ≢ c ∷ t) → stripped c s ≡ None
stripped-other c [] h = refl
stripped-other c (b ∷ s) h = rw (differs b c (λ e. h s (ap (λ d. d ∷ s) e))) refl

-- the clause of `strip_prefix`, as the text that is left
pub stripped_by : (c : ℕ) (s : List ℕ) (r : Option (Bor (List ℕ))) → MatchOption r ((t : List ℕ) → s ≢ c ∷ t) (λ x. s ≡ c ∷ x.now) → option_map (λ x. x.now) r ≡ stripped c s
stripped_by c s None h = sym (stripped-other c s h)
stripped_by c s (Some x) h = sym (ap (stripped c) h ∙ stripped-cons c x.now)

-- ---- the first c stands at i

pub before-at : (c : ℕ) (s : List ℕ) (i : ℕ) → i < length s → get_or s i 0 ≡ c → ((k : ℕ) → k < i → get_or s k 0 ≢ c) → before c s ≡ take i s
before-at c [] i l e n = absurd (omega arith)
before-at c (b ∷ s) zero l e n = rw (e, same c) refl
before-at c (b ∷ s) (suc i) l e n =
    rw (differs b c (n 0 (omega arith))) (ap (λ t. b ∷ t) (before-at c s i (omega arith) e (λ k h. n (suc k) (omega arith))))

pub from-at : (c : ℕ) (s : List ℕ) (i : ℕ) → i < length s → get_or s i 0 ≡ c → ((k : ℕ) → k < i → get_or s k 0 ≢ c) → from c s ≡ drop i s
from-at c [] i l e n = absurd (omega arith)
from-at c (b ∷ s) zero l e n = rw (e, same c) refl
from-at c (b ∷ s) (suc i) l e n = rw (differs b c (n 0 (omega arith))) (from-at c s i (omega arith) e (λ k h. n (suc k) (omega arith)))

-- ---- two in a row

-- no two c stand in a row at i
abbrev pub NoTwoAt : ℕ → List ℕ → ℕ → Type 0
NoTwoAt c s i = (t : List ℕ) → drop i s ≢ c ∷ c ∷ t

pub is_false : (x : Bool) → (x ≡ true → ⊥) → x ≡ false
is_false true h = absurd (h refl)
is_false false h = refl

equal : (a c : ℕ) → (a == c) ≡ true → a ≡ c
equal a c e = grind (arith, nat_tests)

two : (a b c : ℕ) (s : List ℕ) → a ≡ c → b ≡ c → (a ∷ b ∷ s) ≡ (c ∷ c ∷ s)
two a b c s x y = cc

two_differ : (a b c : ℕ) (s : List ℕ) → NoTwoAt c (a ∷ b ∷ s) 0 → ((a == c) && (b == c)) ≡ false
two_differ a b c s h = is_false _ (λ e. let t = and_parts (a == c) (b == c) e in h s (two a b c s (equal a c t.0) (equal b c t.1)))

pub before_two-lacks : (c : ℕ) (s : List ℕ) → ((i : ℕ) → i ≤ length s → NoTwoAt c s i) → before_two c s ≡ s
before_two-lacks c [] h = refl
before_two-lacks c (a ∷ []) h = refl
before_two-lacks c (a ∷ b ∷ s) h =
    rw (two_differ a b c s (h 0 (omega arith))) (ap (λ t. a ∷ t) (before_two-lacks c (b ∷ s) (λ i l. h (suc i) (omega arith))))

pub after_two-lacks : (c : ℕ) (s : List ℕ) → ((i : ℕ) → i ≤ length s → NoTwoAt c s i) → after_two c s ≡ None
after_two-lacks c [] h = refl
after_two-lacks c (a ∷ []) h = refl
after_two-lacks c (a ∷ b ∷ s) h = rw (two_differ a b c s (h 0 (omega arith))) (after_two-lacks c (b ∷ s) (λ i l. h (suc i) (omega arith)))

first_two : (a b c : ℕ) (s t : List ℕ) → (a ∷ b ∷ s) ≡ (c ∷ c ∷ t) → (a ≡ c) × (b ≡ c) × (s ≡ t)
first_two a b c s t e = ((cc), (cc), (cc))

pub before_two-at : (c : ℕ) (s : List ℕ) (i : ℕ) (t : List ℕ) → drop i s ≡ c ∷ c ∷ t → ((k : ℕ) → k < i → NoTwoAt c s k) → before_two c s ≡ take i s
before_two-at c [] zero t e n = absurd (cc)
before_two-at c [] (suc i) t e n = absurd (cc)
before_two-at c (a ∷ []) zero t e n = absurd (cc)
before_two-at c (a ∷ []) (suc zero) t e n = absurd (cc)
before_two-at c (a ∷ []) (suc (suc i)) t e n = absurd (cc)
before_two-at c (a ∷ b ∷ s) zero t e n = let h = first_two a b c s t e in rw (h.0, h.1, same c) refl
before_two-at c (a ∷ b ∷ s) (suc i) t e n =
    rw (two_differ a b c s (n 0 (omega arith))) (ap (λ u. a ∷ u) (before_two-at c (b ∷ s) i t e (λ k h. n (suc k) (omega arith))))

pub after_two-at : (c : ℕ) (s : List ℕ) (i : ℕ) (t : List ℕ) → drop i s ≡ c ∷ c ∷ t → ((k : ℕ) → k < i → NoTwoAt c s k) → after_two c s ≡ Some t
after_two-at c [] zero t e n = absurd (cc)
after_two-at c [] (suc i) t e n = absurd (cc)
after_two-at c (a ∷ []) zero t e n = absurd (cc)
after_two-at c (a ∷ []) (suc zero) t e n = absurd (cc)
after_two-at c (a ∷ []) (suc (suc i)) t e n = absurd (cc)
after_two-at c (a ∷ b ∷ s) zero t e n = let h = first_two a b c s t e in rw (h.0, h.1, same c) (ap (λ u. Some u) h.2)
after_two-at c (a ∷ b ∷ s) (suc i) t e n =
    rw (two_differ a b c s (n 0 (omega arith))) (after_two-at c (b ∷ s) i t e (λ k h. n (suc k) (omega arith)))

-- ---- the pieces

shorter_by : (x : Bool) (c : ℕ) (s t : List ℕ) → (after c s ≡ Some t → length t < length s) → (if x then Some s else after c s) ≡ Some t → length t < length s + 1
shorter_by true c s t ih e = let h : s ≡ t = (cc) in rw h (omega arith)
shorter_by false c s t ih e = let h = ih e in omega arith

pub after-shorter : (c : ℕ) (s t : List ℕ) → after c s ≡ Some t → length t < length s
after-shorter c [] t e = absurd (cc)
after-shorter c (b ∷ s) t e = let h = shorter_by (b == c) c s t (after-shorter c s t) e in omega arith

pieces_by_some : (x : Bool) (b c : ℕ) (s t : List ℕ) → (after c s ≡ Some t → pieces c s ≡ before c s ∷ pieces c t) → (if x then Some s else after c s) ≡ Some t
    → (if x then [] ∷ pieces c s else onto_first b (pieces c s)) ≡ (if x then [] else b ∷ before c s) ∷ pieces c t
pieces_by_some true b c s t ih e = let h : s ≡ t = (cc) in ap (λ u. [] ∷ pieces c u) h
pieces_by_some false b c s t ih e = ap (onto_first b) (ih e)

pub pieces-some : (c : ℕ) (s t : List ℕ) → after c s ≡ Some t → pieces c s ≡ before c s ∷ pieces c t
pieces-some c [] t e = absurd (cc)
pieces-some c (b ∷ s) t e = pieces_by_some (b == c) b c s t (pieces-some c s t) e

pieces_by_none : (x : Bool) (b c : ℕ) (s : List ℕ) → (after c s ≡ None → pieces c s ≡ s ∷ []) → (if x then Some s else after c s) ≡ None
    → (if x then [] ∷ pieces c s else onto_first b (pieces c s)) ≡ (b ∷ s) ∷ []
pieces_by_none true b c s ih e = absurd (cc)
pieces_by_none false b c s ih e = ap (onto_first b) (ih e)

pub pieces-none : (c : ℕ) (s : List ℕ) → after c s ≡ None → pieces c s ≡ s ∷ []
pieces-none c [] e = refl
pieces-none c (b ∷ s) e = pieces_by_none (b == c) b c s (pieces-none c s) e

before_by_none : (x : Bool) (b c : ℕ) (s : List ℕ) → (after c s ≡ None → before c s ≡ s) → (if x then Some s else after c s) ≡ None → (if x then [] else b ∷ before c s) ≡ b ∷ s
before_by_none true b c s ih e = absurd (cc)
before_by_none false b c s ih e = ap (λ u. b ∷ u) (ih e)

pub before-none : (c : ℕ) (s : List ℕ) → after c s ≡ None → before c s ≡ s
before-none c [] e = refl
before-none c (b ∷ s) e = before_by_none (b == c) b c s (before-none c s) e
