-- Sums over views, and lists of items.
use Rattle.std.proofs.Common.{◌≡◌, ◌≢◌, ℕ, zero, suc, ◌+◌, ◌<◌, ◌≤◌, List, [], ◌∷◌, ◌++◌, set, refl, sym, ap, arith}
use Rattle.std.proofs.lemmas.Bool.Decides.{nat_tests}
use mathlib.Core.Option.{some, some-ne-none, some-injective}
use lib.ListN.{get_elem?}
use Rattle.lsp_desk.specs.Desk.{DeskState}
use Rattle.lsp_desk.specs.Trace.{after, AllBelow, times}
use Rattle.lsp_shared.specs.declared.view.Item.{Item}
use Rattle.lsp_shared.specs.declared.view.View.{View}
use Rattle.lsp_shared.specs.Rule.{total, once_below, one_at, run, IsLegal, AreClean, AllClient, entry_of}

pub total_set : (f : View → ℕ) (views : List View) (id : ℕ) (v w : View) → get_elem? views id ≡ some v → total f (set views id w) + f v ≡ total f views + f w
total_set f [] id v w e = absurd (some-ne-none v (sym e))
total_set f (x ∷ xs) zero v w e = let s : f x ≡ f v = ap f (some-injective x v e) in omega arith
total_set f (x ∷ xs) (suc id) v w e = let r = total_set f xs id v w e in omega arith

pub total_at : (f : View → ℕ) (views : List View) (id : ℕ) (v : View) → get_elem? views id ≡ some v → f v ≤ total f views
total_at f [] id v e = absurd (some-ne-none v (sym e))
total_at f (x ∷ xs) zero v e = let s : f x ≡ f v = ap f (some-injective x v e) in omega arith
total_at f (x ∷ xs) (suc id) v e = let r = total_at f xs id v e in omega arith

pub total_two : (f : View → ℕ) (views : List View) (i j : ℕ) (v w : View) → i ≢ j → get_elem? views i ≡ some v → get_elem? views j ≡ some w → f v + f w ≤ total f views
total_two f [] i j v w n a b = absurd (some-ne-none v (sym a))
total_two f (x ∷ xs) zero zero v w n a b = absurd (n refl)
total_two f (x ∷ xs) zero (suc j) v w n a b = let s : f x ≡ f v = ap f (some-injective x v a) in let r = total_at f xs j w b in omega arith
total_two f (x ∷ xs) (suc i) zero v w n a b = let s : f x ≡ f w = ap f (some-injective x w b) in let r = total_at f xs i v a in omega arith
total_two f (x ∷ xs) (suc i) (suc j) v w n a b = let r = total_two f xs i j v w (λ e. n (ap suc e)) a b in omega arith

pub total_snoc : (f : View → ℕ) (views : List View) (w : View) → total f (views ++ w ∷ []) ≡ total f views + f w
total_snoc f [] w = omega arith
total_snoc f (x ∷ xs) w = let r = total_snoc f xs w in omega arith

pub total_zero : (f : View → ℕ) (views : List View) → ((j : ℕ) (u : View) → get_elem? views j ≡ some u → f u ≡ 0) → total f views ≡ 0
total_zero f [] z = refl
total_zero f (x ∷ xs) z = let a = z zero x refl in let b = total_zero f xs (λ j u e. z (suc j) u e) in omega arith

-- where all others have nothing, one has all
pub total_only : (f : View → ℕ) (views : List View) (id : ℕ) (v : View) → get_elem? views id ≡ some v → ((j : ℕ) (u : View) → j ≢ id → get_elem? views j ≡ some u → f u ≡ 0) → total f views ≡ f v
total_only f [] id v e z = absurd (some-ne-none v (sym e))
total_only f (x ∷ xs) zero v e z = let s : f x ≡ f v = ap f (some-injective x v e) in let b = total_zero f xs (λ j u q. z (suc j) u (λ n. absurd (omega arith)) q) in omega arith
total_only f (x ∷ xs) (suc id) v e z = let a = z zero x (λ n. absurd (omega arith)) refl in let b = total_only f xs id v e (λ j u n q. z (suc j) u (λ p. n (omega arith)) q) in omega arith

pub one_other : (x y : ℕ) → x ≢ y → one_at x y ≡ 0
one_other x y n = grind (arith, nat_tests)

pub once_yes : (x n : ℕ) → x < n → once_below x n ≡ 1
once_yes x n h = grind (arith, nat_tests)

pub once_suc : (x n : ℕ) → once_below x (n + 1) ≡ once_below x n + one_at x n
once_suc x n = grind (arith, nat_tests)

pub once_le : (x n : ℕ) → once_below x n ≤ 1
once_le x n = grind (arith, nat_tests)

pub once_some : (x n : ℕ) → 1 ≤ once_below x n → x < n
once_some x n h = grind (arith, nat_tests)

pub one_same : (x : ℕ) → one_at x x ≡ 1
one_same x = grind (arith, nat_tests)

pub times_append : (x : ℕ) (a b : List ℕ) → times x (a ++ b) ≡ times x a + times x b
times_append x [] b = omega arith
times_append x (y ∷ ys) b = let r = times_append x ys b in omega arith

pub below_mono : (m n : ℕ) (ts : List ℕ) → m ≤ n → AllBelow m ts → AllBelow n ts
below_mono m n [] le p = tt
below_mono m n (t ∷ ts) le p = (let q = p.0 in omega arith, below_mono m n ts le p.1)

pub below_append : (n : ℕ) (a b : List ℕ) → AllBelow n a → AllBelow n b → AllBelow n (a ++ b)
below_append n [] b p q = q
below_append n (t ∷ ts) b p q = (p.0, below_append n ts b p.1 q)

pub run_append : (d : DeskState) (a b : List Item) → run d (a ++ b) ≡ run (run d a) b
run_append d [] b = refl
run_append d (x ∷ xs) b = run_append (after d (entry_of x)) xs b

pub legal_append : (d : DeskState) (a b : List Item) → IsLegal d a → IsLegal (run d a) b → IsLegal d (a ++ b)
legal_append d [] b p q = q
legal_append d (x ∷ xs) b p q = (p.0, legal_append (after d (entry_of x)) xs b p.1 q)

pub client_append : (a b : List Item) → AllClient a → AllClient b → AllClient (a ++ b)
client_append [] b p q = q
client_append (x ∷ xs) b p q = (p.0, client_append xs b p.1 q)

pub clean_append : (a b : List Item) → AreClean a → AreClean b → AreClean (a ++ b)
clean_append [] b p q = q
clean_append (x ∷ xs) b p q = (p.0, clean_append xs b p.1 q)

pub clean_take : (a b : List Item) → AreClean (a ++ b) → AreClean a
clean_take [] b p = tt
clean_take (x ∷ xs) b p = (p.0, clean_take xs b p.1)
