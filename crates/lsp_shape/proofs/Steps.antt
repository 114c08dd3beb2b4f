-- The steps down a value, by number and by name.
use Rattle.std.proofs.Common.{◌≡◌, ℕ, zero, suc, ◌+◌, ◌-◌, ◌<◌, ◌^◌, List, [], ◌∷◌, ◌++◌, length, drop, get_or, Option, Some, None, option_map, String, Global, string_bytes, refl, ap, sym, subst, ◌∙◌, add-one, arith}
use Rattle.std.specs.Prelude.{option_and_then}
use Rattle.std.proofs.Math.Seq.{drop-cons}
use Rattle.std.proofs.lemmas.List.{append-nil, append_assoc}
use Rattle.std.proofs.lemmas.Option.{none-some, some_pair_parts}
use Rattle.serde_json.specs.View.{members_view}
use Rattle.serde_json.specs.Find.{get_member, get_item, at}
use Rattle.serde_json.specs.declared.value.Value.{Value}
use Rattle.serde_json.proofs.Views.{member_later}
use Rattle.serde_json.specs.Data.{Data, array, Items}
use Rattle.lsp_shape.specs.Why.{Downward, to_item, below, name_at, nth_step, with_step, step_to, step_before, and_further, path_by}

-- the entries that are left, while one is looked for by its name
pub record IsPast (name : List ℕ) (all left : List (String Global × Value)) (number : ℕ) : Type 0 where
  pub later : (n : ℕ) → name_at (number + n) (members_view all) ≡ name_at n (members_view left)
  pub unmet : get_member name (members_view all) ≡ get_member name (members_view left)
  pub fits : number + length left < 2 ^ 63

module _ (name : List ℕ) (all : List (String Global × Value)) where
  pub at_first : length all < 2 ^ 63 → IsPast name all all 0
  at_first h = record { later = λ n. ap (λ m. name_at m (members_view all)) (omega arith); unmet = refl; fits = omega (arith, h) }

  -- an entry of another name is passed
  pub one_past : (e : String Global × Value) (left : List (String Global × Value)) (number : ℕ) → (name ≡ string_bytes e.0 → ⊥) → IsPast name all (e ∷ left) number → IsPast name all left (number + 1)
  one_past e left number other s =
      let h = s.fits in
      record {
        later = λ n. ap (λ m. name_at m (members_view all)) (omega arith) ∙ s.later (suc n);
        unmet = s.unmet ∙ member_later name e left other;
        fits = omega (arith, h);
      }

  pub here_is : (e : String Global × Value) (left : List (String Global × Value)) (number : ℕ) → IsPast name all (e ∷ left) number → name_at number (members_view all) ≡ Some (string_bytes e.0)
  here_is e left number s = ap (λ m. name_at m (members_view all)) (omega arith) ∙ s.later 0

-- the entries that are left, while they are counted down
pub name_later : (n : ℕ) (e : String Global × Value) (left : List (String Global × Value)) → (n ≡ 0 → ⊥) → name_at n (members_view (e ∷ left)) ≡ name_at (n - 1) (members_view left)
name_later zero e left h = absurd (h refl)
name_later (suc n) e left h = ap (λ (m : ℕ). name_at m (members_view left)) (omega arith)

-- ---- a step to an item

pub item_down : (n m : ℕ) (d x : Data) → m ≡ n → at m d ≡ Some x → step_to n d ≡ Some (to_item n, x)
item_down n m (array ds) x same e = let is : get_item n ds ≡ Some x = subst (λ (k : ℕ). get_item k ds ≡ Some x) same e in rw is refl
item_down n m d x same e = absurd (none-some x e)

no_item_at : (n : ℕ) (ds : Items) → get_item n ds ≡ None → step_to n (array ds) ≡ None
no_item_at n ds e = rw e refl

pub no_item_down : (n m : ℕ) (d : Data) (ds : Items) → d ≡ array ds → m ≡ n → at m d ≡ None → step_to n d ≡ None
no_item_down n m d ds is same e =
    let none : get_item m ds ≡ None = subst (λ (x : Data). at m x ≡ None) is e in
    subst (λ (x : Data). step_to n x ≡ None) (sym is) (no_item_at n ds (subst (λ (k : ℕ). get_item k ds ≡ None) same none))

-- ---- a path, step by step

further_none : (s : Downward) (f : Data → List Downward) (o : Option Data) → option_map (with_step s) o ≡ None → step_before s (option_map f o) ≡ []
further_none s f None e = refl
further_none s f (Some x) e = absurd (none-some (s, x) (sym e))

led_none : (o : Option Downward) (f : Data → List Downward) (d : Data) → option_and_then (λ (s : Downward). option_map (with_step s) (below s d)) o ≡ None → and_further o f d ≡ []
led_none None f d e = refl
led_none (Some s) f d e = further_none s f (below s d) e

further_some : (s t : Downward) (x : Data) (f : Data → List Downward) (o : Option Data) → option_map (with_step s) o ≡ Some (t, x) → step_before s (option_map f o) ≡ t ∷ f x
further_some s t x f None e = absurd (none-some (t, x) e)
further_some s t x f (Some y) e = rw ((some_pair_parts s t y x e).0, (some_pair_parts s t y x e).1) refl

led_some : (o : Option Downward) (t : Downward) (x : Data) (f : Data → List Downward) (d : Data) → option_and_then (λ (s : Downward). option_map (with_step s) (below s d)) o ≡ Some (t, x) → and_further o f d ≡ t ∷ f x
led_some None t x f d e = absurd (none-some (t, x) e)
led_some (Some s) t x f d e = further_some s t x f (below s d) e

pub next_number : (ns : List ℕ) (i z : ℕ) → i < length ns → drop i ns ≡ get_or ns i z ∷ drop (i + 1) ns
next_number ns i z h = rw add-one (drop-cons ns i z h)

module _ (before whole : List Downward) (ns : List ℕ) (i n : ℕ) (d : Data) (next : drop i ns ≡ n ∷ drop (i + 1) ns) (so_far : before ++ path_by (drop i ns) d ≡ whole) where
  -- one more step is told
  pub one_down : (after : List Downward) (s : Downward) (x : Data) → step_to n d ≡ Some (s, x) → after ≡ before ++ s ∷ [] → after ++ path_by (drop (i + 1) ns) x ≡ whole
  one_down after s x is pushed =
      ap (λ (p : List Downward). p ++ path_by (drop (i + 1) ns) x) pushed ∙ append_assoc before (s ∷ []) (path_by (drop (i + 1) ns) x)
      ∙ ap (λ (p : List Downward). before ++ p) (sym (ap (λ (ks : List ℕ). path_by ks d) next ∙ led_some (nth_step n d) s x (path_by (drop (i + 1) ns)) d is))
      ∙ so_far

  -- no further step leads on
  pub no_further : step_to n d ≡ None → before ≡ whole
  no_further is = sym (append-nil before) ∙ ap (λ (p : List Downward). before ++ p) (sym (ap (λ (ks : List ℕ). path_by ks d) next ∙ led_none (nth_step n d) (path_by (drop (i + 1) ns)) d is)) ∙ so_far

-- all numbers were gone by
pub all_down : (before whole : List Downward) (ns : List ℕ) (i : ℕ) (d : Data) → drop i ns ≡ [] → before ++ path_by (drop i ns) d ≡ whole → before ≡ whole
all_down before whole ns i d e so_far = sym (append-nil before) ∙ ap (λ (ks : List ℕ). before ++ path_by ks d) (sym e) ∙ so_far
