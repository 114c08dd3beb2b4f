-- The live ids after one is put in or taken out.
use Rattle.std.proofs.Common.{◌≡◌, ◌≤◌, ◌+◌, ℕ, List, [], ◌∷◌, ◌++◌, Bool, true, false, cond, not, Some, option_map, refl, sym, ap, ◌∙◌, subst, arith, map, filter, length, length-append, take, drop}
use Rattle.std.specs.Prelude.{is_some, ◌||◌, Result, Ok, Err, OnOk, OnErr}
use Rattle.std.specs.List.{find, list_any, before_first, after_first, position_or_len}
use Rattle.std.proofs.lemmas.Grind.{common_steps}
use Rattle.lsp_rpc.specs.Message.{IdData}
use Rattle.lsp_rpc.specs.Ids.{same_id, same_id-Decides, same_id_equiv}
use Rattle.lsp_rpc.specs.Shown.{show_id}
use Rattle.lsp_rpc.specs.declared.id.Id.{Id}
use Rattle.lsp_desk.proofs.ListLemmas.{list_any-map}
use Rattle.lsp_session.specs.Live.{ids_of, have_repeats}

or_false : (a b : Bool) → (a || b) ≡ false → (a ≡ false) × (b ≡ false)
or_false false b h = (refl, h)
or_false true b h = absurd (cc)

false_or : (a b : Bool) → a ≡ false → b ≡ false → (a || b) ≡ false
false_or false b h k = k
false_or true b h k = absurd (cc)

-- ---- a list without the first element that passes

without : {A : Type 0} → (A → Bool) → List A → List A
without p [] = []
without p (x ∷ xs) = cond (p x) xs (x ∷ without p xs)

pub found_any : {A B : Type 0} (f : A → B) (p : A → Bool) (xs : List A) → is_some (option_map f (find p xs)) ≡ list_any p xs
found_any f p [] = refl
found_any f p (x ∷ xs) = at (p x) (found_any f p xs)
  where
    at : (b : Bool) → is_some (option_map f (find p xs)) ≡ list_any p xs → is_some (option_map f (cond b (Some x) (find p xs))) ≡ (b || list_any p xs)
    at true h = refl
    at false h = h

module _ {A : Type 0} (p : A → Bool) where
  rest_without : (xs : List A) → before_first p xs ++ after_first p xs ≡ without p xs
  unfolding without
  rest_without [] = refl
  rest_without (x ∷ xs) = at (p x) (rest_without xs)
    where
      at : (b : Bool) → before_first p xs ++ after_first p xs ≡ without p xs
          → take (cond (not b) (1 + position_or_len p xs) 0) (x ∷ xs) ++ drop (cond (not b) (1 + position_or_len p xs) 0 + 1) (x ∷ xs) ≡ cond b xs (x ∷ without p xs)
      at true h = grind (arith, common_steps)
      at false h = grind (arith, common_steps, h)

  length-without : (xs : List A) → length (without p xs) ≤ length xs
  unfolding without
  length-without [] = omega arith
  length-without (x ∷ xs) = at (p x) (length-without xs)
    where
      at : (b : Bool) → length (without p xs) ≤ length xs → length (cond b xs (x ∷ without p xs)) ≤ length (x ∷ xs)
      at true h = omega arith
      at false h = omega (arith, h)

  any-without : (t : A → Bool) (xs : List A) → list_any t xs ≡ false → list_any t (without p xs) ≡ false
  unfolding without
  any-without t [] h = refl
  any-without t (x ∷ xs) h = let w = or_false (t x) (list_any t xs) h in at (p x) w (any-without t xs w.1)
    where
      at : (b : Bool) → (t x ≡ false) × (list_any t xs ≡ false) → list_any t (without p xs) ≡ false → list_any t (cond b xs (x ∷ without p xs)) ≡ false
      at true w more = w.1
      at false w more = false_or (t x) _ w.0 more

-- ---- ids

module _ {X : Type 0} where
  abbrev AreApart : List (ℕ × (Id × X)) → Type 0
  AreApart es = have_repeats es ≡ false

  parts : (e : ℕ × (Id × X)) (es : List (ℕ × (Id × X))) → have_repeats (e ∷ es) ≡ false → (list_any (λ x. same_id (show_id e.1.0) (show_id x.1.0)) es ≡ false) × (have_repeats es ≡ false)
  parts e es h = or_false (list_any (λ x. same_id (show_id e.1.0) (show_id x.1.0)) es) (have_repeats es) h

  filter_all : (i : IdData) (es : List (ℕ × (Id × X))) → list_any (λ x. same_id i (show_id x.1.0)) es ≡ false → filter (λ live. not (same_id i live)) (ids_of es) ≡ ids_of es
  filter_all i [] h = refl
  filter_all i (e ∷ es) h =
      let w = or_false (same_id i (show_id e.1.0)) _ h in
      ap (λ b. cond (not b) (show_id e.1.0 ∷ filter (λ live. not (same_id i live)) (ids_of es)) (filter (λ live. not (same_id i live)) (ids_of es))) w.0
      ∙ ap (λ l. show_id e.1.0 ∷ l) (filter_all i es w.1)

  ids_without : (i : IdData) (es : List (ℕ × (Id × X))) → AreApart es → ids_of (without (λ e. same_id i (show_id e.1.0)) es) ≡ filter (λ live. not (same_id i live)) (ids_of es)
  unfolding without
  ids_without i [] apart = refl
  ids_without i (e ∷ es) apart = at (same_id i (show_id e.1.0)) refl (ids_without i es (parts e es apart).1)
    where
      at : (b : Bool) → same_id i (show_id e.1.0) ≡ b → ids_of (without (λ e. same_id i (show_id e.1.0)) es) ≡ filter (λ live. not (same_id i live)) (ids_of es)
          → ids_of (cond b es (e ∷ without (λ e. same_id i (show_id e.1.0)) es))
          ≡ cond (not b) (show_id e.1.0 ∷ filter (λ live. not (same_id i live)) (ids_of es)) (filter (λ live. not (same_id i live)) (ids_of es))
      at true h more =
          let same : i ≡ show_id e.1.0 = (same_id-Decides i (show_id e.1.0)).0 h in
          sym (filter_all i es (subst (λ (j : IdData). list_any (λ x. same_id j (show_id x.1.0)) es ≡ false) (sym same) (parts e es apart).0))
      at false h more = ap (λ l. show_id e.1.0 ∷ l) more

  apart_without : (p : ℕ × (Id × X) → Bool) (es : List (ℕ × (Id × X))) → AreApart es → AreApart (without p es)
  unfolding without
  apart_without p [] apart = refl
  apart_without p (e ∷ es) apart = at (p e) (apart_without p es (parts e es apart).1)
    where
      at : (b : Bool) → AreApart (without p es) → AreApart (cond b es (e ∷ without p es))
      at true more = (parts e es apart).1
      at false more = false_or _ _ (any-without p (λ x. same_id (show_id e.1.0) (show_id x.1.0)) es (parts e es apart).0) more

  -- the id is taken out
  pub ids_left : (i : IdData) (es : List (ℕ × (Id × X))) → AreApart es
      → ids_of (before_first (λ e. same_id i (show_id e.1.0)) es ++ after_first (λ e. same_id i (show_id e.1.0)) es) ≡ filter (λ live. not (same_id i live)) (ids_of es)
  ids_left i es apart = ap ids_of (rest_without (λ e. same_id i (show_id e.1.0)) es) ∙ ids_without i es apart

  pub apart_left : (p : ℕ × (Id × X) → Bool) (es : List (ℕ × (Id × X))) → AreApart es → AreApart (before_first p es ++ after_first p es)
  apart_left p es apart = subst AreApart (sym (rest_without p es)) (apart_without p es apart)

  pub fewer_left : (p : ℕ × (Id × X) → Bool) (es : List (ℕ × (Id × X))) → length (before_first p es ++ after_first p es) ≤ length es
  fewer_left p es = subst (λ (l : List (ℕ × (Id × X))). length l ≤ length es) (sym (rest_without p es)) (length-without p es)

  -- an id that is not live is put in
  any-push : (t : IdData → Bool) (es : List (ℕ × (Id × X))) (e : ℕ × (Id × X)) → list_any (λ x. t (show_id x.1.0)) es ≡ false → t (show_id e.1.0) ≡ false
      → list_any (λ x. t (show_id x.1.0)) (es ++ e ∷ []) ≡ false
  any-push t [] e h k = false_or (t (show_id e.1.0)) false k refl
  any-push t (x ∷ es) e h k = let w = or_false (t (show_id x.1.0)) _ h in false_or (t (show_id x.1.0)) _ w.0 (any-push t es e w.1 k)

  pub apart_pushed : (es : List (ℕ × (Id × X))) (e : ℕ × (Id × X)) → AreApart es → list_any (λ x. same_id (show_id e.1.0) (show_id x.1.0)) es ≡ false → AreApart (es ++ e ∷ [])
  apart_pushed [] e apart new = refl
  apart_pushed (x ∷ es) e apart new =
      let w = or_false (same_id (show_id e.1.0) (show_id x.1.0)) _ new in
      false_or _ _ (any-push (same_id (show_id x.1.0)) es e (parts x es apart).0 (same_id_equiv.symm (show_id x.1.0) (show_id e.1.0) ∙ w.0)) (apart_pushed es e (parts x es apart).1 w.1)

  pub shown_keys : (es : List (ℕ × (Id × X))) → map show_id (map (λ e. e.1.0) es) ≡ ids_of es
  shown_keys [] = refl
  shown_keys (e ∷ es) = ap (λ l. show_id e.1.0 ∷ l) (shown_keys es)

  module _ {A E : Type 0} (r : Result A E) (n : ℕ) (id : Id) (x : X) (old new : List (ℕ × (Id × X))) (ok : OnOk r (new ≡ old ++ (n, (id, x)) ∷ [])) (err : OnErr r (new ≡ old)) where
    -- an id that isn't live was put in, or nothing was
    pub apart_added : have_repeats old ≡ false → list_any (same_id (show_id id)) (ids_of old) ≡ false → have_repeats new ≡ false
    apart_added apart none = elim r as (λ r. OnOk r (new ≡ old ++ (n, (id, x)) ∷ []) → OnErr r (new ≡ old) → have_repeats new ≡ false) [
      | Ok a ↦ λ is _. subst AreApart (sym is) (apart_pushed old (n, (id, x)) apart (sym (list_any-map (λ e. show_id e.1.0) (same_id (show_id id)) old) ∙ none))
      | Err e ↦ λ _ is. subst AreApart (sym is) apart
    ] ok err

    -- where there is room for one more, there is room for all
    pub fits_added : (room : ℕ) → length old + 1 ≤ room → length new ≤ room
    fits_added room fits = elim r as (λ r. OnOk r (new ≡ old ++ (n, (id, x)) ∷ []) → OnErr r (new ≡ old) → length new ≤ room) [
      | Ok a ↦ λ is _. omega (arith, ap length is, length-append old ((n, (id, x)) ∷ []), fits)
      | Err e ↦ λ _ is. omega (arith, ap length is, fits)
    ] ok err
