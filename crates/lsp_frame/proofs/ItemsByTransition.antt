-- The items after a transition.
use Rattle.std.proofs.Common.{◌≡◌, ℕ, zero, suc, ◌+◌, ◌<◌, ◌≤◌, List, [], ◌++◌, length, drop, Option, refl, ap, ◌∙◌, subst, arith}
use Rattle.std.proofs.lemmas.Grind.{common_steps}
use Rattle.lsp_frame.specs.Transitions.{Item, Transition, stop, unfinished, go, transition}
use Rattle.lsp_frame.specs.Items.{transitions_left, items_after, items_within, with_item, all_from}
use Rattle.lsp_frame.specs.Laws.{ByTransitions}
use Rattle.lsp_frame.specs.declared.settings.CodecSettings.{CodecSettings}
use Rattle.lsp_frame.specs.declared.decode_state.DecodeState.{DecodeState}
use Rattle.lsp_frame.specs.declared.decode_state.DecodeState.TheVariants.{Frame, Search, Body, Skip}
use Rattle.lsp_frame.proofs.TransitionSteady.{IsSteady, steady}

some_left : (k : DecodeState) (h : List ℕ) → 0 < transitions_left k h
some_left Frame h = omega arith
some_left Search h = omega arith
some_left (Body n) h = omega arith
some_left (Skip n) h = omega arith

module _ (settings : CodecSettings) where
  abbrev Same : List Item → ℕ → ℕ → Type 0
  Same last m n = (k : DecodeState) (h : List ℕ) → transitions_left k h ≤ m → transitions_left k h ≤ n → items_within settings last m k h ≡ items_within settings last n k h

  after_same : (last : List Item) (m n : ℕ) → Same last m n → (k : DecodeState) (h : List ℕ) → transitions_left k h ≤ suc m → transitions_left k h ≤ suc n
      → (l : Transition) → IsSteady settings k h l
      → items_after (λ j d. items_within settings last m j (drop d h)) last l ≡ items_after (λ j d. items_within settings last n j (drop d h)) last l
  after_same last m n same k h a b stop is = refl
  after_same last m n same k h a b unfinished is = refl
  after_same last m n same k h a b (go x j d) is = ap (with_item x) (same j (drop d h) (omega (arith, is.1)) (omega (arith, is.1)))

  pub enough : (last : List Item) (m n : ℕ) → Same last m n
  enough last zero n k h a b = absurd (omega (arith, some_left k h))
  enough last (suc m) zero k h a b = absurd (omega (arith, some_left k h))
  enough last (suc m) (suc n) k h a b = after_same last m n (enough last m n) k h a b (transition settings k h) (steady settings k h)

  after_all : (last : List Item) (m : ℕ) (k : DecodeState) (h : List ℕ) → transitions_left k h ≤ suc m → (l : Transition) → IsSteady settings k h l
      → items_after (λ j d. items_within settings last m j (drop d h)) last l ≡ items_after (λ j d. all_from settings last j (drop d h)) last l
  after_all last m k h a stop is = refl
  after_all last m k h a unfinished is = refl
  after_all last m k h a (go x j d) is = ap (with_item x) (enough last m (transitions_left j (drop d h)) j (drop d h) (omega (arith, is.1)) (omega arith))

  pub all_from-transition : (last : List Item) (k : DecodeState) (h : List ℕ) → all_from settings last k h ≡ items_after (λ j d. all_from settings last j (drop d h)) last (transition settings k h)
  all_from-transition last k h =
      enough last (transitions_left k h) (suc (transitions_left k h)) k h (omega arith) (omega arith)
      ∙ after_all last (transitions_left k h) k h (omega arith) (transition settings k h) (steady settings k h)

  goes_on : (last : List Item) (k : DecodeState) (h c : List ℕ) (x : Option Item) (j : DecodeState) (n : ℕ) (l : Transition) → l ≡ go x j n → IsSteady settings k h l
      → all_from settings last k (h ++ c) ≡ with_item x (all_from settings last j (drop n h ++ c))
  goes_on last k h c x j n l e is =
      let on : IsSteady settings k h (go x j n) = subst (IsSteady settings k h) e is in
      all_from-transition last k (h ++ c)
      ∙ ap (items_after (λ i d. all_from settings last i (drop d (h ++ c))) last) (on.2 c)
      ∙ ap (λ t. with_item x (all_from settings last j t)) (moved n h c on.0)
    where
      moved : (n : ℕ) (h c : List ℕ) → n ≤ length h → drop n (h ++ c) ≡ drop n h ++ c
      moved n h c fits = grind (arith, common_steps)

  -- a transition that goes on gives its item, and then the items from where it goes on, whatever bytes follow
  pub all_from-go : (last : List Item) (k : DecodeState) (h c : List ℕ) (x : Option Item) (j : DecodeState) (n : ℕ) → transition settings k h ≡ go x j n
      → all_from settings last k (h ++ c) ≡ with_item x (all_from settings last j (drop n h ++ c))
  all_from-go last k h c x j n e = goes_on last k h c x j n (transition settings k h) e (steady settings k h)

  pub smaller : (k : DecodeState) (h : List ℕ) (x : Option Item) (j : DecodeState) (n : ℕ) → transition settings k h ≡ go x j n → transitions_left j (drop n h) < transitions_left k h
  smaller k h x j n e = let is : IsSteady settings k h (go x j n) = subst (IsSteady settings k h) e (steady settings k h) in is.1

  -- ---- for the loop over transitions

  -- after a transition that stops there are no items
  pub none_at_stop : (last : List Item) (k : DecodeState) (h : List ℕ) → transition settings k h ≡ stop → all_from settings last k h ≡ []
  none_at_stop last k h e = all_from-transition last k h ∙ ap (items_after (λ j d. all_from settings last j (drop d h)) last) e

  -- where input ends inside a frame, what is told there
  pub last_at_unfinished : (last : List Item) (k : DecodeState) (h : List ℕ) → transition settings k h ≡ unfinished → all_from settings last k h ≡ last
  last_at_unfinished last k h e = all_from-transition last k h ∙ ap (items_after (λ j d. all_from settings last j (drop d h)) last) e

  further : (n m : ℕ) (xs : List ℕ) → drop m (drop n xs) ≡ drop (n + m) xs
  further n m xs = grind (arith, common_steps)

  pub after_go : (k j : DecodeState) (bytes : List ℕ) (place n : ℕ) (x : Option Item) → transition settings k (drop place bytes) ≡ go x j n
      → (last : List Item) (c : List ℕ) → all_from settings last k (drop place bytes ++ c) ≡ with_item x (all_from settings last j (drop (place + n) bytes ++ c))
  after_go k j bytes place n x e last c =
      all_from-go last k (drop place bytes) c x j n e ∙ ap (λ t. with_item x (all_from settings last j (t ++ c))) (further place n bytes)

  pub after_smaller : (k j : DecodeState) (bytes : List ℕ) (place n : ℕ) (x : Option Item) → transition settings k (drop place bytes) ≡ go x j n
      → transitions_left j (drop (place + n) bytes) < transitions_left k (drop place bytes)
  after_smaller k j bytes place n x e = let P : List ℕ → Type 0 = λ t. transitions_left j t < transitions_left k (drop place bytes) in
      subst P (further place n bytes) (smaller k (drop place bytes) x j n e)

pub by_transitions_lem : ByTransitions
by_transitions_lem = all_from-transition
