-- Where decoding comes to by transitions that tell nothing and one that tells an item or stops.
use Rattle.std.specs.Prelude.{IfSome}
use Rattle.std.proofs.Common.{◌≡◌, ℕ, zero, suc, ◌+◌, ◌-◌, List, [], ◌++◌, length, take, drop, Option, Some, None, refl, sym, ap, ◌∙◌, subst, arith, append_assoc, length-drop}
use Rattle.std.proofs.lemmas.Grind.{common_steps}
use Rattle.lsp_frame.specs.Transitions.{Item, Transition, stop, unfinished, go, transition}
use Rattle.lsp_frame.specs.Items.{At, GoesNowhere}
use Rattle.lsp_frame.specs.Kept.{unneeded, without_needed}
use Rattle.lsp_frame.specs.Places.{codec_at, further, GoesOn, SilentBy, GoesSilently, without_unneeded, EndsAt, ComesTo, HoldsEnd, IsStateAfter}
use Rattle.lsp_frame.specs.Laws.{OnePlace}
use Rattle.lsp_frame.proofs.WaitingItems.{search_not_unfinished, skip_not_unfinished, waits_unfinished}
use Rattle.lsp_frame.proofs.StatesAfter.{state_after}
use Rattle.lsp_frame.specs.declared.settings.CodecSettings.{CodecSettings}
use Rattle.lsp_frame.specs.declared.decode_state.DecodeState.{DecodeState}
use Rattle.lsp_frame.specs.declared.decode_state.DecodeState.TheVariants.{Frame, Search, Body, Skip}

-- ---- one item, and one place

abbrev Is : Transition → Option Item → DecodeState → ℕ → Type 0
Is t x s n = t ≡ go x s n

goes_once : (a b c : At) (x y : Option Item) → GoesOn a x b → GoesOn a y c → (x ≡ y) × (b ≡ c)
goes_once a b c x y p q =
    let same : Is (go x p.0 p.1) y q.0 q.1 = sym p.2 ∙ q.2 in
    let item : x ≡ y = cc in
    let state : p.0 ≡ q.0 = cc in
    let size : p.1 ≡ q.1 = cc in
    (item, sym p.3 ∙ ap (λ s. further a s p.1) state ∙ ap (further a q.0) size ∙ q.3)

-- a transition that goes on and tells nothing is not the last
not_last : (a m b : At) (x : Option Item) → GoesOn a None m → EndsAt a x b → ⊥
not_last a m b None on ends = subst GoesNowhere on.2 ends.0
not_last a m b (Some x) on ends =
    let same : Is (go None on.0 on.1) (Some x) ends.0 ends.1 = sym on.2 ∙ ends.2 in
    absurd cc

ends_once : (a b c : At) (x y : Option Item) → EndsAt a x b → EndsAt a y c → (x ≡ y) × (b ≡ c)
ends_once a b c None None p q = (refl, sym p.1 ∙ q.1)
ends_once a b c None (Some y) p q = absurd (subst GoesNowhere q.2 p.0)
ends_once a b c (Some x) None p q = absurd (subst GoesNowhere p.2 q.0)
ends_once a b c (Some x) (Some y) p q = goes_once a b c (Some x) (Some y) p q

comes_once : (k l : ℕ) (a m n b c : At) (x y : Option Item) → SilentBy k a m → EndsAt m x b → SilentBy l a n → EndsAt n y c → (x ≡ y) × (b ≡ c)
comes_once zero zero a m n b c x y p ends q other =
    ends_once a b c x y (subst (λ t. EndsAt t x b) (sym p) ends) (subst (λ t. EndsAt t y c) (sym q) other)
comes_once zero (suc l) a m n b c x y p ends q other = absurd (not_last a q.0 b x q.1 (subst (λ t. EndsAt t x b) (sym p) ends))
comes_once (suc k) zero a m n b c x y p ends q other = absurd (not_last a p.0 c y p.1 (subst (λ t. EndsAt t y c) (sym q) other))
comes_once (suc k) (suc l) a m n b c x y p ends q other =
    let same = (goes_once a p.0 q.0 None None p.1 q.1).1 in
    comes_once k l p.0 m n b c x y p.2 ends (subst (λ t. SilentBy l t n) (sym same) q.2) other

pub one_place_lem : OnePlace
one_place_lem a b c x y p q = comes_once p.1.0 q.1.0 a p.0 q.0 b c x y p.1.1 p.2 q.1.1 q.2

-- ---- what is held is the end of what was held

parts : (n : ℕ) (xs : List ℕ) → xs ≡ take n xs ++ drop n xs
parts n xs = grind (arith, common_steps)

further_end : (a b : At) (s : DecodeState) (n : ℕ) → further a s n ≡ b → HoldsEnd a b
further_end a b s n e = (take n a.held, parts n a.held ∙ ap (λ t. take n a.held ++ t.held) e)

end_of_end : (a m b : At) → HoldsEnd a m → HoldsEnd m b → HoldsEnd a b
end_of_end a m b p q = (p.0 ++ q.0, p.1 ∙ ap (λ t. p.0 ++ t) q.1 ∙ sym (append_assoc p.0 q.0 b.held))

silent_end : (k : ℕ) (a b : At) → SilentBy k a b → HoldsEnd a b
silent_end zero a b p = ([], ap (λ t. t.held) p)
silent_end (suc k) a b p = end_of_end a p.0 b (further_end a p.0 p.1.0 p.1.1 p.1.3) (silent_end k p.0 b p.2)

last_end : (a b : At) (x : Option Item) → EndsAt a x b → HoldsEnd a b
last_end a b None p = further_end a b (without_needed a.state (length a.held)) (unneeded a.state (length a.held)) p.1
last_end a b (Some x) p = further_end a b p.0 p.1 p.3

pub comes_to_end : (a b : At) (x : Option Item) → ComesTo a x b → HoldsEnd a b
comes_to_end a b x p = end_of_end a p.0 b (silent_end p.1.0 a p.0 p.1.1) (last_end p.0 b x p.2)

-- ---- the state after an item

comes_to_state : (a b : At) (x : Item) → ComesTo a (Some x) b → IsStateAfter b.settings.limits x b.state
comes_to_state a b x p =
    let last = p.2 in
    subst (λ t. IsStateAfter t.settings.limits x t.state) last.3 (state_after p.0.settings p.0.state p.0.held x last.0 last.1 last.2)

pub comes_to_state_after : (a b : At) (x : Option Item) → ComesTo a x b → IfSome x (λ y. IsStateAfter b.settings.limits y b.state)
comes_to_state_after a b None p = tt
comes_to_state_after a b (Some x) p = comes_to_state a b x p

-- ---- for the loop over transitions

silent_more : (k : ℕ) (a m b : At) → SilentBy k a m → GoesOn m None b → SilentBy (suc k) a b
silent_more zero a m b p on = (b, subst (λ t. GoesOn t None b) (sym p) on, refl)
silent_more (suc k) a m b p on = (p.0, p.1, silent_more k p.0 m b p.2 on)

beyond : (n m : ℕ) (xs : List ℕ) → drop m (drop n xs) ≡ drop (n + m) xs
beyond n m xs = grind (arith, common_steps)

module _ (settings : CodecSettings) where
  goes_from : (s j : DecodeState) (bs : List ℕ) (place n : ℕ) (x : Option Item) → transition settings s (drop place bs) ≡ go x j n
      → GoesOn (codec_at settings s (drop place bs)) x (codec_at settings j (drop (place + n) bs))
  goes_from s j bs place n x e = (j, n, e, ap (codec_at settings j) (beyond place n bs))

  -- a transition that tells nothing is one more of them
  pub one_more_silent : (a : At) (s j : DecodeState) (bs : List ℕ) (place n : ℕ) → GoesSilently a (codec_at settings s (drop place bs)) → transition settings s (drop place bs) ≡ go None j n
      → GoesSilently a (codec_at settings j (drop (place + n) bs))
  one_more_silent a s j bs place n silent e =
      (suc silent.0, silent_more silent.0 a (codec_at settings s (drop place bs)) (codec_at settings j (drop (place + n) bs)) silent.1 (goes_from s j bs place n None e))

  -- one that tells an item is the last
  pub comes_with_item : (a : At) (s j : DecodeState) (bs : List ℕ) (place n : ℕ) (x : Item) → GoesSilently a (codec_at settings s (drop place bs)) → transition settings s (drop place bs) ≡ go (Some x) j n
      → ComesTo a (Some x) (codec_at settings j (drop (place + n) bs))
  comes_with_item a s j bs place n x silent e = (codec_at settings s (drop place bs), silent, goes_from s j bs place n (Some x) e)

  -- what is left at a stop
  left_at_stop : (s : DecodeState) (bs : List ℕ) (place : ℕ) (to : DecodeState × ℕ) → to ≡ (without_needed s (length bs - place), unneeded s (length bs - place))
      → without_unneeded (codec_at settings s (drop place bs)) ≡ codec_at settings to.0 (drop (place + to.1) bs)
  left_at_stop s bs place to gives =
      let here = drop place bs in
      let size : length here ≡ length bs - place = length-drop place bs in
      let state : without_needed s (length here) ≡ to.0 = ap (without_needed s) size ∙ sym (ap (λ t. t.0) gives) in
      let count : unneeded s (length here) ≡ to.1 = ap (unneeded s) size ∙ sym (ap (λ t. t.1) gives) in
      ap (λ i. codec_at settings i (drop (unneeded s (length here)) here)) state
      ∙ ap (λ n. codec_at settings to.0 (drop n here)) count
      ∙ ap (codec_at settings to.0) (beyond place to.1 bs)

  -- one that stops is the last
  pub comes_to_stop : (a : At) (s : DecodeState) (bs : List ℕ) (place : ℕ) (to : DecodeState × ℕ) → GoesSilently a (codec_at settings s (drop place bs)) → transition settings s (drop place bs) ≡ stop
      → to ≡ (without_needed s (length bs - place), unneeded s (length bs - place)) → ComesTo a None (codec_at settings to.0 (drop (place + to.1) bs))
  comes_to_stop a s bs place to silent e gives = (codec_at settings s (drop place bs), silent, (subst GoesNowhere (sym e) tt, left_at_stop s bs place to gives))

  nothing_unneeded : (s : DecodeState) (h : List ℕ) → transition settings s h ≡ unfinished → without_unneeded (codec_at settings s h) ≡ codec_at settings s h
  nothing_unneeded Frame h e = refl
  nothing_unneeded Search h e = absurd (search_not_unfinished settings h e)
  nothing_unneeded (Body n) h e = refl
  nothing_unneeded (Skip n) h e = absurd (skip_not_unfinished settings n h e)

  -- so is one that finds the input unfinished
  pub comes_unfinished : (a : At) (s : DecodeState) (h : List ℕ) → GoesSilently a (codec_at settings s h) → transition settings s h ≡ unfinished → ComesTo a None (codec_at settings s h)
  comes_unfinished a s h silent e = (codec_at settings s h, silent, ((waits_unfinished settings s h e).0, nothing_unneeded s h e))
