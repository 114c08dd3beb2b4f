-- A search without success needs no more than the last 13 bytes, with which its text may begin.
use Rattle.std.proofs.Common.{◌≡◌, ℕ, zero, suc, ◌+◌, ◌-◌, ◌<◌, ◌≤◌, ◌⊎◌, inl, inr, List, [], ◌∷◌, ◌++◌, length, drop, Bool, true, false, nat_eq, nat_lt, cond, Option, Some, None, option_map, codes, refl, sym, ap, ◌∙◌, subst, arith, length-drop, length-append, append-nil}
use Rattle.std.proofs.lemmas.Grind.{common_steps}
use Rattle.std.specs.List.{starts_with}
use Rattle.lsp_frame.specs.Transitions.{Item, Transition, stop, unfinished, go, transition, at_place, first_place}
use Rattle.lsp_frame.specs.Items.{all_from, items_after, GoesNowhere, IsTrimmed}
use Rattle.lsp_frame.specs.Kept.{unneeded, without_needed}
use Rattle.lsp_frame.proofs.TransitionSteady.{front_decided, found_fits}
use Rattle.lsp_frame.proofs.ItemsByTransition.{all_from-transition, none_at_stop}
use Rattle.lsp_frame.specs.declared.settings.CodecSettings.{CodecSettings}
use Rattle.lsp_frame.specs.declared.decode_state.DecodeState.{DecodeState}
use Rattle.lsp_frame.specs.declared.decode_state.DecodeState.TheVariants.{Frame, Search, Body, Skip}

abbrev IsNowhere : Option ℕ → Type 0
IsNowhere o = o ≡ None

later_by : (r k : ℕ) → suc (k + r) ≡ suc k + r
later_by r k = omega arith

map_later : (o : Option ℕ) (k : ℕ) → option_map suc (option_map (λ r. k + r) o) ≡ option_map (λ r. suc k + r) o
map_later None k = refl
map_later (Some r) k = ap Some (later_by r k)

map_zero : (o : Option ℕ) → o ≡ option_map (λ r. 0 + r) o
map_zero None = refl
map_zero (Some r) = let e : r ≡ 0 + r = omega arith in ap Some e

abbrev Later : List ℕ → ℕ → List ℕ → List ℕ → Type 0
Later needle k bs c = IsNowhere (first_place needle bs) → first_place needle (bs ++ c) ≡ option_map (λ r. k + r) (first_place needle (drop k bs ++ c))

-- the front of bytes in which the text stands nowhere may be dropped before others are appended
first_place-drop : (needle : List ℕ) → 0 < length needle → (k : ℕ) (bs c : List ℕ) → k + length needle ≤ suc (length bs) → Later needle k bs c
first_place-drop needle some zero bs c fits none = map_zero (first_place needle (bs ++ c))
first_place-drop needle some (suc k) [] c fits none = absurd (omega arith)
first_place-drop needle some (suc k) (x ∷ bs) c fits none = at (starts_with nat_eq (x ∷ bs) needle) refl (first_place-drop needle some k bs c (omega arith)) none
  where
    nowhere : (o : Option ℕ) → IsNowhere (option_map suc o) → IsNowhere o
    nowhere None e = refl
    nowhere (Some r) e = let f : IsNowhere (Some (suc r)) = e in absurd cc

    at : (b : Bool) → starts_with nat_eq (x ∷ bs) needle ≡ b → Later needle k bs c → IsNowhere (cond b (Some 0) (option_map suc (first_place needle bs)))
        → cond (starts_with nat_eq (x ∷ (bs ++ c)) needle) (Some 0) (option_map suc (first_place needle (bs ++ c))) ≡ option_map (λ r. suc k + r) (first_place needle (drop k bs ++ c))
    at true h later e = let f : IsNowhere (Some 0) = e in absurd cc
    at false h later e =
        rw (front_decided needle (x ∷ bs) c (omega arith) ∙ h)
        (ap (option_map suc) (later (nowhere (first_place needle bs) e)) ∙ map_later (first_place needle (drop k bs ++ c)) k)

-- ---- the items

abbrev Stops : Transition → Type 0
Stops t = t ≡ stop

nowhere_at_stop : (o : Option ℕ) → Stops (at_place o) → IsNowhere o
nowhere_at_stop None e = refl
nowhere_at_stop (Some r) e = let f : Stops (go None Frame r) = e in absurd cc

front_dropped : (k : ℕ) (h c : List ℕ) → k ≤ length h → drop k (h ++ c) ≡ drop k h ++ c
front_dropped k h c fits = grind (arith, common_steps)

twice : (k r : ℕ) (xs : List ℕ) → drop (k + r) xs ≡ drop r (drop k xs)
twice k r xs = grind (arith, common_steps)

dropped : (k r : ℕ) (h c : List ℕ) → k ≤ length h → drop (k + r) (h ++ c) ≡ drop r (drop k h ++ c)
dropped k r h c fits = twice k r (h ++ c) ∙ ap (drop r) (front_dropped k h c fits)

-- the text that stands nowhere in some bytes stands nowhere in their end
nowhere_later : (o : Option ℕ) (k : ℕ) → IsNowhere (option_map (λ r. k + r) o) → IsNowhere o
nowhere_later None k e = refl
nowhere_later (Some r) k e = let f : IsNowhere (Some (k + r)) = e in absurd cc

short_nowhere : (bs : List ℕ) → length bs ≤ 13 → IsNowhere (first_place (codes "Content-Length") bs)
short_nowhere bs short = at (first_place (codes "Content-Length") bs) refl
  where
    at : (o : Option ℕ) → first_place (codes "Content-Length") bs ≡ o → IsNowhere o
    at None e = refl
    at (Some r) e = absurd (omega (arith, short, found_fits (codes "Content-Length") bs r e))

stops_from : (o : Option ℕ) → IsNowhere o → Stops (at_place o)
stops_from None e = refl
stops_from (Some r) e = let f : IsNowhere (Some r) = e in absurd cc

module _ (settings : CodecSettings) where
  search_from : (last : List Item) (k : ℕ) (h c : List ℕ) (o : Option ℕ) → k ≤ length h
      → items_after (λ j d. all_from settings last j (drop d (h ++ c))) last (at_place (option_map (λ r. k + r) o))
      ≡ items_after (λ j d. all_from settings last j (drop d (drop k h ++ c))) last (at_place o)
  search_from last k h c None fits = refl
  search_from last k h c (Some r) fits = ap (all_from settings last Frame) (dropped k r h c fits)

  search_drop : (last : List Item) (k : ℕ) (h c : List ℕ) → transition settings Search h ≡ stop → (k ≡ 0) ⊎ (k + 13 ≤ length h)
      → all_from settings last Search (h ++ c) ≡ all_from settings last Search (drop k h ++ c)
  search_drop last k h c e (inl none) = rw none refl
  search_drop last k h c e (inr fits) =
      let none = nowhere_at_stop (first_place (codes "Content-Length") h) e in
      all_from-transition settings last Search (h ++ c)
      ∙ ap (λ o. items_after (λ j d. all_from settings last j (drop d (h ++ c))) last (at_place o)) (first_place-drop (codes "Content-Length") (omega arith) k h c (omega arith) none)
      ∙ search_from last k h c (first_place (codes "Content-Length") (drop k h ++ c)) (omega arith)
      ∙ sym (all_from-transition settings last Search (drop k h ++ c))

  search_kept : (len : ℕ) → (len - 13 ≡ 0) ⊎ (len - 13 + 13 ≤ len)
  search_kept len = nat_cases (nat_lt len 13) refl
    where
      nat_cases : (b : Bool) → nat_lt len 13 ≡ b → (len - 13 ≡ 0) ⊎ (len - 13 + 13 ≤ len)
      nat_cases true e = inl (grind arith)
      nat_cases false e = inr (grind arith)

  -- ---- a skip

  skip_short : (n : ℕ) (h : List ℕ) → transition settings (Skip n) h ≡ stop → length h < n
  skip_short n h e = short (nat_lt (length h) n) refl e
    where
      short : (b : Bool) → nat_lt (length h) n ≡ b → Stops (cond b stop (go None Frame n)) → length h < n
      short true f e = grind arith
      short false f e = let g : Stops (go None Frame n) = e in absurd cc

  skip_goes : (n : ℕ) (h c : List ℕ) (b : Bool) → length h < n → nat_lt (length c) (n - length h) ≡ b → nat_lt (length (h ++ c)) n ≡ b
  skip_goes n h c true short e = grind (arith, length-append h c)
  skip_goes n h c false short e = grind (arith, length-append h c)

  drop_both : (n : ℕ) (h c : List ℕ) → length h < n → drop n (h ++ c) ≡ drop (n - length h) c
  drop_both n [] c short = ap (λ k. drop k c) (omega arith)
  drop_both zero (x ∷ h) c short = absurd (omega (arith, short))
  drop_both (suc n) (x ∷ h) c short = drop_both n h c (omega (arith, short)) ∙ ap (λ k. drop k c) (omega arith)

  skip_items : (last : List Item) (n : ℕ) (h c : List ℕ) (b : Bool) → length h < n
      → items_after (λ j d. all_from settings last j (drop d (h ++ c))) last (cond b stop (go None Frame n))
      ≡ items_after (λ j d. all_from settings last j (drop d c)) last (cond b stop (go None Frame (n - length h)))
  skip_items last n h c true short = refl
  skip_items last n h c false short = ap (all_from settings last Frame) (drop_both n h c short)

  skip_drop : (last : List Item) (n : ℕ) (h c : List ℕ) → length h < n → all_from settings last (Skip n) (h ++ c) ≡ all_from settings last (Skip (n - length h)) c
  skip_drop last n h c short =
      all_from-transition settings last (Skip n) (h ++ c)
      ∙ ap (λ b. items_after (λ j d. all_from settings last j (drop d (h ++ c))) last (cond b stop (go None Frame n))) (skip_goes n h c (nat_lt (length c) (n - length h)) short refl)
      ∙ skip_items last n h c (nat_lt (length c) (n - length h)) short
      ∙ sym (all_from-transition settings last (Skip (n - length h)) c)

  -- ---- where a state stops

  nothing_left : (h c : List ℕ) → drop (length h) h ++ c ≡ c
  nothing_left h c = grind (arith, common_steps)

  -- the items stay where a state that stops drops what it needs no more
  pub items_waiting : (s : DecodeState) (h : List ℕ) → transition settings s h ≡ stop → (last : List Item) (c : List ℕ)
      → all_from settings last s (h ++ c) ≡ all_from settings last (without_needed s (length h)) (drop (unneeded s (length h)) h ++ c)
  items_waiting Frame h e last c = refl
  items_waiting Search h e last c = search_drop last (length h - 13) h c e (search_kept (length h))
  items_waiting (Body n) h e last c = refl
  items_waiting (Skip n) h e last c = skip_drop last n h c (skip_short n h e) ∙ ap (all_from settings last (Skip (n - length h))) (sym (nothing_left h c))

  -- and there are none
  pub none_waiting : (s : DecodeState) (h : List ℕ) → transition settings s h ≡ stop → (last : List Item)
      → all_from settings last (without_needed s (length h)) (drop (unneeded s (length h)) h) ≡ []
  none_waiting s h e last =
      ap (all_from settings last (without_needed s (length h))) (sym (append-nil (drop (unneeded s (length h)) h)))
      ∙ sym (items_waiting s h e last [])
      ∙ ap (all_from settings last s) (append-nil h)
      ∙ none_at_stop settings last s h e

  few_left : (h : List ℕ) → length (drop (length h - 13) h) ≤ 13
  few_left h = omega (arith, length-drop (length h - 13) h)

  stands_at : (s : DecodeState) (bs : List ℕ) → transition settings s bs ≡ stop → GoesNowhere (transition settings s bs)
  stands_at s bs e = subst GoesNowhere (sym e) tt

  empty_skip : (n : ℕ) (bs : List ℕ) → bs ≡ [] → 0 < n → transition settings (Skip n) bs ≡ stop
  empty_skip n bs e some = let there : nat_lt 0 n ≡ true = grind arith in rw e (rw there refl)

  all_dropped : (h : List ℕ) → drop (length h) h ≡ []
  all_dropped h = grind (arith, common_steps)

  -- it waits there, with no more than it may need
  pub waits_there : (s : DecodeState) (h : List ℕ) → transition settings s h ≡ stop
      → GoesNowhere (transition settings (without_needed s (length h)) (drop (unneeded s (length h)) h)) × IsTrimmed (without_needed s (length h)) (drop (unneeded s (length h)) h)
  waits_there Frame h e = (stands_at Frame h e, tt)
  waits_there Search h e =
      let few = few_left h in
      (stands_at Search (drop (length h - 13) h) (stops_from (first_place (codes "Content-Length") (drop (length h - 13) h)) (short_nowhere (drop (length h - 13) h) few)), few)
  waits_there (Body n) h e = (stands_at (Body n) h e, tt)
  waits_there (Skip n) h e =
      let none = all_dropped h in
      let short = skip_short n h e in
      (stands_at (Skip (n - length h)) (drop (length h) h) (empty_skip (n - length h) (drop (length h) h) none (omega (arith, short))), none)

  -- ---- at a place of the bytes

  further : (n m : ℕ) (xs : List ℕ) → drop m (drop n xs) ≡ drop (n + m) xs
  further n m xs = grind (arith, common_steps)

  module _ (s : DecodeState) (bs : List ℕ) (place : ℕ) (is : transition settings s (drop place bs) ≡ stop) (fits : place ≤ length bs) (to : DecodeState × ℕ)
      (gives : to ≡ (without_needed s (length bs - place), unneeded s (length bs - place))) where
    size : length (drop place bs) ≡ length bs - place
    size = length-drop place bs

    to_state : to.0 ≡ without_needed s (length (drop place bs))
    to_state = ap (λ t. t.0) gives ∙ ap (without_needed s) (sym size)

    to_bytes : drop (place + to.1) bs ≡ drop (unneeded s (length (drop place bs))) (drop place bs)
    to_bytes = ap (λ n. drop (place + n) bs) (ap (λ t. t.1) gives ∙ ap (unneeded s) (sym size)) ∙ sym (further place (unneeded s (length (drop place bs))) bs)

    abbrev pub Here : Type 0
    Here = (last : List Item) (c : List ℕ) → all_from settings last s (drop place bs ++ c) ≡ all_from settings last to.0 (drop (place + to.1) bs ++ c)

    pub items_stopped : Here
    items_stopped last c = rw (to_state, to_bytes) (items_waiting s (drop place bs) is last c)

    pub none_stopped : (last : List Item) → all_from settings last to.0 (drop (place + to.1) bs) ≡ []
    none_stopped last = rw (to_state, to_bytes) (none_waiting s (drop place bs) is last)

    pub waits_stopped : GoesNowhere (transition settings to.0 (drop (place + to.1) bs)) × IsTrimmed to.0 (drop (place + to.1) bs)
    waits_stopped = rw (to_state, to_bytes) (waits_there s (drop place bs) is)

  -- ---- where the input is unfinished

  -- a search stops where it finds nothing
  pub search_not_unfinished : (h : List ℕ) → transition settings Search h ≡ unfinished → ⊥
  search_not_unfinished h e = ends (first_place (codes "Content-Length") h) e
    where
      ends : (o : Option ℕ) → let P : Transition → Type 0 = λ t. t ≡ unfinished in P (at_place o) → ⊥
      ends None e = absurd cc
      ends (Some r) e = absurd cc

  -- and so does a skip that is short of bytes
  pub skip_not_unfinished : (n : ℕ) (h : List ℕ) → transition settings (Skip n) h ≡ unfinished → ⊥
  skip_not_unfinished n h e = ends (nat_lt (length h) n) e
    where
      ends : (b : Bool) → let P : Transition → Type 0 = λ t. t ≡ unfinished in P (cond b stop (go None Frame n)) → ⊥
      ends true e = absurd cc
      ends false e = absurd cc

  pub waits_unfinished : (s : DecodeState) (h : List ℕ) → transition settings s h ≡ unfinished → GoesNowhere (transition settings s h) × IsTrimmed s h
  waits_unfinished Frame h e = (subst GoesNowhere (sym e) tt, tt)
  waits_unfinished Search h e = absurd (search_not_unfinished h e)
  waits_unfinished (Body n) h e = (subst GoesNowhere (sym e) tt, tt)
  waits_unfinished (Skip n) h e = absurd (skip_not_unfinished n h e)
