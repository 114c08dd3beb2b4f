-- The works fit the life, whatever is done.
use Rattle.std.proofs.Common.{◌≡◌, ℕ, ◌-◌, ◌≤◌, List, [], ◌∷◌, ◌++◌, length, take, drop, map, refl, sym, ◌∙◌, ap, subst, arith, append_assoc, take-append-drop, length-append, Bool, true, false, cond, not, true≢false}
use Rattle.std.specs.Prelude.{filter, Option, Some, None, Result, Ok, Err, if◌then◌else◌, nat_lt, ◌||◌}
use Rattle.std.specs.List.{list_any}
use Rattle.std.proofs.lemmas.List.{length-map}
use Rattle.std.proofs.lemmas.List.Elements.{filter-append}
use Rattle.std.proofs.lemmas.List.Folds.{list_any-append}
use Rattle.std.proofs.lemmas.Grind.{common_steps}
use Rattle.std.proofs.lemmas.Bool.{lt-ltb}
use Rattle.serde_json.specs.Data.{Data}
use Rattle.lsp_rpc.specs.Message.{IdData, ErrorData}
use Rattle.lsp_rpc.specs.Ids.{same_id}
use Rattle.lsp_desk.specs.declared.life.Life.{Life}
use Rattle.lsp_desk.specs.declared.life.Life.TheVariants.{Uninitialized, Initializing, Initialized, ShutDown, Exited}
use Rattle.lsp_desk.proofs.TraceLemmas.{life_along}
use Rattle.lsp_session.specs.declared.life_check.LifeChange.TheVariants.{Stays, Falls}
use Rattle.lsp_session.specs.Semantics.{Done}
use Rattle.lsp_session.specs.Admission.{is_live, cancel_change}
use Rattle.lsp_session.specs.State.{Work, with_id, ids_of, is_of, without_request, initializes, marked, moved_slots, moved_queue, WorksFit}
use Rattle.lsp_session.specs.Run.{changing, poll_change, end_change}
use Rattle.lsp_session.proofs.WorkLemmas.{ids_mid, ids_out, ids_moved, slots_if, queue_if}

-- ---- lists

pub or_none : (a b : Bool) → (a || b) ≡ false → (a ≡ false) × (b ≡ false)
or_none false b h = (refl, h)
or_none true b h = absurd (cc)

pub none_both : (a b : Bool) → a ≡ false → b ≡ false → (a || b) ≡ false
none_both false b h k = k
none_both true b h k = absurd (cc)

module _ {A : Type 0} where
  pub any_mid : (p : A → Bool) (before : List A) (w w2 : A) (after : List A) → p w2 ≡ p w → list_any p (before ++ w2 ∷ after) ≡ list_any p (before ++ w ∷ after)
  any_mid p [] w w2 after e = ap (λ b. b || list_any p after) e
  any_mid p (x ∷ before) w w2 after e = ap (λ b. p x || b) (any_mid p before w w2 after e)

  pub none_out : (p : A → Bool) (before : List A) (w : A) (after : List A) → list_any p (before ++ w ∷ after) ≡ false → list_any p (before ++ after) ≡ false
  none_out p [] w after h = (or_none (p w) (list_any p after) h).1
  none_out p (x ∷ before) w after h = let k = or_none (p x) (list_any p (before ++ w ∷ after)) h in none_both (p x) _ k.0 (none_out p before w after k.1)

  none_filtered : (p q : A → Bool) (xs : List A) → list_any p xs ≡ false → list_any p (filter q xs) ≡ false
  none_filtered p q [] h = refl
  none_filtered p q (x ∷ xs) h = let k = or_none (p x) (list_any p xs) h in at (q x) k.0 (none_filtered p q xs k.1)
    where
      at : (b : Bool) → p x ≡ false → list_any p (filter q xs) ≡ false → list_any p (cond b (x ∷ filter q xs) (filter q xs)) ≡ false
      at true h k = none_both (p x) _ h k
      at false h k = k

  pub filter_none : (p : A → Bool) (xs : List A) → list_any p xs ≡ false → filter p xs ≡ []
  filter_none p [] h = refl
  filter_none p (x ∷ xs) h = let k = or_none (p x) (list_any p xs) h in ap (λ (b : Bool). cond b (x ∷ filter p xs) (filter p xs)) k.0 ∙ filter_none p xs k.1

  same_mid : (before : List A) (w w2 : A) (after : List A) → length (before ++ w2 ∷ after) ≡ length (before ++ w ∷ after)
  same_mid before w w2 after = length-append before (w2 ∷ after) ∙ sym (length-append before (w ∷ after))

  pub no_length : (xs : List A) → length xs ≡ 0 → xs ≡ []
  no_length [] h = refl
  no_length (x ∷ xs) h = absurd (omega (arith, h))

  some_mid : (before : List A) (w : A) (after : List A) → 1 ≤ length (before ++ w ∷ after)
  some_mid before w after = rw length-append (omega arith)

-- ---- works that move up

module _ {C T : Type 0} where
  any_marked : (ws : List (Work C T)) → list_any initializes (map marked ws) ≡ list_any initializes ws
  any_marked [] = refl
  any_marked (w ∷ ws) = ap (λ b. initializes w || b) (any_marked ws)

  any_moved : (max : ℕ) (slots queue : List (Work C T)) → list_any initializes (moved_slots max slots queue ++ moved_queue max slots queue) ≡ list_any initializes (slots ++ queue)
  any_moved max slots queue =
      let n = max - length slots in
      let up = map marked (take n queue) in
      list_any-append initializes (slots ++ up) (drop n queue)
      ∙ ap (λ b. b || list_any initializes (drop n queue)) (list_any-append initializes slots up ∙ ap (λ b. list_any initializes slots || b) (any_marked (take n queue)) ∙ sym (list_any-append initializes slots (take n queue)))
      ∙ sym (list_any-append initializes (slots ++ take n queue) (drop n queue))
      ∙ ap (list_any initializes) (append_assoc slots (take n queue) (drop n queue) ∙ ap (λ l. slots ++ l) (take-append-drop n queue))

module _ (C T : Type 0) where
  moved_none : (max : ℕ) → (moved_slots {C = C} {T = T} max [] [] ≡ []) × (moved_queue {C = C} {T = T} max [] [] ≡ [])
  moved_none max = (grind (arith, common_steps), grind (arith, common_steps))

  empty_fits : (max : ℕ) → WorksFit Uninitialized (moved_slots {C = C} {T = T} max [] []) (moved_queue {C = C} {T = T} max [] [])
  empty_fits max = (ap length (moved_none max).0, ap length (moved_none max).1)

  empty_fits_initialized : (max : ℕ) → WorksFit Initialized (moved_slots {C = C} {T = T} max [] []) (moved_queue {C = C} {T = T} max [] [])
  empty_fits_initialized max = any_moved {C = C} {T = T} max [] []

-- ---- a poll

ids_fewer : (a : List IdData) (id : Option IdData) (b : List IdData) → length (a ++ with_id id b) ≡ 0 → length (a ++ b) ≡ 0
ids_fewer a None b h = h
ids_fewer a (Some i) b h = absurd (let n = length-append a (i ∷ b) in omega (arith, h, n))

module _ {C T : Type 0} where
  -- a work that goes on keeps its id and its entry
  pub held_fits : (life : Life) (before : List (Work C T)) (w w2 : Work C T) (after queue : List (Work C T)) → w2.id ≡ w.id → initializes w2 ≡ initializes w
      → WorksFit life (before ++ w ∷ after) queue → WorksFit life (before ++ w2 ∷ after) queue
  held_fits Uninitialized before w w2 after queue i e p = (same_mid before w w2 after ∙ p.0, p.1)
  held_fits Initializing before w w2 after queue i e p = (same_mid before w w2 after ∙ p.0, (p.1.0, any_mid initializes before w w2 after e ∙ p.1.1))
  held_fits Initialized before w w2 after queue i e p = list_any-append initializes (before ++ w2 ∷ after) queue ∙ ap (λ b. b || list_any initializes queue) (any_mid initializes before w w2 after e) ∙ sym (list_any-append initializes (before ++ w ∷ after) queue) ∙ p
  held_fits ShutDown before w w2 after queue i e p = list_any-append initializes (before ++ w2 ∷ after) queue ∙ ap (λ b. b || list_any initializes queue) (any_mid initializes before w w2 after e) ∙ sym (list_any-append initializes (before ++ w ∷ after) queue) ∙ p
  held_fits Exited before w w2 after queue i e p =
      ap length (ids_mid before w2 after queue ∙ ap (λ id. ids_of before ++ with_id id (ids_of (after ++ queue))) i ∙ sym (ids_mid before w after queue)) ∙ p

  none_left : (max : ℕ) (before : List (Work C T)) (w : Work C T) (after queue : List (Work C T)) → list_any initializes ((before ++ w ∷ after) ++ queue) ≡ false
      → list_any initializes (moved_slots max (before ++ after) queue ++ moved_queue max (before ++ after) queue) ≡ false
  none_left max before w after queue p =
      any_moved max (before ++ after) queue ∙ ap (list_any initializes) (append_assoc before after queue)
      ∙ none_out initializes before w (after ++ queue) (ap (list_any initializes) (sym (append_assoc before (w ∷ after) queue)) ∙ p)

  -- the one work, an `initialize`, has ended
  ended_first : (max : ℕ) (w : Work C T) (outcome : Result Data ErrorData) → initializes w ≡ true
      → WorksFit (life_along Initializing (changing (poll_change {T = T} Initializing w.entry.layer (Done outcome)))) (moved_slots {C = C} {T = T} max [] []) (moved_queue max [] [])
  ended_first max w (Ok v) h = subst (λ (b : Bool). WorksFit (life_along Initializing (changing (if b then end_change {T = T} (Done (Ok v)) else Stays))) (moved_slots {C = C} {T = T} max [] []) (moved_queue max [] [])) (sym h) (empty_fits_initialized C T max)
  ended_first max w (Err e) h = subst (λ (b : Bool). WorksFit (life_along Initializing (changing (if b then end_change {T = T} (Done (Err e)) else Stays))) (moved_slots {C = C} {T = T} max [] []) (moved_queue max [] [])) (sym h) (empty_fits C T max)

  one_first : (max : ℕ) (before : List (Work C T)) (w : Work C T) (after queue : List (Work C T)) (outcome : Result Data ErrorData) → length (before ++ w ∷ after) ≡ 1 → length queue ≡ 0 → list_any initializes (before ++ w ∷ after) ≡ true
      → WorksFit (life_along Initializing (changing (poll_change {T = T} Initializing w.entry.layer (Done outcome)))) (moved_slots max (before ++ after) queue) (moved_queue max (before ++ after) queue)
  one_first max [] w [] [] outcome n m h = ended_first max w outcome (at (initializes w) h)
    where
      at : (b : Bool) → (b || false) ≡ true → b ≡ true
      at true k = refl
      at false k = k
  one_first max [] w [] (x ∷ queue) outcome n m h = absurd (omega (arith, m))
  one_first max [] w (x ∷ after) queue outcome n m h = absurd (omega (arith, n))
  one_first max (b ∷ before) w after queue outcome n m h = absurd (let k = some_mid before w after in omega (arith, n, k))

  -- a work that has ended leaves its slot
  pub ended_fits : (life : Life) (max : ℕ) (before : List (Work C T)) (w : Work C T) (after queue : List (Work C T)) (outcome : Result Data ErrorData) → WorksFit life (before ++ w ∷ after) queue
      → WorksFit (life_along life (changing (poll_change {T = T} life w.entry.layer (Done outcome)))) (moved_slots max (before ++ after) queue) (moved_queue max (before ++ after) queue)
  ended_fits Uninitialized max before w after queue outcome p = absurd (let k = some_mid before w after in omega (arith, p.0, k))
  ended_fits Initializing max before w after queue outcome p = one_first max before w after queue outcome p.0 p.1.0 p.1.1
  ended_fits Initialized max before w after queue outcome p = none_left max before w after queue p
  ended_fits ShutDown max before w after queue outcome p = none_left max before w after queue p
  ended_fits Exited max before w after queue outcome p =
      ap length (ids_moved max (before ++ after) queue ∙ ids_out before after queue)
      ∙ ids_fewer (ids_of before) w.id (ids_of (after ++ queue)) (ap length (sym (ids_mid before w after queue)) ∙ p)

-- ---- a cancel

none_live : {A : Type 0} (i : IdData) (ids : List IdData) → length ids ≡ 0 → is_live i ids ≡ true → A
none_live i [] h l = absurd (true≢false (sym l))
none_live i (j ∷ ids) h l = absurd (omega (arith, h))

module _ {C T : Type 0} where
  cancelled_one : (max : ℕ) (i : IdData) (w : Work C T) (id : Option IdData) → is_live i (with_id id []) ≡ true → initializes w ≡ true
      → WorksFit (life_along Initializing (changing (cancel_change (with_id id []) i))) (moved_slots {C = C} {T = T} max (cond (not (is_of i id)) (w ∷ []) []) []) (moved_queue {C = C} {T = T} max (cond (not (is_of i id)) (w ∷ []) []) [])
  cancelled_one max i w None l h = absurd (true≢false (sym l))
  cancelled_one max i w (Some j) l h = at (same_id i j) l
    where
      at : (b : Bool) → (b || false) ≡ true → WorksFit (life_along Initializing (changing (if b || false then Falls else Stays))) (moved_slots {C = C} {T = T} max (cond (not b) (w ∷ []) []) []) (moved_queue {C = C} {T = T} max (cond (not b) (w ∷ []) []) [])
      at true k = empty_fits C T max
      at false k = absurd (true≢false (sym k))

  cancelled_first : (max : ℕ) (i : IdData) (slots queue : List (Work C T)) → length slots ≡ 1 → length queue ≡ 0 → list_any initializes slots ≡ true → is_live i (ids_of (slots ++ queue)) ≡ true
      → WorksFit (life_along Initializing (changing (cancel_change (ids_of (filter initializes (slots ++ queue))) i))) (moved_slots max (without_request i slots) (without_request i queue)) (moved_queue max (without_request i slots) (without_request i queue))
  cancelled_first max i [] queue n m h l = absurd (omega (arith, n))
  cancelled_first max i (w ∷ []) [] n m h l = at (initializes w) refl h
    where
      at : (b : Bool) → initializes w ≡ b → (b || false) ≡ true
          → WorksFit (life_along Initializing (changing (cancel_change (ids_of (cond b (w ∷ []) [])) i))) (moved_slots {C = C} {T = T} max (cond (not (is_of i w.id)) (w ∷ []) []) []) (moved_queue {C = C} {T = T} max (cond (not (is_of i w.id)) (w ∷ []) []) [])
      at true e k = cancelled_one max i w w.id l e
      at false e k = absurd (true≢false (sym k))
  cancelled_first max i (w ∷ []) (x ∷ queue) n m h l = absurd (omega (arith, m))
  cancelled_first max i (w ∷ v ∷ slots) queue n m h l = absurd (omega (arith, n))

  without_none : (max : ℕ) (i : IdData) (slots queue : List (Work C T)) → list_any initializes (slots ++ queue) ≡ false
      → list_any initializes (moved_slots max (without_request i slots) (without_request i queue) ++ moved_queue max (without_request i slots) (without_request i queue)) ≡ false
  without_none max i slots queue p =
      any_moved max (without_request i slots) (without_request i queue)
      ∙ ap (list_any initializes) (sym (filter-append (λ (w : Work C T). not (is_of i w.id)) slots queue))
      ∙ none_filtered initializes (λ w. not (is_of i w.id)) (slots ++ queue) p

  -- where no work is an `initialize`, a cancel leaves the life
  stays_there : (life : Life) (i : IdData) (works : List (Work C T)) → list_any initializes works ≡ false → life_along life (changing (cancel_change (ids_of (filter initializes works)) i)) ≡ life
  stays_there life i works p = ap (λ (ws : List (Work C T)). life_along life (changing (cancel_change (ids_of ws) i))) (filter_none initializes works p)

  pub cancelled_fits : (life : Life) (max : ℕ) (i : IdData) (slots queue : List (Work C T)) → is_live i (ids_of (slots ++ queue)) ≡ true → WorksFit life slots queue
      → WorksFit (life_along life (changing (cancel_change (ids_of (filter initializes (slots ++ queue))) i))) (moved_slots max (without_request i slots) (without_request i queue)) (moved_queue max (without_request i slots) (without_request i queue))
  cancelled_fits Uninitialized max i slots queue l p =
      let none : slots ++ queue ≡ [] = ap (λ s. s ++ queue) (no_length slots p.0) ∙ no_length queue p.1 in
      none_live i (ids_of (slots ++ queue)) (ap (λ (ws : List (Work C T)). length (ids_of ws)) none) l
  cancelled_fits Initializing max i slots queue l p = cancelled_first max i slots queue p.0 p.1.0 p.1.1 l
  cancelled_fits Initialized max i slots queue l p =
      subst (λ life. WorksFit life (moved_slots max (without_request i slots) (without_request i queue)) (moved_queue max (without_request i slots) (without_request i queue))) (sym (stays_there Initialized i (slots ++ queue) p)) (without_none max i slots queue p)
  cancelled_fits ShutDown max i slots queue l p =
      subst (λ life. WorksFit life (moved_slots max (without_request i slots) (without_request i queue)) (moved_queue max (without_request i slots) (without_request i queue))) (sym (stays_there ShutDown i (slots ++ queue) p)) (without_none max i slots queue p)
  cancelled_fits Exited max i slots queue l p = none_live i (ids_of (slots ++ queue)) p l

-- ---- a call that begins

module _ {C T : Type 0} where
  -- an `initialize` is the one work
  pub opened_fits : (max : ℕ) (slots queue : List (Work C T)) (w : Work C T) → 1 ≤ max → initializes w ≡ true → WorksFit Uninitialized slots queue
      → WorksFit Initializing (slots_if (nat_lt (length slots) max) slots w) (queue_if (nat_lt (length slots) max) queue w)
  opened_fits max [] [] w some h p =
      let room : nat_lt 0 max ≡ true = lt-ltb 0 max (omega (arith, some)) in
      subst (λ (b : Bool). WorksFit Initializing (slots_if b [] w) (queue_if b [] w)) (sym room) (refl, (refl, ap (λ b. b || false) h))
  opened_fits max (x ∷ slots) queue w some h p = absurd (omega (arith, p.0))
  opened_fits max [] (x ∷ queue) w some h p = absurd (omega (arith, p.1))

  -- any other call leaves none that is an `initialize`
  pub begun_fits : (b : Bool) (slots queue : List (Work C T)) (w : Work C T) → initializes w ≡ false → list_any initializes (slots ++ queue) ≡ false
      → list_any initializes (slots_if b slots w ++ queue_if b queue w) ≡ false
  begun_fits true slots queue w h p =
      let parts = or_none (list_any initializes slots) (list_any initializes queue) (sym (list_any-append initializes slots queue) ∙ p) in
      list_any-append initializes (slots ++ w ∷ []) queue
      ∙ none_both (list_any initializes (slots ++ w ∷ [])) _ (list_any-append initializes slots (w ∷ []) ∙ none_both (list_any initializes slots) _ parts.0 (none_both (initializes w) false h refl)) parts.1
  begun_fits false slots queue w h p =
      ap (list_any initializes) (sym (append_assoc slots queue (w ∷ [])))
      ∙ list_any-append initializes (slots ++ queue) (w ∷ []) ∙ none_both (list_any initializes (slots ++ queue)) _ p (none_both (initializes w) false h refl)

-- ---- marks for a round

module _ {C T : Type 0} where
  pub marked_fits : (life : Life) (slots queue : List (Work C T)) → WorksFit life slots queue → WorksFit life (map marked slots) queue
  marked_fits Uninitialized slots queue p = (length-map slots marked ∙ p.0, p.1)
  marked_fits Initializing slots queue p = (length-map slots marked ∙ p.0, (p.1.0, any_marked slots ∙ p.1.1))
  marked_fits Initialized slots queue p = marked_none slots queue p
    where
      marked_none : (slots queue : List (Work C T)) → list_any initializes (slots ++ queue) ≡ false → list_any initializes (map marked slots ++ queue) ≡ false
      marked_none slots queue p = list_any-append initializes (map marked slots) queue ∙ ap (λ b. b || list_any initializes queue) (any_marked slots) ∙ sym (list_any-append initializes slots queue) ∙ p
  marked_fits ShutDown slots queue p = list_any-append initializes (map marked slots) queue ∙ ap (λ b. b || list_any initializes queue) (any_marked slots) ∙ sym (list_any-append initializes slots queue) ∙ p
  marked_fits Exited slots queue p = ap length (ids_marked slots) ∙ p
    where
      ids_marked : (slots : List (Work C T)) → ids_of (map marked slots ++ queue) ≡ ids_of (slots ++ queue)
      ids_marked [] = refl
      ids_marked (w ∷ slots) = ap (with_id w.id) (ids_marked slots)
