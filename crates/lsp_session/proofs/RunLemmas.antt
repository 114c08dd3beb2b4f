-- What holds over whole rounds and runs.
use Rattle.std.proofs.Common.{◌≡◌, ℕ, ◌+◌, ◌-◌, List, [], ◌∷◌, ◌++◌, length, take, map, append_assoc, take-append-drop, refl, sym, ◌∙◌, ap, subst, arith, Bool, true, false, true≢false, cond, not}
use Rattle.std.specs.Prelude.{Option, if◌then◌else◌, filter, ◌||◌, ◌&&◌, IsPermutation}
use Rattle.std.specs.List.{list_any}
use Rattle.std.proofs.lemmas.List.{append-nil, map-append}
use Rattle.std.proofs.lemmas.List.Folds.{list_any-append}
use Rattle.std.proofs.lemmas.List.Sorted.{IsPermutation-refl, IsPermutation-cons, IsPermutation-append_left, IsPermutation-middle, IsPermutation-trans}
use Rattle.lsp_rpc.specs.Message.{IdData, null_id, request, response}
use Rattle.lsp_rpc.specs.Ids.{same_id}
use Rattle.lsp_desk.specs.declared.life.Life.{Life}
use Rattle.lsp_desk.specs.declared.life.Life.TheVariants.{Uninitialized, Initializing, Initialized, ShutDown, Exited}
use Rattle.lsp_desk.specs.Lives.{is_exited}
use Rattle.lsp_desk.proofs.TraceLemmas.{makes_life}
use Rattle.lsp_session.specs.declared.table.Entry.{Entry}
use Rattle.lsp_session.specs.Item.{ItemData, message, fault, tick}
use Rattle.lsp_session.specs.Semantics.{Semantics, IsLawfulHandlers, Held, Progress, Pending, Done}
use Rattle.lsp_session.specs.Admission.{Verdict, Silence, is_live, quiet, cancels, cancel_live, cancel, by_layer, by_entry}
use Rattle.lsp_session.specs.State.{Work, State, Effect, live, initializing, opening_by, marked, dues, moved_slots, IsSettled, FitsLife, WorksFit}
use Rattle.lsp_session.specs.Run.{Applies, admission_of, reads_in, occasion, after_poll, Order, Poll, PollsAt, Picked, Step, Run, took, is_exit, is_exit_entry, has_exit}
use Rattle.lsp_session.specs.Count.{one_if, times_id, answers_to, faults}
use Rattle.lsp_session.specs.Laws.{FactsHold, AnsweredOnce, CancelledOnce, RoundsPollAll, is_fresh, polled_by}
use Rattle.lsp_session.proofs.FitLemmas.{or_none, none_both, none_out, no_length}
use Rattle.lsp_session.proofs.FactLemmas.{fits_opening, step_fits}
use Rattle.lsp_session.proofs.SoundLemmas.{run_sound}
use Rattle.lsp_session.proofs.CountLemmas.{run_counts, run_says, step_settled, step_table, polls_settled}
use Rattle.lsp_session.proofs.LifeLemmas.{rounds_exited, step_lives}
use Rattle.lsp_session.proofs.LawLemmas.{exits, admitted_out}
use Rattle.lsp_session.proofs.RoundLemmas.{dues-cons}
use Rattle.lsp_session.proofs.WorkLemmas.{cancelled_live, marked_settled}

-- ---- facts of runs

module _ {H C T : Type 0} where
  settled_opening : (service : H) (max wait : ℕ) (empty : Bool) → IsSettled (opening_by {C = C} {T = T} service max wait empty)
  settled_opening service max wait empty = record { ids_differ = tt; slots_few = omega arith; slots_full = λ some. absurd (omega (arith, some)) }

module _ {H C T : Type 0} (semantics : Semantics H C T) (laws : IsLawfulHandlers semantics) where
  module _ {P : Type 0} (order : Order P) (rounds : ℕ) where
    run_settled : (s s2 : Picked (State H semantics.Call semantics.Task) P) (items : List ItemData) (e : Effect) → IsSettled s.session → Run (Step semantics order rounds) s items e s2 → IsSettled s2.session
    run_settled s s2 [] e q h = subst (λ (x : Picked (State H semantics.Call semantics.Task) P). IsSettled x.session) (sym h.1) q
    run_settled s s2 (item ∷ items) e q h = run_settled h.0 s2 items h.2 (step_settled semantics order rounds s h.0 item h.1 q h.3) h.4

    run_fits : (s s2 : Picked (State H semantics.Call semantics.Task) P) (items : List ItemData) (e : Effect) → FitsLife s.session → Run (Step semantics order rounds) s items e s2 → FitsLife s2.session
    run_fits s s2 [] e q h = subst (λ (x : Picked (State H semantics.Call semantics.Task) P). FitsLife x.session) (sym h.1) q
    run_fits s s2 (item ∷ items) e q h = run_fits h.0 s2 items h.2 (step_fits semantics laws order rounds s h.0 item h.1 q h.3) h.4

    -- ---- after an exit

    exit_steps : (s s2 : Picked (State H semantics.Call semantics.Task) P) (item : ItemData) (e : Effect) → is_exit (semantics.find s.session.service) item ≡ true → Step semantics order rounds s item e s2
        → is_exited s2.session.desk.life ≡ true
    exit_steps s s2 item e is h =
        ap (λ (x : State H semantics.Call semantics.Task). is_exited x.desk.life) h.drains.leaves
        ∙ ap is_exited (makes_life h.polled.desk h.drains.desk (took h.drains.messages ∷ []) h.drains.trace h.drains.takes)
        ∙ (rounds_exited semantics laws order rounds h.admitted h.polled s.pick s2.pick h.second h.polls).1
        ∙ ap is_exited (exits semantics s.session h.admitted item h.first is h.admits).life

    end_stays : (s s2 : Picked (State H semantics.Call semantics.Task) P) (item : ItemData) (e : Effect) → is_exited s.session.desk.life ≡ true → Step semantics order rounds s item e s2 → is_exited s2.session.desk.life ≡ true
    end_stays s s2 item e ended h = at (is_exit (semantics.find s.session.service) item) refl
      where
        at : (b : Bool) → is_exit (semantics.find s.session.service) item ≡ b → is_exited s2.session.desk.life ≡ true
        at true is = exit_steps s s2 item e is h
        at false is = step_lives semantics laws order rounds s s2 item e is h ∙ ended

    run_stays : (s s2 : Picked (State H semantics.Call semantics.Task) P) (items : List ItemData) (e : Effect) → is_exited s.session.desk.life ≡ true → Run (Step semantics order rounds) s items e s2 → is_exited s2.session.desk.life ≡ true
    run_stays s s2 [] e q h = ap (λ (x : Picked (State H semantics.Call semantics.Task) P). is_exited x.session.desk.life) h.1 ∙ q
    run_stays s s2 (item ∷ items) e q h = run_stays h.0 s2 items h.2 (end_stays s h.0 item h.1 q h.3) h.4

    same_exit : (f g : List ℕ → Option Entry) (item : ItemData) → ((name : List ℕ) → f name ≡ g name) → is_exit f item ≡ is_exit g item
    same_exit f g (message (request r)) same = ap is_exit_entry (same r.method)
    same_exit f g (message (response r)) same = refl
    same_exit f g (fault code) same = refl
    same_exit f g tick same = refl

    same_exits : (f g : List ℕ → Option Entry) (items : List ItemData) → ((name : List ℕ) → f name ≡ g name) → has_exit f items ≡ has_exit g items
    same_exits f g [] same = refl
    same_exits f g (item ∷ items) same = ap (λ b. b || has_exit f items) (same_exit f g item same) ∙ ap (λ b. is_exit g item || b) (same_exits f g items same)

    run_exits : (s s2 : Picked (State H semantics.Call semantics.Task) P) (items : List ItemData) (e : Effect) → has_exit (semantics.find s.session.service) items ≡ true → Run (Step semantics order rounds) s items e s2 → is_exited s2.session.desk.life ≡ true
    run_exits s s2 [] e is h = absurd (true≢false (sym is))
    run_exits s s2 (item ∷ items) e is h = at (is_exit (semantics.find s.session.service) item) refl is (λ q. run_exits h.0 s2 items h.2 q h.4)
      where
        at : (b : Bool) → is_exit (semantics.find s.session.service) item ≡ b → (b || has_exit (semantics.find s.session.service) items) ≡ true
            → (has_exit (semantics.find h.0.session.service) items ≡ true → is_exited s2.session.desk.life ≡ true) → is_exited s2.session.desk.life ≡ true
        at true k q ih = run_stays h.0 s2 items h.2 (exit_steps s h.0 item h.1 k h.3) h.4
        at false k q ih = ih (same_exits (semantics.find h.0.session.service) (semantics.find s.session.service) items (λ name. step_table semantics laws name order rounds s h.0 item h.1 h.3) ∙ q)

  ended_none : (s : State H semantics.Call semantics.Task) → FitsLife s → is_exited s.desk.life ≡ true → live s ≡ []
  ended_none s p ended = at s.desk.life ended p.works_fit
    where
      at : (life : Life) → is_exited life ≡ true → WorksFit life s.slots s.queue → live s ≡ []
      at Uninitialized e w = absurd (true≢false (sym e))
      at Initializing e w = absurd (true≢false (sym e))
      at Initialized e w = absurd (true≢false (sym e))
      at ShutDown e w = absurd (true≢false (sym e))
      at Exited e w = no_length (live s) w

  pub facts : {P : Type 0} (order : Order P) → FactsHold semantics order
  facts order rounds service items e last h = (
    run_settled order rounds _ _ items e (settled_opening service h.max h.wait h.empty_params) h.runs,
    run_fits order rounds _ _ items e (fits_opening service h.max h.wait h.empty_params h.some) h.runs,
    λ none. run_sound semantics laws order rounds _ _ items e none tt h.runs,
  )

  pub answered : {P : Type 0} (order : Order P) → AnsweredOnce semantics order
  answered order = record {
    counts = λ rounds service items e last h. run_counts semantics order rounds laws (record { session = opening_by service h.max h.wait h.empty_params; pick = h.pick }) (record { session = last; pick = h.then }) items e (settled_opening service h.max h.wait h.empty_params) refl h.runs;
    after_exit = λ rounds service items e last h is. ended_none last (run_fits order rounds _ _ items e (fits_opening service h.max h.wait h.empty_params h.some) h.runs) (run_exits order rounds _ _ items e is h.runs);
  }

  -- ---- after a cancel

  none_live : (i : IdData) (ids : List IdData) → times_id i ids ≡ 0 → is_live i ids ≡ false
  none_live i [] h = refl
  none_live i (j ∷ ids) h = at (same_id i j) h (none_live i ids)
    where
      at : (b : Bool) → one_if b + times_id i ids ≡ 0 → (times_id i ids ≡ 0 → is_live i ids ≡ false) → (b || is_live i ids) ≡ false
      at true k ih = absurd (omega (arith, k))
      at false k ih = ih (omega (arith, k))

  live_none : (i : IdData) (ids : List IdData) → is_live i ids ≡ false → times_id i ids ≡ 0
  live_none i [] h = refl
  live_none i (j ∷ ids) h = at (same_id i j) h (live_none i ids)
    where
      at : (b : Bool) → (b || is_live i ids) ≡ false → (is_live i ids ≡ false → times_id i ids ≡ 0) → one_if b + times_id i ids ≡ 0
      at true k ih = absurd (true≢false k)
      at false k ih = omega (arith, ih k)

  taken_out : (i : IdData) (ids : List IdData) → is_live i (filter (λ j. not (same_id i j)) ids) ≡ false
  taken_out i [] = refl
  taken_out i (j ∷ ids) = at (same_id i j) refl (taken_out i ids)
    where
      at : (b : Bool) → same_id i j ≡ b → is_live i (filter (λ k. not (same_id i k)) ids) ≡ false → is_live i (cond (not b) (j ∷ filter (λ k. not (same_id i k)) ids) (filter (λ k. not (same_id i k)) ids)) ≡ false
      at true e ih = ih
      at false e ih = ap (λ b. b || is_live i (filter (λ k. not (same_id i k)) ids)) e ∙ ih

  pub cancelled : {P : Type 0} (order : Order P) → CancelledOnce semantics order
  cancelled order = record {
    cancels = λ s item i q is.
        ap (λ x. (admission_of semantics s x).verdict) q.item_is
        ∙ ap (λ x. (by_entry (occasion s) (reads_in semantics s) q.r x).verdict) q.found
        ∙ ap (λ x. (by_layer (occasion s) q.r q.entry (reads_in semantics s q.entry q.r.params) x).verdict) q.in_layer
        ∙ ap (λ x. (cancel {C = semantics.Call} (live s) (initializing s) x q.r.params).verdict) q.no_id
        ∙ ap (λ x. (cancel_live {C = semantics.Call} (live s) (initializing s) x).verdict) q.names
        ∙ ap (λ x. (if x then cancels {C = semantics.Call} (initializing s) i else quiet Silence).verdict) is;
    answered = λ s s2 item i e is h.
        let done = subst (λ (v : Verdict semantics.Call). Applies semantics h.mid v h.rest s2) is h.applies in
        admitted_out semantics s s2 _ e h ∙ ap (λ (x : Effect). x.out) done.0;
    gone = λ s s2 item i e q is h.
        let done = subst (λ (v : Verdict semantics.Call). Applies semantics h.mid v h.rest s2) is h.applies in
        ap (λ (x : State H semantics.Call semantics.Task). is_live i (live x)) done.1 ∙ ap (is_live i) (cancelled_live h.mid i) ∙ taken_out i (live h.mid);
    silent = λ rounds s s2 items i e q gone none real h.
        let says = run_says semantics order rounds laws i s s2 items e q h in
        let before : times_id i (live s.session) ≡ 0 = live_none i (live s.session) gone in
        let no_faults : (if same_id i null_id then faults items else 0) ≡ 0 = ap (λ (b : Bool). if b then faults items else 0) real in
        let all : answers_to i e.out + times_id i (live s2.session) ≡ 0 = omega (arith, says, before, none, no_faults) in
        (omega (arith, all), none_live i (live s2.session) (omega (arith, all)));
  }

-- ---- a round

module _ {C T : Type 0} where
  -- it was polled in this round, or is still to be
  abbrev untried : Work C T → Bool
  untried w = not w.due && is_fresh w.phase

  marked_tried : (ws : List (Work C T)) → list_any untried (map marked ws) ≡ false
  marked_tried [] = refl
  marked_tried (w ∷ ws) = marked_tried ws

  moved_tried : (max : ℕ) (slots queue : List (Work C T)) → list_any untried slots ≡ false → list_any untried (moved_slots max slots queue) ≡ false
  moved_tried max slots queue p = list_any-append untried slots (map marked (take (max - length slots) queue)) ∙ none_both (list_any untried slots) _ p (marked_tried (take (max - length slots) queue))

  -- where none is left to be polled, each was
  all_tried : (ws : List (Work C T)) → dues ws ≡ 0 → list_any untried ws ≡ false → list_any (λ w. is_fresh w.phase) ws ≡ false
  all_tried [] n p = refl
  all_tried (w ∷ ws) n p = at w.due n' p (all_tried ws)
    where
      n' : cond w.due 1 0 + dues ws ≡ 0
      n' = sym (dues-cons w ws) ∙ n

      at : (b : Bool) → cond b 1 0 + dues ws ≡ 0 → ((not b && is_fresh w.phase) || list_any untried ws) ≡ false → (dues ws ≡ 0 → list_any untried ws ≡ false → list_any (λ v. is_fresh v.phase) ws ≡ false)
          → (is_fresh w.phase || list_any (λ v. is_fresh v.phase) ws) ≡ false
      at true k q ih = absurd (omega (arith, k))
      at false k q ih = let parts = or_none (is_fresh w.phase) (list_any untried ws) q in none_both (is_fresh w.phase) _ parts.0 (ih (omega (arith, k)) parts.1)

-- one list is another in another order, and so are lists that are equal to these
permuted_as : {A : Type 0} (xs xs2 ys ys2 : List A) → xs2 ≡ xs → ys ≡ ys2 → IsPermutation xs ys → IsPermutation xs2 ys2
permuted_as xs xs2 ys ys2 p q h = subst (λ l. IsPermutation l ys2) (sym p) (subst (λ l. IsPermutation xs l) q h)

module _ {C T : Type 0} where
  -- those that are still to be polled
  abbrev due_of : List (Work C T) → List (Work C T)
  due_of ws = filter (λ w. w.due) ws

  due_of-append : (xs ys : List (Work C T)) → due_of (xs ++ ys) ≡ due_of xs ++ due_of ys
  due_of-append [] ys = refl
  due_of-append (x ∷ xs) ys = at x.due (due_of-append xs ys)
    where
      at : (b : Bool) → due_of (xs ++ ys) ≡ due_of xs ++ due_of ys → cond b (x ∷ due_of (xs ++ ys)) (due_of (xs ++ ys)) ≡ cond b (x ∷ due_of xs) (due_of xs) ++ due_of ys
      at true ih = ap (λ l. x ∷ l) ih
      at false ih = ih

  due_of-marked : (ws : List (Work C T)) → due_of (map marked ws) ≡ map marked ws
  due_of-marked [] = refl
  due_of-marked (w ∷ ws) = ap (λ l. marked w ∷ l) (due_of-marked ws)

  due_of-none : (ws : List (Work C T)) → dues ws ≡ 0 → due_of ws ≡ []
  due_of-none [] n = refl
  due_of-none (w ∷ ws) n = at w.due (sym (dues-cons w ws) ∙ n) (due_of-none ws)
    where
      at : (b : Bool) → cond b 1 0 + dues ws ≡ 0 → (dues ws ≡ 0 → due_of ws ≡ []) → cond b (w ∷ due_of ws) (due_of ws) ≡ []
      at true k ih = absurd (omega (arith, k))
      at false k ih = ih (omega (arith, k))

  due_of-mid : (before : List (Work C T)) (w : Work C T) (after : List (Work C T)) → w.due ≡ true → due_of (before ++ w ∷ after) ≡ due_of before ++ w ∷ due_of after
  due_of-mid before w after due = due_of-append before (w ∷ after) ∙ ap (λ (b : Bool). due_of before ++ cond b (w ∷ due_of after) (due_of after)) due

-- the calls that were polled, and those that are still to be, are those that were to be polled and those that came to a slot
record Each {H C T : Type 0} (s s2 : State H C T) (polled : List (Work C T)) : Type 0 where
  came : List (Work C T)
  waited : s.queue ≡ came ++ s2.queue
  once : IsPermutation (due_of s.slots ++ map marked came) (polled ++ due_of s2.slots)

each_on : {H C T : Type 0} (s mid s2 : State H C T) (w : Work C T) (polled : List (Work C T)) → Each s mid (w ∷ []) → Each mid s2 polled → Each s s2 (w ∷ polled)
each_on s mid s2 w polled a b = record {
  came = a.came ++ b.came;
  waited = a.waited ∙ ap (λ l. a.came ++ l) b.waited ∙ sym (append_assoc a.came b.came s2.queue);
  once = IsPermutation-trans _ _ _
      (permuted_as _ _ _ _ (ap (λ l. due_of s.slots ++ l) (map-append marked a.came b.came) ∙ sym (append_assoc (due_of s.slots) (map marked a.came) (map marked b.came))) refl
      (IsPermutation-append_left (map marked b.came) _ _ a.once))
      (IsPermutation-cons w _ _ b.once);
}

module _ {H C T : Type 0} (semantics : Semantics H C T) where
  poll_tried : (s s2 : State H semantics.Call semantics.Task) (place : ℕ) (e : Effect) → list_any untried s.slots ≡ false → Poll semantics s place e s2 → list_any untried s2.slots ≡ false
  poll_tried s s2 place e q p = ap (λ (x : State H semantics.Call semantics.Task). list_any untried x.slots) p.leaves ∙ at p.progress
    where
      stood : list_any untried (p.before ++ p.work ∷ p.after) ≡ false
      stood = ap (list_any untried) (sym p.stands) ∙ q

      held_tried : (before after : List (Work semantics.Call semantics.Task)) (w v : Work semantics.Call semantics.Task) → untried v ≡ false → list_any untried (before ++ w ∷ after) ≡ false → list_any untried (before ++ v ∷ after) ≡ false
      held_tried [] after w v k h = none_both (untried v) _ k (or_none (untried w) (list_any untried after) h).1
      held_tried (x ∷ before) after w v k h = let parts = or_none (untried x) (list_any untried (before ++ w ∷ after)) h in none_both (untried x) _ parts.0 (held_tried before after w v k parts.1)

      at : (progress : Progress semantics.Task) → list_any untried (after_poll s p.before p.work p.after p.service progress p.desk).slots ≡ false
      at (Pending t) = held_tried p.before p.after p.work (record { id = p.work.id; entry = p.work.entry; phase = Held t; due = false }) refl stood
      at (Done outcome) = moved_tried s.max (p.before ++ p.after) s.queue (none_out untried p.before p.work p.after stood)

  poll_each : (s s2 : State H semantics.Call semantics.Task) (place : ℕ) (e : Effect) (p : Poll semantics s place e s2) → Each s s2 (p.work ∷ [])
  poll_each s s2 place e p = subst (λ x. Each s x (p.work ∷ [])) (sym p.leaves) (at p.progress)
    where
      stood : due_of s.slots ≡ due_of p.before ++ p.work ∷ due_of p.after
      stood = ap due_of p.stands ∙ due_of-mid p.before p.work p.after p.is_due

      at : (progress : Progress semantics.Task) → Each s (after_poll s p.before p.work p.after p.service progress p.desk) (p.work ∷ [])
      at (Pending t) = record {
        came = [];
        waited = refl;
        once = permuted_as _ _ _ _ (append-nil (due_of s.slots) ∙ stood)
            (ap (λ l. p.work ∷ l) (sym (due_of-append p.before (record { id = p.work.id; entry = p.work.entry; phase = Held t; due = false } ∷ p.after))))
            (IsPermutation-middle (due_of p.before) p.work (due_of p.after));
      }
      at (Done outcome) =
          let came = take (s.max - length (p.before ++ p.after)) s.queue in
          record {
            came = came;
            waited = sym (take-append-drop (s.max - length (p.before ++ p.after)) s.queue);
            once = permuted_as _ _ _ _ (ap (λ l. l ++ map marked came) stood)
                (ap (λ l. p.work ∷ l) (ap (λ l. l ++ map marked came) (sym (due_of-append p.before p.after)) ∙ ap (λ l. due_of (p.before ++ p.after) ++ l) (sym (due_of-marked came))
                ∙ sym (due_of-append (p.before ++ p.after) (map marked came))))
                (IsPermutation-append_left (map marked came) _ _ (IsPermutation-middle (due_of p.before) p.work (due_of p.after)));
          }

  module _ {P : Type 0} (order : Order P) where
    polls_tried : (s s2 : State H semantics.Call semantics.Task) (p p2 : P) (places : List ℕ) (e : Effect) → list_any untried s.slots ≡ false → PollsAt semantics order s p places e s2 p2 → list_any untried s2.slots ≡ false
    polls_tried s s2 p p2 [] e q h = ap (λ (x : State H semantics.Call semantics.Task). list_any untried x.slots) h.1 ∙ q
    polls_tried s s2 p p2 (place ∷ places) e q h = polls_tried h.0 s2 _ p2 places h.2 (poll_tried s h.0 place h.1 q h.3) h.5

    polls_each : (s s2 : State H semantics.Call semantics.Task) (p p2 : P) (places : List ℕ) (e : Effect) (h : PollsAt semantics order s p places e s2 p2) → Each s s2 (polled_by semantics order s p places e s2 p2 h)
    polls_each s s2 p p2 [] e h = record {
      came = [];
      waited = ap (λ (x : State H semantics.Call semantics.Task). x.queue) (sym h.1);
      once = permuted_as _ _ _ _ refl (append-nil (due_of s.slots) ∙ ap (λ (x : State H semantics.Call semantics.Task). due_of x.slots) (sym h.1)) (IsPermutation-refl _);
    }
    polls_each s s2 p p2 (place ∷ places) e h = each_on s h.0 s2 h.3.work _ (poll_each s h.0 place h.1 h.3) (polls_each h.0 s2 (order.later p (dues s.slots)) p2 places h.2 h.5)

  pub polled : {P : Type 0} (order : Order P) → RoundsPollAll semantics order
  polled order s s2 p p2 e q h =
      let start : State H semantics.Call semantics.Task = record s { slots = map marked s.slots } in
      let none : dues s2.slots ≡ 0 = h.none_left in
      let each = polls_each order start s2 p p2 h.places e h.polls in
      record {
        came = each.came;
        waited = each.waited;
        once = permuted_as _ _ _ _ (map-append marked s.slots each.came ∙ ap (λ l. l ++ map marked each.came) (sym (due_of-marked s.slots)))
            (ap (λ l. polled_by semantics order start p h.places e s2 p2 h.polls ++ l) (due_of-none s2.slots none) ∙ append-nil _) each.once;
        polled = all_tried s2.slots none (polls_tried order start s2 p p2 h.places e (marked_tried s.slots) h.polls);
        full = (polls_settled semantics order start s2 p p2 h.places e (marked_settled s q) h.polls).slots_full;
      }
