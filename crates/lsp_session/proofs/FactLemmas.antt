-- The works of a session fit its life in each state between two of its calls.
use Rattle.std.proofs.Common.{◌≡◌, ◌≤◌, ℕ, zero, suc, List, [], ◌∷◌, ◌++◌, length, map, refl, sym, ◌∙◌, ap, subst, Bool, true, false}
use Rattle.std.specs.Prelude.{Option, Some, if◌then◌else◌, ◌&&◌}
use Rattle.lsp_rpc.specs.Message.{IdData}
use Rattle.lsp_desk.specs.declared.life.Life.{Life}
use Rattle.lsp_desk.specs.declared.life.Life.TheVariants.{Uninitialized, Initializing, Initialized, ShutDown}
use Rattle.lsp_desk.specs.Desk.{DeskState}
use Rattle.lsp_desk.proofs.TraceLemmas.{makes_life, life_along}
use Rattle.lsp_session.specs.declared.table.Entry.{Entry}
use Rattle.lsp_session.specs.declared.table.Layer.{Layer}
use Rattle.lsp_session.specs.declared.table.Layer.TheVariants.{Shutdown, Normal}
use Rattle.lsp_session.specs.declared.life_check.LifeChange.{LifeChange}
use Rattle.lsp_session.specs.declared.life_check.LifeChange.TheVariants.{Stays, Rises}
use Rattle.lsp_session.specs.Item.{ItemData}
use Rattle.lsp_session.specs.Semantics.{Semantics, IsLawfulHandlers, Fresh, Held, Progress, Pending, Done}
use Rattle.lsp_session.specs.Admission.{Verdict, Silence, Refuses, Answers, Cancels, Exits, Starts, Admission, cancel_change}
use Rattle.lsp_session.specs.State.{Work, State, Effect, initializing, initializes, is_initialize, marked, moved_up, entered, WorksFit, FitsLife, opening_by}
use Rattle.lsp_session.specs.Run.{Applies, Admits, admission_of, reads_in, occasion, after_poll, Order, Poll, PollsAt, Round, Rounds, Drains, Picked, Step, took, closed, changing, poll_change, end_change, is_initializing}
use Rattle.lsp_session.proofs.PollLemmas.{client_along}
use Rattle.lsp_session.proofs.WorkLemmas.{cancelled_state, quit_state, quit_live}
use Rattle.lsp_session.proofs.SortLemmas.{Sorted, leaves, takes, ends, opens, begins, shuts, closes, changes_none, admission_sorted}
use Rattle.lsp_session.proofs.FitLemmas.{held_fits, ended_fits, cancelled_fits, opened_fits, begun_fits, marked_fits}

module _ {H C T : Type 0} where
  pub fits_opening : (service : H) (max wait : ℕ) (empty : Bool) → 1 ≤ max → FitsLife (opening_by {C = C} {T = T} service max wait empty)
  fits_opening service max wait empty some = record { has_slots = some; works_fit = (refl, refl) }

  -- another desk of the same life
  pub fits_desk : (s : State H C T) (d : DeskState) → d.life ≡ s.desk.life → FitsLife s → FitsLife (record s { desk = d })
  fits_desk s d is p = record { has_slots = p.has_slots; works_fit = subst (λ life. WorksFit life s.slots s.queue) (sym is) p.works_fit }

  pub fits_wait : (s : State H C T) (wait : ℕ) → FitsLife s → FitsLife (record s { wait = wait })
  fits_wait s wait p = record { has_slots = p.has_slots; works_fit = p.works_fit }

  pub fits_empty : (s : State H C T) (empty : Bool) → FitsLife s → FitsLife (record s { empty_params = empty })
  fits_empty s empty p = record { has_slots = p.has_slots; works_fit = p.works_fit }

  pub fits_marked : (s : State H C T) → FitsLife s → FitsLife (record s { slots = map marked s.slots })
  fits_marked s p = record { has_slots = p.has_slots; works_fit = marked_fits s.desk.life s.slots s.queue p.works_fit }

  pub drains_fits : (s s2 : State H C T) (e : Effect) → FitsLife s → Drains s e s2 → FitsLife s2
  drains_fits s s2 e p h = subst FitsLife (sym h.leaves) (fits_desk s h.desk (makes_life s.desk h.desk (took h.messages ∷ []) h.trace h.takes) p)

module _ {H C T : Type 0} (semantics : Semantics H C T) where
  -- where nothing begins or ends
  quiet_fits : (s s2 : State H semantics.Call semantics.Task) (v : Verdict semantics.Call) (e : Effect) → changes_none v ≡ true → Applies semantics s v e s2 → FitsLife s → FitsLife s2
  quiet_fits s s2 Silence e h a p = subst FitsLife (sym a.1) p
  quiet_fits s s2 (Refuses i error) e h a p = subst FitsLife (sym a.1) p
  quiet_fits s s2 (Answers r) e h a p =
      subst FitsLife (sym a.leaves) (fits_desk s a.desk (makes_life s.desk a.desk a.own a.trace a.makes ∙ ap (life_along s.desk.life) a.gives.1) p)
  quiet_fits s s2 (Cancels i) e h a p = absurd (cc)
  quiet_fits s s2 Exits e h a p = absurd (cc)
  quiet_fits s s2 (Starts id entry c) e h a p = absurd (cc)

  started_fits : (s s2 mid : State H semantics.Call semantics.Task) (d : DeskState) (v : Verdict semantics.Call) (id : Option IdData) (entry : Entry) (c : semantics.Call) (e : Effect) (life : Life)
      → mid ≡ record s { desk = d } → v ≡ Starts id entry c → d.life ≡ life → Applies semantics mid v e s2 → 1 ≤ s.max
      → ((w : Work semantics.Call semantics.Task) → w.entry ≡ entry → WorksFit life (entered s w).slots (entered s w).queue) → FitsLife s2
  started_fits s s2 mid d v id entry c e life mid_is is life_is applies some fits =
      let w : Work semantics.Call semantics.Task = record { id = id; entry = entry; phase = Fresh c; due = true } in
      let done : Applies semantics (record s { desk = d }) (Starts id entry c) e s2 =
      subst (λ (m : State H semantics.Call semantics.Task). Applies semantics m (Starts id entry c) e s2) mid_is (subst (λ (x : Verdict semantics.Call). Applies semantics mid x e s2) is applies) in
      subst FitsLife (sym done.1) (record { has_slots = some; works_fit = subst (λ l. WorksFit l (entered s w).slots (entered s w).queue) (sym life_is) (fits w refl) })

  is_other : (layer : Layer) (w : Work semantics.Call semantics.Task) (entry : Entry) → w.entry ≡ entry → entry.layer ≡ layer → is_initialize layer ≡ false → initializes w ≡ false
  is_other layer w entry e l h = ap (λ (x : Entry). is_initialize x.layer) e ∙ ap is_initialize l ∙ h

  pub admits_fits : (s s2 : State H semantics.Call semantics.Task) (item : ItemData) (e : Effect) → FitsLife s → Admits semantics s (admission_of semantics s item) e s2 → FitsLife s2
  admits_fits s s2 item e p h = at (admission_sorted (occasion s) (semantics.find s.service) (reads_in semantics s) item)
    where
      a : Admission semantics.Call
      a = admission_of semantics s item

      d : DeskState
      d = h.changes.desk

      life_then : d.life ≡ life_along s.desk.life (changing a.change)
      life_then = makes_life s.desk d (changing a.change) h.changes.trace h.changes.makes

      changed : (change : LifeChange) (life : Life) → s.desk.life ≡ life → a.change ≡ change → d.life ≡ life_along life (changing change)
      changed change life l c = life_then ∙ ap (λ (x : LifeChange). life_along s.desk.life (changing x)) c ∙ ap (λ (x : Life). life_along x (changing change)) l

      applied : Applies semantics (record s { desk = d }) a.verdict h.rest s2
      applied = subst (λ (m : State H semantics.Call semantics.Task). Applies semantics m a.verdict h.rest s2) h.changes.leaves h.applies

      at_life : (life : Life) → s.desk.life ≡ life → WorksFit life s.slots s.queue
      at_life life l = subst (λ x. WorksFit x s.slots s.queue) l p.works_fit

      at : Sorted (occasion s) a → FitsLife s2
      at (leaves c v) = quiet_fits (record s { desk = d }) s2 a.verdict h.rest v applied (fits_desk s d (changed Stays s.desk.life refl c) p)
      at (takes i l c v) =
          let done = subst (λ (x : Verdict semantics.Call). Applies semantics (record s { desk = d }) x h.rest s2) v applied in
          subst FitsLife (sym done.1) (record {
            has_slots = p.has_slots;
            works_fit = subst (λ life. WorksFit life (moved_up (cancelled_state s i)).slots (moved_up (cancelled_state s i)).queue) (sym (changed (cancel_change (initializing s) i) s.desk.life refl c))
                (cancelled_fits s.desk.life s.max i s.slots s.queue l p.works_fit);
          })
      at (ends c v) =
          let done = subst (λ (x : Verdict semantics.Call). Applies semantics (record s { desk = d }) x h.rest s2) v applied in
          subst FitsLife (sym done.leaves) (record {
            has_slots = p.has_slots;
            works_fit = subst (λ life. WorksFit life (moved_up (quit_state s done.desk (Some d.life))).slots (moved_up (quit_state s done.desk (Some d.life))).queue)
                (sym (makes_life d done.desk (closed done.messages ∷ []) done.trace done.makes)) (ap length (quit_live s done.desk (Some d.life)));
          })
      at (opens id entry x l layer c v) = started_fits s s2 h.mid d a.verdict id entry x h.rest Initializing h.changes.leaves v (changed (Rises Initializing) Uninitialized l c) h.applies p.has_slots
          (λ w e. opened_fits s.max s.slots s.queue w p.has_slots (ap (λ (y : Entry). is_initialize y.layer) e ∙ ap is_initialize layer) (at_life Uninitialized l))
      at (begins id entry x l layer c v) = started_fits s s2 h.mid d a.verdict id entry x h.rest Initialized h.changes.leaves v (changed Stays Initialized l c) h.applies p.has_slots
          (λ w e. begun_fits _ s.slots s.queue w (is_other Normal w entry e layer refl) (at_life Initialized l))
      at (shuts id entry x l layer c v) = started_fits s s2 h.mid d a.verdict id entry x h.rest ShutDown h.changes.leaves v (changed (Rises ShutDown) Initialized l c) h.applies p.has_slots
          (λ w e. begun_fits _ s.slots s.queue w (is_other Shutdown w entry e layer refl) (at_life Initialized l))
      at (closes l c v) = quiet_fits (record s { desk = d }) s2 a.verdict h.rest v applied (record {
        has_slots = p.has_slots;
        works_fit = subst (λ life. WorksFit life s.slots s.queue) (sym (changed (Rises ShutDown) Initialized l c)) (at_life Initialized l);
      })

  module _ (laws : IsLawfulHandlers semantics) where
    -- what a poll makes of the life
    pub poll_life : (s s2 : State H semantics.Call semantics.Task) (place : ℕ) (e : Effect) (p : Poll semantics s place e s2) → p.desk.life ≡ life_along s.desk.life (changing (poll_change s.desk.life p.work.entry.layer p.progress))
    poll_life s s2 place e p =
        let same : p.taken_desk.life ≡ s.desk.life =
        makes_life p.polled_desk p.taken_desk (took p.messages ∷ []) p.taken p.takes
        ∙ makes_life s.desk p.polled_desk p.asked p.polled p.asks ∙ client_along s.desk.life p.asked (laws.asks_client s.service p.work.phase p.asked p.service p.progress p.polls) in
        makes_life p.taken_desk p.desk (changing (poll_change p.taken_desk.life p.work.entry.layer p.progress)) p.changed p.changes
        ∙ ap (λ life. life_along life (changing (poll_change life p.work.entry.layer p.progress))) same

    pub poll_fits : (s s2 : State H semantics.Call semantics.Task) (place : ℕ) (e : Effect) → FitsLife s → Poll semantics s place e s2 → FitsLife s2
    poll_fits s s2 place e q p = subst FitsLife (sym p.leaves) (at p.progress (poll_life s s2 place e p))
      where
        stood : WorksFit s.desk.life (p.before ++ p.work ∷ p.after) s.queue
        stood = subst (λ slots. WorksFit s.desk.life slots s.queue) p.stands q.works_fit

        goes_on : (b : Bool) (t : semantics.Task) → life_along s.desk.life (changing (if b then end_change (Pending t) else Stays)) ≡ s.desk.life
        goes_on true t = refl
        goes_on false t = refl

        at : (progress : Progress semantics.Task) → p.desk.life ≡ life_along s.desk.life (changing (poll_change s.desk.life p.work.entry.layer progress)) → FitsLife (after_poll s p.before p.work p.after p.service progress p.desk)
        at (Pending t) is = record {
          has_slots = q.has_slots;
          works_fit = subst (λ life. WorksFit life (p.before ++ record { id = p.work.id; entry = p.work.entry; phase = Held t; due = false } ∷ p.after) s.queue)
              (sym (is ∙ goes_on (is_initializing s.desk.life && is_initialize p.work.entry.layer) t))
              (held_fits s.desk.life p.before p.work (record { id = p.work.id; entry = p.work.entry; phase = Held t; due = false }) p.after s.queue refl refl stood);
        }
        at (Done outcome) is = record {
          has_slots = q.has_slots;
          works_fit = subst (λ life. WorksFit life (moved_up (record s { slots = p.before ++ p.after })).slots (moved_up (record s { slots = p.before ++ p.after })).queue) (sym is)
              (ended_fits s.desk.life s.max p.before p.work p.after s.queue outcome stood);
        }

    module _ {P : Type 0} (order : Order P) where
      polls_fit : (s s2 : State H semantics.Call semantics.Task) (p p2 : P) (places : List ℕ) (e : Effect) → FitsLife s → PollsAt semantics order s p places e s2 p2 → FitsLife s2
      polls_fit s s2 p p2 [] e q h = subst FitsLife (sym h.1) q
      polls_fit s s2 p p2 (place ∷ places) e q h = polls_fit h.0 s2 _ p2 places h.2 (poll_fits s h.0 place h.1 q h.3) h.5

      pub round_fits : (s s2 : State H semantics.Call semantics.Task) (p p2 : P) (e : Effect) → FitsLife s → Round semantics order s p e s2 p2 → FitsLife s2
      round_fits s s2 p p2 e q h = polls_fit (record s { slots = map marked s.slots }) s2 p p2 h.places e (fits_marked s q) h.polls

      rounds_fit : (n : ℕ) (s s2 : State H semantics.Call semantics.Task) (p p2 : P) (e : Effect) → FitsLife s → Rounds semantics order n s p e s2 p2 → FitsLife s2
      rounds_fit zero s s2 p p2 e q h = subst FitsLife (sym h.1) q
      rounds_fit (suc n) s s2 p p2 e q h = round_fits h.0 s2 h.1 p2 h.3 (rounds_fit n s h.0 p h.1 h.2 q h.4) h.5

      pub step_fits : (rounds : ℕ) (s s2 : Picked (State H semantics.Call semantics.Task) P) (item : ItemData) (e : Effect) → FitsLife s.session → Step semantics order rounds s item e s2 → FitsLife s2.session
      step_fits rounds s s2 item e q h =
          drains_fits h.polled s2.session h.third (rounds_fit rounds h.admitted h.polled s.pick s2.pick h.second (admits_fits s.session h.admitted item h.first q h.admits) h.polls) h.drains
