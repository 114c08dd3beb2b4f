-- In a run over items without a float each work's call is sound.
use Rattle.std.proofs.Common.{◌≡◌, ℕ, zero, suc, List, [], ◌∷◌, ◌++◌, map, refl, sym, ◌∙◌, ap, subst, Bool, true, false}
use Rattle.std.specs.Prelude.{Option, Some, None, if◌then◌else◌, ◌&&◌}
use Rattle.std.specs.List.{list_any}
use Rattle.serde_json.specs.Data.{Data}
use Rattle.lsp_rpc.specs.Message.{IdData, may_have_float}
use Rattle.lsp_session.specs.declared.table.Entry.{Entry}
use Rattle.lsp_session.specs.Item.{ItemData, item_has_float}
use Rattle.lsp_session.specs.Semantics.{Semantics, IsLawfulHandlers, Reading, call, missing, unexpected, unfit, Polls, call_in, Fresh, Held, Progress, Pending, Done}
use Rattle.lsp_session.specs.Admission.{Verdict, Silence, Refuses, Answers, Cancels, Exits, Starts, hold_nothing, if_unexpected}
use Rattle.lsp_session.specs.State.{State, Effect, marked}
use Rattle.lsp_session.specs.Works.{AreSound}
use Rattle.lsp_session.specs.Run.{Applies, Admits, reads_in, admission_of, after_poll, Order, Poll, PollsAt, Round, Rounds, Picked, Step, Run}
use Rattle.lsp_session.proofs.FitLemmas.{or_none}
use Rattle.lsp_session.proofs.BeginLemmas.{requested}
use Rattle.lsp_session.proofs.WorkLemmas.{sound_left, sound_right, sound_moved, cancelled_sound, quit_sound, entered_sound, held_sound, ended_sound, marked_sound}

module _ {H C T : Type 0} (semantics : Semantics H C T) where
  abbrev pub IsSoundState : State H semantics.Call semantics.Task → Type 0
  IsSoundState s = AreSound semantics (s.slots ++ s.queue)

  applies_sound : (s s2 : State H semantics.Call semantics.Task) (v : Verdict semantics.Call) (e : Effect) → ((id : Option IdData) (entry : Entry) (c : semantics.Call) → v ≡ Starts id entry c → semantics.is_sound c ≡ true)
      → IsSoundState s → Applies semantics s v e s2 → IsSoundState s2
  applies_sound s s2 Silence e begun p h = subst IsSoundState (sym h.1) p
  applies_sound s s2 (Refuses i error) e begun p h = subst IsSoundState (sym h.1) p
  applies_sound s s2 (Answers r) e begun p h = subst IsSoundState (sym h.leaves) p
  applies_sound s s2 (Cancels i) e begun p h = subst IsSoundState (sym h.1) (cancelled_sound semantics s i p)
  applies_sound s s2 Exits e begun p h = subst IsSoundState (sym h.leaves) (quit_sound semantics s h.desk (Some s.desk.life) p)
  applies_sound s s2 (Starts id entry c) e begun p h =
      subst IsSoundState (sym h.1) (entered_sound semantics s (record { id = id; entry = entry; phase = Fresh c; due = true }) p (begun id entry c refl))

  module _ (laws : IsLawfulHandlers semantics) where
    -- params without a float are read as such calls in any state
    reads_sound_in : (s : State H semantics.Call semantics.Task) (entry : Entry) (params : Option Data) (c : semantics.Call) → may_have_float params ≡ false
        → reads_in semantics s entry params ≡ call c → semantics.is_sound c ≡ true
    reads_sound_in s entry params c none is = at (s.empty_params && hold_nothing params) is
      where
        where_unexpected : (x : Reading semantics.Call) → semantics.reads entry params ≡ x → if_unexpected x (semantics.reads entry None) ≡ call c → semantics.is_sound c ≡ true
        where_unexpected (call d) e f = laws.reads_sound entry params c none (e ∙ f)
        where_unexpected missing e f = absurd (cc)
        where_unexpected unexpected e f = laws.reads_sound entry None c refl f
        where_unexpected unfit e f = absurd (cc)

        at : (b : Bool) → (if b then if_unexpected (semantics.reads entry params) (semantics.reads entry None) else semantics.reads entry params) ≡ call c → semantics.is_sound c ≡ true
        at true f = where_unexpected (semantics.reads entry params) refl f
        at false f = laws.reads_sound entry params c none f

    -- a call that an item without a float starts is sound
    started_sound : (s : State H semantics.Call semantics.Task) (item : ItemData) (id : Option IdData) (entry : Entry) (c : semantics.Call) → item_has_float item ≡ false
        → (admission_of semantics s item).verdict ≡ Starts id entry c → semantics.is_sound c ≡ true
    started_sound s item id entry c none is =
        let asked = requested semantics s item id entry c is in
        reads_sound_in s entry asked.r.params c (sym (ap item_has_float asked.item_is) ∙ none) asked.read

    admits_sound : (s s2 : State H semantics.Call semantics.Task) (item : ItemData) (e : Effect) → item_has_float item ≡ false → IsSoundState s → Admits semantics s (admission_of semantics s item) e s2 → IsSoundState s2
    admits_sound s s2 item e none p h =
        applies_sound h.mid s2 (admission_of semantics s item).verdict h.rest (λ id entry c is. started_sound s item id entry c none is) (subst IsSoundState (sym h.changes.leaves) p) h.applies

    poll_sound : (s s2 : State H semantics.Call semantics.Task) (place : ℕ) (e : Effect) → IsSoundState s → Poll semantics s place e s2 → IsSoundState s2
    poll_sound s s2 place e q p = subst IsSoundState (sym p.leaves) (at p.progress p.polls)
      where
        stood : AreSound semantics ((p.before ++ p.work ∷ p.after) ++ s.queue)
        stood = subst (λ l. AreSound semantics (l ++ s.queue)) p.stands q

        polled : semantics.is_sound (call_in semantics p.work.phase) ≡ true
        polled = (sound_right semantics p.before (p.work ∷ p.after) (sound_left semantics (p.before ++ p.work ∷ p.after) s.queue stood)).0

        at : (progress : Progress semantics.Task) → Polls semantics s.service p.work.phase p.asked p.service progress → IsSoundState (after_poll s p.before p.work p.after p.service progress p.desk)
        at (Pending t) polls =
            held_sound semantics p.before p.work (record { id = p.work.id; entry = p.work.entry; phase = Held t; due = false }) p.after s.queue stood
            (ap semantics.is_sound (laws.keeps_call s.service p.work.phase p.asked p.service t polls) ∙ polled)
        at (Done outcome) polls = sound_moved semantics s.max (p.before ++ p.after) s.queue (ended_sound semantics p.before p.work p.after s.queue stood)

    module _ {P : Type 0} (order : Order P) where
      polls_sound : (s s2 : State H semantics.Call semantics.Task) (p p2 : P) (places : List ℕ) (e : Effect) → IsSoundState s → PollsAt semantics order s p places e s2 p2 → IsSoundState s2
      polls_sound s s2 p p2 [] e q h = subst IsSoundState (sym h.1) q
      polls_sound s s2 p p2 (place ∷ places) e q h = polls_sound h.0 s2 _ p2 places h.2 (poll_sound s h.0 place h.1 q h.3) h.5

      round_sound : (s s2 : State H semantics.Call semantics.Task) (p p2 : P) (e : Effect) → IsSoundState s → Round semantics order s p e s2 p2 → IsSoundState s2
      round_sound s s2 p p2 e q h = polls_sound (record s { slots = map marked s.slots }) s2 p p2 h.places e (marked_sound semantics s.slots s.queue q) h.polls

      rounds_sound : (n : ℕ) (s s2 : State H semantics.Call semantics.Task) (p p2 : P) (e : Effect) → IsSoundState s → Rounds semantics order n s p e s2 p2 → IsSoundState s2
      rounds_sound zero s s2 p p2 e q h = subst IsSoundState (sym h.1) q
      rounds_sound (suc n) s s2 p p2 e q h = round_sound h.0 s2 h.1 p2 h.3 (rounds_sound n s h.0 p h.1 h.2 q h.4) h.5

      step_sound : (rounds : ℕ) (s s2 : Picked (State H semantics.Call semantics.Task) P) (item : ItemData) (e : Effect) → item_has_float item ≡ false → IsSoundState s.session → Step semantics order rounds s item e s2
          → IsSoundState s2.session
      step_sound rounds s s2 item e none q h =
          subst IsSoundState (sym h.drains.leaves) (rounds_sound rounds h.admitted h.polled s.pick s2.pick h.second (admits_sound s.session h.admitted item h.first none q h.admits) h.polls)

      pub run_sound : (rounds : ℕ) (s s2 : Picked (State H semantics.Call semantics.Task) P) (items : List ItemData) (e : Effect) → list_any item_has_float items ≡ false → IsSoundState s.session
          → Run (Step semantics order rounds) s items e s2 → IsSoundState s2.session
      run_sound rounds s s2 [] e none q h = subst (λ (x : Picked (State H semantics.Call semantics.Task) P). IsSoundState x.session) (sym h.1) q
      run_sound rounds s s2 (item ∷ items) e none q h =
          let parts = or_none (item_has_float item) (list_any item_has_float items) none in
          run_sound rounds h.0 s2 items h.2 parts.1 (step_sound rounds s h.0 item h.1 parts.0 q h.3) h.4
