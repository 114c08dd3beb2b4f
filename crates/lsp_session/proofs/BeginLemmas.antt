-- A call begins only where admission started it, once for each start, and with what its own request's params are read as.
use Rattle.std.proofs.Common.{◌≡◌, ℕ, zero, suc, ◌+◌, ◌-◌, ◌≤◌, List, [], ◌∷◌, ◌++◌, length, take, drop, map, refl, ◌∙◌, ap, subst, arith, take-append-drop, Bool, true, false, cond, not}
use Rattle.std.specs.Prelude.{if◌then◌else◌, filter, Option, Some, None, ◌&&◌}
use Rattle.serde_json.specs.Data.{Data}
use Rattle.lsp_rpc.specs.declared.code.ErrorCode.TheVariants.{InvalidRequest}
use Rattle.lsp_rpc.specs.Message.{IdData, ErrorData, RequestData, request, response, error_with_code}
use Rattle.lsp_session.specs.declared.table.Entry.{Entry}
use Rattle.lsp_session.specs.declared.table.Kind.{Kind}
use Rattle.lsp_session.specs.declared.table.Kind.TheVariants.{Request, Notification}
use Rattle.lsp_session.specs.declared.table.Layer.{Layer}
use Rattle.lsp_session.specs.declared.table.Layer.TheVariants.{Initialize, Shutdown, Exit, Cancel, Normal}
use Rattle.lsp_session.specs.declared.life_check.LifeCheck.{LifeCheck}
use Rattle.lsp_session.specs.declared.life_check.LifeCheck.TheVariants.{Passes, NotInitialized, Invalid}
use Rattle.lsp_session.specs.Item.{ItemData, message, fault, tick}
use Rattle.lsp_session.specs.Semantics.{Semantics, Reading, call, missing, unexpected, unfit, Fresh, Held, Progress, Pending, Done}
use Rattle.lsp_rpc.specs.Cancel.{cancelled_id}
use Rattle.lsp_session.specs.Admission.{Verdict, Silence, Refuses, Answers, Cancels, Exits, Starts, Occasion, is_live, refuse, cancel, cancel_live, cancels, started as started_verdict, unless_crowded, is_limited, if_of_kind, check_life, passed, quiet, called, by_layer, by_entry}
use Rattle.lsp_session.specs.State.{Work, State, Effect, marked, dues, moved_up, moved_slots, moved_queue, entered, has_room, is_of, is_notification, without_request, notifications}
use Rattle.lsp_session.specs.Run.{reads_in, Applies, admission_of, occasion, after_poll, Order, Poll, PollsAt, Rounds, Picked, Step, Run}
use Rattle.lsp_session.specs.Begins.{Begin, passing, begins, begun_by_polls, begun_by_rounds, begun, starts, started, IsRequested, BeginsWhereStarted}

-- ---- a verdict starts no call but that of its own request

abbrev StartsAre : {C : Type 0} → (Option IdData → Entry → C → Type 0) → Verdict C → Type 0
StartsAre P Silence = Unit {0}
StartsAre P (Refuses i error) = Unit {0}
StartsAre P (Answers r) = Unit {0}
StartsAre P (Cancels i) = Unit {0}
StartsAre P Exits = Unit {0}
StartsAre P (Starts id entry c) = P id entry c

module _ (C : Type 0) (P : Option IdData → Entry → C → Type 0) where
  refuse_starts : (id : Option IdData) (error : ErrorData) → StartsAre P (refuse id error)
  refuse_starts None error = tt
  refuse_starts (Some i) error = tt

  cancel_live_starts : (ids initializing : List IdData) (id : Option IdData) → StartsAre P (cancel_live ids initializing id).verdict
  cancel_live_starts ids initializing None = tt
  cancel_live_starts ids initializing (Some i) = at (is_live i ids)
    where
      at : (b : Bool) → StartsAre P (if b then cancels initializing i else quiet Silence).verdict
      at true = tt
      at false = tt

  cancel_starts : (ids initializing : List IdData) (id : Option IdData) (params : Option Data) → StartsAre P (cancel ids initializing id params).verdict
  cancel_starts ids initializing None params = cancel_live_starts ids initializing (cancelled_id params)
  cancel_starts ids initializing (Some i) params = tt

  unless_crowded_starts : (b : Bool) (id : Option IdData) (v : Verdict C) → StartsAre P v → StartsAre P (unless_crowded b id v)
  unless_crowded_starts true (Some i) v p = tt
  unless_crowded_starts true None v p = p
  unless_crowded_starts false id v p = p

  started_starts : (crowded : Bool) (id : Option IdData) (entry : Entry) (params : Option Data) (reading : Reading C) → ((c : C) → reading ≡ call c → P id entry c)
      → StartsAre P (started_verdict crowded id entry params reading)
  started_starts crowded id entry params (call c) given = unless_crowded_starts (crowded && is_limited entry.layer) id (Starts id entry c) (given c refl)
  started_starts crowded id entry params missing given = refuse_starts id _
  started_starts crowded id entry params unexpected given = refuse_starts id _
  started_starts crowded id entry params unfit given = refuse_starts id _

  if_of_kind_starts : (ids : List IdData) (kind : Kind) (id : Option IdData) (v : Verdict C) → StartsAre P v → StartsAre P (if_of_kind ids kind id v)
  if_of_kind_starts ids Notification (Some i) v p = tt
  if_of_kind_starts ids Notification None v p = p
  if_of_kind_starts ids Request None v p = tt
  if_of_kind_starts ids Request (Some i) v p = at (is_live i ids)
    where
      at : (b : Bool) → StartsAre P (if b then Refuses i (error_with_code InvalidRequest) else v)
      at true = tt
      at false = p

  passed_starts : (check : LifeCheck) (id : Option IdData) (v : Verdict C) → StartsAre P v → StartsAre P (passed check id v).verdict
  passed_starts NotInitialized id v p = refuse_starts id _
  passed_starts Invalid id v p = refuse_starts id _
  passed_starts (Passes change) id v p = p

  called_starts : (o : Occasion) (r : RequestData) (entry : Entry) (reading : Reading C) → ((c : C) → reading ≡ call c → P r.id entry c)
      → StartsAre P (called o r.id entry r.params reading).verdict
  called_starts o r entry reading given =
      passed_starts (check_life o.life entry.layer) r.id _ (if_of_kind_starts o.live entry.kind r.id _ (started_starts o.crowded r.id entry r.params reading given))

  by_layer_starts : (o : Occasion) (r : RequestData) (entry : Entry) (reading : Reading C) (layer : Layer) → ((c : C) → reading ≡ call c → P r.id entry c)
      → StartsAre P (by_layer o r entry reading layer).verdict
  by_layer_starts o r entry reading Exit given = tt
  by_layer_starts o r entry reading Cancel given = cancel_starts o.live o.initializing r.id r.params
  by_layer_starts o r entry reading Initialize given = called_starts o r entry reading given
  by_layer_starts o r entry reading Shutdown given = called_starts o r entry reading given
  by_layer_starts o r entry reading Normal given = called_starts o r entry reading given

  by_entry_starts : (o : Occasion) (reads : Entry → Option Data → Reading C) (r : RequestData) (found : Option Entry)
      → ((entry : Entry) (c : C) → found ≡ Some entry → reads entry r.params ≡ call c → P r.id entry c) → StartsAre P (by_entry o reads r found).verdict
  by_entry_starts o reads r None given = refuse_starts r.id _
  by_entry_starts o reads r (Some entry) given = by_layer_starts o r entry (reads entry r.params) entry.layer (λ c q. given entry c refl q)

module _ {H C T : Type 0} (semantics : Semantics H C T) where
  admission_starts : (s : State H semantics.Call semantics.Task) (item : ItemData)
      → StartsAre (λ id entry c. IsRequested semantics s item id entry c) (admission_of semantics s item).verdict
  admission_starts s (message (request r)) =
      by_entry_starts semantics.Call (λ id entry c. IsRequested semantics s (message (request r)) id entry c) (occasion s) (reads_in semantics s) r (semantics.find s.service r.method)
      (λ entry c p q. record { r = r; item_is = refl; id_is = refl; found = p; read = q })
  admission_starts s (message (response r)) = tt
  admission_starts s (fault code) = tt
  admission_starts s tick = tt

  pub requested : (s : State H semantics.Call semantics.Task) (item : ItemData) (id : Option IdData) (entry : Entry) (c : semantics.Call) → (admission_of semantics s item).verdict ≡ Starts id entry c
      → IsRequested semantics s item id entry c
  requested s item id entry c e = subst (StartsAre (λ id entry c. IsRequested semantics s item id entry c)) e (admission_starts s item)

-- ---- how many that are yet to begin pass a test

passing-append : {B : Type 0} (f : B → Bool) (xs ys : List B) → passing f (xs ++ ys) ≡ passing f xs + passing f ys
passing-append f [] ys = omega arith
passing-append f (x ∷ xs) ys = omega (arith, passing-append f xs ys)

module _ {C T : Type 0} (f : Begin C → Bool) where
  -- of a work
  abbrev of_work : Work C T → ℕ
  of_work w = passing f (begins w.id w.entry w.phase)

  abbrev of_works : List (Work C T) → ℕ
  of_works [] = 0
  of_works (w ∷ ws) = of_work w + of_works ws

  of_works-append : (xs ys : List (Work C T)) → of_works (xs ++ ys) ≡ of_works xs + of_works ys
  of_works-append [] ys = omega arith
  of_works-append (x ∷ xs) ys = omega (arith, of_works-append xs ys)

  of_works-marked : (ws : List (Work C T)) → of_works (map marked ws) ≡ of_works ws
  of_works-marked [] = refl
  of_works-marked (w ∷ ws) = omega (arith, of_works-marked ws)

  of_works-filter : (g : Work C T → Bool) (ws : List (Work C T)) → of_works (filter g ws) ≤ of_works ws
  of_works-filter g [] = omega arith
  of_works-filter g (w ∷ ws) = at (g w) (of_works-filter g ws)
    where
      at : (b : Bool) → of_works (filter g ws) ≤ of_works ws → of_works (cond b (w ∷ filter g ws) (filter g ws)) ≤ of_work w + of_works ws
      at true ih = omega (arith, ih)
      at false ih = omega (arith, ih)

  of_works-moved : (max : ℕ) (slots queue : List (Work C T)) → of_works (moved_slots max slots queue) + of_works (moved_queue max slots queue) ≡ of_works slots + of_works queue
  of_works-moved max slots queue =
      let n : ℕ = max - length slots in
      let split : of_works (take n queue ++ drop n queue) ≡ of_works queue = ap of_works (take-append-drop n queue) in
      omega (arith, of_works-append slots (map marked (take n queue)), of_works-marked (take n queue), of_works-append (take n queue) (drop n queue), split)

  of_works-mid : (before after : List (Work C T)) (w : Work C T) → of_works (before ++ w ∷ after) ≡ of_works before + of_work w + of_works after
  of_works-mid before after w = omega (arith, of_works-append before (w ∷ after))

-- ---- no more begin than were started

module _ {H C T : Type 0} (semantics : Semantics H C T) (f : Begin semantics.Call → Bool) where
  -- of the works of a state
  abbrev waiting : State H semantics.Call semantics.Task → ℕ
  waiting s = of_works f s.slots + of_works f s.queue

  moved_waiting : (s : State H semantics.Call semantics.Task) → waiting (moved_up s) ≡ waiting s
  moved_waiting s = of_works-moved f s.max s.slots s.queue

  entered_waiting : (s : State H semantics.Call semantics.Task) (w : Work semantics.Call semantics.Task) → waiting (entered s w) ≡ waiting s + of_work f w
  entered_waiting s w = at (has_room s)
    where
      at : (b : Bool) → of_works f (if b then s.slots ++ w ∷ [] else s.slots) + of_works f (if b then s.queue else s.queue ++ w ∷ []) ≡ waiting s + of_work f w
      at true = omega (arith, of_works-append f s.slots (w ∷ []))
      at false = omega (arith, of_works-append f s.queue (w ∷ []))

  applies_waiting : (s s2 : State H semantics.Call semantics.Task) (v : Verdict semantics.Call) (e : Effect) → Applies semantics s v e s2 → waiting s2 ≤ waiting s + passing f (starts v)
  applies_waiting s s2 Silence e p = omega (arith, ap waiting p.1)
  applies_waiting s s2 (Refuses i error) e p = omega (arith, ap waiting p.1)
  applies_waiting s s2 (Answers r) e p =
      let same : waiting s2 ≡ waiting s = ap waiting p.leaves in
      omega (arith, same)
  applies_waiting s s2 (Cancels i) e p =
      let left : State H semantics.Call semantics.Task = record s { slots = without_request i s.slots; queue = without_request i s.queue } in
      let same : waiting s2 ≡ waiting left = ap waiting p.1 ∙ moved_waiting left in
      omega (arith, same, of_works-filter f (λ w. not (is_of i w.id)) s.slots, of_works-filter f (λ w. not (is_of i w.id)) s.queue)
  applies_waiting s s2 Exits e p =
      let left : State H semantics.Call semantics.Task = record s { desk = p.desk; exited = Some s.desk.life; slots = notifications s.slots; queue = notifications s.queue } in
      let same : waiting s2 ≡ waiting left = ap waiting p.leaves ∙ moved_waiting left in
      omega (arith, same, of_works-filter f (λ w. is_notification w.id) s.slots, of_works-filter f (λ w. is_notification w.id) s.queue)
  applies_waiting s s2 (Starts id entry c) e p =
      let w : Work semantics.Call semantics.Task = record { id = id; entry = entry; phase = Fresh c; due = true } in
      let same : waiting s2 ≡ waiting s + of_work f w = ap waiting p.1 ∙ entered_waiting s w in
      omega (arith, same)

  poll_waiting : (s s2 : State H semantics.Call semantics.Task) (place : ℕ) (e : Effect) (p : Poll semantics s place e s2) → of_work f p.work + waiting s2 ≡ waiting s
  poll_waiting s s2 place e p =
      let left : waiting s2 ≡ waiting (after_poll s p.before p.work p.after p.service p.progress p.desk) = ap waiting p.leaves in
      let here : of_works f s.slots ≡ of_works f p.before + of_work f p.work + of_works f p.after = ap (of_works f) p.stands ∙ of_works-mid f p.before p.after p.work in
      omega (arith, left, here, at p.progress)
    where
      at : (progress : Progress semantics.Task) → waiting (after_poll s p.before p.work p.after p.service progress p.desk) ≡ of_works f p.before + of_works f p.after + of_works f s.queue
      at (Pending t) = omega (arith, of_works-mid f p.before p.after (record { id = p.work.id; entry = p.work.entry; phase = Held t; due = false }))
      at (Done outcome) =
          omega (arith, moved_waiting (record s { service = p.service; desk = p.desk; slots = p.before ++ p.after }), of_works-append f p.before p.after)

  module _ {P : Type 0} (order : Order P) where
    polls_waiting : (s : State H semantics.Call semantics.Task) (p : P) (places : List ℕ) (e : Effect) (s2 : State H semantics.Call semantics.Task) (p2 : P) (h : PollsAt semantics order s p places e s2 p2)
        → passing f (begun_by_polls semantics order s p places e s2 p2 h) + waiting s2 ≡ waiting s
    polls_waiting s p [] e s2 p2 h = omega (arith, ap waiting h.1)
    polls_waiting s p (place ∷ places) e s2 p2 h =
        let first = poll_waiting s h.0 place h.1 h.3 in
        let rest = polls_waiting h.0 (order.later p (dues s.slots)) places h.2 s2 p2 h.5 in
        omega (arith, first, rest, passing-append f (begins h.3.work.id h.3.work.entry h.3.work.phase) (begun_by_polls semantics order h.0 (order.later p (dues s.slots)) places h.2 s2 p2 h.5))

    rounds_waiting : (n : ℕ) (s : State H semantics.Call semantics.Task) (p : P) (e : Effect) (s2 : State H semantics.Call semantics.Task) (p2 : P) (h : Rounds semantics order n s p e s2 p2)
        → passing f (begun_by_rounds semantics order n s p e s2 p2 h) + waiting s2 ≡ waiting s
    rounds_waiting zero s p e s2 p2 h = omega (arith, ap waiting h.1)
    rounds_waiting (suc n) s p e s2 p2 h =
        let marks : State H semantics.Call semantics.Task = record h.0 { slots = map marked h.0.slots } in
        let first = rounds_waiting n s p h.2 h.0 h.1 h.4 in
        let last = polls_waiting marks h.1 h.5.places h.3 s2 p2 h.5.polls in
        omega (arith, first, last, of_works-marked f h.0.slots, passing-append f (begun_by_rounds semantics order n s p h.2 h.0 h.1 h.4) (begun_by_polls semantics order marks h.1 h.5.places h.3 s2 p2 h.5.polls))

    run_waiting : (rounds : ℕ) (s : Picked (State H semantics.Call semantics.Task) P) (items : List ItemData) (e : Effect) (s2 : Picked (State H semantics.Call semantics.Task) P)
        (h : Run (Step semantics order rounds) s items e s2)
        → passing f (begun semantics order rounds s items e s2 h) + waiting s2.session ≤ waiting s.session + passing f (started semantics order rounds s items e s2 h)
    run_waiting rounds s [] e s2 h =
        let same : waiting s2.session ≡ waiting s.session = ap (λ (x : Picked (State H semantics.Call semantics.Task) P). waiting x.session) h.1 in
        omega (arith, same)
    run_waiting rounds s (item ∷ items) e s2 h =
        let v : Verdict semantics.Call = (admission_of semantics s.session item).verdict in
        let mid : waiting h.3.admits.mid ≡ waiting s.session = ap waiting h.3.admits.changes.leaves in
        let applied = applies_waiting h.3.admits.mid h.3.admitted v h.3.admits.rest h.3.admits.applies in
        let polled = rounds_waiting rounds h.3.admitted s.pick h.3.second h.3.polled h.0.pick h.3.polls in
        let drained : waiting h.0.session ≡ waiting h.3.polled = ap waiting h.3.drains.leaves in
        let rest = run_waiting rounds h.0 items h.2 s2 h.4 in
        omega (
          arith,
          mid,
          applied,
          polled,
          drained,
          rest,
          passing-append f (begun_by_rounds semantics order rounds h.3.admitted s.pick h.3.second h.3.polled h.0.pick h.3.polls) (begun semantics order rounds h.0 items h.2 s2 h.4),
          passing-append f (starts v) (started semantics order rounds h.0 items h.2 s2 h.4),
        )

pub begins_started : {H C T P : Type 0} (semantics : Semantics H C T) (order : Order P) → BeginsWhereStarted semantics order
begins_started semantics order = record {
  once = λ rounds service items e last h test. omega (arith, run_waiting semantics test order rounds _ items e _ h.runs);
  requested = requested semantics;
}
