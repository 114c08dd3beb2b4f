-- A server whose calls end at their first poll holds, after a run, what the calls that were begun in it lead to, and answers each in the step in which it was begun.
use Rattle.std.proofs.Common.{◌≡◌, ◌≤◌, ◌-◌, ℕ, zero, suc, List, [], ◌∷◌, ◌++◌, true, cond, Option, Some, refl, sym, ap, ◌∙◌, subst, arith, length, map, nat_lt}
use Rattle.std.specs.Prelude.{Result}
use Rattle.std.proofs.Math.Seq.{take-nil, drop-nil}
use Rattle.std.proofs.lemmas.Bool.{lt-ltb}
use Rattle.std.proofs.lemmas.List.{append-nil}
use Rattle.serde_json.specs.Data.{Data}
use Rattle.lsp_rpc.specs.Message.{IdData, ErrorData, RequestData, MessageData, request, response}
use Rattle.lsp_desk.specs.declared.life.Life.{Life}
use Rattle.lsp_desk.specs.Desk.{DeskState}
use Rattle.lsp_desk.specs.Trace.{DeskEntry}
use Rattle.lsp_session.specs.Admission.{Verdict, Silence, Refuses, Answers, Cancels, Exits, Starts}
use Rattle.lsp_session.specs.Begins.{Begin, starts, started}
use Rattle.lsp_session.specs.Item.{ItemData}
use Rattle.lsp_session.specs.Run.{Order, Picked, Step, Run, Rounds, Round, PollsAt, Poll, Applies, after_poll, admission_of, answers_for, answers_owed}
use Rattle.lsp_session.specs.Semantics.{Semantics, Progress, Done, Fresh, Polls}
use Rattle.lsp_session.specs.State.{State, Work, Effect, both, marked, dues, entered, moved_up, moved_slots, moved_queue, without_request, notifications}
use Rattle.lsp_docs.specs.Notices.{responses_of}

-- each call leads from a value to the next one's
abbrev pub LeadsOn : {C X : Type 0} → (C → X → X → Type 0) → List (Begin C) → X → X → Type 0
LeadsOn leads [] x y = y ≡ x
LeadsOn {X = X} leads (b ∷ bs) x y = (mid : X) × leads b.call x mid × LeadsOn leads bs mid y

-- ---- answers among messages

only_requests : (rs : List RequestData) → responses_of (map request rs) ≡ []
only_requests [] = refl
only_requests (r ∷ rs) = only_requests rs

behind_requests : (rs : List RequestData) (ms : List MessageData) → responses_of (map request rs ++ ms) ≡ responses_of ms
behind_requests [] ms = refl
behind_requests (r ∷ rs) ms = behind_requests rs ms

before_requests : (ms : List MessageData) (rs : List RequestData) → responses_of (ms ++ map request rs) ≡ responses_of ms
before_requests [] rs = only_requests rs
before_requests (request r ∷ ms) rs = before_requests ms rs
before_requests (response r ∷ ms) rs = ap (λ x. r ∷ x) (before_requests ms rs)

-- a call leads from what a value shows to what the next one shows, and gives its outcome by the first
module _ {H C T P X : Type 0} (semantics : Semantics H C T) (order : Order P) (show : H → X) (leads : semantics.Call → X → X → Type 0) (gives : semantics.Call → X → Result Data ErrorData → Type 0) (
    ends : (s : H) (c : semantics.Call) (asked : List DeskEntry) (s2 : H) (progress : Progress semantics.Task)
    → semantics.begins s c asked s2 progress → (outcome : Result Data ErrorData) × (progress ≡ Done outcome) × gives c (show s) outcome × leads c (show s) (show s2)
    ) where
  abbrev S : Type 0
  S = State H semantics.Call semantics.Task

  abbrev W : Type 0
  W = Work semantics.Call semantics.Task

  -- no call is at work, and there is a slot
  pub record IsIdle (s : S) : Type 0 where
    pub no_slots : s.slots ≡ []
    pub no_queue : s.queue ≡ []
    pub has_slots : 1 ≤ s.max

  -- nothing was done
  record StaysIdle (s : S) (e : Effect) (s2 : S) : Type 0 where
    pub idle : IsIdle s2
    pub same : s2.service ≡ s.service
    pub silent : e.out ≡ []

  -- this call is to be polled for the first time, and no other is at work
  record IsBegun (b : Begin semantics.Call) (s : S) : Type 0 where
    pub work : W
    pub slots : s.slots ≡ work ∷ []
    pub is_of : work.id ≡ b.id
    pub fresh : work.phase ≡ Fresh b.call
    pub no_queue : s.queue ≡ []
    pub has_slots : 1 ≤ s.max

  -- it has ended, and was answered
  record HasEnded (b : Begin semantics.Call) (s : S) (e : Effect) (s2 : S) : Type 0 where
    pub idle : IsIdle s2
    pub led : leads b.call (show s.service) (show s2.service)
    pub outcome : Result Data ErrorData
    pub given : gives b.call (show s.service) outcome
    pub answered : responses_of e.out ≡ responses_of (answers_owed b.id outcome)

  idle_moved : (s : S) → IsIdle s → IsIdle (moved_up s)
  idle_moved s h = record {
    no_slots =
        ap (λ ws. moved_slots s.max ws s.queue) h.no_slots ∙ ap (λ ws. moved_slots s.max [] ws) h.no_queue
        ∙ ap (map marked) (take-nil (s.max - 0));
    no_queue = ap (λ ws. moved_queue s.max s.slots ws) h.no_queue ∙ drop-nil (s.max - length s.slots);
    has_slots = h.has_slots;
  }

  -- ---- polls

  apart_none : (before : List W) (w : W) (after : List W) → ◌≡◌ {A = List W} [] (before ++ w ∷ after) → ⊥
  apart_none [] w after e = cc
  apart_none (b ∷ before) w after e = cc

  idle_polls : (s : S) (p : P) (places : List ℕ) (e : Effect) (s2 : S) (p2 : P) → IsIdle s → PollsAt semantics order s p places e s2 p2 → StaysIdle s e s2
  idle_polls s p [] e s2 p2 h polls = record { idle = subst IsIdle (sym polls.1) h; same = ap (λ (x : S). x.service) polls.1; silent = ap (λ (x : Effect). x.out) polls.0 }
  idle_polls s p (place ∷ places) e s2 p2 h polls =
      let poll = polls.3 in
      absurd (apart_none poll.before poll.work poll.after (sym h.no_slots ∙ poll.stands))

  idle_round : (s : S) (p : P) (e : Effect) (s2 : S) (p2 : P) → IsIdle s → Round semantics order s p e s2 p2 → StaysIdle s e s2
  idle_round s p e s2 p2 h round =
      let polled = idle_polls (record s { slots = map marked s.slots }) p round.places e s2 p2
      (record { no_slots = ap (map marked) h.no_slots; no_queue = h.no_queue; has_slots = h.has_slots }) round.polls in
      record { idle = polled.idle; same = polled.same; silent = polled.silent }

  alone : (before : List W) (v w : W) (after : List W) → ◌≡◌ {A = List W} (v ∷ []) (before ++ w ∷ after) → (before ≡ []) × (after ≡ []) × (w ≡ v)
  alone [] v w after e = (refl, sym (tail e), sym (head e))
    where
      tail : ◌≡◌ {A = List W} (v ∷ []) (w ∷ after) → ◌≡◌ {A = List W} [] after
      tail e = cc

      head : ◌≡◌ {A = List W} (v ∷ []) (w ∷ after) → v ≡ w
      head e = cc
  alone (b ∷ before) v w after e = absurd (apart_none before w after (tail e))
    where
      tail : ◌≡◌ {A = List W} (v ∷ []) (b ∷ (before ++ w ∷ after)) → ◌≡◌ {A = List W} [] (before ++ w ∷ after)
      tail e = cc

  -- the one poll of a call that is begun ends it
  one_poll : (b : Begin semantics.Call) (s : S) (place : ℕ) (e : Effect) (s2 : S) → IsBegun b s → Poll semantics s place e s2 → HasEnded b s e s2
  one_poll b s place e s2 h poll =
      let is = alone poll.before h.work poll.work poll.after (sym h.slots ∙ poll.stands) in
      let polls : semantics.begins s.service b.call poll.asked poll.service poll.progress = subst (λ phase. Polls semantics s.service phase poll.asked poll.service poll.progress) (ap (λ (w : W). w.phase) is.2 ∙ h.fresh) poll.polls in
      let end = ends s.service b.call poll.asked poll.service poll.progress polls in
      let leaves : s2 ≡ after_poll s [] poll.work [] poll.service (Done end.0) poll.desk =
      poll.leaves ∙ ap (λ ws. after_poll s ws poll.work poll.after poll.service poll.progress poll.desk) is.0
      ∙ ap (λ ws. after_poll s [] poll.work ws poll.service poll.progress poll.desk) is.1
      ∙ ap (λ x. after_poll s [] poll.work [] poll.service x poll.desk) end.1 in
      let idle : IsIdle (after_poll s [] poll.work [] poll.service (Done end.0) poll.desk) =
      idle_moved (record s { service = poll.service; desk = poll.desk; slots = [] }) (record { no_slots = refl; no_queue = h.no_queue; has_slots = h.has_slots }) in
      record {
        idle = subst IsIdle (sym leaves) idle;
        led = subst (λ (x : S). leads b.call (show s.service) (show x.service)) (sym leaves) end.3;
        outcome = end.0;
        given = end.2;
        answered =
            ap (λ (x : Effect). responses_of x.out) poll.adds ∙ behind_requests poll.messages (answers_for poll.work.id poll.progress)
            ∙ ap (λ x. responses_of (answers_for poll.work.id x)) end.1
            ∙ ap (λ x. responses_of (answers_owed x end.0)) (ap (λ (w : W). w.id) is.2 ∙ h.is_of);
      }

  one_marked : (b : Begin semantics.Call) (s : S) → IsBegun b s → IsBegun b (record s { slots = map marked s.slots })
  one_marked b s h = record { work = marked h.work; slots = ap (map marked) h.slots; is_of = h.is_of; fresh = h.fresh; no_queue = h.no_queue; has_slots = h.has_slots }

  -- and nothing is done after it
  then_idle : (b : Begin semantics.Call) (s mid s2 : S) (e first rest : Effect) → HasEnded b s first mid → StaysIdle mid rest s2 → e ≡ both first rest → HasEnded b s e s2
  then_idle b s mid s2 e first rest h stays adds = record {
    idle = stays.idle;
    led = subst (λ x. leads b.call (show s.service) (show x)) (sym stays.same) h.led;
    outcome = h.outcome;
    given = h.given;
    answered = ap (λ (x : Effect). responses_of x.out) adds ∙ ap (λ x. responses_of (first.out ++ x)) stays.silent ∙ ap responses_of (append-nil first.out) ∙ h.answered;
  }

  one_polled : (b : Begin semantics.Call) (s : S) (p : P) (places : List ℕ) (e : Effect) (s2 : S) (p2 : P) → IsBegun b s → dues s.slots ≡ 1 → PollsAt semantics order s p places e s2 p2 → dues s2.slots ≡ 0 → HasEnded b s e s2
  one_polled b s p [] e s2 p2 h due polls none = let same = ap (λ (x : S). dues x.slots) polls.1 in absurd (omega (arith, same, due, none))
  one_polled b s p (place ∷ places) e s2 p2 h due polls none =
      let first = one_poll b s place polls.1 polls.0 h polls.3 in
      then_idle b s polls.0 s2 e polls.1 polls.2 first (idle_polls polls.0 _ places polls.2 s2 p2 first.idle polls.5) polls.6

  one_round : (b : Begin semantics.Call) (s : S) (p : P) (e : Effect) (s2 : S) (p2 : P) → IsBegun b s → Round semantics order s p e s2 p2 → HasEnded b s e s2
  one_round b s p e s2 p2 h round =
      let polled = one_polled b (record s { slots = map marked s.slots }) p round.places e s2 p2 (one_marked b s h) (ap (λ ws. dues (map marked ws)) h.slots) round.polls round.none_left in
      record { idle = polled.idle; led = polled.led; outcome = polled.outcome; given = polled.given; answered = polled.answered }

  idle_rounds : (n : ℕ) (s : S) (p : P) (e : Effect) (s2 : S) (p2 : P) → IsIdle s → Rounds semantics order n s p e s2 p2 → IsIdle s2 × (s2.service ≡ s.service)
  idle_rounds zero s p e s2 p2 h rounds = (subst IsIdle (sym rounds.1) h, ap (λ (x : S). x.service) rounds.1)
  idle_rounds (suc n) s p e s2 p2 h rounds =
      let before = idle_rounds n s p rounds.2 rounds.0 rounds.1 h rounds.4 in
      let last = idle_round rounds.0 rounds.1 rounds.3 s2 p2 before.0 rounds.5 in
      (last.idle, last.same ∙ before.1)

  one_rounds : (n : ℕ) (b : Begin semantics.Call) (s : S) (p : P) (e : Effect) (s2 : S) (p2 : P) → IsBegun b s → Rounds semantics order (suc n) s p e s2 p2 → HasEnded b s e s2
  one_rounds zero b s p e s2 p2 h rounds =
      let none = rounds.4 in
      let last = one_round b rounds.0 rounds.1 rounds.3 s2 p2 (subst (IsBegun b) (sym none.1) h) rounds.5 in
      record {
        idle = last.idle;
        led = subst (λ (x : S). leads b.call (show x.service) (show s2.service)) none.1 last.led;
        outcome = last.outcome;
        given = subst (λ (x : S). gives b.call (show x.service) last.outcome) none.1 last.given;
        answered = ap (λ (x : Effect). responses_of x.out) rounds.6 ∙ ap (λ (x : Effect). responses_of (x.out ++ rounds.3.out)) none.0 ∙ last.answered;
      }
  one_rounds (suc n) b s p e s2 p2 h rounds =
      let before = one_rounds n b s p rounds.2 rounds.0 rounds.1 h rounds.4 in
      then_idle b s rounds.0 s2 e rounds.2 rounds.3 before (idle_round rounds.0 rounds.1 rounds.3 s2 p2 before.idle rounds.5) rounds.6

  -- ---- admission

  idle_with : (s : S) (desk : DeskState) → IsIdle s → IsIdle (record s { desk = desk })
  idle_with s desk h = record { no_slots = h.no_slots; no_queue = h.no_queue; has_slots = h.has_slots }

  -- the calls that a verdict starts are at work then
  abbrev AreBegun : List (Begin semantics.Call) → S → Type 0
  AreBegun [] s = IsIdle s
  AreBegun (b ∷ []) s = IsBegun b s
  AreBegun (b ∷ d ∷ bs) s = ⊥

  kept : (s s2 t : S) → s2 ≡ t → IsIdle t → t.service ≡ s.service → IsIdle s2 × (s2.service ≡ s.service)
  kept s s2 t e h same = (subst IsIdle (sym e) h, ap (λ (x : S). x.service) e ∙ same)

  quits : (s s2 t : S) → s2 ≡ moved_up t → IsIdle t → t.service ≡ s.service → IsIdle s2 × (s2.service ≡ s.service)
  quits s s2 t e h same = kept s s2 (moved_up t) e (idle_moved t h) same

  without_none : (s : S) (i : IdData) → IsIdle s → IsIdle (record s { slots = without_request i s.slots; queue = without_request i s.queue })
  without_none s i h = record { no_slots = ap (without_request i) h.no_slots; no_queue = ap (without_request i) h.no_queue; has_slots = h.has_slots }

  no_notifications : (s : S) (desk : DeskState) (exited : Option Life) → IsIdle s → IsIdle (record s { desk = desk; exited = exited; slots = notifications s.slots; queue = notifications s.queue })
  no_notifications s desk exited h = record { no_slots = ap notifications h.no_slots; no_queue = ap notifications h.no_queue; has_slots = h.has_slots }

  enters : (s : S) (w : W) (b : Begin semantics.Call) → IsIdle s → w.id ≡ b.id → w.phase ≡ Fresh b.call → IsBegun b (entered s w)
  enters s w b h is_of fresh =
      let room : nat_lt (length s.slots) s.max ≡ true = lt-ltb (length s.slots) s.max (omega (arith, ap length h.no_slots, h.has_slots)) in
      record {
        work = w;
        slots = ap (λ b. cond b (s.slots ++ w ∷ []) s.slots) room ∙ ap (λ ws. ws ++ w ∷ []) h.no_slots;
        is_of = is_of;
        fresh = fresh;
        no_queue = ap (λ b. cond b s.queue (s.queue ++ w ∷ [])) room ∙ h.no_queue;
        has_slots = h.has_slots;
      }

  applied : (v : Verdict semantics.Call) (s : S) (e : Effect) (s2 : S) → IsIdle s → Applies semantics s v e s2 → AreBegun (starts v) s2 × (s2.service ≡ s.service)
  applied Silence s e s2 h a = kept s s2 s a.1 h refl
  applied (Refuses i error) s e s2 h a = kept s s2 s a.1 h refl
  applied (Answers r) s e s2 h a = kept s s2 (record s { desk = a.desk }) a.leaves (idle_with s a.desk h) refl
  applied (Cancels i) s e s2 h a = quits s s2 (record s { slots = without_request i s.slots; queue = without_request i s.queue }) a.1 (without_none s i h) refl
  applied Exits s e s2 h a = quits s s2 (record s { desk = a.desk; exited = Some s.desk.life; slots = notifications s.slots; queue = notifications s.queue }) a.leaves (no_notifications s a.desk (Some s.desk.life) h) refl
  applied (Starts id entry call) s e s2 h a =
      let w : W = record { id = id; entry = entry; phase = Fresh call; due = true } in
      let b : Begin semantics.Call = record { id = id; entry = entry; call = call } in
      (subst (IsBegun b) (sym a.1) (enters s w b h refl refl), ap (λ (x : S). x.service) a.1)

  -- ---- steps and runs

  led_on : (bs : List (Begin semantics.Call)) (n : ℕ) (s : S) (p : P) (e : Effect) (s2 : S) (p2 : P) → AreBegun bs s → Rounds semantics order (suc n) s p e s2 p2 → IsIdle s2 × LeadsOn leads bs (show s.service) (show s2.service)
  led_on [] n s p e s2 p2 h rounds = let last = idle_rounds (suc n) s p e s2 p2 h rounds in (last.0, ap show last.1)
  led_on (b ∷ []) n s p e s2 p2 h rounds = let last = one_rounds n b s p e s2 p2 h rounds in (last.idle, (_, last.led, refl))
  led_on (b ∷ d ∷ bs) n s p e s2 p2 h rounds = absurd h

  one_step : (n : ℕ) (s : Picked S P) (item : ItemData) (e : Effect) (s2 : Picked S P) → IsIdle s.session → Step semantics order (suc n) s item e s2
      → IsIdle s2.session × LeadsOn leads (starts (admission_of semantics s.session item).verdict) (show s.session.service) (show s2.session.service)
  one_step n s item e s2 h step =
      let bs = starts (admission_of semantics s.session item).verdict in
      let admits = step.admits in
      let changed : IsIdle admits.mid = subst IsIdle (sym admits.changes.leaves) (idle_with s.session admits.changes.desk h) in
      let begun = applied (admission_of semantics s.session item).verdict admits.mid admits.rest step.admitted changed admits.applies in
      let same : step.admitted.service ≡ s.session.service = begun.1 ∙ ap (λ (x : S). x.service) admits.changes.leaves in
      let polled = led_on bs n step.admitted s.pick step.second step.polled s2.pick begun.0 step.polls in
      let drained = kept step.polled s2.session (record step.polled { desk = step.drains.desk }) step.drains.leaves (idle_with step.polled step.drains.desk polled.0) refl in
      (drained.0, subst (λ x. LeadsOn leads bs (show s.session.service) (show x)) (sym drained.1) (subst (λ x. LeadsOn leads bs (show x) (show step.polled.service)) same polled.1))

  -- what is answered in a step that starts a call is that call's outcome, which it gives by the value before the step
  pub record IsAnswered (b : Begin semantics.Call) (s : S) (e : Effect) : Type 0 where
    pub outcome : Result Data ErrorData
    pub given : gives b.call (show s.service) outcome
    pub answered : responses_of e.out ≡ responses_of (answers_owed b.id outcome)

  answered_in : (n : ℕ) (s : Picked S P) (item : ItemData) (e : Effect) (s2 : Picked S P) → IsIdle s.session → Step semantics order (suc n) s item e s2
      → (b : Begin semantics.Call) → (admission_of semantics s.session item).verdict ≡ Starts b.id b.entry b.call → IsAnswered b s.session e
  answered_in n s item e s2 h step b is =
      let admits = step.admits in
      let changed : IsIdle admits.mid = subst IsIdle (sym admits.changes.leaves) (idle_with s.session admits.changes.desk h) in
      let w : W = record { id = b.id; entry = b.entry; phase = Fresh b.call; due = true } in
      let a : Applies semantics admits.mid (Starts b.id b.entry b.call) admits.rest step.admitted = subst (λ v. Applies semantics admits.mid v admits.rest step.admitted) is admits.applies in
      let begun : IsBegun b step.admitted = subst (IsBegun b) (sym a.1) (enters admits.mid w b changed refl refl) in
      let same : step.admitted.service ≡ s.session.service = ap (λ (x : S). x.service) a.1 ∙ ap (λ (x : S). x.service) admits.changes.leaves in
      let ended = one_rounds n b step.admitted s.pick step.second step.polled s2.pick begun step.polls in
      let none : step.first.out ≡ [] =
      ap (λ (x : Effect). x.out) admits.adds ∙ ap (λ (x : Effect). x.out ++ admits.rest.out) admits.changes.adds ∙ ap (λ (x : Effect). x.out) a.0 in
      record {
        outcome = ended.outcome;
        given = subst (λ x. gives b.call (show x) ended.outcome) same ended.given;
        answered =
            ap (λ (x : Effect). responses_of x.out) step.adds ∙ ap (λ x. responses_of (x ++ (step.second.out ++ step.third.out))) none
            ∙ ap (λ (x : Effect). responses_of (step.second.out ++ x.out)) step.drains.adds ∙ before_requests step.second.out step.drains.messages ∙ ended.answered;
      }

  joined : (bs ds : List (Begin semantics.Call)) (x y z : X) → LeadsOn leads bs x y → LeadsOn leads ds y z → LeadsOn leads (bs ++ ds) x z
  joined [] ds x y z h k = subst (λ w. LeadsOn leads ds w z) h k
  joined (b ∷ bs) ds x y z h k = (h.0, h.1, joined bs ds h.0 y z h.2 k)

  leads_on_run : (n : ℕ) (s : Picked S P) (items : List ItemData) (e : Effect) (s2 : Picked S P) → IsIdle s.session → (run : Run (Step semantics order (suc n)) s items e s2)
      → IsIdle s2.session × LeadsOn leads (started semantics order (suc n) s items e s2 run) (show s.session.service) (show s2.session.service)
  leads_on_run n s [] e s2 h run = (subst (λ (x : Picked S P). IsIdle x.session) (sym run.1) h, ap (λ (x : Picked S P). show x.session.service) run.1)
  leads_on_run n s (item ∷ items) e s2 h run =
      let step = one_step n s item run.1 run.0 h run.3 in
      let rest = leads_on_run n run.0 items run.2 s2 step.0 run.4 in
      (rest.0, joined (starts (admission_of semantics s.session item).verdict) _ (show s.session.service) (show run.0.session.service) (show s2.session.service) step.1 rest.1)

  -- after a run no call is at work
  pub run_leads : (rounds : ℕ) → 1 ≤ rounds → (s : Picked S P) (items : List ItemData) (e : Effect) (s2 : Picked S P) → IsIdle s.session → (run : Run (Step semantics order rounds) s items e s2)
      → IsIdle s2.session × LeadsOn leads (started semantics order rounds s items e s2 run) (show s.session.service) (show s2.session.service)
  run_leads zero some s items e s2 h run = absurd (omega arith)
  run_leads (suc n) some s items e s2 h run = leads_on_run n s items e s2 h run

  pub step_answers : (rounds : ℕ) → 1 ≤ rounds → (s : Picked S P) (item : ItemData) (e : Effect) (s2 : Picked S P) → IsIdle s.session → Step semantics order rounds s item e s2
      → (b : Begin semantics.Call) → (admission_of semantics s.session item).verdict ≡ Starts b.id b.entry b.call → IsAnswered b s.session e
  step_answers zero some s item e s2 h step b is = absurd (omega arith)
  step_answers (suc n) some s item e s2 h step b is = answered_in n s item e s2 h step b is
