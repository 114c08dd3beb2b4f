-- Two runs of a session over the same items do the same, where others make no calls on its desk and each poll comes to one end.
use Rattle.std.proofs.Common.{◌≡◌, ◌≤◌, ◌%◌, ℕ, zero, suc, List, [], ◌∷◌, ◌++◌, Bool, true, cond, Some, refl, sym, ap, ◌∙◌, subst, arith, map}
use Rattle.std.specs.Prelude.{if◌then◌else◌}
use Rattle.lsp_rpc.specs.Message.{RequestData, ResponseData, MessageData, request}
use Rattle.lsp_desk.specs.Call.{Call}
use Rattle.lsp_desk.specs.Call as calls
use Rattle.lsp_desk.specs.Reply.{Reply}
use Rattle.lsp_desk.specs.Reply as replies
use Rattle.lsp_desk.specs.Desk.{DeskState, desk_step}
use Rattle.lsp_desk.specs.Trace.{DeskEntry, TraceEntry, Replays, Makes, AllOwn, mine, owns}
use Rattle.lsp_desk.specs.Trace as traces
use Rattle.lsp_desk.proofs.TraceLemmas.{all_owns}
use Rattle.lsp_session.proofs.RoundLemmas.{dues-append, dues-cons}
use Rattle.lsp_session.specs.declared.life_check.LifeChange.{LifeChange}
use Rattle.lsp_session.specs.Determined.{IsDetermined}
use Rattle.lsp_session.specs.Admission.{Verdict, Silence, Refuses, Answers, Cancels, Exits, Starts, Admission, admission, reads_by}
use Rattle.lsp_session.specs.Item.{ItemData}
use Rattle.lsp_session.specs.Run.{Order, Picked, Step, Run, Rounds, Round, PollsAt, Poll, Applies, Admits, Changes, GivesAnswer, Quits, Drains, after_poll, admission_of, occasion, replied, changing, poll_change, answers_for, cancelled}
use Rattle.lsp_session.specs.Semantics.{Semantics, Progress, Pending, Done, Fresh, Polls}
use Rattle.lsp_session.specs.State.{State, Work, Effect, marked, dues, entered, moved_up, without_request, notifications, live, both}

-- ---- what is made on a desk that others don't use

all_both : (a b : List TraceEntry) → AllOwn (a ++ b) → AllOwn a × AllOwn b
all_both [] b h = (tt, h)
all_both (t ∷ a) b h = let rest = all_both a b h.1 in ((h.0, rest.0), rest.1)

pub both_all : (a b : List TraceEntry) → AllOwn a → AllOwn b → AllOwn (a ++ b)
both_all [] b p q = q
both_all (t ∷ a) b p q = (p.0, both_all a b p.1 q)

all_mine : (a : List TraceEntry) → AllOwn a → a ≡ map mine (owns a)
all_mine [] h = refl
all_mine (t ∷ a) h =
    ap (λ (o : Bool). let x : TraceEntry = record { own = o; entry = t.entry } in x ∷ a) h.0 ∙ ap (λ l. mine t.entry ∷ l) (all_mine a h.1)
    ∙ ap (λ o. map mine (if o then t.entry ∷ owns a else owns a)) (sym h.0)

replays_same : (d d2 d3 : DeskState) (own : List DeskEntry) → Replays d own d2 → Replays d own d3 → d3 ≡ d2
replays_same d d2 d3 [] h k = k ∙ sym h
replays_same d d2 d3 (entry ∷ own) h k = replays_same (traces.after d entry) d2 d3 own h.1 k.1

own_replays : (d d2 : DeskState) (own : List DeskEntry) (trace : List TraceEntry) → Makes d own trace d2 → AllOwn trace → Replays d own d2
own_replays d d2 own trace h all = subst (λ l. Replays d l d2) (all_owns trace all ∙ h.own_are) h.replays

module _ (d e d2 e2 : DeskState) (trace trace2 : List TraceEntry) (desk : e ≡ d) where
  same_makes : (own own2 : List DeskEntry) → own2 ≡ own → Makes d own trace d2 → Makes e own2 trace2 e2 → AllOwn trace → AllOwn trace2 → (trace2 ≡ trace) × (e2 ≡ d2)
  same_makes own own2 same h k all all2 = (
    all_mine trace2 all2 ∙ ap (map mine) (k.own_are ∙ same ∙ sym h.own_are) ∙ sym (all_mine trace all),
    replays_same d d2 e2 own (own_replays d d2 own trace h all)
        (subst (λ l. Replays d l e2) same (subst (λ x. Replays x own2 e2) desk (own_replays e e2 own2 trace2 k all2))),
  )

  -- the desk replies the same to one call
  same_call : (c : Call) (r r2 : Reply) → Makes d (replied c r ∷ []) trace d2 → Makes e (replied c r2 ∷ []) trace2 e2 → AllOwn trace → AllOwn trace2 → (r2 ≡ r) × (trace2 ≡ trace) × (e2 ≡ d2)
  same_call c r r2 h k all all2 =
      let reply : r2 ≡ r =
      (own_replays e e2 (replied c r2 ∷ []) trace2 k all2).0 ∙ ap (λ (x : DeskState). (desk_step x c).0) desk
      ∙ sym (own_replays d d2 (replied c r ∷ []) trace h all).0 in
      let made = same_makes (replied c r ∷ []) (replied c r2 ∷ []) (ap (λ x. replied c x ∷ []) reply) h k all all2 in
      (reply, made.0, made.1)

same_messages : (ms ms2 : List RequestData) → replies.Messages ms2 ≡ replies.Messages ms → ms2 ≡ ms
same_messages ms ms2 e = cc

-- ---- effects

abbrev effect : List TraceEntry → List MessageData → Effect
effect trace out = record { trace = trace; out = out }

own_in : (e e2 : Effect) → e ≡ e2 → AllOwn e.trace → AllOwn e2.trace
own_in e e2 is all = subst (λ (x : Effect). AllOwn x.trace) is all

pub own_in_both : (e a b : Effect) → e ≡ both a b → AllOwn e.trace → AllOwn a.trace × AllOwn b.trace
own_in_both e a b is all = all_both a.trace b.trace (own_in e (both a b) is all)

both_same : (e e2 a a2 b b2 : Effect) → e ≡ both a b → e2 ≡ both a2 b2 → a2 ≡ a → b2 ≡ b → e2 ≡ e
both_same e e2 a a2 b b2 is is2 p q = is2 ∙ ap (λ x. both x b2) p ∙ ap (λ x. both a x) q ∙ sym is

-- ---- the work that is due at a place

heads : {A : Type 0} (a b : A) (xs ys : List A) → ◌≡◌ {A = List A} (a ∷ xs) (b ∷ ys) → a ≡ b
heads a b xs ys e = cc

tails : {A : Type 0} (a b : A) (xs ys : List A) → ◌≡◌ {A = List A} (a ∷ xs) (b ∷ ys) → xs ≡ ys
tails a b xs ys e = cc

abbrev counted : Bool → ℕ
counted b = cond b 1 0

module _ {C T : Type 0} where
  some_due : (before : List (Work C T)) (w : Work C T) (after : List (Work C T)) → w.due ≡ true → 1 ≤ dues (before ++ w ∷ after)
  some_due before w after due =
      let whole = dues-append before (w ∷ after) in
      let first = dues-cons w after in
      let one = ap counted due in
      omega (arith, whole, first, one)

  same_split : (before : List (Work C T)) (w : Work C T) (after before2 : List (Work C T)) (w2 : Work C T) (after2 : List (Work C T)) → before2 ++ w2 ∷ after2 ≡ before ++ w ∷ after → w.due ≡ true → w2.due ≡ true → dues before2 ≡ dues before
      → (before2 ≡ before) × (w2 ≡ w) × (after2 ≡ after)
  same_split [] w after [] w2 after2 e due due2 n = (refl, heads w2 w after2 after e, tails w2 w after2 after e)
  same_split [] w after (b ∷ before2) w2 after2 e due due2 n =
      let first = some_due [] b before2 (ap (λ (x : Work C T). x.due) (heads b w (before2 ++ w2 ∷ after2) after e) ∙ due) in
      absurd (omega (arith, first, n))
  same_split (b ∷ before) w after [] w2 after2 e due due2 n =
      let first = some_due [] b before (ap (λ (x : Work C T). x.due) (sym (heads w2 b after2 (before ++ w ∷ after) e)) ∙ due2) in
      absurd (omega (arith, first, n))
  same_split (b ∷ before) w after (b2 ∷ before2) w2 after2 e due due2 n =
      let head = heads b2 b (before2 ++ w2 ∷ after2) (before ++ w ∷ after) e in
      let one = ap (λ (x : Work C T). counted x.due) head in
      let less : dues before2 ≡ dues before = let c = dues-cons b before in let c2 = dues-cons b2 before2 in omega (arith, n, one, c, c2) in
      let rest = same_split before w after before2 w2 after2 (tails b2 b (before2 ++ w2 ∷ after2) (before ++ w ∷ after) e) due due2 less in
      (ap (λ x. x ∷ before2) head ∙ ap (λ xs. b ∷ xs) rest.0, rest.1, rest.2)

-- ---- runs

-- where what is seen of the handlers determines each poll
module _ {H C T P X : Type 0} (semantics : Semantics H C T) (order : Order P) (show : H → X) (determined : IsDetermined semantics show) where
  abbrev S : Type 0
  S = State H semantics.Call semantics.Task

  abbrev W : Type 0
  W = Work semantics.Call semantics.Task

  abbrev V : Type 0
  V = State X semantics.Call semantics.Task

  abbrev seen : S → V
  seen s = record { service = show s.service; desk = s.desk; exited = s.exited; max = s.max; wait = s.wait; empty_params = s.empty_params; slots = s.slots; queue = s.queue }

  desks : (s t : S) → seen t ≡ seen s → t.desk ≡ s.desk
  desks s t q = ap (λ (x : V). x.desk) q

  -- a state with another desk
  placed : (s t s2 t2 : S) (d d2 : DeskState) → seen t ≡ seen s → s2 ≡ record s { desk = d } → t2 ≡ record t { desk = d2 } → d2 ≡ d → seen t2 ≡ seen s2
  placed s t s2 t2 d d2 q is is2 same =
      ap seen is2 ∙ ap (λ x. let v : V = record (seen t) { desk = x } in v) same ∙ ap (λ (x : V). let v : V = record x { desk = d } in v) q ∙ sym (ap seen is)

  -- ---- admission

  same_changes : (s t : S) (change change2 : LifeChange) (e e2 : Effect) (s2 t2 : S) → seen t ≡ seen s → change2 ≡ change → Changes s change e s2 → Changes t change2 e2 t2 → AllOwn e.trace → AllOwn e2.trace → (e2 ≡ e) × (seen t2 ≡ seen s2)
  same_changes s t change change2 e e2 s2 t2 q changed h k all all2 =
      let made = same_makes s.desk t.desk h.desk k.desk h.trace k.trace (desks s t q) (changing change) (changing change2) (ap changing changed) h.makes k.makes (own_in e _ h.adds all) (own_in e2 _ k.adds all2) in
      (k.adds ∙ ap (λ trace. effect trace []) made.0 ∙ sym h.adds, placed s t s2 t2 h.desk k.desk q h.leaves k.leaves made.1)

  same_given : (s t : S) (r : ResponseData) (e e2 : Effect) (s2 t2 : S) → seen t ≡ seen s → GivesAnswer s r e s2 → GivesAnswer t r e2 t2 → AllOwn e.trace → AllOwn e2.trace → (e2 ≡ e) × (seen t2 ≡ seen s2)
  same_given s t r e e2 s2 t2 q h k all all2 =
      let made = same_call s.desk t.desk h.desk k.desk h.trace k.trace (desks s t q) (calls.Answer r) h.gives.0 k.gives.0
      (subst (λ l. Makes s.desk l h.trace h.desk) h.gives.1 h.makes) (subst (λ l. Makes t.desk l k.trace k.desk) k.gives.1 k.makes) (own_in e _ h.adds all) (own_in e2 _ k.adds all2) in
      (k.adds ∙ ap (λ trace. effect trace []) made.1 ∙ sym h.adds, placed s t s2 t2 h.desk k.desk q h.leaves k.leaves made.2)

  -- what is seen after an exit
  abbrev quit : V → DeskState → V
  quit x d = moved_up (record x { desk = d; exited = Some x.desk.life; slots = notifications x.slots; queue = notifications x.queue })

  same_quits : (s t : S) (e e2 : Effect) (s2 t2 : S) → seen t ≡ seen s → Quits s e s2 → Quits t e2 t2 → AllOwn e.trace → AllOwn e2.trace → (e2 ≡ e) × (seen t2 ≡ seen s2)
  same_quits s t e e2 s2 t2 q h k all all2 =
      let made = same_call s.desk t.desk h.desk k.desk h.trace k.trace (desks s t q) calls.Close (replies.Messages h.messages) (replies.Messages k.messages) h.makes k.makes (own_in e _ h.adds all) (own_in e2 _ k.adds all2) in (
        k.adds ∙ ap (λ trace. effect trace (map request k.messages ++ map cancelled (live t))) made.1
            ∙ ap (λ ms. effect h.trace (map request ms ++ map cancelled (live t))) (same_messages h.messages k.messages made.0)
            ∙ ap (λ (x : V). effect h.trace (map request h.messages ++ map cancelled (live x))) q ∙ sym h.adds,
        ap seen k.leaves ∙ ap (λ d. quit (seen t) d) made.2 ∙ ap (λ x. quit x h.desk) q ∙ sym (ap seen h.leaves),
      )

  same_applied : (v : Verdict semantics.Call) (s t : S) (e e2 : Effect) (s2 t2 : S) → seen t ≡ seen s → Applies semantics s v e s2 → Applies semantics t v e2 t2 → AllOwn e.trace → AllOwn e2.trace → (e2 ≡ e) × (seen t2 ≡ seen s2)
  same_applied Silence s t e e2 s2 t2 q h k all all2 = (k.0 ∙ sym h.0, ap seen k.1 ∙ q ∙ sym (ap seen h.1))
  same_applied (Refuses i error) s t e e2 s2 t2 q h k all all2 = (k.0 ∙ sym h.0, ap seen k.1 ∙ q ∙ sym (ap seen h.1))
  same_applied (Answers r) s t e e2 s2 t2 q h k all all2 = same_given s t r e e2 s2 t2 q h k all all2
  same_applied (Cancels i) s t e e2 s2 t2 q h k all all2 =
      (k.0 ∙ sym h.0, ap seen k.1 ∙ ap (λ (x : V). moved_up (record x { slots = without_request i x.slots; queue = without_request i x.queue })) q ∙ sym (ap seen h.1))
  same_applied Exits s t e e2 s2 t2 q h k all all2 = same_quits s t e e2 s2 t2 q h k all all2
  same_applied (Starts id entry call) s t e e2 s2 t2 q h k all all2 =
      let w : W = record { id = id; entry = entry; phase = Fresh call; due = true } in
      (k.0 ∙ sym h.0, ap seen k.1 ∙ ap (λ (x : V). entered x w) q ∙ sym (ap seen h.1))

  same_admission : (s t : S) (item : ItemData) → seen t ≡ seen s → admission_of semantics t item ≡ admission_of semantics s item
  same_admission s t item q =
      ap (λ (x : V). admission (occasion x) (semantics.find t.service) (reads_by x.empty_params semantics.reads) item) q
      ∙ ap (λ find. admission (occasion s) find (reads_by s.empty_params semantics.reads) item) (determined.finds s.service t.service (ap (λ (x : V). x.service) q))

  same_admits : (s t : S) (a a2 : Admission semantics.Call) (e e2 : Effect) (s2 t2 : S) → seen t ≡ seen s → a2 ≡ a → Admits semantics s a e s2 → Admits semantics t a2 e2 t2 → AllOwn e.trace → AllOwn e2.trace → (e2 ≡ e) × (seen t2 ≡ seen s2)
  same_admits s t a a2 e e2 s2 t2 q same h k all all2 =
      let own = own_in_both e h.first h.rest h.adds all in
      let own2 = own_in_both e2 k.first k.rest k.adds all2 in
      let changed = same_changes s t a.change a2.change h.first k.first h.mid k.mid q (ap (λ (x : Admission semantics.Call). x.change) same) h.changes k.changes own.0 own2.0 in
      let verdict = ap (λ (x : Admission semantics.Call). x.verdict) same in
      let applied = same_applied a.verdict h.mid k.mid h.rest k.rest s2 t2 changed.1 h.applies (subst (λ v. Applies semantics k.mid v k.rest t2) verdict k.applies) own.1 own2.1 in
      (both_same e e2 h.first k.first h.rest k.rest h.adds k.adds changed.0 applied.0, applied.1)

  -- ---- polls

  seen_after : (s : S) (before : List W) (w : W) (after : List W) (service : H) (progress : Progress semantics.Task) (desk : DeskState)
      → seen (after_poll s before w after service progress desk) ≡ after_poll (seen s) before w after (show service) progress desk
  seen_after s before w after service (Pending t) desk = refl
  seen_after s before w after service (Done outcome) desk = refl

  same_after : (x y : V) (before before2 : List W) (w w2 : W) (after after2 : List W) (service service2 : X) (progress progress2 : Progress semantics.Task) (desk desk2 : DeskState)
      → y ≡ x → before2 ≡ before → w2 ≡ w → after2 ≡ after → service2 ≡ service → progress2 ≡ progress → desk2 ≡ desk
      → after_poll y before2 w2 after2 service2 progress2 desk2 ≡ after_poll x before w after service progress desk
  same_after x y before before2 w w2 after after2 service service2 progress progress2 desk desk2 a b c d e f g =
      ap (λ z. after_poll z before2 w2 after2 service2 progress2 desk2) a
      ∙ ap (λ z. after_poll x z w2 after2 service2 progress2 desk2) b
      ∙ ap (λ z. after_poll x before z after2 service2 progress2 desk2) c
      ∙ ap (λ z. after_poll x before w z service2 progress2 desk2) d
      ∙ ap (λ z. after_poll x before w after z progress2 desk2) e
      ∙ ap (λ z. after_poll x before w after service z desk2) f
      ∙ ap (λ z. after_poll x before w after service progress z) g

  same_poll : (s t : S) (place place2 : ℕ) (e e2 : Effect) (s2 t2 : S) → seen t ≡ seen s → place2 ≡ place → Poll semantics s place e s2 → Poll semantics t place2 e2 t2 → AllOwn e.trace → AllOwn e2.trace → (e2 ≡ e) × (seen t2 ≡ seen s2)
  same_poll s t place place2 e e2 s2 t2 q at h k all all2 =
      let split = same_split h.before h.work h.after k.before k.work k.after (sym k.stands ∙ ap (λ (x : V). x.slots) q ∙ h.stands) h.is_due k.is_due (k.at_place ∙ at ∙ sym h.at_place) in
      let work : k.work ≡ h.work = split.1 in
      let own = all_both h.polled (h.taken ++ h.changed) (own_in e _ h.adds all) in
      let own2 = all_both k.polled (k.taken ++ k.changed) (own_in e2 _ k.adds all2) in
      let last = all_both h.taken h.changed own.1 in
      let last2 = all_both k.taken k.changed own2.1 in
      let desk = desks s t q in
      let ended = determined.ends s.desk h.polled_desk k.polled_desk s.service t.service h.work.phase h.asked k.asked h.service k.service h.progress k.progress (ap (λ (x : V). x.service) q) h.polls
      (subst (λ phase. Polls semantics t.service phase k.asked k.service k.progress) (ap (λ (w : W). w.phase) work) k.polls)
      (own_replays s.desk h.polled_desk h.asked h.polled h.asks own.0)
      (subst (λ d. Replays d k.asked k.polled_desk) desk (own_replays t.desk k.polled_desk k.asked k.polled k.asks own2.0)) in
      let asks = same_makes s.desk t.desk h.polled_desk k.polled_desk h.polled k.polled desk h.asked k.asked ended.0 h.asks k.asks own.0 own2.0 in
      let takes = same_call h.polled_desk k.polled_desk h.taken_desk k.taken_desk h.taken k.taken asks.1 calls.Take (replies.Messages h.messages) (replies.Messages k.messages) h.takes k.takes last.0 last2.0 in
      let change = ap (λ (d : DeskState). changing (poll_change d.life k.work.entry.layer k.progress)) takes.2
      ∙ ap (λ (w : W). changing (poll_change h.taken_desk.life w.entry.layer k.progress)) work
      ∙ ap (λ x. changing (poll_change h.taken_desk.life h.work.entry.layer x)) ended.2 in
      let changes = same_makes h.taken_desk k.taken_desk h.desk k.desk h.changed k.changed takes.2 _ _ change h.changes k.changes last.1 last2.1 in (
        k.adds ∙ ap (λ l. effect (l ++ (k.taken ++ k.changed)) (map request k.messages ++ answers_for k.work.id k.progress)) asks.0
            ∙ ap (λ l. effect (h.polled ++ (l ++ k.changed)) (map request k.messages ++ answers_for k.work.id k.progress)) takes.1
            ∙ ap (λ l. effect (h.polled ++ (h.taken ++ l)) (map request k.messages ++ answers_for k.work.id k.progress)) changes.0
            ∙ ap (λ ms. effect (h.polled ++ (h.taken ++ h.changed)) (map request ms ++ answers_for k.work.id k.progress)) (same_messages h.messages k.messages takes.0)
            ∙ ap (λ (w : W). effect (h.polled ++ (h.taken ++ h.changed)) (map request h.messages ++ answers_for w.id k.progress)) work
            ∙ ap (λ x. effect (h.polled ++ (h.taken ++ h.changed)) (map request h.messages ++ answers_for h.work.id x)) ended.2 ∙ sym h.adds,
        ap seen k.leaves ∙ seen_after t k.before k.work k.after k.service k.progress k.desk
            ∙ same_after (seen s) (seen t) h.before k.before h.work k.work h.after k.after (show h.service) (show k.service) h.progress k.progress h.desk k.desk q split.0 work split.2 ended.1 ended.2 changes.1
            ∙ sym (ap seen h.leaves ∙ seen_after s h.before h.work h.after h.service h.progress h.desk),
      )

  -- where none is due, none is polled
  none_polled : (s t : S) (place : ℕ) (e : Effect) (s2 : S) → seen t ≡ seen s → dues s.slots ≡ 0 → Poll semantics t place e s2 → ⊥
  none_polled s t place e s2 q none h =
      let some = some_due h.before h.work h.after h.is_due in
      let same : dues (h.before ++ h.work ∷ h.after) ≡ dues s.slots = ap dues (sym h.stands ∙ ap (λ (x : V). x.slots) q) in
      omega (arith, some, same, none)

  same_polls : (places places2 : List ℕ) (s t : S) (p r : P) (e e2 : Effect) (s2 t2 : S) (p2 r2 : P) → seen t ≡ seen s → r ≡ p → PollsAt semantics order s p places e s2 p2 → PollsAt semantics order t r places2 e2 t2 r2
      → dues s2.slots ≡ 0 → dues t2.slots ≡ 0 → AllOwn e.trace → AllOwn e2.trace → (e2 ≡ e) × (seen t2 ≡ seen s2) × (r2 ≡ p2)
  same_polls [] [] s t p r e e2 s2 t2 p2 r2 q pick h k none none2 all all2 = (k.0 ∙ sym h.0, ap seen k.1 ∙ q ∙ sym (ap seen h.1), k.2 ∙ pick ∙ sym h.2)
  same_polls [] (b ∷ places2) s t p r e e2 s2 t2 p2 r2 q pick h k none none2 all all2 =
      absurd (none_polled s t b k.1 k.0 q (ap (λ (x : S). dues x.slots) (sym h.1) ∙ none) k.3)
  same_polls (a ∷ places) [] s t p r e e2 s2 t2 p2 r2 q pick h k none none2 all all2 =
      absurd (none_polled t s a h.1 h.0 (sym q) (ap (λ (x : S). dues x.slots) (sym k.1) ∙ none2) h.3)
  same_polls (a ∷ places) (b ∷ places2) s t p r e e2 s2 t2 p2 r2 q pick h k none none2 all all2 =
      let at : b ≡ a = k.4 ∙ ap (λ (x : V). order.gives r (dues x.slots) % dues x.slots) q ∙ ap (λ x. order.gives x (dues s.slots) % dues s.slots) pick ∙ sym h.4 in
      let own = own_in_both e h.1 h.2 h.6 all in
      let own2 = own_in_both e2 k.1 k.2 k.6 all2 in
      let first = same_poll s t a b h.1 k.1 h.0 k.0 q at h.3 k.3 own.0 own2.0 in
      let later = ap (λ (x : V). order.later r (dues x.slots)) q ∙ ap (λ x. order.later x (dues s.slots)) pick in
      let rest = same_polls places places2 h.0 k.0 (order.later p (dues s.slots)) (order.later r (dues t.slots)) h.2 k.2 s2 t2 p2 r2 first.1 later h.5 k.5 none none2 own.1 own2.1 in
      (both_same e e2 h.1 k.1 h.2 k.2 h.6 k.6 first.0 rest.0, rest.1, rest.2)

  same_round : (s t : S) (p r : P) (e e2 : Effect) (s2 t2 : S) (p2 r2 : P) → seen t ≡ seen s → r ≡ p → Round semantics order s p e s2 p2 → Round semantics order t r e2 t2 r2 → AllOwn e.trace → AllOwn e2.trace → (e2 ≡ e) × (seen t2 ≡ seen s2) × (r2 ≡ p2)
  same_round s t p r e e2 s2 t2 p2 r2 q pick h k all all2 =
      same_polls h.places k.places (record s { slots = map marked s.slots }) (record t { slots = map marked t.slots }) p r e e2 s2 t2 p2 r2
      (ap (λ (x : V). let v : V = record x { slots = map marked x.slots } in v) q) pick h.polls k.polls h.none_left k.none_left all all2

  same_rounds : (n : ℕ) (s t : S) (p r : P) (e e2 : Effect) (s2 t2 : S) (p2 r2 : P) → seen t ≡ seen s → r ≡ p → Rounds semantics order n s p e s2 p2 → Rounds semantics order n t r e2 t2 r2 → AllOwn e.trace → AllOwn e2.trace → (e2 ≡ e) × (seen t2 ≡ seen s2) × (r2 ≡ p2)
  same_rounds zero s t p r e e2 s2 t2 p2 r2 q pick h k all all2 = (k.0 ∙ sym h.0, ap seen k.1 ∙ q ∙ sym (ap seen h.1), k.2 ∙ pick ∙ sym h.2)
  same_rounds (suc n) s t p r e e2 s2 t2 p2 r2 q pick h k all all2 =
      let own = own_in_both e h.2 h.3 h.6 all in
      let own2 = own_in_both e2 k.2 k.3 k.6 all2 in
      let before = same_rounds n s t p r h.2 k.2 h.0 k.0 h.1 k.1 q pick h.4 k.4 own.0 own2.0 in
      let last = same_round h.0 k.0 h.1 k.1 h.3 k.3 s2 t2 p2 r2 before.1 before.2 h.5 k.5 own.1 own2.1 in
      (both_same e e2 h.2 k.2 h.3 k.3 h.6 k.6 before.0 last.0, last.1, last.2)

  -- ---- steps and runs

  same_drains : (s t : S) (e e2 : Effect) (s2 t2 : S) → seen t ≡ seen s → Drains s e s2 → Drains t e2 t2 → AllOwn e.trace → AllOwn e2.trace → (e2 ≡ e) × (seen t2 ≡ seen s2)
  same_drains s t e e2 s2 t2 q h k all all2 =
      let made = same_call s.desk t.desk h.desk k.desk h.trace k.trace (desks s t q) calls.Take (replies.Messages h.messages) (replies.Messages k.messages) h.takes k.takes (own_in e _ h.adds all) (own_in e2 _ k.adds all2) in (
        k.adds ∙ ap (λ trace. effect trace (map request k.messages)) made.1 ∙ ap (λ ms. effect h.trace (map request ms)) (same_messages h.messages k.messages made.0) ∙ sym h.adds,
        placed s t s2 t2 h.desk k.desk q h.leaves k.leaves made.2,
      )

  same_step : (rounds : ℕ) (s t : Picked S P) (item : ItemData) (e e2 : Effect) (s2 t2 : Picked S P) → seen t.session ≡ seen s.session → t.pick ≡ s.pick → Step semantics order rounds s item e s2 → Step semantics order rounds t item e2 t2
      → AllOwn e.trace → AllOwn e2.trace → (e2 ≡ e) × (seen t2.session ≡ seen s2.session) × (t2.pick ≡ s2.pick)
  same_step rounds s t item e e2 s2 t2 q pick h k all all2 =
      let own = own_in_both e h.first (both h.second h.third) h.adds all in
      let own2 = own_in_both e2 k.first (both k.second k.third) k.adds all2 in
      let last = all_both h.second.trace h.third.trace own.1 in
      let last2 = all_both k.second.trace k.third.trace own2.1 in
      let admitted = same_admits s.session t.session _ _ h.first k.first h.admitted k.admitted q (same_admission s.session t.session item q) h.admits k.admits own.0 own2.0 in
      let polled = same_rounds rounds h.admitted k.admitted s.pick t.pick h.second k.second h.polled k.polled s2.pick t2.pick admitted.1 pick h.polls k.polls last.0 last2.0 in
      let drained = same_drains h.polled k.polled h.third k.third s2.session t2.session polled.1 h.drains k.drains last.1 last2.1 in (
        both_same e e2 h.first k.first (both h.second h.third) (both k.second k.third) h.adds k.adds admitted.0 (both_same (both h.second h.third) (both k.second k.third) h.second k.second h.third k.third refl refl polled.0 drained.0),
        drained.1,
        polled.2,
      )

  same_runs : (rounds : ℕ) (items : List ItemData) (s t : Picked S P) (e e2 : Effect) (s2 t2 : Picked S P) → seen t.session ≡ seen s.session → t.pick ≡ s.pick → Run (Step semantics order rounds) s items e s2 → Run (Step semantics order rounds) t items e2 t2
      → AllOwn e.trace → AllOwn e2.trace → (e2 ≡ e) × (seen t2.session ≡ seen s2.session)
  same_runs rounds [] s t e e2 s2 t2 q pick h k all all2 = (k.0 ∙ sym h.0, ap (λ (x : Picked S P). seen x.session) k.1 ∙ q ∙ sym (ap (λ (x : Picked S P). seen x.session) h.1))
  same_runs rounds (item ∷ items) s t e e2 s2 t2 q pick h k all all2 =
      let own = own_in_both e h.1 h.2 h.5 all in
      let own2 = own_in_both e2 k.1 k.2 k.5 all2 in
      let first = same_step rounds s t item h.1 k.1 h.0 k.0 q pick h.3 k.3 own.0 own2.0 in
      let rest = same_runs rounds items h.0 k.0 h.2 k.2 s2 t2 first.1 first.2 h.4 k.4 own.1 own2.1 in
      (both_same e e2 h.1 k.1 h.2 k.2 h.5 k.5 first.0 rest.0, rest.1)

  -- from one state on the same items do the same, and leave the same to be seen
  pub same_run : (rounds : ℕ) (items : List ItemData) (s : Picked S P) (e e2 : Effect) (s2 t2 : Picked S P) → Run (Step semantics order rounds) s items e s2 → Run (Step semantics order rounds) s items e2 t2
      → AllOwn e.trace → AllOwn e2.trace → (e2 ≡ e) × (show t2.session.service ≡ show s2.session.service)
  same_run rounds items s e e2 s2 t2 h k all all2 =
      let same = same_runs rounds items s s e e2 s2 t2 refl refl h k all all2 in
      (same.0, ap (λ (x : V). x.service) same.1)
