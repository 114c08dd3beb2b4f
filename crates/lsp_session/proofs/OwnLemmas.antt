-- What calls put in the desk comes out once and in order.
use Rattle.std.proofs.Common.{◌≡◌, ℕ, zero, suc, List, [], ◌∷◌, ◌++◌, map, refl, sym, ◌∙◌, ap, subst, append_assoc, Bool, true, false, true≢false}
use Rattle.std.proofs.lemmas.List.{append-nil, map-append}
use Rattle.std.specs.Prelude.{Option, Some, None, if◌then◌else◌, pos, ◌&&◌}
use Rattle.std.specs.List.{find, list_any}
use Rattle.lsp_rpc.specs.Message.{IdData, RequestData, ResponseData, MessageData, number_id, request, response}
use Rattle.lsp_desk.specs.declared.life.Life.{Life}
use Rattle.lsp_desk.specs.declared.life.Life.TheVariants.{Exited}
use Rattle.lsp_desk.specs.Lives.{is_exited, holds_back}
use Rattle.lsp_desk.specs.Call.{Call, is_client}
use Rattle.lsp_desk.specs.Call as calls
use Rattle.lsp_desk.specs.Reply.{Reply}
use Rattle.lsp_desk.specs.Reply as replies
use Rattle.lsp_desk.specs.Desk.{DeskState, AwaitedData, KeptData, desk_step, asked, told_client, sent_with, polled, answered, awaiting, first_of, is_kept_for, is_awaited_by}
use Rattle.lsp_desk.specs.Desk as desk
use Rattle.lsp_desk.specs.Flow.{message_of, put_by, put_in, taken_by, taken_out, is_sent, all_put, all_taken}
use Rattle.lsp_desk.specs.Trace.{DeskEntry, TraceEntry, IsReply, Replays, Makes, after, after_reply, entries_of, owns, OthersAsk, AllOwn}
use Rattle.lsp_desk.proofs.FlowLaws.{messages_pass_lem}
use Rattle.lsp_desk.proofs.LifeLaws.{ends_stay_lem}
use Rattle.lsp_desk.proofs.TraceLemmas.{replays_on, own_fits, all_owns}
use Rattle.lsp_session.specs.declared.life_check.LifeChange.{LifeChange}
use Rattle.lsp_session.specs.declared.life_check.LifeChange.TheVariants.{Stays, Rises, Falls}
use Rattle.lsp_session.specs.Item.{ItemData}
use Rattle.lsp_session.specs.Semantics.{Semantics, IsLawfulHandlers, AreClient, Progress, Pending, Done}
use Rattle.lsp_session.specs.Admission.{Verdict, Silence, Refuses, Answers, Cancels, Exits, Starts}
use Rattle.lsp_session.specs.State.{State, Effect, both, live, marked, opening_by}
use Rattle.lsp_session.specs.Run.{answers_for, cancelled, replied, took, closed, changing, poll_change, Applies, Changes, Admits, admission_of, after_poll, Order, Poll, PollsAt, Round, Rounds, Drains, Picked, Step, Run}
use Rattle.lsp_session.specs.Own.{requests_of, closes, before_exit, OwnMessagesPass}

-- ---- messages

requests_of-append : (xs ys : List MessageData) → requests_of (xs ++ ys) ≡ requests_of xs ++ requests_of ys
requests_of-append [] ys = refl
requests_of-append (request r ∷ xs) ys = ap (λ l. r ∷ l) (requests_of-append xs ys)
requests_of-append (response r ∷ xs) ys = requests_of-append xs ys

requests_all : (rs : List RequestData) → requests_of (map request rs) ≡ rs
requests_all [] = refl
requests_all (r ∷ rs) = ap (λ l. r ∷ l) (requests_all rs)

cancellations_none : (ids : List IdData) → requests_of (map cancelled ids) ≡ []
cancellations_none [] = refl
cancellations_none (i ∷ ids) = cancellations_none ids

answers_none : {T : Type 0} (id : Option IdData) (progress : Progress T) → requests_of (answers_for id progress) ≡ []
answers_none id (Pending t) = refl
answers_none None (Done outcome) = refl
answers_none (Some i) (Done outcome) = refl

-- ---- what entries take out

all_taken-append : (xs ys : List DeskEntry) → all_taken (xs ++ ys) ≡ all_taken xs ++ all_taken ys
all_taken-append [] ys = refl
all_taken-append (e ∷ xs) ys = ap (λ l. taken_by e.reply ++ l) (all_taken-append xs ys) ∙ sym (append_assoc (taken_by e.reply) (all_taken xs) (all_taken ys))

-- the reply to a call of a server hands out no messages
refused_none : (b c : Bool) (r x : Reply) (d : DeskState) (s : Reply × DeskState) → taken_out r ≡ [] → taken_out x ≡ [] → taken_out s.0 ≡ [] → taken_out (if b then (r, d) else (if c then (x, d) else s)).0 ≡ []
refused_none true c r x d s p q w = p
refused_none false true r x d s p q w = q
refused_none false false r x d s p q w = w

sent_none : (d : DeskState) (r : RequestData) (i : Option IdData) → taken_out (sent_with d r i).0 ≡ []
sent_none d r None = refl
sent_none d r (Some i) = refl

polled_none : (d : DeskState) (ticket : ℕ) (k : Option KeptData) → taken_out (polled d ticket k).0 ≡ []
polled_none d ticket (Some k) = refl
polled_none d ticket None = at (list_any (is_awaited_by ticket) d.awaited)
  where
    at : (b : Bool) → taken_out (if b then replies.Awaited else replies.Gone) ≡ []
    at true = refl
    at false = refl

client_takes_none : (d : DeskState) (call : Call) → is_client call ≡ true → taken_out (desk_step d call).0 ≡ []
client_takes_none d (calls.Ask method params gated) h = refused_none (gated && holds_back d.life) (is_exited d.life) replies.NotInitialized replies.Exited d (asked d (number_id (pos d.next_id)) method params) refl refl refl
client_takes_none d (calls.Tell method params gated) h = refused_none (gated && holds_back d.life) (is_exited d.life) replies.Suppressed replies.Exited d (told_client d method params) refl refl refl
client_takes_none d (calls.Raw r) h = refused_none false (is_exited d.life) replies.Exited replies.Exited d (sent_with d r r.id) refl refl (sent_none d r r.id)
client_takes_none d (calls.Poll ticket) h = polled_none d ticket (find (is_kept_for ticket) d.kept)
client_takes_none d calls.NextId h = refl
client_takes_none d calls.Look h = absurd (true≢false (sym h))
client_takes_none d (calls.Rise l) h = absurd (true≢false (sym h))
client_takes_none d calls.Fall h = absurd (true≢false (sym h))
client_takes_none d (calls.Answer r) h = absurd (true≢false (sym h))
client_takes_none d calls.Next h = absurd (true≢false (sym h))
client_takes_none d calls.Take h = absurd (true≢false (sym h))
client_takes_none d calls.Close h = absurd (true≢false (sym h))

entry_takes_none : (d : DeskState) (c : Call) (reply : Option Reply) → IsReply d c reply → is_client c ≡ true → taken_by reply ≡ []
entry_takes_none d c None f h = refl
entry_takes_none d c (Some reply) f h = ap taken_out f ∙ client_takes_none d c h

-- what is taken out is taken out by one's own entries
own_take : (d d2 : DeskState) (trace : List TraceEntry) → Replays d (entries_of trace) d2 → OthersAsk trace → all_taken (entries_of trace) ≡ all_taken (owns trace)
own_take d d2 [] r o = refl
own_take d d2 (t ∷ trace) r o = at t.own o.0 (own_take (after d t.entry) d2 trace r.1 o.1)
  where
    at : (own : Bool) → (own ≡ false → is_client t.entry.call ≡ true) → all_taken (entries_of trace) ≡ all_taken (owns trace)
        → taken_by t.entry.reply ++ all_taken (entries_of trace) ≡ all_taken (if own then t.entry ∷ owns trace else owns trace)
    at true h ih = ap (λ l. taken_by t.entry.reply ++ l) ih
    at false h ih = ap (λ l. l ++ all_taken (entries_of trace)) (entry_takes_none d t.entry.call t.entry.reply r.0 (h refl)) ∙ ih

makes_take : (d d2 : DeskState) (own : List DeskEntry) (trace : List TraceEntry) → Makes d own trace d2 → all_taken (entries_of trace) ≡ all_taken own
makes_take d d2 own trace p = own_take d d2 trace p.replays p.others ∙ ap all_taken p.own_are

-- calls of a server take nothing out
asks_take : (d d2 : DeskState) (trace : List TraceEntry) → Replays d (entries_of trace) d2 → OthersAsk trace → AreClient (owns trace) → all_taken (entries_of trace) ≡ []
asks_take d d2 [] r o c = refl
asks_take d d2 (t ∷ trace) r o c = at t.own o.0 c (λ k. asks_take (after d t.entry) d2 trace r.1 o.1 k)
  where
    at : (own : Bool) → (own ≡ false → is_client t.entry.call ≡ true) → AreClient (if own then t.entry ∷ owns trace else owns trace) → (AreClient (owns trace) → all_taken (entries_of trace) ≡ [])
        → taken_by t.entry.reply ++ all_taken (entries_of trace) ≡ []
    at true h k ih = ap (λ l. l ++ all_taken (entries_of trace)) (entry_takes_none d t.entry.call t.entry.reply r.0 k.0) ∙ ih k.1
    at false h k ih = ap (λ l. l ++ all_taken (entries_of trace)) (entry_takes_none d t.entry.call t.entry.reply r.0 (h refl)) ∙ ih k

changing_takes_none : (change : LifeChange) → all_taken (changing change) ≡ []
changing_takes_none Stays = refl
changing_takes_none (Rises life) = refl
changing_takes_none Falls = refl

given_takes_none : (d : DeskState) (r : ResponseData) (a : Option AwaitedData) → taken_out (answered d r a).0 ≡ []
given_takes_none d r None = refl
given_takes_none d r (Some a) = refl

-- ---- what is put out

-- the desk's state goes on by the entries, and what they take out is what is put out of the server's own
record Flows {H C T : Type 0} (s : State H C T) (e : Effect) (s2 : State H C T) : Type 0 where
  replays : Replays s.desk (entries_of e.trace) s2.desk
  taken : all_taken (entries_of e.trace) ≡ requests_of e.out

module _ {H C T : Type 0} where
  flows_none : (s s2 : State H C T) (e : Effect) (out : List MessageData) → e ≡ record { trace = []; out = out } → s2.desk ≡ s.desk → requests_of out ≡ [] → Flows s e s2
  flows_none s s2 e out is same none = subst (λ x. Flows s x s2) (sym is) (record { replays = same; taken = sym none })

  flows_one : (s s2 : State H C T) (e : Effect) (own : List DeskEntry) (trace : List TraceEntry) (d : DeskState) (out : List MessageData) → Makes s.desk own trace d → s2.desk ≡ d → e ≡ record { trace = trace; out = out } → all_taken own ≡ requests_of out → Flows s e s2
  flows_one s s2 e own trace d out makes same is taken =
      subst (λ x. Flows s x s2) (sym is) (record { replays = subst (Replays s.desk (entries_of trace)) (sym same) makes.replays; taken = makes_take s.desk d own trace makes ∙ taken })

  flows_both : (s mid s2 : State H C T) (e a b : Effect) → e ≡ both a b → Flows s a mid → Flows mid b s2 → Flows s e s2
  flows_both s mid s2 e a b is p q = subst (λ x. Flows s x s2) (sym is) (record {
    replays = subst (λ l. Replays s.desk l s2.desk) (sym (map-append _ a.trace b.trace)) (replays_on s.desk mid.desk s2.desk (entries_of a.trace) (entries_of b.trace) p.replays q.replays);
    taken = ap all_taken (map-append _ a.trace b.trace) ∙ all_taken-append (entries_of a.trace) (entries_of b.trace)
        ∙ ap (λ l. l ++ all_taken (entries_of b.trace)) p.taken ∙ ap (λ l. requests_of a.out ++ l) q.taken ∙ sym (requests_of-append a.out b.out);
  })

  drains_flow : (s s2 : State H C T) (e : Effect) → Drains s e s2 → Flows s e s2
  drains_flow s s2 e h = flows_one s s2 e (took h.messages ∷ []) h.trace h.desk (map request h.messages) h.takes (ap (λ (x : State H C T). x.desk) h.leaves) h.adds (append-nil h.messages ∙ sym (requests_all h.messages))

  changes_flow : (s s2 : State H C T) (change : LifeChange) (e : Effect) → Changes s change e s2 → Flows s e s2
  changes_flow s s2 change e h = flows_one s s2 e (changing change) h.trace h.desk [] h.makes (ap (λ (x : State H C T). x.desk) h.leaves) h.adds (changing_takes_none change)

module _ {H C T : Type 0} (semantics : Semantics H C T) where
  applies_flow : (s s2 : State H semantics.Call semantics.Task) (v : Verdict semantics.Call) (e : Effect) → Applies semantics s v e s2 → Flows s e s2
  applies_flow s s2 Silence e p = flows_none s s2 e [] p.0 (ap (λ (x : State H semantics.Call semantics.Task). x.desk) p.1) refl
  applies_flow s s2 (Refuses i error) e p = flows_none s s2 e _ p.0 (ap (λ (x : State H semantics.Call semantics.Task). x.desk) p.1) refl
  applies_flow s s2 (Answers r) e p =
      let own = replied (calls.Answer r) p.gives.0 in
      let fits = own_fits s.desk p.desk p.trace own p.makes.replays (p.makes.own_are ∙ p.gives.1) in
      let none : taken_out p.gives.0 ≡ [] = ap taken_out fits.1 ∙ given_takes_none fits.0 r (awaiting fits.0 r.id) in
      flows_one s s2 e p.own p.trace p.desk [] p.makes (ap (λ (x : State H semantics.Call semantics.Task). x.desk) p.leaves) p.adds (ap all_taken p.gives.1 ∙ append-nil (taken_out p.gives.0) ∙ none)
  applies_flow s s2 (Cancels i) e p = flows_none s s2 e _ p.0 (ap (λ (x : State H semantics.Call semantics.Task). x.desk) p.1) refl
  applies_flow s s2 Exits e p =
      flows_one s s2 e (closed p.messages ∷ []) p.trace p.desk (map request p.messages ++ map cancelled (live s)) p.makes (ap (λ (x : State H semantics.Call semantics.Task). x.desk) p.leaves) p.adds
      (ap (λ l. p.messages ++ l) (sym (cancellations_none (live s))) ∙ ap (λ l. l ++ requests_of (map cancelled (live s))) (sym (requests_all p.messages)) ∙ sym (requests_of-append (map request p.messages) (map cancelled (live s))))
  applies_flow s s2 (Starts id entry c) e p = flows_none s s2 e [] p.0 (ap (λ (x : State H semantics.Call semantics.Task). x.desk) p.1) refl

  admits_flow : (s s2 : State H semantics.Call semantics.Task) (item : ItemData) (e : Effect) → Admits semantics s (admission_of semantics s item) e s2 → Flows s e s2
  admits_flow s s2 item e h = flows_both s h.mid s2 e h.first h.rest h.adds (changes_flow s h.mid _ h.first h.changes) (applies_flow h.mid s2 (admission_of semantics s item).verdict h.rest h.applies)

  module _ (laws : IsLawfulHandlers semantics) where
    poll_flow : (s s2 : State H semantics.Call semantics.Task) (place : ℕ) (e : Effect) → Poll semantics s place e s2 → Flows s e s2
    poll_flow s s2 place e p = subst (λ x. Flows s x s2) (sym p.adds) (record {
      replays = subst (λ l. Replays s.desk l s2.desk) (sym parts)
          (replays_on s.desk p.polled_desk s2.desk (entries_of p.polled) (entries_of p.taken ++ entries_of p.changed) p.asks.replays
          (replays_on p.polled_desk p.taken_desk s2.desk (entries_of p.taken) (entries_of p.changed) p.takes.replays (subst (Replays p.taken_desk (entries_of p.changed)) (sym there) p.changes.replays)));
      taken = ap all_taken parts ∙ all_taken-append (entries_of p.polled) (entries_of p.taken ++ entries_of p.changed)
          ∙ ap (λ l. l ++ all_taken (entries_of p.taken ++ entries_of p.changed)) (asks_take s.desk p.polled_desk p.polled p.asks.replays p.asks.others (subst AreClient (sym p.asks.own_are) (laws.asks_client s.service p.work.phase p.asked p.service p.progress p.polls)))
          ∙ all_taken-append (entries_of p.taken) (entries_of p.changed)
          ∙ ap (λ l. l ++ all_taken (entries_of p.changed)) (makes_take p.polled_desk p.taken_desk (took p.messages ∷ []) p.taken p.takes ∙ append-nil p.messages)
          ∙ ap (λ l. p.messages ++ l) (makes_take p.taken_desk p.desk _ p.changed p.changes ∙ changing_takes_none (poll_change p.taken_desk.life p.work.entry.layer p.progress) ∙ sym (answers_none p.work.id p.progress))
          ∙ ap (λ l. l ++ requests_of (answers_for p.work.id p.progress)) (sym (requests_all p.messages)) ∙ sym (requests_of-append (map request p.messages) (answers_for p.work.id p.progress));
    })
      where
        parts : entries_of (p.polled ++ (p.taken ++ p.changed)) ≡ entries_of p.polled ++ (entries_of p.taken ++ entries_of p.changed)
        parts = map-append _ p.polled (p.taken ++ p.changed) ∙ ap (λ l. entries_of p.polled ++ l) (map-append _ p.taken p.changed)

        at : (progress : Progress semantics.Task) → (after_poll s p.before p.work p.after p.service progress p.desk).desk ≡ p.desk
        at (Pending t) = refl
        at (Done outcome) = refl

        there : s2.desk ≡ p.desk
        there = ap (λ (x : State H semantics.Call semantics.Task). x.desk) p.leaves ∙ at p.progress

    module _ {P : Type 0} (order : Order P) where
      polls_flow : (s s2 : State H semantics.Call semantics.Task) (p p2 : P) (places : List ℕ) (e : Effect) → PollsAt semantics order s p places e s2 p2 → Flows s e s2
      polls_flow s s2 p p2 [] e h = flows_none s s2 e [] h.0 (ap (λ (x : State H semantics.Call semantics.Task). x.desk) h.1) refl
      polls_flow s s2 p p2 (place ∷ places) e h = flows_both s h.0 s2 e h.1 h.2 h.6 (poll_flow s h.0 place h.1 h.3) (polls_flow h.0 s2 _ p2 places h.2 h.5)

      round_flow : (s s2 : State H semantics.Call semantics.Task) (p p2 : P) (e : Effect) → Round semantics order s p e s2 p2 → Flows s e s2
      round_flow s s2 p p2 e h = let f = polls_flow (record s { slots = map marked s.slots }) s2 p p2 h.places e h.polls in record { replays = f.replays; taken = f.taken }

      rounds_flow : (n : ℕ) (s s2 : State H semantics.Call semantics.Task) (p p2 : P) (e : Effect) → Rounds semantics order n s p e s2 p2 → Flows s e s2
      rounds_flow zero s s2 p p2 e h = flows_none s s2 e [] h.0 (ap (λ (x : State H semantics.Call semantics.Task). x.desk) h.1) refl
      rounds_flow (suc n) s s2 p p2 e h = flows_both s h.0 s2 e h.2 h.3 h.6 (rounds_flow n s h.0 p h.1 h.2 h.4) (round_flow h.0 s2 h.1 p2 h.3 h.5)

      step_flow : (rounds : ℕ) (s s2 : Picked (State H semantics.Call semantics.Task) P) (item : ItemData) (e : Effect) → Step semantics order rounds s item e s2 → Flows s.session e s2.session
      step_flow rounds s s2 item e h = flows_both s.session h.admitted s2.session e h.first (both h.second h.third) h.adds (admits_flow s.session h.admitted item h.first h.admits)
          (flows_both h.admitted h.polled s2.session (both h.second h.third) h.second h.third refl (rounds_flow rounds h.admitted h.polled s.pick s2.pick h.second h.polls) (drains_flow h.polled s2.session h.third h.drains))

      run_flow : (rounds : ℕ) (s s2 : Picked (State H semantics.Call semantics.Task) P) (items : List ItemData) (e : Effect) → Run (Step semantics order rounds) s items e s2 → Flows s.session e s2.session
      run_flow rounds s s2 [] e h = flows_none s.session s2.session e [] h.0 (ap (λ (x : Picked (State H semantics.Call semantics.Task) P). x.session.desk) h.1) refl
      run_flow rounds s s2 (item ∷ items) e h = flows_both s.session h.0.session s2.session e h.1 h.2 h.5 (step_flow rounds s h.0 item h.1 h.3) (run_flow rounds h.0 s2 items h.2 h.4)

-- ---- nothing is put in after an exit

exited_refuses : (gated : Bool) (d : DeskState) (r : Reply) (s : Reply × DeskState) → d.life ≡ Exited → is_sent r ≡ false → is_sent (desk.unless_refused gated d r s).0 ≡ false
exited_refuses true d r s l h = ap (λ (life : Life). is_sent (if holds_back life then (r, d) else (if is_exited life then (replies.Exited, d) else s)).0) l ∙ h
exited_refuses false d r s l h = ap (λ (life : Life). is_sent (if is_exited life then (replies.Exited, d) else s).0) l

unsent_none : (c : Call) (reply : Reply) → is_sent reply ≡ false → put_in c reply ≡ []
unsent_none c reply h = ap (λ (b : Bool). if b then message_of c reply else []) h

abbrev no_requests : List RequestData
no_requests = []

sent_or_not : (b : Bool) → (if b then no_requests else no_requests) ≡ no_requests
sent_or_not true = refl
sent_or_not false = refl

exited_puts_none : (d : DeskState) (call : Call) (reply : Option Reply) → d.life ≡ Exited → IsReply d call reply → put_by call reply ≡ []
exited_puts_none d c None l f = refl
exited_puts_none d (calls.Ask method params gated) (Some reply) l f = unsent_none (calls.Ask method params gated) reply (ap is_sent f ∙ exited_refuses gated d replies.NotInitialized _ l refl)
exited_puts_none d (calls.Tell method params gated) (Some reply) l f = unsent_none (calls.Tell method params gated) reply (ap is_sent f ∙ exited_refuses gated d replies.Suppressed _ l refl)
exited_puts_none d (calls.Raw r) (Some reply) l f = unsent_none (calls.Raw r) reply (ap is_sent f ∙ exited_refuses false d replies.Exited _ l refl)
exited_puts_none d (calls.Poll ticket) (Some reply) l f = sent_or_not (is_sent reply)
exited_puts_none d calls.NextId (Some reply) l f = sent_or_not (is_sent reply)
exited_puts_none d calls.Look (Some reply) l f = sent_or_not (is_sent reply)
exited_puts_none d (calls.Rise life) (Some reply) l f = sent_or_not (is_sent reply)
exited_puts_none d calls.Fall (Some reply) l f = sent_or_not (is_sent reply)
exited_puts_none d (calls.Answer r) (Some reply) l f = sent_or_not (is_sent reply)
exited_puts_none d calls.Next (Some reply) l f = sent_or_not (is_sent reply)
exited_puts_none d calls.Take (Some reply) l f = sent_or_not (is_sent reply)
exited_puts_none d calls.Close (Some reply) l f = sent_or_not (is_sent reply)

ended_puts_none : (d d2 : DeskState) (entries : List DeskEntry) → Replays d entries d2 → d.life ≡ Exited → all_put entries ≡ []
ended_puts_none d d2 [] r l = refl
ended_puts_none d d2 (entry ∷ entries) r l =
    ap (λ ms. ms ++ all_put entries) (exited_puts_none d entry.call entry.reply l r.0)
    ∙ ended_puts_none (after d entry) d2 entries r.1 (ends_stay_lem d (after d entry) (entry ∷ []) (r.0, refl) l)

-- a call that closes leaves the desk ended, and puts nothing in
close_ends : (d : DeskState) (call : Call) (reply : Option Reply) → closes call reply ≡ true → ((after_reply d call reply).life ≡ Exited) × (put_by call reply ≡ [])
close_ends d c None h = absurd (true≢false (sym h))
close_ends d (calls.Ask method params gated) (Some reply) h = absurd (true≢false (sym h))
close_ends d (calls.Tell method params gated) (Some reply) h = absurd (true≢false (sym h))
close_ends d (calls.Raw r) (Some reply) h = absurd (true≢false (sym h))
close_ends d (calls.Poll ticket) (Some reply) h = absurd (true≢false (sym h))
close_ends d calls.NextId (Some reply) h = absurd (true≢false (sym h))
close_ends d calls.Look (Some reply) h = absurd (true≢false (sym h))
close_ends d (calls.Rise life) (Some reply) h = absurd (true≢false (sym h))
close_ends d calls.Fall (Some reply) h = absurd (true≢false (sym h))
close_ends d (calls.Answer r) (Some reply) h = absurd (true≢false (sym h))
close_ends d calls.Next (Some reply) h = absurd (true≢false (sym h))
close_ends d calls.Take (Some reply) h = absurd (true≢false (sym h))
close_ends d calls.Close (Some reply) h = (refl, sent_or_not (is_sent reply))

put_early : (d d2 : DeskState) (entries : List DeskEntry) → Replays d entries d2 → all_put entries ≡ all_put (before_exit entries)
put_early d d2 [] r = refl
put_early d d2 (entry ∷ entries) r = at (closes entry.call entry.reply) refl (put_early (after d entry) d2 entries r.1)
  where
    at : (b : Bool) → closes entry.call entry.reply ≡ b → all_put entries ≡ all_put (before_exit entries)
        → put_by entry.call entry.reply ++ all_put entries ≡ all_put (if b then [] else entry ∷ before_exit entries)
    at true h ih =
        let ended = close_ends d entry.call entry.reply h in
        ap (λ ms. ms ++ all_put entries) ended.1 ∙ ended_puts_none (after d entry) d2 entries r.1 ended.0
    at false h ih = ap (λ ms. put_by entry.call entry.reply ++ ms) ih

-- ---- a desk that others don't use

all_right : (a b : List TraceEntry) → AllOwn (a ++ b) → AllOwn b
all_right [] b p = p
all_right (t ∷ a) b p = all_right a b p.1

module _ {H C T P : Type 0} (semantics : Semantics H C T) (order : Order P) (rounds : ℕ) where
  step_empties : (s s2 : Picked (State H semantics.Call semantics.Task) P) (item : ItemData) (e : Effect) → Step semantics order rounds s item e s2 → AllOwn e.trace → s2.session.desk.outbox ≡ []
  step_empties s s2 item e h own =
      let all : AllOwn (h.first.trace ++ (h.second.trace ++ h.third.trace)) = subst (λ (x : Effect). AllOwn x.trace) h.adds own in
      let third : AllOwn h.third.trace = all_right h.second.trace h.third.trace (all_right h.first.trace (h.second.trace ++ h.third.trace) all) in
      let last : AllOwn h.drains.trace = subst (λ (x : Effect). AllOwn x.trace) h.drains.adds third in
      let entries : entries_of h.drains.trace ≡ took h.drains.messages ∷ [] = all_owns h.drains.trace last ∙ h.drains.takes.own_are in
      let replays = subst (λ l. Replays h.polled.desk l h.drains.desk) entries h.drains.takes.replays in
      ap (λ (x : State H semantics.Call semantics.Task). x.desk.outbox) h.drains.leaves ∙ ap (λ (x : DeskState). x.outbox) replays.1

  run_empties : (s s2 : Picked (State H semantics.Call semantics.Task) P) (items : List ItemData) (e : Effect) → s.session.desk.outbox ≡ [] → Run (Step semantics order rounds) s items e s2 → AllOwn e.trace → s2.session.desk.outbox ≡ []
  run_empties s s2 [] e none h own = ap (λ (x : Picked (State H semantics.Call semantics.Task) P). x.session.desk.outbox) h.1 ∙ none
  run_empties s s2 (item ∷ items) e none h own =
      let all : AllOwn (h.1.trace ++ h.2.trace) = subst (λ (x : Effect). AllOwn x.trace) h.5 own in
      run_empties h.0 s2 items h.2 (step_empties s h.0 item h.1 h.3 (all_left h.1.trace h.2.trace all)) h.4 (all_right h.1.trace h.2.trace all)
    where
      all_left : (a b : List TraceEntry) → AllOwn (a ++ b) → AllOwn a
      all_left [] b p = tt
      all_left (t ∷ a) b p = (p.0, all_left a b p.1)

pub own_messages : {H C T P : Type 0} (semantics : Semantics H C T) (laws : IsLawfulHandlers semantics) (order : Order P) → OwnMessagesPass semantics order
own_messages semantics laws order = record {
  pass = λ rounds service items e last h.
      let f = run_flow semantics laws order rounds (record { session = opening_by service h.max h.wait h.empty_params; pick = h.pick }) (record { session = last; pick = h.then }) items e h.runs in
      ap (λ l. l ++ last.desk.outbox) (sym f.taken) ∙ sym (messages_pass_lem desk.opening last.desk (entries_of e.trace) f.replays) ∙ put_early desk.opening last.desk (entries_of e.trace) f.replays;
  alone = λ rounds service items e last h own. run_empties semantics order rounds (record { session = opening_by service h.max h.wait h.empty_params; pick = h.pick }) (record { session = last; pick = h.then }) items e refl h.runs own;
}
