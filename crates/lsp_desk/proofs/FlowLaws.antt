-- What is put in a desk is taken out of it.
use Rattle.std.proofs.Common.{◌≡◌, ◌⊎◌, inl, inr, ℕ, ◌+◌, List, [], ◌∷◌, ◌++◌, map, refl, sym, ◌∙◌, ap, append_assoc, arith, Bool, true, false}
use Rattle.std.proofs.lemmas.List.{append-nil, map-append}
use Rattle.std.proofs.lemmas.Bool.{eqb-true}
use Rattle.std.specs.Prelude.{Option, Some, None, if◌then◌else◌, ◌&&◌, pos}
use Rattle.std.specs.List.{find, before_first, after_first, list_any}
use Rattle.lsp_rpc.specs.Message.{IdData, RequestData, ResponseData, number_id, null_id}
use Rattle.lsp_rpc.specs.Ids.{same_id}
use Rattle.lsp_desk.specs.Lives.{is_exited, holds_back}
use Rattle.lsp_desk.specs.Call.{Call}
use Rattle.lsp_desk.specs.Call as calls
use Rattle.lsp_desk.specs.Reply.{Reply}
use Rattle.lsp_desk.specs.Reply as replies
use Rattle.lsp_desk.specs.Desk.{DeskState, AwaitedData, KeptData, desk_step, asked, told_client, polled, answered, awaiting, first_of, sent_with, is_kept_for, is_awaited_by, has_id}
use Rattle.lsp_desk.specs.Trace.{IsReply, after, after_reply, times}
use Rattle.lsp_desk.specs.Flow.{put_in, taken_out, put_by, taken_by, all_put, all_taken, ticket_given, ticket_taken, given_by, answered_by, all_given, all_answered, open_tickets}
use Rattle.lsp_desk.specs.Laws.{MessagesPass, TicketsAddUp, ReachesOldest, IsUnasked, AnswersReachOldest}
use Rattle.lsp_desk.proofs.ListLemmas.{found_first, none_pass}

-- what holds of a call whether or not it is refused
unless : (P : Reply × DeskState → Type 0) (b c : Bool) (r x : Reply) (d : DeskState) (s : Reply × DeskState) → P (r, d) → P (x, d) → P s
    → P (if b then (r, d) else (if c then (x, d) else s))
unless P true c r x d s p q w = p
unless P false true r x d s p q w = q
unless P false false r x d s p q w = w

-- who awaits an id is the first in the list that has it
awaiting_found : (b : Bool) (found : Option AwaitedData) (a : AwaitedData) → (if b then None else found) ≡ Some a → found ≡ Some a
awaiting_found true found a h = absurd (cc)
awaiting_found false found a h = h

-- ---- messages

-- what a call puts in stands after what it takes out
abbrev Passes : DeskState → Call → Reply × DeskState → Type 0
Passes d call s = d.outbox ++ put_in call s.0 ≡ taken_out s.0 ++ s.1.outbox

sent_passes : (d : DeskState) (r : RequestData) (i : Option IdData) → Passes d (calls.Raw r) (sent_with d r i)
sent_passes d r None = refl
sent_passes d r (Some i) = refl

polled_passes : (d : DeskState) (ticket : ℕ) (k : Option KeptData) → Passes d (calls.Poll ticket) (polled d ticket k)
polled_passes d ticket None = at (list_any (is_awaited_by ticket) d.awaited)
  where
    at : (b : Bool) → Passes d (calls.Poll ticket) (if b then replies.Awaited else replies.Gone, d)
    at true = append-nil d.outbox
    at false = append-nil d.outbox
polled_passes d ticket (Some k) = append-nil d.outbox

answered_passes : (d : DeskState) (r : ResponseData) (a : Option AwaitedData) → Passes d (calls.Answer r) (answered d r a)
answered_passes d r None = append-nil d.outbox
answered_passes d r (Some a) = append-nil d.outbox

first_passes : (d : DeskState) (rs : List RequestData) → d.outbox ≡ rs → Passes d calls.Next (first_of d rs)
first_passes d [] is = append-nil d.outbox
first_passes d (r ∷ rs) is = append-nil d.outbox ∙ is

step_passes : (d : DeskState) (call : Call) → Passes d call (desk_step d call)
step_passes d (calls.Ask method params gated) =
    unless (Passes d (calls.Ask method params gated)) (gated && holds_back d.life) (is_exited d.life) replies.NotInitialized replies.Exited d
    (asked d (number_id (pos d.next_id)) method params) (append-nil d.outbox) (append-nil d.outbox) refl
step_passes d (calls.Tell method params gated) =
    unless (Passes d (calls.Tell method params gated)) (gated && holds_back d.life) (is_exited d.life) replies.Suppressed replies.Exited d
    (told_client d method params) (append-nil d.outbox) (append-nil d.outbox) refl
step_passes d (calls.Raw r) =
    unless (Passes d (calls.Raw r)) false (is_exited d.life) replies.Exited replies.Exited d
    (sent_with d r r.id) (append-nil d.outbox) (append-nil d.outbox) (sent_passes d r r.id)
step_passes d (calls.Poll ticket) = polled_passes d ticket (find (is_kept_for ticket) d.kept)
step_passes d calls.NextId = append-nil d.outbox
step_passes d calls.Look = append-nil d.outbox
step_passes d (calls.Rise life) = append-nil d.outbox
step_passes d calls.Fall = append-nil d.outbox
step_passes d (calls.Answer r) = answered_passes d r (awaiting d r.id)
step_passes d calls.Next = first_passes d d.outbox refl
step_passes d calls.Take = refl
step_passes d calls.Close = refl

entry_passes : (d : DeskState) (call : Call) (reply : Option Reply) → IsReply d call reply → d.outbox ++ put_by call reply ≡ taken_by reply ++ (after_reply d call reply).outbox
entry_passes d c None fits = append-nil d.outbox
entry_passes d c (Some reply) fits = ap (λ r. d.outbox ++ put_in c r) fits ∙ step_passes d c ∙ ap (λ r. taken_out r ++ (desk_step d c).1.outbox) (sym fits)

pub messages_pass_lem : MessagesPass
messages_pass_lem d d2 [] r = append-nil d.outbox ∙ ap (λ (x : DeskState). x.outbox) (sym r)
messages_pass_lem d d2 (e ∷ es) r =
    sym (append_assoc d.outbox (put_by e.call e.reply) (all_put es))
    ∙ ap (λ l. l ++ all_put es) (entry_passes d e.call e.reply r.0)
    ∙ append_assoc (taken_by e.reply) (after d e).outbox (all_put es)
    ∙ ap (λ l. taken_by e.reply ++ l) (messages_pass_lem (after d e) d2 es r.1)
    ∙ sym (append_assoc (taken_by e.reply) (all_taken es) d2.outbox)

-- ---- tickets

pub times-append : (n : ℕ) (xs ys : List ℕ) → times n (xs ++ ys) ≡ times n xs + times n ys
times-append n [] ys = omega arith
times-append n (x ∷ xs) ys = omega (arith, times-append n xs ys)

-- an element that stands among others, counted by itself
times-among : {A : Type 0} (f : A → ℕ) (n : ℕ) (xs ys : List A) (x : A) → times n (map f (xs ++ x ∷ ys)) ≡ times n (f x ∷ []) + times n (map f (xs ++ ys))
times-among f n [] ys x = omega arith
times-among f n (z ∷ xs) ys x = omega (arith, times-among f n xs ys x)

abbrev AddsUp : ℕ → DeskState → Call → Reply × DeskState → Type 0
AddsUp n d call s = times n (open_tickets d) + times n (ticket_given s.0) ≡ times n (ticket_taken call s.0) + times n (open_tickets s.1)

abbrev awaited_tickets : DeskState → List ℕ
awaited_tickets d = map (λ a. a.ticket) d.awaited

abbrev kept_tickets : DeskState → List ℕ
kept_tickets d = map (λ k. k.ticket) d.kept

open_is : (n : ℕ) (d : DeskState) → times n (open_tickets d) ≡ times n (awaited_tickets d) + times n (kept_tickets d)
open_is n d = times-append n (awaited_tickets d) (kept_tickets d)

-- neither gives a ticket nor takes an answer
adds_none : (n : ℕ) (d d2 : DeskState) → open_tickets d2 ≡ open_tickets d → times n (open_tickets d) + 0 ≡ 0 + times n (open_tickets d2)
adds_none n d d2 e = omega (arith, ap (times n) e)

-- a ticket is given
adds_ticket : (n : ℕ) (d : DeskState) (i : IdData) (t : ℕ) (d2 : DeskState) → d2.awaited ≡ d.awaited ++ record { ticket = t; id = i } ∷ [] → d2.kept ≡ d.kept
    → times n (open_tickets d) + times n (t ∷ []) ≡ 0 + times n (open_tickets d2)
adds_ticket n d i t d2 e f =
    let more : times n (awaited_tickets d2) ≡ times n (awaited_tickets d) + times n (t ∷ []) =
    ap (λ l. times n (map (λ a. a.ticket) l)) e ∙ ap (times n) (map-append (λ a. a.ticket) d.awaited (record { ticket = t; id = i } ∷ []))
    ∙ times-append n (awaited_tickets d) (t ∷ []) in
    let rest : times n (kept_tickets d2) ≡ times n (kept_tickets d) = ap (λ l. times n (map (λ k. k.ticket) l)) f in
    omega (arith, open_is n d, open_is n d2, more, rest)

sent_adds : (n : ℕ) (d : DeskState) (r : RequestData) (i : Option IdData) → AddsUp n d (calls.Raw r) (sent_with d r i)
sent_adds n d r None = adds_none n d d refl
sent_adds n d r (Some i) = adds_ticket n d i d.next_ticket (sent_with d r (Some i)).1 refl refl

polled_adds : (n : ℕ) (d : DeskState) (ticket : ℕ) (k : Option KeptData) → find (is_kept_for ticket) d.kept ≡ k → AddsUp n d (calls.Poll ticket) (polled d ticket k)
polled_adds n d ticket None is = at (list_any (is_awaited_by ticket) d.awaited)
  where
    at : (b : Bool) → AddsUp n d (calls.Poll ticket) (if b then replies.Awaited else replies.Gone, d)
    at true = adds_none n d d refl
    at false = adds_none n d d refl
polled_adds n d ticket (Some k) is =
    let d2 = (polled d ticket (Some k)).1 in
    let first = found_first (is_kept_for ticket) d.kept k is in
    let its : k.ticket ≡ ticket = eqb-true k.ticket ticket first.passes in
    let less : times n (kept_tickets d) ≡ times n (k.ticket ∷ []) + times n (kept_tickets d2) =
    ap (λ l. times n (map (λ x. x.ticket) l)) first.whole
    ∙ times-among (λ x. x.ticket) n (before_first (is_kept_for ticket) d.kept) (after_first (is_kept_for ticket) d.kept) k in
    let one : times n (k.ticket ∷ []) ≡ times n (ticket ∷ []) = ap (λ (t : ℕ). times n (t ∷ [])) its in
    omega (arith, open_is n d, open_is n d2, less, one)

answered_adds : (n : ℕ) (d : DeskState) (r : ResponseData) (a : Option AwaitedData) → awaiting d r.id ≡ a → AddsUp n d (calls.Answer r) (answered d r a)
answered_adds n d r None is = adds_none n d d refl
answered_adds n d r (Some a) is =
    let d2 = (answered d r (Some a)).1 in
    let first = found_first (has_id r.id) d.awaited a (awaiting_found (same_id r.id null_id) _ a is) in
    let less : times n (awaited_tickets d) ≡ times n (a.ticket ∷ []) + times n (awaited_tickets d2) =
    ap (λ l. times n (map (λ x. x.ticket) l)) first.whole
    ∙ times-among (λ x. x.ticket) n (before_first (has_id r.id) d.awaited) (after_first (has_id r.id) d.awaited) a in
    let more : times n (kept_tickets d2) ≡ times n (kept_tickets d) + times n (a.ticket ∷ []) =
    ap (times n) (map-append (λ k. k.ticket) d.kept (record { ticket = a.ticket; response = r } ∷ []))
    ∙ times-append n (kept_tickets d) (a.ticket ∷ []) in
    omega (arith, open_is n d, open_is n d2, less, more)

first_adds : (n : ℕ) (d : DeskState) (rs : List RequestData) → AddsUp n d calls.Next (first_of d rs)
first_adds n d [] = adds_none n d d refl
first_adds n d (r ∷ rs) = adds_none n d d refl

step_adds : (n : ℕ) (d : DeskState) (call : Call) → AddsUp n d call (desk_step d call)
step_adds n d (calls.Ask method params gated) =
    let sent = asked d (number_id (pos d.next_id)) method params in
    unless (AddsUp n d (calls.Ask method params gated)) (gated && holds_back d.life) (is_exited d.life) replies.NotInitialized replies.Exited d
    sent (adds_none n d d refl) (adds_none n d d refl) (adds_ticket n d (number_id (pos d.next_id)) d.next_ticket sent.1 refl refl)
step_adds n d (calls.Tell method params gated) =
    unless (AddsUp n d (calls.Tell method params gated)) (gated && holds_back d.life) (is_exited d.life) replies.Suppressed replies.Exited d
    (told_client d method params) (adds_none n d d refl) (adds_none n d d refl) (adds_none n d (told_client d method params).1 refl)
step_adds n d (calls.Raw r) =
    unless (AddsUp n d (calls.Raw r)) false (is_exited d.life) replies.Exited replies.Exited d
    (sent_with d r r.id) (adds_none n d d refl) (adds_none n d d refl) (sent_adds n d r r.id)
step_adds n d (calls.Poll ticket) = polled_adds n d ticket (find (is_kept_for ticket) d.kept) refl
step_adds n d calls.NextId = adds_none n d d refl
step_adds n d calls.Look = adds_none n d d refl
step_adds n d (calls.Rise life) = adds_none n d d refl
step_adds n d calls.Fall = adds_none n d d refl
step_adds n d (calls.Answer r) = answered_adds n d r (awaiting d r.id) refl
step_adds n d calls.Next = first_adds n d d.outbox
step_adds n d calls.Take = adds_none n d d refl
step_adds n d calls.Close = adds_none n d d refl

entry_adds : (n : ℕ) (d : DeskState) (call : Call) (reply : Option Reply) → IsReply d call reply
    → times n (open_tickets d) + times n (given_by reply) ≡ times n (answered_by call reply) + times n (open_tickets (after_reply d call reply))
entry_adds n d c None fits = adds_none n d d refl
entry_adds n d c (Some reply) fits =
    ap (λ r. times n (open_tickets d) + times n (ticket_given r)) fits ∙ step_adds n d c
    ∙ ap (λ r. times n (ticket_taken c r) + times n (open_tickets (desk_step d c).1)) (sym fits)

pub tickets_add_up_lem : TicketsAddUp
tickets_add_up_lem d d2 [] r n = adds_none n d d2 (ap open_tickets r)
tickets_add_up_lem d d2 (e ∷ es) r n = omega (
  arith,
  times-append n (given_by e.reply) (all_given es),
  times-append n (answered_by e.call e.reply) (all_answered es),
  entry_adds n d e.call e.reply r.0,
  tickets_add_up_lem (after d e) d2 es r.1 n,
)

-- ---- answers

reaches : (d : DeskState) (r : ResponseData) (a : Option AwaitedData) → awaiting d r.id ≡ a → (answered d r a).0 ≡ replies.Given → ReachesOldest d r (answered d r a).1
reaches d r None is given = absurd (cc)
reaches d r (Some a) is given =
    let first = found_first (has_id r.id) d.awaited a (awaiting_found (same_id r.id null_id) _ a is) in
    record {
      before = before_first (has_id r.id) d.awaited;
      oldest = a;
      newer = after_first (has_id r.id) d.awaited;
      awaited = first.whole;
      its_id = first.passes;
      no_older = first.none_before;
      leaves = refl;
      kept = refl;
    }

unasked : (d : DeskState) (r : ResponseData) (a : Option AwaitedData) → awaiting d r.id ≡ a → (answered d r a).0 ≡ replies.Ignored → IsUnasked d r (answered d r a).1
unasked d r (Some a) is ignored = absurd (cc)
unasked d r None is ignored = (refl, at (same_id r.id null_id) refl is)
  where
    at : (b : Bool) → same_id r.id null_id ≡ b → (if b then None else find (has_id r.id) d.awaited) ≡ None
        → (same_id r.id null_id ≡ true) ⊎ (list_any (has_id r.id) d.awaited ≡ false)
    at true e h = inl e
    at false e h = inr (none_pass (has_id r.id) d.awaited h)

pub answers_reach_oldest_lem : AnswersReachOldest
answers_reach_oldest_lem d r = record {
  given = λ e. reaches d r (awaiting d r.id) refl e;
  ignored = λ e. unasked d r (awaiting d r.id) refl e;
}
