-- How an answer comes back.
use Rattle.std.proofs.Common.{◌≡◌, ◌≤◌, ℕ, ◌+◌, List, [], ◌∷◌, ◌++◌, map, refl, sym, ◌∙◌, ap, subst, take, drop, arith, Bool, true, false, true≢false, cond, not}
use Rattle.std.proofs.lemmas.List.Folds.{find-append}
use Rattle.std.proofs.lemmas.Grind.{common_steps}
use Rattle.std.proofs.lemmas.Bool.{eqb-true, eq-eqb}
use Rattle.std.specs.Prelude.{Option, Some, None, if◌then◌else◌, ◌&&◌, ◌||◌, ◌==◌, pos}
use Rattle.std.specs.Option.{option_or}
use Rattle.std.specs.List.{find, position_or_len, before_first, after_first, list_any}
use Rattle.lsp_rpc.specs.Message.{IdData, RequestData, ResponseData, number_id, null_id}
use Rattle.lsp_rpc.specs.Ids.{same_id, same_id-Decides}
use Rattle.lsp_desk.specs.Lives.{is_exited, holds_back}
use Rattle.lsp_desk.specs.Call.{Call}
use Rattle.lsp_desk.specs.Call as calls
use Rattle.lsp_desk.specs.Reply.{Reply}
use Rattle.lsp_desk.specs.Reply as replies
use Rattle.lsp_desk.specs.Desk.{DeskState, AwaitedData, KeptData, desk_step, asked, told_client, polled, answered, awaiting, first_of, sent_with, is_kept_for, is_awaited_by, has_id}
use Rattle.lsp_desk.specs.Trace.{DeskEntry, IsReply, after, after_reply, Replays, times}
use Rattle.lsp_desk.specs.Flow.{ticket_taken, answered_by, all_given, all_answered, open_tickets}
use Rattle.lsp_desk.proofs.ListLemmas.{found_first}
use Rattle.lsp_desk.proofs.FlowLaws.{times-append, tickets_add_up_lem}
use Rattle.lsp_laws.specs.Answers.{TakesAnswer, PollTells, WasGiven, answers_id, WasAsked, WasAwaited, WasAnswered, AnswersComeBack}

-- ---- lists

-- what is first of those that pass one test stays so where the first of those that pass another is taken out
find-rest : {A : Type 0} (p q : A → Bool) → ((x : A) → p x ≡ true → q x ≡ false) → (xs : List A) → find q (before_first p xs ++ after_first p xs) ≡ find q xs
find-rest p q other [] = refl
find-rest p q other (x ∷ xs) = go (p x) refl (find-rest p q other xs)
  where
    go : (b : Bool) → p x ≡ b → find q (before_first p xs ++ after_first p xs) ≡ find q xs
        → find q (take (cond (not b) (1 + position_or_len p xs) 0) (x ∷ xs) ++ drop (cond (not b) (1 + position_or_len p xs) 0 + 1) (x ∷ xs)) ≡ cond (q x) (Some x) (find q xs)
    go true e more =
        let is : take 0 (x ∷ xs) ++ drop (0 + 1) (x ∷ xs) ≡ xs = grind (arith, common_steps) in
        ap (find q) is ∙ ap (λ b. cond b (Some x) (find q xs)) (sym (other x e))
    go false e more =
        let is : take (1 + position_or_len p xs) (x ∷ xs) ++ drop (1 + position_or_len p xs + 1) (x ∷ xs) ≡ x ∷ (before_first p xs ++ after_first p xs) = grind (arith, common_steps) in
        ap (find q) is ∙ ap (cond (q x) (Some x)) more

-- where none passes, none is found
find_none : {A : Type 0} (p : A → Bool) (xs : List A) → list_any p xs ≡ false → find p xs ≡ None
find_none p [] h = refl
find_none p (x ∷ xs) h = at (p x) h (find_none p xs)
  where
    at : (b : Bool) → (b || list_any p xs) ≡ false → (list_any p xs ≡ false → find p xs ≡ None) → cond b (Some x) (find p xs) ≡ None
    at true e more = absurd (true≢false e)
    at false e more = more e

find_some : {A : Type 0} (p : A → Bool) (xs : List A) → list_any p xs ≡ true → (x : A) × (find p xs ≡ Some x)
find_some p [] h = absurd (true≢false (sym h))
find_some p (x ∷ xs) h = at (p x) h (find_some p xs)
  where
    at : (b : Bool) → (b || list_any p xs) ≡ true → (list_any p xs ≡ true → (y : _) × (find p xs ≡ Some y)) → (y : _) × (cond b (Some x) (find p xs) ≡ Some y)
    at true e more = (x, refl)
    at false e more = more e

-- ---- a poll

some_is : {A : Type 0} (a b : A) → Some a ≡ Some b → a ≡ b
some_is a b h = cc

takes : (d : DeskState) (n : ℕ) (k : Option KeptData) → find (is_kept_for n) d.kept ≡ k → (r : ResponseData) → (polled d n k).0 ≡ replies.Answered r → TakesAnswer d n r (polled d n k).1
takes d n None is r h = at (list_any (is_awaited_by n) d.awaited) h
  where
    at : (b : Bool) → (if b then replies.Awaited else replies.Gone) ≡ replies.Answered r → TakesAnswer d n r d
    at true e = absurd (cc)
    at false e = absurd (cc)
takes d n (Some k) is r h =
    let first = found_first (is_kept_for n) d.kept k is in
    let its : k.ticket ≡ n = eqb-true k.ticket n first.passes in
    let told : k.response ≡ r = cc in
    let same : k ≡ record { ticket = n; response = r } =
    ap (λ (t : ℕ). record { ticket = t; response = k.response }) its ∙ ap (λ (x : ResponseData). record { ticket = n; response = x }) told in
    record {
      before = before_first (is_kept_for n) d.kept;
      newer = after_first (is_kept_for n) d.kept;
      kept = first.whole ∙ ap (λ (x : KeptData). before_first (is_kept_for n) d.kept ++ x ∷ after_first (is_kept_for n) d.kept) same;
      no_older = first.none_before;
      leaves = refl;
    }

tells : (d : DeskState) (n : ℕ) → PollTells d n
tells d n = record {
  replied = λ h. let w = find_some (is_kept_for n) d.kept h in (w.0.response, ap (λ k. (polled d n k).0) w.1);
  taken = λ r h. takes d n (find (is_kept_for n) d.kept) refl r h;
  awaited = λ h e. ap (polled d n) (find_none (is_kept_for n) d.kept h) ∙ ap (λ b. (if b then replies.Awaited else replies.Gone, d)) e;
  gone = λ h e. ap (polled d n) (find_none (is_kept_for n) d.kept h) ∙ ap (λ b. (if b then replies.Awaited else replies.Gone, d)) e;
}

-- ---- from the answer to the poll

-- what holds of the state after a call whether or not it is refused
unless : (P : DeskState → Type 0) (b c : Bool) (r x : Reply) (d : DeskState) (s : Reply × DeskState) → P d → P s.1 → P (if b then (r, d) else (if c then (x, d) else s)).1
unless P true c r x d s p q = p
unless P false true r x d s p q = p
unless P false false r x d s p q = q

-- the first answer that is kept for the ticket
abbrev Holds : ℕ → KeptData → DeskState → Type 0
Holds n k d = find (is_kept_for n) d.kept ≡ Some k

-- a number stands once in the list of it
one_time : (n m : ℕ) → n ≡ m → times n (m ∷ []) ≡ 1
one_time n m is = ap (λ b. (if b then 1 else 0) + 0) (eq-eqb n m is)

-- of two tickets one number is not the other
other_ticket : (n m : ℕ) → times n (m ∷ []) ≡ 0 → (x : KeptData) → is_kept_for m x ≡ true → is_kept_for n x ≡ false
other_ticket n m h x e = at (x.ticket == n) refl
  where
    at : (b : Bool) → (x.ticket == n) ≡ b → (x.ticket == n) ≡ false
    at false is = is
    at true is =
        let one : n ≡ m = sym (eqb-true x.ticket n is) ∙ eqb-true x.ticket m e in
        let counted = one_time n m one in
        absurd (omega (arith, counted, h))

pushed_finds : {A : Type 0} (p : A → Bool) (xs ys : List A) (x : A) → find p xs ≡ Some x → find p (xs ++ ys) ≡ Some x
pushed_finds p xs ys x h = find-append p xs ys ∙ ap (λ o. option_or o (find p ys)) h

module _ (n : ℕ) (k : KeptData) where
  sent_holds : (d : DeskState) (r : RequestData) (i : Option IdData) → Holds n k d → Holds n k (sent_with d r i).1
  sent_holds d r None h = h
  sent_holds d r (Some i) h = h

  polled_holds : (d : DeskState) (m : ℕ) (o : Option KeptData) → Holds n k d → times n (ticket_taken (calls.Poll m) (polled d m o).0) ≡ 0 → Holds n k (polled d m o).1
  polled_holds d m None h none = h
  polled_holds d m (Some x) h none = find-rest (is_kept_for m) (is_kept_for n) (other_ticket n m none) d.kept ∙ h

  answered_holds : (d : DeskState) (r : ResponseData) (a : Option AwaitedData) → Holds n k d → Holds n k (answered d r a).1
  answered_holds d r None h = h
  answered_holds d r (Some a) h = pushed_finds (is_kept_for n) d.kept (record { ticket = a.ticket; response = r } ∷ []) k h

  first_holds : (d : DeskState) (rs : List RequestData) → Holds n k d → Holds n k (first_of d rs).1
  first_holds d [] h = h
  first_holds d (r ∷ rs) h = h

  step_holds : (d : DeskState) (call : Call) → Holds n k d → times n (ticket_taken call (desk_step d call).0) ≡ 0 → Holds n k (desk_step d call).1
  step_holds d (calls.Ask method params gated) h none =
      unless (Holds n k) (gated && holds_back d.life) (is_exited d.life) replies.NotInitialized replies.Exited d (asked d (number_id (pos d.next_id)) method params) h h
  step_holds d (calls.Tell method params gated) h none =
      unless (Holds n k) (gated && holds_back d.life) (is_exited d.life) replies.Suppressed replies.Exited d (told_client d method params) h h
  step_holds d (calls.Raw r) h none = unless (Holds n k) false (is_exited d.life) replies.Exited replies.Exited d (sent_with d r r.id) h (sent_holds d r r.id h)
  step_holds d (calls.Poll m) h none = polled_holds d m (find (is_kept_for m) d.kept) h none
  step_holds d calls.NextId h none = h
  step_holds d calls.Look h none = h
  step_holds d (calls.Rise life) h none = h
  step_holds d calls.Fall h none = h
  step_holds d (calls.Answer r) h none = answered_holds d r (awaiting d r.id) h
  step_holds d calls.Next h none = first_holds d d.outbox h
  step_holds d calls.Take h none = h
  step_holds d calls.Close h none = h

  entry_holds : (d : DeskState) (call : Call) (reply : Option Reply) → IsReply d call reply → Holds n k d → times n (answered_by call reply) ≡ 0 → Holds n k (after_reply d call reply)
  entry_holds d c None fits h none = h
  entry_holds d c (Some reply) fits h none = step_holds d c h (ap (λ x. times n (ticket_taken c x)) (sym fits) ∙ none)

  replayed_holds : (d d2 : DeskState) (entries : List DeskEntry) → Replays d entries d2 → Holds n k d → times n (all_answered entries) ≡ 0 → Holds n k d2
  replayed_holds d d2 [] r h none = subst (Holds n k) (sym r) h
  replayed_holds d d2 (e ∷ es) r h none =
      let sum = times-append n (answered_by e.call e.reply) (all_answered es) in
      replayed_holds (after d e) d2 es r.1 (entry_holds d e.call e.reply r.0 h (omega (arith, sum, none))) (omega (arith, sum, none))

  told : (d : DeskState) → Holds n k d → (desk_step d (calls.Poll n)).0 ≡ replies.Answered k.response
  told d h = ap (λ o. (polled d n o).0) h

-- an answer of the ticket stands first where none was kept
kept_first : (n : ℕ) (r : ResponseData) (kept : List KeptData) → list_any (is_kept_for n) kept ≡ false → find (is_kept_for n) (kept ++ record { ticket = n; response = r } ∷ []) ≡ Some (record { ticket = n; response = r })
kept_first n r kept h =
    find-append (is_kept_for n) kept (record { ticket = n; response = r } ∷ []) ∙ ap (λ o. option_or o (find (is_kept_for n) (record { ticket = n; response = r } ∷ []))) (find_none (is_kept_for n) kept h)
    ∙ ap (λ b. cond b (Some (record { ticket = n; response = r })) None) (eq-eqb n n refl)

given_is_told : (d d2 d3 : DeskState) (r : ResponseData) (entries : List DeskEntry) (given : WasGiven d r d2 entries d3) → (desk_step d3 (calls.Poll given.goes.oldest.ticket)).0 ≡ replies.Answered r
given_is_told d d2 d3 r entries given =
    let n = given.goes.oldest.ticket in
    let k : KeptData = record { ticket = n; response = r } in
    let holds : Holds n k d2 = ap (find (is_kept_for n)) given.goes.kept ∙ kept_first n r d.kept given.none_kept in
    told n k d3 (replayed_holds n k d2 d3 entries given.replays holds given.none_taken)

-- ---- from the call to the poll

abbrev Asks : DeskState → ℕ → IdData → Reply × DeskState → Type 0
Asks d n i s = s.0 ≡ replies.Ticket n i → s.1.awaited ≡ d.awaited ++ record { ticket = n; id = i } ∷ []

unless_asks : (n : ℕ) (i : IdData) (b c : Bool) (r x : Reply) (d : DeskState) (s : Reply × DeskState) → (r ≡ replies.Ticket n i → ⊥) → (x ≡ replies.Ticket n i → ⊥) → Asks d n i s
    → Asks d n i (if b then (r, d) else (if c then (x, d) else s))
unless_asks n i true c r x d s p q w = λ h. absurd (p h)
unless_asks n i false true r x d s p q w = λ h. absurd (q h)
unless_asks n i false false r x d s p q w = w

-- a call that is given a ticket awaits its answer
asks : (d : DeskState) (call : Call) (n : ℕ) (i : IdData) → Asks d n i (desk_step d call)
asks d (calls.Ask method params gated) n i =
    unless_asks n i (gated && holds_back d.life) (is_exited d.life) replies.NotInitialized replies.Exited d (asked d (number_id (pos d.next_id)) method params) (λ h. cc) (λ h. cc)
    (λ h. drawn d n i (number_id (pos d.next_id)) h)
  where
    drawn : (d : DeskState) (n : ℕ) (i j : IdData) → replies.Ticket d.next_ticket j ≡ replies.Ticket n i
        → d.awaited ++ record { ticket = d.next_ticket; id = j } ∷ [] ≡ d.awaited ++ record { ticket = n; id = i } ∷ []
    drawn d n i j h =
        let one : d.next_ticket ≡ n = cc in
        let two : j ≡ i = cc in
        ap (λ (t : ℕ). d.awaited ++ record { ticket = t; id = j } ∷ []) one ∙ ap (λ (x : IdData). d.awaited ++ record { ticket = n; id = x } ∷ []) two
asks d (calls.Tell method params gated) n i =
    unless_asks n i (gated && holds_back d.life) (is_exited d.life) replies.Suppressed replies.Exited d (told_client d method params) (λ h. cc) (λ h. cc) (λ h. absurd (cc))
asks d (calls.Raw r) n i = unless_asks n i false (is_exited d.life) replies.Exited replies.Exited d (sent_with d r r.id) (λ h. cc) (λ h. cc) (sent r.id)
  where
    sent : (o : Option IdData) → Asks d n i (sent_with d r o)
    sent None h = absurd (cc)
    sent (Some j) h =
        let one : d.next_ticket ≡ n = cc in
        let two : j ≡ i = cc in
        ap (λ (t : ℕ). d.awaited ++ record { ticket = t; id = j } ∷ []) one ∙ ap (λ (x : IdData). d.awaited ++ record { ticket = n; id = x } ∷ []) two
asks d (calls.Poll m) n i = at (find (is_kept_for m) d.kept) (list_any (is_awaited_by m) d.awaited)
  where
    at : (o : Option KeptData) (b : Bool) → Asks d n i (polled d m o)
    at (Some k) b h = absurd (cc)
    at None b h = none (list_any (is_awaited_by m) d.awaited) h
      where
        none : (b : Bool) → (if b then replies.Awaited else replies.Gone) ≡ replies.Ticket n i → d.awaited ≡ d.awaited ++ record { ticket = n; id = i } ∷ []
        none true h = absurd (cc)
        none false h = absurd (cc)
asks d calls.NextId n i = λ h. absurd (cc)
asks d calls.Look n i = λ h. absurd (cc)
asks d (calls.Rise life) n i = λ h. absurd (cc)
asks d calls.Fall n i = λ h. absurd (cc)
asks d (calls.Answer r) n i = at (awaiting d r.id)
  where
    at : (o : Option AwaitedData) → Asks d n i (answered d r o)
    at None h = absurd (cc)
    at (Some a) h = absurd (cc)
asks d calls.Next n i = at d.outbox
  where
    at : (rs : List RequestData) → Asks d n i (first_of d rs)
    at [] h = absurd (cc)
    at (r ∷ rs) h = absurd (cc)
asks d calls.Take n i = λ h. absurd (cc)
asks d calls.Close n i = λ h. absurd (cc)

-- the oldest request of the id that awaits an answer is this one
abbrev Waits : AwaitedData → DeskState → Type 0
Waits a d = find (has_id a.id) d.awaited ≡ Some a

-- an answer to another id is for another request
other_id : (i j : IdData) → same_id i j ≡ false → (x : AwaitedData) → has_id j x ≡ true → has_id i x ≡ false
other_id i j h x e = at (same_id x.id i) refl
  where
    at : (b : Bool) → same_id x.id i ≡ b → same_id x.id i ≡ false
    at false is = is
    at true is =
        let one : i ≡ j = sym ((same_id-Decides x.id i).0 is) ∙ (same_id-Decides x.id j).0 e in
        absurd (true≢false (sym ((same_id-Decides i j).1 one) ∙ h))

module _ (a : AwaitedData) where
  sent_waits : (d : DeskState) (r : RequestData) (i : Option IdData) → Waits a d → Waits a (sent_with d r i).1
  sent_waits d r None h = h
  sent_waits d r (Some i) h = pushed_finds (has_id a.id) d.awaited (record { ticket = d.next_ticket; id = i } ∷ []) a h

  polled_waits : (d : DeskState) (m : ℕ) (o : Option KeptData) → Waits a d → Waits a (polled d m o).1
  polled_waits d m None h = h
  polled_waits d m (Some x) h = h

  answered_waits : (d : DeskState) (r : ResponseData) (o : Option AwaitedData) → Waits a d → same_id a.id r.id ≡ false → Waits a (answered d r o).1
  answered_waits d r None h none = h
  answered_waits d r (Some x) h none = find-rest (has_id r.id) (has_id a.id) (other_id a.id r.id none) d.awaited ∙ h

  first_waits : (d : DeskState) (rs : List RequestData) → Waits a d → Waits a (first_of d rs).1
  first_waits d [] h = h
  first_waits d (r ∷ rs) h = h

  step_waits : (d : DeskState) (call : Call) → Waits a d → answers_id a.id call ≡ false → Waits a (desk_step d call).1
  step_waits d (calls.Ask method params gated) h none =
      unless (Waits a) (gated && holds_back d.life) (is_exited d.life) replies.NotInitialized replies.Exited d (asked d (number_id (pos d.next_id)) method params) h
      (pushed_finds (has_id a.id) d.awaited (record { ticket = d.next_ticket; id = number_id (pos d.next_id) } ∷ []) a h)
  step_waits d (calls.Tell method params gated) h none =
      unless (Waits a) (gated && holds_back d.life) (is_exited d.life) replies.Suppressed replies.Exited d (told_client d method params) h h
  step_waits d (calls.Raw r) h none = unless (Waits a) false (is_exited d.life) replies.Exited replies.Exited d (sent_with d r r.id) h (sent_waits d r r.id h)
  step_waits d (calls.Poll m) h none = polled_waits d m (find (is_kept_for m) d.kept) h
  step_waits d calls.NextId h none = h
  step_waits d calls.Look h none = h
  step_waits d (calls.Rise life) h none = h
  step_waits d calls.Fall h none = h
  step_waits d (calls.Answer r) h none = answered_waits d r (awaiting d r.id) h none
  step_waits d calls.Next h none = first_waits d d.outbox h
  step_waits d calls.Take h none = h
  step_waits d calls.Close h none = h

  entry_waits : (d : DeskState) (call : Call) (reply : Option Reply) → Waits a d → answers_id a.id call ≡ false → Waits a (after_reply d call reply)
  entry_waits d c None h none = h
  entry_waits d c (Some reply) h none = step_waits d c h none

  neither : (b c : Bool) → (b || c) ≡ false → (b ≡ false) × (c ≡ false)
  neither true c h = absurd (true≢false h)
  neither false c h = (refl, h)

  replayed_waits : (d d2 : DeskState) (entries : List DeskEntry) → Replays d entries d2 → Waits a d → list_any (λ (e : DeskEntry). answers_id a.id e.call) entries ≡ false → Waits a d2
  replayed_waits d d2 [] r h none = subst (Waits a) (sym r) h
  replayed_waits d d2 (e ∷ es) r h none =
      let w = neither (answers_id a.id e.call) _ none in
      replayed_waits (after d e) d2 es r.1 (entry_waits d e.call e.reply h w.0) w.1

  -- an answer to the id that is given is kept for its ticket
  kept_for : (d : DeskState) (r : ResponseData) → r.id ≡ a.id → Waits a d → (desk_step d (calls.Answer r)).0 ≡ replies.Given → (desk_step d (calls.Answer r)).1.kept ≡ d.kept ++ record { ticket = a.ticket; response = r } ∷ []
  kept_for d r is h = at (same_id r.id null_id) (find (has_id r.id) d.awaited) (ap (λ j. find (has_id j) d.awaited) is ∙ h)
    where
      at : (b : Bool) (o : Option AwaitedData) → o ≡ Some a → (answered d r (if b then None else o)).0 ≡ replies.Given → (answered d r (if b then None else o)).1.kept ≡ d.kept ++ record { ticket = a.ticket; response = r } ∷ []
      at true o e g = absurd (cc)
      at false None e g = absurd (cc)
      at false (Some x) e g = ap (λ (t : AwaitedData). d.kept ++ record { ticket = t.ticket; response = r } ∷ []) (some_is x a e)

  -- a request that waits is counted
  counted : (xs : List AwaitedData) → find (has_id a.id) xs ≡ Some a → 1 ≤ times a.ticket (map (λ (x : AwaitedData). x.ticket) xs)
  counted [] h = absurd (cc)
  counted (x ∷ xs) h = at (has_id a.id x) h (counted xs)
    where
      at : (b : Bool) → cond b (Some x) (find (has_id a.id) xs) ≡ Some a → (find (has_id a.id) xs ≡ Some a → 1 ≤ times a.ticket (map (λ (x : AwaitedData). x.ticket) xs))
          → 1 ≤ times a.ticket (map (λ (x : AwaitedData). x.ticket) (x ∷ xs))
      at true e more =
          let one = one_time a.ticket x.ticket (ap (λ (y : AwaitedData). y.ticket) (sym (some_is x a e))) in
          omega (arith, one)
      at false e more = let some = more e in omega (arith, some)

-- of a ticket that isn't counted no answer is kept
uncounted : (n : ℕ) (ks : List KeptData) → times n (map (λ (k : KeptData). k.ticket) ks) ≡ 0 → list_any (is_kept_for n) ks ≡ false
uncounted n [] h = refl
uncounted n (k ∷ ks) h = at (k.ticket == n) refl (uncounted n ks (omega (arith, h)))
  where
    at : (b : Bool) → (k.ticket == n) ≡ b → list_any (is_kept_for n) ks ≡ false → (b || list_any (is_kept_for n) ks) ≡ false
    at false e more = more
    at true e more =
        let one = one_time n k.ticket (sym (eqb-true k.ticket n e)) in
        absurd (omega (arith, one, h))

asked_is_told : (d d2 d3 : DeskState) (call : Call) (ticket : ℕ) (i : IdData) (early : List DeskEntry) (r : ResponseData) (late : List DeskEntry)
    → WasAsked d call ticket i → WasAwaited (desk_step d call).1 ticket i early d2 → WasAnswered d2 ticket i r late d3 → (desk_step d3 (calls.Poll ticket)).0 ≡ replies.Answered r
asked_is_told d d2 d3 call n i early r late p q w =
    let a : AwaitedData = record { ticket = n; id = i } in
    let d1 = (desk_step d call).1 in
    let d4 = (desk_step d2 (calls.Answer r)).1 in
    let k : KeptData = record { ticket = n; response = r } in
    let waits : Waits a d1 =
    ap (find (has_id i)) (asks d call n i p.ticketed) ∙ find-append (has_id i) d.awaited (a ∷ []) ∙ ap (λ o. option_or o (find (has_id i) (a ∷ []))) (find_none (has_id i) d.awaited p.new_id)
    ∙ ap (λ b. cond b (Some a) None) ((same_id-Decides i i).1 refl) in
    let waits2 : Waits a d2 = replayed_waits a d1 d2 early q.replays waits q.none_came in
    -- the ticket is open once
    let entry : DeskEntry = record { call = call; reply = Some (replies.Ticket n i) } in
    let first : times n (open_tickets d) + times n (all_given (entry ∷ [])) ≡ times n (all_answered (entry ∷ [])) + times n (open_tickets d1) =
    tickets_add_up_lem d d1 (entry ∷ []) (sym p.ticketed, refl) n in
    let given_once = one_time n n refl in
    let later = tickets_add_up_lem d1 d2 early q.replays n in
    let parts = times-append n (map (λ (x : AwaitedData). x.ticket) d2.awaited) (map (λ (x : KeptData). x.ticket) d2.kept) in
    let once = counted a d2.awaited waits2 in
    let none : list_any (is_kept_for n) d2.kept ≡ false = uncounted n d2.kept (omega (arith, first, given_once, p.new_ticket, later, q.none_given, parts, once)) in
    let holds : Holds n k d4 = ap (find (is_kept_for n)) (kept_for a d2 r w.to_id waits2 w.given) ∙ kept_first n r d2.kept none in
    told n k d3 (replayed_holds n k d4 d3 late w.replays holds w.none_taken)

pub answers_come_back_lem : AnswersComeBack
answers_come_back_lem = record { polls = tells; given_is_told = given_is_told; asked_is_told = asked_is_told }
