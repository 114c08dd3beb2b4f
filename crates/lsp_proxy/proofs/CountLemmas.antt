-- Each response to a side is paid for by a request of that side.
use Rattle.std.proofs.Common.{◌≡◌, ◌≤◌, ◌+◌, arith, ℕ, List, [], ◌∷◌, ◌++◌, Bool, true, false, cond, not, ◌==◌, ◌&&◌, Option, Some, None, option_and_then, Result, Ok, Err, map, nat_lt, refl, ap}
use Rattle.std.specs.List.{filter}
use Rattle.serde_json.specs.Data.{Data}
use Rattle.lsp_rpc.specs.Message.{IdData, ErrorData, RequestData, MessageData, request}
use Rattle.lsp_rpc.specs.Ids.{same_id}
use Rattle.lsp_proxy.specs.declared.side.Side.{Side}
use Rattle.lsp_proxy.specs.declared.side.Side.TheVariants.{Server, Editor}
use Rattle.lsp_proxy.specs.Entries.{AskerData, Entry, asker_at, without_entry}
use Rattle.lsp_rpc.specs.Cancel.{cancelled_id}
use Rattle.lsp_proxy.specs.Proxy.{ProxyState, Sent, Outcome, Opening, awaited, bare, refused, answers_internal, cancel_note, cancel_limit, shutdown_request, exit_note, is_asked_by, cancel_passed, asked_place, answered_to, opening_after, is_here_in, is_here, first_requested, cancel_entry, here_from, opening_state}
use Rattle.lsp_proxy.specs.Law.{Event, react, sent_over, one_if, same_side, is_response_at, responses_at, is_same_id, is_request_at, requests_at, responses_to, times_requested}
use Rattle.lsp_proxy.proofs.RowLemmas.{Row, idle, begins, waits, shuts, passes, answers, announces, notes, cancels, leaves, closes, ends, replies, stray, is_shut, opens, returns, calls, refuses, server_cancels, tells, event_of, after, sent_at, by_rows}

-- ---- sums

total : {X : Type 0} → (X → ℕ) → List X → ℕ
total f [] = 0
total f (x ∷ xs) = f x + total f xs

total-append : {X : Type 0} (f : X → ℕ) (xs : List X) (x : X) → total f (xs ++ x ∷ []) ≡ total f xs + f x
unfolding total
total-append f [] x = omega arith
total-append f (y ∷ xs) x = let more = total-append f xs x in omega (arith, more)

total-filter : {X : Type 0} (f : X → ℕ) (p : X → Bool) (xs : List X) → total f (filter p xs) + total f (filter (λ x. not (p x)) xs) ≡ total f xs
unfolding total
total-filter f p [] = omega arith
total-filter f p (x ∷ xs) = go (p x) (total-filter f p xs)
  where
    go : (b : Bool) → total f (filter p xs) + total f (filter (λ y. not (p y)) xs) ≡ total f xs
        → total f (cond b (x ∷ filter p xs) (filter p xs)) + total f (cond (not b) (x ∷ filter (λ y. not (p y)) xs) (filter (λ y. not (p y)) xs)) ≡ f x + total f xs
    go true more = omega (arith, more)
    go false more = omega (arith, more)

total-without : (f : AskerData → ℕ) (n : ℕ) (a : AskerData) (es : List Entry) → asker_at n es ≡ Some a → total (λ e. f e.asker) (without_entry n es) + f a ≡ total (λ e. f e.asker) es
unfolding total
total-without f n a [] at = absurd (cc)
total-without f n a (e ∷ es) at = go (n == e.n) at (total-without f n a es)
  where
    go : (b : Bool) → cond b (Some e.asker) (asker_at n es) ≡ Some a → (asker_at n es ≡ Some a → total (λ x. f x.asker) (without_entry n es) + f a ≡ total (λ x. f x.asker) es)
        → total (λ x. f x.asker) (cond b es (e ∷ without_entry n es)) + f a ≡ f e.asker + total (λ x. f x.asker) es
    go true at later =
        let same : e.asker ≡ a = cc in
        let ones : f e.asker ≡ f a = ap f same in
        omega (arith, ones)
    go false at later = let less = later at in omega (arith, less)

module _ (side : Side) (i : IdData) where
  -- what a response to a side under an id counts
  abbrev owed : Side → IdData → ℕ
  owed to id = one_if (same_side side to && same_id i id)

  abbrev owed_asker : AskerData → ℕ
  owed_asker a = owed (Editor a.editor) a.id

  abbrev owed_server : AskerData → ℕ
  owed_server a = owed Server a.id

  in_opening : Opening → ℕ
  in_opening (awaited n askers) = total owed_asker askers
  in_opening other = 0

  -- the responses that the side may still get under the id
  abbrev pending : ProxyState → ℕ
  pending s = total (λ e. owed_asker e.asker) s.asked + in_opening s.opening + total (λ e. owed_server e.asker) s.requested

  abbrev Bound : ProxyState → Event → Outcome → Type 0
  Bound s e o = responses_at side i o.1 + pending o.0 ≤ pending s + one_if (is_request_at side i e)

  -- ---- responses among what is sent

  responses-append : (xs ys : Sent) → responses_at side i (xs ++ ys) ≡ responses_at side i xs + responses_at side i ys
  responses-append [] ys = omega arith
  responses-append (x ∷ xs) ys = let more = responses-append xs ys in omega (arith, more)

  all_refused : (es : List Entry) → responses_at side i (map refused es) ≡ total (λ e. owed_server e.asker) es
  unfolding total
  all_refused [] = refl
  all_refused (e ∷ es) = let more = all_refused es in omega (arith, more)

  none_noted : (r : RequestData) (ks : List ℕ) → responses_at side i (map (λ j. (Editor j, request r)) ks) ≡ 0
  none_noted r [] = refl
  none_noted r (j ∷ ks) = let more = none_noted r ks in omega (arith, more)

  none_cancel : (to : Side) (o : Option ℕ) → responses_at side i (cancel_passed to o) ≡ 0
  none_cancel to None = refl
  none_cancel to (Some n) = go (nat_lt n cancel_limit)
    where
      go : (b : Bool) → responses_at side i (cond b ((to, cancel_note n) ∷ []) []) ≡ 0
      go true = refl
      go false = refl

  none_entry : (o : Option Entry) → responses_at side i (cancel_entry o) ≡ 0
  none_entry None = refl
  none_entry (Some e) = none_cancel (Editor e.asker.editor) (Some e.n)

  answered_most : (body : Result Data ErrorData) (p : AskerData → Bool) (askers : List AskerData) → responses_at side i (map (answered_to body) (filter p askers)) ≤ total owed_asker askers
  unfolding total
  answered_most body p [] = omega arith
  answered_most body p (a ∷ askers) = go (p a) (answered_most body p askers)
    where
      go : (b : Bool) → responses_at side i (map (answered_to body) (filter p askers)) ≤ total owed_asker askers
          → responses_at side i (map (answered_to body) (cond b (a ∷ filter p askers) (filter p askers))) ≤ owed_asker a + total owed_asker askers
      go true more = omega (arith, more)
      go false more = omega (arith, more)

  returned_most : (b : Bool) (body : Result Data ErrorData) (a : AskerData) → responses_at side i (cond b (answered_to body a ∷ []) []) ≤ owed_asker a
  returned_most true body a = omega arith
  returned_most false body a = omega arith

  settled : (body : Result Data ErrorData) → in_opening (opening_after body) ≡ 0
  unfolding in_opening
  settled (Ok v) = refl
  settled (Err e) = refl

  -- ---- row by row

  -- a request under an id pays for one response under it
  paid : (from : Side) (r : RequestData) (id : IdData) → r.id ≡ Some id → one_if (is_request_at side i (from, request r)) ≡ owed from id
  paid from r id under = ap (λ o. one_if (same_side side from && is_same_id i o)) under

  -- an editor leaves, and one more request is sent or none
  left_pays : (k : ℕ) (s : ProxyState) (m : MessageData) → is_response_at side i (Server, m) ≡ false → responses_at side i (answers_internal k s.requested ++ (Server, m) ∷ []) + total (λ e. owed_server e.asker) (filter (λ e. not (is_asked_by k e)) s.requested) ≡ total (λ e. owed_server e.asker) s.requested
  left_pays k s m none =
      let one : one_if (is_response_at side i (Server, m)) ≡ 0 = ap one_if none in
      let all = responses-append (answers_internal k s.requested) ((Server, m) ∷ []) in
      let refusals = all_refused (filter (is_asked_by k) s.requested) in
      let parts = total-filter (λ e. owed_server e.asker) (is_asked_by k) s.requested in
      omega (arith, all, one, refusals, parts)

  bound_row : (s : ProxyState) (x : Row s) → Bound s (event_of x) (after x, sent_at x)
  unfolding in_opening total
  bound_row s (begins k r id under method is) =
      let pays = paid (Editor k) r id under in
      let was : in_opening s.opening ≡ 0 = ap in_opening is in
      omega (arith, pays, was)
  bound_row s (waits k r id m askers under method is) =
      let pays = paid (Editor k) r id under in
      let was : in_opening s.opening ≡ total owed_asker askers = ap in_opening is in
      let more = total-append owed_asker askers (record { editor = k; id = id }) in
      omega (arith, pays, was, more)
  bound_row s (shuts k r id under method here) = let pays = paid (Editor k) r id under in omega (arith, pays)
  bound_row s (passes k r id under) =
      let pays = paid (Editor k) r id under in
      let more = total-append (λ (e : Entry). owed_asker e.asker) s.asked (record { n = s.next; asker = record { editor = k; id = id } }) in
      omega (arith, pays, more)
  bound_row s (answers k r id body under own here) = let pays = paid (Editor k) r id under in omega (arith, pays)
  bound_row s (cancels k r) = let none = none_cancel Server (asked_place k (cancelled_id r.params) s) in omega (arith, none)
  bound_row s (leaves k r exit) =
      let refusals = all_refused (filter (is_asked_by k) s.requested) in
      let parts = total-filter (λ e. owed_server e.asker) (is_asked_by k) s.requested in
      omega (arith, refusals, parts)
  bound_row s (closes k r exit) = let parts = left_pays k s (shutdown_request s.next) refl in omega (arith, parts)
  bound_row s (ends k r exit) = let parts = left_pays k s exit_note refl in omega (arith, parts)
  bound_row s (replies k r n a at) = let less = total-without owed_server n a s.requested at in omega (arith, less)
  bound_row s (opens r n m askers under is at) =
      let was : in_opening s.opening ≡ total owed_asker askers = ap in_opening is in
      let most = answered_most r.body (is_here_in s.editors) askers in
      let none = settled r.body in
      omega (arith, was, most, none)
  bound_row s (returns r n a under at apart) =
      let less = total-without owed_asker n a s.asked at in
      let most = returned_most (is_here s a) r.body a in
      omega (arith, less, most)
  bound_row s (calls k r id under to) =
      let pays = paid Server r id under in
      let more = total-append (λ (e : Entry). owed_server e.asker) s.requested (record { n = s.next; asker = record { editor = k; id = id } }) in
      omega (arith, pays, more)
  bound_row s (refuses r id under) = let pays = paid Server r id under in omega (arith, pays)
  bound_row s (server_cancels r) = let none = none_entry (option_and_then (λ x. first_requested x s.requested) (cancelled_id r.params)) in omega (arith, none)
  bound_row s (tells r) = let none = none_noted (bare r) (here_from 0 s.editors) in omega (arith, none)
  bound_row s (idle e quiet) = omega arith
  bound_row s (announces k r) = omega arith
  bound_row s (notes k r) = omega arith
  bound_row s (stray r n under none apart) = omega arith
  bound_row s (is_shut r n under at) = omega arith

  -- ---- over all events

  over_all : (es : List Event) (s : ProxyState) → responses_at side i (sent_over es s) ≤ pending s + requests_at side i es
  over_all [] s = omega arith
  over_all (e ∷ es) s =
      let here = by_rows (λ t d o. Bound t d o) bound_row s e in
      let later = over_all es (react e s).0 in
      let all = responses-append (react e s).1 (sent_over es (react e s).0) in
      omega (arith, here, later, all)

  pub at_most_sent : (editors : ℕ) (es : List Event) → responses_at side i (sent_over es (opening_state editors)) ≤ requests_at side i es
  unfolding in_opening total
  at_most_sent editors es = let all = over_all es (opening_state editors) in omega (arith, all)

pub at_most_asked : (k : ℕ) (i : IdData) (editors : ℕ) (es : List Event) → responses_to k i (sent_over es (opening_state editors)) ≤ times_requested k i es
at_most_asked k i editors es = at_most_sent (Editor k) i editors es
