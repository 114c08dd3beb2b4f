-- What a proxy makes of an event, case by case.
use Rattle.std.proofs.Common.{◌≡◌, ◌+◌, ℕ, List, [], ◌∷◌, ◌++◌, Bool, true, false, cond, ◌==◌, Option, Some, None, option_and_then, Result, Ok, map, nat_lt, bytes_eq, codes, refl, sym, ap, subst, inl, inr, ◌⊎◌}
use Rattle.std.specs.Prelude.{slice_set}
use Rattle.std.specs.List.{filter}
use Rattle.std.proofs.lemmas.Bool.{and_from}
use Rattle.serde_json.specs.Data.{Data, null}
use Rattle.lsp_rpc.specs.Message.{IdData, ErrorData, RequestData, ResponseData, MessageData, response, request}
use Rattle.lsp_proxy.specs.declared.side.Side.TheVariants.{Server, Editor}
use Rattle.lsp_proxy.specs.declared.side.Presence.{Presence}
use Rattle.lsp_proxy.specs.declared.side.Presence.TheVariants.{Here, Down, Gone}
use Rattle.lsp_proxy.specs.Entries.{AskerData, asker_at, place_of, without_entry}
use Rattle.lsp_rpc.specs.Cancel.{cancelled_id}
use Rattle.lsp_proxy.specs.Proxy.{ProxyState, Sent, Outcome, Opening, unopened, awaited, opened, response_to, drawn_of, bare, passed_as, invalid, internal, last_id, shutdown_request, exit_note, begin_initialize, initialize_at, initialize, initialized_heard, shut_down, pass_request, ask_at, ask_as, ask, answers_internal, left, closing_drawn, are_gone_but, leave, cancel_passed, asked_place, cancel_heard, note_as, note, call_heard, reply_to, replied_under, reply_heard, heard, from_editor, answered_to, opening_after, is_here_in, is_here, waiting_sent, by_waiting, initialize_answered, answer_to, answer_heard, is_closing, response_under, server_response, pass_to, request_to, lowest, server_request, first_requested, cancel_entry, server_cancel, here_from, broadcast, server_called, from_server, presence, is_gone}
use Rattle.lsp_proxy.specs.Law.{Event, react, is_none, says_exit}
use Rattle.lsp_proxy.specs.Origin.{is_drawn, is_response_under}

-- no response to `initialize` is awaited under n
abbrev pub IsUnawaited : ℕ → Opening → Type 0
IsUnawaited n (awaited m askers) = (n == m) ≡ false
IsUnawaited n other = Unit {0}

-- the proxy answers a request so by itself, and stays as it is
abbrev pub IsOwnAnswer : ProxyState → RequestData → Result Data ErrorData → Type 0
IsOwnAnswer s r body = (body ≡ invalid) ⊎ ((body ≡ internal) ⊎ ((v : Data) × (body ≡ Ok v) × (bytes_eq r.method (codes "initialize") ≡ true) × (s.opening ≡ opened v)))

pub data Row (s : ProxyState) : Type 0 where
  -- no response of the server
  idle : (e : Event) → ((n : ℕ) → is_response_under n e ≡ false) → Row s
  -- editor k's requests
  begins : (k : ℕ) (r : RequestData) (i : IdData) → r.id ≡ Some i → bytes_eq r.method (codes "initialize") ≡ true → s.opening ≡ unopened → Row s
  waits : (k : ℕ) (r : RequestData) (i : IdData) (m : ℕ) (askers : List AskerData) → r.id ≡ Some i → bytes_eq r.method (codes "initialize") ≡ true → s.opening ≡ awaited m askers → Row s
  shuts : (k : ℕ) (r : RequestData) (i : IdData) → r.id ≡ Some i → bytes_eq r.method (codes "shutdown") ≡ true → is_gone (presence k s) ≡ false → Row s
  passes : (k : ℕ) (r : RequestData) (i : IdData) → r.id ≡ Some i → Row s
  answers : (k : ℕ) (r : RequestData) (i : IdData) (body : Result Data ErrorData) → r.id ≡ Some i → IsOwnAnswer s r body → is_gone (presence k s) ≡ false → Row s
  -- its notifications
  announces : (k : ℕ) (r : RequestData) → Row s
  notes : (k : ℕ) (r : RequestData) → Row s
  cancels : (k : ℕ) (r : RequestData) → Row s
  leaves : (k : ℕ) (r : RequestData) → says_exit r ≡ true → Row s
  closes : (k : ℕ) (r : RequestData) → says_exit r ≡ true → Row s
  ends : (k : ℕ) (r : RequestData) → says_exit r ≡ true → Row s
  -- its responses
  replies : (k : ℕ) (r : ResponseData) (n : ℕ) (a : AskerData) → asker_at n s.requested ≡ Some a → Row s
  -- the server's responses
  stray : (r : ResponseData) (n : ℕ) → drawn_of r.id ≡ Some n → asker_at n s.asked ≡ None → IsUnawaited n s.opening → Row s
  is_shut : (r : ResponseData) (n : ℕ) → drawn_of r.id ≡ Some n → is_closing s.closing n ≡ true → Row s
  opens : (r : ResponseData) (n m : ℕ) (askers : List AskerData) → drawn_of r.id ≡ Some n → s.opening ≡ awaited m askers → (n == m) ≡ true → Row s
  returns : (r : ResponseData) (n : ℕ) (a : AskerData) → drawn_of r.id ≡ Some n → asker_at n s.asked ≡ Some a → IsUnawaited n s.opening → Row s
  -- its requests and notifications
  calls : (k : ℕ) (r : RequestData) (i : IdData) → r.id ≡ Some i → lowest s.editors ≡ Some k → Row s
  refuses : (r : RequestData) (i : IdData) → r.id ≡ Some i → Row s
  server_cancels : (r : RequestData) → Row s
  tells : (r : RequestData) → Row s

module _ {s : ProxyState} where
  abbrev pub event_of : Row s → Event
  event_of (idle e quiet) = e
  event_of (begins k r i under method is) = (Editor k, request r)
  event_of (waits k r i m askers under method is) = (Editor k, request r)
  event_of (shuts k r i under method here) = (Editor k, request r)
  event_of (passes k r i under) = (Editor k, request r)
  event_of (answers k r i body under own here) = (Editor k, request r)
  event_of (announces k r) = (Editor k, request r)
  event_of (notes k r) = (Editor k, request r)
  event_of (cancels k r) = (Editor k, request r)
  event_of (leaves k r exit) = (Editor k, request r)
  event_of (closes k r exit) = (Editor k, request r)
  event_of (ends k r exit) = (Editor k, request r)
  event_of (replies k r n a at) = (Editor k, response r)
  event_of (stray r n under none apart) = (Server, response r)
  event_of (is_shut r n under at) = (Server, response r)
  event_of (opens r n m askers under is at) = (Server, response r)
  event_of (returns r n a under at apart) = (Server, response r)
  event_of (calls k r i under to) = (Server, request r)
  event_of (refuses r i under) = (Server, request r)
  event_of (server_cancels r) = (Server, request r)
  event_of (tells r) = (Server, request r)

  -- the state after it
  abbrev pub after : Row s → ProxyState
  after (begins k r i under method is) = record s { next = s.next + 1; opening = awaited s.next (record { editor = k; id = i } ∷ []) }
  after (waits k r i m askers under method is) = record s { opening = awaited m (askers ++ record { editor = k; id = i } ∷ []) }
  after (shuts k r i under method here) = record s { editors = slice_set s.editors k Down }
  after (passes k r i under) = record s { next = s.next + 1; asked = s.asked ++ record { n = s.next; asker = record { editor = k; id = i } } ∷ [] }
  after (announces k r) = record s { announced = true }
  after (leaves k r exit) = left k s
  after (closes k r exit) = record (left k s) { next = s.next + 1; closing = Some s.next }
  after (ends k r exit) = left k s
  after (replies k r n a at) = record s { requested = without_entry n s.requested }
  after (is_shut r n under at) = record s { closing = None }
  after (opens r n m askers under is at) = record s { opening = opening_after r.body }
  after (returns r n a under at apart) = record s { asked = without_entry n s.asked }
  after (calls k r i under to) = record s { next = s.next + 1; requested = s.requested ++ record { n = s.next; asker = record { editor = k; id = i } } ∷ [] }
  after other = s

  -- what is sent
  abbrev pub sent_at : Row s → Sent
  sent_at (begins k r i under method is) = (Server, passed_as s.next (bare r)) ∷ []
  sent_at (shuts k r i under method here) = (Editor k, response_to i (Ok null)) ∷ []
  sent_at (passes k r i under) = (Server, passed_as s.next (bare r)) ∷ []
  sent_at (answers k r i body under own here) = (Editor k, response_to i body) ∷ []
  sent_at (announces k r) = (Server, request (bare r)) ∷ []
  sent_at (notes k r) = (Server, request (bare r)) ∷ []
  sent_at (cancels k r) = cancel_passed Server (asked_place k (cancelled_id r.params) s)
  sent_at (leaves k r exit) = answers_internal k s.requested
  sent_at (closes k r exit) = answers_internal k s.requested ++ (Server, shutdown_request s.next) ∷ []
  sent_at (ends k r exit) = answers_internal k s.requested ++ (Server, exit_note) ∷ []
  sent_at (replies k r n a at) = (Server, response_to a.id r.body) ∷ []
  sent_at (is_shut r n under at) = (Server, exit_note) ∷ []
  sent_at (opens r n m askers under is at) = map (answered_to r.body) (filter (is_here_in s.editors) askers)
  sent_at (returns r n a under at apart) = cond (is_here s a) (answered_to r.body a ∷ []) []
  sent_at (calls k r i under to) = (Editor k, passed_as s.next (bare r)) ∷ []
  sent_at (refuses r i under) = (Server, response_to i internal) ∷ []
  sent_at (server_cancels r) = cancel_entry (option_and_then (λ i. first_requested i s.requested) (cancelled_id r.params))
  sent_at (tells r) = map (λ k. (Editor k, request (bare r))) (here_from 0 s.editors)
  sent_at other = []

-- the outcome of the event is a row's
abbrev pub IsRow : ProxyState → Event → Outcome → Type 0
IsRow s e o = (x : Row s) × (event_of x ≡ e) × ((after x, sent_at x) ≡ o)

row_if : (s : ProxyState) (e : Event) (b : Bool) (x y : Outcome) → (b ≡ true → IsRow s e x) → (b ≡ false → IsRow s e y) → IsRow s e (cond b x y)
row_if s e true x y hx hy = hx refl
row_if s e false x y hx hy = hy refl

module _ (s : ProxyState) where
  -- ---- editor k's message

  module _ (k : ℕ) (here : is_gone (presence k s) ≡ false) (r : RequestData) where
    abbrev e : Event
    e = (Editor k, request r)

    abbrev Made : Outcome → Type 0
    Made o = IsRow s e o

    nothing : Made (s, [])
    nothing = (idle e (λ n. refl), refl, refl)

    own : (i : IdData) (body : Result Data ErrorData) → r.id ≡ Some i → IsOwnAnswer s r body → Made (s, (Editor k, response_to i body) ∷ [])
    own i body under is = (answers k r i body under is here, refl, refl)

    initialize_row : (i : IdData) → r.id ≡ Some i → bytes_eq r.method (codes "initialize") ≡ true → Made (initialize k (bare r) i s)
    unfolding initialize begin_initialize
    initialize_row i under method = go s.opening refl
      where
        go : (o : Opening) → s.opening ≡ o → Made (initialize_at o k (bare r) i s)
        go unopened is = row_if s e (nat_lt s.next last_id) _ _ (λ _. (begins k r i under method is, refl, refl)) (λ _. own i internal under (inr (inl refl)))
        go (awaited m askers) is = (waits k r i m askers under method is, refl, refl)
        go (opened v) is = own i (Ok v) under (inr (inr (v, refl, method, is)))

    ask_row : (i : IdData) → r.id ≡ Some i → Made (ask k (bare r) i s)
    unfolding ask pass_request
    ask_row i under = go (presence k s)
      where
        at : (o : Option ℕ) → Made (ask_at o k (bare r) i s)
        at (Some n) = own i invalid under (inl refl)
        at None = row_if s e (nat_lt s.next last_id) _ _ (λ _. (passes k r i under, refl, refl)) (λ _. own i internal under (inr (inl refl)))

        go : (p : Presence) → Made (ask_as p k (bare r) i s)
        go Here = at (place_of (record { editor = k; id = i }) s.asked)
        go Down = own i invalid under (inl refl)
        go Gone = nothing

    leave_row : says_exit r ≡ true → Made (leave k s)
    unfolding leave closing_drawn
    leave_row exit = row_if s e (are_gone_but k 0 s.editors) _ _ (λ _. go (nat_lt s.next last_id)) (λ _. (leaves k r exit, refl, refl))
      where
        go : (b : Bool) → Made (cond b (record (left k s) { next = s.next + 1; closing = Some s.next }) (left k s), answers_internal k s.requested ++ (Server, cond b (shutdown_request s.next) exit_note) ∷ [])
        go true = (closes k r exit, refl, refl)
        go false = (ends k r exit, refl, refl)

    note_row : (p : Presence) → Made (note_as p k (bare r) s)
    unfolding cancel_heard
    note_row Here = row_if s e (bytes_eq r.method (codes "$/cancelRequest")) _ _ (λ _. (cancels k r, refl, refl)) (λ _. (notes k r, refl, refl))
    note_row Down = nothing
    note_row Gone = nothing

    called_row : (o : Option IdData) → r.id ≡ o → Made (call_heard k r o s)
    unfolding initialized_heard shut_down note
    called_row (Some i) under =
        row_if s e (bytes_eq r.method (codes "initialize")) _ _ (initialize_row i under) (λ _.
        row_if s e (bytes_eq r.method (codes "shutdown")) _ _ (λ method. (shuts k r i under method here, refl, refl)) (λ _. ask_row i under))
    called_row None under =
        row_if s e (bytes_eq r.method (codes "initialize")) _ _ (λ _. nothing) (λ _.
        row_if s e (bytes_eq r.method (codes "initialized")) _ _ (λ _. row_if s e s.announced _ _ (λ _. nothing) (λ _. (announces k r, refl, refl))) (λ _.
        row_if s e (bytes_eq r.method (codes "shutdown")) _ _ (λ _. nothing) (λ _.
        row_if s e (bytes_eq r.method (codes "exit")) _ _ (λ method. leave_row (and_from (is_none r.id) (bytes_eq r.method (codes "exit")) (ap is_none under) method)) (λ _. note_row (presence k s)))))

  replied_row : (k : ℕ) (r : ResponseData) (o : Option ℕ) → IsRow s (Editor k, response r) (replied_under k r o s)
  replied_row k r None = (idle (Editor k, response r) (λ n. refl), refl, refl)
  replied_row k r (Some n) = go (asker_at n s.requested) refl
    where
      go : (o : Option AskerData) → asker_at n s.requested ≡ o → IsRow s (Editor k, response r) (reply_to k r n o s)
      go None at = (idle (Editor k, response r) (λ n. refl), refl, refl)
      go (Some a) at = row_if s (Editor k, response r) (k == a.editor) _ _ (λ _. (replies k r n a at, refl, refl)) (λ _. (idle (Editor k, response r) (λ n. refl), refl, refl))

  editor_row : (k : ℕ) (m : MessageData) → IsRow s (Editor k, m) (from_editor k m s)
  unfolding from_editor reply_heard
  editor_row k m = row_if s (Editor k, m) (is_gone (presence k s)) _ _ (λ _. gone m) (λ here. heard_row here m)
    where
      gone : (m : MessageData) → IsRow s (Editor k, m) (s, [])
      gone (response r) = (idle (Editor k, response r) (λ n. refl), refl, refl)
      gone (request r) = (idle (Editor k, request r) (λ n. refl), refl, refl)

      heard_row : is_gone (presence k s) ≡ false → (m : MessageData) → IsRow s (Editor k, m) (heard k m s)
      heard_row here (response r) = replied_row k r (drawn_of r.id)
      heard_row here (request r) = called_row k here r r.id refl

  -- ---- the server's message

  answered_row : (r : ResponseData) (n : ℕ) → drawn_of r.id ≡ Some n → IsUnawaited n s.opening → IsRow s (Server, response r) (answer_heard n r.body s)
  unfolding answer_heard
  answered_row r n under apart = go (asker_at n s.asked) refl
    where
      go : (o : Option AskerData) → asker_at n s.asked ≡ o → IsRow s (Server, response r) (answer_to n r.body o s)
      go None at = (stray r n under at apart, refl, refl)
      go (Some a) at = (returns r n a under at apart, refl, refl)

  waiting_row : (r : ResponseData) (n : ℕ) (o : Opening) → drawn_of r.id ≡ Some n → s.opening ≡ o → IsRow s (Server, response r) (by_waiting (waiting_sent o n r.body s.editors) n r.body s)
  waiting_row r n unopened under is = answered_row r n under (subst (IsUnawaited n) (sym is) tt)
  waiting_row r n (opened v) under is = answered_row r n under (subst (IsUnawaited n) (sym is) tt)
  waiting_row r n (awaited m askers) under is = go (n == m) refl
    where
      go : (b : Bool) → (n == m) ≡ b → IsRow s (Server, response r) (by_waiting (cond b (Some (map (answered_to r.body) (filter (is_here_in s.editors) askers))) None) n r.body s)
      go true at = (opens r n m askers under is at, refl, refl)
      go false at = answered_row r n under (subst (IsUnawaited n) (sym is) at)

  response_row : (r : ResponseData) (o : Option ℕ) → drawn_of r.id ≡ o → IsRow s (Server, response r) (response_under o r.body s)
  unfolding initialize_answered
  response_row r None under = (idle (Server, response r) (λ n. ap (is_drawn n) under), refl, refl)
  response_row r (Some n) under = row_if s (Server, response r) (is_closing s.closing n) _ _ (λ at. (is_shut r n under at, refl, refl)) (λ _. waiting_row r n s.opening under refl)

  server_called_row : (r : RequestData) (o : Option IdData) → r.id ≡ o → IsRow s (Server, request r) (server_called r o s)
  unfolding server_request server_cancel broadcast pass_to
  server_called_row r (Some i) under = go (lowest s.editors) refl
    where
      go : (o : Option ℕ) → lowest s.editors ≡ o → IsRow s (Server, request r) (request_to o (bare r) i s)
      go None to = (refuses r i under, refl, refl)
      go (Some k) to = row_if s (Server, request r) (nat_lt s.next last_id) _ _ (λ _. (calls k r i under to, refl, refl)) (λ _. (refuses r i under, refl, refl))
  server_called_row r None under = row_if s (Server, request r) (bytes_eq r.method (codes "$/cancelRequest")) _ _ (λ _. (server_cancels r, refl, refl)) (λ _. (tells r, refl, refl))

pub row : (s : ProxyState) (e : Event) → IsRow s e (react e s)
unfolding from_server server_response
row s (Editor k, m) = editor_row s k m
row s (Server, response r) = response_row s r (drawn_of r.id) refl
row s (Server, request r) = server_called_row s r r.id refl

-- what holds of each row holds of what a proxy makes of an event
pub by_rows : (P : (s : ProxyState) → Event → Outcome → Type 0) → ((s : ProxyState) (x : Row s) → P s (event_of x) (after x, sent_at x)) → (s : ProxyState) (e : Event) → P s e (react e s)
by_rows P each s e =
    let x = row s e in
    subst (λ o. P s e o) x.2 (subst (λ (d : Event). P s d (after x.0, sent_at x.0)) x.1 (each s x.0))
