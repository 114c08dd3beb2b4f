-- A proxy sends no float where none came.
use Rattle.std.proofs.Common.{◌≡◌, ◌+◌, ℕ, List, [], ◌∷◌, ◌++◌, Bool, true, false, cond, ◌==◌, Option, Some, None, option_and_then, Result, Ok, Err, map, nat_lt, bytes_eq, codes, refl}
use Rattle.std.specs.List.{filter}
use Rattle.serde_json.specs.Data.{Data}
use Rattle.lsp_rpc.specs.Message.{IdData, ErrorData, RequestData, ResponseData, MessageData, response, request, may_have_float, body_has_float, message_has_float}
use Rattle.lsp_proxy.specs.declared.side.Side.{Side}
use Rattle.lsp_proxy.specs.declared.side.Side.TheVariants.{Server, Editor}
use Rattle.lsp_proxy.specs.declared.side.Presence.{Presence}
use Rattle.lsp_proxy.specs.declared.side.Presence.TheVariants.{Here, Down, Gone}
use Rattle.lsp_proxy.specs.Entries.{AskerData, Entry, asker_at}
use Rattle.lsp_rpc.specs.Cancel.{cancelled_id}
use Rattle.lsp_proxy.specs.Proxy.{ProxyState, Sent, Outcome, Opening, unopened, awaited, opened, bare, last_id, begin_initialize, initialize_at, initialize, initialized_heard, shut_down, pass_request, ask_at, ask_as, ask, refused, answers_internal, cancel_note, cancel_limit, exit_note, shutdown_request, is_asked_by, are_gone_but, leave, cancel_passed, asked_place, cancel_heard, note_as, note, call_heard, reply_to, replied_under, reply_heard, heard, from_editor, answered_to, opening_after, is_here_in, is_here, waiting_sent, by_waiting, initialize_answered, answer_to, answer_heard, is_closing, response_under, server_response, pass_to, request_to, last_message, closing_drawn, left, lowest, server_request, first_requested, cancel_entry, server_cancel, here_from, broadcast, server_called, from_server, presence, is_gone, drawn_of}
use Rattle.lsp_proxy.specs.Law.{Event, react}
use Rattle.lsp_relay.specs.Floats.{AreFloatFree, opening_has_float}

abbrev IsKept : ProxyState → Type 0
IsKept s = opening_has_float s.opening ≡ false

-- nothing of it holds a float
abbrev pub IsFree : Outcome → Type 0
IsFree o = AreFloatFree o.1 × IsKept o.0

free_if : (b : Bool) (x y : Outcome) → IsFree x → IsFree y → IsFree (cond b x y)
free_if true x y hx hy = hx
free_if false x y hx hy = hy

free_append : (xs ys : Sent) → AreFloatFree xs → AreFloatFree ys → AreFloatFree (xs ++ ys)
free_append [] ys hx hy = hy
free_append (x ∷ xs) ys hx hy = (hx.0, free_append xs ys hx.1 hy)

free_refused : (es : List Entry) → AreFloatFree (map refused es)
free_refused [] = tt
free_refused (e ∷ es) = (refl, free_refused es)

free_noted : (r : RequestData) (ks : List ℕ) → may_have_float r.params ≡ false → AreFloatFree (map (λ j. (Editor j, request r)) ks)
free_noted r [] h = tt
free_noted r (j ∷ ks) h = (h, free_noted r ks h)

free_cancel : (to : Side) (o : Option ℕ) → AreFloatFree (cancel_passed to o)
free_cancel to None = tt
free_cancel to (Some n) = go (nat_lt n cancel_limit)
  where
    go : (b : Bool) → AreFloatFree (cond b ((to, cancel_note n) ∷ []) [])
    go true = (refl, tt)
    go false = tt

free_answered : (body : Result Data ErrorData) (p : AskerData → Bool) (askers : List AskerData) → body_has_float body ≡ false → AreFloatFree (map (answered_to body) (filter p askers))
free_answered body p [] h = tt
free_answered body p (a ∷ askers) h = go (p a) (free_answered body p askers h)
  where
    go : (b : Bool) → AreFloatFree (map (answered_to body) (filter p askers)) → AreFloatFree (map (answered_to body) (cond b (a ∷ filter p askers) (filter p askers)))
    go true more = (h, more)
    go false more = more

-- ---- what editor k sends

module _ (k : ℕ) where
  free_begin : (r : RequestData) (i : IdData) (s : ProxyState) → may_have_float r.params ≡ false → IsKept s → IsFree (begin_initialize k r i s)
  unfolding begin_initialize
  free_begin r i s h kept = free_if (nat_lt s.next last_id) _ _ ((h, tt), refl) ((refl, tt), kept)

  free_initialize_at : (o : Opening) (r : RequestData) (i : IdData) (s : ProxyState) → may_have_float r.params ≡ false → opening_has_float o ≡ false → IsKept s → IsFree (initialize_at o k r i s)
  free_initialize_at unopened r i s h o kept = free_begin r i s h kept
  free_initialize_at (awaited n askers) r i s h o kept = (tt, refl)
  free_initialize_at (opened v) r i s h o kept = ((o, tt), kept)

  free_pass : (r : RequestData) (i : IdData) (s : ProxyState) → may_have_float r.params ≡ false → IsKept s → IsFree (pass_request k r i s)
  unfolding pass_request
  free_pass r i s h kept = free_if (nat_lt s.next last_id) _ _ ((h, tt), kept) ((refl, tt), kept)

  free_ask_at : (o : Option ℕ) (r : RequestData) (i : IdData) (s : ProxyState) → may_have_float r.params ≡ false → IsKept s → IsFree (ask_at o k r i s)
  free_ask_at (Some n) r i s h kept = ((refl, tt), kept)
  free_ask_at None r i s h kept = free_pass r i s h kept

  free_ask_as : (p : Presence) (r : RequestData) (i : IdData) (s : ProxyState) → may_have_float r.params ≡ false → IsKept s → IsFree (ask_as p k r i s)
  free_ask_as Here r i s h kept = free_ask_at _ r i s h kept
  free_ask_as Down r i s h kept = ((refl, tt), kept)
  free_ask_as Gone r i s h kept = (tt, kept)

  free_with_id : (r : RequestData) (i : IdData) (s : ProxyState) → may_have_float r.params ≡ false → IsKept s → IsFree (call_heard k r (Some i) s)
  unfolding initialize shut_down ask
  free_with_id r i s h kept =
      free_if (bytes_eq r.method (codes "initialize")) _ _ (free_initialize_at s.opening (bare r) i s h kept kept)
      (free_if (bytes_eq r.method (codes "shutdown")) _ _ ((refl, tt), kept) (free_ask_as (presence k s) (bare r) i s h kept))

  free_initialized : (r : RequestData) (s : ProxyState) → may_have_float r.params ≡ false → IsKept s → IsFree (initialized_heard r s)
  unfolding initialized_heard
  free_initialized r s h kept = free_if s.announced _ _ (tt, kept) ((h, tt), kept)

  free_last : (n : ℕ) → AreFloatFree ((Server, last_message n) ∷ [])
  free_last n = go (nat_lt n last_id)
    where
      go : (b : Bool) → AreFloatFree ((Server, cond b (shutdown_request n) exit_note) ∷ [])
      go true = (refl, tt)
      go false = (refl, tt)

  kept_closed : (s : ProxyState) → IsKept s → IsKept (closing_drawn s)
  unfolding closing_drawn
  kept_closed s kept = go (nat_lt s.next last_id)
    where
      go : (b : Bool) → IsKept (cond b (record s { next = s.next + 1; closing = Some s.next }) s)
      go true = kept
      go false = kept

  free_leave : (s : ProxyState) → IsKept s → IsFree (leave k s)
  unfolding leave
  free_leave s kept =
      let answers = free_refused (filter (is_asked_by k) s.requested) in
      free_if (are_gone_but k 0 s.editors) _ _
      (free_append (answers_internal k s.requested) ((Server, last_message s.next) ∷ []) answers (free_last s.next), kept_closed (left k s) kept)
      (answers, kept)

  free_cancels : (r : RequestData) (s : ProxyState) → IsKept s → IsFree (cancel_heard k r s)
  unfolding cancel_heard
  free_cancels r s kept = (free_cancel Server (asked_place k (cancelled_id r.params) s), kept)

  free_note_as : (p : Presence) (r : RequestData) (s : ProxyState) → may_have_float r.params ≡ false → r.id ≡ None → IsKept s → IsFree (note_as p k r s)
  free_note_as Here r s h none kept = free_if (bytes_eq r.method (codes "$/cancelRequest")) _ _ (free_cancels r s kept) ((h, tt), kept)
  free_note_as Down r s h none kept = (tt, kept)
  free_note_as Gone r s h none kept = (tt, kept)

  free_without_id : (r : RequestData) (s : ProxyState) → may_have_float r.params ≡ false → IsKept s → IsFree (call_heard k r None s)
  unfolding note
  free_without_id r s h kept =
      free_if (bytes_eq r.method (codes "initialize")) _ _ (tt, kept)
      (free_if (bytes_eq r.method (codes "initialized")) _ _ (free_initialized (bare r) s h kept)
      (free_if (bytes_eq r.method (codes "shutdown")) _ _ (tt, kept)
      (free_if (bytes_eq r.method (codes "exit")) _ _ (free_leave s kept) (free_note_as (presence k s) (bare r) s h refl kept))))

  free_called : (r : RequestData) (o : Option IdData) (s : ProxyState) → may_have_float r.params ≡ false → IsKept s → IsFree (call_heard k r o s)
  free_called r (Some i) s h kept = free_with_id r i s h kept
  free_called r None s h kept = free_without_id r s h kept

  free_reply_to : (r : ResponseData) (n : ℕ) (o : Option AskerData) (s : ProxyState) → body_has_float r.body ≡ false → IsKept s → IsFree (reply_to k r n o s)
  free_reply_to r n None s h kept = (tt, kept)
  free_reply_to r n (Some a) s h kept = free_if (k == a.editor) _ _ ((h, tt), kept) (tt, kept)

  free_replied : (r : ResponseData) (o : Option ℕ) (s : ProxyState) → body_has_float r.body ≡ false → IsKept s → IsFree (replied_under k r o s)
  free_replied r None s h kept = (tt, kept)
  free_replied r (Some n) s h kept = free_reply_to r n (asker_at n s.requested) s h kept

  free_heard : (m : MessageData) (s : ProxyState) → message_has_float m ≡ false → IsKept s → IsFree (heard k m s)
  unfolding reply_heard
  free_heard (response r) s h kept = free_replied r (drawn_of r.id) s h kept
  free_heard (request r) s h kept = free_called r r.id s h kept

  free_editor : (m : MessageData) (s : ProxyState) → message_has_float m ≡ false → IsKept s → IsFree (from_editor k m s)
  unfolding from_editor
  free_editor m s h kept = free_if (is_gone (presence k s)) _ _ (tt, kept) (free_heard m s h kept)

-- ---- what the server sends

free_answer_to : (n : ℕ) (body : Result Data ErrorData) (o : Option AskerData) (s : ProxyState) → body_has_float body ≡ false → IsKept s → IsFree (answer_to n body o s)
free_answer_to n body None s h kept = (tt, kept)
free_answer_to n body (Some a) s h kept = (go (is_here s a), kept)
  where
    go : (b : Bool) → AreFloatFree (cond b (answered_to body a ∷ []) [])
    go true = (h, tt)
    go false = tt

free_given : (n : ℕ) (body : Result Data ErrorData) (s : ProxyState) → body_has_float body ≡ false → IsKept s → IsFree (answer_heard n body s)
unfolding answer_heard
free_given n body s h kept = free_answer_to n body (asker_at n s.asked) s h kept

kept_after : (body : Result Data ErrorData) → body_has_float body ≡ false → opening_has_float (opening_after body) ≡ false
kept_after (Ok v) h = h
kept_after (Err e) h = refl

free_waiting : (o : Opening) (n : ℕ) (body : Result Data ErrorData) (s : ProxyState) → body_has_float body ≡ false → IsKept s → IsFree (by_waiting (waiting_sent o n body s.editors) n body s)
free_waiting unopened n body s h kept = free_given n body s h kept
free_waiting (awaited m askers) n body s h kept = go (n == m)
  where
    go : (b : Bool) → IsFree (by_waiting (cond b (Some (map (answered_to body) (filter (is_here_in s.editors) askers))) None) n body s)
    go true = (free_answered body (is_here_in s.editors) askers h, kept_after body h)
    go false = free_given n body s h kept
free_waiting (opened v) n body s h kept = free_given n body s h kept

free_response : (o : Option ℕ) (body : Result Data ErrorData) (s : ProxyState) → body_has_float body ≡ false → IsKept s → IsFree (response_under o body s)
unfolding initialize_answered
free_response None body s h kept = (tt, kept)
free_response (Some n) body s h kept = free_if (is_closing s.closing n) _ _ ((refl, tt), kept) (free_waiting s.opening n body s h kept)

free_pass_to : (k : ℕ) (r : RequestData) (i : IdData) (s : ProxyState) → may_have_float r.params ≡ false → IsKept s → IsFree (pass_to k r i s)
unfolding pass_to
free_pass_to k r i s h kept = ((h, tt), kept)

free_request_to : (o : Option ℕ) (r : RequestData) (i : IdData) (s : ProxyState) → may_have_float r.params ≡ false → IsKept s → IsFree (request_to o r i s)
free_request_to None r i s h kept = ((refl, tt), kept)
free_request_to (Some k) r i s h kept = free_if (nat_lt s.next last_id) _ _ (free_pass_to k r i s h kept) ((refl, tt), kept)

free_cancel_entry : (o : Option Entry) → AreFloatFree (cancel_entry o)
free_cancel_entry None = tt
free_cancel_entry (Some e) = free_cancel (Editor e.asker.editor) (Some e.n)

free_server_called : (r : RequestData) (o : Option IdData) (s : ProxyState) → may_have_float r.params ≡ false → IsKept s → IsFree (server_called r o s)
unfolding server_request server_cancel broadcast
free_server_called r (Some i) s h kept = free_request_to (lowest s.editors) (bare r) i s h kept
free_server_called r None s h kept =
    free_if (bytes_eq r.method (codes "$/cancelRequest")) _ _
    (free_cancel_entry (option_and_then (λ i. first_requested i s.requested) (cancelled_id r.params)), kept)
    (free_noted (bare r) (here_from 0 s.editors) h, kept)

free_server : (m : MessageData) (s : ProxyState) → message_has_float m ≡ false → IsKept s → IsFree (from_server m s)
unfolding from_server server_response
free_server (response r) s h kept = free_response (drawn_of r.id) r.body s h kept
free_server (request r) s h kept = free_server_called r r.id s h kept

-- what a proxy makes of a message without a float holds none
pub free : (e : Event) (s : ProxyState) → message_has_float e.1 ≡ false → opening_has_float s.opening ≡ false → IsFree (react e s)
free (Editor k, m) s h kept = free_editor k m s h kept
free (Server, m) s h kept = free_server m s h kept
