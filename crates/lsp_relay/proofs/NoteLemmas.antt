-- What is written of a message without floats holds none.
use Rattle.std.proofs.Common.{◌≡◌, ℕ, List, Bool, true, false, ◌||◌, ◌&&◌, ◌==◌, cond, Option, Some, None, option_map, option_and_then, bytes_eq, Result, Ok, Err, Ordering, Less, Equal, Greater, nat_cmp, codes, refl, subst}
use Rattle.std.specs.Prelude.{⊤, is_none}
use Rattle.std.specs.Ordering.{match_ordering}
use Rattle.std.specs.Cmp.Lexicographic.{slice_cmp}
use Rattle.serde_json.specs.Data.{Data, Members, no_members, member, null, boolean, number, string, array, object, unsigned, put}
use Rattle.serde_json.specs.Events.{members_len}
use Rattle.serde_json.specs.Find.{of_integer, get_member}
use Rattle.serde_json.specs.Written.{has_float, members_have_float}
use Rattle.lsp_rpc.specs.Message.{IdData, ErrorData, MessageData, response, request, may_have_float, body_has_float, message_has_float, id_data, code_number, clean_message}
use Rattle.lsp_rpc.proofs.Floats.{clean_message_has_no_float}
use Rattle.lsp_rpc.proofs.Integers.{has_float-of_integer, has_float-id_data}
use Rattle.lsp_proxy.specs.declared.side.Side.{Side}
use Rattle.lsp_proxy.specs.Law.{Event}
use Rattle.lsp_relay.specs.Value.{put_some, put_body, error_value, version, message_value}
use Rattle.lsp_relay.specs.Notes.{event_with, event_in, event_of_message, side_in, number_of_side, note_of}

either_false : (a b : Bool) → a ≡ false → b ≡ false → (a || b) ≡ false
either_false true b h k = h
either_false false b h k = k

left_false : (a b : Bool) → (a || b) ≡ false → a ≡ false
left_false true b h = h
left_false false b h = refl

right_false : (a b : Bool) → (a || b) ≡ false → b ≡ false
right_false true b h = cc
right_false false b h = h

put_free : (k : List ℕ) (d : Data) (ms : Members) → has_float d ≡ false → members_have_float ms ≡ false → members_have_float (put k d ms) ≡ false
put_free k d no_members h free = either_false (has_float d) false h refl
put_free k d (member l e ms) h free =
    let rest : members_have_float ms ≡ false = right_false (has_float e) (members_have_float ms) free in
    at (slice_cmp nat_cmp k l) rest (put_free k d ms h rest)
  where
    at : (o : Ordering) → members_have_float ms ≡ false → members_have_float (put k d ms) ≡ false → members_have_float (match_ordering o (member k d (member l e ms)) (member l d ms) (member l e (put k d ms))) ≡ false
    at Less rest more = either_false (has_float d) (has_float e || members_have_float ms) h free
    at Equal rest more = either_false (has_float d) (members_have_float ms) h rest
    at Greater rest more = either_false (has_float e) (members_have_float (put k d ms)) (left_false (has_float e) (members_have_float ms) free) more

put_some_free : (k : List ℕ) (o : Option Data) (ms : Members) → may_have_float o ≡ false → members_have_float ms ≡ false → members_have_float (put_some k o ms) ≡ false
put_some_free k None ms h free = free
put_some_free k (Some d) ms h free = put_free k d ms h free

ids_free : (o : Option IdData) → may_have_float (option_map id_data o) ≡ false
ids_free None = refl
ids_free (Some i) = has_float-id_data i

error_free : (e : ErrorData) → may_have_float e.payload ≡ false → has_float (error_value e) ≡ false
error_free e h =
    let extra = put_some (codes "data") e.payload no_members in
    put_free (codes "code") (number (of_integer (code_number e.code))) (put (codes "message") (string e.message) extra) (has_float-of_integer (code_number e.code))
    (put_free (codes "message") (string e.message) extra refl (put_some_free (codes "data") e.payload no_members h refl))

body_free : (b : Result Data ErrorData) (ms : Members) → body_has_float b ≡ false → members_have_float ms ≡ false → members_have_float (put_body b ms) ≡ false
body_free (Ok v) ms h free = put_free (codes "result") v ms h free
body_free (Err e) ms h free = put_free (codes "error") (error_value e) ms (error_free e h) free

pub value_free : (m : MessageData) → message_has_float m ≡ false → has_float (message_value m) ≡ false
value_free (response r) h = body_free r.body (put (codes "id") (id_data r.id) version) h (put_free (codes "id") (id_data r.id) version (has_float-id_data r.id) refl)
value_free (request r) h =
    let named = put (codes "method") (string r.method) version in
    put_some_free (codes "params") r.params (put_some (codes "id") (option_map id_data r.id) named) h
    (put_some_free (codes "id") (option_map id_data r.id) named (ids_free r.id) (put_free (codes "method") (string r.method) version refl refl))

pub note_free : (s : Side × MessageData) → message_has_float s.1 ≡ false → message_has_float (note_of s) ≡ false
note_free s h =
    put_free (codes "message") (message_value s.1) (put (codes "side") (number (unsigned (number_of_side s.0))) no_members) (value_free s.1 h) refl

-- ---- what comes

abbrev IsEventFree : Option Event → Type 0
IsEventFree None = ⊤
IsEventFree (Some e) = message_has_float e.1 ≡ false

free_cond : (b : Bool) (o : Option Event) → IsEventFree o → IsEventFree (cond b o None)
free_cond true o h = h
free_cond false o h = tt

free_with : (side : Option Side) (d : Option Data) → IsEventFree (event_with side (option_and_then clean_message d))
free_with None d = tt
free_with (Some side) None = tt
free_with (Some side) (Some d) = at (clean_message d) refl
  where
    at : (o : Option MessageData) → clean_message d ≡ o → IsEventFree (event_with (Some side) o)
    at None is = tt
    at (Some m) is = clean_message_has_no_float d m is

free_in : (editors : ℕ) (d : Data) → IsEventFree (event_in editors d)
free_in editors null = tt
free_in editors (boolean b) = tt
free_in editors (number n) = tt
free_in editors (string s) = tt
free_in editors (array ds) = tt
free_in editors (object ms) =
    free_cond (members_len ms == 2) _ (free_with (option_and_then (side_in editors) (get_member (codes "side") ms)) (get_member (codes "message") ms))

free_params : (editors : ℕ) (o : Option Data) → IsEventFree (option_and_then (event_in editors) o)
free_params editors None = tt
free_params editors (Some d) = free_in editors d

free_message : (editors : ℕ) (m : MessageData) → IsEventFree (event_of_message editors m)
free_message editors (response r) = tt
free_message editors (request r) = free_cond (bytes_eq r.method (codes "proxy/in") && is_none r.id) _ (free_params editors r.params)

-- a message that is told holds no float
pub event_free : (editors : ℕ) (m : MessageData) (e : Event) → event_of_message editors m ≡ Some e → message_has_float e.1 ≡ false
event_free editors m e is = subst IsEventFree is (free_message editors m)
