-- A message read from a value with no float holds none.
use Rattle.std.proofs.Common.{◌≡◌, ℕ, ℤ, List, Bool, true, false, not, ◌||◌, cond, Option, Some, None, Result, Err, option_map, Ordering, Less, Equal, Greater, nat_cmp, refl, sym, ◌∙◌, subst, true≢false}
use Rattle.std.specs.Ordering.{match_ordering}
use Rattle.std.specs.Cmp.Lexicographic.{slice_cmp}
use Rattle.serde_json.specs.Data.{Data, Members, no_members, member, null, boolean, number, string, array, object}
use Rattle.serde_json.specs.Find.{get, get_member}
use Rattle.serde_json.specs.Written.{has_float, members_have_float}
use Rattle.std.specs.Prelude.{⊤, codes}
use Rattle.lsp_rpc.specs.Message.{may_have_float, MessageData, ErrorData, IdData, message_has_float, body_has_float, unless_null, error_with, error_of, has_no_other, body_with, response_with, request_with, or_else, message, has_version, response_of, request_of, plain_request, plain_response, clean_message}

left_clean : (a b : Bool) → (a || b) ≡ false → a ≡ false
left_clean true b h = h
left_clean false b h = refl

right_clean : (a b : Bool) → (a || b) ≡ false → b ≡ false
right_clean true b h = absurd (true≢false h)
right_clean false b h = h

found_clean : (o : Ordering) (d : Data) (rest : Option Data) → has_float d ≡ false → may_have_float rest ≡ false → may_have_float (match_ordering o rest (Some d) rest) ≡ false
found_clean Less d rest h k = k
found_clean Equal d rest h k = h
found_clean Greater d rest h k = k

pub member_clean : (name : List ℕ) (ms : Members) → members_have_float ms ≡ false → may_have_float (get_member name ms) ≡ false
member_clean name no_members h = refl
member_clean name (member k d ms) h =
    found_clean (slice_cmp nat_cmp name k) d (get_member name ms) (left_clean (has_float d) (members_have_float ms) h) (member_clean name ms (right_clean (has_float d) (members_have_float ms) h))

pub get_clean : (name : List ℕ) (v : Data) → has_float v ≡ false → may_have_float (get name v) ≡ false
get_clean name null h = refl
get_clean name (boolean b) h = refl
get_clean name (number n) h = refl
get_clean name (string s) h = refl
get_clean name (array ds) h = refl
get_clean name (object ms) h = member_clean name ms h

abbrev IsClean : Option MessageData → Type 0
IsClean None = ⊤
IsClean (Some m) = message_has_float m ≡ false

abbrev IsBodyClean : Option (Result Data ErrorData) → Type 0
IsBodyClean None = ⊤
IsBodyClean (Some b) = body_has_float b ≡ false

abbrev IsErrorClean : Option ErrorData → Type 0
IsErrorClean None = ⊤
IsErrorClean (Some e) = may_have_float e.payload ≡ false

unless_null_clean : (o : Option Data) → may_have_float o ≡ false → may_have_float (unless_null o) ≡ false
unless_null_clean None h = refl
unless_null_clean (Some null) h = refl
unless_null_clean (Some (boolean b)) h = h
unless_null_clean (Some (number n)) h = h
unless_null_clean (Some (string s)) h = h
unless_null_clean (Some (array ds)) h = h
unless_null_clean (Some (object ms)) h = h

error_with_clean : (n : Option ℤ) (m : Option (List ℕ)) (d : Option Data) → may_have_float d ≡ false → IsErrorClean (error_with n m d)
error_with_clean None m d h = tt
error_with_clean (Some n) None d h = tt
error_with_clean (Some n) (Some m) d h = unless_null_clean d h

error_clean : (b : Bool) (e : Option ErrorData) → IsErrorClean e → IsErrorClean (cond b e None)
error_clean true e h = h
error_clean false e h = tt

err_clean : (e : Option ErrorData) → IsErrorClean e → IsBodyClean (option_map Err e)
err_clean None h = tt
err_clean (Some e) h = h

body_with_clean : (r e : Option Data) → may_have_float r ≡ false → may_have_float e ≡ false → IsBodyClean (body_with r e)
body_with_clean (Some r) e h k = h
body_with_clean None None h k = tt
body_with_clean None (Some e) h k =
    err_clean (error_of e) (error_clean (has_no_other e) _ (error_with_clean _ _ (get (codes "data") e) (get_clean (codes "data") e k)))

response_with_clean : (i : Option IdData) (b : Option (Result Data ErrorData)) → IsBodyClean b → IsClean (response_with i b)
response_with_clean None b h = tt
response_with_clean (Some i) None h = tt
response_with_clean (Some i) (Some b) h = h

request_with_clean : (m : Option (List ℕ)) (p : Option Data) (i : Option (Option IdData)) → may_have_float p ≡ false → IsClean (request_with m p i)
request_with_clean None p i h = tt
request_with_clean (Some m) p None h = tt
request_with_clean (Some m) p (Some i) h = h

either_clean : (a b : Option MessageData) → IsClean a → IsClean b → IsClean (or_else a b)
either_clean (Some m) b h k = h
either_clean None b h k = k

cond_clean : (t : Bool) (a : Option MessageData) → IsClean a → IsClean (cond t a None)
cond_clean true a h = h
cond_clean false a h = tt

response_of_clean : (v : Data) → has_float v ≡ false → IsClean (response_of v)
response_of_clean v h =
    response_with_clean _ _ (body_with_clean (get (codes "result") v) (get (codes "error") v) (get_clean (codes "result") v h) (get_clean (codes "error") v h))

request_of_clean : (v : Data) → has_float v ≡ false → IsClean (request_of v)
request_of_clean v h = request_with_clean _ (get (codes "params") v) _ (get_clean (codes "params") v h)

message_clean : (v : Data) → has_float v ≡ false → IsClean (message v)
message_clean v h = cond_clean (has_version v) _ (either_clean (response_of v) (request_of v) (response_of_clean v h) (request_of_clean v h))

clean_at : (b : Bool) (v : Data) → has_float v ≡ b → IsClean (cond b None (message v))
clean_at true v h = tt
clean_at false v h = message_clean v h

-- what is read holds no float
pub clean_message_has_no_float : (v : Data) (m : MessageData) → clean_message v ≡ Some m → message_has_float m ≡ false
clean_message_has_no_float v m e = subst IsClean e (clean_at (has_float v) v refl)

-- the same, where both halves are known
pub clean_found : (v : Data) (m : MessageData) → has_float v ≡ false → Some m ≡ message v → message_has_float m ≡ false
clean_found v m h e = subst IsClean (sym e) (message_clean v h)

pub not_false : (a b : Bool) → a ≡ not b → a ≡ true → b ≡ false
not_false a true e h = absurd (true≢false (sym h ∙ e))
not_false a false e h = refl

pub clean_request_found : (v : Data) (m : MessageData) → has_float v ≡ false → Some m ≡ plain_request v → message_has_float m ≡ false
clean_request_found v m h e = subst IsClean (sym e) (cond_clean (has_version v) _ (request_of_clean v h))

pub clean_response_found : (v : Data) (m : MessageData) → has_float v ≡ false → Some m ≡ plain_response v → message_has_float m ≡ false
clean_response_found v m h e = subst IsClean (sym e) (cond_clean (has_version v) _ (response_of_clean v h))
