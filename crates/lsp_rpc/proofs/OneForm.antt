-- A value that is read as a request is one where it is tried as a request alone, and so a response.
use Rattle.std.proofs.Common.{◌≡◌, Bool, true, false, cond, List, ℕ, Option, Some, None, Result, sym, ap, ◌∙◌, true≢false, refl}
use Rattle.std.specs.Prelude.{⊤}
use Rattle.std.specs.Option.{option_and_then}
use Rattle.serde_json.specs.Data.{Data}
use Rattle.serde_json.specs.Read.{read}
use Rattle.serde_json.specs.Written.{has_float}
use Rattle.lsp_rpc.specs.Message.{IdData, ErrorData, RequestData, ResponseData, MessageData, response, request, has_version, response_with, request_with, response_of, request_of, or_else, clean_message, clean_request, clean_response}
use Rattle.lsp_rpc.specs.Back.{ReadsAs}

is_response : MessageData → Bool
is_response (response r) = true
is_response (request r) = false

finds : Option MessageData → Bool → Type 0
finds None b = ⊤
finds (Some m) b = is_response m ≡ b

finds-response : (i : Option IdData) (b : Option (Result Data ErrorData)) → finds (response_with i b) true
unfolding finds is_response
finds-response None b = tt
finds-response (Some i) None = tt
finds-response (Some i) (Some b) = refl

finds-request : (m : Option (List ℕ)) (p : Option Data) (i : Option (Option IdData)) → finds (request_with m p i) false
unfolding finds is_response
finds-request None p i = tt
finds-request (Some m) p None = tt
finds-request (Some m) p (Some i) = refl

kind_of : Option MessageData → Bool
kind_of None = false
kind_of (Some m) = is_response m

request_alone : (f v : Bool) (a q : Option MessageData) (r : RequestData) → finds a true
    → cond f None (cond v (or_else a q) None) ≡ Some (request r) → cond f None (cond v q None) ≡ Some (request r)
unfolding finds is_response kind_of
request_alone true v a q r is e = e
request_alone false false a q r is e = e
request_alone false true None q r is e = e
request_alone false true (Some m) q r is e = absurd (true≢false (sym is ∙ ap kind_of e))

response_alone : (f v : Bool) (a q : Option MessageData) (r : ResponseData) → finds q false
    → cond f None (cond v (or_else a q) None) ≡ Some (response r) → cond f None (cond v a None) ≡ Some (response r)
unfolding finds is_response kind_of
response_alone true v a q r is e = e
response_alone false false a q r is e = e
response_alone false true (Some m) q r is e = e
response_alone false true None None r is e = e
response_alone false true None (Some m) r is e = absurd (true≢false (sym (ap kind_of e) ∙ is))

at_request : (o : Option Data) (r : RequestData) → option_and_then clean_message o ≡ Some (request r) → option_and_then clean_request o ≡ Some (request r)
at_request None r e = e
at_request (Some d) r e = request_alone (has_float d) (has_version d) (response_of d) (request_of d) r (finds-response _ _) e

at_response : (o : Option Data) (r : ResponseData) → option_and_then clean_message o ≡ Some (response r) → option_and_then clean_response o ≡ Some (response r)
at_response None r e = e
at_response (Some d) r e = response_alone (has_float d) (has_version d) (response_of d) (request_of d) r (finds-request _ _ _) e

pub reads_as_request : (text : List ℕ) (r : RequestData) → ReadsAs text (request r) → option_and_then clean_request (read text) ≡ Some (request r)
reads_as_request text r e = at_request (read text) r e

pub reads_as_response : (text : List ℕ) (r : ResponseData) → ReadsAs text (response r) → option_and_then clean_response (read text) ≡ Some (response r)
reads_as_response text r e = at_response (read text) r e
