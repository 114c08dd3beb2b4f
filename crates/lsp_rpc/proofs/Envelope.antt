-- The text of a message is the compact text of one value.
use Rattle.std.proofs.Common.{◌≡◌, ℕ, ℤ, pos, negsuc, List, [], ◌∷◌, ◌++◌, true, Option, Some, None, Result, Ok, Err, refl, sym, ap, ◌∙◌, append_assoc}
use Rattle.std.specs.Prelude.{codes}
use Rattle.std.specs.Option.{option_map}
use Rattle.std.specs.Fmt.{signed_decimal}
use Rattle.json.specs.Print.{quoted, escape_byte}
use Rattle.serde_json.specs.Data.{Data, string, Members, no_members, member}
use Rattle.serde_json.specs.Find.{of_integer}
use Rattle.serde_json.specs.Written.{number_text, compact_text, members_text}
use Rattle.lsp_rpc.specs.Message.{code_number, ErrorData, MessageData, response, request, id_data, next_member, error_text, body_text, message_text}
use Rattle.lsp_rpc.specs.Back.{with_member, error_data, body_members, message_data}

number_text-of_integer : (z : ℤ) → number_text (of_integer z) ≡ signed_decimal z
number_text-of_integer (pos n) = refl
number_text-of_integer (negsuc n) = refl

-- a member after others
after_member : (k : List ℕ) (o : Option Data) (ms : Members) → members_text true (with_member k o ms) ≡ next_member (44 ∷ (quoted k ++ 58 ∷ [])) o ++ members_text true ms
after_member k None ms = refl
after_member k (Some d) ms =
    ap (λ s. 44 ∷ s) (sym (append_assoc (quoted k) (58 ∷ []) (compact_text d ++ members_text true ms)) ∙ sym (append_assoc (quoted k ++ 58 ∷ []) (compact_text d) (members_text true ms)))

three : (a b c d : List ℕ) → ((a ++ b) ++ c) ++ d ≡ a ++ (b ++ (c ++ d))
three a b c d = append_assoc (a ++ b) c d ∙ append_assoc a b (c ++ d)

four : (a b c d e : List ℕ) → (((a ++ b) ++ c) ++ d) ++ e ≡ a ++ (b ++ (c ++ (d ++ e)))
four a b c d e = append_assoc ((a ++ b) ++ c) d e ∙ three a b c (d ++ e)

five : (a b c d e f : List ℕ) → ((((a ++ b) ++ c) ++ d) ++ e) ++ f ≡ a ++ (b ++ (c ++ (d ++ (e ++ f))))
five a b c d e f = append_assoc (((a ++ b) ++ c) ++ d) e f ∙ four a b c d (e ++ f)

pub error_text-error_data : (e : ErrorData) → error_text e ≡ compact_text (error_data e)
unfolding escape_byte
error_text-error_data e =
    five (codes "{\"code\":") (signed_decimal (code_number e.code)) (codes ",\"message\":") (compact_text (string e.message)) (next_member (codes ",\"data\":") e.payload) (codes "}")
    ∙ ap (λ s. codes "{\"code\":" ++ (s ++ (codes ",\"message\":" ++ (compact_text (string e.message) ++ (next_member (codes ",\"data\":") e.payload ++ codes "}"))))) (sym (number_text-of_integer (code_number e.code)))
    ∙ ap (λ s. codes "{\"code\":" ++ (number_text (of_integer (code_number e.code)) ++ (codes ",\"message\":" ++ (compact_text (string e.message) ++ s)))) (sym (after_member (codes "data") e.payload no_members))

body_text-body_members : (b : Result Data ErrorData) (i : Data)
    → ((codes "{\"jsonrpc\":\"2.0\"" ++ body_text b) ++ codes ",\"id\":") ++ compact_text i ++ codes "}" ≡ 123 ∷ (quoted (codes "jsonrpc") ++ 58 ∷ (quoted (codes "2.0") ++ members_text true (body_members b (member (codes "id") i no_members))))
unfolding escape_byte
body_text-body_members (Ok v) i =
    four (codes "{\"jsonrpc\":\"2.0\"") (codes ",\"result\":" ++ compact_text v) (codes ",\"id\":") (compact_text i) (codes "}")
    ∙ ap (λ s. codes "{\"jsonrpc\":\"2.0\"" ++ s) (append_assoc (codes ",\"result\":") (compact_text v) (codes ",\"id\":" ++ (compact_text i ++ codes "}")))
body_text-body_members (Err e) i =
    four (codes "{\"jsonrpc\":\"2.0\"") (codes ",\"error\":" ++ error_text e) (codes ",\"id\":") (compact_text i) (codes "}")
    ∙ ap (λ s. codes "{\"jsonrpc\":\"2.0\"" ++ s) (append_assoc (codes ",\"error\":") (error_text e) (codes ",\"id\":" ++ (compact_text i ++ codes "}")))
    ∙ ap (λ s. codes "{\"jsonrpc\":\"2.0\"" ++ (codes ",\"error\":" ++ (s ++ (codes ",\"id\":" ++ (compact_text i ++ codes "}"))))) (error_text-error_data e)

pub message_text-message_data : (m : MessageData) → message_text m ≡ compact_text (message_data m)
unfolding escape_byte
message_text-message_data (response r) = body_text-body_members r.body (id_data r.id)
message_text-message_data (request r) =
    four (codes "{\"jsonrpc\":\"2.0\",\"method\":") (compact_text (string r.method)) (next_member (codes ",\"params\":") r.params) (next_member (codes ",\"id\":") (option_map id_data r.id)) (codes "}")
    ∙ ap (λ s. codes "{\"jsonrpc\":\"2.0\",\"method\":" ++ (compact_text (string r.method) ++ (next_member (codes ",\"params\":") r.params ++ s))) (sym (after_member (codes "id") (option_map id_data r.id) no_members))
    ∙ ap (λ s. codes "{\"jsonrpc\":\"2.0\",\"method\":" ++ (compact_text (string r.method) ++ s)) (sym (after_member (codes "params") r.params (with_member (codes "id") (option_map id_data r.id) no_members)))
