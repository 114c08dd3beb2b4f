-- One more member among those that were read.
use Rattle.std.proofs.Common.{◌≡◌, ◌<◌, ◌≤◌, ◌-◌, ℕ, List, length, true, false, Some, option_map, option_and_then, codes, string_bytes, bytes_eq, String, Global, refl, sym, ap, ◌∙◌, true≢false, arith}
use Rattle.std.proofs.lemmas.Slice.Eq.{bytes_eq-Decides}
use Rattle.json.specs.Token.{Token}
use Rattle.json.specs.Json.{read_key, members, value}
use Rattle.json.proofs.Grammar.{read_key-shorter}
use Rattle.serde_json.specs.Data.{Data, string, Members, no_members, put}
use Rattle.serde_json.specs.Find.{get_member}
use Rattle.serde_json.specs.Read.{converted}
use Rattle.serde_json.specs.View.{view}
use Rattle.serde_json.specs.Written.{has_float}
use Rattle.serde_json.specs.declared.value.Value.{Value}
use Rattle.serde_json.proofs.Views.{get_member-put, get_member-put_other}
use Rattle.lsp_rpc.specs.Message.{id_of, request_id_of, error_of}
use Rattle.lsp_rpc.specs.Shown.{show_id, show_error}
use Rattle.lsp_rpc.specs.declared.error.Error.{Error}
use Rattle.lsp_rpc.specs.declared.id.Id.{Id}
use Rattle.lsp_text.specs.Floats.{of_json_by}
use Rattle.lsp_text.specs.declared.floats.Floats.{Floats}
use Rattle.lsp_text.proofs.Clean.{put_clean}
use Rattle.lsp_text.proofs.Tokens.{members_after, member_read}
use Rattle.lsp_frame.specs.Parts.{AreParts}
use Rattle.lsp_frame.specs.declared.parts.Parts.{Parts}

apart : (xs ys : List ℕ) → bytes_eq xs ys ≡ false → xs ≡ ys → ⊥
apart xs ys other e = true≢false (sym ((bytes_eq-Decides xs ys).1 e) ∙ other)

-- another name keeps its value
stays : (q k : List ℕ) (d : Data) (ms : Members) → bytes_eq q k ≡ false → get_member q (put k d ms) ≡ get_member q ms
stays q k d ms other = get_member-put_other q k d ms (apart q k other)

pub put_version : (p : Parts) (ms : Members) → AreParts p ms → AreParts (record p { has_version = true }) (put (codes "jsonrpc") (string (codes "2.0")) ms)
put_version p ms are = record {
  version = get_member-put (codes "jsonrpc") _ ms;
  id = ap request_id_of (stays (codes "id") (codes "jsonrpc") _ ms refl) ∙ are.id;
  method = stays (codes "method") (codes "jsonrpc") _ ms refl ∙ are.method;
  params = stays (codes "params") (codes "jsonrpc") _ ms refl ∙ are.params;
  outcome = stays (codes "result") (codes "jsonrpc") _ ms refl ∙ are.outcome;
  error = ap (option_and_then error_of) (stays (codes "error") (codes "jsonrpc") _ ms refl) ∙ are.error;
  clean = put_clean (codes "jsonrpc") _ ms are.clean refl;
}

pub put_id : (p : Parts) (ms : Members) (d : Data) (i : Id) → id_of d ≡ Some (show_id i) → has_float d ≡ false → AreParts p ms → AreParts (record p { id = Some i }) (put (codes "id") d ms)
put_id p ms d i is pure are = record {
  version = stays (codes "jsonrpc") (codes "id") d ms refl ∙ are.version;
  id = ap request_id_of (get_member-put (codes "id") d ms) ∙ ap (option_map Some) is;
  method = stays (codes "method") (codes "id") d ms refl ∙ are.method;
  params = stays (codes "params") (codes "id") d ms refl ∙ are.params;
  outcome = stays (codes "result") (codes "id") d ms refl ∙ are.outcome;
  error = ap (option_and_then error_of) (stays (codes "error") (codes "id") d ms refl) ∙ are.error;
  clean = put_clean (codes "id") d ms are.clean pure;
}

pub put_method : (p : Parts) (ms : Members) (s : String Global) → AreParts p ms → AreParts (record p { method = Some s }) (put (codes "method") (string (string_bytes s)) ms)
put_method p ms s are = record {
  version = stays (codes "jsonrpc") (codes "method") _ ms refl ∙ are.version;
  id = ap request_id_of (stays (codes "id") (codes "method") _ ms refl) ∙ are.id;
  method = get_member-put (codes "method") _ ms;
  params = stays (codes "params") (codes "method") _ ms refl ∙ are.params;
  outcome = stays (codes "result") (codes "method") _ ms refl ∙ are.outcome;
  error = ap (option_and_then error_of) (stays (codes "error") (codes "method") _ ms refl) ∙ are.error;
  clean = put_clean (codes "method") _ ms are.clean refl;
}

pub put_params : (p : Parts) (ms : Members) (v : Value) → has_float (view v) ≡ false → AreParts p ms → AreParts (record p { params = Some v }) (put (codes "params") (view v) ms)
put_params p ms v pure are = record {
  version = stays (codes "jsonrpc") (codes "params") _ ms refl ∙ are.version;
  id = ap request_id_of (stays (codes "id") (codes "params") _ ms refl) ∙ are.id;
  method = stays (codes "method") (codes "params") _ ms refl ∙ are.method;
  params = get_member-put (codes "params") _ ms;
  outcome = stays (codes "result") (codes "params") _ ms refl ∙ are.outcome;
  error = ap (option_and_then error_of) (stays (codes "error") (codes "params") _ ms refl) ∙ are.error;
  clean = put_clean (codes "params") _ ms are.clean pure;
}

pub put_outcome : (p : Parts) (ms : Members) (v : Value) → has_float (view v) ≡ false → AreParts p ms → AreParts (record p { outcome = Some v }) (put (codes "result") (view v) ms)
put_outcome p ms v pure are = record {
  version = stays (codes "jsonrpc") (codes "result") _ ms refl ∙ are.version;
  id = ap request_id_of (stays (codes "id") (codes "result") _ ms refl) ∙ are.id;
  method = stays (codes "method") (codes "result") _ ms refl ∙ are.method;
  params = stays (codes "params") (codes "result") _ ms refl ∙ are.params;
  outcome = get_member-put (codes "result") _ ms;
  error = ap (option_and_then error_of) (stays (codes "error") (codes "result") _ ms refl) ∙ are.error;
  clean = put_clean (codes "result") _ ms are.clean pure;
}

pub put_error : (p : Parts) (ms : Members) (d : Data) (e : Error) → error_of d ≡ Some (show_error e) → has_float d ≡ false → AreParts p ms → AreParts (record p { error = Some e }) (put (codes "error") d ms)
put_error p ms d e is pure are = record {
  version = stays (codes "jsonrpc") (codes "error") d ms refl ∙ are.version;
  id = ap request_id_of (stays (codes "id") (codes "error") d ms refl) ∙ are.id;
  method = stays (codes "method") (codes "error") d ms refl ∙ are.method;
  params = stays (codes "params") (codes "error") d ms refl ∙ are.params;
  outcome = stays (codes "result") (codes "error") d ms refl ∙ are.outcome;
  error = ap (option_and_then error_of) (get_member-put (codes "error") d ms) ∙ is;
  clean = put_clean (codes "error") d ms are.clean pure;
}

-- the name is none of those that a message may have
pub record IsOtherName (k : List ℕ) : Type 0 where
  pub no_version : codes "jsonrpc" ≡ k → ⊥
  pub no_id : codes "id" ≡ k → ⊥
  pub no_method : codes "method" ≡ k → ⊥
  pub no_params : codes "params" ≡ k → ⊥
  pub no_outcome : codes "result" ≡ k → ⊥
  pub no_error : codes "error" ≡ k → ⊥

pub put_other : (p : Parts) (ms : Members) (k : List ℕ) (d : Data) → IsOtherName k → has_float d ≡ false → AreParts p ms → AreParts p (put k d ms)
put_other p ms k d other pure are = record {
  version = get_member-put_other (codes "jsonrpc") k d ms other.no_version ∙ are.version;
  id = ap request_id_of (get_member-put_other (codes "id") k d ms other.no_id) ∙ are.id;
  method = get_member-put_other (codes "method") k d ms other.no_method ∙ are.method;
  params = get_member-put_other (codes "params") k d ms other.no_params ∙ are.params;
  outcome = get_member-put_other (codes "result") k d ms other.no_outcome ∙ are.outcome;
  error = ap (option_and_then error_of) (get_member-put_other (codes "error") k d ms other.no_error) ∙ are.error;
  clean = put_clean k d ms are.clean pure;
}

-- ---- for the loop over members

-- the members that were read come before what is left
abbrev pub AreRead : Floats → List Token → List Token → Parts → Type 0
AreRead floats first left parts =
    (n : ℕ) × (ms : Members) × (length left ≤ n)
    × (converted (members_after floats no_members) (members (value 126) (length first) first) ≡ converted (members_after floats ms) (members (value 126) n left))
    × AreParts parts ms

-- one more member is read
pub one_more : (floats : Floats) (first left s r : List Token) (was now : Parts) (k : List ℕ) (d : Data) → AreRead floats first left was
    → read_key left ≡ Some (Some k, s) → converted (of_json_by floats) (value 126 s) ≡ Some (d, r) → length r < length s
    → ((ms : Members) → AreParts was ms → AreParts now (put k d ms)) → AreRead floats first r now
one_more floats first left s r was now k d before named read shorter kept =
    let less = read_key-shorter left (Some k) s named in (
      before.0 - 1,
      put k d before.1,
      omega (arith, before.2),
      before.3 ∙ member_read floats (value 126) before.1 before.0 k left s r d (omega (arith, before.2)) named read,
      kept before.1 before.4,
    )

-- and less is left
pub fewer : (left s r : List Token) (k : List ℕ) → read_key left ≡ Some (Some k, s) → length r < length s → length r < length left
fewer left s r k named shorter = omega (arith, read_key-shorter left (Some k) s named)
