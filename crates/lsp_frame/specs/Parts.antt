-- What was read of a message.
use Rattle.std.specs.Prelude.{◌≡◌, Bool, true, false, Option, Some, None, option_map, option_and_then, codes, string_bytes}
use Rattle.serde_json.specs.Data.{Data, string, Members}
use Rattle.serde_json.specs.Find.{get_member}
use Rattle.serde_json.specs.View.{view}
use Rattle.serde_json.specs.Written.{members_have_float}
use Rattle.lsp_rpc.specs.Message.{request_id_of, error_of}
use Rattle.lsp_rpc.specs.Shown.{show_id, show_error}
use Rattle.lsp_frame.specs.declared.parts.Parts.{Parts}

-- the version, where it was read
abbrev pub version_in : Bool → Option Data
version_in true = Some (string (codes "2.0"))
version_in false = None

-- the parts are those of an object of these members, which holds no float
pub record AreParts (p : Parts) (ms : Members) : Type 0 where
  pub version : get_member (codes "jsonrpc") ms ≡ version_in p.has_version
  pub id : request_id_of (get_member (codes "id") ms) ≡ Some (option_map show_id p.id)
  pub method : get_member (codes "method") ms ≡ option_map (λ s. string (string_bytes s)) p.method
  pub params : get_member (codes "params") ms ≡ option_map view p.params
  pub outcome : get_member (codes "result") ms ≡ option_map view p.outcome
  pub error : option_and_then error_of (get_member (codes "error") ms) ≡ option_map show_error p.error
  pub clean : members_have_float ms ≡ false
