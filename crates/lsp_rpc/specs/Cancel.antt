-- The id that the params of a cancel name (LSP 3.17, "Cancellation Support").
use Rattle.std.specs.Prelude.{ℕ, ℤ, pos, negsuc, List, Bool, Option, Some, None, nat_lt, codes, option_and_then, if◌then◌else◌, ◌^◌}
use Rattle.serde_json.specs.Data.{Data, number, string}
use Rattle.serde_json.specs.Find.{get, as_i64}
use Rattle.lsp_rpc.specs.Message.{IdData, number_id, text_id}

abbrev pub is_i32 : ℤ → Bool
is_i32 (pos n) = nat_lt n (2 ^ 31)
is_i32 (negsuc n) = nat_lt n (2 ^ 31)

abbrev pub number_if : Bool → ℤ → Option IdData
number_if b n = if b then Some (number_id n) else None

abbrev pub small_number : Option ℤ → Option IdData
small_number None = None
small_number (Some n) = number_if (is_i32 n) n

-- an id that a cancel may name is an integer of 32 bits or a string
abbrev pub cancel_target : Data → Option IdData
cancel_target (number n) = small_number (as_i64 n)
cancel_target (string s) = Some (text_id s)
cancel_target _ = None

abbrev pub cancelled_id : Option Data → Option IdData
cancelled_id params = option_and_then cancel_target (option_and_then (get (codes "id")) params)
