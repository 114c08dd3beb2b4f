-- Numbers and ids that fit 64 bits read back.
use Rattle.std.proofs.Common.{◌≡◌, ℤ, ◌<◌, ◌^◌, pos, negsuc, false, Some, refl, ap, arith, lt-ltb}
use Rattle.std.specs.Prelude.{FitsSigned}
use Rattle.std.specs.Int.{w64}
use Rattle.json.proofs.Printed.Decimals.{IsNumber-decimal, IsNumber-signed_decimal}
use Rattle.serde_json.specs.Data.{number}
use Rattle.serde_json.specs.Find.{as_i64, of_integer}
use Rattle.serde_json.specs.Written.{has_float}
use Rattle.serde_json.proofs.Numbers.{number_of-decimal, number_of-negative}
use Rattle.std.specs.Option.{option_map}
use Rattle.lsp_rpc.specs.Message.{IdData, number_id, text_id, null_id, id_data, id_of}
use Rattle.lsp_rpc.specs.Back.{ReadsBack, IdFits}

pub ReadsBack-of_integer : (z : ℤ) → FitsSigned w64 z → ReadsBack (number (of_integer z))
ReadsBack-of_integer (pos n) h shallow =
    let small : n < 2 ^ 64 = omega (arith, h.sfits) in
    (IsNumber-decimal n small, ap (option_map number) (number_of-decimal n small))
ReadsBack-of_integer (negsuc n) h shallow = (IsNumber-signed_decimal (negsuc n) h.sfits, ap (option_map number) (number_of-negative n h.sfits))

pub as_i64-of_integer : (z : ℤ) → FitsSigned w64 z → as_i64 (of_integer z) ≡ Some z
as_i64-of_integer (pos n) h = rw (lt-ltb n (2 ^ 63) h.sfits) refl
as_i64-of_integer (negsuc n) h = refl

pub has_float-of_integer : (z : ℤ) → has_float (number (of_integer z)) ≡ false
has_float-of_integer (pos n) = refl
has_float-of_integer (negsuc n) = refl

pub ReadsBack-id_data : (i : IdData) → IdFits i → ReadsBack (id_data i)
ReadsBack-id_data (number_id (pos n)) h = ReadsBack-of_integer (pos n) h
ReadsBack-id_data (number_id (negsuc n)) h = ReadsBack-of_integer (negsuc n) h
ReadsBack-id_data (text_id s) h = λ shallow. (tt, refl)
ReadsBack-id_data null_id h = λ shallow. (tt, refl)

pub id_of-id_data : (i : IdData) → IdFits i → id_of (id_data i) ≡ Some i
id_of-id_data (number_id (pos n)) h = ap (option_map number_id) (as_i64-of_integer (pos n) h)
id_of-id_data (number_id (negsuc n)) h = refl
id_of-id_data (text_id s) h = refl
id_of-id_data null_id h = refl

pub has_float-id_data : (i : IdData) → has_float (id_data i) ≡ false
has_float-id_data (number_id (pos n)) = refl
has_float-id_data (number_id (negsuc n)) = refl
has_float-id_data (text_id s) = refl
has_float-id_data null_id = refl
