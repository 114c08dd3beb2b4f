-- Equal ids, and what an id feeds a hasher.
use Rattle.std.specs.Prelude.{◌≡◌, ℕ, ℤ, pos, List, [], ◌++◌, Bool, true, false, bytes_eq, refl, ⊤}
use Rattle.std.specs.Cmp.{IsEquivalence, decided, signed_Decides}
use Rattle.std.proofs.Common.{ap, sym, true≢false}
use Rattle.std.proofs.lemmas.Slice.Eq.{bytes_eq-Decides}
use Rattle.std.specs.Bool.{Decides}
use Rattle.std.specs.Ordering.{int_eq}
use Rattle.std.specs.Hash as fed
use Rattle.lsp_rpc.specs.Message.{IdData, number_id, text_id, null_id}

abbrev pub same_id : IdData → IdData → Bool
same_id (number_id a) (number_id b) = int_eq a b
same_id (text_id a) (text_id b) = bytes_eq a b
same_id null_id null_id = true
same_id a b = false

-- the id is a string
abbrev pub IsString : IdData → Type 0
IsString (text_id s) = ⊤
IsString other = ⊥

-- the kind, and then what it holds
abbrev pub id_writes : IdData → fed.HashWrites
id_writes (number_id n) = fed.u8 0 ++ fed.i64 n
id_writes (text_id s) = fed.u8 1 ++ fed.str s
id_writes null_id = fed.u8 2

-- ---- it is equality

number_in : IdData → ℤ
number_in (number_id n) = n
number_in (text_id s) = pos 0
number_in null_id = pos 0

text_in : IdData → List ℕ
text_in (number_id n) = []
text_in (text_id s) = s
text_in null_id = []

is_number : IdData → Bool
is_number (number_id n) = true
is_number (text_id s) = false
is_number null_id = false

is_null : IdData → Bool
is_null (number_id n) = false
is_null (text_id s) = false
is_null null_id = true

pub same_id-Decides : (a b : IdData) → Decides (same_id a b) (a ≡ b)
unfolding number_in text_in is_number is_null
same_id-Decides (number_id a) (number_id b) = (λ h. ap number_id ((signed_Decides a b).0 h), λ e. (signed_Decides a b).1 (ap number_in e))
same_id-Decides (text_id a) (text_id b) = (λ h. ap text_id ((bytes_eq-Decides a b).0 h), λ e. (bytes_eq-Decides a b).1 (ap text_in e))
same_id-Decides null_id null_id = (λ h. refl, λ e. refl)
same_id-Decides (number_id a) (text_id b) = (λ h. absurd (true≢false (sym h)), λ e. absurd (true≢false (ap is_number e)))
same_id-Decides (number_id a) null_id = (λ h. absurd (true≢false (sym h)), λ e. absurd (true≢false (ap is_number e)))
same_id-Decides (text_id a) (number_id b) = (λ h. absurd (true≢false (sym h)), λ e. absurd (true≢false (sym (ap is_number e))))
same_id-Decides (text_id a) null_id = (λ h. absurd (true≢false (sym h)), λ e. absurd (true≢false (sym (ap is_null e))))
same_id-Decides null_id (number_id b) = (λ h. absurd (true≢false (sym h)), λ e. absurd (true≢false (ap is_null e)))
same_id-Decides null_id (text_id b) = (λ h. absurd (true≢false (sym h)), λ e. absurd (true≢false (ap is_null e)))

pub same_id_equiv : IsEquivalence same_id
same_id_equiv = decided same_id same_id-Decides

pub id_writes_alike : (a b : IdData) → same_id a b ≡ true → id_writes a ≡ id_writes b
id_writes_alike a b h = ap id_writes ((same_id-Decides a b).0 h)
