-- The requests that were passed on and wait for a response, in the order of their drawn ids.
use Rattle.std.specs.Prelude.{◌≡◌, ℕ, nat_lt, IsTrue, List, [], ◌∷◌, ◌++◌, Bool, true, ◌&&◌, ◌==◌, refl, Option, Some, None, if◌then◌else◌}
use Rattle.lsp_rpc.specs.Message.{IdData}
use Rattle.lsp_rpc.specs.Ids.{same_id, same_id-Decides, id_writes}
use Rattle.std.specs.Cmp.{IsEquivalence, decided}
use Rattle.std.specs.Bool.{Decides}
use Rattle.std.specs.Hash as fed
use Rattle.std.proofs.Common.{ap, ap₂, subst}
use Rattle.std.proofs.lemmas.Bool.{and_parts, and_from, eqb-true, eq-eqb}

-- an editor, and an id that stands for a request between it and the server
pub record AskerData : Type 0 where
  pub editor : ℕ
  pub id : IdData

-- what was passed on under the drawn id n
pub record Entry : Type 0 where
  pub n : ℕ
  pub asker : AskerData

abbrev pub same_asker : AskerData → AskerData → Bool
same_asker a b = (a.editor == b.editor) && same_id a.id b.id

-- the asker of the entry under n
abbrev pub asker_at : ℕ → List Entry → Option AskerData
asker_at n [] = None
asker_at n (e ∷ es) = if n == e.n then Some e.asker else asker_at n es

-- the first entry of that asker
abbrev pub place_of : AskerData → List Entry → Option ℕ
place_of a [] = None
place_of a (e ∷ es) = if same_asker a e.asker then Some e.n else place_of a es

-- the entries without the one under n
abbrev pub without_entry : ℕ → List Entry → List Entry
without_entry n [] = []
without_entry n (e ∷ es) = if n == e.n then es else e ∷ without_entry n es

-- every entry's drawn id is below this one
abbrev pub are_below : ℕ → List Entry → Bool
are_below n [] = true
are_below n (e ∷ es) = nat_lt e.n n && are_below n es

abbrev pub AreBelow : ℕ → List Entry → Type 0
AreBelow n es = IsTrue (are_below n es)

-- ---- askers are equal where their data are

abbrev pub asker_writes : AskerData → fed.HashWrites
asker_writes a = fed.u32 a.editor ++ id_writes a.id

pub same_asker-Decides : (a b : AskerData) → Decides (same_asker a b) (a ≡ b)
same_asker-Decides a b = (
  λ h. let p = and_parts (a.editor == b.editor) (same_id a.id b.id) h in
      ap₂ (λ (k : ℕ) (i : IdData). let d : AskerData = record { editor = k; id = i } in d) (eqb-true a.editor b.editor p.0) ((same_id-Decides a.id b.id).0 p.1),
  λ e. subst (λ c. same_asker a c ≡ true) e (and_from (a.editor == a.editor) (same_id a.id a.id) (eq-eqb a.editor a.editor refl) ((same_id-Decides a.id a.id).1 refl)),
)

pub same_asker_equiv : IsEquivalence same_asker
same_asker_equiv = decided same_asker same_asker-Decides

pub asker_writes_alike : (a b : AskerData) → same_asker a b ≡ true → asker_writes a ≡ asker_writes b
asker_writes_alike a b h = ap asker_writes ((same_asker-Decides a b).0 h)
