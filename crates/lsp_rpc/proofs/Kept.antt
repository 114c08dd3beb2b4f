-- The members of an object, kept one after another.
use Rattle.std.proofs.Common.{◌≡◌, ℕ, List, Option, Some, None, refl, sym, ap, ◌∙◌}
use Rattle.serde_json.specs.Data.{Data, Members, no_members, member}
use Rattle.serde_json.specs.Find.{get_member}
use Rattle.lsp_rpc.specs.Pieces.{kept, first_member, KeepsMember}

-- a member of that name is kept where none was before
pub keeps_this : (key : List ℕ) (d : Data) (old new : Option Data) → new ≡ kept old d → ((rest : Members) → get_member key (member key d rest) ≡ Some d) → KeepsMember key key d old new
keeps_this key d (Some e) new is found rest = ap (λ o. first_member key o rest) is
keeps_this key d None new is found rest = ap (λ o. first_member key o rest) is ∙ sym (found rest)

-- a member of another name changes nothing
pub keeps_others : (key name : List ℕ) (d : Data) (old : Option Data) → ((rest : Members) → get_member key (member name d rest) ≡ get_member key rest) → KeepsMember key name d old old
keeps_others key name d (Some e) apart rest = refl
keeps_others key name d None apart rest = sym (apart rest)

pub first_of-no_members : (key : List ℕ) (o : Option Data) → first_member key o no_members ≡ o
first_of-no_members key (Some d) = refl
first_of-no_members key None = refl
