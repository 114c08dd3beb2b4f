-- Which seat a seat at rest is.
use Rattle.std.specs.Prelude.{◌≡◌, true, false}
use Rattle.lsp_shared.specs.declared.desk.SharedDesk.{SharedDesk}
use Rattle.lsp_shared.specs.declared.rested.Rested.{Rested}
use Rattle.lsp_shared.specs.Desks.{desk_id, rested_desk, rested_view}

-- a desk's owner's seat
abbrev pub IsOwnerOf : SharedDesk → Rested → Type 0
IsOwnerOf desk seat = (rested_desk seat ≡ desk_id desk) × ((rested_view seat).owner ≡ true)

-- a client's seat of a desk
abbrev pub IsClientOf : SharedDesk → Rested → Type 0
IsClientOf desk seat = (rested_desk seat ≡ desk_id desk) × ((rested_view seat).owner ≡ false)

-- two seats of one desk, both the owner's or both a client's
abbrev pub IsLike : Rested → Rested → Type 0
IsLike one other = (rested_desk other ≡ rested_desk one) × ((rested_view other).owner ≡ (rested_view one).owner)
