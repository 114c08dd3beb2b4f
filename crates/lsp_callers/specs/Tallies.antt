-- What an owner's seat that counts its messages means.
use Rattle.std.specs.Prelude.{Bool}
use Rattle.atomic_table.specs.Seated.{TableId}
use Rattle.lsp_desk.specs.Meaning.{Meaning, IsLawfulDesk}
use Rattle.lsp_shared.specs.declared.view.View.{View}
use Rattle.lsp_shared.specs.Seats.{meaning_by, laws_by, at_rest, seat_view, seat_desk}
use Rattle.lsp_shared.specs.Desks.{rested_desk, rested_view, rested_spent}
use Rattle.lsp_callers.specs.declared.tallied.Tallied.{Tallied}
use Rattle.lsp_callers.specs.declared.tallied.RestedTally.{RestedTally}

module _ {R : Type 0} where
  -- it means what its seat does
  abbrev pub tallied_meaning : Meaning (Tallied R)
  tallied_meaning = meaning_by (λ t. at_rest t.owner)

  abbrev pub tallied_laws : IsLawfulDesk tallied_meaning
  tallied_laws = laws_by (λ t. at_rest t.owner)

  abbrev pub tallied_view : Tallied R → View
  tallied_view t = seat_view t.owner

  abbrev pub tallied_desk : Tallied R → TableId
  tallied_desk t = seat_desk t.owner

  abbrev pub tallied_spent : Tallied R → Bool
  tallied_spent t = tallied_meaning.spent t

-- the same at rest
abbrev pub tally_view : RestedTally → View
tally_view t = rested_view t.seat

abbrev pub tally_desk : RestedTally → TableId
tally_desk t = rested_desk t.seat

abbrev pub tally_spent : RestedTally → Bool
tally_spent t = rested_spent t.seat
