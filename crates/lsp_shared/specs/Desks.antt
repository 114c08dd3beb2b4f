-- Which desk a value belongs to, and what a seat at rest knows.
use Rattle.std.specs.Prelude.{Bool}
use Rattle.atomic_table.specs.Seated.{TableId}
use Rattle.lsp_shared.specs.declared.desk.SharedDesk.{SharedDesk}
use Rattle.lsp_shared.specs.declared.desk.OwnerSeat.{OwnerSeat}
use Rattle.lsp_shared.specs.declared.rested.Rested.{Rested}
use Rattle.lsp_shared.specs.declared.view.View.{View}

abbrev pub desk_id : SharedDesk → TableId
desk_id desk = desk.table.shared.table_id

abbrev pub first_desk : OwnerSeat → TableId
first_desk seat = seat.rested.seat.table_id

abbrev pub rested_desk : Rested → TableId
rested_desk r = r.seat.table_id

abbrev pub rested_view : Rested → View
rested_view r = r.seat.me.0

abbrev pub rested_spent : Rested → Bool
rested_spent r = r.spent
