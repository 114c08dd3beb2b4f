-- The entries that a seat's own calls made.
use Rattle.std.specs.Prelude.{◌≡◌, ℕ, List, map, get_or, None}
use Rattle.atomic_table.specs.Seated.{TableId}
use Rattle.lsp_desk.specs.Call.{NextId}
use Rattle.lsp_desk.specs.Trace.{DeskEntry}
use Rattle.lsp_shared.specs.declared.view.View.{View}
use Rattle.lsp_shared.specs.Seats.{entries_seen}

-- a call that was out of memory
abbrev pub no_entry : DeskEntry
no_entry = record { call = NextId; reply = None }

-- the entries at these places
abbrev pub entries_at : List DeskEntry → List ℕ → List DeskEntry
entries_at history places = map (λ n. get_or history n no_entry) places

-- those of a seat's calls, in their order
abbrev pub entries_made : View → List DeskEntry
entries_made v = entries_at (entries_seen v) v.made

-- which desk and whose seat it is, and its share
pub record KeepsSeat (old_desk : TableId) (old : View) (new_desk : TableId) (new : View) : Type 0 where
  pub here : new_desk ≡ old_desk
  pub share : new.share ≡ old.share
  pub owner : new.owner ≡ old.owner
