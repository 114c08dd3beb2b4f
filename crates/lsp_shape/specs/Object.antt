-- An object that is read, and one that is written.
use Rattle.std.specs.Prelude.{◌≡◌, ◌⊎◌, Bool, true, Option, Some, None}
use Rattle.serde_json.specs.Data.{Members, object}
use Rattle.serde_json.specs.View.{members_view}
use Rattle.lsp_shape.specs.Plain.{Plain}
use Rattle.lsp_shape.specs.Shape.{Shape}
use Rattle.lsp_shape.specs.Why.{Refuses}
use Rattle.lsp_shape.specs.declared.object.Reader.{Reader}
use Rattle.lsp_shape.specs.declared.object.WideReader.{WideReader}
use Rattle.lsp_shape.specs.declared.object.Writer.{Writer}
use Rattle.lsp_shape.specs.declared.why.Misfit.{Misfit}
use Rattle.lsp_shape.specs.declared.why.Misfit.TheVariants.{Unfit}
use Rattle.lsp_shape.specs.declared.why.Why.{Why}

-- the members of an object that is read
abbrev pub read_from : Reader → Members
read_from reader = members_view reader.object.now.entries

-- the members of the object of a wide record that is read
abbrev pub members_of : WideReader → Members
members_of reader = read_from reader.object

-- what its end will tell
abbrev pub misfit_of : WideReader → Option Misfit
misfit_of reader = reader.misfit

-- A call took p for a member that is read as r. The first misfit is kept, and another one says why a record of the member alone does
-- not fit.
abbrev pub Takes : WideReader → WideReader → Shape → Option Plain → Plain → Type 0
Takes old new alone r p =
    (members_of new ≡ members_of old)
    × (misfit_of new ≡ None → misfit_of old ≡ None)
    × (misfit_of new ≡ None → r ≡ Some p)
    × ((why : Why) → misfit_of new ≡ Some (Unfit why) → Refuses alone (object (members_of old)) why ⊎ (misfit_of old ≡ Some (Unfit why)))
    × ((m : Misfit) → misfit_of old ≡ Some m → misfit_of new ≡ Some m)

-- the members of an object that is written
abbrev pub written_to : Writer → Members
written_to writer = members_view writer.object.entries

-- nothing of it is left out for want of memory
abbrev pub is_whole : Writer → Bool
is_whole writer = writer.is_whole

-- A call made the members ms, by plain data that is of its shape, unless memory ran out then or before.
abbrev pub Puts : Writer → Writer → Members → Bool → Type 0
Puts old new ms is_of_shape =
    (is_whole new ≡ true → is_whole old ≡ true)
    × (is_whole new ≡ true → written_to new ≡ ms)
    × (is_whole new ≡ true → is_of_shape ≡ true)
