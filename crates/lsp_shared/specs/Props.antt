-- Facts that hold in one way at most.
use Rattle.std.specs.Prelude.{◌≡◌, ℕ, List, [], ◌∷◌}
use base.Stored.{Coded-set}
use Rattle.std.proofs.Math.Bridge.{le_prop}
use mathlib.Core.HLevel.{×_prop, Unit-prop}
use Rattle.atomic_table.specs.Seated.{TableId, table_id_coded}
use Rattle.lsp_desk.specs.Trace.{AllBelow}

pub TableId-set : (a b : TableId) → IsProp (a ≡ b)
TableId-set = Coded-set table_id_coded

pub AllBelow-prop : (n : ℕ) (ks : List ℕ) → IsProp (AllBelow n ks)
AllBelow-prop n [] = Unit-prop
AllBelow-prop n (k ∷ ks) = ×_prop le_prop (AllBelow-prop n ks)
