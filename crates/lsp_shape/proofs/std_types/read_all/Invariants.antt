use Rattle.std.proofs.Common.{◌≡◌, drop, length, map}
use Rattle.serde_json.specs.View.{items_view}
use Rattle.lsp_shape.specs.Read.{read, read_items}
use Rattle.lsp_shape.proofs.Items.{after}
use Rattle.lsp_shape.proofs.std_types.read_all.Given as goal

-- what was read comes before what is left
abbrev pub invariant-loop-item : goal.invariant-loop-item
invariant-loop-item g l =
    (read_items (read g.T.Wire.shape) (items_view l.items.items)
    ≡ after (map g.T.Wire.shown l.all.items) (read_items (read g.T.Wire.shape) (items_view (drop l.item-index l.item-items))))
    × (length l.all.items ≡ l.item-index)
