use Rattle.std.proofs.Common.{◌≡◌, ◌+◌, ◌*◌, drop, length, map}
use Rattle.serde_json.specs.Data.{depth, items_depth, members_depth}
use Rattle.serde_json.specs.View.{view, items_view, members_view}
use Rattle.lsp_shape.specs.Read.{read, read_items}
use Rattle.lsp_shape.proofs.Items.{after}
use Rattle.lsp_lsif.specs.Symbols.{range_based_document_symbol_shape, show_range_based_document_symbol}
use Rattle.lsp_lsif.proofs.symbols.+reading.Given as goal

abbrev pub decreases-read_symbol : goal.decreases-read_symbol
decreases-read_symbol l = 5 * depth (view l.value.now)

abbrev pub decreases-read_members : goal.decreases-read_members
decreases-read_members l = 5 * members_depth (members_view l.object.now.entries) + 4

abbrev pub decreases-read_children : goal.decreases-read_children
decreases-read_children l = 5 * members_depth (members_view l.object.now.entries) + 3

abbrev pub decreases-read_list : goal.decreases-read_list
decreases-read_list l = 5 * depth (view l.value.now) + 2

abbrev pub decreases-read_all : goal.decreases-read_all
decreases-read_all l = 5 * items_depth (items_view l.items.now.items) + 1

-- what was read comes before what is left
abbrev pub invariant-read_all-loop-item : goal.invariant-read_all-loop-item
invariant-read_all-loop-item l =
    (read_items (read range_based_document_symbol_shape) (items_view l.items.items)
    ≡ after (map show_range_based_document_symbol l.all.items) (read_items (read range_based_document_symbol_shape) (items_view (drop l.item-index l.item-items))))
    × (length l.all.items ≡ l.item-index)
