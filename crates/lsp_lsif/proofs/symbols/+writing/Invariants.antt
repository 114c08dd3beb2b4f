use Rattle.std.proofs.Common.{◌≡◌, ◌+◌, ◌*◌, true, take, map}
use Rattle.serde_json.specs.View.{view}
use Rattle.lsp_shape.specs.Plain.{plain_depth, parts_depth, parts_of}
use Rattle.lsp_shape.specs.Write.{write}
use Rattle.lsp_shape.specs.Values.{is_of, every}
use Rattle.lsp_lsif.specs.Symbols.{range_based_document_symbol_shape, show_range_based_document_symbol}
use Rattle.lsp_lsif.proofs.symbols.+writing.Given as goal

abbrev pub decreases-write_symbol : goal.decreases-write_symbol
decreases-write_symbol l = 3 * plain_depth (show_range_based_document_symbol l.symbol.now)

abbrev pub decreases-put_children : goal.decreases-put_children
decreases-put_children l = 3 * parts_depth (parts_of (map show_range_based_document_symbol l.children.now.items)) + 2

abbrev pub decreases-write_all : goal.decreases-write_all
decreases-write_all l = 3 * parts_depth (parts_of (map show_range_based_document_symbol l.symbols.now.items)) + 1

abbrev pub invariant-write_all-loop-symbol : goal.invariant-write_all-loop-symbol
invariant-write_all-loop-symbol l =
    (map view l.items.items ≡ map (λ x. write range_based_document_symbol_shape (show_range_based_document_symbol x)) (take l.symbol-index l.symbol-items))
    × (every (is_of range_based_document_symbol_shape) (parts_of (map show_range_based_document_symbol (take l.symbol-index l.symbol-items))) ≡ true)
