use Rattle.std.proofs.Common.{◌≡◌, ◌==◌, ◌+◌, ◌≤◌, true, false, length, take, ap, sym, ◌∙◌, subst, map, arith}
use Rattle.std.proofs.lemmas.Grind.{common_steps}
use Rattle.serde_json.proofs.Views.{view-Array}
use Rattle.serde_json.specs.Data.{array}
use Rattle.serde_json.specs.View.{view, items_of}
use Rattle.lsp_shape.specs.Plain.{plain_depth, parts_depth, parts_of}
use Rattle.lsp_shape.specs.Write.{write}
use Rattle.lsp_shape.specs.Values.{is_of, every}
use Rattle.lsp_shape.proofs.Items.{items_of-written, not_empty, one_written}
use Rattle.lsp_lsif.specs.Symbols.{range_based_document_symbol_shape, show_range_based_document_symbol}
use Rattle.lsp_lang_goto.proofs.Depth.{depth-part}
use Rattle.lsp_lsif.proofs.Unrolled.{write-level, is_of-level}
use Rattle.lsp_lsif.proofs.symbols.+writing.Goals as goal

pub write_all-write_symbol-requires : goal.write_all-write_symbol-requires
write_all-write_symbol-requires t c =
    let below : plain_depth (show_range_based_document_symbol c.symbol-item.result) ≤ parts_depth (parts_of (map show_range_based_document_symbol c.deref-symbol-items.result.now)) = depth-part show_range_based_document_symbol c.deref-symbol-items.result.now c.loop-symbol.symbol-index c.symbol-item.result c.loop-symbol-test.true c.symbol-item.is in
    grind (arith, below)

pub write_all-loop-symbol-preserved : goal.write_all-loop-symbol-preserved
write_all-loop-symbol-preserved t c =
    let before = c.loop-symbol.invariant.0 in
    let xs = c.deref-symbol-items.result.now in
    let x = c.symbol-item.result in
    let here : view c.in_ok-write_symbol.field-0 ≡ write range_based_document_symbol_shape (show_range_based_document_symbol x) = c.in_ok-write_symbol.ensures.written ∙ sym (write-level (show_range_based_document_symbol x)) in
    let fits : is_of range_based_document_symbol_shape (show_range_based_document_symbol x) ≡ true = is_of-level (show_range_based_document_symbol x) ∙ c.in_ok-write_symbol.ensures.of_shape in
    let one : map view c.push.new.self.items ≡ map (λ x. write range_based_document_symbol_shape (show_range_based_document_symbol x)) (take (c.loop-symbol.symbol-index + 1) xs) = grind (arith, common_steps, here) in
    (one, one_written show_range_based_document_symbol (is_of range_based_document_symbol_shape) xs c.loop-symbol.symbol-index x c.loop-symbol-test.true c.symbol-item.is c.loop-symbol.invariant.1 fits)

pub write_all-returns : goal.write_all-returns
write_all-returns t c =
    let whole : take c.loop-symbol.symbol-index c.deref-symbol-items.result.now ≡ c.args.symbols.now.items = grind (arith, common_steps) in
    record {
      written = view-Array c.loop-symbol.items ∙ ap array (ap items_of (c.loop-symbol.invariant.0 ∙ ap (map (λ x. write range_based_document_symbol_shape (show_range_based_document_symbol x))) whole) ∙ items_of-written show_range_based_document_symbol (write range_based_document_symbol_shape) c.args.symbols.now.items);
      of_shape = subst (λ xs. every (is_of range_based_document_symbol_shape) (parts_of (map show_range_based_document_symbol xs)) ≡ true) whole c.loop-symbol.invariant.1;
    }

pub put_children-returns-clause-put : goal.put_children-returns-clause-put
put_children-returns-clause-put t c =
    let some : false ≡ (length c.args.children.now.items == 0) = grind (arith, common_steps) in
    rw (not_empty show_range_based_document_symbol c.args.children.now.items some, ← c.in_ok-value.ensures.written) c.put_value.ensures.ok
