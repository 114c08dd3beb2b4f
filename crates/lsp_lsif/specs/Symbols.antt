-- Rows: the symbols of a document by the ids of their ranges, which hold themselves.
use Rattle.std.specs.Prelude.{codes}
use Rattle.lsp_shape.specs.Plain.{Plain, part, parts, parts_of}
use Rattle.lsp_shape.specs.Shape.{Shape, recursive, field, again, many, no_fields}
use Rattle.lsp_shape.specs.Shape as shape
use Rattle.lsp_shape.specs.Row.{Row, Fields, fields, required, ◌&◌}
use Rattle.lsp_base.specs.Position.{number_or_string_row}
use Rattle.lsp_lsif.specs.declared.symbols.RangeBasedDocumentSymbol.{RangeBasedDocumentSymbol, fold-RangeBasedDocumentSymbol}
use Rattle.lsp_lsif.specs.declared.symbols.RangeBasedDocumentSymbol.TheOpen.{RangeBasedDocumentSymbol-F}

abbrev pub range_based_document_symbol_fields : shape.Fields
range_based_document_symbol_fields =
    field (codes "id") shape.required number_or_string_row.shape (
    again (codes "children") shape.unless_empty many no_fields)

unfoldable pub range_based_document_symbol_shape : Shape
range_based_document_symbol_shape = recursive range_based_document_symbol_fields

-- the symbols inside, which are plain data, where an empty list is not written
abbrev pub children_shown : Fields (RangeBasedDocumentSymbol-F Plain)
children_shown = record {
  row = shape.field (codes "children") shape.unless_empty (shape.list range_based_document_symbol_shape);
  shown = λ x. part (parts (parts_of x.children.items));
}

-- one level of it, where the symbols inside are plain data
unfoldable pub range_based_document_symbol_level : Row (RangeBasedDocumentSymbol-F Plain)
range_based_document_symbol_level = fields (
    required "id" number_or_string_row (λ x. x.id) &
    children_shown)

unfoldable pub show_range_based_document_symbol : RangeBasedDocumentSymbol → Plain
show_range_based_document_symbol = fold-RangeBasedDocumentSymbol Plain range_based_document_symbol_level.shown

abbrev pub range_based_document_symbol_row : Row RangeBasedDocumentSymbol
range_based_document_symbol_row = record { shape = range_based_document_symbol_shape; shown = show_range_based_document_symbol }
