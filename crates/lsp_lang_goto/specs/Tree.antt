-- Rows: the symbols of a document as a tree, which hold themselves.
use Rattle.std.specs.Prelude.{codes, List, Option, Vec}
use Rattle.std.specs.declared.alloc.Global.{Global}
use Rattle.lsp_shape.specs.Plain.{Plain, parts, parts_of}
use Rattle.lsp_shape.specs.Shape.{Shape, recursive, field, again, many, no_fields, string_shape, i32_shape}
use Rattle.lsp_shape.specs.Shape as shape
use Rattle.lsp_shape.specs.Row.{Row, row_of, fields, i32, list, omitted, required, string, truth, ◌&◌}
use Rattle.lsp_base.specs.Position.{range_row}
use Rattle.lsp_lang_goto.specs.declared.tree.DocumentSymbol.{DocumentSymbol, fold-DocumentSymbol}
use Rattle.lsp_lang_goto.specs.declared.tree.DocumentSymbol.TheOpen.{DocumentSymbol-F}

abbrev pub document_symbol_fields : shape.Fields
document_symbol_fields =
    field (codes "name") shape.required string_shape (
    field (codes "detail") shape.omitted string_shape (
    field (codes "kind") shape.required i32_shape (
    field (codes "tags") shape.omitted (shape.list i32_shape) (
    field (codes "deprecated") shape.omitted shape.truth (
    field (codes "range") shape.required range_row.shape (
    field (codes "selectionRange") shape.required range_row.shape (
    again (codes "children") shape.omitted many no_fields)))))))

unfoldable pub document_symbol_shape : Shape
document_symbol_shape = recursive document_symbol_fields

-- symbols that are plain data
abbrev pub symbols_shown : Row (Vec Plain Global)
symbols_shown = row_of (shape.list document_symbol_shape) (λ v. parts (parts_of v.items))

-- one level of it, where the symbols inside are plain data
unfoldable pub document_symbol_level : Row (DocumentSymbol-F Plain)
document_symbol_level = fields (
    required "name" string (λ x. x.name) &
    omitted "detail" string (λ x. x.detail) &
    required "kind" i32 (λ x. x.kind) &
    omitted "tags" (list i32) (λ x. x.tags) &
    omitted "deprecated" truth (λ x. x.deprecated) &
    required "range" range_row (λ x. x.range) &
    required "selectionRange" range_row (λ x. x.selection_range) &
    omitted "children" symbols_shown (λ x. x.children))

unfoldable pub show_document_symbol : DocumentSymbol → Plain
show_document_symbol = fold-DocumentSymbol Plain document_symbol_level.shown

abbrev pub document_symbol_row : Row DocumentSymbol
document_symbol_row = record { shape = document_symbol_shape; shown = show_document_symbol }
