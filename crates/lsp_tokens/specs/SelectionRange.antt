-- Rows: a range that can be selected, in one that can be selected.
use Rattle.std.specs.Prelude.{codes, Box}
use Rattle.std.specs.declared.alloc.Global.{Global}
use Rattle.lsp_shape.specs.Plain.{Plain}
use Rattle.lsp_shape.specs.Shape.{Shape, recursive, field, again, one, no_fields}
use Rattle.lsp_shape.specs.Shape as shape
use Rattle.lsp_shape.specs.Row.{Row, row_of, fields, omitted, required, ◌&◌}
use Rattle.lsp_base.specs.Position.{range_row}
use Rattle.lsp_tokens.specs.declared.selection_range.SelectionRange.{SelectionRange, fold-SelectionRange}
use Rattle.lsp_tokens.specs.declared.selection_range.SelectionRange.TheOpen.{SelectionRange-F}

abbrev pub selection_range_fields : shape.Fields
selection_range_fields =
    field (codes "range") shape.required range_row.shape (
    again (codes "parent") shape.omitted one no_fields)

unfoldable pub selection_range_shape : Shape
selection_range_shape = recursive selection_range_fields

-- a parent that is plain data
abbrev pub parent_shown : Row (Box Plain Global)
parent_shown = row_of selection_range_shape (λ b. b.value)

-- one level of it, where the parent is plain data
unfoldable pub selection_range_level : Row (SelectionRange-F Plain)
selection_range_level = fields (
    required "range" range_row (λ x. x.range) &
    omitted "parent" parent_shown (λ x. x.parent))

unfoldable pub show_selection_range : SelectionRange → Plain
show_selection_range = fold-SelectionRange Plain selection_range_level.shown

abbrev pub show_parent : Box SelectionRange Global → Plain
show_parent b = show_selection_range b.value

abbrev pub selection_range_row : Row SelectionRange
selection_range_row = record { shape = selection_range_shape; shown = show_selection_range }
