-- Rows: an entry of a dump.
use Rattle.lsp_shape.specs.Plain.{Plain, choice}
use Rattle.lsp_shape.specs.Row.{Row, fields, flat, required, tag, tagged, ◌&◌, ◌or◌}
use Rattle.lsp_base.specs.Position.{number_or_string_row}
use Rattle.lsp_lsif.specs.Edge.{edge_row}
use Rattle.lsp_lsif.specs.Vertex.{vertex_row}
use Rattle.lsp_lsif.specs.declared.entry.Element.{Element}
use Rattle.lsp_lsif.specs.declared.entry.Element.TheVariants as element
use Rattle.lsp_lsif.specs.declared.entry.Entry.{Entry}

abbrev pub show_element : Element → Plain
show_element (element.Vertex x) = choice 0 (vertex_row.shown x)
show_element (element.Edge x) = choice 1 (edge_row.shown x)

unfoldable pub element_row : Row Element
element_row = tagged "type" (tag "vertex" vertex_row or tag "edge" edge_row) show_element

unfoldable pub entry_row : Row Entry
entry_row = fields (
    required "id" number_or_string_row (λ x. x.id) &
    flat element_row (λ x. x.payload))
