-- No member of a vertex, an edge or an element has the name of one that stands beside it.
use Rattle.std.proofs.Common.{◌≡◌, true, refl}
use Rattle.std.specs.Prelude.{codes}
use Rattle.lsp_shape.specs.Shape.{Shape, required, field, flat, no_fields, are_distinct}
use Rattle.lsp_shape.specs.Values.{leaves_room}
use Rattle.lsp_base.specs.Position.{range_row}
use Rattle.lsp_tokens.specs.Moniker.{moniker_row}
use Rattle.lsp_lsif.specs.Edge.{edge_row, edge_data_row, edge_data_multi_in_row, item_row}
use Rattle.lsp_lsif.specs.Entry.{element_row}
use Rattle.lsp_lsif.specs.Vertex.{vertex_row, vertex_shape, meta_data_row, project_row, document_row, result_set_row, package_information_row, event_row}

pub vertex-beside-type : leaves_room (codes "type") vertex_row.shape ≡ true
unfolding vertex_row vertex_shape meta_data_row project_row document_row result_set_row moniker_row package_information_row event_row range_row
vertex-beside-type = refl

pub edge-beside-type : leaves_room (codes "type") edge_row.shape ≡ true
unfolding edge_row edge_data_multi_in_row edge_data_row item_row
edge-beside-type = refl

pub id-beside-element : (s : Shape) → are_distinct (field (codes "id") required s (flat element_row.shape no_fields)) ≡ true
unfolding element_row vertex_row vertex_shape meta_data_row project_row document_row result_set_row moniker_row package_information_row event_row range_row edge_row edge_data_multi_in_row edge_data_row item_row
id-beside-element s = refl

pub ruleset room_in_element = (vertex-beside-type, edge-beside-type)
