-- Rows: edges.
use Rattle.std.specs.Prelude.{List, [], codes, ℕ, ◌∷◌}
use Rattle.lsp_shape.specs.Plain.{Plain, choice}
use Rattle.lsp_shape.specs.Row.{Row, fields, flat, list, names, omitted, required, tag, tagged, union, variant, ◌&◌, ◌or◌}
use Rattle.lsp_base.specs.Position.{location_row, number_or_string_row}
use Rattle.lsp_lsif.specs.declared.edge.DefinitionResultType.{DefinitionResultType}
use Rattle.lsp_lsif.specs.declared.edge.DefinitionResultType.TheVariants as definition_result_type
use Rattle.lsp_lsif.specs.declared.edge.Edge.{Edge}
use Rattle.lsp_lsif.specs.declared.edge.Edge.TheVariants as edge
use Rattle.lsp_lsif.specs.declared.edge.EdgeData.{EdgeData}
use Rattle.lsp_lsif.specs.declared.edge.EdgeDataMultiIn.{EdgeDataMultiIn}
use Rattle.lsp_lsif.specs.declared.edge.Item.{Item}
use Rattle.lsp_lsif.specs.declared.edge.ItemKind.{ItemKind}
use Rattle.lsp_lsif.specs.declared.edge.ItemKind.TheVariants as item_kind
use Rattle.lsp_lsif.specs.declared.edge.LocationOrRangeId.{LocationOrRangeId}
use Rattle.lsp_lsif.specs.declared.edge.LocationOrRangeId.TheVariants as location_or_range_id

unfoldable pub edge_data_multi_in_row : Row EdgeDataMultiIn
edge_data_multi_in_row = fields (
    required "inVs" (list number_or_string_row) (λ x. x.in_vs) &
    required "outV" number_or_string_row (λ x. x.out_v))

unfoldable pub edge_data_row : Row EdgeData
edge_data_row = fields (
    required "inV" number_or_string_row (λ x. x.in_v) &
    required "outV" number_or_string_row (λ x. x.out_v))

abbrev pub item_kind_name : ItemKind → List ℕ
item_kind_name item_kind.Declarations = codes "declarations"
item_kind_name item_kind.Definitions = codes "definitions"
item_kind_name item_kind.References = codes "references"
item_kind_name item_kind.ReferenceResults = codes "referenceResults"
item_kind_name item_kind.ImplementationResults = codes "implementationResults"

unfoldable pub item_kind_row : Row ItemKind
item_kind_row = names (codes "declarations" ∷ codes "definitions" ∷ codes "references" ∷ codes "referenceResults" ∷ codes "implementationResults" ∷ []) item_kind_name

unfoldable pub item_row : Row Item
item_row = fields (
    required "document" number_or_string_row (λ x. x.document) &
    omitted "property" item_kind_row (λ x. x.property) &
    flat edge_data_multi_in_row (λ x. x.edge_data))

abbrev pub show_edge : Edge → Plain
show_edge (edge.Contains x) = choice 0 (edge_data_multi_in_row.shown x)
show_edge (edge.Moniker x) = choice 1 (edge_data_row.shown x)
show_edge (edge.NextMoniker x) = choice 2 (edge_data_row.shown x)
show_edge (edge.Next x) = choice 3 (edge_data_row.shown x)
show_edge (edge.PackageInformation x) = choice 4 (edge_data_row.shown x)
show_edge (edge.Item x) = choice 5 (item_row.shown x)
show_edge (edge.Definition x) = choice 6 (edge_data_row.shown x)
show_edge (edge.Declaration x) = choice 7 (edge_data_row.shown x)
show_edge (edge.Hover x) = choice 8 (edge_data_row.shown x)
show_edge (edge.References x) = choice 9 (edge_data_row.shown x)
show_edge (edge.Implementation x) = choice 10 (edge_data_row.shown x)
show_edge (edge.TypeDefinition x) = choice 11 (edge_data_row.shown x)
show_edge (edge.FoldingRange x) = choice 12 (edge_data_row.shown x)
show_edge (edge.DocumentLink x) = choice 13 (edge_data_row.shown x)
show_edge (edge.DocumentSymbol x) = choice 14 (edge_data_row.shown x)
show_edge (edge.Diagnostic x) = choice 15 (edge_data_row.shown x)

unfoldable pub edge_row : Row Edge
edge_row = tagged "label" (
    tag "contains" edge_data_multi_in_row or
    tag "moniker" edge_data_row or
    tag "nextMoniker" edge_data_row or
    tag "next" edge_data_row or
    tag "packageInformation" edge_data_row or
    tag "item" item_row or
    tag "textDocument/definition" edge_data_row or
    tag "textDocument/declaration" edge_data_row or
    tag "textDocument/hover" edge_data_row or
    tag "textDocument/references" edge_data_row or
    tag "textDocument/implementation" edge_data_row or
    tag "textDocument/typeDefinition" edge_data_row or
    tag "textDocument/foldingRange" edge_data_row or
    tag "textDocument/documentLink" edge_data_row or
    tag "textDocument/documentSymbol" edge_data_row or
    tag "textDocument/diagnostic" edge_data_row) show_edge

abbrev pub show_location_or_range_id : LocationOrRangeId → Plain
show_location_or_range_id (location_or_range_id.Location x) = choice 0 (location_row.shown x)
show_location_or_range_id (location_or_range_id.RangeId x) = choice 1 (number_or_string_row.shown x)

unfoldable pub location_or_range_id_row : Row LocationOrRangeId
location_or_range_id_row = union (variant location_row or variant number_or_string_row) show_location_or_range_id

abbrev pub show_definition_result_type : DefinitionResultType → Plain
show_definition_result_type (definition_result_type.Scalar x) = choice 0 (location_or_range_id_row.shown x)
show_definition_result_type (definition_result_type.Array x) = choice 1 (location_or_range_id_row.shown x)

unfoldable pub definition_result_type_row : Row DefinitionResultType
definition_result_type_row = union (variant location_or_range_id_row or variant location_or_range_id_row) show_definition_result_type
