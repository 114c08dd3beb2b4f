-- What a vertex or an edge is read as, by its label.
use Rattle.std.specs.Prelude.{◌≡◌, List, [], ℕ, Option, Some, None, false, option_map, codes}
use Rattle.serde_json.specs.Data.{Data}
use Rattle.lsp_shape.specs.Plain.{Plain, choice, parts, no_parts}
use Rattle.lsp_shape.specs.Read.{read}
use Rattle.lsp_shape.specs.Shape.{Shape, tagged, has_name}
use Rattle.lsp_shape.specs.Values.{tags}
use Rattle.lsp_tokens.specs.Moniker.{moniker_row}
use Rattle.lsp_lsif.specs.Edge.{edge_row, edge_data_row, edge_data_multi_in_row, item_row}
use Rattle.lsp_lsif.specs.Vertex.{vertex_row, meta_data_row, project_row, document_row, vertex_range_row, result_set_row, package_information_row, event_row, vertex_folding_range_result_row, vertex_hover_result_row, vertex_document_symbol_result_row, vertex_document_link_result_row, vertex_diagnostic_result_row}
use Rattle.lsp_lsif.specs.declared.labels.EdgeLabel.{EdgeLabel}
use Rattle.lsp_lsif.specs.declared.labels.EdgeLabel.TheVariants as edge_label
use Rattle.lsp_lsif.specs.declared.labels.SingleLabel.{SingleLabel}
use Rattle.lsp_lsif.specs.declared.labels.SingleLabel.TheVariants as single_label
use Rattle.lsp_lsif.specs.declared.labels.VertexLabel.{VertexLabel}
use Rattle.lsp_lsif.specs.declared.labels.VertexLabel.TheVariants as vertex_label

-- the labels that a shape tells apart
abbrev pub labels : Shape → List (List ℕ)
labels (tagged name vs) = tags vs
labels _ = []

abbrev pub vertex_label_text : VertexLabel → List ℕ
vertex_label_text vertex_label.MetaData = codes "metaData"
vertex_label_text vertex_label.Project = codes "project"
vertex_label_text vertex_label.Document = codes "document"
vertex_label_text vertex_label.Range = codes "range"
vertex_label_text vertex_label.ResultSet = codes "resultSet"
vertex_label_text vertex_label.Moniker = codes "moniker"
vertex_label_text vertex_label.PackageInformation = codes "packageInformation"
vertex_label_text vertex_label.Event = codes "$event"
vertex_label_text vertex_label.DefinitionResult = codes "definitionResult"
vertex_label_text vertex_label.DeclarationResult = codes "declarationResult"
vertex_label_text vertex_label.TypeDefinitionResult = codes "typeDefinitionResult"
vertex_label_text vertex_label.ReferenceResult = codes "referenceResult"
vertex_label_text vertex_label.ImplementationResult = codes "implementationResult"
vertex_label_text vertex_label.FoldingRangeResult = codes "foldingRangeResult"
vertex_label_text vertex_label.HoverResult = codes "hoverResult"
vertex_label_text vertex_label.DocumentSymbolResult = codes "documentSymbolResult"
vertex_label_text vertex_label.DocumentLinkResult = codes "documentLinkResult"
vertex_label_text vertex_label.DiagnosticResult = codes "diagnosticResult"

-- what is found for a text is its label, or else the text is no label
abbrev pub IsVertexLabel : List ℕ → Option VertexLabel → Type 0
IsVertexLabel text (Some label) = text ≡ vertex_label_text label
IsVertexLabel text None = has_name text (labels vertex_row.shape) ≡ false

-- what an object of that label is read as
abbrev pub read_vertex_as : VertexLabel → Data → Option Plain
read_vertex_as vertex_label.MetaData = λ d. option_map (choice 0) (read meta_data_row.shape d)
read_vertex_as vertex_label.Project = λ d. option_map (choice 1) (read project_row.shape d)
read_vertex_as vertex_label.Document = λ d. option_map (choice 2) (read document_row.shape d)
read_vertex_as vertex_label.Range = λ d. option_map (choice 3) (read vertex_range_row.shape d)
read_vertex_as vertex_label.ResultSet = λ d. option_map (choice 4) (read result_set_row.shape d)
read_vertex_as vertex_label.Moniker = λ d. option_map (choice 5) (read moniker_row.shape d)
read_vertex_as vertex_label.PackageInformation = λ d. option_map (choice 6) (read package_information_row.shape d)
read_vertex_as vertex_label.Event = λ d. option_map (choice 7) (read event_row.shape d)
read_vertex_as vertex_label.DefinitionResult = λ d. Some (choice 8 (parts no_parts))
read_vertex_as vertex_label.DeclarationResult = λ d. Some (choice 9 (parts no_parts))
read_vertex_as vertex_label.TypeDefinitionResult = λ d. Some (choice 10 (parts no_parts))
read_vertex_as vertex_label.ReferenceResult = λ d. Some (choice 11 (parts no_parts))
read_vertex_as vertex_label.ImplementationResult = λ d. Some (choice 12 (parts no_parts))
read_vertex_as vertex_label.FoldingRangeResult = λ d. option_map (choice 13) (read vertex_folding_range_result_row.shape d)
read_vertex_as vertex_label.HoverResult = λ d. option_map (choice 14) (read vertex_hover_result_row.shape d)
read_vertex_as vertex_label.DocumentSymbolResult = λ d. option_map (choice 15) (read vertex_document_symbol_result_row.shape d)
read_vertex_as vertex_label.DocumentLinkResult = λ d. option_map (choice 16) (read vertex_document_link_result_row.shape d)
read_vertex_as vertex_label.DiagnosticResult = λ d. option_map (choice 17) (read vertex_diagnostic_result_row.shape d)

abbrev pub single_label_text : SingleLabel → List ℕ
single_label_text single_label.Moniker = codes "moniker"
single_label_text single_label.NextMoniker = codes "nextMoniker"
single_label_text single_label.Next = codes "next"
single_label_text single_label.PackageInformation = codes "packageInformation"
single_label_text single_label.Definition = codes "textDocument/definition"
single_label_text single_label.Declaration = codes "textDocument/declaration"
single_label_text single_label.Hover = codes "textDocument/hover"
single_label_text single_label.References = codes "textDocument/references"
single_label_text single_label.Implementation = codes "textDocument/implementation"
single_label_text single_label.TypeDefinition = codes "textDocument/typeDefinition"
single_label_text single_label.FoldingRange = codes "textDocument/foldingRange"
single_label_text single_label.DocumentLink = codes "textDocument/documentLink"
single_label_text single_label.DocumentSymbol = codes "textDocument/documentSymbol"
single_label_text single_label.Diagnostic = codes "textDocument/diagnostic"

abbrev pub edge_label_text : EdgeLabel → List ℕ
edge_label_text edge_label.Contains = codes "contains"
edge_label_text edge_label.Item = codes "item"
edge_label_text (edge_label.Single label) = single_label_text label

-- what is found for a text is its label, or else the text is no label
abbrev pub IsEdgeLabel : List ℕ → Option EdgeLabel → Type 0
IsEdgeLabel text (Some label) = text ≡ edge_label_text label
IsEdgeLabel text None = has_name text (labels edge_row.shape) ≡ false

-- where the edges of that label stand among all
abbrev pub single_place : SingleLabel → ℕ
single_place single_label.Moniker = 1
single_place single_label.NextMoniker = 2
single_place single_label.Next = 3
single_place single_label.PackageInformation = 4
single_place single_label.Definition = 6
single_place single_label.Declaration = 7
single_place single_label.Hover = 8
single_place single_label.References = 9
single_place single_label.Implementation = 10
single_place single_label.TypeDefinition = 11
single_place single_label.FoldingRange = 12
single_place single_label.DocumentLink = 13
single_place single_label.DocumentSymbol = 14
single_place single_label.Diagnostic = 15

abbrev pub read_edge_as : EdgeLabel → Data → Option Plain
read_edge_as edge_label.Contains = λ d. option_map (choice 0) (read edge_data_multi_in_row.shape d)
read_edge_as edge_label.Item = λ d. option_map (choice 5) (read item_row.shape d)
read_edge_as (edge_label.Single label) = λ d. option_map (choice (single_place label)) (read edge_data_row.shape d)
