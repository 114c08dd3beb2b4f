-- What a vertex or an edge is read as, by its label.
use Rattle.std.proofs.Common.{◌≡◌, ◌∙◌, ℕ, List, true, Option, Some, None, option_map, option_and_then, refl, ap}
use Rattle.std.specs.Prelude.{codes}
use Rattle.serde_json.specs.Data.{Data}
use Rattle.serde_json.specs.Find.{get, as_str}
use Rattle.lsp_shape.specs.Plain.{choice}
use Rattle.lsp_shape.specs.Read.{read}
use Rattle.lsp_shape.specs.Why.{suits}
use Rattle.lsp_shape.specs.declared.why.Wanted.TheVariants as wants
use Rattle.lsp_lsif.specs.Edge.{edge_row}
use Rattle.lsp_lsif.specs.Vertex.{vertex_row, vertex_shape}
use Rattle.lsp_lsif.specs.Labels.{vertex_label_text, IsVertexLabel, read_vertex_as, edge_label_text, IsEdgeLabel, read_edge_as}
use Rattle.lsp_lsif.specs.declared.labels.EdgeLabel.{EdgeLabel}
use Rattle.lsp_lsif.specs.declared.labels.EdgeLabel.TheVariants as edge_label
use Rattle.lsp_lsif.specs.declared.labels.SingleLabel.TheVariants as single_label
use Rattle.lsp_lsif.specs.declared.labels.VertexLabel.{VertexLabel}
use Rattle.lsp_lsif.specs.declared.labels.VertexLabel.TheVariants as vertex_label
use Rattle.lsp_lsif.proofs.Tagged.{variants_of, read_by_text, nothing_read, untold_unfit, other_unfit}

-- the text of the member `label`
abbrev told : Data → Option (List ℕ)
told d = option_and_then as_str (get (codes "label") d)

vertex-of_label : (l : VertexLabel) (d : Data) → told d ≡ Some (vertex_label_text l) → read vertex_row.shape d ≡ read_vertex_as l d
unfolding vertex_row vertex_shape
vertex-of_label vertex_label.MetaData d is = read_by_text (codes "label") (codes "metaData") (variants_of vertex_row.shape) d is
vertex-of_label vertex_label.Project d is = read_by_text (codes "label") (codes "project") (variants_of vertex_row.shape) d is
vertex-of_label vertex_label.Document d is = read_by_text (codes "label") (codes "document") (variants_of vertex_row.shape) d is
vertex-of_label vertex_label.Range d is = read_by_text (codes "label") (codes "range") (variants_of vertex_row.shape) d is
vertex-of_label vertex_label.ResultSet d is = read_by_text (codes "label") (codes "resultSet") (variants_of vertex_row.shape) d is
vertex-of_label vertex_label.Moniker d is = read_by_text (codes "label") (codes "moniker") (variants_of vertex_row.shape) d is
vertex-of_label vertex_label.PackageInformation d is = read_by_text (codes "label") (codes "packageInformation") (variants_of vertex_row.shape) d is
vertex-of_label vertex_label.Event d is = read_by_text (codes "label") (codes "$event") (variants_of vertex_row.shape) d is
vertex-of_label vertex_label.DefinitionResult d is = read_by_text (codes "label") (codes "definitionResult") (variants_of vertex_row.shape) d is ∙ ap (option_map (choice 8)) (nothing_read (codes "label") (codes "definitionResult") d is)
vertex-of_label vertex_label.DeclarationResult d is = read_by_text (codes "label") (codes "declarationResult") (variants_of vertex_row.shape) d is ∙ ap (option_map (choice 9)) (nothing_read (codes "label") (codes "declarationResult") d is)
vertex-of_label vertex_label.TypeDefinitionResult d is = read_by_text (codes "label") (codes "typeDefinitionResult") (variants_of vertex_row.shape) d is ∙ ap (option_map (choice 10)) (nothing_read (codes "label") (codes "typeDefinitionResult") d is)
vertex-of_label vertex_label.ReferenceResult d is = read_by_text (codes "label") (codes "referenceResult") (variants_of vertex_row.shape) d is ∙ ap (option_map (choice 11)) (nothing_read (codes "label") (codes "referenceResult") d is)
vertex-of_label vertex_label.ImplementationResult d is = read_by_text (codes "label") (codes "implementationResult") (variants_of vertex_row.shape) d is ∙ ap (option_map (choice 12)) (nothing_read (codes "label") (codes "implementationResult") d is)
vertex-of_label vertex_label.FoldingRangeResult d is = read_by_text (codes "label") (codes "foldingRangeResult") (variants_of vertex_row.shape) d is
vertex-of_label vertex_label.HoverResult d is = read_by_text (codes "label") (codes "hoverResult") (variants_of vertex_row.shape) d is
vertex-of_label vertex_label.DocumentSymbolResult d is = read_by_text (codes "label") (codes "documentSymbolResult") (variants_of vertex_row.shape) d is
vertex-of_label vertex_label.DocumentLinkResult d is = read_by_text (codes "label") (codes "documentLinkResult") (variants_of vertex_row.shape) d is
vertex-of_label vertex_label.DiagnosticResult d is = read_by_text (codes "label") (codes "diagnosticResult") (variants_of vertex_row.shape) d is

pub vertex-untold : (d : Data) → told d ≡ None → read vertex_row.shape d ≡ None
unfolding vertex_row vertex_shape
vertex-untold d is = untold_unfit (codes "label") (variants_of vertex_row.shape) d is

pub vertex-told : (text : List ℕ) (d : Data) (found : Option VertexLabel) → told d ≡ Some text → IsVertexLabel text found
    → read vertex_row.shape d ≡ option_and_then (λ l. read_vertex_as l d) found
unfolding vertex_row vertex_shape
vertex-told text d None is other = other_unfit (codes "label") text (variants_of vertex_row.shape) d is other
vertex-told text d (Some l) is named = vertex-of_label l d (is ∙ ap Some named)

edge-of_label : (l : EdgeLabel) (d : Data) → told d ≡ Some (edge_label_text l) → read edge_row.shape d ≡ read_edge_as l d
unfolding edge_row
edge-of_label edge_label.Contains d is = read_by_text (codes "label") (codes "contains") (variants_of edge_row.shape) d is
edge-of_label (edge_label.Single single_label.Moniker) d is = read_by_text (codes "label") (codes "moniker") (variants_of edge_row.shape) d is
edge-of_label (edge_label.Single single_label.NextMoniker) d is = read_by_text (codes "label") (codes "nextMoniker") (variants_of edge_row.shape) d is
edge-of_label (edge_label.Single single_label.Next) d is = read_by_text (codes "label") (codes "next") (variants_of edge_row.shape) d is
edge-of_label (edge_label.Single single_label.PackageInformation) d is = read_by_text (codes "label") (codes "packageInformation") (variants_of edge_row.shape) d is
edge-of_label edge_label.Item d is = read_by_text (codes "label") (codes "item") (variants_of edge_row.shape) d is
edge-of_label (edge_label.Single single_label.Definition) d is = read_by_text (codes "label") (codes "textDocument/definition") (variants_of edge_row.shape) d is
edge-of_label (edge_label.Single single_label.Declaration) d is = read_by_text (codes "label") (codes "textDocument/declaration") (variants_of edge_row.shape) d is
edge-of_label (edge_label.Single single_label.Hover) d is = read_by_text (codes "label") (codes "textDocument/hover") (variants_of edge_row.shape) d is
edge-of_label (edge_label.Single single_label.References) d is = read_by_text (codes "label") (codes "textDocument/references") (variants_of edge_row.shape) d is
edge-of_label (edge_label.Single single_label.Implementation) d is = read_by_text (codes "label") (codes "textDocument/implementation") (variants_of edge_row.shape) d is
edge-of_label (edge_label.Single single_label.TypeDefinition) d is = read_by_text (codes "label") (codes "textDocument/typeDefinition") (variants_of edge_row.shape) d is
edge-of_label (edge_label.Single single_label.FoldingRange) d is = read_by_text (codes "label") (codes "textDocument/foldingRange") (variants_of edge_row.shape) d is
edge-of_label (edge_label.Single single_label.DocumentLink) d is = read_by_text (codes "label") (codes "textDocument/documentLink") (variants_of edge_row.shape) d is
edge-of_label (edge_label.Single single_label.DocumentSymbol) d is = read_by_text (codes "label") (codes "textDocument/documentSymbol") (variants_of edge_row.shape) d is
edge-of_label (edge_label.Single single_label.Diagnostic) d is = read_by_text (codes "label") (codes "textDocument/diagnostic") (variants_of edge_row.shape) d is

pub edge-untold : (d : Data) → told d ≡ None → read edge_row.shape d ≡ None
unfolding edge_row
edge-untold d is = untold_unfit (codes "label") (variants_of edge_row.shape) d is

pub edge-told : (text : List ℕ) (d : Data) (found : Option EdgeLabel) → told d ≡ Some text → IsEdgeLabel text found
    → read edge_row.shape d ≡ option_and_then (λ l. read_edge_as l d) found
unfolding edge_row
edge-told text d None is other = other_unfit (codes "label") text (variants_of edge_row.shape) d is other
edge-told text d (Some l) is named = edge-of_label l d (is ∙ ap Some named)

-- each is one of several forms

pub vertex-is_form : suits vertex_row.shape wants.Form ≡ true
unfolding vertex_row vertex_shape
vertex-is_form = refl

pub edge-is_form : suits edge_row.shape wants.Form ≡ true
unfolding edge_row
edge-is_form = refl
