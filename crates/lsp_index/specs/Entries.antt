-- The entries of a dump, one a line, and what a query sees of each.
use Rattle.std.specs.Prelude.{◌≡◌, ◌==◌, ℕ, List, [], ◌∷◌, ◌++◌, length, Bool, true, false, not, Option, Some, None, option_and_then, is_none, map, filter, if◌then◌else◌}
use Rattle.std.specs.List.{list_any}
use Rattle.std.specs.Str.{is_utf8}
use Rattle.std.specs.Str.Lines.{lines}
use Rattle.serde_json.specs.Read as json_text
use Rattle.serde_json.specs.Written.{compact_text}
use Rattle.lsp_shape.specs.Plain.{Plain}
use Rattle.lsp_shape.specs.Read.{read}
use Rattle.lsp_shape.specs.Write.{write}
use Rattle.lsp_rpc.specs.Message.{IdData}
use Rattle.lsp_uri.specs.Uri.{uri_text}
use Rattle.lsp_base.specs.Position.{id_of}
use Rattle.lsp_base.specs.declared.position.NumberOrString.{NumberOrString}
use Rattle.lsp_lang_goto.specs.Hover.{hover_row}
use Rattle.lsp_lang_goto.specs.declared.hover.Hover.{Hover}
use Rattle.lsp_lsif.specs.Entry.{entry_row}
use Rattle.lsp_lsif.specs.declared.entry.Entry.{Entry}
use Rattle.lsp_lsif.specs.declared.entry.Element.{Element}
use Rattle.lsp_lsif.specs.declared.entry.Element.TheVariants as element
use Rattle.lsp_lsif.specs.declared.vertex.Vertex.{Vertex}
use Rattle.lsp_lsif.specs.declared.vertex.Vertex.TheVariants as vertex
use Rattle.lsp_lsif.specs.declared.edge.Edge.{Edge}
use Rattle.lsp_lsif.specs.declared.edge.Edge.TheVariants as edge
use Rattle.lsp_lsif.specs.declared.edge.EdgeData.{EdgeData}
use Rattle.lsp_lsif.specs.declared.edge.Item.{Item}
use Rattle.lsp_lsif.specs.declared.edge.ItemKind.{ItemKind}
use Rattle.lsp_lsif.specs.declared.edge.ItemKind.TheVariants as item_kind
use Rattle.lsp_index.specs.declared.graph.Role.{Role}
use Rattle.lsp_index.specs.declared.graph.Role.TheVariants as roles
use Rattle.lsp_index.specs.declared.query.Request.{Request}
use Rattle.lsp_index.specs.Queries.{is_definition, is_references, is_hover}
use Rattle.lsp_index.specs.Graph.{VertexData, document_vertex, range_vertex, hover_vertex, other_vertex, EntryData, vertex_entry, contains_edge, next_edge, result_edge, item_edge, unseen_edge}

-- ---- lines

-- the plain data of the entry of a line; none where the line isn't JSON or doesn't fit
abbrev pub value_of_line : List ℕ → Option Plain
value_of_line line = if is_utf8 line then option_and_then (read entry_row.shape) (json_text.read line) else None

-- A line ends with LF, and one CR before that isn't part of it; the last one may lack its LF. Empty lines tell nothing.
abbrev pub entry_lines : List ℕ → List (List ℕ)
entry_lines bytes = filter (λ l. not (length l == 0)) (lines bytes)

abbrev pub HasBadLine : List ℕ → Type 0
HasBadLine bytes = list_any (λ l. is_none (value_of_line l)) (entry_lines bytes) ≡ true

-- a bad line ends in these bytes, with its LF
abbrev pub EndsBadLine : List ℕ → Type 0
EndsBadLine bytes = (before : List ℕ) × (later : List ℕ) × (bytes ≡ before ++ 10 ∷ later) × HasBadLine (before ++ 10 ∷ [])

-- these entries stand in the lines, one in each
abbrev pub AreEntries : List ℕ → List Entry → Type 0
AreEntries bytes es = map value_of_line (entry_lines bytes) ≡ map (λ e. Some (entry_row.shown e)) es

-- ---- what a query sees of an entry

-- what a hover result is written as
abbrev pub hover_data : Hover → VertexData
hover_data h = hover_vertex (compact_text (write hover_row.shape (hover_row.shown h)))

-- hover results are looked at by hovers alone
abbrev pub vertex_data : Request → Vertex → VertexData
vertex_data r (vertex.MetaData x) = other_vertex
vertex_data r (vertex.Project x) = other_vertex
vertex_data r (vertex.Document x) = document_vertex (uri_text x.uri)
vertex_data r (vertex.Range range tag) = range_vertex range
vertex_data r (vertex.ResultSet x) = other_vertex
vertex_data r (vertex.Moniker x) = other_vertex
vertex_data r (vertex.PackageInformation x) = other_vertex
vertex_data r (vertex.Event x) = other_vertex
vertex_data r vertex.DefinitionResult = other_vertex
vertex_data r vertex.DeclarationResult = other_vertex
vertex_data r vertex.TypeDefinitionResult = other_vertex
vertex_data r vertex.ReferenceResult = other_vertex
vertex_data r vertex.ImplementationResult = other_vertex
vertex_data r (vertex.FoldingRangeResult result) = other_vertex
vertex_data r (vertex.HoverResult result) = if is_hover r then hover_data result else other_vertex
vertex_data r (vertex.DocumentSymbolResult result) = other_vertex
vertex_data r (vertex.DocumentLinkResult result) = other_vertex
vertex_data r (vertex.DiagnosticResult result) = other_vertex

abbrev pub entry_ids : List NumberOrString → List IdData
entry_ids ids = map id_of ids

-- for a definition each item leads to places, and for references by its property
abbrev pub role_of : Bool → Option ItemKind → Role
role_of true property = roles.Place
role_of false None = roles.Neither
role_of false (Some item_kind.Declarations) = roles.Place
role_of false (Some item_kind.Definitions) = roles.Place
role_of false (Some item_kind.References) = roles.Place
role_of false (Some item_kind.ReferenceResults) = roles.Linked
role_of false (Some item_kind.ImplementationResults) = roles.Neither

abbrev pub item_data : Bool → Item → EntryData
item_data is_definition i = item_edge (id_of i.edge_data.out_v) (record { targets = entry_ids i.edge_data.in_vs.items; document = id_of i.document; role = role_of is_definition i.property })

-- an edge to a result, if its label is the one that is asked for
abbrev pub result_data : Bool → EdgeData → EntryData
result_data is_asked e = if is_asked then result_edge (id_of e.out_v) (id_of e.in_v) else unseen_edge

-- hovers look at no items
abbrev pub edge_data : Request → Edge → EntryData
edge_data r (edge.Contains x) = contains_edge (id_of x.out_v) (entry_ids x.in_vs.items)
edge_data r (edge.Moniker x) = unseen_edge
edge_data r (edge.NextMoniker x) = unseen_edge
edge_data r (edge.Next x) = next_edge (id_of x.out_v) (id_of x.in_v)
edge_data r (edge.PackageInformation x) = unseen_edge
edge_data r (edge.Item x) = if is_hover r then unseen_edge else item_data (is_definition r) x
edge_data r (edge.Definition x) = result_data (is_definition r) x
edge_data r (edge.Declaration x) = unseen_edge
edge_data r (edge.Hover x) = result_data (is_hover r) x
edge_data r (edge.References x) = result_data (is_references r) x
edge_data r (edge.Implementation x) = unseen_edge
edge_data r (edge.TypeDefinition x) = unseen_edge
edge_data r (edge.FoldingRange x) = unseen_edge
edge_data r (edge.DocumentLink x) = unseen_edge
edge_data r (edge.DocumentSymbol x) = unseen_edge
edge_data r (edge.Diagnostic x) = unseen_edge

abbrev pub element_data : Request → IdData → Element → EntryData
element_data r id (element.Vertex x) = vertex_entry id (vertex_data r x)
element_data r id (element.Edge x) = edge_data r x

abbrev pub entry_data : Request → Entry → EntryData
entry_data r e = element_data r (id_of e.id) e.payload
