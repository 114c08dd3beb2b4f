-- What a query sees of an entry is told by the plain data of the entry.
use Rattle.std.proofs.Common.{◌≡◌, ◌==◌, ℕ, List, [], ◌∷◌, Bool, true, false, cond, map, refl, sym, ◌∙◌, ap}
use Rattle.std.specs.Prelude.{ℤ, pos, negsuc, Option, Some, None, bytes_eq, codes}
use Rattle.serde_json.specs.Data.{Num, unsigned, negative, float, Data, null, number, string}
use Rattle.serde_json.specs.Find.{of_integer}
use Rattle.serde_json.specs.Written.{compact_text}
use Rattle.lsp_shape.specs.Plain.{Plain, leaf, absent, present, parts, choice, Parts, no_parts, part, parts_of}
use Rattle.lsp_shape.specs.Shown.{show_option}
use Rattle.lsp_shape.specs.Write.{write}
use Rattle.lsp_rpc.specs.Message.{IdData, number_id, text_id}
use Rattle.lsp_base.specs.Position.{id_of, number_or_string_row, position_row, range_row}
use Rattle.lsp_base.specs.declared.position.NumberOrString.{NumberOrString}
use Rattle.lsp_base.specs.declared.position.NumberOrString.TheVariants as number_or_string
use Rattle.lsp_base.specs.declared.position.Position.{Position}
use Rattle.lsp_base.specs.declared.position.Range.{Range}
use Rattle.lsp_lang_goto.specs.Hover.{hover_row}
use Rattle.lsp_lsif.specs.Edge.{edge_data_multi_in_row, edge_data_row, item_kind_row, item_row, edge_row}
use Rattle.lsp_lsif.specs.Vertex.{document_row, vertex_row}
use Rattle.lsp_lsif.specs.Entry.{element_row, entry_row}
use Rattle.lsp_lsif.specs.declared.edge.Edge.{Edge}
use Rattle.lsp_lsif.specs.declared.edge.Edge.TheVariants as edge
use Rattle.lsp_lsif.specs.declared.edge.EdgeData.{EdgeData}
use Rattle.lsp_lsif.specs.declared.edge.Item.{Item}
use Rattle.lsp_lsif.specs.declared.edge.ItemKind.{ItemKind}
use Rattle.lsp_lsif.specs.declared.edge.ItemKind.TheVariants as item_kind
use Rattle.lsp_lsif.specs.declared.entry.Element.{Element}
use Rattle.lsp_lsif.specs.declared.entry.Element.TheVariants as element
use Rattle.lsp_lsif.specs.declared.entry.Entry.{Entry}
use Rattle.lsp_lsif.specs.declared.vertex.Vertex.{Vertex}
use Rattle.lsp_lsif.specs.declared.vertex.Vertex.TheVariants as vertex
use Rattle.lsp_index.specs.declared.graph.Role.{Role}
use Rattle.lsp_index.specs.declared.graph.Role.TheVariants as roles
use Rattle.lsp_index.specs.declared.query.Request.{Request}
use Rattle.lsp_index.specs.Queries.{is_definition, is_references, is_hover}
use Rattle.lsp_index.specs.Graph.{VertexData, document_vertex, range_vertex, hover_vertex, other_vertex, EntryData, vertex_entry, contains_edge, next_edge, result_edge, item_edge, unseen_edge}
use Rattle.lsp_index.specs.Entries.{vertex_data, role_of, item_data, result_data, edge_data, element_data, entry_data}

-- ---- the parts of plain data

abbrev list_in : Parts → List Plain
list_in no_parts = []
list_in (part p ps) = p ∷ list_in ps

abbrev parts_in : Plain → List Plain
parts_in (parts ps) = list_in ps
parts_in _ = []

abbrev first_in : List Plain → Plain
first_in [] = absent
first_in (p ∷ ps) = p

abbrev rest_in : List Plain → List Plain
rest_in [] = []
rest_in (p ∷ ps) = ps

abbrev first : Plain → Plain
first p = first_in (parts_in p)

abbrev second : Plain → Plain
second p = first_in (rest_in (parts_in p))

abbrev third : Plain → Plain
third p = first_in (rest_in (rest_in (parts_in p)))

abbrev variant_in : Plain → ℕ
variant_in (choice n p) = n
variant_in _ = 0

abbrev inside : Plain → Plain
inside (choice n p) = p
inside (present p) = p
inside _ = absent

abbrev data_in : Plain → Data
data_in (leaf d) = d
data_in _ = null

abbrev natural_of : Num → ℕ
natural_of (unsigned n) = n
natural_of _ = 0

abbrev integer_of : Num → ℤ
integer_of (unsigned n) = pos n
integer_of (negative z) = z
integer_of (float x) = pos 0

abbrev number_in : Data → Num
number_in (number n) = n
number_in _ = unsigned 0

abbrev text_in : Data → List ℕ
text_in (string s) = s
text_in _ = []

-- ---- ids and ranges

integer_back : (z : ℤ) → integer_of (of_integer z) ≡ z
integer_back (pos n) = refl
integer_back (negsuc n) = refl

abbrev id_in : Plain → IdData
id_in p = cond (variant_in p == 0) (number_id (integer_of (number_in (data_in (inside p))))) (text_id (text_in (data_in (inside p))))

id_is : (x : NumberOrString) → id_in (number_or_string_row.shown x) ≡ id_of x
unfolding number_or_string_row
id_is (number_or_string.Number z) = ap number_id (integer_back z)
id_is (number_or_string.String s) = refl

abbrev ids_in : List Plain → List IdData
ids_in [] = []
ids_in (p ∷ ps) = id_in p ∷ ids_in ps

ids_are : (xs : List NumberOrString) → ids_in (list_in (parts_of (map number_or_string_row.shown xs))) ≡ map id_of xs
ids_are [] = refl
ids_are (x ∷ xs) = ap (λ i. i ∷ ids_in (list_in (parts_of (map number_or_string_row.shown xs)))) (id_is x) ∙ ap (λ is. id_of x ∷ is) (ids_are xs)

abbrev position_in : Plain → Position
position_in p = record { line = natural_of (number_in (data_in (first p))); character = natural_of (number_in (data_in (second p))) }

abbrev range_of : Plain → Range
range_of p = record { start = position_in (first p); end = position_in (second p) }

range_is : (r : Range) → range_of (range_row.shown r) ≡ r
unfolding range_row position_row
range_is r = refl

-- ---- a vertex

abbrev vertex_told : Request → Plain → VertexData
vertex_told r p =
    cond (variant_in p == 2) (document_vertex (text_in (data_in (first (inside p)))))
    (cond (variant_in p == 3) (range_vertex (range_of (first (inside p))))
    (cond (variant_in p == 14) (cond (is_hover r) (hover_vertex (compact_text (write hover_row.shape (first (inside p))))) other_vertex) other_vertex))

vertex_is : (r : Request) (v : Vertex) → vertex_told r (vertex_row.shown v) ≡ vertex_data r v
unfolding vertex_row document_row
vertex_is r (vertex.MetaData x) = refl
vertex_is r (vertex.Project x) = refl
vertex_is r (vertex.Document x) = refl
vertex_is r (vertex.Range range tag) = ap range_vertex (range_is range)
vertex_is r (vertex.ResultSet x) = refl
vertex_is r (vertex.Moniker x) = refl
vertex_is r (vertex.PackageInformation x) = refl
vertex_is r (vertex.Event x) = refl
vertex_is r vertex.DefinitionResult = refl
vertex_is r vertex.DeclarationResult = refl
vertex_is r vertex.TypeDefinitionResult = refl
vertex_is r vertex.ReferenceResult = refl
vertex_is r vertex.ImplementationResult = refl
vertex_is r (vertex.FoldingRangeResult result) = refl
vertex_is r (vertex.HoverResult result) = refl
vertex_is r (vertex.DocumentSymbolResult result) = refl
vertex_is r (vertex.DocumentLinkResult result) = refl
vertex_is r (vertex.DiagnosticResult result) = refl

-- ---- an edge

abbrev role_named : List ℕ → Role
role_named name =
    cond (bytes_eq name (codes "declarations")) roles.Place (cond (bytes_eq name (codes "definitions")) roles.Place
    (cond (bytes_eq name (codes "references")) roles.Place (cond (bytes_eq name (codes "referenceResults")) roles.Linked roles.Neither)))

abbrev role_in : Plain → Role
role_in (present p) = role_named (text_in (data_in p))
role_in _ = roles.Neither

abbrev role_told : Bool → Plain → Role
role_told is_definition p = cond is_definition roles.Place (role_in p)

role_is : (b : Bool) (k : Option ItemKind) → role_told b (show_option item_kind_row.shown k) ≡ role_of b k
unfolding item_kind_row
role_is true k = refl
role_is false None = refl
role_is false (Some item_kind.Declarations) = refl
role_is false (Some item_kind.Definitions) = refl
role_is false (Some item_kind.References) = refl
role_is false (Some item_kind.ReferenceResults) = refl
role_is false (Some item_kind.ImplementationResults) = refl

abbrev item_told : Bool → Plain → EntryData
item_told b p = item_edge (id_in (second (third p))) (record { targets = ids_in (parts_in (first (third p))); document = id_in (first p); role = role_told b (second p) })

item_is : (b : Bool) (i : Item) → item_told b (item_row.shown i) ≡ item_data b i
unfolding item_row edge_data_multi_in_row
item_is b i =
    let targets = ids_are i.edge_data.in_vs.items in
    rw (id_is i.edge_data.out_v, id_is i.document, role_is b i.property, targets) refl

abbrev result_told : Bool → Plain → EntryData
result_told asked p = cond asked (result_edge (id_in (second p)) (id_in (first p))) unseen_edge

result_is : (asked : Bool) (e : EdgeData) → result_told asked (edge_data_row.shown e) ≡ result_data asked e
unfolding edge_data_row
result_is true e = ap (λ i. result_edge i (id_in (number_or_string_row.shown e.in_v))) (id_is e.out_v) ∙ ap (result_edge (id_of e.out_v)) (id_is e.in_v)
result_is false e = refl

abbrev edge_told : Request → Plain → EntryData
edge_told r p =
    cond (variant_in p == 0) (contains_edge (id_in (second (inside p))) (ids_in (parts_in (first (inside p)))))
    (cond (variant_in p == 3) (next_edge (id_in (second (inside p))) (id_in (first (inside p))))
    (cond (variant_in p == 5) (cond (is_hover r) unseen_edge (item_told (is_definition r) (inside p)))
    (cond (variant_in p == 6) (result_told (is_definition r) (inside p))
    (cond (variant_in p == 8) (result_told (is_hover r) (inside p))
    (cond (variant_in p == 9) (result_told (is_references r) (inside p)) unseen_edge)))))

edge_is : (r : Request) (e : Edge) → edge_told r (edge_row.shown e) ≡ edge_data r e
unfolding edge_row edge_data_row edge_data_multi_in_row
edge_is r (edge.Contains x) = ap (λ i. contains_edge i (ids_in (list_in (parts_of (map number_or_string_row.shown x.in_vs.items))))) (id_is x.out_v) ∙ ap (contains_edge (id_of x.out_v)) (ids_are x.in_vs.items)
edge_is r (edge.Moniker x) = refl
edge_is r (edge.NextMoniker x) = refl
edge_is r (edge.Next x) = ap (λ i. next_edge i (id_in (number_or_string_row.shown x.in_v))) (id_is x.out_v) ∙ ap (next_edge (id_of x.out_v)) (id_is x.in_v)
edge_is r (edge.PackageInformation x) = refl
edge_is r (edge.Item x) = ap (cond (is_hover r) unseen_edge) (item_is (is_definition r) x)
edge_is r (edge.Definition x) = result_is (is_definition r) x
edge_is r (edge.Declaration x) = refl
edge_is r (edge.Hover x) = result_is (is_hover r) x
edge_is r (edge.References x) = result_is (is_references r) x
edge_is r (edge.Implementation x) = refl
edge_is r (edge.TypeDefinition x) = refl
edge_is r (edge.FoldingRange x) = refl
edge_is r (edge.DocumentLink x) = refl
edge_is r (edge.DocumentSymbol x) = refl
edge_is r (edge.Diagnostic x) = refl

-- ---- an entry

abbrev element_told : Request → IdData → Plain → EntryData
element_told r id p = cond (variant_in p == 0) (vertex_entry id (vertex_told r (inside p))) (edge_told r (inside p))

element_is : (r : Request) (id : IdData) (e : Element) → element_told r id (element_row.shown e) ≡ element_data r id e
unfolding element_row
element_is r id (element.Vertex x) = ap (vertex_entry id) (vertex_is r x)
element_is r id (element.Edge x) = edge_is r x

abbrev entry_told : Request → Plain → EntryData
entry_told r p = element_told r (id_in (first p)) (second p)

entry_is : (r : Request) (e : Entry) → entry_told r (entry_row.shown e) ≡ entry_data r e
unfolding entry_row
entry_is r e = element_is r (id_in (number_or_string_row.shown e.id)) e.payload ∙ ap (λ i. element_data r i e.payload) (id_is e.id)

-- so entries with the same plain data are seen alike
same_entry : (r : Request) (d e : Entry) → entry_row.shown d ≡ entry_row.shown e → entry_data r d ≡ entry_data r e
same_entry r d e same = sym (entry_is r d) ∙ ap (entry_told r) same ∙ entry_is r e

pub same_entries : (r : Request) (ds es : List Entry) → map (λ e. Some (entry_row.shown e)) ds ≡ map (λ e. Some (entry_row.shown e)) es → map (entry_data r) ds ≡ map (entry_data r) es
same_entries r [] [] same = refl
same_entries r [] (e ∷ es) same = absurd (cc)
same_entries r (d ∷ ds) [] same = absurd (cc)
same_entries r (d ∷ ds) (e ∷ es) same =
    let head : entry_row.shown d ≡ entry_row.shown e = cc in
    let tail : map (λ e. Some (entry_row.shown e)) ds ≡ map (λ e. Some (entry_row.shown e)) es = cc in
    ap (λ x. x ∷ map (entry_data r) ds) (same_entry r d e head) ∙ ap (λ xs. entry_data r e ∷ xs) (same_entries r ds es tail)
