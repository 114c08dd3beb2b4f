-- A dump as a graph (LSIF, in the form of lsp-types), as far as a query looks at it.
use Rattle.std.specs.Prelude.{ℕ, List, [], ◌∷◌, ◌++◌, Option, Some, None, is_some, fold, if◌then◌else◌}
use Rattle.std.specs.List.{filter_map}
use Rattle.std.specs.Map.{lookup}
use Rattle.lsp_rpc.specs.Message.{IdData}
use Rattle.lsp_rpc.specs.Ids.{same_id}
use Rattle.lsp_base.specs.declared.position.Range.{Range}
use Rattle.lsp_index.specs.declared.graph.Role.{Role}

-- ---- an entry

-- a vertex
pub data VertexData : Type 0 where
  -- by its URI
  document_vertex : List ℕ → VertexData
  range_vertex : Range → VertexData
  -- the text of what a hover answers
  hover_vertex : List ℕ → VertexData
  -- of a label that no query looks at
  other_vertex : VertexData

-- what an edge `item` leads to: its `inVs`, its `document`, and what they are to the result
pub record ItemEdge : Type 0 where
  pub targets : List IdData
  pub document : IdData
  pub role : Role

pub data EntryData : Type 0 where
  vertex_entry : IdData → VertexData → EntryData
  -- edges, from their `outV`
  contains_edge : IdData → List IdData → EntryData
  next_edge : IdData → IdData → EntryData
  -- of the label that the query asks for
  result_edge : IdData → IdData → EntryData
  item_edge : IdData → ItemEdge → EntryData
  -- an edge that the query never looks at
  unseen_edge : EntryData

-- ---- the entries of each kind, in the order of the dump

abbrev pub vertex_in : EntryData → Option (IdData × VertexData)
vertex_in (vertex_entry id v) = Some (id, v)
vertex_in (contains_edge id targets) = None
vertex_in (next_edge id target) = None
vertex_in (result_edge id target) = None
vertex_in (item_edge id i) = None
vertex_in unseen_edge = None

abbrev pub contained_in : EntryData → Option (IdData × List IdData)
contained_in (vertex_entry id v) = None
contained_in (contains_edge id targets) = Some (id, targets)
contained_in (next_edge id target) = None
contained_in (result_edge id target) = None
contained_in (item_edge id i) = None
contained_in unseen_edge = None

abbrev pub next_in : EntryData → Option (IdData × IdData)
next_in (vertex_entry id v) = None
next_in (contains_edge id targets) = None
next_in (next_edge id target) = Some (id, target)
next_in (result_edge id target) = None
next_in (item_edge id i) = None
next_in unseen_edge = None

abbrev pub result_in : EntryData → Option (IdData × IdData)
result_in (vertex_entry id v) = None
result_in (contains_edge id targets) = None
result_in (next_edge id target) = None
result_in (result_edge id target) = Some (id, target)
result_in (item_edge id i) = None
result_in unseen_edge = None

abbrev pub item_in : EntryData → Option (IdData × ItemEdge)
item_in (vertex_entry id v) = None
item_in (contains_edge id targets) = None
item_in (next_edge id target) = None
item_in (result_edge id target) = None
item_in (item_edge id i) = Some (id, i)
item_in unseen_edge = None

-- ---- the graph

-- what stands under an id
abbrev pub at_id : {X : Type 0} → List (IdData × X) → IdData → Option X
at_id es id = lookup (same_id id) es

-- the first of each id alone counts
abbrev pub with_first : {X : Type 0} → List (IdData × X) → IdData × X → List (IdData × X)
with_first es e = if is_some (at_id es e.0) then es else es ++ e ∷ []

abbrev pub firsts : {X : Type 0} → List (IdData × X) → List (IdData × X)
firsts es = fold with_first [] es

pub record Graph : Type 0 where
  -- the first vertex of each id
  pub vertices : List (IdData × VertexData)
  pub contained : List (IdData × List IdData)
  -- the first edge `next` from each vertex
  pub nexts : List (IdData × IdData)
  -- the first edge of the label that is asked for, from each vertex
  pub results : List (IdData × IdData)
  pub items : List (IdData × ItemEdge)

abbrev pub graph_of : List EntryData → Graph
graph_of es = record {
  vertices = firsts (filter_map vertex_in es);
  contained = filter_map contained_in es;
  nexts = firsts (filter_map next_in es);
  results = firsts (filter_map result_in es);
  items = filter_map item_in es;
}
