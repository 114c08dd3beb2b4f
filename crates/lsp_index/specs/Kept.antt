-- For private clauses: what an index keeps of a graph.
use Rattle.std.specs.Prelude.{◌≡◌, Bool, List, [], ◌∷◌, ◌++◌, map, Option, Some, None, Vec}
use Rattle.std.specs.declared.alloc.Global.{Global}
use Rattle.std.specs.HashMap.{get}
use Rattle.lsp_rpc.specs.Ids.{same_id}
use Rattle.lsp_rpc.specs.Shown.{show_id}
use Rattle.lsp_rpc.specs.declared.id.Id.{Id}
use Rattle.lsp_index.specs.declared.graph.Index.{Index}
use Rattle.lsp_index.specs.declared.graph.Item.{Item}
use Rattle.lsp_index.specs.Graph.{Graph, EntryData, vertex_entry, contains_edge, next_edge, result_edge, item_edge, unseen_edge, with_first}
use Rattle.lsp_index.specs.Queries.{items_from}
use Rattle.lsp_index.specs.Shown.{show_vertex_of, show_outgoing, show_link, show_item_edge}

abbrev pub same_key : Id → Id → Bool
same_key a b = same_id (show_id a) (show_id b)

abbrev pub listed_items : Option (Vec Item Global) → List Item
listed_items None = []
listed_items (Some v) = v.items

pub record IsKept (g : Graph) (index : Index) : Type 0 where
  pub vertices : map show_vertex_of index.vertices.entries ≡ g.vertices
  pub contained : map show_outgoing index.contained.items ≡ g.contained
  pub nexts : map show_link index.nexts.entries ≡ g.nexts
  pub results : map show_link index.results.entries ≡ g.results
  pub items : (k : Id) → map show_item_edge (listed_items (get same_key index.items k)) ≡ items_from g (show_id k)

-- the graph with one more entry
abbrev pub with_entry : Graph → EntryData → Graph
with_entry g (vertex_entry id v) = record g { vertices = with_first g.vertices (id, v) }
with_entry g (contains_edge id targets) = record g { contained = g.contained ++ (id, targets) ∷ [] }
with_entry g (next_edge id target) = record g { nexts = with_first g.nexts (id, target) }
with_entry g (result_edge id target) = record g { results = with_first g.results (id, target) }
with_entry g (item_edge id i) = record g { items = g.items ++ (id, i) ∷ [] }
with_entry g unseen_edge = g
