-- What the parts of an index are, as plain data.
use Rattle.std.specs.Prelude.{List, map, string_bytes}
use Rattle.std.specs.Borrow.{Bor}
use Rattle.lsp_rpc.specs.Message.{IdData}
use Rattle.lsp_rpc.specs.Shown.{show_id}
use Rattle.lsp_rpc.specs.declared.id.Id.{Id}
use Rattle.lsp_uri.specs.Uri.{uri_text}
use Rattle.lsp_base.specs.declared.position.Location.{Location}
use Rattle.lsp_base.specs.declared.position.Range.{Range}
use Rattle.lsp_index.specs.declared.graph.Node.{Node}
use Rattle.lsp_index.specs.declared.graph.Node.TheVariants as nodes
use Rattle.lsp_index.specs.declared.graph.Item.{Item}
use Rattle.lsp_index.specs.declared.graph.Outgoing.{Outgoing}
use Rattle.lsp_index.specs.declared.query.Query.{Query}
use Rattle.lsp_index.specs.Entries.{entry_ids}
use Rattle.lsp_index.specs.Graph.{VertexData, document_vertex, range_vertex, hover_vertex, other_vertex, ItemEdge}
use Rattle.lsp_index.specs.Queries.{LocationData, QueryData}

abbrev pub show_ids : List Id → List IdData
show_ids ids = map show_id ids

abbrev pub show_node : Node → VertexData
show_node (nodes.Document uri) = document_vertex (uri_text uri)
show_node (nodes.Range range) = range_vertex range
show_node (nodes.Hover text) = hover_vertex (string_bytes text)
show_node nodes.Other = other_vertex

abbrev pub show_item_edge : Item → ItemEdge
show_item_edge i = record { targets = entry_ids i.targets.items; document = show_id i.document; role = i.role }

-- ---- entries of tables

abbrev pub show_vertex_of : Id × Node → IdData × VertexData
show_vertex_of e = (show_id e.0, show_node e.1)

abbrev pub show_outgoing : Outgoing → IdData × List IdData
show_outgoing e = (show_id e.from, entry_ids e.targets.items)

abbrev pub show_link : Id × Id → IdData × IdData
show_link e = (show_id e.0, show_id e.1)

-- ---- what is asked

abbrev pub show_query : Query → QueryData
show_query q = record { request = q.request; uri = uri_text q.uri; position = q.position }

-- a range with its id
abbrev pub show_named : Bor Id × Range → IdData × Range
show_named e = (show_id e.0.now, e.1)

abbrev pub show_location : Location → LocationData
show_location l = record { uri = uri_text l.uri; range = l.range }
