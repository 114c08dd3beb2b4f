-- A vertex, and an edge.
use Rattle.std.proofs.Common.{sym, subst}
use Rattle.std.specs.Prelude.{OnOk}
use Rattle.lsp_base.specs.Position.{id_of}
use Rattle.lsp_index.specs.Graph.{Graph}
use Rattle.lsp_index.specs.Kept.{IsKept, with_entry}
use Rattle.lsp_index.specs.Entries.{element_data}
use Rattle.lsp_index.proofs.graph.Index.keep.Goals as goal

pub returns-in-Vertex : goal.returns-in-Vertex
returns-in-Vertex c =
    subst (λ p. OnOk c.keep_vertex.result ((g : Graph) → IsKept g c.args.self.now → IsKept (with_entry g (element_data c.args.request (id_of c.args.entry.id) p)) c.keep_vertex.new.self)) (sym c.in-Vertex.is) c.keep_vertex.ensures

pub returns-in-Edge : goal.returns-in-Edge
returns-in-Edge c =
    subst (λ p. OnOk c.keep_edge.result ((g : Graph) → IsKept g c.args.self.now → IsKept (with_entry g (element_data c.args.request (id_of c.args.entry.id) p)) c.keep_edge.new.self)) (sym c.in-Edge.is) c.keep_edge.ensures.kept
