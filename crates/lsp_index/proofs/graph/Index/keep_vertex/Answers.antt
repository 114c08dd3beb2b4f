-- The first vertex of its id.
use Rattle.std.proofs.Common.{◌≡◌}
use Rattle.lsp_base.specs.Position.{id_of}
use Rattle.lsp_index.specs.Entries.{vertex_data}
use Rattle.lsp_index.specs.Shown.{show_node}
use Rattle.lsp_index.proofs.ValueLemmas.{on_ok}
use Rattle.lsp_index.proofs.KeptLemmas.{first_kept_as}
use Rattle.lsp_index.proofs.graph.Index.keep_vertex.Goals as goal

pub returns-in-Ok : goal.returns-in-Ok
returns-in-Ok c =
    let same : show_node c.in-Ok.node ≡ vertex_data c.args.request c.args.vertex = rw c.in-Ok.is at c.node-seen.ensures in
    on_ok c.put_first.result (λ put g kept. record {
      vertices = first_kept_as show_node c.from.result c.in-Ok.node (id_of c.args.id) (vertex_data c.args.request c.args.vertex) c.from.ensures same c.args.self.now.vertices.entries c.put_first.new.table.entries g.vertices kept.vertices put;
      contained = kept.contained;
      nexts = kept.nexts;
      results = kept.results;
      items = kept.items;
    }) c.put_first.ensures
