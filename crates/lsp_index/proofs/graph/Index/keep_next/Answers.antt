-- The first edge `next` of its vertex.
use Rattle.lsp_base.specs.Position.{id_of}
use Rattle.lsp_rpc.specs.Shown.{show_id}
use Rattle.lsp_index.proofs.ValueLemmas.{on_ok}
use Rattle.lsp_index.proofs.KeptLemmas.{first_kept_as}
use Rattle.lsp_index.proofs.graph.Index.keep_next.Goals as goal

pub returns : goal.returns
returns c = on_ok c.put_first.result (λ put g kept. record {
  vertices = kept.vertices;
  contained = kept.contained;
  nexts = first_kept_as show_id c.from.result c.from-2.result (id_of c.args.edge.out_v) (id_of c.args.edge.in_v) c.from.ensures c.from-2.ensures c.args.self.now.nexts.entries c.put_first.new.table.entries g.nexts kept.nexts put;
  results = kept.results;
  items = kept.items;
}) c.put_first.ensures
