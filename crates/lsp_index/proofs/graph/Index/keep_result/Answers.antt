-- The label is asked for.
use Rattle.lsp_base.specs.Position.{id_of}
use Rattle.lsp_rpc.specs.Shown.{show_id}
use Rattle.lsp_index.proofs.ValueLemmas.{on_ok}
use Rattle.lsp_index.proofs.KeptLemmas.{first_kept_as}
use Rattle.lsp_index.proofs.graph.Index.keep_result.Goals as goal

pub returns-then-is_asked-clause-kept : goal.returns-then-is_asked-clause-kept
returns-then-is_asked-clause-kept c = rw c.if-is_asked.true (on_ok c.put_first.result (λ put g kept. record {
  vertices = kept.vertices;
  contained = kept.contained;
  nexts = kept.nexts;
  results = first_kept_as show_id c.from.result c.from-then-is_asked.result (id_of c.args.edge.out_v) (id_of c.args.edge.in_v) c.from.ensures c.from-then-is_asked.ensures c.args.self.now.results.entries c.put_first.new.table.entries g.results kept.results put;
  items = kept.items;
}) c.put_first.ensures)
