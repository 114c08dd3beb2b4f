-- The item goes after those of its result.
use Rattle.std.specs.HashMap.{get}
use Rattle.lsp_base.specs.Position.{id_of}
use Rattle.lsp_index.specs.Entries.{entry_ids, role_of}
use Rattle.lsp_index.specs.Kept.{same_key, listed_items}
use Rattle.lsp_index.proofs.ValueLemmas.{on_ok}
use Rattle.lsp_index.proofs.KeptLemmas.{item_kept_as}
use Rattle.lsp_index.proofs.graph.Index.keep_item.Goals as goal

pub returns : goal.returns
returns c = on_ok c.put_item.result (λ put g kept. record {
  vertices = kept.vertices;
  contained = kept.contained;
  nexts = kept.nexts;
  results = kept.results;
  items = item_kept_as g c.from-2.result _ (id_of c.args.item.edge_data.out_v) (record { targets = entry_ids c.args.item.edge_data.in_vs.items; document = id_of c.args.item.document; role = role_of c.args.is_definition c.args.item.property }) c.from-2.ensures
      (λ j. record { targets = entry_ids c.args.item.edge_data.in_vs.items; document = c.from.ensures j; role = c.role_of.ensures j })
      (λ k. listed_items (get same_key c.args.self.now.items k)) (λ k. listed_items (get same_key c.put_item.new.table k)) kept.items put;
}) c.put_item.ensures
