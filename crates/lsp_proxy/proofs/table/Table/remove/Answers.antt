use Rattle.std.proofs.Common.{ap, ◌∙◌}
use Rattle.lsp_proxy.specs.Entries.{without_entry}
use Rattle.lsp_proxy.specs.Tables.{table_entries}
use Rattle.lsp_proxy.proofs.TableLemmas.{shown_without}
use Rattle.lsp_proxy.proofs.table.Table.remove.Goals as goal

pub returns : goal.returns
returns c = ap table_entries c.remove.ensures.rest ∙ shown_without c.args.n c.self.inside.keyed ∙ ap (without_entry c.args.n) c.self.view_is
