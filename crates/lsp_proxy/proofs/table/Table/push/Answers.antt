use Rattle.std.proofs.Common.{sym, subst}
use Rattle.lsp_proxy.specs.Entries.{AreBelow}
use Rattle.lsp_proxy.proofs.TableLemmas.{shown_above}
use Rattle.lsp_proxy.proofs.table.Table.push.Goals as goal

pub push-requires-clause-above : goal.push-requires-clause-above
push-requires-clause-above c = shown_above c.args.n c.self.inside.keyed (subst (AreBelow c.args.n) (sym c.self.view_is) c.requires)
