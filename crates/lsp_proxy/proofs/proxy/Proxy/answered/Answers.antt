use Rattle.std.proofs.Common.{sym, subst}
use Rattle.lsp_proxy.specs.Entries.{AreBelow}
use Rattle.lsp_proxy.proofs.ProxyLemmas.{below-without}
use Rattle.lsp_proxy.proofs.proxy.Proxy.answered.Goals as goal

pub invariant_of-self-2-clause-asked_below : goal.invariant_of-self-2-clause-asked_below
invariant_of-self-2-clause-asked_below c = subst (AreBelow c.args.self.now.next) (sym c.remove.ensures) (below-without c.args.self.now.next c.args.n c.args.self.now.asked c.args.self.now.asked_below)
