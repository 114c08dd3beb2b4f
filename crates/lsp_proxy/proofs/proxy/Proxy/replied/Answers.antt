use Rattle.std.proofs.Common.{sym, subst}
use Rattle.lsp_proxy.specs.Entries.{AreBelow}
use Rattle.lsp_proxy.specs.Proxy.{lowest, AreOf}
use Rattle.lsp_proxy.proofs.ProxyLemmas.{below-without, of-without}
use Rattle.lsp_proxy.proofs.proxy.Proxy.replied.Goals as goal

pub invariant_of-self-clause-requested_below : goal.invariant_of-self-clause-requested_below
invariant_of-self-clause-requested_below c = subst (AreBelow c.args.self.now.next) (sym c.remove.ensures) (below-without c.args.self.now.next c.in-Some.n c.args.self.now.requested c.args.self.now.requested_below)

pub invariant_of-self-clause-of_lowest : goal.invariant_of-self-clause-of_lowest
invariant_of-self-clause-of_lowest c = subst (AreOf (lowest c.args.self.now.editors.items)) (sym c.remove.ensures) (of-without (lowest c.args.self.now.editors.items) c.in-Some.n c.args.self.now.requested c.args.self.now.of_lowest)
