use Rattle.lsp_proxy.proofs.ProxyLemmas.{below_next}
use Rattle.lsp_proxy.proofs.proxy.Proxy.begin_initialize.Goals as goal

pub invariant_of-self-clause-asked_below : goal.invariant_of-self-clause-asked_below
invariant_of-self-clause-asked_below c = below_next c.args.self.now.next c.args.self.now.asked c.args.self.now.asked_below

pub invariant_of-self-clause-requested_below : goal.invariant_of-self-clause-requested_below
invariant_of-self-clause-requested_below c = below_next c.args.self.now.next c.args.self.now.requested c.args.self.now.requested_below
