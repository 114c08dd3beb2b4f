-- The lowest editor stays.
use Rattle.std.proofs.Common.{sym, subst}
use Rattle.lsp_proxy.specs.declared.side.Presence.TheVariants.{Down}
use Rattle.lsp_proxy.specs.Proxy.{AreOf}
use Rattle.lsp_proxy.proofs.ProxyLemmas.{lowest-down, few_set}
use Rattle.lsp_proxy.proofs.proxy.Proxy.shut_down.Goals as goal

pub invariant_of-self-clause-of_lowest : goal.invariant_of-self-clause-of_lowest
invariant_of-self-clause-of_lowest c = subst (λ o. AreOf o c.args.self.now.requested) (sym (lowest-down c.args.k c.args.self.now.editors.items c.requires.here)) c.args.self.now.of_lowest

pub invariant_of-self-clause-few : goal.invariant_of-self-clause-few
invariant_of-self-clause-few c = few_set c.args.k Down c.args.self.now.editors.items 4294967296 c.args.self.now.few
