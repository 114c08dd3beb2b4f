-- What is left of the server's requests is of the lowest editor that is left.
use Rattle.std.proofs.Common.{sym, subst, not}
use Rattle.lsp_proxy.specs.declared.side.Presence.TheVariants.{Gone}
use Rattle.std.specs.Prelude.{slice_set}
use Rattle.lsp_proxy.specs.Entries.{AreBelow}
use Rattle.lsp_proxy.specs.Proxy.{lowest, is_asked_by, AreOf}
use Rattle.lsp_proxy.proofs.ProxyLemmas.{below-filter, of_left, few_set}
use Rattle.lsp_proxy.proofs.proxy.Proxy.mark_gone.Goals as goal

pub invariant_of-self-clause-requested_below : goal.invariant_of-self-clause-requested_below
invariant_of-self-clause-requested_below c =
    subst (AreBelow c.args.self.now.next) (sym c.drop_requests.ensures) (below-filter c.args.self.now.next (λ e. not (is_asked_by c.args.k e)) c.args.self.now.requested c.args.self.now.requested_below)

pub invariant_of-self-clause-of_lowest : goal.invariant_of-self-clause-of_lowest
invariant_of-self-clause-of_lowest c =
    subst (AreOf (lowest (slice_set c.args.self.now.editors.items c.args.k Gone))) (sym c.drop_requests.ensures) (of_left c.args.k c.args.self.now.editors.items c.args.self.now.requested c.args.self.now.of_lowest)

pub invariant_of-self-clause-few : goal.invariant_of-self-clause-few
invariant_of-self-clause-few c = few_set c.args.k Gone c.args.self.now.editors.items 4294967296 c.args.self.now.few
