-- The new entry is below the next id.
use Rattle.std.proofs.Common.{◌+◌, sym, subst}
use Rattle.lsp_rpc.specs.Shown.{show_id}
use Rattle.lsp_proxy.specs.Entries.{AreBelow}
use Rattle.lsp_proxy.proofs.ProxyLemmas.{below_next, below_pushed}
use Rattle.lsp_proxy.proofs.proxy.Proxy.pass_request.Goals as goal

pub invariant_of-self-2-clause-asked_below : goal.invariant_of-self-2-clause-asked_below
invariant_of-self-2-clause-asked_below c =
    let self = c.args.self.now in
    subst (AreBelow (self.next + 1)) (sym c.in_ok-push.ensures.ok) (below_pushed self.next (record { editor = c.args.k; id = show_id c.args.id }) self.asked self.asked_below)

pub invariant_of-self-2-clause-requested_below : goal.invariant_of-self-2-clause-requested_below
invariant_of-self-2-clause-requested_below c = below_next c.args.self.now.next c.args.self.now.requested c.args.self.now.requested_below
