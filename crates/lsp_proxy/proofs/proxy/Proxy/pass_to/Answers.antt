-- The new entry is below the next id, and of the lowest editor.
use Rattle.std.proofs.Common.{◌+◌, ◌++◌, ◌∷◌, [], sym, subst}
use Rattle.lsp_rpc.specs.Shown.{show_id}
use Rattle.lsp_proxy.specs.Entries.{AreBelow}
use Rattle.lsp_proxy.specs.Proxy.{lowest, AreOf}
use Rattle.lsp_proxy.proofs.ProxyLemmas.{below_next, below_pushed, of-pushed}
use Rattle.lsp_proxy.proofs.proxy.Proxy.pass_to.Goals as goal

pub invariant_of-self-2-clause-asked_below : goal.invariant_of-self-2-clause-asked_below
invariant_of-self-2-clause-asked_below c = below_next c.args.self.now.next c.args.self.now.asked c.args.self.now.asked_below

pub invariant_of-self-2-clause-requested_below : goal.invariant_of-self-2-clause-requested_below
invariant_of-self-2-clause-requested_below c =
    let self = c.args.self.now in
    subst (AreBelow (self.next + 1)) (sym c.in_ok-push.ensures.ok) (below_pushed self.next (record { editor = c.args.k; id = show_id c.args.id }) self.requested self.requested_below)

pub invariant_of-self-2-clause-of_lowest : goal.invariant_of-self-2-clause-of_lowest
invariant_of-self-2-clause-of_lowest c =
    let self = c.args.self.now in
    subst (AreOf (lowest self.editors.items)) (sym c.in_ok-push.ensures.ok) (subst (λ o. AreOf o (self.requested ++ record { n = self.next; asker = record { editor = c.args.k; id = show_id c.args.id } } ∷ [])) (sym c.requires.lowest) (of-pushed c.args.k self.next (show_id c.args.id) self.requested (subst (λ o. AreOf o self.requested) c.requires.lowest self.of_lowest)))
