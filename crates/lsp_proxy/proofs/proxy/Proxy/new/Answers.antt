-- Nothing waits at first, and all editors are here.
use Rattle.std.proofs.Common.{sym, refl, subst}
use Rattle.lsp_proxy.specs.Entries.{AreBelow}
use Rattle.lsp_proxy.specs.Proxy.{lowest, AreOf}
use Rattle.lsp_proxy.proofs.proxy.Proxy.new.Goals as goal

pub invariant_of-result-clause-asked_below : goal.invariant_of-result-clause-asked_below
invariant_of-result-clause-asked_below c = subst (AreBelow 0) (sym c.new-asked.ensures) refl

pub invariant_of-result-clause-requested_below : goal.invariant_of-result-clause-requested_below
invariant_of-result-clause-requested_below c = subst (AreBelow 0) (sym c.new-requested.ensures) refl

pub invariant_of-result-clause-of_lowest : goal.invariant_of-result-clause-of_lowest
invariant_of-result-clause-of_lowest c = subst (AreOf (lowest c.in_ok-editors.editors.items)) (sym c.new-requested.ensures) refl
