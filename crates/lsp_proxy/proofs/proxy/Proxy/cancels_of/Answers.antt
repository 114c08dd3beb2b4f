-- All of the server's requests are of the lowest editor; where none is left, no request waits.
use Rattle.std.proofs.Common.{rules, ◌≡◌, Some, None, ap, sym, ◌∙◌, subst}
use Rattle.lsp_rpc.specs.Shown.{show_id}
use Rattle.lsp_proxy.specs.Proxy.{lowest, AreOf}
use Rattle.lsp_proxy.proofs.ProxyLemmas.{cancel_of_lowest, none_requested}
use Rattle.lsp_proxy.proofs.proxy.Proxy.cancels_of.Goals as goal

pub returns-in-Some-clause-sent : goal.returns-in-Some-clause-sent
returns-in-Some-clause-sent c =
    let self = c.args.self.now in
    let some : lowest self.editors.items ≡ Some c.in-Some.k = ap lowest (sym c.deref.ensures.value) ∙ sym c.lowest_of.ensures ∙ c.in-Some.is in
    rw (cancel_of_lowest c.in-Some.k (show_id c.args.id) self.requested (subst (λ o. AreOf o self.requested) some self.of_lowest), ← c.place-place.ensures) c.cancels.ensures.sent

pub returns-in-None-clause-sent : goal.returns-in-None-clause-sent
returns-in-None-clause-sent c =
    let self = c.args.self.now in
    let none : lowest self.editors.items ≡ None = ap lowest (sym c.deref.ensures.value) ∙ sym c.lowest_of.ensures ∙ c.in-None.is in
    rw (none_requested self.requested (subst (λ o. AreOf o self.requested) none self.of_lowest)) (search rules)

pub returns-in-Some-clause-ready : goal.returns-in-Some-clause-ready
returns-in-Some-clause-ready c =
    let self = c.args.self.now in
    let some : lowest self.editors.items ≡ Some c.in-Some.k = ap lowest (sym c.deref.ensures.value) ∙ sym c.lowest_of.ensures ∙ c.in-Some.is in
    rw (cancel_of_lowest c.in-Some.k (show_id c.args.id) self.requested (subst (λ o. AreOf o self.requested) some self.of_lowest), ← c.place-place.ensures) c.cancels.ensures.ready
