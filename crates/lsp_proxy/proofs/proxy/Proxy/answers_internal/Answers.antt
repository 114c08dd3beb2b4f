-- The server's requests are all of the lowest editor.
use Rattle.std.proofs.Common.{rules, ◌≡◌, Some, ap, sym, ◌∙◌, subst}
use Rattle.lsp_proxy.specs.Proxy.{lowest, is_editor, AreOf}
use Rattle.lsp_proxy.proofs.ProxyLemmas.{is_editor_some, not_editor, all_of, none_of}
use Rattle.lsp_proxy.proofs.proxy.Proxy.answers_internal.Goals as goal

pub returns-then-is_lowest-clause-sent : goal.returns-then-is_lowest-clause-sent
returns-then-is_lowest-clause-sent c =
    let self = c.args.self.now in
    let is : lowest self.editors.items ≡ Some c.args.k = is_editor_some (lowest self.editors.items) c.args.k (ap (λ ps. is_editor (lowest ps) c.args.k) (sym c.deref.ensures.value) ∙ sym c.is_lowest.ensures ∙ c.if-is_lowest.true) in
    rw (all_of c.args.k self.requested (subst (λ o. AreOf o self.requested) is self.of_lowest)) c.answers.ensures.sent

pub returns-else-is_lowest-clause-sent : goal.returns-else-is_lowest-clause-sent
returns-else-is_lowest-clause-sent c =
    let self = c.args.self.now in
    rw (none_of c.args.k (lowest self.editors.items) self.requested self.of_lowest (not_editor (lowest self.editors.items) c.args.k (ap (λ ps. is_editor (lowest ps) c.args.k) (sym c.deref.ensures.value) ∙ sym c.is_lowest.ensures ∙ c.if-is_lowest.false))) (search rules)

pub returns-then-is_lowest-clause-ready : goal.returns-then-is_lowest-clause-ready
returns-then-is_lowest-clause-ready c =
    let self = c.args.self.now in
    let is : lowest self.editors.items ≡ Some c.args.k = is_editor_some (lowest self.editors.items) c.args.k (ap (λ ps. is_editor (lowest ps) c.args.k) (sym c.deref.ensures.value) ∙ sym c.is_lowest.ensures ∙ c.if-is_lowest.true) in
    rw (all_of c.args.k self.requested (subst (λ o. AreOf o self.requested) is self.of_lowest)) c.answers.ensures.ready
