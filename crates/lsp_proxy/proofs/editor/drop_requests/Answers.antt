use Rattle.std.proofs.Common.{◌≡◌, Some, sym, ◌∙◌, subst}
use Rattle.lsp_proxy.specs.Proxy.{lowest, AreOf}
use Rattle.lsp_proxy.proofs.ProxyLemmas.{is_editor_some, not_editor, none_but, all_but}
use Rattle.lsp_proxy.proofs.editor.drop_requests.Goals as goal

pub returns-then-is_lowest : goal.returns-then-is_lowest
returns-then-is_lowest c =
    let is : lowest c.args.editors.now ≡ Some c.args.k = is_editor_some (lowest c.args.editors.now) c.args.k (sym c.is_lowest.ensures ∙ c.if-is_lowest.true) in
    c.clear.ensures ∙ sym (none_but c.args.k c.args.requested.now (subst (λ o. AreOf o c.args.requested.now) is c.requires.of_lowest))

pub returns : goal.returns
returns c =
    sym (all_but c.args.k (lowest c.args.editors.now) c.args.requested.now c.requires.of_lowest (not_editor (lowest c.args.editors.now) c.args.k (sym c.is_lowest.ensures ∙ c.if-is_lowest.false)))
