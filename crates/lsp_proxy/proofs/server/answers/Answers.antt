-- An asker that is still here is sent something.
use Rattle.std.proofs.Common.{◌≡◌, true, not, ap, sym, ◌∙◌}
use Rattle.lsp_proxy.specs.Proxy.{is_gone, is_here_in}
use Rattle.lsp_proxy.specs.Tables.{show_asker}
use Rattle.lsp_proxy.proofs.ReadyLemmas.{one_is_left}
use Rattle.lsp_proxy.proofs.server.answers.Goals as goal

pub returns-in_err-clone-clause-ready : goal.returns-in_err-clone-clause-ready
returns-in_err-clone-clause-ready c = λ none.
    let here : is_here_in c.args.editors.now (show_asker c.asker-item.result) ≡ true = ap (λ p. not (is_gone p)) (sym c.presence_of.ensures) ∙ ap not (sym c.is_gone.ensures) ∙ ap not c.if-not-is_gone.true in
    absurd (one_is_left _ _ _ _ c.args.askers.now c.loop-asker.asker-index c.asker-item.result c.loop-asker-test.true c.asker-item.is here (c.loop-asker.invariant ∙ none))

pub returns-in_err-copy-clause-ready : goal.returns-in_err-copy-clause-ready
returns-in_err-copy-clause-ready c = λ none.
    let here : is_here_in c.args.editors.now (show_asker c.asker-item.result) ≡ true = ap (λ p. not (is_gone p)) (sym c.presence_of.ensures) ∙ ap not (sym c.is_gone.ensures) ∙ ap not c.if-not-is_gone.true in
    absurd (one_is_left _ _ _ _ c.args.askers.now c.loop-asker.asker-index c.asker-item.result c.loop-asker-test.true c.asker-item.is here (c.loop-asker.invariant ∙ none))

pub returns-in_err-push-clause-ready : goal.returns-in_err-push-clause-ready
returns-in_err-push-clause-ready c = λ none.
    let here : is_here_in c.args.editors.now (show_asker c.asker-item.result) ≡ true = ap (λ p. not (is_gone p)) (sym c.presence_of.ensures) ∙ ap not (sym c.is_gone.ensures) ∙ ap not c.if-not-is_gone.true in
    absurd (one_is_left _ _ _ _ c.args.askers.now c.loop-asker.asker-index c.asker-item.result c.loop-asker-test.true c.asker-item.is here (c.loop-asker.invariant ∙ none))
