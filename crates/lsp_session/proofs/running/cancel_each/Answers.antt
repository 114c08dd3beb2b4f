-- An answer that finds no memory is left, with those after it.
use Rattle.std.proofs.Common.{sym, ◌∙◌, ap, subst, map, ◌++◌}
use Rattle.lsp_rpc.specs.Shown.{show_id, show_message}
use Rattle.lsp_session.specs.Run.{cancelled}
use Rattle.lsp_session.specs.Session.{Extends}
use Rattle.lsp_session.proofs.RunningLemmas.{on_any_err}
use Rattle.lsp_session.proofs.CutLemmas.{some_left}
use Rattle.lsp_session.proofs.running.cancel_each.Goals as goal

pub returns-in_err-error-clause-part : goal.returns-in_err-error-clause-part
returns-in_err-error-clause-part c =
    on_any_err c.from_residual.result
    (some_left (map show_message c.args.out.now.messages.items) (map cancelled (map show_id c.args.ids.items)) (map show_message c.loop-id.out.messages.items) (map cancelled (map show_id c.loop-id.rest.items)) c.loop-id.invariant.total c.loop-id.invariant.put)

pub returns-in_err-answer-clause-part : goal.returns-in_err-answer-clause-part
returns-in_err-answer-clause-part c =
    let old = map show_message c.args.out.now.messages.items in
    let left = map cancelled (map show_id c.loop-id.rest.items) in
    let same = c.in_err-answer.ensures.err in
    on_any_err c.from_residual-in_err-answer.result
    (some_left old (map cancelled (map show_id c.args.ids.items)) (map show_message c.answer.new.self.messages.items) left (ap (λ l. l ++ left) same ∙ c.loop-id.invariant.total) (subst (Extends old) (sym same) c.loop-id.invariant.put))
