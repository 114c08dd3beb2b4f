-- A message that finds no memory is left, with those after it.
use Rattle.std.proofs.Common.{sym, ◌∙◌, ap, subst, map, ◌++◌}
use Rattle.lsp_rpc.specs.Message.{request}
use Rattle.lsp_rpc.specs.Shown.{show_message, show_request}
use Rattle.lsp_session.specs.Session.{Extends}
use Rattle.lsp_session.specs.Taken.{messages_from}
use Rattle.lsp_session.proofs.RunningLemmas.{on_any_err}
use Rattle.lsp_session.proofs.CutLemmas.{some_left}
use Rattle.lsp_session.proofs.DeskLemmas.{no_messages}
use Rattle.lsp_session.proofs.outgoing.Outgoing.append.Goals as goal

pub unreachable-requires : goal.unreachable-requires
unreachable-requires c = no_messages c.args.reply _ c.requires.messages c.in_default.not-Messages

pub returns-in_err-push-clause-part : goal.returns-in_err-push-clause-part
returns-in_err-push-clause-part c =
    let old = map show_message c.args.self.now.messages.items in
    let left = map request (map show_request c.loop-request.rest.items) in
    let same = ap (map show_message) c.in_err-push.ensures.err in
    on_any_err c.from_residual.result
    (some_left old (map request (messages_from c.args.reply)) (map show_message c.push.new.self.messages.items) left (ap (λ l. l ++ left) same ∙ c.loop-request.invariant.total) (subst (Extends old) (sym same) c.loop-request.invariant.put))
