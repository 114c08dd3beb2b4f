-- One message more was sent, or a call of it was made that didn't send it, or none.
use Rattle.lsp_shared.specs.Seats.{seat_view}
use Rattle.lsp_callers.proofs.SaidLemmas.{said_turned, unsent_turned, unsent_fault, on_fault}
use Rattle.lsp_callers.proofs.caller.say.Goals as goal

pub returns-in_err-reply-clause-unsent : goal.returns-in_err-reply-clause-unsent
returns-in_err-reply-clause-unsent g c =
    on_fault c.from_residual-in_err-reply.result
    (unsent_fault (seat_view c.args.client.now) (seat_view c.client.new.self) c.in_ok-call.call c.args.caller c.args.n c.in_err-reply.field-0.0
    c.args.client.now.rested.inside c.in_err-reply.ensures.turned c.in_ok-call.ensures)

pub returns-clause-said : goal.returns-clause-said
returns-clause-said g c =
    said_turned (seat_view c.args.client.now) (seat_view c.client.new.self) c.in_ok-call.call c.in_ok-reply.reply c.args.caller c.args.n c.if_sent.result
    c.args.client.now.rested.inside c.in_ok-reply.ensures.turned c.in_ok-call.ensures c.if_sent.ensures.sent

pub returns-clause-unsent : goal.returns-clause-unsent
returns-clause-unsent g c =
    unsent_turned (seat_view c.args.client.now) (seat_view c.client.new.self) c.in_ok-call.call c.in_ok-reply.reply c.args.caller c.args.n c.if_sent.result
    c.args.client.now.rested.inside c.in_ok-reply.ensures.turned c.in_ok-call.ensures c.if_sent.ensures.other
