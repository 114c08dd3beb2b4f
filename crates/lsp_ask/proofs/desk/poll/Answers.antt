-- The reply to a poll is one of three.
use Rattle.lsp_ask.proofs.ReplyLemmas.{polls}
use Rattle.lsp_ask.proofs.desk.poll.Goals as goal

pub answered_by-requires-clause-polled : goal.answered_by-requires-clause-polled
answered_by-requires-clause-polled g c = polls g.D.Caller.meaning c.args.client.now c.make_call.new.client g.A.Wire.shape c.args.ticket.number c.in-Ok.reply c.in-Ok.ensures.calls
