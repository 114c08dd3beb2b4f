-- The reply is the number that was drawn.
use Rattle.lsp_ask.proofs.ReplyLemmas.{draws}
use Rattle.lsp_ask.proofs.desk.next_id.Goals as goal

pub unreachable-requires : goal.unreachable-requires
unreachable-requires g c = draws g.D.Caller.meaning c.args.client.now c.make_call.new.client c.in-Ok.reply c.in-Ok.ensures.calls c.in_default.not-Number
