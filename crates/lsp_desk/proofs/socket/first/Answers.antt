-- The reply to a `Next` is the first message, if there is one.
use Rattle.lsp_desk.specs.Call.{Next}
use Rattle.lsp_desk.specs.Shown.{show_server_reply}
use Rattle.lsp_desk.proofs.SocketLemmas.{server_reply_is, no_first, call_cut}
use Rattle.lsp_desk.proofs.socket.first.Goals as goal

pub unreachable-requires : goal.unreachable-requires
unreachable-requires g c =
    let is = server_reply_is g.D.Caller.meaning c.args.desk.now c.server.new.self Next c.in-Ok.reply c.in-Ok.ensures.calls in
    no_first c.in-Ok.reply is.0.outbox is.0 is.1 c.in_default.not-First

pub returns-in-Err-clause-failed : goal.returns-in-Err-clause-failed
returns-in-Err-clause-failed g c = call_cut g.D.Caller.meaning show_server_reply c.args.desk.now c.server.new.self Next c.in-Err.fault c.in-Err.ensures.calls c.in-Err.ensures.spent
