-- The life was asked for, and then the first message was.
use Rattle.lsp_desk.specs.Call.{Next}
use Rattle.lsp_desk.proofs.SocketLemmas.{next_some, next_none, cut_second, on_error}
use Rattle.lsp_desk.proofs.socket.ClientSocket.poll_next.Goals as goal

pub returns-in-Some-clause-next : goal.returns-in-Some-clause-next
returns-in-Some-clause-next g c = next_some g.D.Caller.meaning c.args.self.now.desk c.look.new.desk c.first.new.desk c.in_ok-look.field-0 c.in-Some.request _ c.in-Some.is c.in_default.not-Exited c.in_ok-look.ensures.looked c.in_ok-request-in_default.ensures.took

pub returns-in-None-clause-next : goal.returns-in-None-clause-next
returns-in-None-clause-next g c = next_none g.D.Caller.meaning c.args.self.now.desk c.look.new.desk c.first.new.desk c.in_ok-look.field-0 _ c.in-None.is c.in_default.not-Exited c.in_ok-look.ensures.looked c.in_ok-request-in_default.ensures.took

pub returns-in_err-request-in_default-clause-failed : goal.returns-in_err-request-in_default-clause-failed
returns-in_err-request-in_default-clause-failed g c =
    on_error c.from_residual-in_err-request-in_default.result _ _ c.from_residual-in_err-request-in_default.ensures.1
    (cut_second g.D.Caller.meaning c.args.self.now.desk c.look.new.desk c.first.new.desk c.in_ok-look.field-0 Next c.in_err-request-in_default.field-0.0 c.in_ok-look.ensures.looked c.in_err-request-in_default.ensures.failed)
