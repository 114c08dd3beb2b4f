-- Whatever the desk replied, the answer was given to it.
use Rattle.lsp_rpc.specs.Shown.{show_response}
use Rattle.lsp_desk.specs.Call as calls
use Rattle.lsp_desk.specs.Shown.{show_server_reply}
use Rattle.lsp_session.proofs.FailLemmas.{call_failed}
use Rattle.lsp_session.proofs.desk.give.Goals as goal
use Rattle.lsp_session.proofs.desk.give.Goals.{in-Ok, in-Err}

pub returns : goal.returns
returns g c =
    elim c.match-server.branch [
      | in-Ok w ↦
          let made = w.in-Ok.ensures.calls in
          rw w.result-is (record { trace = made.trace; grows = made.grows; holds = (show_server_reply w.in-Ok.field-0, made.adds) })
      | in-Err w ↦ rw w.result-is (call_failed g.D.Caller.meaning show_server_reply c.args.desk.now c.server.new.self (calls.Answer (show_response c.args.response)) w.in-Err.fault (g.met.D.Desk.is_chief c.args.desk.now) w.in-Err.ensures.calls w.in-Err.ensures.spent)
    ]
