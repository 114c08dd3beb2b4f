-- The reply to a `Fall` is that it is done.
use Rattle.std.proofs.Common.{ap, ◌∙◌, ◌∷◌, []}
use Rattle.lsp_desk.specs.Call as calls
use Rattle.lsp_desk.specs.Shown.{show_server_reply}
use Rattle.lsp_session.specs.Run.{replied}
use Rattle.lsp_session.proofs.DeskLemmas.{reply_is}
use Rattle.lsp_session.proofs.FailLemmas.{call_failed}
use Rattle.lsp_session.proofs.desk.fall.Goals as goal
use Rattle.lsp_session.proofs.desk.fall.Goals.{in-Ok, in-Err}

pub returns : goal.returns
returns g c =
    elim c.match-server.branch [
      | in-Ok w ↦
          let made = w.in-Ok.ensures.calls in
          let is = reply_is g.D.Caller.meaning c.args.desk.now c.server.new.self calls.Fall w.in-Ok.field-0 made in
          rw w.result-is (record { trace = made.trace; grows = made.grows; holds = made.adds ∙ ap (λ reply. replied calls.Fall reply ∷ []) is.1 })
      | in-Err w ↦ rw w.result-is (call_failed g.D.Caller.meaning show_server_reply c.args.desk.now c.server.new.self calls.Fall w.in-Err.fault (g.met.D.Desk.is_chief c.args.desk.now) w.in-Err.ensures.calls w.in-Err.ensures.spent)
    ]
