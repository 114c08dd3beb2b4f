-- A service of the sample is served, or none can be made.
use Rattle.std.proofs.Common.{sym, subst, ◌∙◌}
use Rattle.lsp_desk.specs.Meaning.{IsOpening}
use Rattle.lsp_desk.specs.Plain.{plain_meaning}
use Rattle.lsp_sample_server.specs.Sessions.{IsSampleService}
use Rattle.lsp_sample_run.specs.Run.{sample_setting, NeverUnread}
use Rattle.lsp_sample_run.proofs.RunLemmas.{sample_setting_is, served_by, not_begun, told_nothing}
use Rattle.lsp_sample_run.proofs.program.serve.Goals as goal

pub returns-in-Ok-clause-session : goal.returns-in-Ok-clause-session
returns-in-Ok-clause-session g c =
    let new = c.new.ensures in
    let with = c.concurrency_level-server.ensures in
    served_by _ IsSampleService (sample_setting c.args.setting) c.in-Ok.service c.in-Ok.socket.desk _ (g.I.Source.left c.args.source.now) _ _
    (record { server = c.in-Ok.ensures.server; customs = c.in-Ok.ensures.customs }) (subst (IsOpening plain_meaning) (sym c.in-Ok.ensures.desk) c.new_desk.ensures)
    (sample_setting_is c.in-Ok.service _ _ _ _ _ _ _ c.args.setting (with.desk ∙ new.desk) with.concurrency (with.waiting ∙ new.waiting) (with.limits ∙ new.limits) (with.floats ∙ new.floats) (with.empty_params ∙ new.empty_params))
    c.serve_service.ensures.session

pub returns-clause-session : goal.returns-clause-session
returns-clause-session g c = not_begun (g.I.Source.left c.args.source.now) (g.O.Sink.taken c.args.sink.now) _

pub returns-clause-told : goal.returns-clause-told
returns-clause-told g c = told_nothing _ NeverUnread _ _ _ _
