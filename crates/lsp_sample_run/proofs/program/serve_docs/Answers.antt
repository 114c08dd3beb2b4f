-- A service of the document server is served, or none can be made.
use Rattle.std.proofs.Common.{sym, subst, ◌∙◌}
use Rattle.lsp_desk.specs.Meaning.{IsOpening}
use Rattle.lsp_desk.specs.Plain.{plain_meaning}
use Rattle.lsp_sample_run.specs.Run.{IsDocsService, docs_setting, NeverUnread}
use Rattle.lsp_sample_run.proofs.RunLemmas.{docs_setting_is, served_by, not_begun, told_nothing}
use Rattle.lsp_sample_run.proofs.program.serve_docs.Goals as goal

pub returns-in-Ok-clause-session : goal.returns-in-Ok-clause-session
returns-in-Ok-clause-session g c =
    let new = c.new.ensures in
    let with = c.floats.ensures in
    let also = c.allow_empty_params-server.ensures in
    served_by _ IsDocsService docs_setting c.in-Ok.service c.in-Ok.socket.desk _ (g.I.Source.left c.args.source.now) _ _
    (record { documents = c.in-Ok.ensures.documents; customs = c.in-Ok.ensures.methods }) (subst (IsOpening plain_meaning) (sym c.in-Ok.ensures.desk) c.new_desk.ensures)
    (docs_setting_is c.in-Ok.service _ _ _ _ _ _ _ (also.desk ∙ with.desk ∙ new.desk) (also.concurrency ∙ with.concurrency ∙ new.concurrency) (also.waiting ∙ with.waiting ∙ new.waiting) (also.limits ∙ with.limits ∙ new.limits) (also.floats ∙ with.floats) also.empty_params)
    c.serve_service.ensures.session

pub returns-in-Err-clause-session : goal.returns-in-Err-clause-session
returns-in-Err-clause-session g c = not_begun (g.I.Source.left c.args.source.now) (g.O.Sink.taken c.args.sink.now) _

pub returns-in-Err-clause-told : goal.returns-in-Err-clause-told
returns-in-Err-clause-told g c = told_nothing _ NeverUnread _ _ _ _
