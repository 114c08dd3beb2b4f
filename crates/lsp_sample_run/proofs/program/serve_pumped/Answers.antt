-- A service of the sample is served while a thread reads, or none can be made.
use Rattle.std.proofs.Common.{sym, subst, ◌∙◌}
use Rattle.lsp_desk.specs.Meaning.{IsOpening}
use Rattle.lsp_desk.specs.Plain.{plain_meaning}
use Rattle.lsp_stdio.specs.Pumping.{EndsUnread}
use Rattle.lsp_stdio.proofs.StdioLemmas.{on_some}
use Rattle.lsp_sample_server.specs.Sessions.{IsSampleService}
use Rattle.lsp_sample_run.specs.Run.{sample_setting}
use Rattle.lsp_sample_run.proofs.RunLemmas.{sample_setting_is, pumped_by, not_begun, told_nothing, but_seven}
use Rattle.lsp_sample_run.proofs.program.serve_pumped.Goals as goal

pub returns-in-Ok-clause-session : goal.returns-in-Ok-clause-session
returns-in-Ok-clause-session g c =
    let new = c.new.ensures in
    let with = c.concurrency_level-server.ensures in
    pumped_by _ IsSampleService (sample_setting c.args.setting) c.in-Ok.service c.in-Ok.socket.desk _ (g.I.Source.left c.args.source) _ _ _ _
    (record { server = c.in-Ok.ensures.server; customs = c.in-Ok.ensures.customs }) (subst (IsOpening plain_meaning) (sym c.in-Ok.ensures.desk) c.new_desk.ensures)
    (sample_setting_is c.in-Ok.service _ _ _ _ _ _ _ c.args.setting (with.desk ∙ new.desk) with.concurrency (with.waiting ∙ new.waiting) (with.limits ∙ new.limits) (with.floats ∙ new.floats) (with.empty_params ∙ new.empty_params))
    c.pump.ensures.session

pub returns-in-Ok-clause-told : goal.returns-in-Ok-clause-told
returns-in-Ok-clause-told g c =
    let e = c.pump.ensures in
    record {
      flushed = e.flushed;
      read = e.read;
      write = e.write;
      read_told = e.read_told;
      write_told = e.write_told;
      complete = on_some (g.I.Source.left c.args.source) _ _ (λ bytes may few read wrote. but_seven _ e.desk_spent (may few read wrote)) e.complete;
    }

pub returns-clause-session : goal.returns-clause-session
returns-clause-session g c = not_begun (g.I.Source.left c.args.source) (g.O.Sink.taken c.args.sink.now) _

pub returns-clause-told : goal.returns-clause-told
returns-clause-told g c = told_nothing _ EndsUnread _ _ _ _
