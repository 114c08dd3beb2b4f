-- What each form comes to.
use Rattle.std.proofs.Common.{refl, sym, ap, subst, ◌∙◌, Some}
use Rattle.lsp_server.specs.SourceSink.{IsFlushed}
use Rattle.lsp_sample_run.specs.declared.arguments.Form.TheVariants.{Serve, Docs, Pump, Bulk, Talk}
use Rattle.lsp_sample_run.proofs.RunLemmas.{at_form, at_none, told_at, told_at_none, told_unread, unfailed, never_seven, not_seven}
use Rattle.lsp_sample_run.proofs.program.run.Goals as goal

pub returns-in-Some-Serve-clause-serving : goal.returns-in-Some-Serve-clause-serving
returns-in-Some-Serve-clause-serving g c = at_form _ (Serve c.in-Some-Serve.setting) _ (sym c.read_arguments.ensures.value ∙ c.in-Some-Serve.is ∙ ap Some c.in-Some-Serve.field-0-is) c.serve-status.ensures.session

pub returns-in-Some-Serve-clause-docs : goal.returns-in-Some-Serve-clause-docs
returns-in-Some-Serve-clause-docs g c = at_form _ (Serve c.in-Some-Serve.setting) _ (sym c.read_arguments.ensures.value ∙ c.in-Some-Serve.is ∙ ap Some c.in-Some-Serve.field-0-is) tt

pub returns-in-Some-Serve-clause-pumped : goal.returns-in-Some-Serve-clause-pumped
returns-in-Some-Serve-clause-pumped g c = at_form _ (Serve c.in-Some-Serve.setting) _ (sym c.read_arguments.ensures.value ∙ c.in-Some-Serve.is ∙ ap Some c.in-Some-Serve.field-0-is) tt

pub returns-in-Some-Serve-clause-bulk : goal.returns-in-Some-Serve-clause-bulk
returns-in-Some-Serve-clause-bulk g c = at_form _ (Serve c.in-Some-Serve.setting) _ (sym c.read_arguments.ensures.value ∙ c.in-Some-Serve.is ∙ ap Some c.in-Some-Serve.field-0-is) tt

pub returns-in-Some-Serve-clause-talk : goal.returns-in-Some-Serve-clause-talk
returns-in-Some-Serve-clause-talk g c = at_form _ (Serve c.in-Some-Serve.setting) _ (sym c.read_arguments.ensures.value ∙ c.in-Some-Serve.is ∙ ap Some c.in-Some-Serve.field-0-is) tt

pub returns-in-Some-Serve-clause-told : goal.returns-in-Some-Serve-clause-told
returns-in-Some-Serve-clause-told g c = told_at _ (Serve c.in-Some-Serve.setting) (g.I.Source.left c.args.source) _ _ _ _ _ _ _ _ _ (sym c.read_arguments.ensures.value ∙ c.in-Some-Serve.is ∙ ap Some c.in-Some-Serve.field-0-is) c.serve-status.ensures.told

pub returns-in-Some-Serve-clause-unused : goal.returns-in-Some-Serve-clause-unused
returns-in-Some-Serve-clause-unused g c = at_form _ (Serve c.in-Some-Serve.setting) _ (sym c.read_arguments.ensures.value ∙ c.in-Some-Serve.is ∙ ap Some c.in-Some-Serve.field-0-is) refl

pub returns-in-Some-Docs-clause-serving : goal.returns-in-Some-Docs-clause-serving
returns-in-Some-Docs-clause-serving g c = at_form _ Docs _ (sym c.read_arguments.ensures.value ∙ c.in-Some-Docs.is ∙ ap Some c.in-Some-Docs.field-0-is) tt

pub returns-in-Some-Docs-clause-docs : goal.returns-in-Some-Docs-clause-docs
returns-in-Some-Docs-clause-docs g c = at_form _ Docs _ (sym c.read_arguments.ensures.value ∙ c.in-Some-Docs.is ∙ ap Some c.in-Some-Docs.field-0-is) c.serve_docs-status.ensures.session

pub returns-in-Some-Docs-clause-pumped : goal.returns-in-Some-Docs-clause-pumped
returns-in-Some-Docs-clause-pumped g c = at_form _ Docs _ (sym c.read_arguments.ensures.value ∙ c.in-Some-Docs.is ∙ ap Some c.in-Some-Docs.field-0-is) tt

pub returns-in-Some-Docs-clause-bulk : goal.returns-in-Some-Docs-clause-bulk
returns-in-Some-Docs-clause-bulk g c = at_form _ Docs _ (sym c.read_arguments.ensures.value ∙ c.in-Some-Docs.is ∙ ap Some c.in-Some-Docs.field-0-is) tt

pub returns-in-Some-Docs-clause-talk : goal.returns-in-Some-Docs-clause-talk
returns-in-Some-Docs-clause-talk g c = at_form _ Docs _ (sym c.read_arguments.ensures.value ∙ c.in-Some-Docs.is ∙ ap Some c.in-Some-Docs.field-0-is) tt

pub returns-in-Some-Docs-clause-told : goal.returns-in-Some-Docs-clause-told
returns-in-Some-Docs-clause-told g c = told_at _ Docs (g.I.Source.left c.args.source) _ _ _ _ _ _ _ _ _ (sym c.read_arguments.ensures.value ∙ c.in-Some-Docs.is ∙ ap Some c.in-Some-Docs.field-0-is) c.serve_docs-status.ensures.told

pub returns-in-Some-Docs-clause-unused : goal.returns-in-Some-Docs-clause-unused
returns-in-Some-Docs-clause-unused g c = at_form _ Docs _ (sym c.read_arguments.ensures.value ∙ c.in-Some-Docs.is ∙ ap Some c.in-Some-Docs.field-0-is) refl

pub returns-in-Some-Pump-clause-serving : goal.returns-in-Some-Pump-clause-serving
returns-in-Some-Pump-clause-serving g c = at_form _ (Pump c.in-Some-Pump.setting) _ (sym c.read_arguments.ensures.value ∙ c.in-Some-Pump.is ∙ ap Some c.in-Some-Pump.field-0-is) tt

pub returns-in-Some-Pump-clause-docs : goal.returns-in-Some-Pump-clause-docs
returns-in-Some-Pump-clause-docs g c = at_form _ (Pump c.in-Some-Pump.setting) _ (sym c.read_arguments.ensures.value ∙ c.in-Some-Pump.is ∙ ap Some c.in-Some-Pump.field-0-is) tt

pub returns-in-Some-Pump-clause-pumped : goal.returns-in-Some-Pump-clause-pumped
returns-in-Some-Pump-clause-pumped g c = at_form _ (Pump c.in-Some-Pump.setting) _ (sym c.read_arguments.ensures.value ∙ c.in-Some-Pump.is ∙ ap Some c.in-Some-Pump.field-0-is) c.serve_pumped-source.ensures.session

pub returns-in-Some-Pump-clause-bulk : goal.returns-in-Some-Pump-clause-bulk
returns-in-Some-Pump-clause-bulk g c = at_form _ (Pump c.in-Some-Pump.setting) _ (sym c.read_arguments.ensures.value ∙ c.in-Some-Pump.is ∙ ap Some c.in-Some-Pump.field-0-is) tt

pub returns-in-Some-Pump-clause-talk : goal.returns-in-Some-Pump-clause-talk
returns-in-Some-Pump-clause-talk g c = at_form _ (Pump c.in-Some-Pump.setting) _ (sym c.read_arguments.ensures.value ∙ c.in-Some-Pump.is ∙ ap Some c.in-Some-Pump.field-0-is) tt

pub returns-in-Some-Pump-clause-told : goal.returns-in-Some-Pump-clause-told
returns-in-Some-Pump-clause-told g c = told_at _ (Pump c.in-Some-Pump.setting) (g.I.Source.left c.args.source) _ _ _ _ _ _ _ _ _ (sym c.read_arguments.ensures.value ∙ c.in-Some-Pump.is ∙ ap Some c.in-Some-Pump.field-0-is) c.serve_pumped-source.ensures.told

pub returns-in-Some-Pump-clause-unused : goal.returns-in-Some-Pump-clause-unused
returns-in-Some-Pump-clause-unused g c = at_form _ (Pump c.in-Some-Pump.setting) _ (sym c.read_arguments.ensures.value ∙ c.in-Some-Pump.is ∙ ap Some c.in-Some-Pump.field-0-is) refl

pub returns-in-Some-Bulk-clause-serving : goal.returns-in-Some-Bulk-clause-serving
returns-in-Some-Bulk-clause-serving g c = at_form _ (Bulk c.in-Some-Bulk.session) _ (sym c.read_arguments.ensures.value ∙ c.in-Some-Bulk.is ∙ ap Some c.in-Some-Bulk.field-0-is) tt

pub returns-in-Some-Bulk-clause-docs : goal.returns-in-Some-Bulk-clause-docs
returns-in-Some-Bulk-clause-docs g c = at_form _ (Bulk c.in-Some-Bulk.session) _ (sym c.read_arguments.ensures.value ∙ c.in-Some-Bulk.is ∙ ap Some c.in-Some-Bulk.field-0-is) tt

pub returns-in-Some-Bulk-clause-pumped : goal.returns-in-Some-Bulk-clause-pumped
returns-in-Some-Bulk-clause-pumped g c = at_form _ (Bulk c.in-Some-Bulk.session) _ (sym c.read_arguments.ensures.value ∙ c.in-Some-Bulk.is ∙ ap Some c.in-Some-Bulk.field-0-is) tt

pub returns-in-Some-Bulk-clause-bulk : goal.returns-in-Some-Bulk-clause-bulk
returns-in-Some-Bulk-clause-bulk g c =
    let e = c.bulk.ensures in
    at_form _ (Bulk c.in-Some-Bulk.session) _ (sym c.read_arguments.ensures.value ∙ c.in-Some-Bulk.is ∙ ap Some c.in-Some-Bulk.field-0-is)
    (record { known = e.known; wrote = e.wrote; part = e.part; unread = refl; complete = unfailed _ e.known e.write })

pub returns-in-Some-Bulk-clause-talk : goal.returns-in-Some-Bulk-clause-talk
returns-in-Some-Bulk-clause-talk g c = at_form _ (Bulk c.in-Some-Bulk.session) _ (sym c.read_arguments.ensures.value ∙ c.in-Some-Bulk.is ∙ ap Some c.in-Some-Bulk.field-0-is) tt

pub returns-in-Some-Bulk-clause-told : goal.returns-in-Some-Bulk-clause-told
returns-in-Some-Bulk-clause-told g c =
    let e = c.bulk.ensures in
    told_at _ (Bulk c.in-Some-Bulk.session) (g.I.Source.left c.args.source) _ _ _ _ _ _ _ _ _ (sym c.read_arguments.ensures.value ∙ c.in-Some-Bulk.is ∙ ap Some c.in-Some-Bulk.field-0-is)
    (told_unread _ _ _ _ _ _ _ _ (never_seven _ e.known) e.flushed (λ seven. absurd (not_seven _ e.known seven)) e.write e.write_told)

pub returns-in-Some-Bulk-clause-unused : goal.returns-in-Some-Bulk-clause-unused
returns-in-Some-Bulk-clause-unused g c = at_form _ (Bulk c.in-Some-Bulk.session) _ (sym c.read_arguments.ensures.value ∙ c.in-Some-Bulk.is ∙ ap Some c.in-Some-Bulk.field-0-is) refl

pub returns-in-Some-Talk-clause-serving : goal.returns-in-Some-Talk-clause-serving
returns-in-Some-Talk-clause-serving g c = at_form _ (Talk c.in-Some-Talk.clones) _ (sym c.read_arguments.ensures.value ∙ c.in-Some-Talk.is ∙ ap Some c.in-Some-Talk.field-0-is) tt

pub returns-in-Some-Talk-clause-docs : goal.returns-in-Some-Talk-clause-docs
returns-in-Some-Talk-clause-docs g c = at_form _ (Talk c.in-Some-Talk.clones) _ (sym c.read_arguments.ensures.value ∙ c.in-Some-Talk.is ∙ ap Some c.in-Some-Talk.field-0-is) tt

pub returns-in-Some-Talk-clause-pumped : goal.returns-in-Some-Talk-clause-pumped
returns-in-Some-Talk-clause-pumped g c = at_form _ (Talk c.in-Some-Talk.clones) _ (sym c.read_arguments.ensures.value ∙ c.in-Some-Talk.is ∙ ap Some c.in-Some-Talk.field-0-is) tt

pub returns-in-Some-Talk-clause-bulk : goal.returns-in-Some-Talk-clause-bulk
returns-in-Some-Talk-clause-bulk g c = at_form _ (Talk c.in-Some-Talk.clones) _ (sym c.read_arguments.ensures.value ∙ c.in-Some-Talk.is ∙ ap Some c.in-Some-Talk.field-0-is) tt

pub returns-in-Some-Talk-clause-talk : goal.returns-in-Some-Talk-clause-talk
returns-in-Some-Talk-clause-talk g c =
    let e = c.talk_with-status.ensures in
    at_form _ (Talk c.in-Some-Talk.clones) _ (sym c.read_arguments.ensures.value ∙ c.in-Some-Talk.is ∙ ap Some c.in-Some-Talk.field-0-is)
    (record { known = e.known; talked = e.talked; unwritten = e.unwritten; wrote = e.wrote; part = e.part; unread = refl; silent = λ seven. (e.spent seven).1; whole = e.whole })

pub returns-in-Some-Talk-clause-told : goal.returns-in-Some-Talk-clause-told
returns-in-Some-Talk-clause-told g c =
    let e = c.talk_with-status.ensures in
    told_at _ (Talk c.in-Some-Talk.clones) (g.I.Source.left c.args.source) _ _ _ _ _ _ _ _ _ (sym c.read_arguments.ensures.value ∙ c.in-Some-Talk.is ∙ ap Some c.in-Some-Talk.field-0-is)
    (told_unread _ _ _ _ _ _ _ _ e.known e.flushed (λ seven. subst (λ s. IsFlushed (g.O.Sink.taken c.args.sink.now) (g.O.Sink.flushed c.args.sink.now) → IsFlushed (g.O.Sink.taken s) (g.O.Sink.flushed s)) (sym (e.spent seven).1) (λ is. is)) e.write e.write_told)

pub returns-in-Some-Talk-clause-unused : goal.returns-in-Some-Talk-clause-unused
returns-in-Some-Talk-clause-unused g c = at_form _ (Talk c.in-Some-Talk.clones) _ (sym c.read_arguments.ensures.value ∙ c.in-Some-Talk.is ∙ ap Some c.in-Some-Talk.field-0-is) tt

pub returns-in-None-clause-serving : goal.returns-in-None-clause-serving
returns-in-None-clause-serving g c = at_none _ _ (sym c.read_arguments.ensures.value ∙ c.in-None.is)

pub returns-in-None-clause-docs : goal.returns-in-None-clause-docs
returns-in-None-clause-docs g c = at_none _ _ (sym c.read_arguments.ensures.value ∙ c.in-None.is)

pub returns-in-None-clause-pumped : goal.returns-in-None-clause-pumped
returns-in-None-clause-pumped g c = at_none _ _ (sym c.read_arguments.ensures.value ∙ c.in-None.is)

pub returns-in-None-clause-bulk : goal.returns-in-None-clause-bulk
returns-in-None-clause-bulk g c = at_none _ _ (sym c.read_arguments.ensures.value ∙ c.in-None.is)

pub returns-in-None-clause-talk : goal.returns-in-None-clause-talk
returns-in-None-clause-talk g c = at_none _ _ (sym c.read_arguments.ensures.value ∙ c.in-None.is)

pub returns-in-None-clause-unused : goal.returns-in-None-clause-unused
returns-in-None-clause-unused g c = at_none _ _ (sym c.read_arguments.ensures.value ∙ c.in-None.is)

pub returns-in-None-clause-told : goal.returns-in-None-clause-told
returns-in-None-clause-told g c = told_at_none _ (g.I.Source.left c.args.source) _ _ _ _ (sym c.read_arguments.ensures.value ∙ c.in-None.is)
