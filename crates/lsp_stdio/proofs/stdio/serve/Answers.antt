-- What was written by the end, at each status.
use Rattle.lsp_server.specs.ServedView.{show_served}
use Rattle.lsp_stdio.proofs.StdioLemmas.{ends_whole, ends_stopped, on_both, on_all}
use Rattle.lsp_stdio.proofs.stdio.serve.Goals as goal

pub returns-in-Ok-clause-session : goal.returns-in-Ok-clause-session
returns-in-Ok-clause-session g c =
    on_both (g.I.Source.left c.args.source.now) _ _ _
    (λ bytes serves enough. ends_whole _ _ _ (show_served c.in-Ok.served) c.status_at.ensures serves enough)
    c.in-Ok.ensures.headline c.in-Ok.ensures.enough

pub returns-in-Err-clause-session : goal.returns-in-Err-clause-session
returns-in-Err-clause-session g c =
    on_all (g.I.Source.left c.args.source.now) _ _ _ _
    (λ bytes told spent part. ends_stopped _ _ _ c.in-Err.stopped.error c.in-Err.stopped.desk c.status_of.ensures told spent c.in-Err.ensures.desk_spent part)
    c.in-Err.ensures.exact c.in-Err.ensures.reads_spent c.in-Err.ensures.part
