use Rattle.lsp_server.proofs.HistoryLemmas.{runs_in_history_lem}
use Rattle.lsp_server.proofs.law.runs_in_history.Goals as goal

pub returns : goal.returns
returns g c = runs_in_history_lem g.H.Handlers.semantics g.D.Caller.meaning (record { gives = g.P.Pick.gives; later = g.P.Pick.later })
