use Rattle.lsp_session.proofs.RunLemmas.{polled}
use Rattle.lsp_session.proofs.law.rounds_poll_all.Goals as goal

pub returns : goal.returns
returns g c = polled g.H.Handlers.semantics (record { gives = g.P.Pick.gives; later = g.P.Pick.later })
