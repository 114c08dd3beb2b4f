use Rattle.lsp_session.proofs.RunLemmas.{answered}
use Rattle.lsp_session.proofs.law.answered_once.Goals as goal

pub returns : goal.returns
returns g c = answered g.H.Handlers.semantics g.met.H.Handlers.laws (record { gives = g.P.Pick.gives; later = g.P.Pick.later })
