use Rattle.lsp_session.proofs.RunLemmas.{facts}
use Rattle.lsp_session.proofs.law.facts_hold.Goals as goal

pub returns : goal.returns
returns g c = facts g.H.Handlers.semantics g.met.H.Handlers.laws (record { gives = g.P.Pick.gives; later = g.P.Pick.later })
