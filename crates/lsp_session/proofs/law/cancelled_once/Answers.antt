use Rattle.lsp_session.proofs.RunLemmas.{cancelled}
use Rattle.lsp_session.proofs.law.cancelled_once.Goals as goal

pub returns : goal.returns
returns g c = cancelled g.H.Handlers.semantics g.met.H.Handlers.laws (record { gives = g.P.Pick.gives; later = g.P.Pick.later })
