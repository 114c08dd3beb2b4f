use Rattle.lsp_session.proofs.LawLemmas.{lives}
use Rattle.lsp_session.proofs.law.lives_go_on.Goals as goal

pub returns : goal.returns
returns g c = lives g.H.Handlers.semantics g.met.H.Handlers.laws
