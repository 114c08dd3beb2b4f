use Rattle.lsp_laws.proofs.LifeLemmas.{lives_follow_lem}
use Rattle.lsp_laws.proofs.session.lives_follow.Goals as goal

pub returns : goal.returns
returns g c = lives_follow_lem g.H.Handlers.semantics g.met.H.Handlers.laws
