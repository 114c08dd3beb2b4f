use Rattle.lsp_session.proofs.LawLemmas.{exits}
use Rattle.lsp_session.proofs.law.exit_ends.Goals as goal

pub returns : goal.returns
returns g c = exits g.H.Handlers.semantics
