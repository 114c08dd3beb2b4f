use Rattle.lsp_session.proofs.LawLemmas.{initialize_once}
use Rattle.lsp_session.proofs.law.initialize_comes_once.Goals as goal

pub returns : goal.returns
returns g c = initialize_once g.H.Handlers.semantics
