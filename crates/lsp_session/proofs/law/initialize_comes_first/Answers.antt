use Rattle.lsp_session.proofs.LawLemmas.{initialize_first}
use Rattle.lsp_session.proofs.law.initialize_comes_first.Goals as goal

pub returns : goal.returns
returns g c = initialize_first g.H.Handlers.semantics
