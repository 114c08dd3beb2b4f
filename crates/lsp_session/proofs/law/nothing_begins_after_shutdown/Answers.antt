use Rattle.lsp_session.proofs.LawLemmas.{after_shutdown}
use Rattle.lsp_session.proofs.law.nothing_begins_after_shutdown.Goals as goal

pub returns : goal.returns
returns g c = after_shutdown g.H.Handlers.semantics
