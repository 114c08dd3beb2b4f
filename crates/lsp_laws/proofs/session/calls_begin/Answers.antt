use Rattle.lsp_laws.proofs.StartLemmas.{calls_begin_lem}
use Rattle.lsp_laws.proofs.session.calls_begin.Goals as goal

pub returns : goal.returns
returns g c = calls_begin_lem g.H.Handlers.semantics
