use Rattle.lsp_session.proofs.BeginLemmas.{begins_started}
use Rattle.lsp_session.proofs.law.begins_where_started.Goals as goal

pub returns : goal.returns
returns g c = begins_started g.H.Handlers.semantics (record { gives = g.P.Pick.gives; later = g.P.Pick.later })
