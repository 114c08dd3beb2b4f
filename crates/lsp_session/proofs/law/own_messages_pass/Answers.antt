use Rattle.lsp_session.proofs.OwnLemmas.{own_messages}
use Rattle.lsp_session.proofs.law.own_messages_pass.Goals as goal

pub returns : goal.returns
returns g c = own_messages g.H.Handlers.semantics g.met.H.Handlers.laws (record { gives = g.P.Pick.gives; later = g.P.Pick.later })
