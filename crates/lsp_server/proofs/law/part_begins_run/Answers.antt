use Rattle.lsp_server.proofs.PartLemmas.{part_begins_run}
use Rattle.lsp_server.proofs.law.part_begins_run.Goals as goal

pub returns : goal.returns
returns g c = part_begins_run g.H.Handlers.semantics g.D.Caller.meaning (record { gives = g.P.Pick.gives; later = g.P.Pick.later })
