-- A call of a server goes on from those before it.
use Rattle.lsp_ask.proofs.AskingLemmas.{calls_on}
use Rattle.lsp_ask.proofs.desk.make_call.Goals as goal

pub returns-clause-continues : goal.returns-clause-continues
returns-clause-continues g c = calls_on g.D.Caller.meaning c.args.client.now c.client.new.self c.args.call c.client.result c.client.ensures.calls
