use Rattle.lsp_index.proofs.AnsweredLemmas.{nothing_read}
use Rattle.lsp_index.proofs.run.answer.Goals as goal

pub returns-in-Err-clause-part : goal.returns-in-Err-clause-part
returns-in-Err-clause-part g c = λ _. nothing_read c.args.words.now.items (g.I.Source.left c.args.source.now) (g.O.Sink.taken c.args.sink.now)
