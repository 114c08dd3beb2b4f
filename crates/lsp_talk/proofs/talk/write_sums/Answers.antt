-- Where there is no memory for the line nothing is written.
use Rattle.lsp_talk.proofs.LineLemmas.{no_part}
use Rattle.lsp_talk.proofs.talk.write_sums.Goals as goal

pub returns-in-Err-clause-part : goal.returns-in-Err-clause-part
returns-in-Err-clause-part g c = λ low. no_part _ (g.O.Sink.taken c.args.sink.now)
