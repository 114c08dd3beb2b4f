-- Nothing was read.
use Rattle.lsp_pump.proofs.ReadingLemmas.{fresh_open}
use Rattle.lsp_pump.proofs.job.read_job.Goals as goal

pub returns-then-has_ended : goal.returns-then-has_ended
returns-then-has_ended g c = fresh_open g.I.Source.left g.I.Source.faults c.args.reading c.args.reads c.requires.fresh
