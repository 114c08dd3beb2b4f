-- What the reads come to for a count of lines.
use Rattle.std.proofs.Common.{refl}
use Rattle.lsp_server.specs.Reads.{moment}
use Rattle.lsp_server.proofs.KnownLemmas.{if_told}
use Rattle.tests_session.specs.declared.lines.Lines.{Lines}
use Rattle.tests_session.specs.declared.lines.Count.{Count}
use Rattle.tests_session.proofs.LinesLemmas.{counting_lawful, lines_counted}
use Rattle.tests_session.proofs.lines.count_lines.Goals as goal

pub over_reads-requires-clause-lawful : goal.over_reads-requires-clause-lawful
over_reads-requires-clause-lawful g c = counting_lawful (λ (s : Lines × Count). s.1.lines)

pub returns : goal.returns
returns g c =
    if_told (g.T.Transport.left c.args.io.now) _ (λ bytes is. lines_counted (λ (s : Lines × Count). s.1.lines) _ _ (moment (g.T.Transport.left c.args.io.now) (g.T.Sink.taken c.args.io.now) (g.T.Sink.flushed c.args.io.now))
    (moment (g.T.Transport.left c.over_reads.new.io) (g.T.Sink.taken c.over_reads.new.io) (g.T.Sink.flushed c.over_reads.new.io)) 4096 bytes refl is (c.in_ok-over_reads.ensures.last tt))
