-- All that the reads told is on the ring.
use Rattle.std.proofs.Common.{◌≡◌}
use Rattle.lsp_pump.specs.Reading.{HasBegun}
use Rattle.lsp_pump.proofs.job.read_all.Given as goal

abbrev pub invariant-loop : goal.invariant-loop
invariant-loop g l = HasBegun g.I.Source.left g.I.Source.faults l.initial.reading l.reading × (l.reading.made ≡ l.counter)
