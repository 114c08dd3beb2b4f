-- The lines that end in the bytes so far were counted.
use Rattle.std.proofs.Common.{◌≡◌, ◌+◌, take}
use Rattle.tests_session.specs.Lines.{lines_in, counted}
use Rattle.tests_session.proofs.lines.Count.add.Given as goal

abbrev pub invariant-loop-byte : goal.invariant-loop-byte
invariant-loop-byte l = l.self.lines ≡ counted (l.initial.self.lines + lines_in (take l.byte-index l.piece))
