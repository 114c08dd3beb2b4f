use Rattle.std.proofs.Common.{length}
use Rattle.lsp_frame.proofs.PartsPut.{AreRead}
use Rattle.lsp_frame.proofs.parts.read_parts.Given as goal

abbrev pub invariant-members : goal.invariant-members
invariant-members l = AreRead l.floats l.initial.reader l.reader l.parts

abbrev pub decreases-members : goal.decreases-members
decreases-members l = length l.reader
