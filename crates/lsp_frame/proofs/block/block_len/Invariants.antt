use Rattle.std.proofs.Common.{length, ◌+◌, ◌-◌}
use Rattle.lsp_frame.specs.Kept.{IsClear}
use Rattle.lsp_frame.proofs.block.block_len.Given as goal

abbrev pub invariant-lines : goal.invariant-lines
invariant-lines l = IsClear l.bytes (l.place + 1)

abbrev pub decreases-lines : goal.decreases-lines
decreases-lines l = length l.bytes - l.place
