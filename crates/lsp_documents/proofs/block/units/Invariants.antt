use Rattle.std.proofs.Common.{◌≡◌, take, sum_by}
use Rattle.lsp_documents.specs.Blocks.{units_begun}
use Rattle.lsp_documents.proofs.block.units.Given as goal

abbrev pub invariant-loop-byte : goal.invariant-loop-byte
invariant-loop-byte l = l.count ≡ sum_by units_begun (take l.byte-index l.byte-items)
