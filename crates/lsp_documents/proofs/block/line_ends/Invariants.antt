use Rattle.std.proofs.Common.{◌≡◌, ◌≤◌}
use Rattle.lsp_documents.proofs.BlockLemmas.{count_ends}
use Rattle.lsp_documents.proofs.block.line_ends.Given as goal

abbrev pub invariant-loop-i : goal.invariant-loop-i
invariant-loop-i l = record {
  counted : l.ends ≡ count_ends l.i l.text;
  bound : l.ends ≤ l.i;
}
