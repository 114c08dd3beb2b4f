use Rattle.std.proofs.Common.{◌≡◌, ◌≤◌, ◌-◌, length, drop, Some}
use Rattle.lsp_documents.specs.Lines.{from_line}
use Rattle.lsp_documents.proofs.place.line_at.Given as goal

abbrev pub invariant-loop-len : goal.invariant-loop-len
invariant-loop-len l = record {
  counted : l.line ≤ l.start;
  begun : l.start ≤ l.offset;
  line_is : from_line l.line l.text ≡ Some (drop l.start l.text);
}

abbrev pub decreases-loop-len : goal.decreases-loop-len
decreases-loop-len l = length l.text - l.start
