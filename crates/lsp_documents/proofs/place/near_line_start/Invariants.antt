use Rattle.std.proofs.Common.{◌≡◌, ◌≤◌, length, drop, Some}
use Rattle.lsp_documents.specs.Lines.{from_line}
use Rattle.lsp_documents.proofs.place.near_line_start.Given as goal

abbrev pub invariant-loop-line : goal.invariant-loop-line
invariant-loop-line l = record {
  within : l.start ≤ length l.text;
  later : from_line l._line l.text ≡ Some (drop l.start l.text);
}
