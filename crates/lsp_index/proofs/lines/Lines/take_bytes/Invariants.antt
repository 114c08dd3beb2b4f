-- What the rest comes to from here is what all bytes come to.
use Rattle.std.proofs.Common.{◌≤◌, Bool, length}
use Rattle.lsp_index.specs.declared.lines.Lines.{Lines}
use Rattle.lsp_index.specs.declared.lines.Search.{Search}
use Rattle.lsp_index.specs.Reading.{TookBytes}
use Rattle.lsp_index.proofs.lines.Lines.take_bytes.Given as goal

abbrev pub invariant-lines : goal.invariant-lines
invariant-lines l = record {
  within : length l.rest ≤ length l.bytes;
  comes_to : (good : Bool) (last : Lines × Search) → TookBytes (l.self, l.search) l.rest good last → TookBytes (l.initial.self, l.initial.search) l.bytes good last;
}

abbrev pub decreases-lines : goal.decreases-lines
decreases-lines l = length l.rest
