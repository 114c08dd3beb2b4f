use Rattle.std.proofs.Common.{◌≡◌, ◌+◌, ◌-◌, length, drop}
use Rattle.std.specs.Str.{IsCharBoundary}
use Rattle.lsp_documents.proofs.BlockLemmas.{fitting_bytes}
use Rattle.lsp_documents.proofs.place.fitting_len.Given as goal

abbrev pub invariant-loop-passed : goal.invariant-loop-passed
invariant-loop-passed l = record {
  cut : IsCharBoundary l.text l.len;
  same : fitting_bytes l.text l.character ≡ l.len + fitting_bytes (drop l.len l.text) l.left;
}

abbrev pub decreases-loop-passed : goal.decreases-loop-passed
decreases-loop-passed l = length l.text - l.len
