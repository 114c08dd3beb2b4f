use Rattle.std.proofs.Common.{◌≡◌, length, take, sum_by}
use Rattle.std.specs.Str.{chars}
use Rattle.lsp_documents.specs.Lines.{units}
use Rattle.lsp_documents.proofs.place.units_len.Given as goal

abbrev pub invariant-loop-c : goal.invariant-loop-c
invariant-loop-c l = l.len ≡ sum_by units (take (length l.yielded) (chars l.text))
