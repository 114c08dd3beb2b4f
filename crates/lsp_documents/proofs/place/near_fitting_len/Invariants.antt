use Rattle.std.proofs.Common.{length}
use Rattle.std.specs.Str.{chars}
use Rattle.lsp_documents.proofs.FittingLemmas.{HasPassed}
use Rattle.lsp_documents.proofs.place.near_fitting_len.Given as goal

abbrev pub invariant-loop-c : goal.invariant-loop-c
invariant-loop-c l = HasPassed (chars l.text) (length l.yielded) l.len l.left l.character
