use Rattle.std.proofs.Common.{◌≡◌, length}
use Rattle.lsp_uri.specs.Grammar.{is_made_of}
use Rattle.lsp_uri.proofs.chars.is_made_of.Given as goal

abbrev pub invariant-loop-rest : goal.invariant-loop-rest
invariant-loop-rest l = is_made_of l.fn.more l.rest ≡ is_made_of l.fn.more l.fn.text

abbrev pub decreases-loop-rest : goal.decreases-loop-rest
decreases-loop-rest l = length l.rest
