use Rattle.std.proofs.Common.{◌≡◌, ◌++◌, length}
use Rattle.lsp_tokens.specs.Tokens.{numbers_of}
use Rattle.lsp_tokens.proofs.tokens.tokens_of.Given as goal

-- the numbers of the tokens come before what is left
abbrev pub invariant-loop-token : goal.invariant-loop-token
invariant-loop-token l = numbers_of l.tokens.items ++ l.rest ≡ l.list

abbrev pub decreases-loop-token : goal.decreases-loop-token
decreases-loop-token l = length l.rest
