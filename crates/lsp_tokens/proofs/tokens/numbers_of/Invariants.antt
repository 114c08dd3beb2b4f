use Rattle.std.proofs.Common.{◌≡◌, take}
use Rattle.lsp_tokens.specs.Tokens.{numbers_of}
use Rattle.lsp_tokens.proofs.tokens.numbers_of.Given as goal

abbrev pub invariant-loop-token : goal.invariant-loop-token
invariant-loop-token l = l.list.items ≡ numbers_of (take l.token-index l.tokens)
