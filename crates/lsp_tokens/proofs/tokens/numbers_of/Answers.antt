use Rattle.std.proofs.Common.{◌≡◌, ◌++◌, take, length, get_or, ap, sym, ◌∙◌, arith}
use Rattle.std.proofs.lemmas.Grind.{common_steps}
use Rattle.lsp_tokens.specs.Tokens.{token_numbers, numbers_of}
use Rattle.lsp_tokens.specs.declared.tokens.SemanticToken.{SemanticToken}
use Rattle.lsp_tokens.proofs.TokenList.{length-numbers_of, one_written}
use Rattle.lsp_tokens.proofs.tokens.numbers_of.Goals as goal

pub loop-token-init : goal.loop-token-init
loop-token-init c = c.new-list.ensures.items

pub loop-token-preserved : goal.loop-token-preserved
loop-token-preserved c =
    let none : SemanticToken = record { delta_line = 0; delta_start = 0; length = 0; token_type = 0; token_modifiers_bitset = 0 } in
    c.in_ok-push_token.ensures
    ∙ ap (λ ns. ns ++ token_numbers (get_or c.args.tokens.now c.loop-token.token-index none)) c.loop-token.invariant
    ∙ sym (one_written c.args.tokens.now c.loop-token.token-index none c.loop-token-test.true)

pub returns-clause-fives : goal.returns-clause-fives
returns-clause-fives c =
    let whole : take c.loop-token.token-index c.args.tokens.now ≡ c.args.tokens.now = grind (arith, common_steps) in
    ap length (c.loop-token.invariant ∙ ap numbers_of whole) ∙ length-numbers_of c.args.tokens.now
