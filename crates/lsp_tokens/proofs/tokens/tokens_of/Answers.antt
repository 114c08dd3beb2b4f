use Rattle.std.proofs.Common.{◌≡◌, ◌%◌, ◌++◌, length, ap, sym, ◌∙◌, arith}
use Rattle.std.proofs.lemmas.Grind.{common_steps}
use Rattle.lsp_tokens.specs.Tokens.{numbers_of}
use Rattle.lsp_tokens.proofs.TokenList.{length-numbers_of, same_tokens, one_more, all_numbers}
use Rattle.lsp_tokens.proofs.tokens.tokens_of.Goals as goal

pub loop-token-init : goal.loop-token-init
loop-token-init c = ap (λ ts. numbers_of ts ++ c.args.list.now) c.in_ok-tokens.ensures.items

pub loop-token-preserved : goal.loop-token-preserved
loop-token-preserved c =
    one_more c.loop-token.tokens.items c.push.new.self.items c.token_of.result c.args.list.now c.loop-token.rest.now c.in-Some.token.now c.in-Some.more.now
    c.loop-token.invariant c.in-Some.ensures.cases.0 c.in-Some.ensures.cases.1 c.token_of.ensures c.in_ok-push.ensures.items

pub returns-clause-numbers : goal.returns-clause-numbers
returns-clause-numbers c =
    let fives : length c.args.list.now % 5 ≡ 0 = grind (arith, common_steps) in
    all_numbers c.loop-token.tokens.items c.loop-token.rest.now c.args.list.now c.loop-token.invariant fives c.in_default.ensures.cases

pub returns-clause-fives : goal.returns-clause-fives
returns-clause-fives c =
    let fives : length c.args.list.now % 5 ≡ 0 = grind (arith, common_steps) in
    let ts = c.loop-token.tokens.items in
    sym (length-numbers_of ts) ∙ ap length (all_numbers ts c.loop-token.rest.now c.args.list.now c.loop-token.invariant fives c.in_default.ensures.cases)

pub returns-clause-back : goal.returns-clause-back
returns-clause-back c = λ us e.
    let fives : length c.args.list.now % 5 ≡ 0 = grind (arith, common_steps) in
    let ts = c.loop-token.tokens.items in
    same_tokens ts us (all_numbers ts c.loop-token.rest.now c.args.list.now c.loop-token.invariant fives c.in_default.ensures.cases ∙ sym e)
