use Rattle.std.proofs.Common.{◌≡◌, ◌+◌, ◌-◌, arith, get_or, drop, sym, ap, ◌∙◌}
use Rattle.lsp_documents.specs.Lines.{from_line}
use Rattle.lsp_documents.proofs.BlockLemmas.{count_ends, count_more, ends_with-le, passed_lines}
use Rattle.lsp_documents.proofs.block.line_ends.Goals as goal

pub loop-i-preserved : goal.loop-i-preserved
loop-i-preserved c = record {
  counted = omega (arith, c.loop-i.invariant.counted, c.end_of_line-ends.ensures, count_more c.loop-i.i c.args.text.now (omega (arith, c.requires, c.loop-i-test.true)));
  bound = omega (arith, c.loop-i.invariant.bound, c.end_of_line-ends.ensures, ends_with-le (get_or c.args.text.now c.loop-i.i 0) (get_or c.args.text.now (c.loop-i.i + 1) 0));
}

pub returns : goal.returns
returns c =
    let all : c.loop-i.i ≡ 240 = omega (arith, c.loop-i-test.false, c.loop-i.auto.i-end) in
    let is : c.loop-i.ends ≡ count_ends 240 c.args.text.now = c.loop-i.invariant.counted ∙ ap (λ k. count_ends k c.args.text.now) all in
    λ line less.
    passed_lines 240 c.args.text.now line (omega (arith, c.requires)) (omega (arith, is, less))
    ∙ ap (λ n. from_line (line - n) (drop 240 c.args.text.now)) (sym is)
