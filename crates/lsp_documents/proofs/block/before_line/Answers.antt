use Rattle.std.proofs.Common.{◌-◌, ◌∙◌, drop, ap, sym, arith}
use Rattle.std.proofs.lemmas.List.{drop-drop, take_rest}
use Rattle.lsp_documents.specs.Lines.{from_line}
use Rattle.lsp_documents.proofs.block.before_line.Goals as goal

pub loop-start-preserved : goal.loop-start-preserved
loop-start-preserved c =
    let t = c.args.text.now in
    let left = c.loop-start.left in
    let ends = c.line_ends-ends.result in
    record {
      within = omega (arith, c.loop-start-test.true);
      same = c.loop-start.invariant.same
          ∙ ap (from_line left) (sym (take_rest t c.loop-start.start))
          ∙ c.line_ends-ends.ensures left c.if-left-ends.false
          ∙ ap (λ r. from_line (left - ends) (drop 240 r)) (take_rest t c.loop-start.start)
          ∙ ap (from_line (left - ends)) (drop-drop 240 c.loop-start.start t);
    }
