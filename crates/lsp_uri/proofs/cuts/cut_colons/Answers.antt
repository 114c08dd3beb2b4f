use Rattle.std.proofs.Common.{Some, sym, ap, ◌∙◌}
use Rattle.lsp_uri.proofs.CutLemmas.{before_two-lacks, after_two-lacks, before_two-at, after_two-at}
use Rattle.lsp_uri.proofs.cuts.cut_colons.Goals as goal

pub returns-in-None-clause-before : goal.returns-in-None-clause-before
returns-in-None-clause-before c = sym (before_two-lacks 58 c.args.text.now c.in-None.ensures.cases)

pub returns-in-None-clause-after : goal.returns-in-None-clause-after
returns-in-None-clause-after c = sym (after_two-lacks 58 c.args.text.now c.in-None.ensures.cases)

pub returns-in-Some-clause-before : goal.returns-in-Some-clause-before
returns-in-Some-clause-before c =
    let h = c.in-Some.ensures.cases in
    h.3 ∙ sym (before_two-at 58 c.args.text.now h.0 _ h.2.1.split h.2.0)

pub returns-in-Some-clause-after : goal.returns-in-Some-clause-after
returns-in-Some-clause-after c =
    let h = c.in-Some.ensures.cases in
    ap (λ s. Some s) h.4 ∙ sym (after_two-at 58 c.args.text.now h.0 _ h.2.1.split h.2.0)
