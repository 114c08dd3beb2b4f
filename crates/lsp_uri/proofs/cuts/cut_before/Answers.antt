use Rattle.std.proofs.Common.{Some, None, sym, ◌∙◌}
use Rattle.std.proofs.lemmas.Str.Pattern.{find_char}
use Rattle.lsp_uri.proofs.CutLemmas.{before-lacks, from-lacks, before-at, from-at}
use Rattle.lsp_uri.proofs.cuts.cut_before.Goals as goal

pub returns-in-None-clause-before : goal.returns-in-None-clause-before
returns-in-None-clause-before c = sym (before-lacks _ _ (record { at = find_char _ _ None c.in-None.ensures.cases c.requires }))

pub returns-in-None-clause-from : goal.returns-in-None-clause-from
returns-in-None-clause-from c = sym (from-lacks _ _ (record { at = find_char _ _ None c.in-None.ensures.cases c.requires }))

pub returns-in-Some-clause-before : goal.returns-in-Some-clause-before
returns-in-Some-clause-before c =
    let found = find_char c.args.at c.args.text.now (Some c.in-Some.i) c.in-Some.ensures.cases c.requires in
    c.split_at.ensures.front ∙ sym (before-at _ _ _ found.0 found.1 found.2)

pub returns-in-Some-clause-from : goal.returns-in-Some-clause-from
returns-in-Some-clause-from c =
    let found = find_char c.args.at c.args.text.now (Some c.in-Some.i) c.in-Some.ensures.cases c.requires in
    c.split_at.ensures.back ∙ sym (from-at _ _ _ found.0 found.1 found.2)
