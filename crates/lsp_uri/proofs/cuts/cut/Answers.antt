use Rattle.std.proofs.Common.{Some, None, sym, ap, ◌∙◌}
use Rattle.std.proofs.lemmas.Str.Pattern.{split_parts}
use Rattle.lsp_uri.specs.Cuts.{before, after}
use Rattle.lsp_uri.proofs.CutLemmas.{before-lacks, after-lacks, before-append, after-append}
use Rattle.lsp_uri.proofs.cuts.cut.Goals as goal

pub returns-in-None-clause-before : goal.returns-in-None-clause-before
returns-in-None-clause-before c = sym (before-lacks _ _ (record { at = split_parts _ _ None c.in-None.ensures.cases c.requires }))

pub returns-in-None-clause-after : goal.returns-in-None-clause-after
returns-in-None-clause-after c = sym (after-lacks _ _ (record { at = split_parts _ _ None c.in-None.ensures.cases c.requires }))

pub returns-in-Some-clause-before : goal.returns-in-Some-clause-before
returns-in-Some-clause-before c =
    let parts = split_parts c.args.at c.args.text.now (Some (c.in-Some.front, c.in-Some.back)) c.in-Some.ensures.cases c.requires in
    sym (ap (before c.args.at) parts.0 ∙ before-append _ _ _ (record { at = parts.1 }))

pub returns-in-Some-clause-after : goal.returns-in-Some-clause-after
returns-in-Some-clause-after c =
    let parts = split_parts c.args.at c.args.text.now (Some (c.in-Some.front, c.in-Some.back)) c.in-Some.ensures.cases c.requires in
    sym (ap (after c.args.at) parts.0 ∙ after-append _ _ _ (record { at = parts.1 }))
