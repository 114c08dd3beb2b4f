use Rattle.std.proofs.Common.{sym, ap, ◌∙◌, drop, option_map, arith}
use Rattle.std.proofs.lemmas.List.{take_rest}
use Rattle.lsp_documents.specs.Lines.{later_lines}
use Rattle.lsp_documents.proofs.LineLemmas.{last_line}
use Rattle.lsp_documents.proofs.place.near_line_start.Goals as goal

pub returns-in_err-start-clause-later : goal.returns-in_err-start-clause-later
returns-in_err-start-clause-later c =
    let t = c.args.text.now in
    last_line t c.loop-line.start c.loop-line._line c.loop-line.invariant.later (ap later_lines (sym (take_rest t c.loop-line.start)) ∙ c.in_err-start.ensures.later) c.args.line (omega arith)
    ∙ sym (ap (λ r. option_map (λ n. drop n t) r) c.from_residual.ensures)
