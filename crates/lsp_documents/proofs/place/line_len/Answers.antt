use Rattle.std.proofs.Common.{sym, ap, ◌∙◌, drop, option_map, inl, inr}
use Rattle.lsp_documents.proofs.LineLemmas.{IsEnd-found, no_end_found, past_cr, past_cr_lf, past_lf, is_lf}
use Rattle.lsp_documents.proofs.place.line_len.Goals as goal
use Rattle.lsp_documents.proofs.place.line_len.Goals.{else-text-end-eq13-via-then-text-end-eq13+then-end-text+else-text-end-eq10, else-text-end-eq13-via-then-text-end-eq13+else-end-text, else-text-end-eq13-via-else-text-end-eq13}

pub returns-in_err-end-clause-later : goal.returns-in_err-end-clause-later
returns-in_err-end-clause-later c =
    no_end_found c.args.text.now c.memchr2.result c.memchr2.ensures c.in_err-end.was
    ∙ sym (ap (λ r. option_map (λ n. drop n c.args.text.now) r) c.from_residual.ensures)

pub returns-then-text-end-eq10-clause-later : goal.returns-then-text-end-eq10-clause-later
returns-then-text-end-eq10-clause-later c =
    let end = IsEnd-found c.args.text.now c.memchr2.result c.in_ok-end.end c.memchr2.ensures c.in_ok-end.was in
    past_cr_lf c.args.text.now c.in_ok-end.end end c.if-text-end-eq13.true c.if-end-text.true c.if-text-end-eq10.true

pub returns-clause-later : goal.returns-clause-later
returns-clause-later c =
    let t = c.args.text.now in
    let k = c.in_ok-end.end in
    let end = IsEnd-found t c.memchr2.result k c.memchr2.ensures c.in_ok-end.was in
    elim c.else-text-end-eq13.branch [
      | else-text-end-eq13-via-then-text-end-eq13+then-end-text+else-text-end-eq10 w ↦ past_cr t k end w.if-text-end-eq13.true (inr w.if-text-end-eq10.false)
      | else-text-end-eq13-via-then-text-end-eq13+else-end-text w ↦ past_cr t k end w.if-text-end-eq13.true (inl w.if-end-text.false)
      | else-text-end-eq13-via-else-text-end-eq13 w ↦ past_lf t k end (is_lf _ end.is w.if-text-end-eq13.false)
    ]
