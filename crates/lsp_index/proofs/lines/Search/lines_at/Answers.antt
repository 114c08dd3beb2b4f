-- No position, one more, and all of them.
use Rattle.std.proofs.Common.{sym, subst, arith, []}
use Rattle.std.proofs.lemmas.List.{take_all}
use Rattle.lsp_index.specs.Shown.{show_query}
use Rattle.lsp_index.specs.Answered.{AreLines, IsLine, query_at}
use Rattle.lsp_index.proofs.EachLemmas.{lines_more}
use Rattle.lsp_index.proofs.lines.Search.lines_at.Goals as goal

pub loop-position-init : goal.loop-position-init
loop-position-init c = λ g kept. subst (λ l. AreLines (λ p line. IsLine (query_at (show_query c.args.self.now.query) p) g line) [] l) (sym c.new-lines.ensures.items) tt

pub loop-position-preserved : goal.loop-position-preserved
loop-position-preserved c = λ g kept.
    lines_more (λ p line. IsLine (query_at (show_query c.args.self.now.query) p) g line) c.args.positions.now c.loop-position.position-index _ c.loop-position.lines.items c.push.new.self.items c.in_ok-line_at.field-0 (omega arith) (c.loop-position.invariant g kept)
    (c.in_ok-line_at.ensures g kept) c.in_ok-push.ensures.items

pub returns : goal.returns
returns c = λ g kept. subst (λ l. AreLines (λ p line. IsLine (query_at (show_query c.args.self.now.query) p) g line) l c.loop-position.lines.items) (take_all c.loop-position.position-index c.args.positions.now c.loop-position-test.false) (c.loop-position.invariant g kept)
