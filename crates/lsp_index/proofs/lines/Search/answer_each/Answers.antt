-- A bad line, and a line at each of the positions.
use Rattle.lsp_index.proofs.EachLemmas.{answers_each}
use Rattle.lsp_index.proofs.lines.Search.answer_each.Goals as goal

pub returns-then-not-branch : goal.returns-then-not-branch
returns-then-not-branch c = λ fresh. (rw c.if-not-branch.true at c.in_ok-take_dump.ensures) fresh

pub returns : goal.returns
returns c = λ fresh. answers_each c.args.self.now c.take_dump.new.self c.args.dump.now c.args.positions.now c.in_ok-lines_at.field-0 ((rw c.if-not-branch.false at c.in_ok-take_dump.ensures) fresh) c.in_ok-lines_at.ensures
