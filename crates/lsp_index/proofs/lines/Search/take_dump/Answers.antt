-- A bad line that has an end, and the last line.
use Rattle.std.proofs.Common.{subst}
use Rattle.std.proofs.lemmas.Result.{IfOk-weaker}
use Rattle.lsp_index.specs.declared.lines.Lines.{Lines}
use Rattle.lsp_index.specs.Reading.{TookLine}
use Rattle.lsp_index.proofs.ReadingLemmas.{took_dump, took_bad_dump}
use Rattle.lsp_index.proofs.lines.Search.take_dump.Goals as goal

pub returns-then-not-branch : goal.returns-then-not-branch
returns-then-not-branch c = λ fresh.
    let lines : Lines = record { part = c.new.result } in
    took_bad_dump lines c.take_bytes.new.self c.args.self.now c.take_bytes.new.search c.args.dump.now c.new.ensures.items (rw c.if-not-branch.true at c.in_ok-take_bytes.ensures) fresh

pub returns : goal.returns
returns c =
    let lines : Lines = record { part = c.new.result } in
    IfOk-weaker c.take_line.result _ _ (λ good t fresh. took_dump lines c.take_bytes.new.self c.args.self.now c.take_bytes.new.search c.take_line.new.self c.args.dump.now good c.new.ensures.items (rw c.if-not-branch.false at c.in_ok-take_bytes.ensures)
    (subst (λ l. TookLine c.take_bytes.new.search l good c.take_line.new.self) c.deref.ensures.value t) fresh) c.take_line.ensures.took
