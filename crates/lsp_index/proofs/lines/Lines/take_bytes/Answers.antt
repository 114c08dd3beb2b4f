-- One more line, a bad one, and the part of a line.
use Rattle.std.proofs.Common.{arith, false, true}
use Rattle.lsp_index.specs.declared.lines.Lines.{Lines}
use Rattle.lsp_index.proofs.LineLemmas.{first_end}
use Rattle.lsp_index.proofs.ReadingLemmas.{took_rest, took_bad_rest, took_last_part}
use Rattle.lsp_index.proofs.lines.Lines.take_bytes.Goals as goal

pub take_end-requires : goal.take_end-requires
take_end-requires c = first_end c.lines.rest.now c.in-Some.end c.in-Some.ensures

pub returns-then-not-branch : goal.returns-then-not-branch
returns-then-not-branch c =
    c.lines.invariant.comes_to false (c.take_end.new.self, c.take_end.new.search) (took_bad_rest (c.lines.self, c.lines.search) (c.take_end.new.self, c.take_end.new.search) c.lines.rest.now c.in-Some.end c.in-Some.ensures (rw c.if-not-branch.true at c.in_ok-take_end.ensures))

pub lines-preserved : goal.lines-preserved
lines-preserved c = record {
  within = omega (arith, c.lines.invariant.within);
  comes_to = λ good last rest.
      c.lines.invariant.comes_to good last (took_rest (c.lines.self, c.lines.search) (c.take_end.new.self, c.take_end.new.search) last c.lines.rest.now c.in-Some.end good c.in-Some.ensures (rw c.if-not-branch.false at c.in_ok-take_end.ensures) rest);
}

pub returns : goal.returns
returns c =
    let grown : Lines = record { part = c.extend_from_slice.new.self } in
    c.lines.invariant.comes_to true (grown, c.lines.search) (took_last_part c.lines.self grown c.lines.search c.lines.rest.now c.in_default.ensures c.in_ok-extend_from_slice.ensures.items)
