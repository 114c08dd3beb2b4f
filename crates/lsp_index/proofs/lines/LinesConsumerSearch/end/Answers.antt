-- What the end comes to: out of memory, a bad last line, and the line of the answer, or some of it.
use Rattle.std.proofs.Common.{rules, ◌≡◌, subst}
use Rattle.std.specs.Prelude.{string_bytes}
use Rattle.lsp_server.specs.declared.step.ServeError.TheVariants.{NoMemory}
use Rattle.lsp_server.specs.Consuming.{stops, last_outcome}
use Rattle.lsp_index.specs.Reading.{TookGood, TookBad}
use Rattle.lsp_index.proofs.AnsweredLemmas.{did_no_end, did_bad_end, did_sent}
use Rattle.lsp_index.proofs.lines.LinesConsumerSearch.end.Goals as goal

pub returns-in_err-take_line-clause-did : goal.returns-in_err-take_line-clause-did
returns-in_err-take_line-clause-did g c =
    let is : last_outcome c.from_residual.result ≡ stops NoMemory = search rules in
    rw is (did_no_end _ _ (g.O.Sink.taken c.args.sink.now) NoMemory tt)

pub returns-then-not-branch-clause-did : goal.returns-then-not-branch-clause-did
returns-then-not-branch-clause-did g c =
    let took = rw c.if-not-branch.true at c.in_ok-take_line.ensures.took in
    did_bad_end c.args.self.now c.args.search.now c.take_line.new.self (g.O.Sink.taken c.args.sink.now) (subst (λ l. TookBad c.args.search.now l c.take_line.new.self) c.deref.ensures.value took)

pub returns-in_err-line-clause-did : goal.returns-in_err-line-clause-did
returns-in_err-line-clause-did g c =
    let is : last_outcome c.from_residual-in_err-line.result ≡ stops NoMemory = search rules in
    rw is (did_no_end _ _ (g.O.Sink.taken c.args.sink.now) NoMemory tt)

pub returns-clause-did : goal.returns-clause-did
returns-clause-did g c =
    let took = rw c.if-not-branch.false at c.in_ok-take_line.ensures.took in
    did_sent c.args.self.now c.args.search.now c.take_line.new.self (string_bytes c.in_ok-line.line) (g.O.Sink.taken c.args.sink.now) (g.O.Sink.taken c.send.new.sink) c.send.result
    (subst (λ l. TookGood c.args.search.now l c.take_line.new.self) c.deref.ensures.value took) c.in_ok-line.ensures (rw c.as_bytes.ensures.value at c.send.ensures.ok) (rw c.as_bytes.ensures.value at c.send.ensures.part)
    c.send.ensures.others
