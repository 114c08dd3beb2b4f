-- The loop over the reads: each piece, the end of input, and each error.
use Rattle.std.proofs.Common.{rules, arith, ◌≡◌, take, length, length-take, refl, ◌∙◌, Bool, true, ◌<◌, []}
use Rattle.std.specs.Prelude.{Some, None, Result, Ok, Err, IfErr}
use Rattle.std.specs.Result.{result_err}
use Rattle.lsp_server.specs.declared.step.ServeError.{ServeError}
use Rattle.lsp_server.specs.Errors.{refused_error, IsInStep}
use Rattle.lsp_server.specs.Consuming.{Did, given_of, piece, done, stops, last_outcome}
use Rattle.lsp_server.specs.Leaves.{LeavesFaults}
use Rattle.lsp_server.specs.Reads.{moment}
use Rattle.lsp_server.proofs.KnownLemmas.{consumes_to, kept_none}
use Rattle.lsp_server.proofs.OrderLemmas.{few_reads, few_so_far, fewer_so_far, in_order_last_read, in_order_so_far, not_at_end, noted_more, noted_none}
use Rattle.lsp_server.proofs.TakingLemmas.{reading_start, reading_more, given_some, given_none, did_kept, did_refused, did_stands, refused_in_sink, took_given, few_more, no_step_spent, step_tells, no_step_fault}
use Rattle.lsp_server.proofs.reads.over_reads.Goals as goal

pub loop-init : goal.loop-init
loop-init g c = record {
  reading = reading_start c.requires.lawful (c.args.consumer.now, c.args.state.now) (moment (g.T.Transport.left c.args.io.now) (g.T.Sink.taken c.args.io.now) (g.T.Sink.flushed c.args.io.now)) c.requires.opened;
  opened = c.requires.opened;
  size = refl;
  flushed = λ was. was;
  reads_count = refl;
  writes_count = refl;
  noted = noted_none _ (g.T.Transport.reads c.args.io.now);
  tied = refl;
  consumer_tied = refl;
}

pub returns-in-Err-clause-in_order : goal.returns-in-Err-clause-in_order
returns-in-Err-clause-in_order g c = rw c.in-Err.ensures.unnoted (in_order_so_far _ (g.T.Transport.reads c.args.io.now) (g.T.Transport.reads c.loop.io) c.loop.counter c.loop.invariant.noted)

pub returns-clause-in_order : goal.returns-clause-in_order
returns-clause-in_order g c = in_order_so_far _ (g.T.Transport.reads c.args.io.now) (g.T.Transport.reads c.loop.io) c.loop.counter c.loop.invariant.noted

pub returns-in-Err-clause-within : goal.returns-in-Err-clause-within
returns-in-Err-clause-within g c =
    let start = moment (g.T.Transport.left c.args.io.now) (g.T.Sink.taken c.args.io.now) (g.T.Sink.flushed c.args.io.now) in
    let now = moment (g.T.Transport.left c.loop.io) (g.T.Sink.taken c.loop.io) (g.T.Sink.flushed c.loop.io) in
    let below : c.loop.counter < c.args.reads = search rules in
    record {
      few = few_more (c.args.consumer.now, c.args.state.now) start now (c.loop.consumer, c.loop.state) c.loop.counter c.loop.invariant.reading (g.T.Transport.left c.read.new.self) [] c.args.reads
          (kept_none (g.T.Transport.left c.loop.io) (g.T.Transport.left c.read.new.self) c.in-Err.ensures.gives.kept) (omega arith) (omega (arith, below));
      reads_spent = λ is. absurd (cc);
      few_reads = rw c.in-Err.ensures.unnoted (few_so_far _ (g.T.Transport.reads c.args.io.now) (g.T.Transport.reads c.loop.io) c.loop.counter c.args.reads (omega (arith, below)) c.loop.invariant.noted);
      all_reads = λ is. absurd (cc);
      fewer_at_fault = λ is. rw c.in-Err.ensures.unnoted (fewer_so_far _ (g.T.Transport.reads c.args.io.now) (g.T.Transport.reads c.loop.io) c.loop.counter c.args.reads below c.loop.invariant.noted);
    }

-- ---- the end of input

pub returns-then-n-eq0-clause-last : goal.returns-then-n-eq0-clause-last
returns-then-n-eq0-clause-last g c _ =
    let apart = g.met.T.Transport.apart c.finish.new.sink c.read.new.self (c.finish.ensures.sink.faults.beside) in
    let gives = consumes_to (g.T.Transport.left c.loop.io) (g.T.Transport.left c.read.new.self) (g.T.Transport.left c.finish.new.sink) (take c.in-Ok.n c.read.new.piece) apart.0 c.in-Ok.ensures.gives.gives in
    let start = moment (g.T.Transport.left c.args.io.now) (g.T.Sink.taken c.args.io.now) (g.T.Sink.flushed c.args.io.now) in
    let now = moment (g.T.Transport.left c.loop.io) (g.T.Sink.taken c.loop.io) (g.T.Sink.flushed c.loop.io) in
    let later = moment (g.T.Transport.left c.finish.new.sink) (g.T.Sink.taken c.finish.new.sink) (g.T.Sink.flushed c.finish.new.sink) in
    let did : Did g.C.Consumer.meaning (c.loop.consumer, c.loop.state) (given_of (take c.in-Ok.n c.read.new.piece)) (last_outcome c.finish.result) (g.T.Sink.taken c.loop.io) (g.T.Sink.taken c.finish.new.sink) (c.finish.new.consumer, c.finish.new.state) = rw (given_none c.in-Ok.n c.read.new.piece c.if-n-eq0.true) (rw c.in-Ok.ensures.taken at c.finish.ensures.did) in
    (took_given (c.args.consumer.now, c.args.state.now) start now (c.loop.consumer, c.loop.state) c.loop.counter c.loop.invariant.reading c.read.new.piece later c.in-Ok.n (last_outcome c.finish.result) (c.finish.new.consumer, c.finish.new.state)
    c.in-Ok.ensures.gives.within (search rules) c.in-Ok.ensures.gives.ends gives did)

pub returns-then-n-eq0-clause-in_order : goal.returns-then-n-eq0-clause-in_order
returns-then-n-eq0-clause-in_order g c =
    let apart = g.met.T.Transport.apart c.finish.new.sink c.read.new.self (c.finish.ensures.sink.faults.beside) in
    let now = moment (g.T.Transport.left c.loop.io) (g.T.Sink.taken c.loop.io) (g.T.Sink.flushed c.loop.io) in
    rw apart.2 (in_order_last_read _ (g.T.Transport.reads c.args.io.now) (g.T.Transport.reads c.loop.io) (g.T.Transport.reads c.read.new.self) now c.loop.counter c.loop.invariant.noted c.in-Ok.ensures.notes
    (record { consumer = (c.loop.consumer, c.loop.state); took = c.loop.invariant.reading.took; flushed = c.loop.invariant.flushed }))

pub returns-then-n-eq0-clause-within : goal.returns-then-n-eq0-clause-within
returns-then-n-eq0-clause-within g c =
    let apart = g.met.T.Transport.apart c.finish.new.sink c.read.new.self (c.finish.ensures.sink.faults.beside) in
    let gives = consumes_to (g.T.Transport.left c.loop.io) (g.T.Transport.left c.read.new.self) (g.T.Transport.left c.finish.new.sink) (take c.in-Ok.n c.read.new.piece) apart.0 c.in-Ok.ensures.gives.gives in
    let start = moment (g.T.Transport.left c.args.io.now) (g.T.Sink.taken c.args.io.now) (g.T.Sink.flushed c.args.io.now) in
    let now = moment (g.T.Transport.left c.loop.io) (g.T.Sink.taken c.loop.io) (g.T.Sink.flushed c.loop.io) in
    let later = moment (g.T.Transport.left c.finish.new.sink) (g.T.Sink.taken c.finish.new.sink) (g.T.Sink.flushed c.finish.new.sink) in
    let others = c.finish.ensures.sink.others in
    record {
      few = few_more (c.args.consumer.now, c.args.state.now) start now (c.loop.consumer, c.loop.state) c.loop.counter c.loop.invariant.reading (g.T.Transport.left c.finish.new.sink) (take c.in-Ok.n c.read.new.piece) c.args.reads gives
          (omega (arith, c.in-Ok.ensures.gives.within, length-take c.in-Ok.n c.read.new.piece)) (search rules);
      reads_spent = no_step_spent _ c.finish.result others;
      few_reads = rw apart.2 (few_reads _ (g.T.Transport.reads c.args.io.now) (g.T.Transport.reads c.loop.io) (g.T.Transport.reads c.read.new.self) now c.loop.counter c.loop.invariant.noted c.in-Ok.ensures.notes c.args.reads (search rules));
      all_reads = no_step_spent _ c.finish.result others;
      fewer_at_fault = no_step_fault _ c.finish.result others;
    }

pub returns-then-n-eq0-clause-faults : goal.returns-then-n-eq0-clause-faults
returns-then-n-eq0-clause-faults g c =
    let apart = g.met.T.Transport.apart c.finish.new.sink c.read.new.self (c.finish.ensures.sink.faults.beside) in
    let others = c.finish.ensures.sink.others in
    let faults = c.finish.ensures.sink.faults in
    step_tells g.T.Sink.faults g.T.Sink.beside c.read.new.self c.finish.new.sink (g.T.Transport.read_faults c.args.io.now) (g.T.Transport.read_faults c.finish.new.sink) (g.T.Sink.faults c.args.io.now)
    (apart.1 ∙ c.in-Ok.ensures.counts.unfailed ∙ c.loop.invariant.reads_count) (c.in-Ok.ensures.write_faults ∙ c.loop.invariant.writes_count) c.finish.result others faults

pub returns-then-n-eq0-clause-tied : goal.returns-then-n-eq0-clause-tied
returns-then-n-eq0-clause-tied g c =
    let apart = g.met.T.Transport.apart c.finish.new.sink c.read.new.self (c.finish.ensures.sink.faults.beside) in
    (apart.3 ∙ c.in-Ok.ensures.tied ∙ c.loop.invariant.tied, c.finish.ensures.tied ∙ c.loop.invariant.consumer_tied)

-- ---- the flush failed

pub returns-in_err-flush-in-Ok-take-clause-last : goal.returns-in_err-flush-in-Ok-take-clause-last
returns-in_err-flush-in-Ok-take-clause-last g c _ =
    let apart = g.met.T.Transport.apart c.flush.new.self c.read.new.self (c.flush.ensures.beside ∙ c.take.ensures.sink.faults.beside) in
    let gives = consumes_to (g.T.Transport.left c.loop.io) (g.T.Transport.left c.read.new.self) (g.T.Transport.left c.flush.new.self) (take c.in-Ok.n c.read.new.piece) apart.0 c.in-Ok.ensures.gives.gives in
    let start = moment (g.T.Transport.left c.args.io.now) (g.T.Sink.taken c.args.io.now) (g.T.Sink.flushed c.args.io.now) in
    let now = moment (g.T.Transport.left c.loop.io) (g.T.Sink.taken c.loop.io) (g.T.Sink.flushed c.loop.io) in
    let later = moment (g.T.Transport.left c.flush.new.self) (g.T.Sink.taken c.flush.new.self) (g.T.Sink.flushed c.flush.new.self) in
    let some : 0 < length (take c.in-Ok.n c.read.new.piece) = omega (arith, c.if-n-eq0.false, c.in-Ok.ensures.gives.within, length-take c.in-Ok.n c.read.new.piece) in
    let did : Did g.C.Consumer.meaning (c.loop.consumer, c.loop.state) (given_of (take c.in-Ok.n c.read.new.piece)) (stops (refused_error c.in_err-flush-in-Ok-take.field-0.0)) (g.T.Sink.taken c.loop.io) (g.T.Sink.taken c.flush.new.self) (c.take.new.self, c.take.new.state) = rw (given_some (take c.in-Ok.n c.read.new.piece) some) (did_refused c.requires.lawful _ _ _ _ _ _ _ (refused_error c.in_err-flush-in-Ok-take.field-0.0) (rw c.in-Ok.ensures.taken at c.take.ensures.did) c.flush.ensures.flushes.taken (refused_in_sink c.in_err-flush-in-Ok-take.field-0.0)) in
    let is : last_outcome c.from_residual.result ≡ stops (refused_error c.in_err-flush-in-Ok-take.field-0.0) = search rules in
    rw is (took_given (c.args.consumer.now, c.args.state.now) start now (c.loop.consumer, c.loop.state) c.loop.counter c.loop.invariant.reading c.read.new.piece later c.in-Ok.n (stops (refused_error c.in_err-flush-in-Ok-take.field-0.0)) (c.take.new.self, c.take.new.state)
    c.in-Ok.ensures.gives.within (search rules) c.in-Ok.ensures.gives.ends gives did)

pub returns-in_err-flush-in-Ok-take-clause-in_order : goal.returns-in_err-flush-in-Ok-take-clause-in_order
returns-in_err-flush-in-Ok-take-clause-in_order g c =
    let apart = g.met.T.Transport.apart c.flush.new.self c.read.new.self (c.flush.ensures.beside ∙ c.take.ensures.sink.faults.beside) in
    let now = moment (g.T.Transport.left c.loop.io) (g.T.Sink.taken c.loop.io) (g.T.Sink.flushed c.loop.io) in
    rw apart.2 (in_order_last_read _ (g.T.Transport.reads c.args.io.now) (g.T.Transport.reads c.loop.io) (g.T.Transport.reads c.read.new.self) now c.loop.counter c.loop.invariant.noted c.in-Ok.ensures.notes
    (record { consumer = (c.loop.consumer, c.loop.state); took = c.loop.invariant.reading.took; flushed = c.loop.invariant.flushed }))

pub returns-in_err-flush-in-Ok-take-clause-within : goal.returns-in_err-flush-in-Ok-take-clause-within
returns-in_err-flush-in-Ok-take-clause-within g c =
    let apart = g.met.T.Transport.apart c.flush.new.self c.read.new.self (c.flush.ensures.beside ∙ c.take.ensures.sink.faults.beside) in
    let gives = consumes_to (g.T.Transport.left c.loop.io) (g.T.Transport.left c.read.new.self) (g.T.Transport.left c.flush.new.self) (take c.in-Ok.n c.read.new.piece) apart.0 c.in-Ok.ensures.gives.gives in
    let start = moment (g.T.Transport.left c.args.io.now) (g.T.Sink.taken c.args.io.now) (g.T.Sink.flushed c.args.io.now) in
    let now = moment (g.T.Transport.left c.loop.io) (g.T.Sink.taken c.loop.io) (g.T.Sink.flushed c.loop.io) in
    let later = moment (g.T.Transport.left c.flush.new.self) (g.T.Sink.taken c.flush.new.self) (g.T.Sink.flushed c.flush.new.self) in
    let others : IfErr c.from_residual.result IsInStep = search rules in
    record {
      few = few_more (c.args.consumer.now, c.args.state.now) start now (c.loop.consumer, c.loop.state) c.loop.counter c.loop.invariant.reading (g.T.Transport.left c.flush.new.self) (take c.in-Ok.n c.read.new.piece) c.args.reads gives
          (omega (arith, c.in-Ok.ensures.gives.within, length-take c.in-Ok.n c.read.new.piece)) (search rules);
      reads_spent = no_step_spent _ c.from_residual.result others;
      few_reads = rw apart.2 (few_reads _ (g.T.Transport.reads c.args.io.now) (g.T.Transport.reads c.loop.io) (g.T.Transport.reads c.read.new.self) now c.loop.counter c.loop.invariant.noted c.in-Ok.ensures.notes c.args.reads (search rules));
      all_reads = no_step_spent _ c.from_residual.result others;
      fewer_at_fault = no_step_fault _ c.from_residual.result others;
    }

pub returns-in_err-flush-in-Ok-take-clause-faults : goal.returns-in_err-flush-in-Ok-take-clause-faults
returns-in_err-flush-in-Ok-take-clause-faults g c =
    let apart = g.met.T.Transport.apart c.flush.new.self c.read.new.self (c.flush.ensures.beside ∙ c.take.ensures.sink.faults.beside) in
    let others : IfErr c.from_residual.result IsInStep = search rules in
    let faults : LeavesFaults g.T.Sink.faults g.T.Sink.beside c.read.new.self c.flush.new.self (result_err c.from_residual.result) = search rules in
    step_tells g.T.Sink.faults g.T.Sink.beside c.read.new.self c.flush.new.self (g.T.Transport.read_faults c.args.io.now) (g.T.Transport.read_faults c.flush.new.self) (g.T.Sink.faults c.args.io.now)
    (apart.1 ∙ c.in-Ok.ensures.counts.unfailed ∙ c.loop.invariant.reads_count) (c.in-Ok.ensures.write_faults ∙ c.loop.invariant.writes_count) c.from_residual.result others faults

pub returns-in_err-flush-in-Ok-take-clause-tied : goal.returns-in_err-flush-in-Ok-take-clause-tied
returns-in_err-flush-in-Ok-take-clause-tied g c =
    let apart = g.met.T.Transport.apart c.flush.new.self c.read.new.self (c.flush.ensures.beside ∙ c.take.ensures.sink.faults.beside) in
    (apart.3 ∙ c.in-Ok.ensures.tied ∙ c.loop.invariant.tied, c.take.ensures.tied ∙ c.loop.invariant.consumer_tied)

-- ---- the consumer is done

pub returns-then-done-clause-last : goal.returns-then-done-clause-last
returns-then-done-clause-last g c _ =
    let apart = g.met.T.Transport.apart c.flush.new.self c.read.new.self (c.flush.ensures.beside ∙ c.take.ensures.sink.faults.beside) in
    let gives = consumes_to (g.T.Transport.left c.loop.io) (g.T.Transport.left c.read.new.self) (g.T.Transport.left c.flush.new.self) (take c.in-Ok.n c.read.new.piece) apart.0 c.in-Ok.ensures.gives.gives in
    let start = moment (g.T.Transport.left c.args.io.now) (g.T.Sink.taken c.args.io.now) (g.T.Sink.flushed c.args.io.now) in
    let now = moment (g.T.Transport.left c.loop.io) (g.T.Sink.taken c.loop.io) (g.T.Sink.flushed c.loop.io) in
    let later = moment (g.T.Transport.left c.flush.new.self) (g.T.Sink.taken c.flush.new.self) (g.T.Sink.flushed c.flush.new.self) in
    let some : 0 < length (take c.in-Ok.n c.read.new.piece) = omega (arith, c.if-n-eq0.false, c.in-Ok.ensures.gives.within, length-take c.in-Ok.n c.read.new.piece) in
    let did : Did g.C.Consumer.meaning (c.loop.consumer, c.loop.state) (given_of (take c.in-Ok.n c.read.new.piece)) (done) (g.T.Sink.taken c.loop.io) (g.T.Sink.taken c.flush.new.self) (c.take.new.self, c.take.new.state) = rw (given_some (take c.in-Ok.n c.read.new.piece) some) (did_kept _ _ _ _ _ _ _ (rw (c.in-Ok.ensures.taken, c.if-done.true) at c.in-Ok-take.ensures.did) c.flush.ensures.flushes.taken) in
    (took_given (c.args.consumer.now, c.args.state.now) start now (c.loop.consumer, c.loop.state) c.loop.counter c.loop.invariant.reading c.read.new.piece later c.in-Ok.n (done) (c.take.new.self, c.take.new.state)
    c.in-Ok.ensures.gives.within (search rules) c.in-Ok.ensures.gives.ends gives did)

pub returns-then-done-clause-in_order : goal.returns-then-done-clause-in_order
returns-then-done-clause-in_order g c =
    let apart = g.met.T.Transport.apart c.flush.new.self c.read.new.self (c.flush.ensures.beside ∙ c.take.ensures.sink.faults.beside) in
    let now = moment (g.T.Transport.left c.loop.io) (g.T.Sink.taken c.loop.io) (g.T.Sink.flushed c.loop.io) in
    rw apart.2 (in_order_last_read _ (g.T.Transport.reads c.args.io.now) (g.T.Transport.reads c.loop.io) (g.T.Transport.reads c.read.new.self) now c.loop.counter c.loop.invariant.noted c.in-Ok.ensures.notes
    (record { consumer = (c.loop.consumer, c.loop.state); took = c.loop.invariant.reading.took; flushed = c.loop.invariant.flushed }))

pub returns-then-done-clause-within : goal.returns-then-done-clause-within
returns-then-done-clause-within g c =
    let apart = g.met.T.Transport.apart c.flush.new.self c.read.new.self (c.flush.ensures.beside ∙ c.take.ensures.sink.faults.beside) in
    let gives = consumes_to (g.T.Transport.left c.loop.io) (g.T.Transport.left c.read.new.self) (g.T.Transport.left c.flush.new.self) (take c.in-Ok.n c.read.new.piece) apart.0 c.in-Ok.ensures.gives.gives in
    let start = moment (g.T.Transport.left c.args.io.now) (g.T.Sink.taken c.args.io.now) (g.T.Sink.flushed c.args.io.now) in
    let now = moment (g.T.Transport.left c.loop.io) (g.T.Sink.taken c.loop.io) (g.T.Sink.flushed c.loop.io) in
    let later = moment (g.T.Transport.left c.flush.new.self) (g.T.Sink.taken c.flush.new.self) (g.T.Sink.flushed c.flush.new.self) in
    record {
      few = few_more (c.args.consumer.now, c.args.state.now) start now (c.loop.consumer, c.loop.state) c.loop.counter c.loop.invariant.reading (g.T.Transport.left c.flush.new.self) (take c.in-Ok.n c.read.new.piece) c.args.reads gives
          (omega (arith, c.in-Ok.ensures.gives.within, length-take c.in-Ok.n c.read.new.piece)) (search rules);
      reads_spent = tt;
      few_reads = rw apart.2 (few_reads _ (g.T.Transport.reads c.args.io.now) (g.T.Transport.reads c.loop.io) (g.T.Transport.reads c.read.new.self) now c.loop.counter c.loop.invariant.noted c.in-Ok.ensures.notes c.args.reads (search rules));
      all_reads = tt;
      fewer_at_fault = tt;
    }

pub returns-then-done-clause-faults : goal.returns-then-done-clause-faults
returns-then-done-clause-faults g c =
    let apart = g.met.T.Transport.apart c.flush.new.self c.read.new.self (c.flush.ensures.beside ∙ c.take.ensures.sink.faults.beside) in
    let faults : LeavesFaults g.T.Sink.faults g.T.Sink.beside c.read.new.self c.flush.new.self None = search rules in
    step_tells g.T.Sink.faults g.T.Sink.beside c.read.new.self c.flush.new.self (g.T.Transport.read_faults c.args.io.now) (g.T.Transport.read_faults c.flush.new.self) (g.T.Sink.faults c.args.io.now)
    (apart.1 ∙ c.in-Ok.ensures.counts.unfailed ∙ c.loop.invariant.reads_count) (c.in-Ok.ensures.write_faults ∙ c.loop.invariant.writes_count) (Ok true) tt faults

pub returns-then-done-clause-tied : goal.returns-then-done-clause-tied
returns-then-done-clause-tied g c =
    let apart = g.met.T.Transport.apart c.flush.new.self c.read.new.self (c.flush.ensures.beside ∙ c.take.ensures.sink.faults.beside) in
    (apart.3 ∙ c.in-Ok.ensures.tied ∙ c.loop.invariant.tied, c.take.ensures.tied ∙ c.loop.invariant.consumer_tied)

-- ---- the consumer failed

pub returns-in-Err-take-clause-last : goal.returns-in-Err-take-clause-last
returns-in-Err-take-clause-last g c _ =
    let apart = g.met.T.Transport.apart c.flush_after.new.sink c.read.new.self (c.flush_after.ensures.beside ∙ c.take.ensures.sink.faults.beside) in
    let gives = consumes_to (g.T.Transport.left c.loop.io) (g.T.Transport.left c.read.new.self) (g.T.Transport.left c.flush_after.new.sink) (take c.in-Ok.n c.read.new.piece) apart.0 c.in-Ok.ensures.gives.gives in
    let start = moment (g.T.Transport.left c.args.io.now) (g.T.Sink.taken c.args.io.now) (g.T.Sink.flushed c.args.io.now) in
    let now = moment (g.T.Transport.left c.loop.io) (g.T.Sink.taken c.loop.io) (g.T.Sink.flushed c.loop.io) in
    let later = moment (g.T.Transport.left c.flush_after.new.sink) (g.T.Sink.taken c.flush_after.new.sink) (g.T.Sink.flushed c.flush_after.new.sink) in
    let some : 0 < length (take c.in-Ok.n c.read.new.piece) = omega (arith, c.if-n-eq0.false, c.in-Ok.ensures.gives.within, length-take c.in-Ok.n c.read.new.piece) in
    let did : Did g.C.Consumer.meaning (c.loop.consumer, c.loop.state) (given_of (take c.in-Ok.n c.read.new.piece)) (stops c.flush_after.result) (g.T.Sink.taken c.loop.io) (g.T.Sink.taken c.flush_after.new.sink) (c.take.new.self, c.take.new.state) = rw (given_some (take c.in-Ok.n c.read.new.piece) some) (did_stands c.requires.lawful _ _ _ _ _ _ c.in-Err-take.error c.flush_after.result (rw c.in-Ok.ensures.taken at c.in-Err-take.ensures.did) c.flush_after.ensures.taken c.flush_after.ensures.stands) in
    (took_given (c.args.consumer.now, c.args.state.now) start now (c.loop.consumer, c.loop.state) c.loop.counter c.loop.invariant.reading c.read.new.piece later c.in-Ok.n (stops c.flush_after.result) (c.take.new.self, c.take.new.state)
    c.in-Ok.ensures.gives.within (search rules) c.in-Ok.ensures.gives.ends gives did)

pub returns-in-Err-take-clause-in_order : goal.returns-in-Err-take-clause-in_order
returns-in-Err-take-clause-in_order g c =
    let apart = g.met.T.Transport.apart c.flush_after.new.sink c.read.new.self (c.flush_after.ensures.beside ∙ c.take.ensures.sink.faults.beside) in
    let now = moment (g.T.Transport.left c.loop.io) (g.T.Sink.taken c.loop.io) (g.T.Sink.flushed c.loop.io) in
    rw apart.2 (in_order_last_read _ (g.T.Transport.reads c.args.io.now) (g.T.Transport.reads c.loop.io) (g.T.Transport.reads c.read.new.self) now c.loop.counter c.loop.invariant.noted c.in-Ok.ensures.notes
    (record { consumer = (c.loop.consumer, c.loop.state); took = c.loop.invariant.reading.took; flushed = c.loop.invariant.flushed }))

pub returns-in-Err-take-clause-within : goal.returns-in-Err-take-clause-within
returns-in-Err-take-clause-within g c =
    let apart = g.met.T.Transport.apart c.flush_after.new.sink c.read.new.self (c.flush_after.ensures.beside ∙ c.take.ensures.sink.faults.beside) in
    let gives = consumes_to (g.T.Transport.left c.loop.io) (g.T.Transport.left c.read.new.self) (g.T.Transport.left c.flush_after.new.sink) (take c.in-Ok.n c.read.new.piece) apart.0 c.in-Ok.ensures.gives.gives in
    let start = moment (g.T.Transport.left c.args.io.now) (g.T.Sink.taken c.args.io.now) (g.T.Sink.flushed c.args.io.now) in
    let now = moment (g.T.Transport.left c.loop.io) (g.T.Sink.taken c.loop.io) (g.T.Sink.flushed c.loop.io) in
    let later = moment (g.T.Transport.left c.flush_after.new.sink) (g.T.Sink.taken c.flush_after.new.sink) (g.T.Sink.flushed c.flush_after.new.sink) in
    let stopped : Result Bool ServeError = Err c.flush_after.result in
    let others : IsInStep c.flush_after.result = search rules in
    record {
      few = few_more (c.args.consumer.now, c.args.state.now) start now (c.loop.consumer, c.loop.state) c.loop.counter c.loop.invariant.reading (g.T.Transport.left c.flush_after.new.sink) (take c.in-Ok.n c.read.new.piece) c.args.reads gives
          (omega (arith, c.in-Ok.ensures.gives.within, length-take c.in-Ok.n c.read.new.piece)) (search rules);
      reads_spent = no_step_spent _ stopped others;
      few_reads = rw apart.2 (few_reads _ (g.T.Transport.reads c.args.io.now) (g.T.Transport.reads c.loop.io) (g.T.Transport.reads c.read.new.self) now c.loop.counter c.loop.invariant.noted c.in-Ok.ensures.notes c.args.reads (search rules));
      all_reads = no_step_spent _ stopped others;
      fewer_at_fault = no_step_fault _ stopped others;
    }

pub returns-in-Err-take-clause-faults : goal.returns-in-Err-take-clause-faults
returns-in-Err-take-clause-faults g c =
    let apart = g.met.T.Transport.apart c.flush_after.new.sink c.read.new.self (c.flush_after.ensures.beside ∙ c.take.ensures.sink.faults.beside) in
    let stopped : Result Bool ServeError = Err c.flush_after.result in
    let others : IsInStep c.flush_after.result = search rules in
    let faults : LeavesFaults g.T.Sink.faults g.T.Sink.beside c.read.new.self c.flush_after.new.sink (Some c.flush_after.result) = search rules in
    step_tells g.T.Sink.faults g.T.Sink.beside c.read.new.self c.flush_after.new.sink (g.T.Transport.read_faults c.args.io.now) (g.T.Transport.read_faults c.flush_after.new.sink) (g.T.Sink.faults c.args.io.now)
    (apart.1 ∙ c.in-Ok.ensures.counts.unfailed ∙ c.loop.invariant.reads_count) (c.in-Ok.ensures.write_faults ∙ c.loop.invariant.writes_count) stopped others faults

pub returns-in-Err-take-clause-tied : goal.returns-in-Err-take-clause-tied
returns-in-Err-take-clause-tied g c =
    let apart = g.met.T.Transport.apart c.flush_after.new.sink c.read.new.self (c.flush_after.ensures.beside ∙ c.take.ensures.sink.faults.beside) in
    (apart.3 ∙ c.in-Ok.ensures.tied ∙ c.loop.invariant.tied, c.take.ensures.tied ∙ c.loop.invariant.consumer_tied)

-- ---- one piece more

pub loop-preserved : goal.loop-preserved
loop-preserved g c =
    let apart = g.met.T.Transport.apart c.flush.new.self c.read.new.self (c.flush.ensures.beside ∙ c.take.ensures.sink.faults.beside) in
    let gives = consumes_to (g.T.Transport.left c.loop.io) (g.T.Transport.left c.read.new.self) (g.T.Transport.left c.flush.new.self) (take c.in-Ok.n c.read.new.piece) apart.0 c.in-Ok.ensures.gives.gives in
    let start = moment (g.T.Transport.left c.args.io.now) (g.T.Sink.taken c.args.io.now) (g.T.Sink.flushed c.args.io.now) in
    let now = moment (g.T.Transport.left c.loop.io) (g.T.Sink.taken c.loop.io) (g.T.Sink.flushed c.loop.io) in
    let later = moment (g.T.Transport.left c.flush.new.self) (g.T.Sink.taken c.flush.new.self) (g.T.Sink.flushed c.flush.new.self) in
    let some : 0 < length (take c.in-Ok.n c.read.new.piece) = omega (arith, c.if-n-eq0.false, c.in-Ok.ensures.gives.within, length-take c.in-Ok.n c.read.new.piece) in
    let did = did_kept _ _ _ _ _ _ _ (rw (c.in-Ok.ensures.taken, c.if-done.false) at c.in-Ok-take.ensures.did) c.flush.ensures.flushes.taken in
    record {
      reading = reading_more (c.args.consumer.now, c.args.state.now) start now (c.loop.consumer, c.loop.state) c.loop.counter c.loop.invariant.reading c.requires.lawful later (take c.in-Ok.n c.read.new.piece) (c.take.new.self, c.take.new.state) gives did
          some (omega (arith, c.in-Ok.ensures.gives.within, length-take c.in-Ok.n c.read.new.piece));
      opened = c.requires.lawful.opens (c.loop.consumer, c.loop.state) (c.take.new.self, c.take.new.state) (piece (take c.in-Ok.n c.read.new.piece)) did.written did.does;
      size = search rules;
      flushed = search rules;
      reads_count = apart.1 ∙ c.in-Ok.ensures.counts.unfailed ∙ c.loop.invariant.reads_count;
      writes_count = c.in_ok-flush-in-Ok-take.ensures.counts.unfailed ∙ c.in-Ok-take.ensures.sink.faults.unfailed ∙ c.in-Ok.ensures.write_faults ∙ c.loop.invariant.writes_count;
      noted = rw apart.2 (noted_more _ (g.T.Transport.reads c.args.io.now) (g.T.Transport.reads c.loop.io) (g.T.Transport.reads c.read.new.self) now c.loop.counter c.loop.invariant.noted c.in-Ok.ensures.notes (
        record { consumer = (c.loop.consumer, c.loop.state); took = c.loop.invariant.reading.took; flushed = c.loop.invariant.flushed },
        not_at_end (g.T.Transport.left c.loop.io) c.in-Ok.n c.in-Ok.ensures.gives.ends (λ is. omega (arith, some, is, length-take c.in-Ok.n c.read.new.piece)),
      ));
      tied = apart.3 ∙ c.in-Ok.ensures.tied ∙ c.loop.invariant.tied;
      consumer_tied = c.take.ensures.tied ∙ c.loop.invariant.consumer_tied;
    }
