-- What the reads come to for a query, and what the status tells of it.
use Rattle.std.proofs.Common.{◌-◌, ◌^◌, [], not, sym, subst, rules}
use Rattle.std.specs.Prelude.{None}
use Rattle.lsp_server.specs.ServesSession.{SourceSinkTold}
use Rattle.lsp_index.specs.declared.lines.Lines.{Lines}
use Rattle.lsp_index.specs.Shown.{show_query}
use Rattle.lsp_index.specs.Ended.{AnswerEnded, AnswerTells, ended_with}
use Rattle.lsp_index.specs.Reading.{IsAfter}
use Rattle.lsp_index.proofs.AnsweredLemmas.{reading_lawful, answer_ended}
use Rattle.lsp_index.proofs.EndedLemmas.{status_tells}
use Rattle.lsp_index.proofs.ReadingLemmas.{after_none}
use Rattle.lsp_index.proofs.run.answer_query.Goals as goal

pub over_reads-ended-requires-clause-lawful : goal.over_reads-ended-requires-clause-lawful
over_reads-ended-requires-clause-lawful g c = reading_lawful

pub returns : goal.returns
returns g c =
    let told : SourceSinkTold = record {
      left = g.I.Source.left c.args.source.now;
      left_after = g.I.Source.left c.over_reads-ended.new.io.source.now;
      reads_failed = g.I.Source.faults c.args.source.now;
      reads_failed_after = g.I.Source.faults c.over_reads-ended.new.io.source.now;
      taken = g.O.Sink.taken c.args.sink.now;
      taken_after = g.O.Sink.taken c.over_reads-ended.new.io.sink.now;
      flushed = g.O.Sink.flushed c.args.sink.now;
      flushed_after = g.O.Sink.flushed c.over_reads-ended.new.io.sink.now;
      writes_failed = g.O.Sink.faults c.args.sink.now;
      writes_failed_after = g.O.Sink.faults c.over_reads-ended.new.io.sink.now;
    } in
    let lines : Lines = record { part = c.new.result } in
    let start : IsAfter (show_query c.args.query) [] (lines, c.new-search.result) =
    subst (λ q. IsAfter (show_query q) [] (lines, c.new-search.result)) c.new-search.ensures.0 (after_none lines c.new-search.result c.new.ensures.items c.new-search.ensures.1.0 c.new-search.ensures.1.1) in
    let ends = c.over_reads-ended.ensures in
    let ended : AnswerEnded (show_query c.args.query) (2 ^ 64 - 1) told None None (ended_with c.over_reads-ended.result (not c.over_reads-ended.new.state.is_bad)) =
    answer_ended (show_query c.args.query) (lines, c.new-search.result) (c.over_reads-ended.new.consumer, c.over_reads-ended.new.state) start (2 ^ 64 - 1) told None None c.over_reads-ended.result
    ends.last ends.took ends.flushed ends.faults ends.within in
    let tells : AnswerTells (show_query c.args.query) told c.status.result =
    subst (AnswerTells (show_query c.args.query) told) (sym c.status.ensures) (status_tells (show_query c.args.query) told _ ended) in
    search rules
