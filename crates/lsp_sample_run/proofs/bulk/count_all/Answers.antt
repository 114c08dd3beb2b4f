-- One item more is counted.
use Rattle.std.proofs.Common.{sym, ◌∙◌}
use Rattle.std.specs.Prelude.{count_by}
use Rattle.lsp_frame.specs.Codec.{shown}
use Rattle.lsp_sample_run.specs.Bulk.{read_of, is_reply, is_error, is_own}
use Rattle.lsp_sample_run.proofs.BulkLemmas.{told_next, counted, fewer}
use Rattle.lsp_sample_run.proofs.bulk.count_all.Goals as goal

pub items-preserved : goal.items-preserved
items-preserved c =
    let x = shown c.in_ok-decode.field-0 in
    let told = told_next c.items.codec c.decode.new.self x c.in_ok-decode.ensures.told in
    let more = c.in_ok-count_next.ensures.counted in
    record {
      replies = counted is_reply x c.items.tally.replies c.count_next.new.tally.replies (count_by is_reply (read_of c.args.written.now)) c.items.codec c.decode.new.self told more.replies c.items.invariant.replies;
      errors = counted is_error x c.items.tally.errors c.count_next.new.tally.errors (count_by is_error (read_of c.args.written.now)) c.items.codec c.decode.new.self told more.errors c.items.invariant.errors;
      own = counted is_own x c.items.tally.own c.count_next.new.tally.own (count_by is_own (read_of c.args.written.now)) c.items.codec c.decode.new.self told more.own c.items.invariant.own;
    }

pub items-smaller : goal.items-smaller
items-smaller c =
    let x = shown c.in_ok-decode.field-0 in
    fewer x c.items.codec c.decode.new.self (told_next c.items.codec c.decode.new.self x c.in_ok-decode.ensures.told) (sym c.in_ok-count_next.ensures.told ∙ c.if-branch.true)
