use Rattle.std.proofs.Common.{◌≡◌, ◌+◌, length}
use Rattle.std.specs.Prelude.{count_by}
use Rattle.lsp_frame.specs.Codec.{told_at}
use Rattle.lsp_sample_run.specs.Bulk.{read_of, is_reply, is_error, is_own}
use Rattle.lsp_sample_run.proofs.bulk.count_all.Given as goal

-- those counted, and those that are still told
abbrev pub invariant-items : goal.invariant-items
invariant-items l = record {
  replies : l.tally.replies + count_by is_reply (told_at l.codec) ≡ count_by is_reply (read_of l.written);
  errors : l.tally.errors + count_by is_error (told_at l.codec) ≡ count_by is_error (read_of l.written);
  own : l.tally.own + count_by is_own (told_at l.codec) ≡ count_by is_own (read_of l.written);
}

abbrev pub decreases-items : goal.decreases-items
decreases-items l = length (told_at l.codec)
