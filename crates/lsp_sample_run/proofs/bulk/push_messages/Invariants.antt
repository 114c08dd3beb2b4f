use Rattle.std.proofs.Common.{◌≡◌, ◌<◌, ◌++◌}
use Rattle.lsp_sample_run.specs.Bulk.{number_drawn, bodies}
use Rattle.lsp_sample_run.proofs.bulk.push_messages.Given as goal

-- the first so many messages
abbrev pub invariant-loop-k : goal.invariant-loop-k
invariant-loop-k l = record {
  small : l.x < 2147483648;
  is : l.x ≡ number_drawn l.fn.session.seed l.k;
  made : l.input.items ≡ l.fn.input.items ++ bodies l.fn.session.seed l.k;
}
