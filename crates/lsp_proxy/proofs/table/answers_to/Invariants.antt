use Rattle.std.proofs.Common.{◌≡◌, ◌++◌, map}
use Rattle.lsp_proxy.specs.Proxy.{refused}
use Rattle.lsp_proxy.specs.Sent.{all_sent}
use Rattle.lsp_proxy.specs.Tables.{table_entries}
use Rattle.lsp_proxy.proofs.table.answers_to.Given as goal

-- those so far, and those for what is left
abbrev pub invariant-loop-asker : goal.invariant-loop-asker
invariant-loop-asker l = all_sent l.sent.items ++ map refused (table_entries l.asker-iterator) ≡ map refused (table_entries l.entries.entries)
