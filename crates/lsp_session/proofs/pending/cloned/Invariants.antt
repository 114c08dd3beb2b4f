use Rattle.std.proofs.Common.{◌≡◌, ◌++◌, map}
use Rattle.lsp_rpc.specs.Shown.{show_id}
use Rattle.lsp_session.specs.Live.{ids_of}
use Rattle.lsp_session.proofs.pending.cloned.Given as goal

-- those so far, and those that are left
abbrev pub invariant-loop-id : goal.invariant-loop-id
invariant-loop-id l = map show_id l.copies.items ++ ids_of l.id-iterator ≡ ids_of l.ids.entries
