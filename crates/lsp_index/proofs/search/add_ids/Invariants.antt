-- The ids so far were put in.
use Rattle.std.proofs.Common.{◌≡◌, map, take, fold}
use Rattle.lsp_rpc.specs.Shown.{show_id}
use Rattle.lsp_base.specs.Position.{id_of}
use Rattle.lsp_index.specs.Queries.{with_new_id}
use Rattle.lsp_index.proofs.search.add_ids.Given as goal

abbrev pub invariant-loop-id : goal.invariant-loop-id
invariant-loop-id l = map show_id l.set.keys ≡ fold with_new_id (map show_id l.initial.set.keys) (map id_of (take l.id-index l.id-items))
