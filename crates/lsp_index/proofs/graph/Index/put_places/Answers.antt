-- The text of the places that were put in.
use Rattle.std.proofs.Common.{sym, subst}
use Rattle.std.specs.Prelude.{option_map}
use Rattle.std.specs.Borrow.{Bor}
use Rattle.lsp_rpc.specs.Shown.{show_id}
use Rattle.lsp_rpc.specs.declared.id.Id.{Id}
use Rattle.lsp_index.specs.Queries.{IsListed}
use Rattle.lsp_index.proofs.ValueLemmas.{on_ok}
use Rattle.lsp_index.proofs.graph.Index.put_places.Goals as goal

pub returns : goal.returns
returns c = on_ok c.put_locations.result (λ p g kept.
    subst (IsListed g (option_map (λ (id : Bor Id). show_id id.now) c.args.reached)) (sym p) (c.in_ok-add_reached.ensures g kept)) c.put_locations.ensures
