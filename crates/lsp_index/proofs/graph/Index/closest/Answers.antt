-- One more vertex.
use Rattle.std.proofs.Common.{arith}
use Rattle.std.specs.Prelude.{option_map}
use Rattle.lsp_index.specs.Shown.{show_ids, show_named}
use Rattle.lsp_index.proofs.SetLemmas.{closest_more}
use Rattle.lsp_index.proofs.graph.Index.closest.Goals as goal

pub loop-i-preserved : goal.loop-i-preserved
loop-i-preserved c =
    closest_more (show_ids c.args.named.now.keys) c.args.position c.args.self.now.vertices.entries c.loop-i.i (option_map show_named c.loop-i.closest) _ _ (omega (arith, c.len-i-end.ensures)) c.loop-i.invariant c.candidate.ensures c.closer-closest.ensures
