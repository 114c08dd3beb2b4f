use Rattle.std.proofs.Common.{arith}
use Rattle.lsp_shared.proofs.Moves.{passes}
use Rattle.lsp_shared.proofs.steps.pass.Goals as goal

pub fetch_add-requires : goal.fetch_add-requires
fetch_add-requires g c = (c.requires.here, (let w = c.args.desk.now.words in omega arith), passes _ _ _ _ _ c.requires.ready.0 c.requires.ready.1)
