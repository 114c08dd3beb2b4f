use Rattle.lsp_uri.proofs.Addresses.{shortened-group}
use Rattle.lsp_uri.proofs.host.is_shortened.Goals as goal

pub returns : goal.returns
returns c = let e = shortened-group c.args.left.now c.args.right.now in cc
