use Rattle.std.proofs.Common.{refl}
use Rattle.lsp_shape.proofs.Refusals.{said}
use Rattle.lsp_shape.proofs.why.told_whole.Goals as goal

pub returns-in-Err-clause-whole : goal.returns-in-Err-clause-whole
returns-in-Err-clause-whole g c = λ why is. c.whole.ensures.whole why (said _ c.whole.result refl is)
