use Rattle.std.proofs.Common.{refl}
use Rattle.lsp_shape.proofs.Refusals.{said}
use Rattle.lsp_uri.proofs.uri.Uri.of_text.Goals as goal

pub returns-in-Err-NotUri-clause-whole : goal.returns-in-Err-NotUri-clause-whole
returns-in-Err-NotUri-clause-whole c = λ why is. c.wanted.ensures.whole why (said _ c.wanted.result refl is)
