use Rattle.std.proofs.Common.{◌∙◌}
use Rattle.lsp_frame.proofs.LengthParse.{length_of_parse}
use Rattle.lsp_frame.proofs.headers.length_value.Goals as goal

pub returns : goal.returns
returns c = c.ok.ensures.value ∙ length_of_parse c.args.value.now c.parse.result c.parse.ensures.value.0
