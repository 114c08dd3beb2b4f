use Rattle.std.proofs.Common.{arith}
use Rattle.std.proofs.lemmas.Str.Pattern.{split_parts}
use Rattle.lsp_frame.proofs.TypeParts.{parts_of_cut, shorter_of_cut}
use Rattle.lsp_frame.proofs.headers.cut.Goals as goal

pub returns-clause-parts : goal.returns-clause-parts
returns-clause-parts c = parts_of_cut c.args.value.now c.split_once.result (split_parts 59 c.args.value.now c.split_once.result c.split_once.ensures.cases (omega arith))

pub returns-clause-shorter : goal.returns-clause-shorter
returns-clause-shorter c = shorter_of_cut c.args.value.now c.split_once.result (split_parts 59 c.args.value.now c.split_once.result c.split_once.ensures.cases (omega arith))
