use Rattle.std.proofs.Common.{◌∙◌}
use Rattle.lsp_keyed.proofs.IndexLemmas.{key_removed}
use Rattle.lsp_keyed.proofs.keyed.remove_number.Goals as goal

pub returns : goal.returns
returns c = c.remove.ensures.keys ∙ key_removed c.args.number c.args.numbers.now.keys
