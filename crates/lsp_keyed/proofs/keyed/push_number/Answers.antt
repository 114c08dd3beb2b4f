use Rattle.std.proofs.Common.{◌∙◌}
use Rattle.lsp_keyed.proofs.IndexLemmas.{key_last}
use Rattle.lsp_keyed.proofs.keyed.push_number.Goals as goal

pub returns-clause-ok : goal.returns-clause-ok
returns-clause-ok c = c.in_ok-insert.ensures.keys ∙ key_last c.args.number c.args.numbers.now.keys c.requires
