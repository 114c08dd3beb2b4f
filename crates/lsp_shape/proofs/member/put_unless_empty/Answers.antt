use Rattle.std.proofs.Common.{◌≡◌, ◌==◌, false, length, arith}
use Rattle.std.proofs.lemmas.Grind.{common_steps}
use Rattle.lsp_shape.proofs.Items.{not_empty}
use Rattle.lsp_shape.proofs.member.put_unless_empty.Goals as goal

pub returns-else-is_empty-clause-ok : goal.returns-else-is_empty-clause-ok
returns-else-is_empty-clause-ok g c =
    let some : false ≡ (length c.args.value.now.items == 0) = grind (arith, common_steps) in
    rw (not_empty g.T.Wire.shown c.args.value.now.items some) c.put.ensures.ok
