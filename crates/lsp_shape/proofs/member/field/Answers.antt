use Rattle.std.proofs.Common.{refl}
use Rattle.lsp_shape.proofs.Refusals.{said, no_member, missing_told, found_member, of_named, required_told}
use Rattle.lsp_shape.proofs.member.field.Goals as goal

pub returns-in-Some-clause-unfit : goal.returns-in-Some-clause-unfit
returns-in-Some-clause-unfit g c = λ why is t named. of_named (required_told (found_member c.find.result c.in-Some.value _ c.find.ensures c.in-Some.is) c.from_value.ensures.unfit (c.told_member.ensures.unfit why is)) t named

pub returns-in-None-clause-unfit : goal.returns-in-None-clause-unfit
returns-in-None-clause-unfit g c = λ why is t named.
    of_named (missing_told c.member.ensures (c.wanted.ensures.whole why (said _ c.wanted.result refl is)) (no_member c.find.result _ c.find.ensures c.in-None.is)) t named
