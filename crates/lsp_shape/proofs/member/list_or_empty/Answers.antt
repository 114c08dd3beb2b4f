use Rattle.lsp_shape.proofs.Refusals.{found_member, of_named, or_empty_told}
use Rattle.lsp_shape.proofs.member.list_or_empty.Goals as goal

pub returns-in-Some-clause-unfit : goal.returns-in-Some-clause-unfit
returns-in-Some-clause-unfit g c = λ why is t named. of_named (or_empty_told (found_member c.find.result c.in-Some.value _ c.find.ensures c.in-Some.is) c.from_value.ensures.unfit (c.told_member.ensures.unfit why is)) t named
