use Rattle.std.proofs.Common.{refl, arith}
use Rattle.serde_json.specs.Data.{array}
use Rattle.serde_json.specs.View.{items_view}
use Rattle.lsp_shape.specs.Shape.{pair}
use Rattle.lsp_shape.specs.declared.why.Wanted.TheVariants as wants
use Rattle.lsp_shape.proofs.Pairs.{not_two}
use Rattle.lsp_shape.proofs.Told.{wants_other}
use Rattle.lsp_shape.proofs.std_types.read_pair.Goals as goal

pub returns-else-items-eq2-clause-unfit : goal.returns-else-items-eq2-clause-unfit
returns-else-items-eq2-clause-unfit c =
    wants_other wants.Length pair (array (items_view c.args.items.now)) c.wanted.result c.wanted.ensures.refuses refl refl (not_two _ (array (items_view c.args.items.now)) c.args.items.now refl (λ h. omega arith))
