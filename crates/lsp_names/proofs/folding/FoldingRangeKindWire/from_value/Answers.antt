use Rattle.std.proofs.Common.{refl, rules}
use Rattle.serde_json.specs.View.{view}
use Rattle.lsp_shape.specs.declared.why.Wanted.TheVariants as wants
use Rattle.lsp_shape.proofs.Told.{wants_other}
use Rattle.lsp_names.specs.Folding.{folding_range_kind_row}
use Rattle.lsp_names.proofs.folding.FoldingRangeKindWire.from_value.Goals as goal

pub returns-in_default-clause-unfit : goal.returns-in_default-clause-unfit
unfolding folding_range_kind_row
returns-in_default-clause-unfit c =
    wants_other wants.Name folding_range_kind_row.shape (view c.args.value.now) c.wanted.result c.wanted.ensures.refuses refl refl (search rules)
