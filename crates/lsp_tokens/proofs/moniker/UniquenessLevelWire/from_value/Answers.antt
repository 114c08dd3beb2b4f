use Rattle.std.proofs.Common.{refl, rules}
use Rattle.serde_json.specs.View.{view}
use Rattle.lsp_shape.specs.declared.why.Wanted.TheVariants as wants
use Rattle.lsp_shape.proofs.Told.{wants_other}
use Rattle.lsp_tokens.specs.Moniker.{uniqueness_level_row}
use Rattle.lsp_tokens.proofs.moniker.UniquenessLevelWire.from_value.Goals as goal

pub returns-in_default-clause-unfit : goal.returns-in_default-clause-unfit
unfolding uniqueness_level_row
returns-in_default-clause-unfit c =
    wants_other wants.Name uniqueness_level_row.shape (view c.args.value.now) c.wanted.result c.wanted.ensures.refuses refl refl (search rules)
