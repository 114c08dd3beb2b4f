use Rattle.std.proofs.Common.{ℤ, Some, ap, sym, ◌∙◌, refl, rules, SFits, w32}
use Rattle.std.proofs.lemmas.Int.{to_z-of_z}
use Rattle.serde_json.specs.View.{view}
use Rattle.lsp_shape.specs.Shape.{i32_shape}
use Rattle.lsp_shape.specs.Shown.{show_signed}
use Rattle.lsp_shape.specs.declared.why.Wanted.TheVariants as wants
use Rattle.lsp_shape.proofs.Told.{wants_other, gave, gave_none}
use Rattle.lsp_shape.proofs.std_types.I32Wire.from_value.Goals as goal

pub returns-in-Some-clause-read : goal.returns-in-Some-clause-read
returns-in-Some-clause-read c =
    let fits : SFits w32 c.in-Some.n = search rules in
    gave show_signed c.i32_of.ensures c.in-Some.is ∙ ap (λ (z : ℤ). Some (show_signed z)) (sym (to_z-of_z w32 c.in-Some.n fits))

pub returns-in-None-clause-unfit : goal.returns-in-None-clause-unfit
returns-in-None-clause-unfit c = wants_other wants.Integer i32_shape (view c.args.value.now) c.wanted.result c.wanted.ensures.refuses refl refl (gave_none show_signed c.i32_of.ensures c.in-None.is)
