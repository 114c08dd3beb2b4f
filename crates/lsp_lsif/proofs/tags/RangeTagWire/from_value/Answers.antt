use Rattle.std.proofs.Common.{refl, rules}
use Rattle.serde_json.specs.View.{view}
use Rattle.lsp_shape.specs.declared.why.Wanted.TheVariants as wants
use Rattle.lsp_lsif.proofs.Mapped.{form_mapped}
use Rattle.lsp_shape.proofs.Told.{wants_other}
use Rattle.lsp_lsif.specs.Tags.{range_tag_row}
use Rattle.lsp_lsif.specs.Tags.{definition_tag_row}
use Rattle.lsp_lsif.specs.Tags.{declaration_tag_row}
use Rattle.lsp_lsif.specs.Tags.{reference_tag_row}
use Rattle.lsp_lsif.specs.Tags.{unknown_tag_row}
use Rattle.lsp_lsif.proofs.tags.RangeTagWire.from_value.Goals as goal

pub returns-in-Some-definition-clause-unfit : goal.returns-in-Some-definition-clause-unfit
unfolding range_tag_row definition_tag_row declaration_tag_row reference_tag_row unknown_tag_row
returns-in-Some-definition-clause-unfit c =
    form_mapped _ c.form.result c.map.result range_tag_row.shape (view c.args.value.now) refl c.map.ensures.cases c.form.ensures.refuses
    (λ why is. let none = c.form.ensures.unfit why is in search rules)

pub returns-in-Some-declaration-clause-unfit : goal.returns-in-Some-declaration-clause-unfit
unfolding range_tag_row definition_tag_row declaration_tag_row reference_tag_row unknown_tag_row
returns-in-Some-declaration-clause-unfit c =
    form_mapped _ c.form-in-Some-declaration.result c.map-in-Some-declaration.result range_tag_row.shape (view c.args.value.now) refl c.map-in-Some-declaration.ensures.cases c.form-in-Some-declaration.ensures.refuses
    (λ why is. let none = c.form-in-Some-declaration.ensures.unfit why is in search rules)

pub returns-in-Some-reference-clause-unfit : goal.returns-in-Some-reference-clause-unfit
unfolding range_tag_row definition_tag_row declaration_tag_row reference_tag_row unknown_tag_row
returns-in-Some-reference-clause-unfit c =
    form_mapped _ c.form-in-Some-reference.result c.map-in-Some-reference.result range_tag_row.shape (view c.args.value.now) refl c.map-in-Some-reference.ensures.cases c.form-in-Some-reference.ensures.refuses
    (λ why is. let none = c.form-in-Some-reference.ensures.unfit why is in search rules)

pub returns-in-Some-unknown-clause-unfit : goal.returns-in-Some-unknown-clause-unfit
unfolding range_tag_row definition_tag_row declaration_tag_row reference_tag_row unknown_tag_row
returns-in-Some-unknown-clause-unfit c =
    form_mapped _ c.form-in-Some-unknown.result c.map-in-Some-unknown.result range_tag_row.shape (view c.args.value.now) refl c.map-in-Some-unknown.ensures.cases c.form-in-Some-unknown.ensures.refuses
    (λ why is. let none = c.form-in-Some-unknown.ensures.unfit why is in search rules)

pub returns-in_default-clause-unfit : goal.returns-in_default-clause-unfit
unfolding range_tag_row definition_tag_row declaration_tag_row reference_tag_row unknown_tag_row
returns-in_default-clause-unfit c =
    wants_other wants.Form range_tag_row.shape (view c.args.value.now) c.wanted.result c.wanted.ensures.refuses refl refl (search rules)
