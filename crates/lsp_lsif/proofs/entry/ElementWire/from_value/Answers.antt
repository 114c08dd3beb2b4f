use Rattle.std.proofs.Common.{refl, rules}
use Rattle.serde_json.specs.View.{view}
use Rattle.lsp_shape.specs.declared.why.Wanted.TheVariants as wants
use Rattle.lsp_lsif.proofs.Mapped.{form_mapped}
use Rattle.lsp_shape.proofs.Told.{wants_other}
use Rattle.lsp_lsif.specs.Entry.{element_row}
use Rattle.lsp_lsif.proofs.entry.ElementWire.from_value.Goals as goal

pub returns-in-Some-vertex-clause-unfit : goal.returns-in-Some-vertex-clause-unfit
unfolding element_row
returns-in-Some-vertex-clause-unfit c =
    form_mapped _ c.form.result c.map.result element_row.shape (view c.args.value.now) refl c.map.ensures.cases c.form.ensures.refuses
    (λ why is. let none = c.form.ensures.unfit why is in search rules)

pub returns-in-Some-edge-clause-unfit : goal.returns-in-Some-edge-clause-unfit
unfolding element_row
returns-in-Some-edge-clause-unfit c =
    form_mapped _ c.form-in-Some-edge.result c.map-in-Some-edge.result element_row.shape (view c.args.value.now) refl c.map-in-Some-edge.ensures.cases c.form-in-Some-edge.ensures.refuses
    (λ why is. let none = c.form-in-Some-edge.ensures.unfit why is in search rules)

pub returns-in_default-clause-unfit : goal.returns-in_default-clause-unfit
unfolding element_row
returns-in_default-clause-unfit c =
    wants_other wants.Form element_row.shape (view c.args.value.now) c.wanted.result c.wanted.ensures.refuses refl refl (search rules)
