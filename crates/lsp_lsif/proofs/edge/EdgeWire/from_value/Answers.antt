use Rattle.std.proofs.Common.{refl, ap, rules}
use Rattle.std.specs.Prelude.{Err}
use Rattle.serde_json.specs.View.{view}
use Rattle.lsp_shape.specs.declared.why.Wanted.TheVariants as wants
use Rattle.lsp_shape.proofs.Refusals.{unfit_none}
use Rattle.lsp_shape.proofs.Told.{form_told, wants_other}
use Rattle.lsp_lsif.proofs.Mapped.{form_mapped, form_read}
use Rattle.lsp_lsif.proofs.Labelled.{edge-is_form}
use Rattle.lsp_lsif.specs.Edge.{edge_row}
use Rattle.lsp_lsif.specs.Edge.{edge_data_multi_in_row}
use Rattle.lsp_lsif.specs.Edge.{edge_data_row}
use Rattle.lsp_lsif.specs.Edge.{item_row}
use Rattle.lsp_lsif.proofs.edge.EdgeWire.from_value.Goals as goal

pub returns-in_default-clause-unfit : goal.returns-in_default-clause-unfit
unfolding edge_row edge_data_multi_in_row edge_data_row item_row
returns-in_default-clause-unfit c =
    wants_other wants.Form edge_row.shape (view c.args.value.now) c.wanted.result c.wanted.ensures.refuses edge-is_form refl (search rules)

pub returns-in_err-form-in-Contains-clause-unfit : goal.returns-in_err-form-in-Contains-clause-unfit
unfolding edge_row edge_data_multi_in_row edge_data_row item_row
returns-in_err-form-in-Contains-clause-unfit c =
    form_told c.from_residual.result c.in_err-form-in-Contains.field-0.0 edge_row.shape (view c.args.value.now) edge-is_form c.from_residual.ensures.1 (λ why is. c.in_err-form-in-Contains.ensures.refuses why (ap Err is))
    (λ why is. let none = c.in_err-form-in-Contains.ensures.unfit why (ap Err is) in search rules)

pub returns-in_err-form-in-Item-clause-unfit : goal.returns-in_err-form-in-Item-clause-unfit
unfolding edge_row edge_data_multi_in_row edge_data_row item_row
returns-in_err-form-in-Item-clause-unfit c =
    form_told c.from_residual-in_err-form-in-Item.result c.in_err-form-in-Item.field-0.0 edge_row.shape (view c.args.value.now) edge-is_form c.from_residual-in_err-form-in-Item.ensures.1 (λ why is. c.in_err-form-in-Item.ensures.refuses why (ap Err is))
    (λ why is. let none = c.in_err-form-in-Item.ensures.unfit why (ap Err is) in search rules)

pub returns-in_err-form-in-Single-clause-unfit : goal.returns-in_err-form-in-Single-clause-unfit
unfolding edge_row edge_data_multi_in_row edge_data_row item_row
returns-in_err-form-in-Single-clause-unfit c =
    form_told c.from_residual-in_err-form-in-Single.result c.in_err-form-in-Single.field-0.0 edge_row.shape (view c.args.value.now) edge-is_form c.from_residual-in_err-form-in-Single.ensures.1 (λ why is. c.in_err-form-in-Single.ensures.refuses why (ap Err is))
    (λ why is. let none = c.in_err-form-in-Single.ensures.unfit why (ap Err is) in search rules)
