use Rattle.std.proofs.Common.{refl, ap, rules}
use Rattle.std.specs.Prelude.{Err}
use Rattle.serde_json.specs.View.{view}
use Rattle.lsp_shape.specs.declared.why.Wanted.TheVariants as wants
use Rattle.lsp_shape.proofs.Refusals.{unfit_none}
use Rattle.lsp_shape.proofs.Told.{form_told, wants_other}
use Rattle.lsp_lsif.proofs.Mapped.{form_mapped, form_read}
use Rattle.lsp_lsif.proofs.Labelled.{vertex-is_form}
use Rattle.lsp_lsif.specs.Vertex.{vertex_row}
use Rattle.lsp_lsif.proofs.vertex.VertexWire.from_value.Goals as goal

pub returns-in_default-clause-unfit : goal.returns-in_default-clause-unfit
unfolding vertex_row
returns-in_default-clause-unfit c =
    wants_other wants.Form vertex_row.shape (view c.args.value.now) c.wanted.result c.wanted.ensures.refuses vertex-is_form refl (search rules)

pub returns-in-MetaData-clause-unfit : goal.returns-in-MetaData-clause-unfit
unfolding vertex_row
returns-in-MetaData-clause-unfit c =
    form_mapped _ c.form.result c.map.result vertex_row.shape (view c.args.value.now) vertex-is_form c.map.ensures.cases c.form.ensures.refuses
    (λ why is. let none = c.form.ensures.unfit why is in search rules)

pub returns-in-Project-clause-unfit : goal.returns-in-Project-clause-unfit
unfolding vertex_row
returns-in-Project-clause-unfit c =
    form_mapped _ c.form-in-Project.result c.map-in-Project.result vertex_row.shape (view c.args.value.now) vertex-is_form c.map-in-Project.ensures.cases c.form-in-Project.ensures.refuses
    (λ why is. let none = c.form-in-Project.ensures.unfit why is in search rules)

pub returns-in-Document-clause-unfit : goal.returns-in-Document-clause-unfit
unfolding vertex_row
returns-in-Document-clause-unfit c =
    form_mapped _ c.form-in-Document.result c.map-in-Document.result vertex_row.shape (view c.args.value.now) vertex-is_form c.map-in-Document.ensures.cases c.form-in-Document.ensures.refuses
    (λ why is. let none = c.form-in-Document.ensures.unfit why is in search rules)

pub returns-in-Range-clause-unfit : goal.returns-in-Range-clause-unfit
unfolding vertex_row
returns-in-Range-clause-unfit c =
    form_read c.as_form.result vertex_row.shape (view c.args.value.now) vertex-is_form c.as_form.ensures.refuses
    (λ why is. let none = unfit_none c.range_of.result c.range_of.ensures.unfit (c.as_form.ensures.unfit why is) in search rules)

pub returns-in-ResultSet-clause-unfit : goal.returns-in-ResultSet-clause-unfit
unfolding vertex_row
returns-in-ResultSet-clause-unfit c =
    form_mapped _ c.form-in-ResultSet.result c.map-in-ResultSet.result vertex_row.shape (view c.args.value.now) vertex-is_form c.map-in-ResultSet.ensures.cases c.form-in-ResultSet.ensures.refuses
    (λ why is. let none = c.form-in-ResultSet.ensures.unfit why is in search rules)

pub returns-in-Moniker-clause-unfit : goal.returns-in-Moniker-clause-unfit
unfolding vertex_row
returns-in-Moniker-clause-unfit c =
    form_mapped _ c.form-in-Moniker.result c.map-in-Moniker.result vertex_row.shape (view c.args.value.now) vertex-is_form c.map-in-Moniker.ensures.cases c.form-in-Moniker.ensures.refuses
    (λ why is. let none = c.form-in-Moniker.ensures.unfit why is in search rules)

pub returns-in-PackageInformation-clause-unfit : goal.returns-in-PackageInformation-clause-unfit
unfolding vertex_row
returns-in-PackageInformation-clause-unfit c =
    form_mapped _ c.form-in-PackageInformation.result c.map-in-PackageInformation.result vertex_row.shape (view c.args.value.now) vertex-is_form c.map-in-PackageInformation.ensures.cases c.form-in-PackageInformation.ensures.refuses
    (λ why is. let none = c.form-in-PackageInformation.ensures.unfit why is in search rules)

pub returns-in-Event-clause-unfit : goal.returns-in-Event-clause-unfit
unfolding vertex_row
returns-in-Event-clause-unfit c =
    form_mapped _ c.form-in-Event.result c.map-in-Event.result vertex_row.shape (view c.args.value.now) vertex-is_form c.map-in-Event.ensures.cases c.form-in-Event.ensures.refuses
    (λ why is. let none = c.form-in-Event.ensures.unfit why is in search rules)

pub returns-in_err-result_of-in-FoldingRangeResult-clause-unfit : goal.returns-in_err-result_of-in-FoldingRangeResult-clause-unfit
unfolding vertex_row
returns-in_err-result_of-in-FoldingRangeResult-clause-unfit c =
    form_told c.from_residual.result c.in_err-result_of-in-FoldingRangeResult.field-0.0 vertex_row.shape (view c.args.value.now) vertex-is_form c.from_residual.ensures.1 (λ why is. c.in_err-result_of-in-FoldingRangeResult.ensures.refuses why (ap Err is))
    (λ why is. let none = c.in_err-result_of-in-FoldingRangeResult.ensures.unfit why (ap Err is) in search rules)

pub returns-in_err-result_of-in-HoverResult-clause-unfit : goal.returns-in_err-result_of-in-HoverResult-clause-unfit
unfolding vertex_row
returns-in_err-result_of-in-HoverResult-clause-unfit c =
    form_told c.from_residual-in_err-result_of-in-HoverResult.result c.in_err-result_of-in-HoverResult.field-0.0 vertex_row.shape (view c.args.value.now) vertex-is_form c.from_residual-in_err-result_of-in-HoverResult.ensures.1 (λ why is. c.in_err-result_of-in-HoverResult.ensures.refuses why (ap Err is))
    (λ why is. let none = c.in_err-result_of-in-HoverResult.ensures.unfit why (ap Err is) in search rules)

pub returns-in_err-result_of-in-DocumentSymbolResult-clause-unfit : goal.returns-in_err-result_of-in-DocumentSymbolResult-clause-unfit
unfolding vertex_row
returns-in_err-result_of-in-DocumentSymbolResult-clause-unfit c =
    form_told c.from_residual-in_err-result_of-in-DocumentSymbolResult.result c.in_err-result_of-in-DocumentSymbolResult.field-0.0 vertex_row.shape (view c.args.value.now) vertex-is_form c.from_residual-in_err-result_of-in-DocumentSymbolResult.ensures.1 (λ why is. c.in_err-result_of-in-DocumentSymbolResult.ensures.refuses why (ap Err is))
    (λ why is. let none = c.in_err-result_of-in-DocumentSymbolResult.ensures.unfit why (ap Err is) in search rules)

pub returns-in_err-result_of-in-DocumentLinkResult-clause-unfit : goal.returns-in_err-result_of-in-DocumentLinkResult-clause-unfit
unfolding vertex_row
returns-in_err-result_of-in-DocumentLinkResult-clause-unfit c =
    form_told c.from_residual-in_err-result_of-in-DocumentLinkResult.result c.in_err-result_of-in-DocumentLinkResult.field-0.0 vertex_row.shape (view c.args.value.now) vertex-is_form c.from_residual-in_err-result_of-in-DocumentLinkResult.ensures.1 (λ why is. c.in_err-result_of-in-DocumentLinkResult.ensures.refuses why (ap Err is))
    (λ why is. let none = c.in_err-result_of-in-DocumentLinkResult.ensures.unfit why (ap Err is) in search rules)

pub returns-in_err-result_of-in-DiagnosticResult-clause-unfit : goal.returns-in_err-result_of-in-DiagnosticResult-clause-unfit
unfolding vertex_row
returns-in_err-result_of-in-DiagnosticResult-clause-unfit c =
    form_told c.from_residual-in_err-result_of-in-DiagnosticResult.result c.in_err-result_of-in-DiagnosticResult.field-0.0 vertex_row.shape (view c.args.value.now) vertex-is_form c.from_residual-in_err-result_of-in-DiagnosticResult.ensures.1 (λ why is. c.in_err-result_of-in-DiagnosticResult.ensures.refuses why (ap Err is))
    (λ why is. let none = c.in_err-result_of-in-DiagnosticResult.ensures.unfit why (ap Err is) in search rules)
