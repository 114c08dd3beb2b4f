use Rattle.std.proofs.Common.{refl, ap, rules}
use Rattle.std.specs.Prelude.{Err}
use Rattle.serde_json.specs.View.{view}
use Rattle.lsp_shape.specs.declared.why.Wanted.TheVariants as wants
use Rattle.lsp_shape.proofs.Told.{form_told, wants_other}
use Rattle.lsp_report.specs.Document.{document_diagnostic_report_row}
use Rattle.lsp_report.specs.Document.{related_full_document_diagnostic_report_row}
use Rattle.lsp_report.specs.Document.{full_document_diagnostic_report_row}
use Rattle.lsp_report.specs.Document.{related_unchanged_document_diagnostic_report_row}
use Rattle.lsp_report.specs.Document.{unchanged_document_diagnostic_report_row}
use Rattle.lsp_report.proofs.document.DocumentDiagnosticReportWire.from_value.Goals as goal

pub returns-in_err-form-in-Some-full-clause-unfit : goal.returns-in_err-form-in-Some-full-clause-unfit
unfolding document_diagnostic_report_row related_full_document_diagnostic_report_row full_document_diagnostic_report_row related_unchanged_document_diagnostic_report_row unchanged_document_diagnostic_report_row
returns-in_err-form-in-Some-full-clause-unfit c =
    form_told c.from_residual.result c.in_err-form-in-Some-full.field-0.0 document_diagnostic_report_row.shape (view c.args.value.now) refl c.from_residual.ensures.1 (λ why is. c.in_err-form-in-Some-full.ensures.refuses why (ap Err is))
    (λ why is. let none = c.in_err-form-in-Some-full.ensures.unfit why (ap Err is) in search rules)

pub returns-in_err-form-in-Some-unchanged-clause-unfit : goal.returns-in_err-form-in-Some-unchanged-clause-unfit
unfolding document_diagnostic_report_row related_full_document_diagnostic_report_row full_document_diagnostic_report_row related_unchanged_document_diagnostic_report_row unchanged_document_diagnostic_report_row
returns-in_err-form-in-Some-unchanged-clause-unfit c =
    form_told c.from_residual-in_err-form-in-Some-unchanged.result c.in_err-form-in-Some-unchanged.field-0.0 document_diagnostic_report_row.shape (view c.args.value.now) refl c.from_residual-in_err-form-in-Some-unchanged.ensures.1 (λ why is. c.in_err-form-in-Some-unchanged.ensures.refuses why (ap Err is))
    (λ why is. let none = c.in_err-form-in-Some-unchanged.ensures.unfit why (ap Err is) in search rules)

pub returns-in_default-clause-unfit : goal.returns-in_default-clause-unfit
unfolding document_diagnostic_report_row related_full_document_diagnostic_report_row full_document_diagnostic_report_row related_unchanged_document_diagnostic_report_row unchanged_document_diagnostic_report_row
returns-in_default-clause-unfit c =
    wants_other wants.Form document_diagnostic_report_row.shape (view c.args.value.now) c.wanted.result c.wanted.ensures.refuses refl refl (search rules)
