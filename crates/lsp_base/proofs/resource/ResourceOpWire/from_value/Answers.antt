use Rattle.std.proofs.Common.{refl, ap, rules}
use Rattle.std.specs.Prelude.{Err}
use Rattle.serde_json.specs.View.{view}
use Rattle.lsp_shape.specs.declared.why.Wanted.TheVariants as wants
use Rattle.lsp_shape.proofs.Told.{form_told, wants_other}
use Rattle.lsp_base.specs.Resource.{resource_op_row}
use Rattle.lsp_base.specs.Resource.{create_file_row}
use Rattle.lsp_base.specs.Resource.{rename_file_row}
use Rattle.lsp_base.specs.Resource.{delete_file_row}
use Rattle.lsp_base.proofs.resource.ResourceOpWire.from_value.Goals as goal

pub returns-in_err-form-in-Some-create-clause-unfit : goal.returns-in_err-form-in-Some-create-clause-unfit
unfolding resource_op_row create_file_row rename_file_row delete_file_row
returns-in_err-form-in-Some-create-clause-unfit c =
    form_told c.from_residual.result c.in_err-form-in-Some-create.field-0.0 resource_op_row.shape (view c.args.value.now) refl c.from_residual.ensures.1 (λ why is. c.in_err-form-in-Some-create.ensures.refuses why (ap Err is))
    (λ why is. let none = c.in_err-form-in-Some-create.ensures.unfit why (ap Err is) in search rules)

pub returns-in_err-form-in-Some-rename-clause-unfit : goal.returns-in_err-form-in-Some-rename-clause-unfit
unfolding resource_op_row create_file_row rename_file_row delete_file_row
returns-in_err-form-in-Some-rename-clause-unfit c =
    form_told c.from_residual-in_err-form-in-Some-rename.result c.in_err-form-in-Some-rename.field-0.0 resource_op_row.shape (view c.args.value.now) refl c.from_residual-in_err-form-in-Some-rename.ensures.1 (λ why is. c.in_err-form-in-Some-rename.ensures.refuses why (ap Err is))
    (λ why is. let none = c.in_err-form-in-Some-rename.ensures.unfit why (ap Err is) in search rules)

pub returns-in_err-form-in-Some-delete-clause-unfit : goal.returns-in_err-form-in-Some-delete-clause-unfit
unfolding resource_op_row create_file_row rename_file_row delete_file_row
returns-in_err-form-in-Some-delete-clause-unfit c =
    form_told c.from_residual-in_err-form-in-Some-delete.result c.in_err-form-in-Some-delete.field-0.0 resource_op_row.shape (view c.args.value.now) refl c.from_residual-in_err-form-in-Some-delete.ensures.1 (λ why is. c.in_err-form-in-Some-delete.ensures.refuses why (ap Err is))
    (λ why is. let none = c.in_err-form-in-Some-delete.ensures.unfit why (ap Err is) in search rules)

pub returns-in_default-clause-unfit : goal.returns-in_default-clause-unfit
unfolding resource_op_row create_file_row rename_file_row delete_file_row
returns-in_default-clause-unfit c =
    wants_other wants.Form resource_op_row.shape (view c.args.value.now) c.wanted.result c.wanted.ensures.refuses refl refl (search rules)
