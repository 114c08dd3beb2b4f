use Rattle.std.proofs.Common.{refl, ap}
use Rattle.std.specs.Prelude.{Err}
use Rattle.lsp_shape.proofs.Refusals.{passed}
use Rattle.lsp_offer_work.specs.Files.{workspace_file_operations_server_capabilities_row}
use Rattle.lsp_offer_work.proofs.files.WorkspaceFileOperationsServerCapabilitiesWire.from_value.Goals as goal

pub returns-in_err-did_create-clause-unfit : goal.returns-in_err-did_create-clause-unfit
unfolding workspace_file_operations_server_capabilities_row
returns-in_err-did_create-clause-unfit c = passed c.from_residual.result c.in_err-did_create.field-0.0 _ c.from_residual.ensures.1 (λ why is. c.in_err-did_create.ensures.unfit why (ap Err is) workspace_file_operations_server_capabilities_row.shape refl (refl, refl, refl, refl, refl, refl))
