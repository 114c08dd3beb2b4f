use Rattle.std.proofs.Common.{refl, ap}
use Rattle.std.specs.Prelude.{Err}
use Rattle.serde_json.specs.View.{view}
use Rattle.lsp_shape.specs.Shape.{no_fields}
use Rattle.lsp_shape.proofs.Refusals.{passed, passed_in}
use Rattle.lsp_shape.proofs.Parts.{when_ok, record_read, reads_end, reads_member, record_unread, unread_end, unread_member}
use Rattle.lsp_caps_work.specs.Workspace.{workspace_client_capabilities_row, workspace_client_capabilities_fields}
use Rattle.lsp_caps_work.proofs.workspace.WorkspaceClientCapabilitiesWire.from_value.Goals as goal

pub returns-clause-read : goal.returns-clause-read
unfolding workspace_client_capabilities_row workspace_client_capabilities_fields
returns-clause-read c = when_ok _ c.end.result c.end.ensures.value c.end.ensures.fits (λ fits.
    record_read (workspace_client_capabilities_fields.row no_fields) _ c.in_ok-object.object (view c.args.value.now) c.in_ok-object.ensures.ok (
    reads_member c.optional.new.self c.optional.ensures (
    reads_member c.optional-2.new.self c.optional-2.ensures (
    reads_member c.optional-3.new.self c.optional-3.ensures (
    reads_member c.optional-4.new.self c.optional-4.ensures (
    reads_member c.optional-5.new.self c.optional-5.ensures (
    reads_member c.optional-6.new.self c.optional-6.ensures (
    reads_member c.optional-7.new.self c.optional-7.ensures (
    reads_member c.optional-8.new.self c.optional-8.ensures (
    reads_member c.optional-9.new.self c.optional-9.ensures (
    reads_member c.optional-10.new.self c.optional-10.ensures (
    reads_member c.optional-11.new.self c.optional-11.ensures (
    reads_member c.optional-12.new.self c.optional-12.ensures (
    reads_member c.optional-13.new.self c.optional-13.ensures (
    reads_member c.optional-14.new.self c.optional-14.ensures (
    reads_end c.optional-14.new.self fits))))))))))))))))

pub returns-clause-unfit : goal.returns-clause-unfit
unfolding workspace_client_capabilities_row workspace_client_capabilities_fields
returns-clause-unfit c = λ why is.
    record_unread (workspace_client_capabilities_fields.row no_fields) c.in_ok-object.object (view c.args.value.now) c.in_ok-object.ensures.ok c.in_ok-object.ensures.fits (
    unread_member c.optional.new.self c.optional.ensures (
    unread_member c.optional-2.new.self c.optional-2.ensures (
    unread_member c.optional-3.new.self c.optional-3.ensures (
    unread_member c.optional-4.new.self c.optional-4.ensures (
    unread_member c.optional-5.new.self c.optional-5.ensures (
    unread_member c.optional-6.new.self c.optional-6.ensures (
    unread_member c.optional-7.new.self c.optional-7.ensures (
    unread_member c.optional-8.new.self c.optional-8.ensures (
    unread_member c.optional-9.new.self c.optional-9.ensures (
    unread_member c.optional-10.new.self c.optional-10.ensures (
    unread_member c.optional-11.new.self c.optional-11.ensures (
    unread_member c.optional-12.new.self c.optional-12.ensures (
    unread_member c.optional-13.new.self c.optional-13.ensures (
    unread_member c.optional-14.new.self c.optional-14.ensures (
    unread_end c.optional-14.new.self (c.end.ensures.unfit why is))))))))))))))))

pub returns-in_err-object-clause-unfit : goal.returns-in_err-object-clause-unfit
unfolding workspace_client_capabilities_row workspace_client_capabilities_fields
returns-in_err-object-clause-unfit c = passed c.from_residual.result c.in_err-object.field-0.0 _ c.from_residual.ensures.1 (λ why is. c.in_err-object.ensures.unfit why (ap Err is) workspace_client_capabilities_row.shape refl)
