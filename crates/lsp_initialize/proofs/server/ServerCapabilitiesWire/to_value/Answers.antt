use Rattle.std.proofs.Common.{◌≡◌, true, refl}
use Rattle.serde_json.specs.View.{view}
use Rattle.lsp_shape.specs.Object.{is_whole, written_to}
use Rattle.lsp_shape.specs.Plain.{no_parts}
use Rattle.lsp_shape.specs.Shape.{no_fields}
use Rattle.lsp_shape.proofs.Parts.{Writes, both_ok, record_written, record_of_shape, writes_member, writes_end}
use Rattle.lsp_initialize.specs.Server.{server_capabilities_row, server_capabilities_fields}
use Rattle.lsp_initialize.proofs.server.ServerCapabilitiesWire.to_value.Goals as goal

-- line by line
lines : (c : goal.After-end) → is_whole c.optional-34.new.self ≡ true → Writes (written_to c.optional-34.new.self) c.new-object.result (server_capabilities_fields.row no_fields) (server_capabilities_fields.shown c.args.self.now no_parts)
unfolding server_capabilities_fields
lines c whole =
    writes_member c.optional.new.self c.optional.ensures (
    writes_member c.optional-2.new.self c.optional-2.ensures (
    writes_member c.optional-3.new.self c.optional-3.ensures (
    writes_member c.optional-4.new.self c.optional-4.ensures (
    writes_member c.optional-5.new.self c.optional-5.ensures (
    writes_member c.optional-6.new.self c.optional-6.ensures (
    writes_member c.optional-7.new.self c.optional-7.ensures (
    writes_member c.optional-8.new.self c.optional-8.ensures (
    writes_member c.optional-9.new.self c.optional-9.ensures (
    writes_member c.optional-10.new.self c.optional-10.ensures (
    writes_member c.optional-11.new.self c.optional-11.ensures (
    writes_member c.optional-12.new.self c.optional-12.ensures (
    writes_member c.optional-13.new.self c.optional-13.ensures (
    writes_member c.optional-14.new.self c.optional-14.ensures (
    writes_member c.optional-15.new.self c.optional-15.ensures (
    writes_member c.optional-16.new.self c.optional-16.ensures (
    writes_member c.optional-17.new.self c.optional-17.ensures (
    writes_member c.optional-18.new.self c.optional-18.ensures (
    writes_member c.optional-19.new.self c.optional-19.ensures (
    writes_member c.optional-20.new.self c.optional-20.ensures (
    writes_member c.optional-21.new.self c.optional-21.ensures (
    writes_member c.optional-22.new.self c.optional-22.ensures (
    writes_member c.optional-23.new.self c.optional-23.ensures (
    writes_member c.optional-24.new.self c.optional-24.ensures (
    writes_member c.optional-25.new.self c.optional-25.ensures (
    writes_member c.optional-26.new.self c.optional-26.ensures (
    writes_member c.optional-27.new.self c.optional-27.ensures (
    writes_member c.optional-28.new.self c.optional-28.ensures (
    writes_member c.optional-29.new.self c.optional-29.ensures (
    writes_member c.optional-30.new.self c.optional-30.ensures (
    writes_member c.optional-31.new.self c.optional-31.ensures (
    writes_member c.optional-32.new.self c.optional-32.ensures (
    writes_member c.optional-33.new.self c.optional-33.ensures (
    writes_member c.optional-34.new.self c.optional-34.ensures (
    writes_end c.optional-34.new.self whole))))))))))))))))))))))))))))))))))

pub returns-clause-written : goal.returns-clause-written
unfolding server_capabilities_row server_capabilities_fields
returns-clause-written c = both_ok _ _ c.end.result c.end.ensures.written c.end.ensures.whole (λ v written whole.
    record_written (written_to c.optional-34.new.self) c.new-object.result (view v) written c.new-object.ensures.empty (lines c whole))

pub returns-clause-of_shape : goal.returns-clause-of_shape
unfolding server_capabilities_row server_capabilities_fields
returns-clause-of_shape c = both_ok _ _ c.end.result c.end.ensures.written c.end.ensures.whole (λ v written whole.
    record_of_shape {fs = server_capabilities_fields.row no_fields} refl (lines c whole))
