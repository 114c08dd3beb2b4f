use Rattle.std.proofs.Common.{◌≡◌, true, refl}
use Rattle.serde_json.specs.View.{view}
use Rattle.lsp_shape.specs.Object.{is_whole, written_to}
use Rattle.lsp_shape.specs.Plain.{no_parts}
use Rattle.lsp_shape.specs.Shape.{no_fields}
use Rattle.lsp_shape.proofs.Parts.{Writes, both_ok, record_written, record_of_shape, writes_member, writes_supported, writes_end}
use Rattle.lsp_caps_text.specs.Completion.{completion_item_capability_row, completion_item_capability_fields}
use Rattle.lsp_caps_text.proofs.completion.CompletionItemCapabilityWire.to_value.Goals as goal

-- line by line
lines : (c : goal.After-end) → is_whole c.optional-10.new.self ≡ true → Writes (written_to c.optional-10.new.self) c.new-object.result (completion_item_capability_fields.row no_fields) (completion_item_capability_fields.shown c.args.self.now no_parts)
unfolding completion_item_capability_fields
lines c whole =
    writes_member c.optional.new.self c.optional.ensures (
    writes_member c.optional-2.new.self c.optional-2.ensures (
    writes_member c.optional-3.new.self c.optional-3.ensures (
    writes_member c.optional-4.new.self c.optional-4.ensures (
    writes_member c.optional-5.new.self c.optional-5.ensures (
    writes_supported c.optional-6.new.self c.optional-6.ensures (
    writes_member c.optional-7.new.self c.optional-7.ensures (
    writes_member c.optional-8.new.self c.optional-8.ensures (
    writes_member c.optional-9.new.self c.optional-9.ensures (
    writes_member c.optional-10.new.self c.optional-10.ensures (
    writes_end c.optional-10.new.self whole))))))))))

pub returns-clause-written : goal.returns-clause-written
unfolding completion_item_capability_row completion_item_capability_fields
returns-clause-written c = both_ok _ _ c.end.result c.end.ensures.written c.end.ensures.whole (λ v written whole.
    record_written (written_to c.optional-10.new.self) c.new-object.result (view v) written c.new-object.ensures.empty (lines c whole))

pub returns-clause-of_shape : goal.returns-clause-of_shape
unfolding completion_item_capability_row completion_item_capability_fields
returns-clause-of_shape c = both_ok _ _ c.end.result c.end.ensures.written c.end.ensures.whole (λ v written whole.
    record_of_shape {fs = completion_item_capability_fields.row no_fields} refl (lines c whole))
