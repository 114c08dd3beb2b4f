-- Rows: what a range stands for.
use Rattle.lsp_shape.specs.Plain.{Plain, choice}
use Rattle.lsp_shape.specs.Row.{Row, fields, i32, omitted, or_false, required, string, tag, tagged, unless_false, ◌&◌, ◌or◌}
use Rattle.lsp_base.specs.Position.{range_row}
use Rattle.lsp_lsif.specs.declared.tags.DeclarationTag.{DeclarationTag}
use Rattle.lsp_lsif.specs.declared.tags.DefinitionTag.{DefinitionTag}
use Rattle.lsp_lsif.specs.declared.tags.RangeTag.{RangeTag}
use Rattle.lsp_lsif.specs.declared.tags.RangeTag.TheVariants as range_tag
use Rattle.lsp_lsif.specs.declared.tags.ReferenceTag.{ReferenceTag}
use Rattle.lsp_lsif.specs.declared.tags.UnknownTag.{UnknownTag}

unfoldable pub definition_tag_row : Row DefinitionTag
definition_tag_row = fields (
    required "text" string (λ x. x.text) &
    required "kind" i32 (λ x. x.kind) &
    unless_false "deprecated" (λ x. x.deprecated) &
    required "fullRange" range_row (λ x. x.full_range) &
    omitted "detail" string (λ x. x.detail))

unfoldable pub declaration_tag_row : Row DeclarationTag
declaration_tag_row = fields (
    required "text" string (λ x. x.text) &
    required "kind" i32 (λ x. x.kind) &
    or_false "deprecated" (λ x. x.deprecated) &
    required "fullRange" range_row (λ x. x.full_range) &
    omitted "detail" string (λ x. x.detail))

unfoldable pub reference_tag_row : Row ReferenceTag
reference_tag_row = fields (
    required "text" string (λ x. x.text))

unfoldable pub unknown_tag_row : Row UnknownTag
unknown_tag_row = fields (
    required "text" string (λ x. x.text))

abbrev pub show_range_tag : RangeTag → Plain
show_range_tag (range_tag.Definition x) = choice 0 (definition_tag_row.shown x)
show_range_tag (range_tag.Declaration x) = choice 1 (declaration_tag_row.shown x)
show_range_tag (range_tag.Reference x) = choice 2 (reference_tag_row.shown x)
show_range_tag (range_tag.Unknown x) = choice 3 (unknown_tag_row.shown x)

unfoldable pub range_tag_row : Row RangeTag
range_tag_row = tagged "type" (
    tag "definition" definition_tag_row or
    tag "declaration" declaration_tag_row or
    tag "reference" reference_tag_row or
    tag "unknown" unknown_tag_row) show_range_tag
