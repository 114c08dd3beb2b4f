-- Rows: inlay hints.
use Rattle.lsp_shape.specs.Plain.{Plain, choice}
use Rattle.lsp_shape.specs.Row.{Row, any, fields, flat, i32, list, omitted, required, string, truth, union, variant, ◌&◌, ◌or◌}
use Rattle.lsp_names.specs.Markup.{markup_content_row}
use Rattle.lsp_base.specs.Command.{command_row}
use Rattle.lsp_base.specs.Document.{text_document_identifier_row}
use Rattle.lsp_base.specs.Edit.{text_edit_row}
use Rattle.lsp_base.specs.Position.{location_row, position_row, range_row}
use Rattle.lsp_base.specs.Progress.{work_done_progress_params_row}
use Rattle.lsp_lang_item.specs.declared.inlay_hint.InlayHint.{InlayHint}
use Rattle.lsp_lang_item.specs.declared.inlay_hint.InlayHintLabel.{InlayHintLabel}
use Rattle.lsp_lang_item.specs.declared.inlay_hint.InlayHintLabel.TheVariants as inlay_hint_label
use Rattle.lsp_lang_item.specs.declared.inlay_hint.InlayHintLabelPart.{InlayHintLabelPart}
use Rattle.lsp_lang_item.specs.declared.inlay_hint.InlayHintLabelPartTooltip.{InlayHintLabelPartTooltip}
use Rattle.lsp_lang_item.specs.declared.inlay_hint.InlayHintLabelPartTooltip.TheVariants as inlay_hint_label_part_tooltip
use Rattle.lsp_lang_item.specs.declared.inlay_hint.InlayHintParams.{InlayHintParams}
use Rattle.lsp_lang_item.specs.declared.inlay_hint.InlayHintTooltip.{InlayHintTooltip}
use Rattle.lsp_lang_item.specs.declared.inlay_hint.InlayHintTooltip.TheVariants as inlay_hint_tooltip

unfoldable pub inlay_hint_params_row : Row InlayHintParams
inlay_hint_params_row = fields (
    flat work_done_progress_params_row (λ x. x.work_done_progress_params) &
    required "textDocument" text_document_identifier_row (λ x. x.text_document) &
    required "range" range_row (λ x. x.range))

abbrev pub show_inlay_hint_label_part_tooltip : InlayHintLabelPartTooltip → Plain
show_inlay_hint_label_part_tooltip (inlay_hint_label_part_tooltip.String x) = choice 0 (string.shown x)
show_inlay_hint_label_part_tooltip (inlay_hint_label_part_tooltip.MarkupContent x) = choice 1 (markup_content_row.shown x)

unfoldable pub inlay_hint_label_part_tooltip_row : Row InlayHintLabelPartTooltip
inlay_hint_label_part_tooltip_row = union (variant string or variant markup_content_row) show_inlay_hint_label_part_tooltip

unfoldable pub inlay_hint_label_part_row : Row InlayHintLabelPart
inlay_hint_label_part_row = fields (
    required "value" string (λ x. x.value) &
    omitted "tooltip" inlay_hint_label_part_tooltip_row (λ x. x.tooltip) &
    omitted "location" location_row (λ x. x.location) &
    omitted "command" command_row (λ x. x.command))

abbrev pub show_inlay_hint_label : InlayHintLabel → Plain
show_inlay_hint_label (inlay_hint_label.String x) = choice 0 (string.shown x)
show_inlay_hint_label (inlay_hint_label.LabelParts x) = choice 1 ((list inlay_hint_label_part_row).shown x)

unfoldable pub inlay_hint_label_row : Row InlayHintLabel
inlay_hint_label_row = union (variant string or variant (list inlay_hint_label_part_row)) show_inlay_hint_label

abbrev pub show_inlay_hint_tooltip : InlayHintTooltip → Plain
show_inlay_hint_tooltip (inlay_hint_tooltip.String x) = choice 0 (string.shown x)
show_inlay_hint_tooltip (inlay_hint_tooltip.MarkupContent x) = choice 1 (markup_content_row.shown x)

unfoldable pub inlay_hint_tooltip_row : Row InlayHintTooltip
inlay_hint_tooltip_row = union (variant string or variant markup_content_row) show_inlay_hint_tooltip

unfoldable pub inlay_hint_row : Row InlayHint
inlay_hint_row = fields (
    required "position" position_row (λ x. x.position) &
    required "label" inlay_hint_label_row (λ x. x.label) &
    omitted "kind" i32 (λ x. x.kind) &
    omitted "textEdits" (list text_edit_row) (λ x. x.text_edits) &
    omitted "tooltip" inlay_hint_tooltip_row (λ x. x.tooltip) &
    omitted "paddingLeft" truth (λ x. x.padding_left) &
    omitted "paddingRight" truth (λ x. x.padding_right) &
    omitted "data" any (λ x. x.payload))
