-- Rows: hovers.
use Rattle.lsp_shape.specs.Plain.{Plain, choice}
use Rattle.lsp_shape.specs.Row.{Row, fields, flat, list, omitted, required, union, variant, ◌&◌, ◌or◌}
use Rattle.lsp_names.specs.Markup.{marked_string_row, markup_content_row}
use Rattle.lsp_base.specs.Document.{text_document_position_params_row}
use Rattle.lsp_base.specs.Position.{range_row}
use Rattle.lsp_base.specs.Progress.{work_done_progress_params_row}
use Rattle.lsp_lang_goto.specs.declared.hover.Hover.{Hover}
use Rattle.lsp_lang_goto.specs.declared.hover.HoverContents.{HoverContents}
use Rattle.lsp_lang_goto.specs.declared.hover.HoverContents.TheVariants as hover_contents
use Rattle.lsp_lang_goto.specs.declared.hover.HoverParams.{HoverParams}

unfoldable pub hover_params_row : Row HoverParams
hover_params_row = fields (
    flat text_document_position_params_row (λ x. x.text_document_position_params) &
    flat work_done_progress_params_row (λ x. x.work_done_progress_params))

abbrev pub show_hover_contents : HoverContents → Plain
show_hover_contents (hover_contents.Scalar x) = choice 0 (marked_string_row.shown x)
show_hover_contents (hover_contents.Array x) = choice 1 ((list marked_string_row).shown x)
show_hover_contents (hover_contents.Markup x) = choice 2 (markup_content_row.shown x)

unfoldable pub hover_contents_row : Row HoverContents
hover_contents_row = union (
    variant marked_string_row or
    variant (list marked_string_row) or
    variant markup_content_row) show_hover_contents

unfoldable pub hover_row : Row Hover
hover_row = fields (
    required "contents" hover_contents_row (λ x. x.contents) &
    omitted "range" range_row (λ x. x.range))
