-- A hover holds no float.
use Rattle.std.proofs.Common.{◌≡◌, List, [], ◌∷◌, Bool, true, false, ◌||◌, map, refl}
use Rattle.std.specs.Prelude.{Option, Some, None}
use Rattle.serde_json.specs.Written.{has_float}
use Rattle.lsp_shape.specs.Plain.{plain_has_float, parts_have_float, parts_of}
use Rattle.lsp_shape.specs.Shown.{show_option}
use Rattle.lsp_shape.specs.Write.{write}
use Rattle.lsp_shape.specs.FloatsWritten.{write_floatless}
use Rattle.lsp_names.specs.Markup.{markup_kind_row, markup_content_row, language_string_row, marked_string_row}
use Rattle.lsp_names.specs.declared.markup.MarkedString.{MarkedString}
use Rattle.lsp_names.specs.declared.markup.MarkedString.TheVariants as marked_string
use Rattle.lsp_names.specs.declared.markup.MarkupContent.{MarkupContent}
use Rattle.lsp_base.specs.Position.{range_row, position_row}
use Rattle.lsp_base.specs.declared.position.Range.{Range}
use Rattle.lsp_lang_goto.specs.Hover.{hover_row, hover_contents_row}
use Rattle.lsp_lang_goto.specs.declared.hover.Hover.{Hover}
use Rattle.lsp_lang_goto.specs.declared.hover.HoverContents.{HoverContents}
use Rattle.lsp_lang_goto.specs.declared.hover.HoverContents.TheVariants as hover_contents

neither : (a b : Bool) → a ≡ false → b ≡ false → (a || b) ≡ false
neither true b p q = p
neither false b p q = q

free_marked : (m : MarkedString) → plain_has_float (marked_string_row.shown m) ≡ false
unfolding marked_string_row language_string_row
free_marked (marked_string.String x) = refl
free_marked (marked_string.LanguageString x) = refl

free_all_marked : (ms : List MarkedString) → parts_have_float (parts_of (map marked_string_row.shown ms)) ≡ false
free_all_marked [] = refl
free_all_marked (m ∷ ms) = neither (plain_has_float (marked_string_row.shown m)) (parts_have_float (parts_of (map marked_string_row.shown ms))) (free_marked m) (free_all_marked ms)

free_markup : (m : MarkupContent) → plain_has_float (markup_content_row.shown m) ≡ false
unfolding markup_content_row markup_kind_row
free_markup m = refl

free_contents : (c : HoverContents) → plain_has_float (hover_contents_row.shown c) ≡ false
unfolding hover_contents_row
free_contents (hover_contents.Scalar m) = free_marked m
free_contents (hover_contents.Array v) = free_all_marked v.items
free_contents (hover_contents.Markup m) = free_markup m

free_range : (o : Option Range) → plain_has_float (show_option range_row.shown o) ≡ false
unfolding range_row position_row
free_range None = refl
free_range (Some r) = refl

free_hover : (h : Hover) → plain_has_float (hover_row.shown h) ≡ false
unfolding hover_row
free_hover h =
    neither (plain_has_float (hover_contents_row.shown h.contents)) _ (free_contents h.contents)
    (neither (plain_has_float (show_option range_row.shown h.range)) false (free_range h.range) refl)

-- what is written of it holds none
pub written_hover_free : (h : Hover) → has_float (write hover_row.shape (hover_row.shown h)) ≡ false
written_hover_free h = write_floatless hover_row.shape (hover_row.shown h) (free_hover h)
