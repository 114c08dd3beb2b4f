-- Texts for people.
use Rattle.std.specs.Prelude.{List, [], codes, ℕ, ◌∷◌}
use Rattle.lsp_shape.specs.Plain.{Plain, choice}
use Rattle.lsp_shape.specs.Row.{Row, fields, names, required, string, union, variant, ◌&◌, ◌or◌}
use Rattle.lsp_names.specs.declared.markup.Documentation.{Documentation}
use Rattle.lsp_names.specs.declared.markup.Documentation.TheVariants as documentation
use Rattle.lsp_names.specs.declared.markup.LanguageString.{LanguageString}
use Rattle.lsp_names.specs.declared.markup.MarkedString.{MarkedString}
use Rattle.lsp_names.specs.declared.markup.MarkedString.TheVariants as marked_string
use Rattle.lsp_names.specs.declared.markup.MarkupContent.{MarkupContent}
use Rattle.lsp_names.specs.declared.markup.MarkupKind.{MarkupKind}
use Rattle.lsp_names.specs.declared.markup.MarkupKind.TheVariants as markup_kind

abbrev pub markup_kind_name : MarkupKind → List ℕ
markup_kind_name markup_kind.PlainText = codes "plaintext"
markup_kind_name markup_kind.Markdown = codes "markdown"

unfoldable pub markup_kind_row : Row MarkupKind
markup_kind_row = names (codes "plaintext" ∷ codes "markdown" ∷ []) markup_kind_name

unfoldable pub markup_content_row : Row MarkupContent
markup_content_row = fields (
    required "kind" markup_kind_row (λ x. x.kind) &
    required "value" string (λ x. x.value))

unfoldable pub language_string_row : Row LanguageString
language_string_row = fields (
    required "language" string (λ x. x.language) &
    required "value" string (λ x. x.value))

abbrev pub show_marked_string : MarkedString → Plain
show_marked_string (marked_string.String x) = choice 0 (string.shown x)
show_marked_string (marked_string.LanguageString x) = choice 1 (language_string_row.shown x)

unfoldable pub marked_string_row : Row MarkedString
marked_string_row = union (variant string or variant language_string_row) show_marked_string

abbrev pub show_documentation : Documentation → Plain
show_documentation (documentation.String x) = choice 0 (string.shown x)
show_documentation (documentation.MarkupContent x) = choice 1 (markup_content_row.shown x)

unfoldable pub documentation_row : Row Documentation
documentation_row = union (variant string or variant markup_content_row) show_documentation
