-- Rows of edits.
use Rattle.lsp_shape.specs.Plain.{Plain, choice}
use Rattle.lsp_shape.specs.Row.{Row, fields, flat, list, omitted, required, string, truth, union, variant, ◌&◌, ◌or◌}
use Rattle.lsp_base.specs.Document.{optional_versioned_text_document_identifier_row}
use Rattle.lsp_base.specs.Position.{range_row}
use Rattle.lsp_base.specs.declared.edit.AnnotatedTextEdit.{AnnotatedTextEdit}
use Rattle.lsp_base.specs.declared.edit.ChangeAnnotation.{ChangeAnnotation}
use Rattle.lsp_base.specs.declared.edit.OneOf.{OneOf}
use Rattle.lsp_base.specs.declared.edit.OneOf.TheVariants as one_of
use Rattle.lsp_base.specs.declared.edit.TextDocumentEdit.{TextDocumentEdit}
use Rattle.lsp_base.specs.declared.edit.TextEdit.{TextEdit}

abbrev pub show_one_of : {A B : Type 0} → Row A → Row B → OneOf A B → Plain
show_one_of left right (one_of.Left x) = choice 0 (left.shown x)
show_one_of left right (one_of.Right x) = choice 1 (right.shown x)

-- a value of one of two types
abbrev pub one_of_row : {A B : Type 0} → Row A → Row B → Row (OneOf A B)
one_of_row left right = union (variant left or variant right) (show_one_of left right)

unfoldable pub text_edit_row : Row TextEdit
text_edit_row = fields (
    required "range" range_row (λ x. x.range) &
    required "newText" string (λ x. x.new_text))

unfoldable pub annotated_text_edit_row : Row AnnotatedTextEdit
annotated_text_edit_row = fields (
    flat text_edit_row (λ x. x.text_edit) &
    required "annotationId" string (λ x. x.annotation_id))

unfoldable pub text_document_edit_row : Row TextDocumentEdit
text_document_edit_row = fields (
    required "textDocument" optional_versioned_text_document_identifier_row (λ x. x.text_document) &
    required "edits" (list (one_of_row text_edit_row annotated_text_edit_row)) (λ x. x.edits))

unfoldable pub change_annotation_row : Row ChangeAnnotation
change_annotation_row = fields (
    required "label" string (λ x. x.label) &
    omitted "needsConfirmation" truth (λ x. x.needs_confirmation) &
    omitted "description" string (λ x. x.description))
