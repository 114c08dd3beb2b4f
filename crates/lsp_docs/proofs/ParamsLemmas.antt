-- The JSON of the params of a notification of a document says what the typed params say.
use Rattle.std.proofs.Common.{◌≡◌, ℕ, List, [], ◌∷◌, Option, Some, None, map, refl, ap, ◌∙◌}
use Rattle.std.specs.Prelude.{ℤ, pos, negsuc, string_bytes}
use Rattle.std.specs.Str.{chars}
use Rattle.serde_json.specs.Data.{number}
use Rattle.serde_json.specs.Find.{of_integer}
use Rattle.lsp_shape.specs.Plain.{parts_of}
use Rattle.lsp_shape.specs.Write.{write, write_items}
use Rattle.lsp_uri.specs.Uri.{uri_text}
use Rattle.lsp_base.specs.declared.document.TextDocumentContentChangeEvent.{TextDocumentContentChangeEvent}
use Rattle.lsp_base.specs.declared.position.Range.{Range}
use Rattle.lsp_base.specs.Document.{text_document_content_change_event_row, text_document_identifier_row, text_document_item_row, versioned_text_document_identifier_row}
use Rattle.lsp_base.specs.Position.{position_row, range_row}
use Rattle.lsp_work.specs.declared.document.DidChangeTextDocumentParams.{DidChangeTextDocumentParams}
use Rattle.lsp_work.specs.declared.document.DidCloseTextDocumentParams.{DidCloseTextDocumentParams}
use Rattle.lsp_work.specs.declared.document.DidOpenTextDocumentParams.{DidOpenTextDocumentParams}
use Rattle.lsp_work.specs.Document.{did_open_text_document_params_row, did_change_text_document_params_row, did_close_text_document_params_row}
use Rattle.lsp_documents.specs.OpenDocument.{document_of}
use Rattle.lsp_documents.specs.Documents.{Opened, Changed, change_of}
use Rattle.lsp_docs.specs.Params.{json_by, integer_in, change_in, changes_in, did_open, did_change, did_close}
use Rattle.lsp_docs.specs.Typed.{opening_of, changes_of, closing_of}

integer_back : (z : ℤ) → integer_in (number (of_integer z)) ≡ z
integer_back (pos n) = refl
integer_back (negsuc n) = refl

-- ---- changes

abbrev Event : Type 0
Event = TextDocumentContentChangeEvent

event_with : (e : Event) (r : Option Range) (n : Option ℕ) → let x : Event = record e { range = r; range_length = n } in
    change_in (write text_document_content_change_event_row.shape (text_document_content_change_event_row.shown x)) ≡ change_of x
unfolding text_document_content_change_event_row range_row position_row
event_with e None None = refl
event_with e None (Some n) = refl
event_with e (Some r) None = refl
event_with e (Some r) (Some n) = refl

event_back : (e : Event) → change_in (write text_document_content_change_event_row.shape (text_document_content_change_event_row.shown e)) ≡ change_of e
event_back e = event_with e e.range e.range_length

events_back : (es : List Event)
    → changes_in (write_items (write text_document_content_change_event_row.shape) (parts_of (map text_document_content_change_event_row.shown es))) ≡ map change_of es
events_back [] = refl
events_back (e ∷ es) = ap (λ c. c ∷ changes_in (write_items (write text_document_content_change_event_row.shape) (parts_of (map text_document_content_change_event_row.shown es)))) (event_back e) ∙ ap (λ cs. change_of e ∷ cs) (events_back es)

-- ---- the notifications

pub opened : (p : DidOpenTextDocumentParams) → did_open (json_by did_open_text_document_params_row (Some (did_open_text_document_params_row.shown p))) ≡ opening_of p
unfolding did_open_text_document_params_row text_document_item_row
opened p = ap (λ z. Opened (uri_text p.text_document.uri) (document_of z (chars (string_bytes p.text_document.text)))) (integer_back p.text_document.version)

pub changed : (p : DidChangeTextDocumentParams) → did_change (json_by did_change_text_document_params_row (Some (did_change_text_document_params_row.shown p))) ≡ changes_of p
unfolding did_change_text_document_params_row versioned_text_document_identifier_row
changed p =
    let shown = changes_in (write_items (write text_document_content_change_event_row.shape) (parts_of (map text_document_content_change_event_row.shown p.content_changes.items))) in
    ap (λ z. Changed (uri_text p.text_document.uri) z shown) (integer_back p.text_document.version)
    ∙ ap (λ cs. Changed (uri_text p.text_document.uri) p.text_document.version cs) (events_back p.content_changes.items)

pub closed : (p : DidCloseTextDocumentParams) → did_close (json_by did_close_text_document_params_row (Some (did_close_text_document_params_row.shown p))) ≡ closing_of p
unfolding did_close_text_document_params_row text_document_identifier_row
closed p = refl
