-- The open documents of an editor (LSP 3.17, "TextDocumentContentChangeEvent", "DidOpenTextDocument Notification", "DidChangeTextDocument Notification", "DidCloseTextDocument Notification").
use Rattle.std.specs.Prelude.{ℕ, ℤ, nat_le, List, [], ◌∷◌, ◌++◌, take, drop, Option, None, Some, option_map, unwrap_or, string_bytes, if◌then◌else◌}
use Rattle.std.specs.Option.{option_and_then}
use Rattle.std.specs.Ordering.{nat_cmp}
use Rattle.std.specs.Cmp.Lexicographic.{slice_cmp}
use Rattle.std.specs.FinMap as map
use Rattle.std.specs.Str.{chars}
use Rattle.lsp_base.specs.declared.document.TextDocumentContentChangeEvent.{TextDocumentContentChangeEvent}
use Rattle.lsp_base.specs.declared.position.Range.{Range}
use Rattle.lsp_documents.specs.Lines.{place_of}
use Rattle.lsp_documents.specs.OpenDocument.{OpenDocument, document_of}

-- the text with what stands from one place to another replaced; none where the first is behind the second
abbrev pub replaced : ℕ → ℕ → List ℕ → List ℕ → Option (List ℕ)
replaced from to new t = if nat_le from to then Some (take from t ++ new ++ drop to t) else None

-- the text after a change of a range, both of whose places are taken in it, or of the whole text
abbrev pub changed_in : Option Range → List ℕ → List ℕ → Option (List ℕ)
changed_in None new t = Some new
changed_in (Some r) new t =
    replaced (place_of r.start.line r.start.character t) (place_of r.end.line r.end.character t) new t

-- a change: of a range, or of the whole text, and the characters that stand there then
pub record Change : Type 0 where
  pub range : Option Range
  pub text : List ℕ

-- what an event says; its `rangeLength` is ignored
abbrev pub change_of : TextDocumentContentChangeEvent → Change
change_of e = record { range = e.range; text = chars (string_bytes e.text) }

abbrev pub changed : Change → List ℕ → Option (List ℕ)
changed c t = changed_in c.range c.text t

-- the text after changes in order, each of the text that the ones before leave; none where one has its start behind its end
abbrev pub all_changed : List Change → List ℕ → Option (List ℕ)
all_changed [] t = Some t
all_changed (c ∷ cs) t = option_and_then (all_changed cs) (changed c t)

abbrev pub changed_document : ℤ → List Change → OpenDocument → Option OpenDocument
changed_document version cs d = option_map (document_of version) (all_changed cs d.text)

-- the open documents, by the texts of their URIs
abbrev pub DocumentMap : Type 0
DocumentMap = map.FinMap (slice_cmp nat_cmp) OpenDocument

-- what the editor tells of its documents
pub data Notification : Type 0 where
  Opened : List ℕ → OpenDocument → Notification
  Changed : List ℕ → ℤ → List Change → Notification
  Closed : List ℕ → Notification

-- the documents after a document is opened; none where its URI is open
abbrev pub after_open : List ℕ → OpenDocument → DocumentMap → Option DocumentMap
after_open uri d ds = if map.contains_key ds uri then None else Some (map.insert ds uri d)

-- the documents after changes of one; none where its URI isn't open, or a change has its start behind its end
abbrev pub after_changes : List ℕ → ℤ → List Change → DocumentMap → Option DocumentMap
after_changes uri version cs ds =
    option_map (λ d. map.insert ds uri d) (option_and_then (changed_document version cs) (map.get ds uri))

-- the documents after one is closed; none where its URI isn't open
abbrev pub after_close : List ℕ → DocumentMap → Option DocumentMap
after_close uri ds = if map.contains_key ds uri then Some (map.remove ds uri) else None

-- the documents after a notification, where it is accepted
abbrev pub accepted : Notification → DocumentMap → Option DocumentMap
accepted (Opened uri d) ds = after_open uri d ds
accepted (Changed uri version cs) ds = after_changes uri version cs ds
accepted (Closed uri) ds = after_close uri ds

-- the documents after notifications: one that isn't accepted changes nothing
abbrev pub documents_from : DocumentMap → List Notification → DocumentMap
documents_from ds [] = ds
documents_from ds (n ∷ ns) = documents_from (unwrap_or (accepted n ds) ds) ns

abbrev pub documents : List Notification → DocumentMap
documents = documents_from map.empty
