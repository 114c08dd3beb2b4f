-- What the params of a notification of a document say, as JSON (LSP 3.17, "DidOpenTextDocumentParams", "DidChangeTextDocumentParams", "DidCloseTextDocumentParams").
-- Params that a server is called with fit their method, so each member that is read here, but for a change's `range`, is there and of its type.
use Prim.Native.String.{String as Name}
use Rattle.std.specs.Prelude.{ℕ, ℤ, pos, List, [], ◌∷◌, codes, Option, Some, None, option_map, unwrap_or}
use Rattle.std.specs.Option.{option_and_then}
use Rattle.std.specs.Str.{chars}
use Rattle.serde_json.specs.Data.{Data, null, Items, no_items, item}
use Rattle.serde_json.specs.Find.{get, as_str, as_number, as_array, as_integer, as_u64}
use Rattle.lsp_shape.specs.Plain.{Plain}
use Rattle.lsp_shape.specs.Row.{Row}
use Rattle.lsp_shape.specs.Write.{write}
use Rattle.lsp_base.specs.declared.position.Position.{Position}
use Rattle.lsp_base.specs.declared.position.Range.{Range}
use Rattle.lsp_documents.specs.OpenDocument.{document_of}
use Rattle.lsp_documents.specs.Documents.{Change, Notification, Opened, Changed, Closed}

-- ---- values

-- the JSON of a call's params, by the row of their type; null where it has none
abbrev pub json_by : {A : Type 0} → Row A → Option Plain → Data
json_by row None = null
json_by row (Some p) = write row.shape p

abbrev pub member_of : Name → Data → Data
member_of name d = unwrap_or (get (codes name) d) null

abbrev pub items_in : Data → Items
items_in d = unwrap_or (as_array d) no_items

-- a string, as UTF-8 and as characters
abbrev pub string_in : Data → List ℕ
string_in d = unwrap_or (as_str d) []

abbrev pub characters_in : Data → List ℕ
characters_in d = chars (string_in d)

abbrev pub integer_in : Data → ℤ
integer_in d = unwrap_or (option_and_then as_integer (as_number d)) (pos 0)

abbrev pub unsigned_in : Data → ℕ
unsigned_in d = unwrap_or (option_and_then as_u64 (as_number d)) 0

-- ---- "Position", "Range", "TextDocumentContentChangeEvent"

abbrev pub position_in : Data → Position
position_in d = record { line = unsigned_in (member_of "line" d); character = unsigned_in (member_of "character" d) }

abbrev pub range_in : Data → Range
range_in d = record { start = position_in (member_of "start" d); end = position_in (member_of "end" d) }

-- without a range the whole text is changed
abbrev pub change_in : Data → Change
change_in d = record { range = option_map range_in (get (codes "range") d); text = characters_in (member_of "text" d) }

abbrev pub changes_in : Items → List Change
changes_in no_items = []
changes_in (item d ds) = change_in d ∷ changes_in ds

-- ---- the notifications

abbrev pub uri_in : Data → List ℕ
uri_in params = string_in (member_of "uri" (member_of "textDocument" params))

abbrev pub version_in : Data → ℤ
version_in params = integer_in (member_of "version" (member_of "textDocument" params))

abbrev pub did_open : Data → Notification
did_open params = Opened (uri_in params) (document_of (version_in params) (characters_in (member_of "text" (member_of "textDocument" params))))

abbrev pub did_change : Data → Notification
did_change params = Changed (uri_in params) (version_in params) (changes_in (items_in (member_of "contentChanges" params)))

abbrev pub did_close : Data → Notification
did_close params = Closed (uri_in params)
