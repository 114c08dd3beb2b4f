-- What a `Uri` is, as a text and as plain data, and what its error says.
use Rattle.std.specs.Prelude.{ℕ, List, codes, string_bytes}
use Rattle.serde_json.specs.Data.{string}
use Rattle.lsp_shape.specs.Plain.{leaf}
use Rattle.lsp_shape.specs.Shape.{text}
use Rattle.lsp_shape.specs.Row.{Row, Keys}
use Rattle.lsp_uri.specs.Grammar.{is_uri_reference}
use Rattle.lsp_uri.specs.declared.uri.Uri.{Uri}
use Rattle.lsp_uri.specs.declared.uri.UriError.{UriError}
use Rattle.lsp_uri.specs.declared.uri.UriError.TheVariants.{NotUri, NoMemory}

abbrev pub uri_text : Uri → List ℕ
uri_text u = string_bytes u.text

abbrev pub uri_row : Row Uri
uri_row = record { shape = text is_uri_reference; shown = λ u. leaf (string (uri_text u)) }

-- the keys of a map from URIs
abbrev pub uris : Keys Uri
uris = record { is_key = is_uri_reference; key_text = uri_text }

abbrev pub text_of_error : UriError → List ℕ
text_of_error NotUri = codes "not a URI reference"
text_of_error NoMemory = codes "out of memory"
