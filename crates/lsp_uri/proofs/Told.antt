-- A URI that is read, and a text that is none.
use Rattle.std.proofs.Common.{◌≡◌, List, ℕ, true, false, Option, Some, None, refl}
use Rattle.serde_json.specs.Data.{Data}
use Rattle.serde_json.specs.Find.{as_str}
use Rattle.lsp_shape.specs.Read.{read}
use Rattle.lsp_shape.proofs.Told.{is_string}
use Rattle.lsp_uri.specs.Grammar.{is_uri_reference}
use Rattle.lsp_uri.specs.Uri.{uri_text, uri_row}
use Rattle.lsp_uri.specs.declared.uri.Uri.{Uri}

pub uri_read : (d : Data) (t : List ℕ) (u : Uri) → as_str d ≡ Some t → uri_text u ≡ t → is_uri_reference t ≡ true → read uri_row.shape d ≡ Some (uri_row.shown u)
uri_read d t u e kept fits = rw (is_string d t e, fits, kept) refl

pub uri_unread : (d : Data) (t : List ℕ) → as_str d ≡ Some t → is_uri_reference t ≡ false → read uri_row.shape d ≡ None
uri_unread d t e fails = rw (is_string d t e, fails) refl
