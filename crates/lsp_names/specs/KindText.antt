-- The row of a kind that is a text.
use Rattle.std.specs.Prelude.{ℕ, List}
use Rattle.serde_json.specs.Data.{string}
use Rattle.lsp_shape.specs.Plain.{leaf}
use Rattle.lsp_shape.specs.Shape.{string_shape}
use Rattle.lsp_shape.specs.Row.{Row}

-- the kind is its text
unfoldable pub text_kind_row : Row (List ℕ)
text_kind_row = record { shape = string_shape; shown = λ s. leaf (string s) }
