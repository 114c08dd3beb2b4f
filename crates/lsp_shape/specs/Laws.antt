-- What holds of every shape.
use Rattle.std.specs.Prelude.{◌≡◌, true, Some}
use Rattle.serde_json.specs.Data.{Data}
use Rattle.lsp_shape.specs.Plain.{Plain}
use Rattle.lsp_shape.specs.Shape.{Shape}
use Rattle.lsp_shape.specs.Read.{read}
use Rattle.lsp_shape.specs.Write.{write, trim}
use Rattle.lsp_shape.specs.Values.{is_of, clear, is_settled}

-- what is written of plain data of the shape reads back as it
abbrev pub ReadsBack : Shape → Type 0
ReadsBack s = (p : Plain) → is_of s p ≡ true → clear s p ≡ true → read s (write s p) ≡ Some p

-- what was trimmed of the first value is trimmed to itself, unless a variant of a union is written as a value that fits an earlier one
abbrev pub TrimsAgain : Shape → Data → Data → Type 0
TrimsAgain s d e = (p : Plain) → read s d ≡ Some p → is_settled s p ≡ true → trim s e ≡ Some e
