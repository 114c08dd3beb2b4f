-- An open document.
use Rattle.std.specs.Prelude.{ℕ, ℤ, List}

-- its version, and the characters of its text
pub record OpenDocument : Type 0 where
  pub version : ℤ
  pub text : List ℕ

abbrev pub document_of : ℤ → List ℕ → OpenDocument
document_of version text = record { version = version; text = text }
