-- Rows: what is watched of a file.
use Rattle.std.specs.Prelude.{ℕ, List, [], ◌∷◌, codes}
use Rattle.lsp_shape.specs.Shape.{bits}
use Rattle.lsp_shape.specs.Shown.{show_unsigned}
use Rattle.lsp_shape.specs.Row.{Row}
use Rattle.lsp_offer_work.specs.declared.watch_kind.WatchKind.{WatchKind}

-- the flags, and the bit of each
unfoldable pub watch_kinds : List (List ℕ × ℕ)
watch_kinds = (codes "Create", 1) ∷ (codes "Change", 2) ∷ (codes "Delete", 4) ∷ []

-- the bits of a set of flags
abbrev pub bits_of : WatchKind → ℕ
bits_of kind = kind.0

-- a number whose bits are those of flags
unfoldable pub watch_kind_row : Row WatchKind
watch_kind_row = record { shape = bits 7; shown = λ kind. show_unsigned (bits_of kind) }
