-- What contracts see of a pick.
use Rattle.std.specs.Prelude.{ℕ}
use Rattle.lsp_session.specs.declared.pick.Rotate.{Rotate}

-- the number that it gives next
abbrev pub next_given : Rotate → ℕ
next_given rotate = rotate.next
