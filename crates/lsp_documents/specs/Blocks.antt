-- What is counted of each byte of a text.
use Rattle.std.specs.Prelude.{ℕ, ◌+◌, ◌==◌, ◌||◌, ◌&&◌, not, nat_lt, nat_le, if◌then◌else◌}
use Rattle.lsp_documents.specs.Lines.{line_feed, carriage_return}

-- 1 where a line ends with this byte, which the next one follows
abbrev pub ends_with : ℕ → ℕ → ℕ
ends_with b next = if b == line_feed || (b == carriage_return && not (next == line_feed)) then 1 else 0

-- how many UTF-16 code units the character is whose first byte this is; 0 of a byte inside a character
abbrev pub units_begun : ℕ → ℕ
units_begun b = (if nat_lt b 0x80 || nat_le 0xC0 b then 1 else 0) + (if nat_le 0xF0 b then 1 else 0)
