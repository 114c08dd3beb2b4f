-- A head that is read by its text.
use Rattle.std.specs.Prelude.{◌≡◌, ℕ, ◌^◌, ◌<◌, List, ◌++◌, length}
use Rattle.lsp_frame.specs.Frames.{head_text}
use Rattle.lsp_frame.specs.declared.plain_head.PlainHead.{PlainHead}

-- the bytes begin with the head of a body of this length, which has so many bytes
pub record IsPlainHead (h : PlainHead) (bs : List ℕ) : Type 0 where
  pub fits : h.len < 2 ^ 64
  pub size : h.size ≡ length (head_text h.len)
  pub front : (rest : List ℕ) × (bs ≡ head_text h.len ++ rest)
