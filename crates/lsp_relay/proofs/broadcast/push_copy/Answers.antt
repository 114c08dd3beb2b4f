-- The pieces are those of a frame.
use Rattle.std.proofs.Common.{◌+◌, ◌++◌, List, ℕ, codes, length, ap, ap₂, ◌∙◌}
use Rattle.std.specs.Prelude.{decimal}
use Rattle.lsp_relay.proofs.BroadcastLemmas.{framed_pieces}
use Rattle.lsp_relay.proofs.broadcast.push_copy.Goals as goal

pub returns : goal.returns
returns c =
    let text = c.args.text.now in
    let length_is = ap (λ (l : List ℕ). length text + length l + 2) c.format-side.ensures.text in
    let head = c.extend_reserved.ensures.items ∙ ap (λ (l : List ℕ). l ++ codes "Content-Length: ") c.in_ok-reserve.ensures.items in
    let digits = c.extend_reserved-2.ensures.items ∙ ap₂ (λ (a b : List ℕ). a ++ b) head (c.as_bytes.ensures.value ∙ c.format-digits.ensures.text) in
    let line = c.extend_reserved-3.ensures.items ∙ ap (λ (l : List ℕ). l ++ codes "\r\n\r\n") digits in
    let start = c.extend_reserved-4.ensures.items ∙ ap (λ (l : List ℕ). l ++ text) line in
    let side = c.extend_reserved-5.ensures.items ∙ ap₂ (λ (a b : List ℕ). a ++ b) start (c.as_bytes-2.ensures.value ∙ c.format-side.ensures.text) in
    c.extend_reserved-6.ensures.items ∙ ap (λ (l : List ℕ). l ++ codes "}}") side
    ∙ framed_pieces c.args.out.now.items text (decimal (c.args.k + 1)) (length text + length c.format-side.result.now + 2) length_is
