use Rattle.std.proofs.Common.{◌≡◌, ◌∙◌, ap, sum_by, length, arith}
use Rattle.std.specs.Str.{chars}
use Rattle.std.proofs.lemmas.List.{take_all}
use Rattle.std.proofs.lemmas.List.Sums.{sum_by_more_le}
use Rattle.std.proofs.lemmas.Str.{encodes-chars}
use Rattle.lsp_documents.specs.Lines.{units}
use Rattle.lsp_documents.specs.Blocks.{units_begun}
use Rattle.lsp_documents.proofs.BlockLemmas.{units_of_bytes}
use Rattle.lsp_documents.proofs.UnitLemmas.{units_all_le}
use Rattle.lsp_documents.proofs.block.units.Goals as goal

pub overflow_add-count : goal.overflow_add-count
overflow_add-count c =
    let bs = c.as_bytes-byte-items.result.now in
    let same : bs ≡ c.args.text.now = c.as_bytes-byte-items.ensures.value in
    let more = sum_by_more_le units_begun bs c.loop-byte.byte-index 0 c.loop-byte-test.true in
    let all : sum_by units_begun bs ≡ sum_by units (chars c.args.text.now) = ap (sum_by units_begun) same ∙ units_of_bytes c.args.text.now c.utf8.text in
    let bound = units_all_le (chars c.args.text.now) in
    let whole = ap length (encodes-chars c.args.text.now c.utf8.text) in
    omega (arith, more, all, bound, whole, c.requires, c.loop-byte.invariant, c.units_at-count.ensures)

pub returns : goal.returns
returns c =
    let bs = c.as_bytes-byte-items.result.now in
    let same : bs ≡ c.args.text.now = c.as_bytes-byte-items.ensures.value in
    c.loop-byte.invariant ∙ ap (sum_by units_begun) (take_all c.loop-byte.byte-index bs c.loop-byte-test.false)
    ∙ ap (sum_by units_begun) same ∙ units_of_bytes c.args.text.now c.utf8.text
