use Rattle.std.proofs.Common.{◌≡◌, ◌≤◌, Some, length, drop, refl, arith}
use Rattle.std.specs.Str.{IsCharBoundary}
use Rattle.lsp_documents.specs.Lines.{from_line}
use Rattle.lsp_documents.proofs.BackLemmas.{one_position}
use Rattle.lsp_documents.proofs.PlaceLemmas.{text_boundary}
use Rattle.lsp_documents.proofs.PositionLemmas.{position_is}
use Rattle.lsp_documents.proofs.place.position.Goals as goal

pub range-requires-clause-start_boundary : goal.range-requires-clause-start_boundary
range-requires-clause-start_boundary c =
    let bs = c.args.text.now in
    let cut : IsCharBoundary bs c.args.offset = c.if-not-is_char_boundary.ensures.test.0 refl in
    let line_is : from_line c.line_at-line.result.0 bs ≡ Some (drop c.line_at-line.result.1 bs) = rw c.as_bytes.ensures.value at c.line_at-line.ensures.line in
    let within : c.line_at-line.result.1 ≤ length bs = omega (arith, c.line_at-line.ensures.begun, cut.0) in
    λ _. text_boundary bs c.line_at-line.result.0 c.line_at-line.result.1 c.utf8.text within line_is

pub returns-clause-is : goal.returns-clause-is
returns-clause-is c =
    let bs = c.args.text.now in
    let cut : IsCharBoundary bs c.args.offset = c.if-not-is_char_boundary.ensures.test.0 refl in
    position_is bs c.args.offset c.line_at-line.result.0 c.line_at-line.result.1 c.units_len-character.result c.utf8.text cut c.line_at-line.ensures.begun
    (rw c.as_bytes.ensures.value at c.line_at-line.ensures.line) (rw c.as_bytes.ensures.value at c.line_at-line.ensures.not_later) (rw c.range.ensures.value at c.units_len-character.ensures.value)

-- a position that is found is the one that there is
pub returns-then-max-clause-in_range : goal.returns-then-max-clause-in_range
returns-then-max-clause-in_range c = λ cut line character p small short.
    let bs = c.args.text.now in
    let found = position_is bs c.args.offset c.line_at-line.result.0 c.line_at-line.result.1 c.units_len-character.result c.utf8.text cut c.line_at-line.ensures.begun
    (rw c.as_bytes.ensures.value at c.line_at-line.ensures.line) (rw c.as_bytes.ensures.value at c.line_at-line.ensures.not_later) (rw c.range.ensures.value at c.units_len-character.ensures.value) in
    let same = one_position _ _ _ _ line character found p in
    absurd (omega (arith, same, small, short, c.if-max.true, c.max.ensures))
