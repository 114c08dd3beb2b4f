use Rattle.std.proofs.Common.{◌≡◌, ◌≤◌, ◌+◌, Some, None, length, drop, ap, ◌∙◌, arith}
use Rattle.std.specs.Str.{chars}
use Rattle.lsp_documents.specs.Lines.{from_line, place_of}
use Rattle.lsp_documents.proofs.PlaceLemmas.{text_boundary, text_offset, text_end, offset_within}
use Rattle.lsp_documents.proofs.place.offset.Goals as goal

pub range_from-requires : goal.range_from-requires
range_from-requires c =
    let bs = c.args.text.now in
    let begins : from_line c.args.line bs ≡ Some (drop c.in-Some.start bs) = rw c.as_bytes.ensures.value at c.in-Some.ensures.later in
    let within : c.in-Some.start ≤ length bs = rw c.as_bytes.ensures.value at c.in-Some.ensures.some in
    λ _. text_boundary bs c.args.line c.in-Some.start c.utf8.text within begins

pub overflow_add-result : goal.overflow_add-result
overflow_add-result c =
    let bs = c.args.text.now in
    let begins : from_line c.args.line bs ≡ Some (drop c.in-Some.start bs) = rw c.as_bytes.ensures.value at c.in-Some.ensures.later in
    let within : c.in-Some.start ≤ length bs = rw c.as_bytes.ensures.value at c.in-Some.ensures.some in
    let rest = rw c.range_from.ensures.value at c.fitting_len.ensures in
    let at = text_offset bs c.args.line c.in-Some.start c.args.character c.utf8.text within begins in
    omega (arith, rest, at, offset_within bs (place_of c.args.line c.args.character (chars bs)) c.utf8.text)

pub returns-in-Some : goal.returns-in-Some
returns-in-Some c =
    let bs = c.args.text.now in
    let begins : from_line c.args.line bs ≡ Some (drop c.in-Some.start bs) = rw c.as_bytes.ensures.value at c.in-Some.ensures.later in
    let within : c.in-Some.start ≤ length bs = rw c.as_bytes.ensures.value at c.in-Some.ensures.some in
    ap (λ n. c.in-Some.start + n) (rw c.range_from.ensures.value at c.fitting_len.ensures)
    ∙ text_offset bs c.args.line c.in-Some.start c.args.character c.utf8.text within begins

pub returns-in-None : goal.returns-in-None
returns-in-None c =
    let bs = c.args.text.now in
    let missing : from_line c.args.line bs ≡ None = rw c.as_bytes.ensures.value at c.in-None.ensures.later in
    text_end bs c.args.line c.args.character c.utf8.text missing
