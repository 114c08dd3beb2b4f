use Rattle.std.proofs.Common.{◌≡◌, ◌≤◌, ◌+◌, Some, None, length, drop, ap, ◌∙◌, arith}
use Rattle.std.specs.Str.{chars}
use Rattle.lsp_documents.specs.Lines.{from_line, place_of}
use Rattle.lsp_documents.proofs.PlaceLemmas.{text_boundary, text_offset, text_place, text_end, text_end_later, offset_within}
use Rattle.lsp_documents.proofs.place.offsets_below.Goals as goal

pub range_from-rest-requires : goal.range_from-rest-requires
range_from-rest-requires c =
    let bs = c.args.text.now in
    let begins : from_line c.args.start.0 bs ≡ Some (drop c.in-Some.begin bs) = rw c.as_bytes.ensures.value at c.in-Some.ensures.later in
    let within : c.in-Some.begin ≤ length bs = rw c.as_bytes.ensures.value at c.in-Some.ensures.some in
    λ _. text_boundary bs c.args.start.0 c.in-Some.begin c.utf8.text within begins

pub overflow_add-first : goal.overflow_add-first
overflow_add-first c =
    let bs = c.args.text.now in
    let begins : from_line c.args.start.0 bs ≡ Some (drop c.in-Some.begin bs) = rw c.as_bytes.ensures.value at c.in-Some.ensures.later in
    let within : c.in-Some.begin ≤ length bs = rw c.as_bytes.ensures.value at c.in-Some.ensures.some in
    let at = text_offset bs c.args.start.0 c.in-Some.begin c.args.start.1 c.utf8.text within begins in
    let here = rw c.range_from-rest.ensures.value at c.fitting_len.ensures in
    omega (arith, here, at, offset_within bs (place_of c.args.start.0 c.args.start.1 (chars bs)) c.utf8.text)

pub overflow_add-result : goal.overflow_add-result
overflow_add-result c =
    let bs = c.args.text.now in
    let begins : from_line c.args.start.0 bs ≡ Some (drop c.in-Some.begin bs) = rw c.as_bytes.ensures.value at c.in-Some.ensures.later in
    let within : c.in-Some.begin ≤ length bs = rw c.as_bytes.ensures.value at c.in-Some.ensures.some in
    let at = text_place bs c.args.start.0 c.in-Some.begin c.args.below.0 c.args.below.1 c.utf8.text within begins in
    let here = rw c.range_from-rest.ensures.value at c.offset.ensures in
    omega (arith, here, at, offset_within bs (place_of (c.args.start.0 + c.args.below.0) c.args.below.1 (chars bs)) c.utf8.text)

pub returns-in-Some-clause-start : goal.returns-in-Some-clause-start
returns-in-Some-clause-start c =
    let bs = c.args.text.now in
    let begins : from_line c.args.start.0 bs ≡ Some (drop c.in-Some.begin bs) = rw c.as_bytes.ensures.value at c.in-Some.ensures.later in
    let within : c.in-Some.begin ≤ length bs = rw c.as_bytes.ensures.value at c.in-Some.ensures.some in
    let at = text_offset bs c.args.start.0 c.in-Some.begin c.args.start.1 c.utf8.text within begins in
    let here = rw c.range_from-rest.ensures.value at c.fitting_len.ensures in
    ap (λ n. c.in-Some.begin + n) here ∙ at

pub returns-in-Some-clause-end : goal.returns-in-Some-clause-end
returns-in-Some-clause-end c =
    let bs = c.args.text.now in
    let begins : from_line c.args.start.0 bs ≡ Some (drop c.in-Some.begin bs) = rw c.as_bytes.ensures.value at c.in-Some.ensures.later in
    let within : c.in-Some.begin ≤ length bs = rw c.as_bytes.ensures.value at c.in-Some.ensures.some in
    let at = text_place bs c.args.start.0 c.in-Some.begin c.args.below.0 c.args.below.1 c.utf8.text within begins in
    let here = rw c.range_from-rest.ensures.value at c.offset.ensures in
    omega (arith, here, at)

pub returns-in-None-clause-start : goal.returns-in-None-clause-start
returns-in-None-clause-start c =
    let missing : from_line c.args.start.0 c.args.text.now ≡ None = rw c.as_bytes.ensures.value at c.in-None.ensures.later in
    text_end c.args.text.now c.args.start.0 c.args.start.1 c.utf8.text missing

pub returns-in-None-clause-end : goal.returns-in-None-clause-end
returns-in-None-clause-end c =
    let missing : from_line c.args.start.0 c.args.text.now ≡ None = rw c.as_bytes.ensures.value at c.in-None.ensures.later in
    let later : c.args.start.0 ≤ c.args.start.0 + c.args.below.0 = omega arith in
    text_end_later c.args.text.now c.args.start.0 (c.args.start.0 + c.args.below.0) c.args.below.1 c.utf8.text later missing
