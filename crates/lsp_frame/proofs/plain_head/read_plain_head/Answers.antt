-- The text of the head, piece by piece.
use Rattle.std.proofs.Common.{◌≡◌, ◌++◌, codes, decimal, length, Some, sym, ap, ◌∙◌, arith, rules, append_assoc, length-append}
use Rattle.std.proofs.lemmas.Bool.Decides.{Decides-eqb}
use Rattle.std.proofs.lemmas.Slice.Eq.{strip_prefix_is}
use Rattle.lsp_frame.proofs.plain_head.read_plain_head.Goals as goal

pub returns-then-size-most-clause-value : goal.returns-then-size-most-clause-value
returns-then-size-most-clause-value c =
    let n = c.loop-byte.len in
    let name = codes "Content-Length: " in
    let end = codes "\r\n\r\n" in
    let bytes = c.args.bytes.now in
    let first = c.in_ok-rest.rest in
    let second = c.in_ok-rest-2.rest in
    let last = c.in_ok-strip_prefix.field-0 in
    let text : c.format-digits.result.now ≡ decimal n = search rules in
    let named : bytes ≡ name ++ first.now = strip_prefix_is Decides-eqb bytes c.as_slice.result.now (Some first) c.in_ok-rest.ensures.cases ∙ ap (λ t. t ++ first.now) c.as_slice.ensures in
    let numbered : first.now ≡ c.as_bytes.result.now ++ second.now = strip_prefix_is Decides-eqb first.now c.as_bytes.result.now (Some second) c.in_ok-rest-2.ensures.cases in
    let ended : second.now ≡ end ++ last.now = strip_prefix_is Decides-eqb second.now c.as_slice-2.result.now (Some last) c.in_ok-strip_prefix.ensures.cases ∙ ap (λ t. t ++ last.now) c.as_slice-2.ensures in
    let digits : c.as_bytes.result.now ≡ decimal n = c.as_bytes.ensures.value ∙ text in
    record {
      fits = search rules;
      size = omega (arith, ap length text, length-append (decimal n) end);
      front = (last.now, named ∙ ap (λ t. name ++ t) (numbered ∙ ap (λ t. t ++ second.now) digits ∙ ap (λ t. decimal n ++ t) ended ∙ sym (append_assoc (decimal n) end last.now)));
    }
