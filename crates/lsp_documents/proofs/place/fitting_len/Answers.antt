use Rattle.std.proofs.Common.{◌≡◌, ◌∙◌, drop, ap, arith}
use Rattle.std.specs.Str.{chars}
use Rattle.std.proofs.lemmas.Str.{IsCharBoundary-start}
use Rattle.lsp_documents.specs.Lines.{first_line, fitting}
use Rattle.lsp_documents.proofs.BlockLemmas.{fitting_bytes}
use Rattle.lsp_documents.proofs.PlaceLemmas.{offset_within}
use Rattle.lsp_documents.proofs.place.fitting_len.Goals as goal

pub loop-passed-init : goal.loop-passed-init
loop-passed-init c = record {
  cut = IsCharBoundary-start c.args.text.now c.utf8.text;
  same = omega arith;
}

pub overflow_add-result : goal.overflow_add-result
overflow_add-result c =
    let bs = c.args.text.now in
    let near : c.near_fitting_len.result ≡ fitting_bytes (drop c.loop-passed.len bs) c.loop-passed.left =
    c.near_fitting_len.ensures ∙ ap (λ t. fitting_bytes t c.loop-passed.left) c.range_from-2.ensures.value in
    omega (arith, near, c.loop-passed.invariant.same, offset_within bs (fitting c.args.character (first_line (chars bs))) c.utf8.text)
