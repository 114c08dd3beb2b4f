use Rattle.std.proofs.Common.{◌≡◌, ◌∙◌, ◌-◌, ◌+◌, None, take, drop, sum_by, ap, sym, arith}
use Rattle.std.specs.Str.{chars}
use Rattle.lsp_documents.specs.Lines.{units, later_lines}
use Rattle.lsp_documents.proofs.BlockLemmas.{block_fits, some_bytes, fitting_bytes, none_later}
use Rattle.lsp_documents.proofs.place.fitting_block.Goals as goal

pub returns-clause-same : goal.returns-clause-same
returns-clause-same c =
    let bs = c.args.text.now in
    let e = c.floor_char_boundary-len.result in
    let start : e - 0 ≡ e = omega arith in
    let block : c.range-first.result.now ≡ take e bs = c.range-first.ensures.value ∙ ap (λ n. take n bs) start in
    let bytes : c.as_bytes.result.now ≡ take e bs = c.as_bytes.ensures.value ∙ block in
    let units_is : c.units-units.result ≡ sum_by units (chars (take e bs)) = c.units-units.ensures ∙ ap (λ t. sum_by units (chars t)) block in
    let none : later_lines (take e bs) ≡ None = ap later_lines (sym bytes) ∙ none_later c.line_len.result _ _ (sym c.is_some.ensures ∙ c.if-is_some.false) c.line_len.ensures.later in
    block_fits bs e c.args.character c.utf8.text c.floor_char_boundary-len.ensures.boundary none (omega (arith, units_is, c.if-character-units.false))
    ∙ ap (λ n. e + fitting_bytes (drop e bs) (c.args.character - n)) (sym units_is)

pub returns-clause-more : goal.returns-clause-more
returns-clause-more c =
    some_bytes c.args.text.now c.floor_char_boundary-len.result 240 c.utf8.text (omega (arith, c.if-text-le-LEN.false)) (omega arith) c.floor_char_boundary-len.ensures.nearest
