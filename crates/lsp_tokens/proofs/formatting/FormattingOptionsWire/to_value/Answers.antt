use Rattle.std.proofs.Common.{refl}
use Rattle.lsp_shape.proofs.Parts.{both_ok}
use Rattle.lsp_tokens.specs.Formatting.{formatting_options_row}
use Rattle.lsp_tokens.proofs.formatting.FormattingOptionsWire.to_value.Goals as goal

-- line by line, from the last on
pub returns-clause-written : goal.returns-clause-written
unfolding formatting_options_row
returns-clause-written c = both_ok _ _ c.end.result c.end.ensures.written c.end.ensures.whole (λ v written w5.
    let w4 = c.optional-3.ensures.0 w5 in
    let w3 = c.optional-2.ensures.0 w4 in
    let w2 = c.optional.ensures.0 w3 in
    let w1 = c.field-2.ensures.0 w2 in
    let w0 = c.field.ensures.0 w1 in
    rw (written, c.optional-3.ensures.1 w5, c.optional-2.ensures.1 w4, c.optional.ensures.1 w3, c.field-2.ensures.1 w2, c.field.ensures.1 w1, c.with_rest-object.ensures.written w0) refl)
