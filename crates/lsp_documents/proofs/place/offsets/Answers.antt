use Rattle.std.proofs.Common.{◌≡◌, ◌+◌, ◌-◌, length, take, ap, ◌∙◌, arith}
use Rattle.std.specs.Str.{chars, encode_utf8_all}
use Rattle.lsp_documents.specs.Lines.{place_of}
use Rattle.lsp_documents.proofs.place.offsets.Goals as goal

pub returns-clause-end : goal.returns-clause-end
returns-clause-end c =
    let cs = chars c.args.text.now in
    let line : c.args.start.0 + (c.args.end.0 - c.args.start.0) ≡ c.args.end.0 = omega (arith, c.if-end-start.false) in
    c.offsets_below.ensures.end ∙ ap (λ l. length (encode_utf8_all (take (place_of l c.args.end.1 cs) cs))) line
