use Rattle.std.proofs.Common.{◌∙◌, sym}
use Rattle.httparse.specs.Spans.{header_bytes}
use Rattle.lsp_frame.specs.NoSpan.{no_span}
use Rattle.lsp_frame.proofs.HeaderByHeader.{next_header}
use Rattle.lsp_frame.proofs.headers.content_length.Goals as goal

pub returns-in-Err : goal.returns-in-Err
returns-in-Err c =
    let head = c.args.head.now in
    sym (sym c.loop-i.invariant
    ∙ next_header (header_bytes c.args.block.now) head.spans head.count c.loop-i.i no_span c.loop-i.length _ c.loop-i-test.true c.requires.few (sym c.in-Err.is ∙ c.length_at.ensures))

pub loop-i-preserved : goal.loop-i-preserved
loop-i-preserved c =
    let head = c.args.head.now in
    sym (next_header (header_bytes c.args.block.now) head.spans head.count c.loop-i.i no_span c.loop-i.length _ c.loop-i-test.true c.requires.few (sym c.in-Ok.is ∙ c.length_at.ensures))
    ∙ c.loop-i.invariant
