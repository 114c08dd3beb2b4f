-- The session is served to its end, and its summary is that of what was written.
use Rattle.std.proofs.Common.{sym}
use Rattle.std.specs.Prelude.{string_bytes}
use Rattle.lsp_server.specs.MemorySource.{never_left}
use Rattle.lsp_server.specs.MemorySink.{never_taken}
use Rattle.lsp_sample_run.proofs.BulkLemmas.{written_as, summary_as}
use Rattle.lsp_sample_run.proofs.bulk.served_summary.Goals as goal

pub returns : goal.returns
returns c =
    let left = never_left c.new-source.result in
    let rest = never_left c.serve.new.source in
    let taken = never_taken c.new-output.result in
    let after = never_taken c.serve.new.sink in
    let writes = written_as _ c.args.session c.in_ok-input.input.items c.bytes.result.now left rest taken after c.serve.result c.if-serve-gt1.false c.new-source.ensures.left c.in_ok-input.ensures c.new-output.ensures.taken (sym c.bytes.ensures) c.serve.ensures.session in
    summary_as _ c.args.session c.bytes.result.now c.summary.result string_bytes writes c.summary.ensures
