use Rattle.std.proofs.Common.{◌≡◌, drop, take, map, None}
use Rattle.httparse.specs.Spans.{header_bytes}
use Rattle.lsp_frame.specs.Headers.{content_length}
use Rattle.lsp_frame.proofs.headers.content_length.Given as goal

abbrev pub invariant-loop-i : goal.invariant-loop-i
invariant-loop-i l = content_length l.length (map (header_bytes l.block) (drop l.i (take l.head.count l.head.spans))) ≡ content_length None (map (header_bytes l.block) (take l.head.count l.head.spans))
