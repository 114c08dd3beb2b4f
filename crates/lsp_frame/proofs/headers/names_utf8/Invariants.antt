use Rattle.std.proofs.Common.{◌≡◌, [], length}
use Rattle.std.specs.Str.{IsUtf8}
use Rattle.lsp_frame.specs.Headers.{names_utf8, parts_from}
use Rattle.lsp_frame.proofs.headers.names_utf8.Given as goal

abbrev pub invariant-parts : goal.invariant-parts
invariant-parts l = record {
  text : IsUtf8 l.rest;
  same : names_utf8 (parts_from [] l.rest) ≡ names_utf8 (parts_from [] l.fn.value);
}

abbrev pub decreases-parts : goal.decreases-parts
decreases-parts l = length l.rest
