use Rattle.std.proofs.Common.{◌≡◌, map, drop}
use Rattle.std.specs.Prelude.{string_bytes}
use Rattle.std.specs.Str.{chars}
use Rattle.lsp_documents.specs.Documents.{all_changed, change_of}
use Rattle.lsp_documents.proofs.change.apply_all.Given as goal

abbrev pub invariant-loop-change : goal.invariant-loop-change
invariant-loop-change l =
    all_changed (map change_of (drop l.change-index l.changes)) (chars (string_bytes l.text)) ≡ all_changed (map change_of l.changes) (chars (string_bytes l.fn.text))
