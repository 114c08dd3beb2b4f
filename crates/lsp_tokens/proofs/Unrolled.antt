-- A range with its parents is read, written and tested as one level of it.
use Rattle.std.proofs.Common.{◌≡◌}
use Rattle.serde_json.specs.Data.{Data}
use Rattle.lsp_shape.specs.Plain.{Plain}
use Rattle.lsp_shape.specs.Read.{read}
use Rattle.lsp_shape.specs.Write.{write}
use Rattle.lsp_shape.specs.Values.{is_of}
use Rattle.lsp_shape.proofs.Maybe.{maybe_there, maybe_not}
use Rattle.lsp_shape.proofs.Recursive.{read-unrolled, write-unrolled, is_of-unrolled, depth-get_member}
use Rattle.lsp_tokens.specs.SelectionRange.{selection_range_fields, selection_range_shape, selection_range_level}

pub read-level : (d : Data) → read selection_range_shape d ≡ read selection_range_level.shape d
unfolding selection_range_shape selection_range_level
read-level d = read-unrolled selection_range_fields d

pub write-level : (p : Plain) → write selection_range_shape p ≡ write selection_range_level.shape p
unfolding selection_range_shape selection_range_level
write-level p = write-unrolled selection_range_fields p

pub is_of-level : (p : Plain) → is_of selection_range_shape p ≡ is_of selection_range_level.shape p
unfolding selection_range_shape selection_range_level
is_of-level p = is_of-unrolled selection_range_fields p

pub ruleset reading_lemmas = (maybe_there, maybe_not, read-level, depth-get_member)

pub ruleset writing_lemmas = (write-level, is_of-level)
