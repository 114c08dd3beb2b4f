-- A symbol with its children is read, written and tested as one level of it.
use Rattle.std.proofs.Common.{◌≡◌}
use Rattle.serde_json.specs.Data.{Data}
use Rattle.lsp_shape.specs.Plain.{Plain}
use Rattle.lsp_shape.specs.Read.{read}
use Rattle.lsp_shape.specs.Write.{write}
use Rattle.lsp_shape.specs.Values.{is_of}
use Rattle.lsp_shape.proofs.Maybe.{maybe_there, maybe_not}
use Rattle.lsp_shape.proofs.Recursive.{read-unrolled, write-unrolled, is_of-unrolled, depth-get_member}
use Rattle.lsp_lang_goto.specs.Tree.{document_symbol_fields, document_symbol_shape, document_symbol_level}

pub read-level : (d : Data) → read document_symbol_shape d ≡ read document_symbol_level.shape d
unfolding document_symbol_shape document_symbol_level
read-level d = read-unrolled document_symbol_fields d

pub write-level : (p : Plain) → write document_symbol_shape p ≡ write document_symbol_level.shape p
unfolding document_symbol_shape document_symbol_level
write-level p = write-unrolled document_symbol_fields p

pub is_of-level : (p : Plain) → is_of document_symbol_shape p ≡ is_of document_symbol_level.shape p
unfolding document_symbol_shape document_symbol_level
is_of-level p = is_of-unrolled document_symbol_fields p

pub ruleset reading_lemmas = (maybe_there, maybe_not, read-level, depth-get_member)

pub ruleset writing_lemmas = (write-level, is_of-level)
