-- What the errors say.
use Rattle.std.specs.Prelude.{ℕ, List, codes}
use Rattle.lsp_documents.specs.declared.error.ChangeError.{ChangeError}
use Rattle.lsp_documents.specs.declared.error.ChangeError.TheVariants as change_errors
use Rattle.lsp_documents.specs.declared.error.OpenError.{OpenError}
use Rattle.lsp_documents.specs.declared.error.OpenError.TheVariants as open_errors

abbrev pub open_error_text : OpenError → List ℕ
open_error_text open_errors.AlreadyOpen = codes "the document is open"
open_error_text open_errors.NoMemory = codes "out of memory"

abbrev pub change_error_text : ChangeError → List ℕ
change_error_text change_errors.NotOpen = codes "the document is not open"
change_error_text change_errors.StartBehindEnd = codes "a range has its start behind its end"
change_error_text change_errors.NoMemory = codes "out of memory"
