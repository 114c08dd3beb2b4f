-- What a store of documents shows.
use Rattle.std.specs.Prelude.{ℕ, ℤ, List, String, map, string_bytes, refl}
use Rattle.std.specs.Coded.{Coded, code_by, coded×, coded_ℕ, coded_ℤ, coded_list}
use Rattle.std.specs.FinMap as fin
use Rattle.std.specs.HashMap.{HashMap}
use Rattle.lsp_documents.specs.OpenDocument.{OpenDocument}
use Rattle.lsp_documents.specs.Documents.{DocumentMap}

abbrev pub open_document_code : Coded OpenDocument
open_document_code =
    code_by (ℤ × List ℕ) (coded× coded_ℤ (coded_list coded_ℕ)) (λ d. (d.version, d.text)) (λ p. record { version = p.0; text = p.1 }) (λ _. refl)

abbrev pub document_map_code : Coded DocumentMap
document_map_code = fin.code (coded_list coded_ℕ) open_document_code

-- the documents of a table by the texts of its keys
abbrev pub documents_of : {Z S : Type 0} → HashMap (String Z) OpenDocument S → DocumentMap
documents_of m = fin.from_entries (map (λ e. (string_bytes e.0, e.1)) m.entries)
