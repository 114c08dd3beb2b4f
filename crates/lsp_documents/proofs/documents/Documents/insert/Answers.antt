-- The document stands under its URI.
use Rattle.std.proofs.Common.{◌≡◌, ℕ, List, cond, Some, ap, ◌∙◌, w32}
use Rattle.std.specs.Prelude.{ℤ, string_bytes, bytes_eq}
use Rattle.std.specs.FinMap as fin
use Rattle.std.specs.HashMap.{get_by_text}
use Rattle.std.specs.Str.{chars}
use Rattle.std.proofs.lemmas.Map.Text.{hash_map_updates_text}
use Rattle.std.proofs.lemmas.Int.{to_z-of_z}
use Rattle.lsp_documents.specs.OpenDocument.{OpenDocument, document_of}
use Rattle.lsp_documents.specs.Documents.{DocumentMap}
use Rattle.lsp_documents.proofs.MapLemmas.{inserted}
use Rattle.lsp_documents.proofs.documents.Documents.insert.Goals as goal

pub returns-clause-ok : goal.returns-clause-ok
returns-clause-ok c =
    let m = c.self.inside.documents in
    let n = c.insert.new.self in
    let k = c.args.uri.now in
    let d : OpenDocument = record { version = c.args.version; text = chars (string_bytes c.args.text) } in
    let updated : (q : List ℕ) → get_by_text n q ≡ cond (bytes_eq k q) (Some d) (get_by_text m q) =
    λ q. hash_map_updates_text (string_bytes c.in_ok-key.key) m n (Some c.new.result) c.in_ok-insert.ensures.updates q
    ∙ ap (λ b. cond (bytes_eq b q) (Some c.new.result) (get_by_text m q)) c.in_ok-key.ensures.ok
    ∙ ap (λ (x : OpenDocument). cond (bytes_eq k q) (Some x) (get_by_text m q)) c.new.ensures
    ∙ ap (λ (v : ℤ). cond (bytes_eq k q) (Some (document_of v (chars (string_bytes c.args.text)))) (get_by_text m q)) (to_z-of_z w32 c.args.version c.ranges.version) in
    inserted m n k d updated ∙ ap (λ (ds : DocumentMap). fin.insert ds k d) c.self.view_is
