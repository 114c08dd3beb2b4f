-- No document of the URI is open, or one is.
use Rattle.std.proofs.Common.{◌≡◌, false, cond, Some, None, sym, ap, ◌∙◌, refl, w32}
use Rattle.std.specs.Prelude.{ℤ, is_some, string_bytes}
use Rattle.std.specs.FinMap as fin
use Rattle.std.specs.Str.{chars}
use Rattle.std.proofs.lemmas.Int.{to_z-of_z}
use Rattle.lsp_documents.specs.OpenDocument.{document_of}
use Rattle.lsp_documents.specs.Documents.{DocumentMap}
use Rattle.lsp_documents.proofs.MapLemmas.{get-documents_of}
use Rattle.lsp_documents.proofs.documents.Documents.open.Goals as goal

pub returns-then-contains_key-clause-already : goal.returns-then-contains_key-clause-already
returns-then-contains_key-clause-already c = (
  λ _. ap (λ (ds : DocumentMap). is_some (fin.get ds c.args.uri.now)) (sym c.self.view_is)
      ∙ ap is_some (get-documents_of c.self.inside.documents c.args.uri.now)
      ∙ sym c.contains_key.ensures ∙ c.if-contains_key.true,
  λ _. refl,
)

pub returns-in-Ok-clause-ok : goal.returns-in-Ok-clause-ok
returns-in-Ok-clause-ok c =
    let no : fin.contains_key c.args.self.now c.args.uri.now ≡ false =
    ap (λ (ds : DocumentMap). is_some (fin.get ds c.args.uri.now)) (sym c.self.view_is)
    ∙ ap is_some (get-documents_of c.self.inside.documents c.args.uri.now)
    ∙ sym c.contains_key.ensures ∙ c.if-contains_key.false in
    ap (λ b. cond b None (Some (fin.insert c.args.self.now c.args.uri.now (document_of c.args.version (chars (string_bytes c.args.text)))))) no
    ∙ ap Some (sym (c.in-Ok.ensures.ok
    ∙ ap (λ (v : ℤ). fin.insert c.args.self.now c.args.uri.now (document_of v (chars (string_bytes c.args.text)))) (to_z-of_z w32 c.args.version c.ranges.version)))

pub returns-in-Ok-clause-already : goal.returns-in-Ok-clause-already
returns-in-Ok-clause-already c =
    let no : fin.contains_key c.args.self.now c.args.uri.now ≡ false =
    ap (λ (ds : DocumentMap). is_some (fin.get ds c.args.uri.now)) (sym c.self.view_is)
    ∙ ap is_some (get-documents_of c.self.inside.documents c.args.uri.now)
    ∙ sym c.contains_key.ensures ∙ c.if-contains_key.false in
    (λ e. cc, λ e. cc (no, e))

pub returns-in-Err-clause-already : goal.returns-in-Err-clause-already
returns-in-Err-clause-already c =
    let no : fin.contains_key c.args.self.now c.args.uri.now ≡ false =
    ap (λ (ds : DocumentMap). is_some (fin.get ds c.args.uri.now)) (sym c.self.view_is)
    ∙ ap is_some (get-documents_of c.self.inside.documents c.args.uri.now)
    ∙ sym c.contains_key.ensures ∙ c.if-contains_key.false in
    (λ e. cc, λ e. cc (no, e))
