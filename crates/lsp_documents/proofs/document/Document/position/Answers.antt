use Rattle.std.proofs.Common.{◌≡◌, ◌<◌, length, refl, sym, ap, subst, ◌∙◌}
use Rattle.std.specs.Prelude.{string_bytes}
use Rattle.std.specs.Str.{chars, encode_utf8_all, IsCharBoundary}
use Rattle.std.proofs.lemmas.Bool.{false≢true}
use Rattle.std.proofs.lemmas.Str.{encodes-chars, IsUtf8-string_bytes}
use Rattle.lsp_base.specs.declared.position.Position.{Position}
use Rattle.lsp_documents.specs.OpenDocument.{OpenDocument}
use Rattle.lsp_documents.proofs.PositionLemmas.{moved}
use Rattle.lsp_documents.proofs.document.Document.position.Goals as goal

pub returns-in_err-line-clause-some : goal.returns-in_err-line-clause-some
returns-in_err-line-clause-some c =
    let text : c.as_str.result.now ≡ encode_utf8_all c.args.self.now.text =
    c.as_str.ensures.value ∙ sym (encodes-chars (string_bytes c.self.inside.text) (IsUtf8-string_bytes c.self.inside.text)) ∙ ap (λ (d : OpenDocument). encode_utf8_all d.text) c.self.view_is in
    λ cut small. absurd (false≢true (c.in_err-line.ensures.some (subst (λ x. IsCharBoundary x c.args.offset) (sym text) cut) (subst (λ x. length x < 4294967296) (sym text) small)))

pub returns-in_err-line-clause-in_range : goal.returns-in_err-line-clause-in_range
returns-in_err-line-clause-in_range c =
    let text : c.as_str.result.now ≡ encode_utf8_all c.args.self.now.text =
    c.as_str.ensures.value ∙ sym (encodes-chars (string_bytes c.self.inside.text) (IsUtf8-string_bytes c.self.inside.text)) ∙ ap (λ (d : OpenDocument). encode_utf8_all d.text) c.self.view_is in
    let characters : chars c.as_str.result.now ≡ c.args.self.now.text = ap chars c.as_str.ensures.value ∙ ap (λ (d : OpenDocument). d.text) c.self.view_is in
    λ cut line character p small short.
    absurd (false≢true (c.in_err-line.ensures.in_range (subst (λ x. IsCharBoundary x c.args.offset) (sym text) cut) line character
    (moved _ _ _ _ c.args.offset _ _ _ _ (sym characters) (sym text) refl refl p) small short))

pub returns-clause-is : goal.returns-clause-is
returns-clause-is c =
    let text : c.as_str.result.now ≡ encode_utf8_all c.args.self.now.text =
    c.as_str.ensures.value ∙ sym (encodes-chars (string_bytes c.self.inside.text) (IsUtf8-string_bytes c.self.inside.text)) ∙ ap (λ (d : OpenDocument). encode_utf8_all d.text) c.self.view_is in
    let characters : chars c.as_str.result.now ≡ c.args.self.now.text = ap chars c.as_str.ensures.value ∙ ap (λ (d : OpenDocument). d.text) c.self.view_is in
    moved _ _ _ _ c.args.offset _ _ _ _ characters text (sym (ap (λ (p : Position). p.line) c.new.ensures)) (sym (ap (λ (p : Position). p.character) c.new.ensures)) c.in_ok-line.ensures.is

pub returns-clause-boundary : goal.returns-clause-boundary
returns-clause-boundary c =
    let text : c.as_str.result.now ≡ encode_utf8_all c.args.self.now.text =
    c.as_str.ensures.value ∙ sym (encodes-chars (string_bytes c.self.inside.text) (IsUtf8-string_bytes c.self.inside.text)) ∙ ap (λ (d : OpenDocument). encode_utf8_all d.text) c.self.view_is in
    λ _. subst (λ x. IsCharBoundary x c.args.offset) text (c.in_ok-line.ensures.boundary refl)
