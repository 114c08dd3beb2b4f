use Rattle.std.proofs.Common.{sym, ap, ◌∙◌}
use Rattle.std.specs.Prelude.{string_bytes}
use Rattle.std.specs.Str.{encode_utf8_all}
use Rattle.std.proofs.lemmas.Str.{encodes-chars, IsUtf8-string_bytes}
use Rattle.lsp_documents.specs.OpenDocument.{OpenDocument}
use Rattle.lsp_documents.proofs.document.Document.text.Goals as goal

pub returns : goal.returns
returns c =
    c.as_str.ensures.value
    ∙ sym (encodes-chars (string_bytes c.self.inside.text) (IsUtf8-string_bytes c.self.inside.text))
    ∙ ap (λ (d : OpenDocument). encode_utf8_all d.text) c.self.view_is
