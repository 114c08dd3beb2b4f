use Rattle.std.proofs.Common.{sym, ap, ◌∙◌}
use Rattle.std.specs.FinMap as fin
use Rattle.lsp_documents.specs.Documents.{DocumentMap}
use Rattle.lsp_documents.proofs.MapLemmas.{get-documents_of}
use Rattle.lsp_documents.proofs.documents.Documents.get.Goals as goal

pub returns : goal.returns
returns c =
    c.get.ensures.value ∙ sym (get-documents_of c.self.inside.documents c.args.uri.now)
    ∙ ap (λ (ds : DocumentMap). fin.get ds c.args.uri.now) c.self.view_is
