use Rattle.std.proofs.Common.{None, sym, ap, ◌∙◌}
use Rattle.std.specs.FinMap as fin
use Rattle.std.proofs.lemmas.Map.Text.{hash_map_updates_text}
use Rattle.lsp_documents.specs.Documents.{DocumentMap}
use Rattle.lsp_documents.proofs.MapLemmas.{get-documents_of, removed}
use Rattle.lsp_documents.proofs.documents.Documents.close.Goals as goal

pub returns-clause-document : goal.returns-clause-document
returns-clause-document c =
    c.remove.ensures.value ∙ sym (get-documents_of c.self.inside.documents c.args.uri.now)
    ∙ ap (λ (ds : DocumentMap). fin.get ds c.args.uri.now) c.self.view_is

pub returns-clause-others : goal.returns-clause-others
returns-clause-others c =
    removed c.self.inside.documents c.remove.new.self c.args.uri.now (hash_map_updates_text c.args.uri.now c.self.inside.documents c.remove.new.self None c.remove.ensures.updates)
    ∙ ap (λ (ds : DocumentMap). fin.remove ds c.args.uri.now) c.self.view_is
