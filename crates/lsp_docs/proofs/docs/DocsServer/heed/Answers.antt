-- A call of the group that isn't a notification of a document isn't known.
use Rattle.std.proofs.Common.{sym, ap, ◌∙◌, refl}
use Rattle.lsp_service.specs.Data.{refusal}
use Rattle.lsp_docs.specs.Docs.{replies}
use Rattle.lsp_docs.specs.Typed.{sync_turn}
use Rattle.lsp_docs.proofs.TurnLemmas.{takes_reply, unknown_sync}
use Rattle.lsp_docs.proofs.docs.DocsServer.heed.Goals as goal

pub returns-in-Ok-method_not_found-clause-heeded : goal.returns-in-Ok-method_not_found-clause-heeded
returns-in-Ok-method_not_found-clause-heeded g c =
    takes_reply g.D.Caller.meaning c.args.client.now (sync_turn c.args.call) c.args.self.now.documents c.args.self.now.documents _
    (unknown_sync c.args.call c.in_default.not-DidOpen c.in_default.not-DidChange c.in_default.not-DidClose ∙ sym (ap (λ e. replies (refusal e)) c.in-Ok-method_not_found.ensures)) refl
