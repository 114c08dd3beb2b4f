-- The list was empty before.
use Rattle.std.proofs.Common.{◌++◌, List, ap, ◌∙◌, map}
use Rattle.lsp_rpc.specs.Shown.{show_id}
use Rattle.lsp_rpc.specs.declared.id.Id.{Id}
use Rattle.lsp_session.proofs.PendingLemmas.{shown_keys}
use Rattle.lsp_session.proofs.pending.Pending.cancel_all.Goals as goal

pub returns-clause-were : goal.returns-clause-were
returns-clause-were c =
    ap (map show_id) (c.clear_into.ensures.keys ∙ ap (λ (l : List Id). l ++ map (λ e. e.1.0) c.args.self.now.ids) (ap (λ v. v.items) c.replace-ids.ensures.value ∙ c.args.self.now.empty))
    ∙ shown_keys c.args.self.now.ids
