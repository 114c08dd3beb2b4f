-- What is left, in the view.
use Rattle.std.proofs.Common.{ap, ◌∙◌, map}
use Rattle.lsp_rpc.specs.Ids.{same_id, same_id_equiv}
use Rattle.lsp_rpc.specs.Shown.{show_id}
use Rattle.lsp_desk.specs.Desk.{has_id}
use Rattle.lsp_desk.specs.Waits.{show_awaited}
use Rattle.lsp_desk.proofs.ListLemmas.{rest-shown}
use Rattle.lsp_desk.proofs.waiting.Waiting.remove_oldest.Goals as goal

pub returns : goal.returns
returns c =
    let i = show_id c.args.id.now in
    ap (map show_awaited) c.take.ensures.rest
    ∙ rest-shown show_awaited (has_id i) (λ e. same_id i (show_id e.1.0)) (λ e. same_id_equiv.symm i (show_id e.1.0)) c.args.self.now.awaited
