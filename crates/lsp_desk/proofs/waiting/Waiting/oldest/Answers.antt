-- The oldest of an id is the first that shows it.
use Rattle.std.proofs.Common.{ap, sym, ◌∙◌}
use Rattle.std.specs.Prelude.{option_map}
use Rattle.std.specs.List.{find}
use Rattle.lsp_rpc.specs.Ids.{same_id, same_id_equiv}
use Rattle.lsp_rpc.specs.Shown.{show_id}
use Rattle.lsp_desk.specs.Desk.{has_id}
use Rattle.lsp_desk.specs.Waits.{show_awaited}
use Rattle.lsp_desk.proofs.ListLemmas.{find-shown, map_twice}
use Rattle.lsp_desk.proofs.waiting.Waiting.oldest.Goals as goal

pub returns : goal.returns
returns c =
    let i = show_id c.args.id.now in
    c.oldest.ensures ∙ sym (map_twice (λ a. a.ticket) show_awaited (find (λ e. same_id i (show_id e.1.0)) c.args.self.now.awaited))
    ∙ ap (option_map (λ a. a.ticket)) (sym (find-shown show_awaited (has_id i) (λ e. same_id i (show_id e.1.0)) (λ e. same_id_equiv.symm i (show_id e.1.0)) c.args.self.now.awaited))
