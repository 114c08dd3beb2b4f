-- A ticket that is a number of what is awaited stands in its view.
use Rattle.std.proofs.Common.{sym, ◌∙◌}
use Rattle.std.specs.Cmp.{nat_eq_equiv}
use Rattle.std.specs.Prelude.{◌==◌}
use Rattle.lsp_desk.specs.Desk.{is_awaited_by}
use Rattle.lsp_desk.specs.Waits.{show_awaited}
use Rattle.lsp_desk.proofs.ListLemmas.{any-shown}
use Rattle.lsp_desk.proofs.waiting.Waiting.has_ticket.Goals as goal

pub returns : goal.returns
returns c = c.has_number.ensures ∙ sym (any-shown show_awaited (is_awaited_by c.args.ticket) (λ e. c.args.ticket == e.0) (λ e. nat_eq_equiv.symm c.args.ticket e.0) c.args.self.now.awaited)
