-- The life then is the desk's.
use Rattle.std.proofs.Common.{sym, ◌∙◌, ap}
use Rattle.lsp_desk.specs.declared.life.Life.{Life}
use Rattle.lsp_desk.specs.Lives.{later, fallen}
use Rattle.lsp_desk.proofs.TraceLemmas.{makes_of, makes_life}
use Rattle.lsp_session.proofs.desk.change_life.Goals as goal

pub returns-in_ok-rise-in-Rises-clause-life : goal.returns-in_ok-rise-in-Rises-clause-life
returns-in_ok-rise-in-Rises-clause-life g c =
    let m = g.D.Caller.meaning in
    let old = c.args.desk.now in
    let done = c.in_ok-rise-in-Rises.ensures in
    let makes = makes_of m old c.rise.new.desk done.trace _ (g.met.D.Desk.is_chief old) done.grows done.holds in
    c.later.ensures ∙ ap (λ (l : Life). later l c.in-Rises.other) c.requires ∙ sym (makes_life (m.now old) (m.now c.rise.new.desk) _ done.trace makes)

pub returns-in_ok-fall-in-Falls-clause-life : goal.returns-in_ok-fall-in-Falls-clause-life
returns-in_ok-fall-in-Falls-clause-life g c =
    let m = g.D.Caller.meaning in
    let old = c.args.desk.now in
    let done = c.in_ok-fall-in-Falls.ensures in
    let makes = makes_of m old c.fall.new.desk done.trace _ (g.met.D.Desk.is_chief old) done.grows done.holds in
    c.fallen.ensures ∙ ap fallen c.requires ∙ sym (makes_life (m.now old) (m.now c.fall.new.desk) _ done.trace makes)
