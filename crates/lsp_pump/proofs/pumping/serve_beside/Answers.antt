-- A reading may go to another thread, and come back. Where it does not go, nothing was read, and no step was made.
use Rattle.std.proofs.Common.{List, refl, sym, subst, false}
use Rattle.std.specs.Prelude.{Ok}
use Rattle.std.specs.Global.{Vec}
use denote.Param.Send.{sendable}
use Rattle.std.proofs.Crossing as std
use Rattle.lsp_session.specs.declared.item.Item.{Item}
use Rattle.lsp_pump.specs.Pieces.{all_items}
use Rattle.lsp_pump.specs.Steps.{MakesSteps}
use Rattle.lsp_pump.specs.Reading.{IsReadingOf}
use Rattle.lsp_pump.specs.declared.pumping.Promised.{Promised}
use Rattle.lsp_pump.proofs.Crossing.{crosses}
use Rattle.lsp_pump.proofs.StepsLemmas.{makes_none}
use Rattle.lsp_pump.proofs.pumping.serve_beside.Goals as goal

pub spawn_with-started-requires-send-F : goal.spawn_with-started-requires-send-F
spawn_with-started-requires-send-F g c κs within = search (sendable, std.crosses, crosses) depth 60

pub spawn_with-started-requires-send-T : goal.spawn_with-started-requires-send-T
spawn_with-started-requires-send-T g c κs within = search (sendable, std.crosses, crosses) depth 60

pub returns-in-Err-clause-makes : goal.returns-in-Err-clause-makes
returns-in-Err-clause-makes g c =
    let a = c.args.steps.now in
    subst (λ (l : List (Vec Item)). MakesSteps g.S.Steps.way c.args.rounds a (all_items l) (Ok false) a) (sym c.requires.none) (makes_none g.S.Steps.way c.args.rounds a c.requires.going)

-- ---- the promise, and what a reading that went comes to

pub spawn_with-started-requires-clause-runs : goal.spawn_with-started-requires-clause-runs
spawn_with-started-requires-clause-runs g c κs within = c.requires.fresh

pub spawn_with-started-requires-clause-keeps : goal.spawn_with-started-requires-clause-keeps
spawn_with-started-requires-clause-keeps g c κs within r is =
    subst (λ start. IsReadingOf g.I.Source.left g.I.Source.faults start c.args.reads r r.ended) (sym c.of.ensures) is

pub returns-in-Ok-clause-reading : goal.returns-in-Ok-clause-reading
returns-in-Ok-clause-reading g c =
    let left = g.I.Source.left in
    let faults = g.I.Source.faults in
    let end = c.join.result in
    subst (λ start. IsReadingOf left faults start c.args.reads end end.ended) c.of.ensures
    (subst (λ (p : Promised _). IsReadingOf left faults p.start.value p.reads end end.ended) c.in-Ok.ensures.ok c.join.ensures)

pub returns-in-Ok-clause-makes : goal.returns-in-Ok-clause-makes
returns-in-Ok-clause-makes g c = c.serve_waiting-served.ensures.makes

pub returns-in-Ok-clause-ring : goal.returns-in-Ok-clause-ring
returns-in-Ok-clause-ring g c = c.serve_waiting-served.ensures.ring

pub returns-in-Err-clause-reading : goal.returns-in-Err-clause-reading
returns-in-Err-clause-reading g c = rw c.in-Err.ensures.err at c.spawn_with.ensures

pub returns-in-Err-clause-ring : goal.returns-in-Err-clause-ring
returns-in-Err-clause-ring g c = ((refl, refl, refl, refl), refl)
