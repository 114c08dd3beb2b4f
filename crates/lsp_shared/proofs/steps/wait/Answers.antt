use Rattle.std.proofs.Common.{ap, ◌∙◌, arith}
use Rattle.lsp_shared.specs.Steps.{Mine}
use Rattle.lsp_shared.proofs.Moves.{takes_turn}
use Rattle.lsp_shared.proofs.steps.wait.Goals as goal

pub load-turn-requires : goal.load-turn-requires
load-turn-requires g c =
    let same = c.loop.invariant.1 in
    let phase = ap (λ (m : Mine). m.0.phase) same ∙ c.requires.waits.0 in
    let share = ap (λ (m : Mine). m.0.share) same in
    (c.loop.invariant.0 ∙ c.requires.here, (let w = c.args.desk.now.words in omega arith), takes_turn _ _ _ _ phase (ap (λ (m : Mine). m.1) same ∙ c.requires.empty) (let s = c.requires.waits.1 in omega arith))

pub loop-preserved : goal.loop-preserved
loop-preserved g c =
    (c.load-turn.ensures.0 ∙ c.loop.invariant.0, (c.load-turn.ensures.2 c.args.t (ap (λ (m : Mine). m.0.phase) c.loop.invariant.1 ∙ c.requires.waits.0)).1 c.if-turn-t.false ∙ c.loop.invariant.1)
