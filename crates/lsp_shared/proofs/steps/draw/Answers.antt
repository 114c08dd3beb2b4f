use Rattle.std.proofs.Common.{ap, ◌∙◌, arith}
use Rattle.lsp_shared.specs.Steps.{Mine}
use Rattle.lsp_shared.proofs.Moves.{looks, draws}
use Rattle.lsp_shared.proofs.steps.draw.Goals as goal

pub load-n-requires : goal.load-n-requires
load-n-requires g c = (c.loop.invariant.0 ∙ c.requires.here, (let w = c.args.desk.now.words in omega arith), looks _ _ _)

pub compare_exchange-requires : goal.compare_exchange-requires
compare_exchange-requires g c =
    let low = c.load-n.type_inv in
    let last = c.if-n.false in
    let found = c.load-n.ensures in
    let phase = ap (λ (m : Mine). m.0.phase) found.2.1 ∙ ap (λ (m : Mine). m.0.phase) c.loop.invariant.2 ∙ c.requires.may.0 in
    let share = ap (λ (m : Mine). m.0.share) found.2.1 ∙ ap (λ (m : Mine). m.0.share) c.loop.invariant.2 in
    (found.0 ∙ c.loop.invariant.0 ∙ c.requires.here, (let w = c.args.desk.now.words in omega arith), draws _ _ _ _ phase (let s = c.requires.may.1 in omega arith) (omega arith))
