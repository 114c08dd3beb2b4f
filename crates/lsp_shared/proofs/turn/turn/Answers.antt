-- A call has its turn.
use Rattle.std.proofs.Common.{◌∷◌, length, sym, ap, ◌∙◌, arith}
use Rattle.atomic_table.specs.Table.{rest}
use Rattle.lsp_shared.specs.Phases.{is_idle}
use Rattle.lsp_shared.specs.Steps.{Mine}
use Rattle.lsp_shared.proofs.Turning.{ready_by, share_by, turned_by, answered_by, seen_by, unspent_by}
use Rattle.lsp_shared.proofs.turn.turn.Goals as goal

pub slot_mut-requires : goal.slot_mut-requires
slot_mut-requires g c = let got = c.wait.ensures.1 in (c.wait.ensures.0 ∙ c.draw.ensures.here ∙ c.requires.here, (got.desk, got.carried ∙ ap (λ r. (0, got.desk) ∷ r) (sym (ap rest got.carried))))

pub pass-requires-clause-ready : goal.pass-requires-clause-ready
pass-requires-clause-ready g c =
    let made = c.make-result.ensures in
    let share = share_by g.C.DeskCall.shown g.C.DeskCall.replied g.met.C.DeskCall.same _ _ c.requires.note c.args.seat.now.seat.me _ _ _ c.slot_mut.result.now _ _ c.in-Some.ensures.drawn c.wait.ensures.1 c.requires.may c.slot_mut.ensures.value c.requires.float_free made.steps made.ready made.float_free in
    let old = c.args.seat.now in let share_is = old.share_is in let some_share = old.has_share in (
      ready_by g.C.DeskCall.shown g.C.DeskCall.replied g.met.C.DeskCall.same _ _ c.requires.note c.args.seat.now.seat.me _ _ _ c.slot_mut.result.now _ _ c.in-Some.ensures.drawn c.wait.ensures.1 c.requires.may c.slot_mut.ensures.value c.requires.float_free made.steps made.ready made.float_free,
      omega arith,
    )

pub invariant_of-seat-2 : goal.invariant_of-seat-2
invariant_of-seat-2 g c =
    let made = c.make-result.ensures in
    let old = c.args.seat.now in
    let t = turned_by g.C.DeskCall.shown g.C.DeskCall.replied g.met.C.DeskCall.same _ _ c.requires.note old.seat.me _ _ _ c.slot_mut.result.now _ _ c.in-Some.ensures.drawn c.wait.ensures.1 c.requires.may c.slot_mut.ensures.value c.requires.float_free made.steps made.ready made.float_free _ c.pass.ensures.1 in
    record {
      idle = ap is_idle t.idle;
      empty = ap (λ (m : Mine). length m.1) c.pass.ensures.1;
      seen_is = seen_by g.C.DeskCall.shown g.C.DeskCall.replied g.met.C.DeskCall.same _ _ c.requires.note old.seat.me _ _ _ c.slot_mut.result.now _ _ c.in-Some.ensures.drawn c.wait.ensures.1 c.requires.may c.slot_mut.ensures.value c.requires.float_free made.steps made.ready made.float_free _ c.pass.ensures.1;
      share_is = t.share ∙ old.share_is;
      has_share = old.has_share;
      spent_is = old.spent_is ∙ unspent_by _ _ t.later t.unspent;
      inside = t.inside;
      once = t.once;
    }

pub returns-clause-answered : goal.returns-clause-answered
returns-clause-answered g c =
    let made = c.make-result.ensures in
    answered_by g.C.DeskCall.shown g.C.DeskCall.replied g.met.C.DeskCall.same _ _ c.requires.note c.args.seat.now.seat.me _ _ _ c.slot_mut.result.now _ _ c.in-Some.ensures.drawn c.wait.ensures.1 c.requires.may c.slot_mut.ensures.value c.requires.float_free made.steps made.ready made.float_free _ c.pass.ensures.1
