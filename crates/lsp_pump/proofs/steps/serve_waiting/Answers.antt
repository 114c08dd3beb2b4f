-- What is made after what was made.
use Rattle.std.proofs.Common.{List, refl, sym, ◌∙◌, subst, true, false}
use Rattle.std.specs.Prelude.{Ok, Err}
use Rattle.std.specs.Global.{Vec}
use Rattle.rtrb.specs.declared.consumer.Consumer.{Consumer}
use Rattle.rtrb.specs.Ring.{received, SameConsumer}
use Rattle.lsp_session.specs.declared.item.Item.{Item}
use Rattle.lsp_pump.specs.Pieces.{all_items}
use Rattle.lsp_pump.specs.Steps.{MakesSteps}
use Rattle.lsp_pump.proofs.StepsLemmas.{makes_none, makes_then, makes_error}
use Rattle.lsp_pump.proofs.steps.serve_waiting.Goals as goal

pub loop-init : goal.loop-init
loop-init g c =
    let way = g.S.Steps.way in
    let a = c.args.steps.now in
    record {
      made = subst (λ (l : List (Vec Item)). MakesSteps way c.args.rounds a (all_items l) (Ok false) a) (sym c.requires.none) (makes_none way c.args.rounds a c.requires.going);
      ring = ((refl, refl, refl, refl), refl);
      going = c.requires.going;
    }

same_then : {T A P : Type 0} (a b c : Consumer T A P) → SameConsumer a b → SameConsumer b c → SameConsumer a c
same_then a b c p q = ((q.0.0 ∙ p.0.0, q.0.1 ∙ p.0.1, q.0.2 ∙ p.0.2, q.0.3 ∙ p.0.3), q.1 ∙ p.1)

pub loop-preserved : goal.loop-preserved
loop-preserved g c =
    let way = g.S.Steps.way in
    let inv = c.loop.invariant in
    let d = c.serve_next.new.steps in
    let makes = c.in_ok-serve_next.ensures.makes in
    let last : MakesSteps way c.args.rounds c.loop.steps makes.0 (Ok false) d = rw c.if-branch.false at makes.2 in
    record {
      made = makes_then way c.args.rounds c.args.steps.now c.loop.steps d (all_items (received c.loop.pieces)) makes.0 (all_items (received c.serve_next.new.pieces)) (Ok false) makes.1 inv.made last;
      ring = same_then c.args.pieces.now c.loop.pieces c.serve_next.new.pieces inv.ring c.in_ok-serve_next.ensures.ring;
      going = last.stands;
    }

pub returns-in_err-serve_next-clause-makes : goal.returns-in_err-serve_next-clause-makes
returns-in_err-serve_next-clause-makes g c =
    let makes = c.in_err-serve_next.ensures.makes in
    let e = c.in_err-serve_next.field-0.0 in
    makes_error g.S.Steps.way c.args.rounds c.args.steps.now c.serve_next.new.steps (all_items (received c.serve_next.new.pieces)) e c.from_residual.result c.from_residual.ensures.1
    (makes_then g.S.Steps.way c.args.rounds c.args.steps.now c.loop.steps c.serve_next.new.steps (all_items (received c.loop.pieces)) makes.0 (all_items (received c.serve_next.new.pieces))
    (Err e) makes.1 c.loop.invariant.made makes.2)

pub returns-in_err-serve_next-clause-ring : goal.returns-in_err-serve_next-clause-ring
returns-in_err-serve_next-clause-ring g c = same_then c.args.pieces.now c.loop.pieces c.serve_next.new.pieces c.loop.invariant.ring c.in_err-serve_next.ensures.ring

pub returns-then-branch-clause-makes : goal.returns-then-branch-clause-makes
returns-then-branch-clause-makes g c =
    let makes = c.in_ok-serve_next.ensures.makes in
    makes_then g.S.Steps.way c.args.rounds c.args.steps.now c.loop.steps c.serve_next.new.steps (all_items (received c.loop.pieces)) makes.0 (all_items (received c.serve_next.new.pieces))
    (Ok true) makes.1 c.loop.invariant.made (rw c.if-branch.true at makes.2)

pub returns-then-branch-clause-ring : goal.returns-then-branch-clause-ring
returns-then-branch-clause-ring g c = same_then c.args.pieces.now c.loop.pieces c.serve_next.new.pieces c.loop.invariant.ring c.in_ok-serve_next.ensures.ring

pub returns-then-has_ended-clause-makes : goal.returns-then-has_ended-clause-makes
returns-then-has_ended-clause-makes g c =
    let makes = c.in_ok-serve_next.ensures.makes in
    makes_then g.S.Steps.way c.args.rounds c.args.steps.now c.loop.steps c.serve_next.new.steps (all_items (received c.loop.pieces)) makes.0 (all_items (received c.serve_next.new.pieces))
    (Ok false) makes.1 c.loop.invariant.made (rw c.if-branch.false at makes.2)

pub returns-then-has_ended-clause-ring : goal.returns-then-has_ended-clause-ring
returns-then-has_ended-clause-ring g c = same_then c.args.pieces.now c.loop.pieces c.serve_next.new.pieces c.loop.invariant.ring c.in_ok-serve_next.ensures.ring
