use Rattle.std.proofs.Common.{option_map, map, ap, sym, ◌∙◌}
use Rattle.std.proofs.lemmas.List.{map-append}
use Rattle.serde_json.specs.View.{view}
use Rattle.lsp_shape.specs.Unfit.{step_shown}
use Rattle.lsp_shape.proofs.Steps.{next_number, one_down, no_further}
use Rattle.lsp_shape.proofs.unfit.path_of.Goals as goal

pub loop-number-preserved : goal.loop-number-preserved
loop-number-preserved c =
    let next = next_number c.args.steps.now c.loop-number.number-index 0 c.loop-number-test.true in
    let is = sym c.in_ok-down.ensures ∙ ap (option_map (λ s. (step_shown s.0, view s.1.now))) c.in-Some.is in
    one_down _ _ c.args.steps.now c.loop-number.number-index _ (view c.loop-number.place.now) next c.loop-number.invariant _ (step_shown c.in-Some.step) (view c.in-Some.below.now) is
    (ap (map step_shown) c.in_ok-push-in-Some.ensures.items ∙ map-append step_shown c.loop-number.path.items _)

pub returns-in-None : goal.returns-in-None
returns-in-None c =
    let next = next_number c.args.steps.now c.loop-number.number-index 0 c.loop-number-test.true in
    let is = sym c.in_ok-down.ensures ∙ ap (option_map (λ s. (step_shown s.0, view s.1.now))) c.in-None.is in
    no_further _ _ c.args.steps.now c.loop-number.number-index _ (view c.loop-number.place.now) next c.loop-number.invariant is
