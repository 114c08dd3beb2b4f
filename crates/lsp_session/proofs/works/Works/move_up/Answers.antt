-- One work moves up.
use Rattle.std.proofs.Common.{◌≡◌, ◌<◌, ◌∷◌, ◌∙◌, ap, sym, rules, arith, length}
use Rattle.lsp_session.proofs.SlotLemmas.{up_slots, up_queue, up_one}
use Rattle.lsp_session.proofs.works.Works.move_up.Goals as goal

pub loop-self-preserved : goal.loop-self-preserved
loop-self-preserved g c =
    let max = c.loop-self.self.max in
    let slots = c.loop-self.self.slots.items in
    let rest = c.pop_front.new.self.items in
    let pops : c.loop-self.self.queue.items ≡ c.in-Some.work ∷ rest = search rules in
    let room : length slots < max = search rules in
    let one = up_one max slots rest c.in-Some.work room in
    record {
      slots = ap (λ l. up_slots max l rest) c.in_ok-push.ensures.items ∙ one.0 ∙ ap (up_slots max slots) (sym pops) ∙ c.loop-self.invariant.slots;
      limits = c.loop-self.invariant.limits;
      queue = ap (λ l. up_queue max l rest) c.in_ok-push.ensures.items ∙ one.1 ∙ ap (up_queue max slots) (sym pops) ∙ c.loop-self.invariant.queue;
      none = λ h. absurd (omega (arith, ap length (sym pops ∙ c.loop-self.invariant.none h)));
    }
