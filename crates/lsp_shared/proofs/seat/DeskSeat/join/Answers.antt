-- A seat takes another in: one step makes one view of two, and the next tells what it is.
use Rattle.std.proofs.Common.{◌-◌, ◌^◌, ◌==◌, ◌||◌, ℕ, length, ap, sym, subst, ◌∙◌, arith}
use Rattle.lsp_shared.specs.declared.view.View.{View}
use Rattle.lsp_shared.specs.Phases.{is_idle}
use Rattle.lsp_shared.specs.Steps.{Mine, learned, Heard}
use Rattle.lsp_shared.proofs.Calling.{idle_of, empty_of}
use Rattle.lsp_shared.proofs.Parting.{joins, learns, takes_in, joined_spent, longest}
use Rattle.lsp_shared.proofs.seat.DeskSeat.join.Goals as goal

pub join_seat-requires : goal.join_seat-requires
join_seat-requires g c =
    let s = c.args.self.now in
    let other = c.rest-seat.result in
    let share_is = s.rested.share_is in
    let some_share = s.rested.has_share in
    (s.here, c.rest-seat.ensures.same.1 ∙ c.requires ∙ s.here, empty_of _ other.empty, (let w = s.desk.now.words in omega arith), joins _ _ _ _ (omega arith) (idle_of _ other.idle) c.rest-seat.ensures.role)

pub load-rested-requires : goal.load-rested-requires
load-rested-requires g c =
    let s = c.args.self.now in
    let both = c.join_seat.ensures in
    (both.0 ∙ s.here, (let w = s.desk.now.words in omega arith), learns _ _ _ (ap (λ (m : Mine). m.0.phase) both.2 ∙ idle_of _ s.rested.idle))

pub invariant_of-rested : goal.invariant_of-rested
invariant_of-rested g c =
    let one = c.args.self.now.rested in
    let other = c.rest-seat.result in
    let both = c.join_seat.ensures in
    let heard = c.load-rested.ensures.2 in
    let view = ap (λ (m : Mine). m.0) heard.0 ∙ ap (λ (m : Mine). learned m.0) both.2 in
    let made = takes_in one.seat.me.0 other.seat.me.0 _ view (subst (λ (m : Mine). Heard m.0) both.2 heard.1) one.inside other.inside in
    let read = ap (λ (u : View). u.read) view in
    record {
      idle = ap (λ (u : View). is_idle u.phase) view ∙ one.idle;
      empty = ap (λ (m : Mine). length m.1) heard.0 ∙ ap (λ (m : Mine). length m.1) both.2 ∙ one.empty;
      seen_is = (let a = ap (λ (u : View). length u.seen) view in let b = longest one.seat.me.0.seen other.seat.me.0.seen in let p = one.seen_is in let q = other.seen_is in let r = c.max-rested.ensures in omega arith);
      share_is = (let a = ap (λ (u : View). u.share) view in let p = one.share_is in let q = other.share_is in omega arith);
      has_share = (let p = one.has_share in omega arith);
      spent_is = (λ i. one.spent_is i || other.spent_is i) ∙ joined_spent one.seat.me.0.read other.seat.me.0.read (let small = made.3.read in omega arith) ∙ ap (λ (n : ℕ). n == 2 ^ 64 - 1) (sym read);
      inside = made.3.inside;
      once = made.3.once;
    }
