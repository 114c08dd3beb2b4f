-- One caller more.
use Rattle.std.proofs.Common.{◌≡◌, ◌≤◌, ◌+◌, ◌-◌, ◌/◌, ◌∷◌, [], ◌++◌, ℕ, suc, length, sym, ap, ◌∙◌, subst, arith, add-one, length-append}
use Rattle.lsp_shared.specs.declared.view.View.{View}
use Rattle.lsp_shared.specs.Seats.{seat_view, seat_desk}
use Rattle.lsp_callers.specs.declared.caller.Idle.{Idle}
use Rattle.lsp_callers.specs.Callers.{AreIdleFrom, idle_shares}
use Rattle.lsp_callers.proofs.HeardLemmas.{idle_push, enough_left, shares_push}
use Rattle.lsp_callers.proofs.threads.idle_callers.Goals as goal

pub split-requires-after_bounds : goal.split-requires-after_bounds
split-requires-after_bounds g c κs within =
    subst (λ (n : ℕ). 2 ≤ n) (sym c.loop-number.invariant.left) (enough_left c.loop-number.number (omega (arith, c.loop-number-test.true, c.requires.count)))

pub push_reserved-requires : goal.push_reserved-requires
push_reserved-requires g c = omega (arith, c.loop-number.invariant.len, c.loop-number.invariant.room, c.loop-number-test.true)

pub loop-number-preserved : goal.loop-number-preserved
loop-number-preserved g c =
    let inv = c.loop-number.invariant in
    let kept = c.split.ensures.kept in
    let given = c.in_ok-split.ensures.given in
    let rest = c.rest-seat.ensures in
    let view = rest.same.0 ∙ given.0 in
    let old = seat_view c.loop-number.owner in
    let caller : Idle = record { number = c.loop-number.number + 1; seat = c.rest-seat.result } in
    let share : (seat_view c.split.new.self).share ≡ old.share - old.share / 2 = ap (λ (v : View). v.share) kept.0 in
    let half = ap (λ (v : View). v.share) view in
    let pushed = shares_push c.loop-number.callers.items caller in
    let number : c.loop-number.number + 1 ≡ suc (0 + length c.loop-number.callers.items) = omega (arith, inv.many) in
    record {
      idle = subst (AreIdleFrom (seat_desk c.args.owner.now) 0) (sym c.push_reserved.ensures.items)
          (idle_push (seat_desk c.args.owner.now) 0 c.loop-number.callers.items caller inv.idle number
          (record { here = rest.same.1 ∙ given.1 ∙ inv.here; client = rest.role; none = ap (λ (v : View). v.made) view }));
      many = ap length c.push_reserved.ensures.items ∙ length-append c.loop-number.callers.items (caller ∷ []) ∙ (let m = inv.many in omega (arith, m));
      len = c.push_reserved.ensures.len ∙ ap (λ (n : ℕ). n + 1) inv.len;
      shares = ap (λ l. (seat_view c.split.new.self).share + idle_shares l) c.push_reserved.ensures.items ∙ (let s = inv.shares in omega (arith, pushed, share, half, s));
      left = rw add-one (share ∙ ap (λ (n : ℕ). n - n / 2) inv.left);
      kept = record {
        seen = ap (λ (v : View). v.seen) kept.0 ∙ inv.kept.seen;
        made = ap (λ (v : View). v.made) kept.0 ∙ inv.kept.made;
        owner = ap (λ (v : View). v.owner) kept.0 ∙ inv.kept.owner;
      };
      here = kept.1 ∙ inv.here;
      spent = kept.2 ∙ inv.spent;
      within = omega (arith, c.loop-number-test.true);
      room = c.push_reserved.ensures.capacity ∙ inv.room;
    }
