-- One poll after another, until none is left; one that broke stops the session.
use Rattle.std.proofs.Common.{◌≡◌, refl, true≢false, ℕ, ◌<◌, ◌≤◌, ◌%◌, ◌++◌, sym, ◌∙◌, ap, subst, arith, length, map, drop, get_or}
use Rattle.std.proofs.Math.Nat.{mod-lt}
use Rattle.std.proofs.lemmas.List.{append-nil, take_all, drop_all, with_items_is}
use Rattle.std.proofs.lemmas.List.Edits.{map_over_more}
use Rattle.lsp_session.specs.Works.{mark}
use Rattle.lsp_session.specs.State.{FitsLife, dues}
use Rattle.lsp_session.specs.Run.{Order}
use Rattle.lsp_session.specs.PendingView.{live_ids}
use Rattle.lsp_session.specs.WorksView.{works_of}
use Rattle.lsp_session.specs.View.{running_view, Facts}
use Rattle.lsp_session.proofs.SlotLemmas.{with_view, shown_marked}
use Rattle.lsp_session.proofs.PollLemmas.{dues-shown}
use Rattle.lsp_session.proofs.WorkLemmas.{marked_live, marked_settled, marked_sound}
use Rattle.lsp_session.proofs.FactLemmas.{fits_marked, poll_fits}
use Rattle.lsp_session.proofs.RunningLemmas.{fails_after, extends_by, extends_on}
use Rattle.lsp_session.proofs.RoundLemmas.{rounding_none, rounding_more, rounded, poll_falls}
use Rattle.lsp_session.proofs.CutLemmas.{part_round}
use Rattle.lsp_session.proofs.EndsLemmas.{told_life}
use Rattle.lsp_session.proofs.HaltLemmas.{at_fault, halts_at}
use Rattle.lsp_session.proofs.session.Session.round.Goals as goal

pub loop-work-preserved : goal.loop-work-preserved
loop-work-preserved g c =
    let old = c.args.self.now.running.works.slots.items in
    let in_range : c.loop-work.work-index < length old = omega (arith, ap length c.deref_mut-work-items.ensures.value) in
    map_over_more mark old c.loop-work.work-items c.loop-work.work-index (get_or c.loop-work.work-items c.loop-work.work-index c.work-item.result) in_range c.loop-work.invariant (ap (λ d. get_or c.loop-work.work-items c.loop-work.work-index d) c.work-item.is)

pub loop-self-init : goal.loop-self-init
loop-self-init g c =
    let semantics = g.H.Handlers.semantics in
    let m = g.D.Caller.meaning in
    let order : Order g.P.Pick.State = record { gives = g.P.Pick.gives; later = g.P.Pick.later } in
    let old = c.args.self.now.running in
    let kept = c.args.self.now.keeps c.requires in
    let view = running_view semantics m old in
    let s = view.state in
    let works = works_of old.works in
    let i = c.loop-work.work-index in
    let few : length works.slots ≤ i = omega (arith, ap length c.deref_mut-work-items.ensures.value) in
    let same : length c.loop-work.work-items ≡ old.works.slots.len = c.loop-work.auto.work-items ∙ ap length c.deref_mut-work-items.ensures.value ∙ sym old.works.slots.ok.0 in
    let all : c.loop-work.work-items ≡ map mark works.slots = c.loop-work.invariant ∙ ap (λ l. map mark l ++ drop i works.slots) (take_all i works.slots few) ∙ ap (λ l. map mark works.slots ++ l) (drop_all i works.slots few) ∙ append-nil (map mark works.slots) in
    let marks = ap (λ l. with_view semantics s (record works { slots = l })) (with_items_is old.works.slots c.loop-work.work-items same ∙ all) ∙ shown_marked semantics s (works_of old.works) in
    record {
      so_far = rounding_none semantics m order view _ (g.P.Pick.state c.args.pick.now) (ap (λ t. record view { state = t }) marks);
      keeps = subst (λ t. Facts semantics t old.life (live_ids old.live)) (sym marks) (record {
        life_is = kept.0.life_is;
        live_are = kept.0.live_are ∙ sym (marked_live s);
        settled = marked_settled s kept.0.settled;
        sound = marked_sound semantics s.slots s.queue kept.0.sound;
      });
      fits = subst FitsLife (sym marks) (fits_marked s kept.1);
      stopped = refl;
    }

pub poll-requires : goal.poll-requires
poll-requires g c =
    let n = c.due_count-left.ensures ∙ sym (dues-shown g.H.Handlers.semantics (works_of c.loop-self.self.running.works).slots) in
    let some : 0 < c.due_count-left.result = omega (arith, c.if-left-eq0.false) in
    let small : c.next.result % c.due_count-left.result < c.due_count-left.result = mod-lt c.next.result some in
    record { keeps = c.loop-self.invariant.keeps; in_range = subst (λ (k : ℕ). c.next.result % c.due_count-left.result < k) n small }

pub loop-self-smaller : goal.loop-self-smaller
loop-self-smaller g c = omega (arith, poll_falls g.H.Handlers.semantics _ _ _ _ c.in_ok-poll.ensures.ok.does)

pub loop-self-preserved : goal.loop-self-preserved
loop-self-preserved g c =
    let semantics = g.H.Handlers.semantics in
    let m = g.D.Caller.meaning in
    let order : Order g.P.Pick.State = record { gives = g.P.Pick.gives; later = g.P.Pick.later } in
    let mid = running_view semantics m c.loop-self.self.running in
    let n : c.due_count-left.result ≡ dues mid.state.slots = c.due_count-left.ensures ∙ sym (dues-shown semantics (works_of c.loop-self.self.running.works).slots) in
    let q = g.P.Pick.state c.loop-self.pick in
    let picked : c.next.result % c.due_count-left.result ≡ order.gives q (dues mid.state.slots) % dues mid.state.slots =
    ap (λ r. r % c.due_count-left.result) c.next.ensures.gives ∙ ap (λ k. order.gives q k % k) n in
    let later : g.P.Pick.state c.next.new.self ≡ order.later q (dues mid.state.slots) = c.next.ensures.later ∙ ap (order.later q) n in
    record {
      so_far = rw later (rounding_more semantics m order (running_view semantics m c.args.self.now.running) mid (running_view semantics m c.poll.new.self) (g.P.Pick.state c.args.pick.now) q (c.next.result % c.due_count-left.result) c.loop-self.invariant.so_far c.in_ok-poll.ensures.ok picked);
      keeps = c.in_ok-poll.ensures.keeps;
      fits = poll_fits semantics g.met.H.Handlers.laws mid.state (running_view semantics m c.poll.new.self).state _ _ c.loop-self.invariant.fits c.in_ok-poll.ensures.ok.does;
      stopped = c.loop-self.invariant.stopped;
    }

pub returns-then-left-eq0-clause-ok : goal.returns-then-left-eq0-clause-ok
returns-then-left-eq0-clause-ok g c =
    let semantics = g.H.Handlers.semantics in
    let m = g.D.Caller.meaning in
    let order : Order g.P.Pick.State = record { gives = g.P.Pick.gives; later = g.P.Pick.later } in
    let last = running_view semantics m c.loop-self.self.running in
    let none : dues last.state.slots ≡ 0 = dues-shown semantics (works_of c.loop-self.self.running.works).slots ∙ sym c.due_count-left.ensures ∙ c.if-left-eq0.true in
    record {
      ok = rounded semantics m order (running_view semantics m c.args.self.now.running) last (g.P.Pick.state c.args.pick.now) (g.P.Pick.state c.loop-self.pick) c.loop-self.invariant.so_far none;
      running = refl;
    }

pub returns-in_err-poll-clause-err : goal.returns-in_err-poll-clause-err
returns-in_err-poll-clause-err g c =
    let semantics = g.H.Handlers.semantics in
    let m = g.D.Caller.meaning in
    let order : Order g.P.Pick.State = record { gives = g.P.Pick.gives; later = g.P.Pick.later } in
    let old = running_view semantics m c.args.self.now.running in
    let mid = running_view semantics m c.loop-self.self.running in
    let new = running_view semantics m c.poll.new.self in
    let so_far = c.loop-self.invariant.so_far in
    let broken = c.in_err-poll.ensures in
    let n : c.due_count-left.result ≡ dues mid.state.slots = c.due_count-left.ensures ∙ sym (dues-shown semantics (works_of c.loop-self.self.running.works).slots) in
    let q = g.P.Pick.state c.loop-self.pick in
    let picked : c.next.result % c.due_count-left.result ≡ order.gives q (dues mid.state.slots) % dues mid.state.slots =
    ap (λ r. r % c.due_count-left.result) c.next.ensures.gives ∙ ap (λ k. order.gives q k % k) n in
    at_fault c.args.self.now _ _ c.from_residual.result (λ fault halt. halt) (halts_at c.args.self.now _ _ c.from_residual.result _ c.from_residual.ensures.1 c.loop-self.invariant.stopped (record {
      failed = fails_after m old.desk mid.desk new.desk so_far.effect.trace _ so_far.grows broken.failed;
      stays = record { out = extends_on old.out mid.out new.out (extends_by _ _ so_far.effect.out so_far.out) broken.stays.out; exited = broken.stays.exited ∙ so_far.exited };
      puts = part_round semantics m order old mid new (g.P.Pick.state c.args.pick.now) q (c.next.result % c.due_count-left.result) so_far picked (record { trace = broken.failed.trace; grows = broken.failed.grows }) broken.puts;
      life = broken.life;
    }))

pub invariant_of-self : goal.invariant_of-self
invariant_of-self g c = record { life = c.args.self.now.life; keeps = λ running. absurd (true≢false running) }

pub invariant_of-self-in-loop-self : goal.invariant_of-self-in-loop-self
invariant_of-self-in-loop-self g c = record {
  life = told_life g.H.Handlers.semantics g.D.Caller.meaning c.loop-self.self.running c.poll.new.self _ c.poll.result c.poll.ensures;
  keeps = λ running. absurd (true≢false (sym c.loop-self.invariant.stopped ∙ running));
}

pub invariant_of-self-then-left-eq0 : goal.invariant_of-self-then-left-eq0
invariant_of-self-then-left-eq0 g c = record { life = c.loop-self.invariant.keeps.life_is; keeps = λ running. (c.loop-self.invariant.keeps, c.loop-self.invariant.fits) }
