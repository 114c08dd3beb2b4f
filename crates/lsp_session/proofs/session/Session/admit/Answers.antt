-- The life changes, the verdict is applied, and the facts stay; a call that broke stops the session.
use Rattle.std.proofs.Common.{◌≡◌, ◌<◌, ◌≤◌, leb, true≢false, refl, sym, ◌∙◌, ap, subst}
use Rattle.std.specs.Prelude.{OnErr}
use Rattle.lsp_session.specs.Item.{show_item}
use Rattle.lsp_session.specs.Admission.{Admission, RespectsLive, IsPassedOver, reads_by}
use Rattle.lsp_session.specs.Verdict.{show_verdict, show_admission, occasion_of}
use Rattle.lsp_session.specs.Run.{Admitting}
use Rattle.lsp_session.specs.PendingView.{live_ids}
use Rattle.lsp_session.specs.Session.{Advances, Fails}
use Rattle.lsp_session.specs.WorksView.{works_of, are_crowded}
use Rattle.lsp_session.specs.View.{running_view, TellsLife, KeepsAll}
use Rattle.lsp_session.proofs.SlotLemmas.{all_taken, one_free}
use Rattle.lsp_session.proofs.AdmissionLemmas.{admission_fits}
use Rattle.lsp_session.proofs.AdmitLemmas.{admission_is, admitted, not_admitted}
use Rattle.lsp_session.proofs.RunningLemmas.{fails_still, on_any_err}
use Rattle.lsp_session.proofs.EndsLemmas.{breaks_silent, fails_of, life_changed}
use Rattle.lsp_session.proofs.session.Session.admit.Goals as goal
use Rattle.lsp_session.proofs.session.Session.admit.Goals.{then-len-works, else-len-works}

pub returns-in_err-admission-clause-failed : goal.returns-in_err-admission-clause-failed
returns-in_err-admission-clause-failed g c =
    let semantics = g.H.Handlers.semantics in
    let m = g.D.Caller.meaning in
    let old = c.if-len-works.self.1.0 in
    let came : old ≡ c.args.self.now.running = elim c.if-len-works.branch [
      | then-len-works w ↦ ap (λ s. s.1.0) w.self-is
      | else-len-works w ↦ ap (λ s. s.1.0) w.self-is
    ] in
    let P = Admitting semantics (show_item c.args.item) in
    subst (λ r. OnErr c.from_residual.result (Fails m (running_view semantics m r) P (running_view semantics m old))) came
    (on_any_err c.from_residual.result (fails_of semantics m old old P _ (breaks_silent semantics m old old P _ refl refl (fails_still m old.desk old.desk refl) (subst (TellsLife m) (sym came) c.args.self.now.life))))

pub returns-in_err-self-clause-passed_over : goal.returns-in_err-self-clause-passed_over
returns-in_err-self-clause-passed_over g c over life =
    let semantics = g.H.Handlers.semantics in
    let m = g.D.Caller.meaning in
    let old = c.if-len-works.self.1.0 in
    let came : old ≡ c.args.self.now.running = elim c.if-len-works.branch [
      | then-len-works w ↦ ap (λ s. s.1.0) w.self-is
      | else-len-works w ↦ ap (λ s. s.1.0) w.self-is
    ] in
    let there = subst (λ r. IsPassedOver (semantics.find r.handlers) (show_item c.args.item)) (sym came) over in
    absurd (true≢false (sym (c.in_err-self.ensures.stays (c.in_ok-admission.ensures.passed_over there).0)))

pub apply-requires : goal.apply-requires
apply-requires g c =
    let semantics = g.H.Handlers.semantics in
    let m = g.D.Caller.meaning in
    let old = c.if-len-works.self.1.0 in
    let came : old ≡ c.args.self.now.running = elim c.if-len-works.branch [
      | then-len-works w ↦ ap (λ s. s.1.0) w.self-is
      | else-len-works w ↦ ap (λ s. s.1.0) w.self-is
    ] in
    let kept = subst (KeepsAll semantics m) (sym came) (c.args.self.now.keeps c.requires.running) in
    let a = c.in_ok-admission.admission in
    let fits = admission_fits semantics.Call (occasion_of old.life (live_ids old.live) c.if-len-works.crowded) (semantics.find old.handlers) (reads_by old.empty_params semantics.reads) (show_item c.args.item) in
    let here = subst (λ (x : Admission semantics.Call). RespectsLive (live_ids old.live) x.verdict) (sym c.in_ok-admission.ensures.comes.0) fits in
    let changed = life_changed semantics m old c.change_life.new.desk _ a.change (g.met.D.Desk.is_chief old.desk) kept.0 c.in_ok-self.ensures.calls c.in_ok-self.ensures.life in
    record {
      keeps = changed.keeps;
      sound = c.in_ok-admission.ensures.comes.1;
      fresh = subst (λ ids. RespectsLive ids (show_verdict semantics a.verdict)) kept.0.live_are here;
    }

pub returns-in_err-apply-clause-failed : goal.returns-in_err-apply-clause-failed
returns-in_err-apply-clause-failed g c =
    let semantics = g.H.Handlers.semantics in
    let m = g.D.Caller.meaning in
    let old = c.if-len-works.self.1.0 in
    let came : old ≡ c.args.self.now.running = elim c.if-len-works.branch [
      | then-len-works w ↦ ap (λ s. s.1.0) w.self-is
      | else-len-works w ↦ ap (λ s. s.1.0) w.self-is
    ] in
    let kept = subst (KeepsAll semantics m) (sym came) (c.args.self.now.keeps c.requires.running) in
    let asked = c.args.self.now.running.works in
    let slots = c.len.ensures ∙ asked.slots.ok.0 in
    let crowded : c.if-len-works.crowded ≡ are_crowded (works_of old.works) = elim c.if-len-works.branch [
      | then-len-works w ↦ w.crowded-is ∙ ap (leb asked.wait) (w.len-then-len-works.ensures ∙ asked.queue.ok.0)
          ∙ all_taken asked.max asked.wait _ _ (subst (λ n. asked.max ≤ n) slots w.if-len-works.true)
      | else-len-works w ↦ w.crowded-is ∙ ap (leb asked.max) slots
          ∙ one_free asked.max asked.wait _ _ (subst (λ n. n < asked.max) slots w.if-len-works.false)
    ] ∙ sym (ap (λ r. are_crowded (works_of r.works)) came) in
    let item = show_item c.args.item in
    let a = show_admission semantics c.in_ok-admission.admission in
    let is = admission_is semantics m old item kept a c.if-len-works.crowded crowded c.in_ok-admission.ensures.comes.0 in
    let changed = life_changed semantics m old c.change_life.new.desk _ a.change (g.met.D.Desk.is_chief old.desk) kept.0 c.in_ok-self.ensures.calls c.in_ok-self.ensures.life in
    subst (λ r. OnErr c.from_residual-in_err-apply.result (Fails m (running_view semantics m r) (Admitting semantics item) (running_view semantics m c.apply.new.self))) came
    (on_any_err c.from_residual-in_err-apply.result (fails_of semantics m old _ (Admitting semantics item) _ (not_admitted semantics m old item kept _ _ a is changed.ok refl _ c.in_err-apply.ensures.ends)))

pub invariant_of-self-2 : goal.invariant_of-self-2
invariant_of-self-2 g c =
    let semantics = g.H.Handlers.semantics in
    let m = g.D.Caller.meaning in
    let old = c.if-len-works.self.1.0 in
    let came : old ≡ c.args.self.now.running = elim c.if-len-works.branch [
      | then-len-works w ↦ ap (λ s. s.1.0) w.self-is
      | else-len-works w ↦ ap (λ s. s.1.0) w.self-is
    ] in
    let kept = subst (KeepsAll semantics m) (sym came) (c.args.self.now.keeps c.requires.running) in
    let asked = c.args.self.now.running.works in
    let slots = c.len.ensures ∙ asked.slots.ok.0 in
    let crowded : c.if-len-works.crowded ≡ are_crowded (works_of old.works) = elim c.if-len-works.branch [
      | then-len-works w ↦ w.crowded-is ∙ ap (leb asked.wait) (w.len-then-len-works.ensures ∙ asked.queue.ok.0)
          ∙ all_taken asked.max asked.wait _ _ (subst (λ n. asked.max ≤ n) slots w.if-len-works.true)
      | else-len-works w ↦ w.crowded-is ∙ ap (leb asked.max) slots
          ∙ one_free asked.max asked.wait _ _ (subst (λ n. n < asked.max) slots w.if-len-works.false)
    ] ∙ sym (ap (λ r. are_crowded (works_of r.works)) came) in
    let item = show_item c.args.item in
    let a = show_admission semantics c.in_ok-admission.admission in
    let is = admission_is semantics m old item kept a c.if-len-works.crowded crowded c.in_ok-admission.ensures.comes.0 in
    let changed = life_changed semantics m old c.change_life.new.desk _ a.change (g.met.D.Desk.is_chief old.desk) kept.0 c.in_ok-self.ensures.calls c.in_ok-self.ensures.life in
    let done = admitted semantics m old item kept _ _ a is changed.ok refl c.in_ok-apply.ensures.ends in
    record { life = done.keeps.0.life_is; keeps = λ running. done.keeps }

pub returns-clause-ok : goal.returns-clause-ok
returns-clause-ok g c =
    let semantics = g.H.Handlers.semantics in
    let m = g.D.Caller.meaning in
    let old = c.if-len-works.self.1.0 in
    let came : old ≡ c.args.self.now.running = elim c.if-len-works.branch [
      | then-len-works w ↦ ap (λ s. s.1.0) w.self-is
      | else-len-works w ↦ ap (λ s. s.1.0) w.self-is
    ] in
    let kept = subst (KeepsAll semantics m) (sym came) (c.args.self.now.keeps c.requires.running) in
    let asked = c.args.self.now.running.works in
    let slots = c.len.ensures ∙ asked.slots.ok.0 in
    let crowded : c.if-len-works.crowded ≡ are_crowded (works_of old.works) = elim c.if-len-works.branch [
      | then-len-works w ↦ w.crowded-is ∙ ap (leb asked.wait) (w.len-then-len-works.ensures ∙ asked.queue.ok.0)
          ∙ all_taken asked.max asked.wait _ _ (subst (λ n. asked.max ≤ n) slots w.if-len-works.true)
      | else-len-works w ↦ w.crowded-is ∙ ap (leb asked.max) slots
          ∙ one_free asked.max asked.wait _ _ (subst (λ n. n < asked.max) slots w.if-len-works.false)
    ] ∙ sym (ap (λ r. are_crowded (works_of r.works)) came) in
    let item = show_item c.args.item in
    let a = show_admission semantics c.in_ok-admission.admission in
    let is = admission_is semantics m old item kept a c.if-len-works.crowded crowded c.in_ok-admission.ensures.comes.0 in
    let changed = life_changed semantics m old c.change_life.new.desk _ a.change (g.met.D.Desk.is_chief old.desk) kept.0 c.in_ok-self.ensures.calls c.in_ok-self.ensures.life in
    let done = admitted semantics m old item kept _ _ a is changed.ok refl c.in_ok-apply.ensures.ends in
    subst (λ r. Advances m (running_view semantics m r) (Admitting semantics item) (running_view semantics m c.apply.new.self)) came done.ok
