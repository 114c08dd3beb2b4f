-- Of an `initialize` and a tick the sample's session makes quiet calls alone.
use Rattle.std.proofs.Common.{◌≡◌, ℕ, zero, suc, List, [], ◌∷◌, ◌++◌, map, refl, sym, ap, ◌∙◌, subst, Bool, true, false, true≢false}
use Rattle.std.specs.Prelude.{⊤}
use Rattle.lsp_desk.specs.Trace.{DeskEntry, TraceEntry, owns}
use Rattle.lsp_desk.proofs.TraceLemmas.{owns-append}
use Rattle.lsp_session.specs.Item.{ItemData}
use Rattle.lsp_session.specs.Semantics.{Semantics, Polls, call_in, Fresh, Held, Phase, Progress, Pending, Done}
use Rattle.lsp_session.specs.Admission.{Verdict, Silence, Refuses, Answers, Cancels, Exits, Starts, Admission}
use Rattle.lsp_session.specs.State.{State, Effect, both, marked}
use Rattle.lsp_session.specs.Works.{AreSound}
use Rattle.lsp_session.specs.Run.{poll_change, Applies, Admits, admission_of, after_poll, Order, Poll, PollsAt, Round, Rounds, Picked, Step, Run}
use Rattle.lsp_session.proofs.WorkLemmas.{sound_left, sound_right, sound_moved, entered_sound, held_sound, ended_sound, marked_sound}
use Rattle.lsp_methods.specs.declared.method.Method.TheVariants as methods
use Rattle.lsp_methods.specs.declared.method.LifeMethod.TheVariants as life
use Rattle.lsp_service.specs.declared.incoming.Incoming.{Incoming}
use Rattle.lsp_service.specs.declared.service.LspService.{LspService}
use Rattle.lsp_service.specs.Data.{MethodCall, typed, IncomingCall}
use Rattle.lsp_service.specs.Server.{Start}
use Rattle.lsp_service.specs.Service.{KeptTask}
use Rattle.lsp_service.specs.ServiceLaws.{service_laws}
use Rattle.lsp_sample_server.specs.declared.task.SampleTask.{SampleTask}
use Rattle.lsp_sample_server.specs.declared.sample.Sample.{Sample}
use Rattle.lsp_sample_server.specs.Execute.{TaskData}
use Rattle.lsp_sample_server.specs.Sample.{sample_semantics, sample_turn, BeginsTurn}
use Rattle.lsp_sample_server.specs.SampleLaws.{sample_laws}
use Rattle.lsp_sample_server.specs.Sessions.{service_of_sample}
use Rattle.lsp_talk.proofs.QuietLemmas.{AreQuiet, AreQuiet-append, took_quiet, changing_quiet}

-- `initialize`, which asks nothing of the client
abbrev pub is_calm : MethodCall → Bool
is_calm (typed (methods.Life life.Initialize) params) = true
is_calm c = false

abbrev pub SampleTasks : Type 0
SampleTasks = KeptTask TaskData

-- the same service, of which these calls are the sound ones
abbrev calm : Semantics (LspService Sample) Incoming (KeptTask SampleTask)
calm = record service_of_sample { is_sound = λ c. is_calm c.call }

abbrev pub SampleSession : Type 0
SampleSession = State (LspService Sample) IncomingCall SampleTasks

abbrev pub AreCalm : SampleSession → Type 0
AreCalm s = AreSound calm (s.slots ++ s.queue)

-- ---- polls

begins_none : (c : MethodCall) (asked : List DeskEntry) (start : Start TaskData) → is_calm c ≡ true → BeginsTurn (sample_turn c) asked start → asked ≡ []
begins_none (typed (methods.Life life.Initialize) params) asked start is begins = begins.0
begins_none c asked start is begins = absurd (true≢false (sym is))

asks_none : (s : LspService Sample) (phase : Phase IncomingCall SampleTasks) (asked : List DeskEntry) (s2 : LspService Sample) (progress : Progress SampleTasks) → is_calm (call_in service_of_sample phase).call ≡ true
    → Polls service_of_sample s phase asked s2 progress → asked ≡ []
asks_none s (Fresh c) asked s2 progress is polls = begins_none c.call asked polls.start is polls.polled.begins
asks_none s (Held t) asked s2 progress is polls = absurd (true≢false (sym is))

keeps_calm : (s : LspService Sample) (phase : Phase IncomingCall SampleTasks) (asked : List DeskEntry) (s2 : LspService Sample) (t : SampleTasks)
    → Polls service_of_sample s phase asked s2 (Pending t) → service_of_sample.call_of t ≡ call_in service_of_sample phase
keeps_calm = (service_laws sample_semantics (λ (t : KeptTask SampleTask). t.task) (λ (t : KeptTask SampleTask). t.kind) sample_laws).keeps_call

-- what a step leaves: calls that are calm, and quiet entries of the session's own
pub record StaysCalm (e : Effect) (s2 : SampleSession) : Type 0 where
  pub calm_works : AreCalm s2
  pub quiet : AreQuiet (owns e.trace)

quiet_both : (a b : List TraceEntry) → AreQuiet (owns a) → AreQuiet (owns b) → AreQuiet (owns (a ++ b))
quiet_both a b p q = subst AreQuiet (sym (owns-append a b)) (AreQuiet-append (owns a) (owns b) p q)

calm_both : (e a b : Effect) (s2 : SampleSession) → e ≡ both a b → AreQuiet (owns a.trace) → StaysCalm b s2 → StaysCalm e s2
calm_both e a b s2 is p q = record { calm_works = q.calm_works; quiet = subst (λ (x : Effect). AreQuiet (owns x.trace)) (sym is) (quiet_both a.trace b.trace p q.quiet) }

poll_calm : (s s2 : SampleSession) (place : ℕ) (e : Effect) → AreCalm s → Poll service_of_sample s place e s2 → StaysCalm e s2
poll_calm s s2 place e q p = record {
  calm_works = subst AreCalm (sym p.leaves) (at p.progress p.polls);
  quiet = subst (λ (x : Effect). AreQuiet (owns x.trace)) (sym p.adds)
      (quiet_both p.polled (p.taken ++ p.changed) (subst AreQuiet (sym (p.asks.own_are ∙ asks_none s.service p.work.phase p.asked p.service p.progress polled p.polls)) tt)
      (quiet_both p.taken p.changed (subst AreQuiet (sym p.takes.own_are) (took_quiet p.messages, tt)) (subst AreQuiet (sym p.changes.own_are) (changing_quiet (poll_change p.taken_desk.life p.work.entry.layer p.progress)))));
}
  where
    stood : AreSound calm ((p.before ++ p.work ∷ p.after) ++ s.queue)
    stood = subst (λ l. AreSound calm (l ++ s.queue)) p.stands q

    polled : is_calm (call_in service_of_sample p.work.phase).call ≡ true
    polled = (sound_right calm p.before (p.work ∷ p.after) (sound_left calm (p.before ++ p.work ∷ p.after) s.queue stood)).0

    at : (progress : Progress SampleTasks) → Polls service_of_sample s.service p.work.phase p.asked p.service progress → AreCalm (after_poll s p.before p.work p.after p.service progress p.desk)
    at (Pending t) polls =
        held_sound calm p.before p.work (record { id = p.work.id; entry = p.work.entry; phase = Held t; due = false }) p.after s.queue stood
        (ap (λ (c : IncomingCall). is_calm c.call) (keeps_calm s.service p.work.phase p.asked p.service t polls) ∙ polled)
    at (Done outcome) polls = sound_moved calm s.max (p.before ++ p.after) s.queue (ended_sound calm p.before p.work p.after s.queue stood)

module _ (order : Order ⊤) where
  polls_calm : (s s2 : SampleSession) (p p2 : ⊤) (places : List ℕ) (e : Effect) → AreCalm s → PollsAt service_of_sample order s p places e s2 p2 → StaysCalm e s2
  polls_calm s s2 p p2 [] e q h = record { calm_works = subst AreCalm (sym h.1) q; quiet = subst (λ (x : Effect). AreQuiet (owns x.trace)) (sym h.0) tt }
  polls_calm s s2 p p2 (place ∷ places) e q h =
      let first = poll_calm s h.0 place h.1 q h.3 in
      calm_both e h.1 h.2 s2 h.6 first.quiet (polls_calm h.0 s2 _ p2 places h.2 first.calm_works h.5)

  round_calm : (s s2 : SampleSession) (p p2 : ⊤) (e : Effect) → AreCalm s → Round service_of_sample order s p e s2 p2 → StaysCalm e s2
  round_calm s s2 p p2 e q h = polls_calm (record s { slots = map marked s.slots }) s2 p p2 h.places e (marked_sound calm s.slots s.queue q) h.polls

  rounds_calm : (n : ℕ) (s s2 : SampleSession) (p p2 : ⊤) (e : Effect) → AreCalm s → Rounds service_of_sample order n s p e s2 p2 → StaysCalm e s2
  rounds_calm zero s s2 p p2 e q h = record { calm_works = subst AreCalm (sym h.1) q; quiet = subst (λ (x : Effect). AreQuiet (owns x.trace)) (sym h.0) tt }
  rounds_calm (suc n) s s2 p p2 e q h =
      let first = rounds_calm n s h.0 p h.1 h.2 q h.4 in
      calm_both e h.2 h.3 s2 h.6 first.quiet (round_calm h.0 s2 h.1 p2 h.3 first.calm_works h.5)

-- ---- admission

-- nothing ends, no answer goes to the desk, and a call that begins is calm
abbrev pub IsTame : Verdict IncomingCall → Type 0
IsTame Silence = Unit {0}
IsTame (Refuses i error) = Unit {0}
IsTame (Answers r) = ⊥
IsTame (Cancels i) = ⊥
IsTame Exits = ⊥
IsTame (Starts id entry c) = is_calm c.call ≡ true

applies_calm : (s s2 : SampleSession) (v : Verdict IncomingCall) (e : Effect) → IsTame v → AreCalm s → Applies service_of_sample s v e s2 → StaysCalm e s2
applies_calm s s2 Silence e tame q h = record { calm_works = subst AreCalm (sym h.1) q; quiet = subst (λ (x : Effect). AreQuiet (owns x.trace)) (sym h.0) tt }
applies_calm s s2 (Refuses i error) e tame q h = record { calm_works = subst AreCalm (sym h.1) q; quiet = subst (λ (x : Effect). AreQuiet (owns x.trace)) (sym h.0) tt }
applies_calm s s2 (Answers r) e tame q h = absurd tame
applies_calm s s2 (Cancels i) e tame q h = absurd tame
applies_calm s s2 Exits e tame q h = absurd tame
applies_calm s s2 (Starts id entry c) e tame q h = record {
  calm_works = subst AreCalm (sym h.1) (entered_sound calm s (record { id = id; entry = entry; phase = Fresh c; due = true }) q tame);
  quiet = subst (λ (x : Effect). AreQuiet (owns x.trace)) (sym h.0) tt;
}

admits_calm : (s s2 : SampleSession) (a : Admission IncomingCall) (e : Effect) → IsTame a.verdict → AreCalm s → Admits service_of_sample s a e s2 → StaysCalm e s2
admits_calm s s2 a e tame q h =
    let own : AreQuiet (owns h.changes.trace) = subst AreQuiet (sym h.changes.makes.own_are) (changing_quiet a.change) in
    calm_both e h.first h.rest s2 h.adds (subst (λ (x : Effect). AreQuiet (owns x.trace)) (sym h.changes.adds) own)
    (applies_calm h.mid s2 a.verdict h.rest tame (subst AreCalm (sym h.changes.leaves) q) h.applies)

-- ---- steps

-- whatever the state, the item's admission is tame
abbrev pub AreTame : List ItemData → Type 0
AreTame [] = Unit {0}
AreTame (item ∷ items) = ((s : SampleSession) → IsTame (admission_of service_of_sample s item).verdict) × AreTame items

module _ (order : Order ⊤) (rounds : ℕ) where
  step_calm : (s s2 : Picked SampleSession ⊤) (item : ItemData) (e : Effect) → IsTame (admission_of service_of_sample s.session item).verdict → AreCalm s.session → Step service_of_sample order rounds s item e s2 → StaysCalm e s2.session
  step_calm s s2 item e tame q h =
      let first = admits_calm s.session h.admitted (admission_of service_of_sample s.session item) h.first tame q h.admits in
      let second = rounds_calm order rounds h.admitted h.polled s.pick s2.pick h.second first.calm_works h.polls in
      let own : AreQuiet (owns h.drains.trace) = subst AreQuiet (sym h.drains.takes.own_are) (took_quiet h.drains.messages, tt) in
      let third : StaysCalm h.third s2.session = record { calm_works = subst AreCalm (sym h.drains.leaves) second.calm_works; quiet = subst (λ (x : Effect). AreQuiet (owns x.trace)) (sym h.drains.adds) own } in
      calm_both e h.first (both h.second h.third) s2.session h.adds first.quiet (calm_both (both h.second h.third) h.second h.third s2.session refl second.quiet third)

  pub run_calm : (s s2 : Picked SampleSession ⊤) (items : List ItemData) (e : Effect) → AreTame items → AreCalm s.session → Run (Step service_of_sample order rounds) s items e s2 → AreQuiet (owns e.trace)
  run_calm s s2 [] e tame q h = subst (λ (x : Effect). AreQuiet (owns x.trace)) (sym h.0) tt
  run_calm s s2 (item ∷ items) e tame q h =
      let first = step_calm s h.0 item h.1 (tame.0 s.session) q h.3 in
      subst (λ (x : Effect). AreQuiet (owns x.trace)) (sym h.5) (quiet_both h.1.trace h.2.trace first.quiet (run_calm h.0 s2 items h.2 tame.1 first.calm_works h.4))
