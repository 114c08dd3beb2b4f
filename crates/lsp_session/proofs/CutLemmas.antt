-- What a call that fails has put out.
use Rattle.std.proofs.Common.{◌≡◌, ◌<◌, inl, inr, ℕ, ◌%◌, List, [], ◌∷◌, ◌++◌, map, true, refl, sym, ◌∙◌, ap, subst, append_assoc}
use Rattle.std.specs.Prelude.{Some}
use Rattle.std.proofs.lemmas.List.{append-nil, append_cancel_left}
use Rattle.lsp_rpc.specs.Message.{RequestData, MessageData, request}
use Rattle.lsp_desk.specs.Trace.{Makes}
use Rattle.lsp_desk.specs.Meaning.{Meaning, Grows, Grown, PollsOn}
use Rattle.lsp_desk.proofs.TraceLemmas.{grows_none, grows_on, makes_of, makes_life, life_along}
use Rattle.lsp_desk.specs.declared.life.Life.TheVariants.{Exited}
use Rattle.lsp_session.specs.Item.{ItemData}
use Rattle.lsp_session.specs.Semantics.{Semantics}
use Rattle.lsp_session.specs.Admission.{Verdict, Silence, Refuses, Answers, Cancels, Exits, Starts, Admission}
use Rattle.lsp_session.specs.declared.life_check.LifeChange.TheVariants.{Stays}
use Rattle.lsp_session.specs.State.{State, Effect, nothing, puts, both, marked, dues, live, moved_up}
use Rattle.lsp_session.specs.Run.{Order, Poll, Rounds, SomePolls, SomeRounds, SomeStep, Both, Applies, Applying, Changes, Admits, Admitting, admission_of, occasion, reads_in, changing, Drains, Quits, took, closed, cancelled}
use Rattle.lsp_session.specs.Session.{SessionView, Advances, Extends, PutsSome, IsSilent, IsCut, PutsPart, Fails}
use Rattle.lsp_session.proofs.RoundLemmas.{Rounding, polls_more}
use Rattle.lsp_session.proofs.LifeLemmas.{on_desk, on_desk_quietly}
use Rattle.lsp_session.proofs.WorkLemmas.{quit_state}

-- ---- messages

-- all of them were put out
pub some_all : (old all new : List MessageData) → new ≡ old ++ all → PutsSome old all new
some_all old all new is = record { some = all; rest = []; all_are = sym (append-nil all); is = is }

-- some of those that come first
pub some_first : (old first rest new : List MessageData) → PutsSome old first new → PutsSome old (first ++ rest) new
some_first old first rest new p = record { some = p.some; rest = p.rest ++ rest; all_are = ap (λ l. l ++ rest) p.all_are ∙ append_assoc p.some p.rest rest; is = p.is }

-- those that come first, and some of the others
pub some_after : (old mid new first rest : List MessageData) → mid ≡ old ++ first → PutsSome mid rest new → PutsSome old (first ++ rest) new
some_after old mid new first rest is p = record {
  some = first ++ p.some;
  rest = p.rest;
  all_are = ap (λ l. first ++ l) p.all_are ∙ sym (append_assoc first p.some p.rest);
  is = p.is ∙ ap (λ l. l ++ p.some) is ∙ append_assoc old first p.some;
}

-- those that were put out and those that are left are all of them
pub some_left : (old all new left : List MessageData) → new ++ left ≡ old ++ all → Extends old new → PutsSome old all new
some_left old all new left total p = record {
  some = p.more;
  rest = left;
  all_are = append_cancel_left old all (p.more ++ left) (sym total ∙ ap (λ l. l ++ left) p.is ∙ append_assoc old p.more left);
  is = p.is;
}

-- ---- calls

pub grown_none : {D : Type 0} (m : Meaning D) (d : D) → Grown m d d
grown_none m d = record { trace = []; grows = grows_none m d }

module _ {H D C T : Type 0} (m : Meaning D) where
  -- all calls on the desk were made
  pub cut_at : (P : State H C T → Effect → State H C T → Type 0) (old new : SessionView H D C T) (e : Effect) (last : State H C T) → P old.state e last → Grows m old.desk e.trace new.desk
      → PutsSome old.out e.out new.out → new.state.desk.life ≡ last.desk.life → IsCut m old P new
  cut_at P old new e last does grows out life = record { effect = e; last = last; does = does; desk = new.desk; grows = grows; further = grown_none m new.desk; puts = out; life = life }

  -- no call on the desk is made, nor was anything put out
  cut_silent : (P : State H C T → Effect → State H C T → Type 0) (old new : SessionView H D C T) (out : List MessageData) (last : State H C T) → P old.state (puts out) last → last.desk.life ≡ old.state.desk.life
      → Grown m old.desk new.desk → IsSilent old new → IsCut m old P new
  cut_silent P old new out last does same grown silent = record {
    effect = puts out;
    last = last;
    does = does;
    desk = old.desk;
    grows = grows_none m old.desk;
    further = grown;
    puts = record { some = []; rest = out; all_are = refl; is = silent.out ∙ sym (append-nil old.out) };
    life = silent.life ∙ sym same;
  }

  -- one thing was done, and then the call was cut off
  pub cut_after : (P Q R : State H C T → Effect → State H C T → Type 0) (old mid new : SessionView H D C T) (a : Advances m old P mid)
      → ((e : Effect) (last : State H C T) → Q mid.state e last → R old.state (both a.effect e) last) → IsCut m mid Q new → IsCut m old R new
  cut_after P Q R old mid new a joins b = record {
    effect = both a.effect b.effect;
    last = b.last;
    does = joins b.effect b.last b.does;
    desk = b.desk;
    grows = grows_on m old.desk mid.desk b.desk a.effect.trace b.effect.trace a.grows b.grows;
    further = b.further;
    puts = some_after old.out mid.out new.out a.effect.out b.effect.out a.out b.puts;
    life = b.life;
  }

module _ {H D C T P : Type 0} (semantics : Semantics H C T) (m : Meaning D) (order : Order P) where
  -- a round has come so far, and the next poll failed
  pub part_round : (old mid new : SessionView H D semantics.Call semantics.Task) (p q : P) (place : ℕ) → Rounding semantics m order old p mid q
      → place ≡ order.gives q (dues mid.state.slots) % dues mid.state.slots → Grown m mid.desk new.desk
      → PutsPart m mid (λ s e s2. Poll semantics s place e s2) new → PutsPart m old (SomePolls semantics order p) new
  part_round old mid new p q place so_far picked grown (inl silent) = inr (record {
    effect = so_far.effect;
    last = mid.state;
    does = (so_far.places, q, so_far.polls);
    desk = mid.desk;
    grows = so_far.grows;
    further = grown;
    puts = some_all old.out so_far.effect.out new.out (silent.out ∙ so_far.out);
    life = silent.life;
  })
  part_round old mid new p q place so_far picked grown (inr b) = inr (record {
    effect = both so_far.effect b.effect;
    last = b.last;
    does = (so_far.places ++ place ∷ [], order.later q (dues mid.state.slots), polls_more semantics order _ mid.state b.last p q so_far.places place so_far.effect b.effect so_far.polls b.does picked);
    desk = b.desk;
    grows = grows_on m old.desk mid.desk b.desk so_far.effect.trace b.effect.trace so_far.grows b.grows;
    further = b.further;
    puts = some_after old.out mid.out new.out so_far.effect.out b.effect.out so_far.out b.puts;
    life = b.life;
  })

  -- nothing was put out, as after no poll
  cut_none : (mid new : SessionView H D semantics.Call semantics.Task) (q : P) → Grown m mid.desk new.desk → IsSilent mid new → IsCut m mid (SomePolls semantics order q) new
  cut_none mid new q grown silent = record {
    effect = nothing;
    last = record mid.state { slots = map marked mid.state.slots };
    does = ([], q, (refl, refl, refl));
    desk = mid.desk;
    grows = grows_none m mid.desk;
    further = grown;
    puts = some_all mid.out [] new.out (silent.out ∙ sym (append-nil mid.out));
    life = silent.life;
  }

  cut_polls : (mid new : SessionView H D semantics.Call semantics.Task) (q : P) → Grown m mid.desk new.desk → PutsPart m mid (SomePolls semantics order q) new → IsCut m mid (SomePolls semantics order q) new
  cut_polls mid new q grown (inl silent) = cut_none mid new q grown silent
  cut_polls mid new q grown (inr b) = b

  -- ---- a step

  -- fewer rounds were made, and then some polls, or none
  cut_rounds : (rounds n : ℕ) (old mid new : SessionView H D semantics.Call semantics.Task) (p q : P) → n < rounds → Advances m old (λ s e s2. Rounds semantics order n s p e s2 q) mid
      → IsCut m mid (SomePolls semantics order q) new → IsCut m old (SomeRounds semantics order rounds p) new
  cut_rounds rounds n old mid new p q few a b =
      cut_after m (λ s e s2. Rounds semantics order n s p e s2 q) (SomePolls semantics order q) (SomeRounds semantics order rounds p) old mid new a
      (λ e last done. inr (n, q, few, record { first = a.effect; mid = mid.state; does_first = a.does; rest = e; does_rest = done; adds = refl })) b

  pub cut_round : (rounds n : ℕ) (old mid new : SessionView H D semantics.Call semantics.Task) (p q : P) → n < rounds → Advances m old (λ s e s2. Rounds semantics order n s p e s2 q) mid
      → Fails m mid (SomePolls semantics order q) new → IsCut m old (SomeRounds semantics order rounds p) new
  cut_round rounds n old mid new p q few a f = cut_rounds rounds n old mid new p q few a (cut_polls mid new q f.desk f.puts)

  module _ (rounds : ℕ) (item : ItemData) (old admitted : SessionView H D semantics.Call semantics.Task) (p : P) where
    pub part_admission : (new : SessionView H D semantics.Call semantics.Task) → PutsPart m old (Admitting semantics item) new → PutsPart m old (SomeStep semantics order rounds p item) new
    part_admission new (inl silent) = inl silent
    part_admission new (inr b) = inr (record { effect = b.effect; last = b.last; does = inl b.does; desk = b.desk; grows = b.grows; further = b.further; puts = b.puts; life = b.life })

    module _ (a : Advances m old (Admitting semantics item) admitted) where
      pub part_rounds : (new : SessionView H D semantics.Call semantics.Task) → IsCut m admitted (SomeRounds semantics order rounds p) new → PutsPart m old (SomeStep semantics order rounds p item) new
      part_rounds new b = inr (cut_after m (Admitting semantics item) (SomeRounds semantics order rounds p) (SomeStep semantics order rounds p item) old admitted new a
          (λ e last done. inr (inl (record { first = a.effect; mid = admitted.state; does_first = a.does; rest = e; does_rest = done; adds = refl }))) b)

      pub part_drain : (polled new : SessionView H D semantics.Call semantics.Task) (q : P) → Advances m admitted (λ s e s2. Rounds semantics order rounds s p e s2 q) polled → Grown m polled.desk new.desk
          → PutsPart m polled Drains new → PutsPart m old (SomeStep semantics order rounds p item) new
      part_drain polled new q r grown (inl silent) = part_rounds new (record {
        effect = r.effect;
        last = polled.state;
        does = inl (q, r.does);
        desk = polled.desk;
        grows = r.grows;
        further = grown;
        puts = some_all admitted.out r.effect.out new.out (silent.out ∙ r.out);
        life = silent.life;
      })
      part_drain polled new q r grown (inr b) =
          let last : IsCut m admitted (Both (λ s e s2. Rounds semantics order rounds s p e s2 q) Drains) new =
          cut_after m (λ s e s2. Rounds semantics order rounds s p e s2 q) Drains (Both (λ s e s2. Rounds semantics order rounds s p e s2 q) Drains) admitted polled new r
          (λ e last done. record { first = r.effect; mid = polled.state; does_first = r.does; rest = e; does_rest = done; adds = refl }) b in
          inr (cut_after m (Admitting semantics item) (Both (λ s e s2. Rounds semantics order rounds s p e s2 q) Drains) (SomeStep semantics order rounds p item) old admitted new a
          (λ e s2 done. inr (inr (
            q,
            record {
              first = a.effect;
              admitted = admitted.state;
              admits = a.does;
              second = done.first;
              polled = done.mid;
              polls = done.does_first;
              third = done.rest;
              drains = done.does_rest;
              adds = ap (both a.effect) done.adds;
            },
          ))) last)

-- ---- an admission

module _ {H D C T : Type 0} (semantics : Semantics H C T) (m : Meaning D) (item : ItemData) (old mid new : SessionView H D semantics.Call semantics.Task) (a : Admission semantics.Call) (is : a ≡ admission_of semantics old.state item)
    (changed : Advances m old (λ s e s2. Changes s a.change e s2) mid) (grown : Grown m mid.desk new.desk) where
  -- the change of the life was made, and then the verdict was cut off
  cut_verdict : IsCut m mid (Applying semantics a.verdict) new → IsCut m old (Admitting semantics item) new
  cut_verdict b =
      cut_after m (λ s e s2. Changes s a.change e s2) (Applying semantics a.verdict) (Admitting semantics item) old mid new changed
      (λ e last done. subst (λ (x : Admission semantics.Call). Admits semantics old.state x (both changed.effect e) last) is
      (record { first = changed.effect; mid = mid.state; changes = changed.does; rest = e; applies = done; adds = refl })) b

  -- where it failed without a call on the desk, it was cut off before anything was put out
  cut_at_once : (v : Verdict semantics.Call) (out : List MessageData) (last : State H semantics.Call semantics.Task) → a.verdict ≡ v → Applies semantics mid.state v (puts out) last
      → last.desk.life ≡ mid.state.desk.life → IsSilent mid new → PutsPart m old (Admitting semantics item) new
  cut_at_once v out last here does same silent =
      inr (cut_verdict (cut_silent m (Applying semantics a.verdict) mid new out last (subst (λ (x : Verdict semantics.Call). Applies semantics mid.state x (puts out) last) (sym here) does) same grown silent))

  -- and where it calls the desk, the life was left as it was
  silent_on_desk : on_desk a.verdict ≡ true → IsSilent mid new → PutsPart m old (Admitting semantics item) new
  silent_on_desk calls silent =
      let stays : a.change ≡ Stays = ap (λ (x : Admission semantics.Call). x.change) is ∙ on_desk_quietly semantics.Call (occasion old.state) (semantics.find old.state.service) (reads_in semantics old.state) item
      (sym (ap (λ (x : Admission semantics.Call). on_desk x.verdict) is) ∙ calls) in
      inl (record {
        out = silent.out ∙ changed.out ∙ ap (λ (x : Effect). old.out ++ x.out) changed.does.adds ∙ append-nil old.out;
        life = silent.life ∙ ap (λ (x : State H semantics.Call semantics.Task). x.desk.life) changed.does.leaves
            ∙ makes_life old.state.desk changed.does.desk (changing a.change) changed.does.trace changed.does.makes ∙ ap (λ change. life_along old.state.desk.life (changing change)) stays;
      })

  silent_verdict : (v : Verdict semantics.Call) → a.verdict ≡ v → IsSilent mid new → PutsPart m old (Admitting semantics item) new
  silent_verdict Silence here = cut_at_once Silence [] mid.state here (refl, refl) refl
  silent_verdict (Refuses i error) here = cut_at_once (Refuses i error) _ mid.state here (refl, refl) refl
  silent_verdict (Answers r) here = silent_on_desk (ap on_desk here)
  silent_verdict (Cancels i) here = cut_at_once (Cancels i) _ _ here (refl, refl) refl
  silent_verdict Exits here = silent_on_desk (ap on_desk here)
  silent_verdict (Starts id entry c) here = cut_at_once (Starts id entry c) [] _ here (refl, refl) refl

  pub part_verdict : PutsPart m mid (Applying semantics a.verdict) new → PutsPart m old (Admitting semantics item) new
  part_verdict (inl silent) = silent_verdict a.verdict refl silent
  part_verdict (inr b) = inr (cut_verdict b)

-- ---- a last look

-- it leaves the life, whether it fails or not
pub drained_life : {H C T : Type 0} (s s2 : State H C T) (e : Effect) → Drains s e s2 → s2.desk.life ≡ s.desk.life
drained_life s s2 e h = ap (λ (x : State _ _ _). x.desk.life) h.leaves ∙ makes_life s.desk h.desk (took h.messages ∷ []) h.trace h.takes

pub part_life : {H D C T : Type 0} (m : Meaning D) (old new : SessionView H D C T) → PutsPart m old Drains new → new.state.desk.life ≡ old.state.desk.life
part_life m old new (inl silent) = silent.life
part_life m old new (inr b) = b.life ∙ drained_life old.state b.last b.effect b.does

-- ---- an exit whose desk was closed

pub closed_quits : {H D C T : Type 0} (m : Meaning D) (s : State H C T) (old new : D) (messages : List RequestData) → s.desk ≡ m.now old → m.chief old ≡ true → (done : PollsOn m old new (λ own. own ≡ closed messages ∷ []))
    → Quits s (record { trace = done.trace; out = map request messages ++ map cancelled (live s) }) (moved_up (quit_state s (m.now new) (Some s.desk.life)))
closed_quits m s old new messages same chief done = record {
  messages = messages;
  trace = done.trace;
  desk = m.now new;
  makes = subst (λ d. Makes d (closed messages ∷ []) done.trace (m.now new)) (sym same) (makes_of m old new done.trace (closed messages ∷ []) chief done.grows done.holds);
  leaves = refl;
  adds = refl;
}

-- and the life then
pub closed_life : {D : Type 0} (m : Meaning D) (old new : D) (messages : List RequestData) → m.chief old ≡ true → PollsOn m old new (λ own. own ≡ closed messages ∷ []) → Exited ≡ (m.now new).life
closed_life m old new messages chief done =
    sym (makes_life (m.now old) (m.now new) (closed messages ∷ []) done.trace (makes_of m old new done.trace (closed messages ∷ []) chief done.grows done.holds))
