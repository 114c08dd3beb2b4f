-- What was run and written, one step after another.
use Rattle.std.proofs.Common.{◌≡◌, ℕ, List, [], ◌∷◌, ◌++◌, refl, sym, ◌∙◌, ap, subst, append_assoc, Bool, true, false}
use Rattle.std.specs.Prelude.{Option, Some, None, is_some}
use Rattle.std.specs.Io.KnownBytes.{Appends, Keeps}
use Rattle.std.proofs.lemmas.List.{append-nil}
use Rattle.lsp_rpc.specs.Message.{MessageData}
use Rattle.lsp_desk.specs.declared.life.Life.TheVariants.{Exited}
use Rattle.lsp_desk.specs.Meaning.{Meaning, Grown}
use Rattle.lsp_desk.proofs.TraceLemmas.{grows_none, grows_on}
use Rattle.lsp_frame.specs.Codec.{frames}
use Rattle.lsp_session.specs.Item.{ItemData}
use Rattle.lsp_session.specs.Semantics.{Semantics, IsLawfulHandlers}
use Rattle.lsp_session.specs.State.{State, Effect, nothing, both}
use Rattle.lsp_session.specs.Run.{Order, Step, is_exit}
use Rattle.lsp_session.specs.Session.{SessionView, Advances}
use Rattle.lsp_session.proofs.RoundLemmas.{both-nothing}
use Rattle.lsp_session.proofs.StepLemmas.{run_on, grown_on}
use Rattle.lsp_session.proofs.LifeLemmas.{Notes, step_notes, step_lives}
use Rattle.lsp_server.specs.Course.{picked}
use Rattle.lsp_server.specs.Steps.{StepPutsOut}
use Rattle.lsp_server.specs.Written.{IsPrefixOf, IsPartOf, Place, place, Ran, RanPart}
use Rattle.lsp_server.proofs.KnownLemmas.{appends_none, appends_more, appends_kept}
use Rattle.lsp_server.proofs.FramesLemmas.{frames-append}
use Rattle.lsp_server.proofs.PointLemmas.{Point}
use Rattle.lsp_server.proofs.ItemsLemmas.{not_exited, alive}

pub grown_none : {D : Type 0} (m : Meaning D) (d : D) → Grown m d d
grown_none m d = record { trace = []; grows = grows_none m d }

-- ---- runs of any step

module _ {S D : Type 0} {step : S → ItemData → Effect → S → Type 0} {m : Meaning D} where
  -- nothing was run
  pub part_none : (a : Place S D) (desk : D) (items : List ItemData) → Grown m a.desk desk → RanPart step m a items desk a.taken
  part_none a desk items grown = record {
    written = [];
    part = record { given = []; rest = items; split = refl; effect = nothing; last = a.state; run = (refl, refl); desk = a.desk; grows = grows_none m a.desk; further = grown; part = ([], refl) };
    writes = appends_none a.taken;
  }

  -- a part of fewer items is a part of more
  pub part_more : {a : Place S D} {desk : D} {taken : Option (List ℕ)} (xs ys : List ItemData) → RanPart step m a xs desk taken → RanPart step m a (xs ++ ys) desk taken
  part_more xs ys p = record {
    written = p.written;
    part = record {
      given = p.part.given;
      rest = p.part.rest ++ ys;
      split = sym (append_assoc p.part.given p.part.rest ys) ∙ ap (λ l. l ++ ys) p.part.split;
      effect = p.part.effect;
      last = p.part.last;
      run = p.part.run;
      desk = p.part.desk;
      grows = p.part.grows;
      further = p.part.further;
      part = p.part.part;
    };
    writes = p.writes;
  }

  -- what was taken is kept
  pub part_kept : {a : Place S D} {desk : D} {taken1 taken2 : Option (List ℕ)} {items : List ItemData} → RanPart step m a items desk taken1 → Keeps taken1 taken2 → RanPart step m a items desk taken2
  part_kept {a = a} {taken1 = taken1} {taken2 = taken2} p kept = record { written = p.written; part = p.part; writes = appends_kept a.taken taken1 taken2 p.written p.writes kept }

  -- what was written alone is the part
  pub part_alone : {old : S} {old_desk desk : D} {items : List ItemData} {written : List ℕ} → RanPart step m (record { state = old; desk = old_desk; taken = Some [] }) items desk (Some written)
      → IsPartOf step m old old_desk items written desk
  part_alone {old = old} {old_desk = old_desk} {desk = desk} {items = items} {written = written} p = subst (λ l. IsPartOf step m old old_desk items l desk) (sym p.writes) p.part

module _ {S D : Type 0} {step : S → ItemData → Effect → S → Type 0} {m : Meaning D} where
  pub ran_none : (a : Place S D) → Ran step m a [] a
  ran_none a = record { effect = nothing; run = (refl, refl); grows = grows_none m a.desk; writes = appends_none a.taken }

  -- what was run goes on
  pub ran_more : (a b c : Place S D) (xs ys : List ItemData) → Ran step m a xs b → Ran step m b ys c → Ran step m a (xs ++ ys) c
  ran_more a b c xs ys p q = record {
    effect = both p.effect q.effect;
    run = run_on step a.state b.state c.state xs ys p.effect q.effect p.run q.run;
    grows = grows_on m a.desk b.desk c.desk p.effect.trace q.effect.trace p.grows q.grows;
    writes = subst (λ l. Appends a.taken c.taken l) (sym (frames-append p.effect.out q.effect.out)) (appends_more a.taken b.taken c.taken (frames p.effect.out) (frames q.effect.out) p.writes q.writes);
  }

  -- the desk has grown by what was run
  pub ran_grown : (a b : Place S D) (xs : List ItemData) → Ran step m a xs b → Grown m a.desk b.desk
  ran_grown a b xs p = record { trace = p.effect.trace; grows = p.grows }

  pub grown_after : (a b : Place S D) (desk : D) (xs : List ItemData) → Ran step m a xs b → Grown m b.desk desk → Grown m a.desk desk
  grown_after a b desk xs p q = grown_on m a.desk b.desk desk p.effect.trace p.grows q

  -- a part after what was run
  pub part_after : (a b : Place S D) (desk : D) (taken : Option (List ℕ)) (xs ys : List ItemData) → Ran step m a xs b → RanPart step m b ys desk taken → RanPart step m a (xs ++ ys) desk taken
  part_after a b desk taken xs ys p q = record {
    written = frames p.effect.out ++ q.written;
    part = record {
      given = xs ++ q.part.given;
      rest = q.part.rest;
      split = append_assoc xs q.part.given q.part.rest ∙ ap (λ l. xs ++ l) q.part.split;
      effect = both p.effect q.part.effect;
      last = q.part.last;
      run = run_on step a.state b.state q.part.last xs q.part.given p.effect q.part.effect p.run q.part.run;
      desk = q.part.desk;
      grows = grows_on m a.desk b.desk q.part.desk p.effect.trace q.part.effect.trace p.grows q.part.grows;
      further = q.part.further;
      part = (q.part.part.0, append_assoc (frames p.effect.out) q.written q.part.part.0 ∙ ap (λ l. frames p.effect.out ++ l) q.part.part.1 ∙ sym (frames-append p.effect.out q.part.effect.out));
    };
    writes = appends_more a.taken b.taken taken (frames p.effect.out) q.written p.writes q.writes;
  }

  -- what was run is a part of more
  pub part_all : (a b : Place S D) (xs ys : List ItemData) → Ran step m a xs b → RanPart step m a (xs ++ ys) b.desk b.taken
  part_all a b xs ys p = part_after a b b.desk b.taken xs ys p (part_none b b.desk ys (grown_none m b.desk))

  pub part_whole : (a b : Place S D) (xs : List ItemData) → Ran step m a xs b → RanPart step m a xs b.desk b.taken
  part_whole a b xs p = subst (λ l. RanPart step m a l b.desk b.taken) (append-nil xs) (part_all a b xs [] p)

  -- ---- what was written alone, whatever the sink had taken

  pub ran_alone : (a b : Place S D) (xs : List ItemData) → (p : Ran step m a xs b) → Ran step m (record a { taken = Some [] }) xs (record b { taken = Some (frames p.effect.out) })
  ran_alone a b xs p = record { effect = p.effect; run = p.run; grows = p.grows; writes = refl }

  pub ran_onto : (a b : Place S D) (xs : List ItemData) (written : List ℕ) (taken0 taken1 : Option (List ℕ)) → a.taken ≡ Some [] → b.taken ≡ Some written → Ran step m a xs b → Appends taken0 taken1 written
      → Ran step m (record a { taken = taken0 }) xs (record b { taken = taken1 })
  ran_onto a b xs written taken0 taken1 empty is p writes = record {
    effect = p.effect;
    run = p.run;
    grows = p.grows;
    writes = subst (λ l. Appends taken0 taken1 l) (subst (λ t. Appends t (Some written) (frames p.effect.out)) empty (subst (λ t. Appends a.taken t (frames p.effect.out)) is p.writes)) writes;
  }

-- ---- one step of a session

module _ {H D C T P : Type 0} (semantics : Semantics H C T) (m : Meaning D) (order : Order P) (rounds : ℕ) where
  abbrev pub View : Type 0
  View = SessionView H D semantics.Call semantics.Task

  abbrev pub Stepped : View → P → ItemData → View → P → Type 0
  Stepped old p item mid p2 = Advances m old (λ s e s2. Step semantics order rounds (record { session = s; pick = p }) item e (record { session = s2; pick = p2 })) mid

  -- one step, all of it written
  pub ran_one : (taken0 taken1 : Option (List ℕ)) (old mid : View) (p p2 : P) (item : ItemData) (out : List MessageData)
      → Stepped old p item mid p2 → old.out ≡ [] → out ≡ mid.out → Appends taken0 taken1 (frames out)
      → Ran (Step semantics order rounds) m (place old p taken0) (item ∷ []) (place (record mid { out = [] }) p2 taken1)
  ran_one taken0 taken1 old mid p p2 item out steps empty is writes =
      let e = steps.effect in
      let same : out ≡ e.out = is ∙ steps.out ∙ ap (λ l. l ++ e.out) empty in
      record {
        effect = e;
        run = (picked mid p2, e, nothing, steps.does, (refl, refl), sym (both-nothing e));
        grows = steps.grows;
        writes = subst (λ (o : List MessageData). Appends taken0 taken1 (frames o)) same writes;
      }

  -- one step, some of it written
  pub part_one : (taken0 taken1 : Option (List ℕ)) (old mid : View) (p p2 : P) (item : ItemData) (out : List MessageData) (written : List ℕ)
      → Stepped old p item mid p2 → old.out ≡ [] → out ≡ mid.out → IsPrefixOf written (frames out) → Appends taken0 taken1 written
      → RanPart (Step semantics order rounds) m (place old p taken0) (item ∷ []) mid.desk taken1
  part_one taken0 taken1 old mid p p2 item out written steps empty is part writes =
      let e = steps.effect in
      let same : out ≡ e.out = is ∙ steps.out ∙ ap (λ l. l ++ e.out) empty in
      record {
        written = written;
        part = record {
          given = item ∷ [];
          rest = [];
          split = refl;
          effect = e;
          last = picked mid p2;
          run = (picked mid p2, e, nothing, steps.does, (refl, refl), sym (both-nothing e));
          desk = mid.desk;
          grows = steps.grows;
          further = grown_none m mid.desk;
          part = subst (λ (o : List MessageData). IsPrefixOf written (frames o)) same part;
        };
        writes = writes;
      }

  -- one step that put out these messages, where there is one
  pub puts_out : (old mid : View) (p p2 : P) (item : ItemData) (out : List MessageData)
      → Stepped old p item mid p2 → old.out ≡ [] → out ≡ mid.out → (out ≡ [] → ⊥) → StepPutsOut semantics order rounds (picked old p) item (picked mid p2)
  puts_out old mid p p2 item out steps empty is some = record {
    effect = steps.effect;
    step = steps.does;
    some = λ none. some (is ∙ steps.out ∙ ap (λ l. l ++ steps.effect.out) empty ∙ none);
  }

  -- what is no exit leaves the session alive
  pub stepped_lives : IsLawfulHandlers semantics → (old mid : View) (p p2 : P) (item : ItemData) → Stepped old p item mid p2 → (old.state.desk.life ≡ Exited → ⊥)
      → is_exit (semantics.find old.state.service) item ≡ false → mid.state.desk.life ≡ Exited → ⊥
  stepped_lives laws old mid p p2 item steps lives stays =
      alive mid.state.desk.life (step_lives semantics laws order rounds (picked old p) (picked mid p2) item steps.effect stays steps.does ∙ not_exited old.state.desk.life lives)

  -- ---- one step and the exit

  -- the one step of what was run
  only_step : (a b : Point semantics D P) (item : ItemData) → (ran : Ran (Step semantics order rounds) m a (item ∷ []) b) → Step semantics order rounds a.state item ran.run.1 b.state
  only_step a b item ran = subst (λ s. Step semantics order rounds a.state item ran.run.1 s) (sym ran.run.4.1) ran.run.3

  noted : (laws : IsLawfulHandlers semantics) (b : Bool) (s s2 : State H semantics.Call semantics.Task) → s.exited ≡ None → Notes semantics laws b s s2 → is_some s2.exited ≡ b
  noted laws true s s2 none p = ap is_some p
  noted laws false s s2 none p = ap is_some (p ∙ none)

  -- an exit is noted, and nothing else is
  pub ran_notes : IsLawfulHandlers semantics → (a b : Point semantics D P) (item : ItemData) → Ran (Step semantics order rounds) m a (item ∷ []) b → a.state.session.exited ≡ None
      → is_some b.state.session.exited ≡ is_exit (semantics.find a.state.session.service) item
  ran_notes laws a b item ran none =
      noted laws (is_exit (semantics.find a.state.session.service) item) a.state.session b.state.session none (step_notes semantics laws order rounds a.state b.state item ran.run.1 (only_step a b item ran))

  -- what is no exit leaves the session alive
  pub ran_lives : IsLawfulHandlers semantics → (a b : Point semantics D P) (item : ItemData) → Ran (Step semantics order rounds) m a (item ∷ []) b
      → is_exit (semantics.find a.state.session.service) item ≡ false → (a.state.session.desk.life ≡ Exited → ⊥) → b.state.session.desk.life ≡ Exited → ⊥
  ran_lives laws a b item ran stays lives =
      alive b.state.session.desk.life (step_lives semantics laws order rounds a.state b.state item ran.run.1 stays (only_step a b item ran) ∙ not_exited a.state.session.desk.life lives)
