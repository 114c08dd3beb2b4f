-- How calls of a session end.
use Rattle.std.proofs.Common.{◌≡◌, inl, inr, refl, sym, subst, ◌++◌, [], true}
use Rattle.std.proofs.lemmas.List.{append-nil}
use Rattle.std.specs.Prelude.{Result, Ok, Err}
use Rattle.std.specs.Result.{IsErrAnd}
use Rattle.lsp_desk.specs.declared.call.DeskFault.{DeskFault}
use Rattle.lsp_desk.specs.declared.call.DeskFault.TheVariants as faults
use Rattle.lsp_desk.specs.declared.life.Life.{Life}
use Rattle.lsp_desk.specs.Meaning.{Meaning, PollsOn}
use Rattle.lsp_desk.proofs.TraceLemmas.{grows_on, makes_of}
use Rattle.lsp_session.specs.declared.life_check.LifeChange.{LifeChange}
use Rattle.lsp_session.specs.declared.running.Running.{Running}
use Rattle.lsp_session.specs.Semantics.{Semantics}
use Rattle.lsp_session.specs.Fails.{FailsKept}
use Rattle.lsp_session.specs.PendingView.{live_ids}
use Rattle.lsp_session.specs.Run.{changing, Changing}
use Rattle.lsp_session.specs.State.{State, Effect}
use Rattle.lsp_session.specs.Session.{Fails, IsCut}
use Rattle.lsp_session.specs.View.{running_view, Keeps, TellsLife}
use Rattle.lsp_session.specs.Ends.{Does, Breaks, PartEnds}
use Rattle.lsp_session.proofs.RunningLemmas.{extends_as, facts_desk}

module _ {H D C T : Type 0} (semantics : Semantics H C T) (m : Meaning D) (old new : Running H D C T) (P : State H semantics.Call semantics.Task → Effect → State H semantics.Call semantics.Task → Type 0) where
  -- an error that a `?` made
  pub breaks_part : {A : Type 0} (r : Result A DeskFault) (fault : DeskFault) → IsErrAnd r (λ x. x ≡ fault) → Breaks semantics m old P new fault → PartEnds semantics m old P new r
  breaks_part (Ok x) fault is b = absurd is
  breaks_part (Err e) fault is b = subst (Breaks semantics m old P new) (sym is) b

  -- nothing was put out, no exit was noted, and the life stayed
  pub breaks_silent : (fault : DeskFault) → (running_view semantics m new).out ≡ (running_view semantics m old).out → new.exited ≡ old.exited → FailsKept m old.desk new.desk fault → TellsLife m new
      → Breaks semantics m old P new fault
  breaks_silent fault out exited broken life = record { failed = broken.failed; stays = record { out = extends_as _ _ out; exited = exited }; puts = inl (record { out = out; life = broken.kept }); life = life }

  -- out of memory, after all calls on the desk
  pub breaks_short : IsCut m (running_view semantics m old) P (running_view semantics m new) → new.exited ≡ old.exited → TellsLife m new → Breaks semantics m old P new faults.NoMemory
  breaks_short cut exited life = record {
    failed = record { trace = cut.effect.trace ++ cut.further.trace; grows = grows_on m old.desk cut.desk new.desk cut.effect.trace cut.further.trace cut.grows cut.further.grows; spends = tt };
    stays = record { out = record { more = cut.puts.some; is = cut.puts.is }; exited = exited };
    puts = inr cut;
    life = life;
  }

  -- however it ends, it tells the life
  pub told_life : {A : Type 0} (r : Result A DeskFault) → PartEnds semantics m old P new r → TellsLife m new
  told_life (Ok x) p = p.keeps.life_is
  told_life (Err fault) p = p.life

  -- it has failed
  pub fails_of : (fault : DeskFault) → Breaks semantics m old P new fault → Fails m (running_view semantics m old) P (running_view semantics m new)
  fails_of fault broken = record { desk = record { trace = broken.failed.trace; grows = broken.failed.grows }; stays = broken.stays; puts = broken.puts }

-- the life was changed on the desk
pub life_changed : {H D C T : Type 0} (semantics : Semantics H C T) (m : Meaning D) (old : Running H D C T) (desk : D) (life : Life) (change : LifeChange) → m.chief old.desk ≡ true → Keeps semantics m old
    → PollsOn m old.desk desk (λ own. own ≡ changing change) → life ≡ (m.now desk).life → Does semantics m (Keeps semantics m) old (Changing change) (record old { desk = desk; life = life })
life_changed semantics m old desk life change chief keeps done is = record {
  ok = record {
    effect = record { trace = done.trace; out = [] };
    does = record { trace = done.trace; desk = m.now desk; makes = makes_of m old.desk desk done.trace (changing change) chief done.grows done.holds; leaves = refl; adds = refl };
    grows = done.grows;
    out = sym (append-nil _);
  };
  keeps = facts_desk semantics (running_view semantics m old).state old.life life (live_ids old.live) old.handlers (m.now desk) old.exited is keeps;
}
