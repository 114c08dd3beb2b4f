-- A session as it was opened, and one step more.
use Rattle.std.proofs.Common.{◌≡◌, ℕ, List, [], ◌∷◌, refl, sym, ◌∙◌, ap, Bool, false}
use Rattle.std.specs.Prelude.{Option, Some, None, is_some}
use Rattle.lsp_desk.specs.declared.desk.Caller.{Ghosts as CallerGhosts}
use Rattle.lsp_desk.specs.declared.life.Life.{Life}
use Rattle.lsp_desk.specs.declared.life.Life.TheVariants.{Uninitialized, Exited}
use Rattle.lsp_desk.specs.Meaning.{Meaning, IsOpening}
use Rattle.lsp_session.specs.declared.handlers.Handlers.{Ghosts as HandlersGhosts}
use Rattle.lsp_session.specs.declared.session.Session.{Session}
use Rattle.lsp_session.specs.Item.{ItemData}
use Rattle.lsp_session.specs.Semantics.{Semantics, IsLawfulHandlers}
use Rattle.lsp_session.specs.Run.{Order, Step, is_exit}
use Rattle.lsp_session.specs.Session.{SessionView}
use Rattle.lsp_session.specs.SessionView.{session_view, has_stopped}
use Rattle.lsp_server.specs.ServerView.{standing, IsReady}
use Rattle.lsp_server.specs.Written.{Ran}
use Rattle.lsp_server.proofs.ItemsLemmas.{run_table}
use Rattle.lsp_server.proofs.PointLemmas.{Point, find_at}
use Rattle.lsp_server.proofs.RanLemmas.{ran_notes, ran_lives}
use Rattle.lsp_pump.specs.Steps.{StepsMade, IsUnexited}

never_exited : Uninitialized ≡ Exited → ⊥
never_exited is = cc

-- a desk that is as it was made lives
opens_alive : {D : Type 0} (m : Meaning D) (desk made : D) → desk ≡ made → IsOpening m made → (m.now desk).life ≡ Exited → ⊥
opens_alive m desk made is opens at = never_exited (sym (ap (λ d. (m.now d).life) is ∙ ap (λ s. s.life) opens.now) ∙ at)

module _ {H D C T : Type 0} {h : HandlersGhosts H D C T} {d : CallerGhosts D} (semantics : Semantics H C T) (m : Meaning D) (session : Session H D C T h d) (view : SessionView H D semantics.Call semantics.Task) (is : session_view semantics m session ≡ view) where
  pub opens_ready : has_stopped session ≡ false → view.out ≡ [] → IsReady semantics m session
  opens_ready running none = record { running = running; taken = ap (λ v. v.out) is ∙ none }

  pub opens_unexited : view.state.exited ≡ None → IsOpening m view.desk → IsUnexited semantics m session
  opens_unexited none opens = record {
    unexited = ap (λ v. v.state.exited) is ∙ none;
    alive = opens_alive m (session_view semantics m session).desk view.desk (ap (λ v. v.desk) is) opens;
  }

none_of : (o : Option Life) → is_some o ≡ false → o ≡ None
none_of None h = refl
none_of (Some l) h = cc

module _ {H D C T P : Type 0} (semantics : Semantics H C T) (laws : IsLawfulHandlers semantics) (m : Meaning D) (order : Order P) (rounds : ℕ) where
  pub table_after : (a b : Point semantics D P) (items : List ItemData) (exits : Bool) → StepsMade (Step semantics order rounds) m (find_at semantics a) a items exits b
      → (name : List ℕ) → find_at semantics b name ≡ find_at semantics a name
  table_after a b items exits p name = run_table semantics laws order rounds a.state b.state p.list p.ran.effect p.ran.run name

  -- one step from where no exit was admitted: whether it was an exit, and where the session stands after it
  module _ (a : Point semantics D P) (x : ItemData) where
    pub noted_one : (d : Point semantics D P) → Ran (Step semantics order rounds) m a (x ∷ []) d → a.state.session.exited ≡ None
        → (exits : Bool) → is_some d.state.session.exited ≡ exits → is_exit (find_at semantics a) x ≡ exits
    noted_one d ran unexited exits is = sym (ran_notes semantics m order rounds laws a d x ran unexited) ∙ is

    pub unexited_one : {h : HandlersGhosts H D C T} {dg : CallerGhosts D} (session : Session H D C T h dg) (p : P) (taken : Option (List ℕ)) → Ran (Step semantics order rounds) m a (x ∷ []) (standing semantics m session p taken)
        → a.state.session.exited ≡ None → (a.state.session.desk.life ≡ Exited → ⊥) → is_some (session_view semantics m session).state.exited ≡ false → IsUnexited semantics m session
    unexited_one session p taken ran unexited lives is = record {
      unexited = none_of (session_view semantics m session).state.exited is;
      alive = ran_lives semantics m order rounds laws a (standing semantics m session p taken) x ran (noted_one (standing semantics m session p taken) ran unexited false is) lives;
    }
