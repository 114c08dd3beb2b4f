-- What the end of a session's call says.
use Rattle.std.proofs.Common.{◌≡◌, ◌^◌, ◌-◌, ℕ, true, ap, subst}
use Rattle.std.specs.Prelude.{Result, Ok, Err, OnOk, OnErr, IfErr}
use Rattle.std.specs.Result.{IsErrAnd}
use Rattle.lsp_desk.specs.declared.desk.Caller.{Ghosts as CallerGhosts}
use Rattle.lsp_desk.specs.declared.call.DeskFault.{DeskFault}
use Rattle.lsp_desk.specs.declared.call.DeskFault.TheVariants as faults
use Rattle.lsp_desk.specs.Meaning.{Meaning, Spends}
use Rattle.lsp_session.specs.declared.handlers.Handlers.{Ghosts as HandlersGhosts}
use Rattle.lsp_session.specs.declared.session.Session.{Session}
use Rattle.lsp_session.specs.declared.session.SessionFault.{SessionFault}
use Rattle.lsp_session.specs.declared.session.SessionFault.TheVariants.{DeskSpent}
use Rattle.lsp_session.specs.State.{State, Effect}
use Rattle.lsp_session.specs.Stop.{IsStop, stops}
use Rattle.lsp_session.specs.Ends.{Breaks}
use Rattle.lsp_session.specs.SessionView.{has_stopped, desk_of, Proceeds, Halts, SessionEnds}

stops_all : (fault : DeskFault) (f : SessionFault) → IsStop fault f → stops f ≡ true
stops_all faults.NoMemory f is = ap stops is
stops_all (faults.Spent n) f is = ap stops is

spent_at : {D : Type 0} (m : Meaning D) (new : D) (fault : DeskFault) (f : SessionFault) → IsStop fault f → Spends m new fault → (n : ℕ) → f ≡ DeskSpent n → (n ≡ 2 ^ 64 - 1) × (m.spent new ≡ true)
spent_at m new faults.NoMemory f is spends n at = absurd (cc)
spent_at m new (faults.Spent k) f is spends n at = let same : k ≡ n = cc in subst (λ (x : ℕ). (x ≡ 2 ^ 64 - 1) × (m.spent new ≡ true)) same spends

module _ {H D C T : Type 0} {h : HandlersGhosts H D C T} {d : CallerGhosts D} (old new : Session H D C T h d) (P : State H h.semantics.Call h.semantics.Task → Effect → State H h.semantics.Call h.semantics.Task → Type 0) where
  -- a call that broke stops the session
  halts : (fault : DeskFault) (f : SessionFault) → has_stopped new ≡ true → IsStop fault f → Breaks h.semantics d.meaning old.running P new.running fault → Halts old P new f
  halts fault f stopped is b = record {
    stopped = stopped;
    failed = record { desk = record { trace = b.failed.trace; grows = b.failed.grows }; stays = b.stays; puts = b.puts };
    spent = spent_at d.meaning (desk_of new) fault f is b.failed.spends;
    others = stops_all fault f is;
  }

  -- and so does one whose fault a `?` made an error
  pub halts_at : {A : Type 0} (r : Result A SessionFault) (fault : DeskFault) → IsErrAnd r (λ f. IsStop fault f) → has_stopped new ≡ true → Breaks h.semantics d.meaning old.running P new.running fault → SessionEnds old P new r
  halts_at (Ok x) fault is stopped b = absurd is
  halts_at (Err f) fault is stopped b = halts fault f stopped is b

  module _ {A : Type 0} (r : Result A SessionFault) where
    -- what follows at Ok, and at an error
    pub at_ok : {Q : Type 0} → (Proceeds old P new → Q) → SessionEnds old P new r → OnOk r Q
    at_ok f p = elim r as (λ x. SessionEnds old P new x → OnOk x _) [ Ok x ↦ f | Err e ↦ λ _. tt ] p

    pub at_err : {Q : Type 0} → ((fault : SessionFault) → Halts old P new fault → Q) → SessionEnds old P new r → OnErr r Q
    at_err f p = elim r as (λ x. SessionEnds old P new x → OnErr x _) [ Ok x ↦ λ _. tt | Err e ↦ f e ] p

    pub at_fault : {Q : SessionFault → Type 0} → ((fault : SessionFault) → Halts old P new fault → Q fault) → SessionEnds old P new r → IfErr r Q
    at_fault f p = elim r as (λ x. SessionEnds old P new x → IfErr x _) [ Ok x ↦ λ _. tt | Err e ↦ f e ] p

  -- a fault that says that the desk is spent says so where it is
  pub at_spent : {A : Type 0} (r : Result A SessionFault) → SessionEnds old P new r → (n : ℕ) → r ≡ Err (DeskSpent n) → (n ≡ 2 ^ 64 - 1) × (d.meaning.spent (desk_of new) ≡ true)
  at_spent (Ok x) p n is = absurd (cc)
  at_spent (Err fault) p n is = p.spent n (cc)
