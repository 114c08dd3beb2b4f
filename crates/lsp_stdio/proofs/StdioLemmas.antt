-- The exit status, and what was written by then.
use Rattle.std.proofs.Common.{◌≡◌, ◌≤◌, ◌+◌, ◌-◌, ◌^◌, ◌⊎◌, ℕ, true, List, length, refl, sym, ◌∙◌, subst, arith}
use Rattle.std.specs.Prelude.{Option, Some, None, IfSome, ⊤}
use Rattle.lsp_desk.specs.declared.life.Life.{Life}
use Rattle.lsp_desk.specs.declared.life.Life.TheVariants.{Uninitialized, Initializing, Initialized, ShutDown, Exited}
use Rattle.lsp_desk.specs.Meaning.{Meaning}
use Rattle.lsp_session.specs.State.{State}
use Rattle.lsp_session.specs.Run.{Picked}
use Rattle.lsp_server.specs.declared.step.ServeError.{ServeError}
use Rattle.lsp_server.specs.declared.step.ServeError.TheVariants.{ReadFault, WriteFault, ReadsSpent, NoMemory, DeskSpent}
use Rattle.lsp_server.specs.Course.{Course}
use Rattle.lsp_server.specs.Errors.{IsBetweenReads, SaysSpent}
use Rattle.lsp_server.specs.Served.{CallBytes, call_bytes, ServedView, IsServed, ReadEnough, WrotePicked, WrotePart}
use Rattle.lsp_program.specs.Status.{status_of}
use Rattle.lsp_program.proofs.StatusLemmas.{status_of_high, status_five, status_between}
use Rattle.lsp_stdio.specs.Status.{status_at, IsShutDown, IsNotShutDown}
use Rattle.lsp_stdio.specs.Stdio.{EndsWith, EndsWithin}

-- ---- the life

pub status_zero : (exited : Option Life) → status_at exited ≡ 0 → IsShutDown exited
status_zero None h = cc
status_zero (Some Uninitialized) h = cc
status_zero (Some Initializing) h = cc
status_zero (Some Initialized) h = cc
status_zero (Some ShutDown) h = refl
status_zero (Some Exited) h = cc

pub status_one : (exited : Option Life) → status_at exited ≡ 1 → IsNotShutDown exited
status_one None h = λ e. cc
status_one (Some Uninitialized) h = λ e. cc
status_one (Some Initializing) h = λ e. cc
status_one (Some Initialized) h = λ e. cc
status_one (Some ShutDown) h = λ e. cc
status_one (Some Exited) h = λ e. cc

pub status_at_low : (exited : Option Life) → status_at exited ≤ 1
status_at_low None = omega arith
status_at_low (Some Uninitialized) = omega arith
status_at_low (Some Initializing) = omega arith
status_at_low (Some Initialized) = omega arith
status_at_low (Some ShutDown) = omega arith
status_at_low (Some Exited) = omega arith

-- ---- what was written

pub status_seven : {D : Type 0} (m : Meaning D) (desk : D) (e : ServeError) → SaysSpent m desk e → status_of e ≡ 7 → m.spent desk ≡ true
status_seven m desk ReadFault says h = cc
status_seven m desk WriteFault says h = cc
status_seven m desk ReadsSpent says h = cc
status_seven m desk NoMemory says h = cc
status_seven m desk (DeskSpent n) says h = says.1

module _ {H D C T : Type 0} (course : Course (Picked (State H C T) ⊤) D) (call : CallBytes) (n : ℕ) where
  pub ends_whole : (view : ServedView H D) → n ≡ status_at view.exited → IsServed course call view tt → ReadEnough course call 4096 → EndsWith course call n
  ends_whole view is serves enough = record {
    done = λ zero. record { view = view; serves = serves; enough = enough; ends = status_zero view.exited (sym is ∙ zero) };
    unfinished = λ one. record { view = view; serves = serves; enough = enough; ends = status_one view.exited (sym is ∙ one) };
    stopped = λ high. absurd (omega (arith, is, high, status_at_low view.exited));
  }

  pub ends_stopped : (e : ServeError) (desk : D) → n ≡ status_of e
      → (IsBetweenReads e → WrotePicked course call desk tt) → (e ≡ ReadsSpent → IfSome call.left (λ rest. 2 ^ 64 - 1 + length rest ≤ length call.bytes))
      → SaysSpent course.meaning desk e → WrotePart course call 4096 desk → EndsWith course call n
  ends_stopped e desk is told spent says part = record {
    done = λ zero. absurd (omega (arith, is, zero, status_of_high e));
    unfinished = λ one. absurd (omega (arith, is, one, status_of_high e));
    stopped = λ high. record {
      desk = desk;
      part = part;
      exact = λ exact. told (status_between e (subst (λ (k : ℕ). (k ≡ 3) ⊎ (k ≡ 5)) is exact));
      reads_spent = λ five. spent (status_five e (sym is ∙ five));
      desk_spent = λ seven. status_seven course.meaning desk e says (sym is ∙ seven);
    };
  }

-- ---- what is told of a source's bytes

pub on_both : {X : Type 0} (o : Option X) (P R Q : X → Type 0) → ((x : X) → P x → R x → Q x) → IfSome o P → IfSome o R → IfSome o Q
on_both None P R Q f p r = tt
on_both (Some x) P R Q f p r = f x p r

pub on_all : {X A B : Type 0} (o : Option X) (P Q R S : X → Type 0) → ((x : X) → (A → P x) → (B → Q x) → R x → S x)
    → (A → IfSome o P) → (B → IfSome o Q) → IfSome o R → IfSome o S
on_all None P Q R S f p q r = tt
on_all (Some x) P Q R S f p q r = f x p q r

pub on_some : {X : Type 0} (o : Option X) (P Q : X → Type 0) → ((x : X) → P x → Q x) → IfSome o P → IfSome o Q
on_some None P Q f p = tt
on_some (Some x) P Q f p = f x p

-- ---- what is said of a source and a sink that were given away

pub ends_within : {H D C T : Type 0} (course : Course (Picked (State H C T) ⊤) D) (o left taken taken_after : Option (List ℕ)) (n status : ℕ) → status ≡ n
    → IfSome o (λ bytes. EndsWith course (call_bytes bytes left taken taken_after) n) → IfSome o (λ bytes. EndsWithin course bytes status)
ends_within course o left taken taken_after n status is =
    on_some o _ _ (λ bytes ends. record { left = left; taken = taken; taken_after = taken_after; ends = subst (λ k. EndsWith course (call_bytes bytes left taken taken_after) k) (sym is) ends })
