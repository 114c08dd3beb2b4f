-- The exit status of a session that was served while a thread read, and what was written by then.
use Rattle.std.proofs.Common.{◌≡◌, ◌≤◌, ◌<◌, ◌+◌, ◌-◌, ◌^◌, ◌⊎◌, inl, inr, ℕ, Bool, true, false, List, length, refl, sym, ◌∙◌, subst, arith}
use Rattle.std.specs.Prelude.{◌≢◌, Option, Some, None, IfSome, is_some, ⊤}
use Rattle.lsp_desk.specs.Meaning.{Grown}
use Rattle.lsp_frame.specs.Codec.{start_by}
use Rattle.lsp_session.specs.State.{State}
use Rattle.lsp_session.specs.Run.{Picked}
use Rattle.lsp_server.specs.declared.step.ServeError.{ServeError}
use Rattle.lsp_server.specs.declared.step.ServeError.TheVariants.{ReadFault, WriteFault, ReadsSpent, NoMemory, DeskSpent}
use Rattle.lsp_server.specs.Course.{Course}
use Rattle.lsp_server.specs.Errors.{IsBetweenReads, IsInStep, IsFlushedAt, SaysSpent, ComesUnfailed}
use Rattle.lsp_server.specs.Items.{stream_items}
use Rattle.lsp_server.specs.Served.{CallBytes, call_bytes, ServedView}
use Rattle.lsp_program.specs.Status.{status_of}
use Rattle.lsp_program.proofs.StatusLemmas.{status_of_high, status_five, status_between, status_known}
use Rattle.lsp_pump.specs.Pumped.{IsPumped, PumpedEnough, PumpedPart, WrotePumped}
use Rattle.lsp_stdio.specs.Status.{status_at}
use Rattle.lsp_stdio.specs.Pumping.{EndsUnread, PumpEndsWith, PumpEndsWithin}
use Rattle.lsp_stdio.proofs.StdioLemmas.{status_zero, status_one, status_at_low, status_seven, on_both, on_all, on_some}

-- a failed read that isn't told
pub unread_status : (e : ServeError) → (e ≡ ReadFault) ⊎ IsInStep e → (status_of e ≡ 3) ⊎ EndsUnread (status_of e)
unread_status ReadFault h = inl refl
unread_status WriteFault h = inr (inr (inl refl))
unread_status ReadsSpent (inl h) = inl cc
unread_status ReadsSpent (inr h) = absurd h
unread_status NoMemory h = inr (inr (inr (inl refl)))
unread_status (DeskSpent n) h = inr (inr (inr (inr refl)))

-- the statuses of errors
pub error_status : (n : ℕ) (e : ServeError) → n ≡ status_of e → (n ≤ 7) × (n ≢ 2)
error_status n ReadFault is = (omega (arith, is), λ two. omega (arith, is, two))
error_status n WriteFault is = (omega (arith, is), λ two. omega (arith, is, two))
error_status n ReadsSpent is = (omega (arith, is), λ two. omega (arith, is, two))
error_status n NoMemory is = (omega (arith, is), λ two. omega (arith, is, two))
error_status n (DeskSpent k) is = (omega (arith, is), λ two. omega (arith, is, two))

pub flushed_status : (n : ℕ) (e : ServeError) → n ≡ status_of e → n ≢ 4 → n ≢ 6 → IsFlushedAt e
flushed_status n ReadFault is four six = tt
flushed_status n WriteFault is four six = absurd (four is)
flushed_status n ReadsSpent is four six = tt
flushed_status n NoMemory is four six = absurd (six is)
flushed_status n (DeskSpent k) is four six = tt

-- a desk of one's own is never spent
pub shared_status : (alone : Bool) (n : ℕ) (e : ServeError) → n ≡ status_of e → (alone ≡ true → (k : ℕ) → e ≢ DeskSpent k) → n ≡ 7 → alone ≡ false
shared_status false n e is never seven = refl
shared_status true n e is never seven = absurd (omega (arith, is, seven, status_known e (never refl)))

unfailed_status : (alone : Bool) (n : ℕ) (e : ServeError) → n ≡ status_of e → ComesUnfailed alone e → (n ≤ 1) ⊎ (n ≡ 6) ⊎ (n ≡ 7)
unfailed_status alone n ReadFault is comes = absurd comes
unfailed_status alone n WriteFault is comes = absurd comes
unfailed_status alone n ReadsSpent is comes = absurd comes
unfailed_status alone n NoMemory is comes = inr (inl is)
unfailed_status alone n (DeskSpent k) is comes = inr (inr is)

-- what may lack with no failure and enough reads
pub complete_low : (o : Option (List ℕ)) (R W : Type 0) (n : ℕ) → n ≤ 1 → IfSome o (λ bytes. length bytes < 2 ^ 64 - 1 → R → W → (n ≤ 1) ⊎ (n ≡ 6) ⊎ (n ≡ 7))
complete_low None R W n low = tt
complete_low (Some bytes) R W n low = λ few read write. inl low

pub complete_at : (o : Option (List ℕ)) (alone : Bool) (R W : Type 0) (n : ℕ) (e : ServeError) → n ≡ status_of e → IfSome o (λ bytes. length bytes < 2 ^ 64 - 1 → R → W → ComesUnfailed alone e)
    → IfSome o (λ bytes. length bytes < 2 ^ 64 - 1 → R → W → (n ≤ 1) ⊎ (n ≡ 6) ⊎ (n ≡ 7))
complete_at None alone R W n e is comes = tt
complete_at (Some bytes) alone R W n e is comes = λ few read write. unfailed_status alone n e is (comes few read write)

module _ {H D C T : Type 0} (course : Course (Picked (State H C T) ⊤) D) (call : CallBytes) (failed failed_after n : ℕ) where
  pump_ends_whole : (view : ServedView H D) → n ≡ status_at view.exited → (failed < failed_after → is_some view.exited ≡ true)
      → IsPumped course call view tt → PumpedEnough course (start_by course.codec) call → PumpEndsWith course call failed failed_after n
  pump_ends_whole view is unread pumps enough = record {
    done = λ zero. record { view = view; pumps = pumps; enough = enough; ends = status_zero view.exited (sym is ∙ zero); unread = unread };
    unfinished = λ one. record { view = view; pumps = pumps; enough = enough; ends = status_one view.exited (sym is ∙ one); unread = unread };
    stopped = λ high. absurd (omega (arith, is, high, status_at_low view.exited));
  }

  pump_ends_stopped : (e : ServeError) (desk : D) → n ≡ status_of e
      → (IsBetweenReads e → WrotePumped course call desk tt) → (e ≡ ReadsSpent → IfSome call.left (λ rest. 2 ^ 64 - 1 + length rest ≤ length call.bytes))
      → SaysSpent course.meaning desk e → Grown course.meaning course.desk desk → PumpedPart course (stream_items course.codec call.bytes) call desk
      → PumpEndsWith course call failed failed_after n
  pump_ends_stopped e desk is told spent says grown part = record {
    done = λ zero. absurd (omega (arith, is, zero, status_of_high e));
    unfinished = λ one. absurd (omega (arith, is, one, status_of_high e));
    stopped = λ high. record {
      desk = desk;
      part = part;
      exact = λ exact. told (status_between e (subst (λ (k : ℕ). (k ≡ 3) ⊎ (k ≡ 5)) is exact));
      reads_spent = λ five. spent (status_five e (sym is ∙ five));
      desk_spent = λ seven. status_seven course.meaning desk e says (sym is ∙ seven);
      grown = grown;
    };
  }

-- where the bytes are told
module _ {H D C T : Type 0} (course : Course (Picked (State H C T) ⊤) D) (o left taken taken_after : Option (List ℕ)) (failed failed_after n : ℕ) where
  abbrev call_of : List ℕ → CallBytes
  call_of bytes = call_bytes bytes left taken taken_after

  abbrev EndsTold : Type 0
  EndsTold = IfSome o (λ bytes. PumpEndsWith course (call_of bytes) failed failed_after n)

  pub whole_told : (view : ServedView H D) → n ≡ status_at view.exited → (failed < failed_after → is_some view.exited ≡ true)
      → IfSome o (λ bytes. IsPumped course (call_of bytes) view tt) → IfSome o (λ bytes. PumpedEnough course (start_by course.codec) (call_of bytes)) → EndsTold
  whole_told view is unread = on_both o _ _ _ (λ bytes pumps enough. pump_ends_whole course (call_of bytes) failed failed_after n view is unread pumps enough)

  pub stopped_told : (e : ServeError) (desk : D) → n ≡ status_of e
      → (IsBetweenReads e → IfSome o (λ bytes. WrotePumped course (call_of bytes) desk tt)) → (e ≡ ReadsSpent → IfSome o (λ bytes. IfSome left (λ rest. 2 ^ 64 - 1 + length rest ≤ length bytes)))
      → SaysSpent course.meaning desk e → Grown course.meaning course.desk desk → IfSome o (λ bytes. PumpedPart course (stream_items course.codec bytes) (call_of bytes) desk) → EndsTold
  stopped_told e desk is told spent says grown = on_all o _ _ _ _ (λ bytes whole few part. pump_ends_stopped course (call_of bytes) failed failed_after n e desk is whole few says grown part) told spent

-- what is said of a source and a sink that were given away
pub pump_ends_within : {H D C T : Type 0} (course : Course (Picked (State H C T) ⊤) D) (o left taken taken_after : Option (List ℕ)) (failed n status : ℕ) → status ≡ n
    → IfSome o (λ bytes. PumpEndsWith course (call_bytes bytes left taken taken_after) 0 failed n) → IfSome o (λ bytes. PumpEndsWithin course bytes status)
pump_ends_within course o left taken taken_after failed n status is =
    on_some o _ _ (λ bytes ends. record {
      left = left;
      taken = taken;
      taken_after = taken_after;
      failed = failed;
      ends = subst (λ k. PumpEndsWith course (call_bytes bytes left taken taken_after) 0 failed k) (sym is) ends;
    })
