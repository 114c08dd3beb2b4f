-- What a pumped session hands back.
use Rattle.std.proofs.Common.{◌≡◌, ◌≤◌, ◌<◌, ◌+◌, ℕ, List, length, refl, arith, Bool, true, false}
use Rattle.std.specs.Prelude.{Option, Some, IfSome}
use Rattle.std.specs.Io.KnownBytes.{Consumes}
use Rattle.lsp_desk.specs.Meaning.{Meaning, IsLawfulDesk, Grown}
use Rattle.lsp_session.specs.Semantics.{Semantics, IsLawfulHandlers}
use Rattle.lsp_session.specs.State.{IsSettled, opening_by}
use Rattle.lsp_session.specs.Run.{Order}
use Rattle.lsp_session.specs.Session.{SessionView}
use Rattle.lsp_session.proofs.CountLemmas.{run_counts}
use Rattle.lsp_server.specs.Items.{stream_items}
use Rattle.lsp_server.specs.Course.{Setting, codec_of, picked, course}
use Rattle.lsp_server.specs.Served.{CallBytes, handed_back}
use Rattle.lsp_server.specs.declared.step.ServeError.{ServeError}
use Rattle.lsp_server.specs.declared.step.ServeError.TheVariants.{ReadFault, WriteFault, ReadsSpent, DeskSpent, NoMemory}
use Rattle.lsp_server.specs.Errors.{IsBetweenReads, ComesUnfailed, SaysSpent}
use Rattle.lsp_server.proofs.ErrorLemmas.{never_alone, unfailed}
use Rattle.lsp_server.proofs.KnownLemmas.{left_told}
use Rattle.lsp_pump.specs.Pumped.{RanPumped, IsPumped}

module _ {H D C T P : Type 0} {semantics : Semantics H C T} (laws : IsLawfulHandlers semantics) (m : Meaning D) (order : Order P) (setting : Setting H D P) (call : CallBytes) where
  settled : IsSettled (opening_by {H = H} {C = semantics.Call} {T = semantics.Task} setting.service setting.max setting.wait setting.empty_params)
  settled = record { ids_differ = tt; slots_few = omega arith; slots_full = λ h. absurd (omega (arith, h)) }

  pub is_pumped : (view : SessionView H D semantics.Call semantics.Task) (p : P) → RanPumped (course semantics m order setting) (stream_items (codec_of setting) call.bytes) call (picked view p) view.desk
      → m.now view.desk ≡ view.state.desk → IsPumped (course semantics m order setting) call (handed_back view) p
  is_pumped view p pumped desk = record {
    list = pumped.list;
    is = pumped.is;
    last = picked view p;
    ran = pumped.ran;
    service_is = refl;
    desk_is = desk;
    exited_is = refl;
    unanswered_is = refl;
    pick_is = refl;
    counts = run_counts semantics order setting.rounds laws (course semantics m order setting).start (picked view p) pumped.list pumped.ran.effect settled refl pumped.ran.run;
  }

-- what may come without a failure, and with reads left
module _ {D : Type 0} (m : Meaning D) (laws : IsLawfulDesk m) (old new : D) (grown : Grown m old new) (read wrote : Type 0) (reads : ℕ) (bytes : List ℕ) (left : Option (List ℕ)) where
  pub pump_unfailed : (error : ServeError) → SaysSpent m new error → (IsBetweenReads error → (xs : List ℕ) × Consumes (Some bytes) left xs) → (error ≡ ReadFault → read) → (error ≡ WriteFault → wrote)
      → (error ≡ ReadsSpent → IfSome left (λ rest. reads + length rest ≤ length bytes)) → length bytes < reads → (read → ⊥) → (wrote → ⊥) → ComesUnfailed (m.alone old) error
  pump_unfailed ReadFault says q r w s enough no_read no_write = no_read (r refl)
  pump_unfailed WriteFault says q r w s enough no_read no_write = no_write (w refl)
  pump_unfailed ReadsSpent says q r w s enough no_read no_write =
      unfailed m laws old new grown ReadsSpent says read wrote reads bytes left (left_told bytes (q tt).0 left (q tt).1) r w s enough no_read no_write
  pump_unfailed (DeskSpent n) says q r w s enough no_read no_write = at (m.alone old) (λ alone. never_alone m laws old new grown (DeskSpent n) says alone n refl)
    where
      at : (b : Bool) → (b ≡ true → ⊥) → b ≡ false
      at true never = absurd (never refl)
      at false never = refl
  pump_unfailed NoMemory says q r w s enough no_read no_write = tt
