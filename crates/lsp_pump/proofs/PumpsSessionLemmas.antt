-- What a session comes to, by what pumping it comes to.
use Rattle.std.proofs.Common.{◌≡◌, ◌∙◌, ℕ, ap, sym, subst, inr}
use Rattle.std.specs.Prelude.{◌⊎◌, Bool, Option, Some, None, Result, Ok, Err, IfOk, IfErr, IfSome, is_some}
use Rattle.lsp_desk.specs.Meaning.{Meaning, IsLawfulDesk, Grown}
use Rattle.lsp_frame.specs.Codec.{At, start_by}
use Rattle.lsp_session.specs.Semantics.{Semantics, IsLawfulHandlers}
use Rattle.lsp_session.specs.Run.{Order}
use Rattle.lsp_session.specs.Session.{SessionView}
use Rattle.lsp_server.specs.declared.server.Served.{Served}
use Rattle.lsp_server.specs.declared.server.Stopped.{Stopped}
use Rattle.lsp_server.specs.declared.step.ServeError.{ServeError}
use Rattle.lsp_server.specs.declared.step.ServeError.TheVariants.{ReadFault, WriteFault, NoMemory}
use Rattle.lsp_server.specs.Items.{stream_items}
use Rattle.lsp_server.specs.Course.{Course, Setting, codec_of, opening_view, picked, course, course_from}
use Rattle.lsp_server.specs.Errors.{IsBetweenReads, IsFlushedAt, IsInStep, SaysSpent, ComesUnfailed}
use Rattle.lsp_server.specs.Leaves.{StaysFlushed, WithinReads}
use Rattle.lsp_server.specs.Served.{ServedView, handed_back}
use Rattle.lsp_server.specs.ServedView.{show_served}
use Rattle.lsp_server.specs.ServesSession.{SourceSinkTold, bytes_told}
use Rattle.lsp_server.proofs.KnownLemmas.{if_some, if_told, some_at}
use Rattle.lsp_server.proofs.ErrorLemmas.{never_alone}
use Rattle.lsp_server.proofs.ServesSessionLemmas.{error_is}
use Rattle.lsp_pump.specs.Pumped.{PumpsOver, IsPumped, WrotePumped, PumpedPart, TellsPumpFaults}
use Rattle.lsp_pump.specs.PumpsSession.{PumpsSession}
use Rattle.lsp_pump.proofs.HandedBack.{is_pumped, pump_unfailed}

-- what pumping comes to, by the error that it answers, if any
pub record PumpComesTo {S D : Type 0} (course : Course S D) (told : SourceSinkTold) (reads : ℕ) (last : S) (desk : D) (exits : Bool) (error : Option ServeError) : Type 0 where
  pub pumps : IfSome told.left (λ bytes. PumpsOver course (start_by course.codec) (bytes_told told bytes) last desk error)
  pub grown : Grown course.meaning course.desk desk
  pub spent : IfSome error (λ e. SaysSpent course.meaning desk e)
  pub flushed : StaysFlushed told.taken told.flushed told.taken_after told.flushed_after error
  pub faults : TellsPumpFaults told.reads_failed told.reads_failed_after told.writes_failed told.writes_failed_after exits error
  pub within : WithinReads reads 4096 told.left told.left_after None None error

-- without an error it is also what a call comes to that then lacks memory to hand back what it should
module _ {S D : Type 0} (course : Course S D) (told : SourceSinkTold) (reads : ℕ) (last : S) (desk : D) (exits : Bool) (p : PumpComesTo course told reads last desk exits None) where
  pub pump_lacks_memory : PumpComesTo course told reads last desk exits (Some NoMemory)
  pump_lacks_memory = record {
    pumps = if_some told.left (λ bytes s. record { ok = tt; enough = tt; exact = λ between. absurd between; part = s.part }) p.pumps;
    grown = p.grown;
    spent = tt;
    flushed = record { flushed = tt; flushed_at = λ bad. absurd bad };
    faults = record {
      read = λ e. absurd (cc);
      write = λ e. absurd (cc);
      counts = p.faults.counts;
      read_told = λ rose. inr tt;
      at_end = λ rose. tt;
      write_told = λ rose. absurd (let bad : None ≡ Some WriteFault = p.faults.write_told rose in cc);
    };
    within = record { few = p.within.few; reads_spent = λ e. absurd (cc); few_reads = tt; all_reads = λ e. tt; fewer_at_fault = λ e. tt };
  }

module _ {H D C T P : Type 0} {semantics : Semantics H C T} (laws : IsLawfulHandlers semantics) (m : Meaning D) (desk_laws : IsLawfulDesk m) (order : Order P) (setting : Setting H D P)
    (told : SourceSinkTold) (reads : ℕ) (view : SessionView H D semantics.Call semantics.Task) (pick : P) where
  abbrev pub PumpComes : Option ServeError → Type 0
  PumpComes error = PumpComesTo (course semantics m order setting) told reads (picked view pick) view.desk (is_some view.state.exited) error

  pub session_pumped : PumpComes None → m.now view.desk ≡ view.state.desk → (served : Served H D) → show_served served ≡ handed_back view → PumpsSession (course semantics m order setting) told reads pick (Ok served)
  session_pumped p desk served is = record {
    headline = if_some told.left (λ bytes s. subst (λ v. IsPumped (course semantics m order setting) (bytes_told told bytes) v pick) (sym is)
        (is_pumped laws m order setting (bytes_told told bytes) view pick s.ok desk)) p.pumps;
    enough = if_some told.left (λ bytes s. s.enough) p.pumps;
    flushed = p.flushed.flushed;
    flushed_at = tt;
    read = tt;
    write = tt;
    reads_spent = tt;
    desk_spent = tt;
    never_alone = tt;
    counts = p.faults.counts;
    write_told = λ rose. absurd (let bad : None ≡ Some WriteFault = p.faults.write_told rose in cc);
    read_told = λ rose. tt;
    unread = λ rose. ap (λ (v : ServedView H D). is_some v.exited) is ∙ p.faults.at_end rose;
    few = p.within.few;
    complete = tt;
    exact = tt;
    part = tt;
    grown = subst (λ (v : ServedView H D). Grown m setting.desk v.desk) (sym is) p.grown;
    grown_stopped = tt;
  }

  -- where a session that has admitted nothing was pumped on
  pub comes_to : (start : SessionView H D semantics.Call semantics.Task) (codec : At) → start ≡ opening_view setting → codec ≡ start_by (codec_of setting) → (error : Option ServeError)
      → IfSome told.left (λ bytes. PumpsOver (course_from semantics m order setting.rounds codec.settings start setting.pick) codec (bytes_told told bytes) (picked view pick) view.desk error)
      → Grown m start.desk view.desk → IfSome error (λ e. SaysSpent m view.desk e) → StaysFlushed told.taken told.flushed told.taken_after told.flushed_after error
      → TellsPumpFaults told.reads_failed told.reads_failed_after told.writes_failed told.writes_failed_after (is_some view.state.exited) error → WithinReads reads 4096 told.left told.left_after None None error
      → PumpComes error
  comes_to start codec first fresh error pumps grown spent flushed faults within = record {
    pumps = subst (λ (v : SessionView H D semantics.Call semantics.Task). IfSome told.left (λ bytes. PumpsOver (course_from semantics m order setting.rounds (codec_of setting) v setting.pick) (start_by (codec_of setting)) (bytes_told told bytes) (picked view pick) view.desk error)) first
        (subst (λ k. IfSome told.left (λ bytes. PumpsOver (course_from semantics m order setting.rounds k.settings start setting.pick) k (bytes_told told bytes) (picked view pick) view.desk error)) fresh pumps);
    grown = subst (λ (v : SessionView H D semantics.Call semantics.Task). Grown m v.desk view.desk) first grown;
    spent = spent;
    flushed = flushed;
    faults = faults;
    within = within;
  }

  module _ (error : ServeError) (p : PumpComes (Some error)) (seen : m.now view.desk ≡ view.state.desk) (stopped : Stopped D) (is : stopped.error ≡ error) (desk : stopped.desk ≡ view.desk) where
    pub pump_stopped : PumpsSession (course semantics m order setting) told reads pick (Err stopped)
    pump_stopped =
        let spent : SaysSpent m view.desk stopped.error = subst (SaysSpent m view.desk) (sym is) p.spent in
        record {
          headline = tt;
          enough = tt;
          flushed = tt;
          flushed_at = λ at. p.flushed.flushed_at (subst IsFlushedAt is at);
          read = λ e. p.faults.read (sym is ∙ e);
          write = λ e. p.faults.write (sym is ∙ e);
          reads_spent = λ e. p.within.reads_spent (sym is ∙ e);
          desk_spent = subst (λ d. SaysSpent m d stopped.error) (sym desk) spent;
          never_alone = λ alone n e. never_alone m desk_laws setting.desk view.desk p.grown stopped.error spent alone n e;
          counts = p.faults.counts;
          write_told = λ rose. is ∙ error_is error WriteFault (p.faults.write_told rose);
          read_told = λ rose. subst (λ e. (e ≡ ReadFault) ⊎ IsInStep e) (sym is) (p.faults.read_told rose);
          unread = λ rose. tt;
          few = p.within.few;
          complete = if_told told.left _ (λ bytes told_is enough no_read no_write. subst (ComesUnfailed (m.alone setting.desk)) (sym is) (
              let exact = (some_at told.left _ bytes told_is p.pumps).exact in
              pump_unfailed m desk_laws setting.desk view.desk p.grown _ _ reads bytes told.left_after error p.spent (λ between. let t = exact between in (t.read, t.gives))
              p.faults.read p.faults.write (λ e. some_at told.left _ bytes told_is (p.within.reads_spent e)) enough no_read no_write));
          exact = λ between. if_some told.left (λ bytes s. subst (λ d. WrotePumped (course semantics m order setting) (bytes_told told bytes) d pick) (sym desk)
              (record { session = view.state; told = s.exact (subst IsBetweenReads is between); desk_is = seen })) p.pumps;
          part = if_some told.left (λ bytes s. subst (PumpedPart (course semantics m order setting) (stream_items (codec_of setting) bytes) (bytes_told told bytes)) (sym desk) s.part) p.pumps;
          grown = tt;
          grown_stopped = subst (Grown m setting.desk) (sym desk) p.grown;
        }

  -- at the end of a session, where there may be no memory to hand it back
  pub pump_ended : PumpComes None → m.now view.desk ≡ view.state.desk → (result : Result (Served H D) (Stopped D))
      → IfOk result (λ served. show_served served ≡ handed_back view) → IfErr result (λ stopped. (stopped.error ≡ NoMemory) × (stopped.desk ≡ view.desk))
      → PumpsSession (course semantics m order setting) told reads pick result
  pump_ended p desk (Ok served) handed is = session_pumped p desk served handed
  pump_ended p desk (Err stopped) handed is = pump_stopped NoMemory (pump_lacks_memory (course semantics m order setting) told reads (picked view pick) view.desk _ p) desk stopped is.0 is.1
