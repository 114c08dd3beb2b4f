-- What a session comes to, by what the loop over its reads comes to.
use Rattle.std.proofs.Common.{◌≡◌, ◌∙◌, ◌++◌, ℕ, sym, subst}
use Rattle.std.specs.Prelude.{Option, Some, None, Result, Ok, Err, IfOk, IfErr, IfSome}
use Rattle.lsp_desk.specs.Meaning.{Meaning, IsLawfulDesk, Grown}
use Rattle.lsp_session.specs.Semantics.{Semantics, IsLawfulHandlers}
use Rattle.lsp_session.specs.Run.{Order}
use Rattle.lsp_session.specs.Session.{SessionView}
use Rattle.lsp_server.specs.declared.server.Served.{Served}
use Rattle.lsp_server.specs.declared.server.Stopped.{Stopped}
use Rattle.lsp_server.specs.declared.step.ServeError.{ServeError}
use Rattle.lsp_server.specs.declared.step.ServeError.TheVariants.{WriteFault, ReadFault, NoMemory}
use Rattle.lsp_server.specs.Course.{Course, Setting, picked, course}
use Rattle.lsp_server.specs.Errors.{IsBetweenReads, IsFlushedAt, SaysSpent, ComesUnfailed}
use Rattle.lsp_server.specs.Leaves.{StaysFlushed, TellsFaults, WithinReads}
use Rattle.lsp_server.specs.Reads.{moment}
use Rattle.lsp_server.specs.Served.{ServedView, ServesOver, IsServed, WrotePicked, WrotePart, handed_back}
use Rattle.lsp_server.specs.ServedView.{show_served}
use Rattle.lsp_server.specs.ServesSession.{SourceSinkTold, bytes_told, ServesSession}
use Rattle.lsp_server.proofs.KnownLemmas.{if_some, if_told, some_at, left_told}
use Rattle.lsp_server.proofs.ErrorLemmas.{never_alone, unfailed}
use Rattle.lsp_server.proofs.HandedLemmas.{is_served}

-- what the loop over the reads comes to, by the error that it answers, if any
pub record LoopComesTo {S D : Type 0} (course : Course S D) (told : SourceSinkTold) (reads : ℕ) (last : S) (desk : D) (error : Option ServeError) : Type 0 where
  pub serves : IfSome told.left (λ bytes. ServesOver course bytes (moment told.left told.taken told.flushed) (moment told.left_after told.taken_after told.flushed_after) None None 4096 last desk error)
  pub grown : Grown course.meaning course.desk desk
  pub spent : IfSome error (λ e. SaysSpent course.meaning desk e)
  pub flushed : StaysFlushed told.taken told.flushed told.taken_after told.flushed_after error
  pub faults : TellsFaults told.reads_failed told.reads_failed_after told.writes_failed told.writes_failed_after error
  pub within : WithinReads reads 4096 told.left told.left_after None None error

-- without an error it is also what a call comes to that then lacks memory to hand back what it should
module _ {S D : Type 0} (course : Course S D) (told : SourceSinkTold) (reads : ℕ) (last : S) (desk : D) (p : LoopComesTo course told reads last desk None) where
  pub lacks_memory : LoopComesTo course told reads last desk (Some NoMemory)
  lacks_memory = record {
    serves = if_some told.left (λ bytes s. record { ok = tt; enough = tt; exact = λ between. absurd between; part = s.part; in_order = s.in_order }) p.serves;
    grown = p.grown;
    spent = tt;
    flushed = record { flushed = tt; flushed_at = λ bad. absurd bad };
    faults = record {
      read = λ e. absurd (cc);
      write = λ e. absurd (cc);
      counts = p.faults.counts;
      read_told = λ rose. absurd (let bad : None ≡ Some ReadFault = p.faults.read_told rose in cc);
      write_told = λ rose. absurd (let bad : None ≡ Some WriteFault = p.faults.write_told rose in cc);
    };
    within = record { few = p.within.few; reads_spent = λ e. absurd (cc); few_reads = tt; all_reads = λ e. tt; fewer_at_fault = λ e. tt };
  }

pub error_is : (a b : ServeError) → Some a ≡ Some b → a ≡ b
error_is a b e = cc

module _ {H D C T P : Type 0} {semantics : Semantics H C T} (laws : IsLawfulHandlers semantics) (m : Meaning D) (desk_laws : IsLawfulDesk m) (order : Order P) (setting : Setting H D P)
    (told : SourceSinkTold) (reads : ℕ) (view : SessionView H D semantics.Call semantics.Task) (pick : P) where
  abbrev pub Comes : Option ServeError → Type 0
  Comes error = LoopComesTo (course semantics m order setting) told reads (picked view pick) view.desk error

  pub session_served : Comes None → m.now view.desk ≡ view.state.desk → (served : Served H D) → show_served served ≡ handed_back view → ServesSession (course semantics m order setting) told reads pick (Ok served)
  session_served p desk served is = record {
    headline = if_some told.left (λ bytes s. subst (λ v. IsServed (course semantics m order setting) (bytes_told told bytes) v pick) (sym is)
        (is_served laws m order setting (bytes_told told bytes) view pick s.ok desk)) p.serves;
    enough = if_some told.left (λ bytes s. s.enough) p.serves;
    flushed = p.flushed.flushed;
    flushed_at = tt;
    read = tt;
    write = tt;
    reads_spent = tt;
    desk_spent = tt;
    never_alone = tt;
    counts = p.faults.counts;
    read_told = λ rose. absurd (let bad : None ≡ Some ReadFault = p.faults.read_told rose in cc);
    write_told = λ rose. absurd (let bad : None ≡ Some WriteFault = p.faults.write_told rose in cc);
    few = p.within.few;
    complete = tt;
    exact = tt;
    part = tt;
    grown = subst (λ (v : ServedView H D). Grown m setting.desk v.desk) (sym is) p.grown;
    grown_stopped = tt;
  }

  module _ (error : ServeError) (p : Comes (Some error)) (seen : m.now view.desk ≡ view.state.desk) (stopped : Stopped D) (is : stopped.error ≡ error) (desk : stopped.desk ≡ view.desk) where
    pub session_stopped : ServesSession (course semantics m order setting) told reads pick (Err stopped)
    session_stopped =
        let spent : SaysSpent m view.desk stopped.error = subst (SaysSpent m view.desk) (sym is) p.spent in
        record {
          headline = tt;
          enough = tt;
          flushed = tt;
          flushed_at = λ at. p.flushed.flushed_at (subst IsFlushedAt is at);
          read = λ e. p.faults.read (sym is ∙ e);
          write = λ e. p.faults.write (sym is ∙ e);
          reads_spent = λ e. p.within.reads_spent (sym is ∙ e);
          desk_spent = subst (λ d. SaysSpent m d stopped.error) (sym desk) spent;
          never_alone = λ alone n e. never_alone m desk_laws setting.desk view.desk p.grown stopped.error spent alone n e;
          counts = p.faults.counts;
          read_told = λ rose. is ∙ error_is error ReadFault (p.faults.read_told rose);
          write_told = λ rose. is ∙ error_is error WriteFault (p.faults.write_told rose);
          few = p.within.few;
          complete = if_told told.left _ (λ bytes told_is enough no_read no_write. subst (ComesUnfailed (m.alone setting.desk)) (sym is) (
              let part = (some_at told.left _ bytes told_is p.serves).part in
              unfailed m desk_laws setting.desk view.desk p.grown error p.spent _ _ reads bytes told.left_after (left_told bytes (part.early ++ part.piece) told.left_after part.gives)
              p.faults.read p.faults.write (λ e. some_at told.left _ bytes told_is (p.within.reads_spent e)) enough no_read no_write));
          exact = λ between. if_some told.left (λ bytes s. subst (λ d. WrotePicked (course semantics m order setting) (bytes_told told bytes) d pick) (sym desk)
              (record { session = view.state; told = s.exact (subst IsBetweenReads is between); desk_is = seen })) p.serves;
          part = if_some told.left (λ bytes s. subst (WrotePart (course semantics m order setting) (bytes_told told bytes) 4096) (sym desk) s.part) p.serves;
          grown = tt;
          grown_stopped = subst (Grown m setting.desk) (sym desk) p.grown;
        }

  -- at the end of a session, where there may be no memory to hand it back
  pub session_ended : Comes None → m.now view.desk ≡ view.state.desk → (result : Result (Served H D) (Stopped D))
      → IfOk result (λ served. show_served served ≡ handed_back view) → IfErr result (λ stopped. (stopped.error ≡ NoMemory) × (stopped.desk ≡ view.desk))
      → ServesSession (course semantics m order setting) told reads pick result
  session_ended p desk (Ok served) handed is = session_served p desk served handed
  session_ended p desk (Err stopped) handed is = session_stopped NoMemory (lacks_memory (course semantics m order setting) told reads (picked view pick) view.desk p) desk stopped is.0 is.1
