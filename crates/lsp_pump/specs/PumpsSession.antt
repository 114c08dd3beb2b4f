-- What a session comes to that is served while a thread of its own reads.
use Rattle.std.specs.Prelude.{◌≡◌, ◌≢◌, ◌≤◌, ◌<◌, ◌+◌, ◌*◌, ◌⊎◌, ℕ, true, length, is_some, Result, IfSome, OnOk, IfOk, IfErr, IsErrAnd}
use Rattle.lsp_desk.specs.Meaning.{Grown}
use Rattle.lsp_frame.specs.Codec.{start_by}
use Rattle.lsp_session.specs.State.{State}
use Rattle.lsp_session.specs.Run.{Picked}
use Rattle.lsp_server.specs.declared.server.Served.{Served}
use Rattle.lsp_server.specs.declared.server.Stopped.{Stopped}
use Rattle.lsp_server.specs.declared.step.ServeError.TheVariants.{ReadFault, WriteFault, ReadsSpent, DeskSpent}
use Rattle.lsp_server.specs.SourceSink.{CountRose}
use Rattle.lsp_server.specs.Items.{stream_items}
use Rattle.lsp_server.specs.Course.{Course}
use Rattle.lsp_server.specs.ServedView.{show_served}
use Rattle.lsp_server.specs.Errors.{IsBetweenReads, IsFlushedAt, IsInStep, ComesUnfailed, SaysSpent}
use Rattle.lsp_server.specs.ServesSession.{SourceSinkTold, bytes_told, KeepsFlushed}
use Rattle.lsp_pump.specs.Pumped.{IsPumped, PumpedEnough, WrotePumped, PumpedPart}

module _ {H D C T P : Type 0} (course : Course (Picked (State H C T) P) D) where
  -- the session was pumped to this result with at most so many reads, and left the pick in this state
  pub record PumpsSession (told : SourceSinkTold) (reads : ℕ) (pick : P) (result : Result (Served H D) (Stopped D)) : Type 0 where
    -- the bytes written, and the service and desk handed back, are those of a session run over the items that the frame
    -- grammar finds in all the source's bytes, with ticks between them
    pub headline : IfOk result (λ served. IfSome told.left (λ bytes. IsPumped course (bytes_told told bytes) (show_served served) pick))
    -- Ok comes only at the end of input or at an exit
    pub enough : OnOk result (IfSome told.left (λ bytes. PumpedEnough course (start_by course.codec) (bytes_told told bytes)))
    -- the bytes taken are flushed, if they were at the start, also at an error that isn't of the sink or of memory
    pub flushed : OnOk result (KeepsFlushed told)
    pub flushed_at : IfErr result (λ stopped. IsFlushedAt stopped.error → KeepsFlushed told)
    -- each error has its cause
    pub read : IfErr result (λ stopped. stopped.error ≡ ReadFault → CountRose told.reads_failed told.reads_failed_after)
    pub write : IfErr result (λ stopped. stopped.error ≡ WriteFault → CountRose told.writes_failed told.writes_failed_after)
    pub reads_spent : IfErr result (λ stopped. stopped.error ≡ ReadsSpent → IfSome told.left (λ bytes. IfSome told.left_after (λ rest. reads + length rest ≤ length bytes)))
    pub desk_spent : IfErr result (λ stopped. SaysSpent course.meaning stopped.desk stopped.error)
    pub never_alone : IfErr result (λ stopped. course.meaning.alone course.desk ≡ true → (n : ℕ) → stopped.error ≢ DeskSpent n)
    -- a failed write is told; a failed read is told, unless the session has ended by then
    pub counts : (told.reads_failed ≤ told.reads_failed_after) × (told.writes_failed ≤ told.writes_failed_after)
    pub write_told : told.writes_failed < told.writes_failed_after → IsErrAnd result (λ stopped. stopped.error ≡ WriteFault)
    pub read_told : told.reads_failed < told.reads_failed_after → IfErr result (λ stopped. (stopped.error ≡ ReadFault) ⊎ IsInStep stopped.error)
    pub unread : told.reads_failed < told.reads_failed_after → IfOk result (λ served. is_some served.exited ≡ true)
    -- each of at most `reads` reads takes at most 4,096 bytes
    pub few : IfSome told.left (λ bytes. IfSome told.left_after (λ rest. length bytes ≤ length rest + reads * 4096))
    -- so with no failure, and with more reads than bytes, only NoMemory may come, and DeskSpent over a desk that others use
    pub complete : IfErr result (λ stopped. IfSome told.left (λ bytes. length bytes < reads → ¬ CountRose told.reads_failed told.reads_failed_after
        → ¬ CountRose told.writes_failed told.writes_failed_after → ComesUnfailed (course.meaning.alone course.desk) stopped.error))
    -- what was written by then; where the error is between reads, by the session that left the pick in this state
    pub exact : IfErr result (λ stopped. IsBetweenReads stopped.error → IfSome told.left (λ bytes. WrotePumped course (bytes_told told bytes) stopped.desk pick))
    pub part : IfErr result (λ stopped. IfSome told.left (λ bytes. PumpedPart course (stream_items course.codec bytes) (bytes_told told bytes) stopped.desk))
    -- at each answer the desk that is handed back has grown from the one that was handed in
    pub grown : IfOk result (λ served. Grown course.meaning course.desk served.desk)
    pub grown_stopped : IfErr result (λ stopped. Grown course.meaning course.desk stopped.desk)
