-- What `pump` comes to.
use Rattle.std.specs.Prelude.{◌≡◌, ◌≤◌, ◌<◌, ◌⊎◌, Bool, true, false, ℕ, List, [], Option, Some, IfSome, IfNone}
use Rattle.std.specs.Io.KnownBytes.{Consumes}
use Rattle.lsp_frame.specs.Codec.{At, start_by}
use Rattle.lsp_session.specs.Run.{Picked, has_exit}
use Rattle.lsp_session.specs.Count.{Counts}
use Rattle.lsp_session.specs.State.{State, live}
use Rattle.lsp_session.specs.Item.{ItemData}
use Rattle.lsp_server.specs.declared.step.ServeError.{ServeError}
use Rattle.lsp_server.specs.declared.step.ServeError.TheVariants.{ReadFault, WriteFault}
use Rattle.lsp_server.specs.Errors.{IsBetweenReads, IsInStep}
use Rattle.lsp_server.specs.Items.{stream_items}
use Rattle.lsp_server.specs.SourceSink.{CountRose}
use Rattle.lsp_server.specs.Course.{Course}
use Rattle.lsp_server.specs.Written.{RanPart}
use Rattle.lsp_server.specs.Served.{CallBytes, RanFrom, ServedView}
use Rattle.lsp_server.specs.ServesOn.{coming, coming_told}
use Rattle.lsp_pump.specs.Spaced.{IsSpaced, EndsInTick, through_exit}

-- a list of items with ticks between them, as the session makes their steps: these through the first exit, and
-- a tick at the end where no exit is among them
pub record IsPumpedList {S D : Type 0} (course : Course S D) (items list : List ItemData) : Type 0 where
  pub spaced : IsSpaced list (through_exit course.find items)
  pub ends : has_exit course.find items ≡ false → EndsInTick list

-- the steps of the items that come were made, with ticks between them, and their frames were written
pub record RanPumped {S D : Type 0} (course : Course S D) (items : List ItemData) (call : CallBytes) (last : S) (desk : D) : Type 0 where
  pub list : List ItemData
  pub is : IsPumpedList course items list
  pub ran : RanFrom course call list last desk

-- the bytes were read to their end, or an exit is told in those that were read
pub record PumpedEnough {S D : Type 0} (course : Course S D) (codec : At) (call : CallBytes) : Type 0 where
  pub read : List ℕ
  pub gives : Consumes (Some call.bytes) call.left read
  pub enough : (call.left ≡ Some []) ⊎ (has_exit course.find (coming_told codec read) ≡ true)

-- what was written is the frames of a run, with ticks between, over the items told by the bytes read, and no exit is
-- among them
pub record PumpedTold {S D : Type 0} (course : Course S D) (codec : At) (call : CallBytes) (last : S) (desk : D) : Type 0 where
  pub read : List ℕ
  pub gives : Consumes (Some call.bytes) call.left read
  pub none : has_exit course.find (coming_told codec read) ≡ false
  pub list : List ItemData
  pub spaced : IsSpaced list (coming_told codec read)
  pub ran : RanFrom course call list last desk

-- what was written begins the frames of a run over a list of the items that come, with ticks between them
pub record PumpedPart {S D : Type 0} (course : Course S D) (items : List ItemData) (call : CallBytes) (desk : D) : Type 0 where
  pub list : List ItemData
  pub spaced : IsSpaced list (through_exit course.find items)
  pub part : RanPart course.step course.meaning (record { state = course.start; desk = course.desk; taken = call.taken }) list desk call.taken_after

-- what a call comes to that pumps on from a codec, by the error that it answers, if any
pub record PumpsOver {S D : Type 0} (course : Course S D) (codec : At) (call : CallBytes) (last : S) (desk : D) (error : Option ServeError) : Type 0 where
  pub ok : IfNone error (RanPumped course (coming codec call.bytes) call last desk)
  pub enough : IfNone error (PumpedEnough course codec call)
  pub exact : IfSome error (λ e. IsBetweenReads e → PumpedTold course codec call last desk)
  pub part : PumpedPart course (coming codec call.bytes) call desk

-- what `pump` hands back at the end of a session, and what was written, are those of a run over all these items, with
-- ticks between them
pub record IsPumped {H D C T P : Type 0} (course : Course (Picked (State H C T) P) D) (call : CallBytes) (served_view : ServedView H D) (pick : P) : Type 0 where
  pub list : List ItemData
  pub is : IsPumpedList course (stream_items course.codec call.bytes) list
  pub last : Picked (State H C T) P
  pub ran : RanFrom course call list last served_view.desk
  pub service_is : served_view.service ≡ last.session.service
  pub desk_is : course.meaning.now served_view.desk ≡ last.session.desk
  pub exited_is : served_view.exited ≡ last.session.exited
  pub unanswered_is : served_view.unanswered ≡ live last.session
  pub pick_is : pick ≡ last.pick
  -- each owed request and each fault is answered once, but for what is listed
  pub counts : Counts course.find list ran.effect.out served_view.unanswered

-- between two reads what was written is exact, of the session that leaves this desk and left its pick in this state
pub record WrotePumped {H D C T P : Type 0} (course : Course (Picked (State H C T) P) D) (call : CallBytes) (desk : D) (pick : P) : Type 0 where
  pub session : State H C T
  pub told : PumpedTold course (start_by course.codec) call (record { session = session; pick = pick }) desk
  pub desk_is : course.meaning.now desk ≡ session.desk

-- ---- faults

-- each failure of a write is told, and has its cause. One of a read is told unless the session has ended by then: at an exit, or
-- by an error of a step
pub record TellsPumpFaults (reads reads_after writes writes_after : ℕ) (exits : Bool) (error : Option ServeError) : Type 0 where
  pub read : IfSome error (λ e. e ≡ ReadFault → CountRose reads reads_after)
  pub write : IfSome error (λ e. e ≡ WriteFault → CountRose writes writes_after)
  pub counts : (reads ≤ reads_after) × (writes ≤ writes_after)
  pub read_told : reads < reads_after → IfSome error (λ e. (e ≡ ReadFault) ⊎ IsInStep e)
  pub at_end : reads < reads_after → IfNone error (exits ≡ true)
  pub write_told : writes < writes_after → error ≡ Some WriteFault
