-- What a server writes of a source's bytes.
use Rattle.std.specs.Prelude.{◌≡◌, ◌≤◌, ◌⊎◌, ◌++◌, Bool, true, false, ℕ, List, [], ◌∷◌, length, Option, Some, IfSome, IfNone}
use Rattle.std.specs.Io.KnownBytes.{Consumes, Appends}
use Rattle.lsp_rpc.specs.Message.{IdData}
use Rattle.lsp_desk.specs.declared.life.Life.{Life}
use Rattle.lsp_desk.specs.Meaning.{Meaning, Grows}
use Rattle.lsp_frame.specs.Codec.{Item, At, frames, told_at}
use Rattle.lsp_session.specs.declared.table.Entry.{Entry}
use Rattle.lsp_session.specs.Item.{ItemData}
use Rattle.lsp_session.specs.State.{State, Effect, live}
use Rattle.lsp_session.specs.Run.{Picked, Run, served, has_exit, is_exit}
use Rattle.lsp_session.specs.Count.{Counts}
use Rattle.lsp_session.specs.Session.{SessionView}
use Rattle.lsp_server.specs.SourceSink.{IsFlushed}
use Rattle.lsp_server.specs.Reads.{Moment, Made, InOrder}
use Rattle.lsp_server.specs.declared.step.ServeError.{ServeError}
use Rattle.lsp_server.specs.Errors.{IsBetweenReads}
use Rattle.lsp_server.specs.Items.{all_admitted, stream_items, stream_told, Decodes}
use Rattle.lsp_server.specs.Course.{Course}
use Rattle.lsp_server.specs.Written.{Place, Ran, IsPartOf}

-- ---- what a codec tells

-- these items end with their first exit
pub record Closes (find : List ℕ → Option Entry) (given : List ItemData) : Type 0 where
  pub front : List ItemData
  pub exit : ItemData
  pub split : given ≡ front ++ exit ∷ []
  pub none : has_exit find front ≡ false
  pub is : is_exit find exit ≡ true

-- all that is told was given and no exit is among it, or an exit was given last
abbrev pub Ends : Bool → (List ℕ → Option Entry) → List ItemData → At → Type 0
Ends true find given codec = Closes find given
Ends false find given codec = (has_exit find given ≡ false) × (told_at codec ≡ [])

-- the items that a codec tells were served, through the first exit
pub record ServedTold {S D : Type 0} (step : S → ItemData → Effect → S → Type 0) (m : Meaning D) (find : List ℕ → Option Entry) (old : Place S D) (old_codec : At) (exits : Bool) (new : Place S D) (new_codec : At) : Type 0 where
  pub given : List Item
  pub decodes : Decodes old_codec given new_codec
  pub ran : Ran step m old (all_admitted given) new
  pub ends : Ends exits find (all_admitted given) new_codec

-- ---- the bytes of a call

pub record CallBytes : Type 0 where
  -- all bytes of the source, and those of them that the call left
  pub bytes : List ℕ
  pub left : Option (List ℕ)
  -- what the sink had taken before the call, and after it
  pub taken : Option (List ℕ)
  pub taken_after : Option (List ℕ)

abbrev pub call_bytes : List ℕ → Option (List ℕ) → Option (List ℕ) → Option (List ℕ) → CallBytes
call_bytes bytes left taken taken_after = record { bytes = bytes; left = left; taken = taken; taken_after = taken_after }

-- the steps of these items were made from the start on, and their frames are what the sink took in the call
abbrev pub RanFrom : {S D : Type 0} → Course S D → CallBytes → List ItemData → S → D → Type 0
RanFrom course call items last desk =
    Ran course.step course.meaning (record { state = course.start; desk = course.desk; taken = call.taken }) items (record { state = last; desk = desk; taken = call.taken_after })

-- ---- what a server answers

-- what `serve` hands back at the end of a session
pub record ServedView (H D : Type 0) : Type 0 where
  pub service : H
  pub desk : D
  pub exited : Option Life
  pub unanswered : List IdData

-- what is handed back of a session
abbrev pub handed_back : {H D C T : Type 0} → SessionView H D C T → ServedView H D
handed_back view = record { service = view.state.service; desk = view.desk; exited = view.state.exited; unanswered = live view.state }

-- what is written, and what is handed back, are those of a run over all these bytes
pub record IsServed {H D C T P : Type 0} (course : Course (Picked (State H C T) P) D) (call : CallBytes) (served_view : ServedView H D) (pick : P) : Type 0 where
  pub last : Picked (State H C T) P
  pub ran : RanFrom course call (served course.find (stream_items course.codec call.bytes)) last served_view.desk
  pub service_is : served_view.service ≡ last.session.service
  pub desk_is : course.meaning.now served_view.desk ≡ last.session.desk
  pub exited_is : served_view.exited ≡ last.session.exited
  pub unanswered_is : served_view.unanswered ≡ live last.session
  pub pick_is : pick ≡ last.pick
  -- each owed request and each fault is answered once, but for what is listed
  pub counts : Counts course.find (served course.find (stream_items course.codec call.bytes)) ran.effect.out served_view.unanswered

-- the bytes were read to their end, or an exit is told in those that were read, and it is the last piece, of at
-- most so many bytes, that tells it: nothing was read after that piece
pub record ReadEnough {S D : Type 0} (course : Course S D) (call : CallBytes) (size : ℕ) : Type 0 where
  pub early : List ℕ
  pub piece : List ℕ
  pub gives : Consumes (Some call.bytes) call.left (early ++ piece)
  pub short : length piece ≤ size
  pub none : has_exit course.find (stream_told course.codec early) ≡ false
  pub enough : (call.left ≡ Some []) ⊎ (has_exit course.find (stream_told course.codec (early ++ piece)) ≡ true)

-- what is written is the frames of a run to this state over the items told by the bytes read, and no exit is among
-- them; the desk grew by that run's trace
pub record RanTold {S D : Type 0} (course : Course S D) (call : CallBytes) (last : S) (desk : D) : Type 0 where
  pub read : List ℕ
  pub gives : Consumes (Some call.bytes) call.left read
  pub none : has_exit course.find (stream_told course.codec read) ≡ false
  pub ran : RanFrom course call (stream_told course.codec read) last desk

-- the same, to some state
pub record WroteTold {S D : Type 0} (course : Course S D) (call : CallBytes) (desk : D) : Type 0 where
  pub last : S
  pub told : RanTold course call last desk

-- the same, to the session that leaves this desk and left its pick in this state
pub record WrotePicked {H D C T P : Type 0} (course : Course (Picked (State H C T) P) D) (call : CallBytes) (desk : D) (pick : P) : Type 0 where
  pub session : State H C T
  pub told : RanTold course call (record { session = session; pick = pick }) desk
  pub desk_is : course.meaning.now desk ≡ session.desk

-- as a read was made, what was written was the frames of a run over the items told by the bytes read until then, no
-- exit was among them, and all of it was flushed, if all was at the start
pub record AllAnswered {S D : Type 0} (course : Course S D) (bytes : List ℕ) (start : Moment) (m : Moment) : Type 0 where
  pub desk : D
  pub wrote : WroteTold course (call_bytes bytes m.left start.taken m.taken) desk
  pub flushed : IsFlushed start.taken start.flushed → IsFlushed m.taken m.flushed

-- what is written begins the frames of a run over some first ones of the items of all these bytes, and holds them whole for all
-- that are told by the bytes read but for a last piece of at most so many bytes; the desk has grown by what that run
-- asked so far, and maybe further
pub record WrotePart {S D : Type 0} (course : Course S D) (call : CallBytes) (size : ℕ) (desk : D) : Type 0 where
  pub early : List ℕ
  pub piece : List ℕ
  pub gives : Consumes (Some call.bytes) call.left (early ++ piece)
  pub short : length piece ≤ size
  pub first : Effect
  pub mid : S
  pub run : Run course.step course.start (stream_told course.codec early) first mid
  pub middle : D
  pub grows : Grows course.meaning course.desk first.trace middle
  pub later : List ItemData
  pub split : stream_told course.codec early ++ later ≡ served course.find (stream_items course.codec call.bytes)
  pub written : List ℕ
  pub part : IsPartOf course.step course.meaning mid middle later written desk
  pub writes : Appends call.taken call.taken_after (frames first.out ++ written)

-- what a call that serves over reads comes to, from one moment to another, by the error that it answers, if any
pub record ServesOver {S D : Type 0} (course : Course S D) (bytes : List ℕ) (start now : Moment) (reads reads_after : Option (List Moment)) (size : ℕ) (last : S) (desk : D) (error : Option ServeError) : Type 0 where
  -- the steps of the items of all the bytes were made, through the first exit or with a tick at the end, and their frames were written
  pub ok : IfNone error (RanFrom course (call_bytes bytes now.left start.taken now.taken) (served course.find (stream_items course.codec bytes)) last desk)
  -- it ends only at the end of input or at an exit, and nothing is read after the piece that tells the exit
  pub enough : IfNone error (ReadEnough course (call_bytes bytes now.left start.taken now.taken) size)
  -- between two reads the items told were served
  pub exact : IfSome error (λ e. IsBetweenReads e → RanTold course (call_bytes bytes now.left start.taken now.taken) last desk)
  pub part : WrotePart course (call_bytes bytes now.left start.taken now.taken) size desk
  -- before each read all that was told is answered, and nothing is read after the end of input
  pub in_order : Made reads reads_after (InOrder (AllAnswered course bytes start))
