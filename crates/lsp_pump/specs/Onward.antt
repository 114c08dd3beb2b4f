-- What is served on after all that a reading gave, and what pumping comes to.
use Rattle.std.specs.Prelude.{◌≡◌, ℕ, Bool, List, [], Option, Some, None, Result, IfSome, IfNone}
use Rattle.lsp_desk.specs.Meaning.{Grown}
use Rattle.lsp_frame.specs.declared.settings.CodecSettings.{CodecSettings}
use Rattle.lsp_frame.specs.Codec.{At}
use Rattle.lsp_session.specs.Item.{ItemData}
use Rattle.lsp_server.specs.declared.step.ServeError.{ServeError}
use Rattle.lsp_server.specs.declared.step.ServeError.TheVariants.{ReadFault, NoMemory as OutOfMemory}
use Rattle.lsp_server.specs.Course.{Course}
use Rattle.lsp_server.specs.Errors.{SaysSpent}
use Rattle.lsp_server.specs.Leaves.{StaysFlushed, TellsFaults, WithinReads}
use Rattle.lsp_server.specs.Served.{CallBytes, call_bytes}
use Rattle.lsp_server.specs.ServesOn.{ServesOn}
use Rattle.lsp_pump.specs.declared.job.Ended.{Ended}
use Rattle.lsp_pump.specs.declared.job.Ended.TheVariants.{Open, End, Failed, NoMemory}
use Rattle.lsp_pump.specs.declared.job.Reading.{Reading}
use Rattle.lsp_pump.specs.Pumped.{PumpsOver, TellsPumpFaults}
use Rattle.lsp_pump.specs.Reading.{IsReadingOf}
use Rattle.lsp_pump.specs.Steps.{Way, MakesSteps}

module _ {X S D B : Type 0} (way : Way X S D B) (rounds : ℕ) where
  -- the course of a session from where it stands
  abbrev pub course_at : CodecSettings → X → Course S D
  course_at settings x = record {
    step = way.step rounds;
    meaning = way.meaning;
    find = way.table (way.place x).state;
    codec = settings;
    start = (way.place x).state;
    desk = (way.place x).desk;
  }

  abbrev pub call_bytes_from : List ℕ → Option (List ℕ) → X → X → CallBytes
  call_bytes_from bytes left old new = call_bytes bytes left (way.place old).taken (way.place new).taken

  -- what a call comes to that serves these bytes on from a codec
  abbrev pub ServesAt : At → List ℕ → Option (List ℕ) → X → Option ServeError → X → Type 0
  ServesAt codec bytes left old error new = ServesOn (course_at codec.settings old) codec (call_bytes_from bytes left old new) (way.place new).state (way.place new).desk error

module _ {X S D B : Type 0} (way : Way X S D B) (rounds reads : ℕ) (codec : At) (left left_after : Option (List ℕ)) (failed failed_after : ℕ) (old : X) (error : Option ServeError) (new : X) where
  -- a call served on from a source and a codec
  pub record ServedFrom : Type 0 where
    pub serves : IfSome left (λ bytes. ServesAt way rounds codec bytes left_after old error new)
    pub ready : IfNone error (way.is_ready new)
    pub grown : Grown way.meaning (way.place old).desk (way.place new).desk
    pub spent : IfSome error (SaysSpent way.meaning (way.place new).desk)
    pub flushed : StaysFlushed (way.place old).taken (way.flushed old) (way.place new).taken (way.flushed new) error
    pub faults : TellsFaults failed failed_after (way.faults old) (way.faults new) error
    pub within : WithinReads reads 4096 left left_after None None error
    pub beside : way.beside new ≡ way.beside old

  -- nothing was served, for this error
  pub record Stays (cause : ServeError) : Type 0 where
    pub told : error ≡ Some cause
    pub left_is : left_after ≡ left
    pub faults_is : failed_after ≡ failed
    pub is : new ≡ old

  -- what a call comes to that pumps on from a codec
  pub record PumpsOn : Type 0 where
    pub pumps : IfSome left (λ bytes. PumpsOver (course_at way rounds codec.settings old) codec (call_bytes_from way rounds bytes left_after old new) (way.place new).state (way.place new).desk error)
    pub ready : IfNone error (way.is_ready new)
    pub grown : Grown way.meaning (way.place old).desk (way.place new).desk
    pub spent : IfSome error (SaysSpent way.meaning (way.place new).desk)
    pub flushed : StaysFlushed (way.place old).taken (way.flushed old) (way.place new).taken (way.flushed new) error
    pub faults : TellsPumpFaults failed failed_after (way.faults old) (way.faults new) (way.has_exited new) error
    pub within : WithinReads reads 4096 left left_after None None error
    pub beside : way.beside new ≡ way.beside old

module _ {X S D B : Type 0} (way : Way X S D B) (rounds : ℕ) where
  -- what was served after all that a reading gave, by how it ended
  abbrev pub Finishes : Ended → ℕ → (codec : At) (left left_after : Option (List ℕ)) (faults faults_after : ℕ) (old : X) (error : Option ServeError) (new : X) → Type 0
  Finishes Open reads codec left left_after faults faults_after old error new = ServedFrom way rounds reads codec left left_after faults faults_after old error new
  Finishes End reads codec left left_after faults faults_after old error new = ServedFrom way rounds 1 codec (Some []) (Some []) 0 0 old error new × (left_after ≡ left) × (faults_after ≡ faults)
  Finishes Failed reads codec left left_after faults faults_after old error new = Stays way rounds reads codec left left_after faults faults_after old error new ReadFault
  Finishes NoMemory reads codec left left_after faults faults_after old error new = Stays way rounds reads codec left left_after faults faults_after old error new OutOfMemory

module _ {X S D B I : Type 0} (way : Way X S D B) (rounds : ℕ) (left_of : I → Option (List ℕ)) (faults_of : I → ℕ) (reads : ℕ) (reading : Reading I) (received : List ItemData) (served : Result Bool ServeError) where
  -- what a call comes to that serves after the steps of what was received, wherever these and the reading began
  abbrev pub PumpsAfter : (old : X) (error : Option ServeError) (source : I) (new : X) → Type 0
  PumpsAfter old error source new =
      (start : Reading I) (first : X) → IsReadingOf left_of faults_of start reads reading reading.ended → MakesSteps way rounds first received served old
      → PumpsOn way rounds reads start.codec (left_of start.source) (left_of source) (faults_of start.source) (faults_of source) first error new
