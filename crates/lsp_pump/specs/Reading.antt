-- What a reading comes to.
use Rattle.std.specs.Prelude.{◌≡◌, ◌≢◌, ◌≤◌, ◌<◌, ◌*◌, ◌++◌, ⊤, ℕ, List, [], length, Option, Some, None, IfSome}
use Rattle.std.specs.Io.KnownBytes.{Consumes}
use Rattle.rtrb.specs.Ring.{sent, SameProducer}
use Rattle.lsp_frame.specs.Codec.{Item as CodecItem, At, more, told_at}
use Rattle.lsp_session.specs.Item.{ItemData}
use Rattle.lsp_server.specs.Items.{all_admitted, Decodes}
use Rattle.lsp_server.specs.SourceSink.{CountRose}
use Rattle.lsp_pump.specs.declared.job.Ended.{Ended}
use Rattle.lsp_pump.specs.declared.job.Ended.TheVariants.{Open, End, Failed, NoMemory}
use Rattle.lsp_pump.specs.declared.job.Reading.{Reading}
use Rattle.lsp_pump.specs.Pieces.{all_items, back_items, ItemsAreFloatFree}

-- no bytes were lost at such an end
abbrev pub KeepsAllBytes : Ended → Type 0
KeepsAllBytes Open = ⊤
KeepsAllBytes End = ⊤
KeepsAllBytes Failed = ⊤
KeepsAllBytes NoMemory = ⊥

-- reads may be left at such an end, and each that was made gave bytes
abbrev pub LeavesReads : Ended → Type 0
LeavesReads Open = ⊤
LeavesReads End = ⊥
LeavesReads Failed = ⊥
LeavesReads NoMemory = ⊥

-- a codec told these items, all that it tells
pub record TellsAll (codec : At) (items : List ItemData) (there : At) : Type 0 where
  pub found : List CodecItem
  pub is : items ≡ all_admitted found
  pub decodes : Decodes codec found there
  pub told : told_at there ≡ []

-- one read, which told these items
pub record ReadOnce (codec : At) (left left_after : Option (List ℕ)) (faults faults_after : ℕ) (items : List ItemData) (there : At) : Type 0 where
  pub read : List ℕ
  pub gives : Consumes left left_after read
  pub tells : TellsAll (more codec read) items there
  pub some : 0 < length read
  pub short : length read ≤ 4096
  pub unfailed : faults_after ≡ faults
  pub float_free : ItemsAreFloatFree items

-- one read, after which reading ended; what it gave is lost for want of memory
pub record ReadEnds (codec : At) (left left_after : Option (List ℕ)) (faults faults_after : ℕ) (ended : Ended) (codec_after : At) : Type 0 where
  pub lost : List ℕ
  pub gives : Consumes left left_after lost
  pub whole : KeepsAllBytes ended → (lost ≡ []) × (codec_after ≡ codec)
  pub at_end : ended ≡ End → IfSome left (λ _. left_after ≡ Some [])
  pub short : length lost ≤ 4096
  pub stops : LeavesReads ended → ⊥
  pub failed : ended ≡ Failed → CountRose faults faults_after
  pub unfailed : ended ≢ Failed → faults_after ≡ faults
  pub counts : faults ≤ faults_after

-- so many reads were made, of at most so many bytes each, and each gave some
pub record CountsReads (read : List ℕ) (made : ℕ) : Type 0 where
  pub each : made ≤ length read
  pub few : length read ≤ made * 4096

-- each end has its cause
pub record EndsBy (left left_after : Option (List ℕ)) (faults faults_after : ℕ) (reads made : ℕ) (ended : Ended) : Type 0 where
  pub at_end : ended ≡ End → IfSome left (λ _. left_after ≡ Some [])
  pub failed : ended ≡ Failed → CountRose faults faults_after
  pub unfailed : ended ≢ Failed → faults_after ≡ faults
  pub counts : faults ≤ faults_after
  pub most : made ≤ reads

-- what a reading comes to from a codec on: the items given, and how it ended
pub record HasRead (codec : At) (left left_after : Option (List ℕ)) (made : ℕ) (given : List ItemData) (codec_after : At) (ended : Ended) : Type 0 where
  pub read : List ℕ
  pub lost : List ℕ
  pub there : At
  pub gives : Consumes left left_after (read ++ lost)
  pub tells : TellsAll (more codec read) given there
  pub whole : KeepsAllBytes ended → (lost ≡ []) × (codec_after ≡ there)
  pub few : length (read ++ lost) ≤ made * 4096
  pub each : LeavesReads ended → made ≤ length (read ++ lost)

-- a reading that is to begin
pub record IsUnbegun {I : Type 0} (reading : Reading I) : Type 0 where
  pub told : told_at reading.codec ≡ []
  pub sent : sent reading.sender ≡ []
  pub back : reading.back ≡ None
  pub made : reading.made ≡ 0
  pub ended : reading.ended ≡ Open

module _ {I : Type 0} (left_of : I → Option (List ℕ)) (faults_of : I → ℕ) where
  -- a reading goes on: so many reads told all these items, and all of them are on the ring
  pub record HasBegun (start end : Reading I) : Type 0 where
    pub ring : SameProducer start.sender end.sender
    pub read : List ℕ
    pub gives : Consumes (left_of start.source) (left_of end.source) read
    pub tells : TellsAll (more start.codec read) (all_items (sent end.sender)) end.codec
    pub reads : CountsReads read end.made
    pub unfailed : faults_of end.source ≡ faults_of start.source
    pub none : end.back ≡ None

  -- what a reading came to that ended so
  pub record IsReadingOf (start : Reading I) (reads : ℕ) (end : Reading I) (ended : Ended) : Type 0 where
    pub ring : SameProducer start.sender end.sender
    pub has : HasRead start.codec (left_of start.source) (left_of end.source) end.made (all_items (sent end.sender) ++ back_items end.back) end.codec ended
    pub ends : EndsBy (left_of start.source) (left_of end.source) (faults_of start.source) (faults_of end.source) reads end.made ended
    pub float_free : ItemsAreFloatFree (back_items end.back)
