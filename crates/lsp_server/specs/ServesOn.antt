-- What a call comes to that serves on from where a codec stands.
use Rattle.std.specs.Prelude.{◌≡◌, ◌⊎◌, Bool, true, false, ℕ, List, [], Option, Some, IfSome, IfNone}
use Rattle.std.specs.Io.KnownBytes.{Consumes}
use Rattle.lsp_frame.specs.Codec.{At, more, items_at, told_at}
use Rattle.lsp_session.specs.Item.{ItemData}
use Rattle.lsp_session.specs.Run.{served, has_exit}
use Rattle.lsp_server.specs.declared.step.ServeError.{ServeError}
use Rattle.lsp_server.specs.Errors.{IsBetweenReads}
use Rattle.lsp_server.specs.Items.{all_admitted}
use Rattle.lsp_server.specs.Course.{Course}
use Rattle.lsp_server.specs.Written.{RanPart}
use Rattle.lsp_server.specs.Served.{CallBytes, RanFrom}

-- the items that come of what a codec holds with all these bytes
abbrev pub coming : At → List ℕ → List ItemData
coming codec bytes = all_admitted (items_at (more codec bytes))

-- those that are told by then, whatever bytes may follow
abbrev pub coming_told : At → List ℕ → List ItemData
coming_told codec bytes = all_admitted (told_at (more codec bytes))

-- what a call comes to that serves on over these bytes, by the error that it answers, if any
pub record ServesOn {S D : Type 0} (course : Course S D) (codec : At) (call : CallBytes) (last : S) (desk : D) (error : Option ServeError) : Type 0 where
  pub read : List ℕ
  pub gives : Consumes (Some call.bytes) call.left read
  -- the steps of the items that come were made, through the first exit or with a tick at the end, and their frames were written
  pub ok : IfNone error (RanFrom course call (served course.find (coming codec call.bytes)) last desk)
  -- it ends only at the end of input or at an exit
  pub enough : IfNone error ((call.left ≡ Some []) ⊎ (has_exit course.find (coming_told codec read) ≡ true))
  -- between two reads the items told were served, and no exit is among them
  pub unexited : IfSome error (λ e. IsBetweenReads e → has_exit course.find (coming_told codec read) ≡ false)
  pub exact : IfSome error (λ e. IsBetweenReads e → RanFrom course call (coming_told codec read) last desk)
  -- at any answer what was written begins the frames of a run over the items that come
  pub part : RanPart course.step course.meaning (record { state = course.start; desk = course.desk; taken = call.taken }) (served course.find (coming codec call.bytes)) desk call.taken_after
