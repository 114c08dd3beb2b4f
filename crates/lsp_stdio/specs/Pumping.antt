-- What a program that serves a session while a thread reads has written by its end.
use Rattle.std.specs.Prelude.{◌≡◌, ◌≤◌, ◌<◌, ◌⊎◌, ◌+◌, ◌-◌, ◌^◌, ⊤, ℕ, true, List, length, Option, IfSome, is_some}
use Rattle.lsp_desk.specs.declared.life.Life.{Life}
use Rattle.lsp_desk.specs.Meaning.{Grown}
use Rattle.lsp_frame.specs.Codec.{start_by}
use Rattle.lsp_session.specs.State.{State}
use Rattle.lsp_session.specs.Run.{Picked}
use Rattle.lsp_server.specs.Course.{Course}
use Rattle.lsp_server.specs.Items.{stream_items}
use Rattle.lsp_server.specs.Served.{CallBytes, call_bytes, ServedView}
use Rattle.lsp_pump.specs.Pumped.{IsPumped, PumpedEnough, PumpedPart, WrotePumped}
use Rattle.lsp_stdio.specs.Status.{IsShutDown, IsNotShutDown}

-- at these statuses the session may have ended before a failed read was seen: at an exit, or by an error of a step
abbrev pub EndsUnread : ℕ → Type 0
EndsUnread status = (status ≤ 1) ⊎ (status ≡ 4) ⊎ (status ≡ 6) ⊎ (status ≡ 7)

module _ {H D C T : Type 0} (course : Course (Picked (State H C T) ⊤) D) where
  -- what was written is that of a run over all these bytes, with ticks between their items, and the life that stood at its
  -- `exit` is as told; they were read to their end, or an exit is told in those that were read
  pub record PumpedWhole (call : CallBytes) (failed failed_after : ℕ) (P : Option Life → Type 0) : Type 0 where
    pub view : ServedView H D
    pub pumps : IsPumped course call view tt
    pub enough : PumpedEnough course (start_by course.codec) call
    pub ends : P view.exited
    -- where a read failed, an exit was admitted
    pub unread : failed < failed_after → is_some view.exited ≡ true

  -- serving stopped, and what was written begins the output of such a run
  pub record PumpStopped (call : CallBytes) (status : ℕ) : Type 0 where
    -- the desk, as the session left it
    pub desk : D
    pub part : PumpedPart course (stream_items course.codec call.bytes) call desk
    -- a read failed, or no more can be counted: what was written is that of the items told by the bytes read
    pub exact : (status ≡ 3) ⊎ (status ≡ 5) → WrotePumped course call desk tt
    pub reads_spent : status ≡ 5 → IfSome call.left (λ rest. 2 ^ 64 - 1 + length rest ≤ length call.bytes)
    pub desk_spent : status ≡ 7 → course.meaning.spent desk ≡ true
    pub grown : Grown course.meaning course.desk desk

  -- what was written by the end, by the exit status; how many reads had failed before, and after
  pub record PumpEndsWith (call : CallBytes) (failed failed_after : ℕ) (status : ℕ) : Type 0 where
    -- `exit` came after `shutdown`, or it didn't
    pub done : status ≡ 0 → PumpedWhole call failed failed_after IsShutDown
    pub unfinished : status ≡ 1 → PumpedWhole call failed failed_after IsNotShutDown
    pub stopped : 3 ≤ status → PumpStopped call status

  -- the same where the source and the sink were given away: what they came to isn't told
  pub record PumpEndsWithin (bytes : List ℕ) (status : ℕ) : Type 0 where
    pub left : Option (List ℕ)
    pub taken : Option (List ℕ)
    pub taken_after : Option (List ℕ)
    pub failed : ℕ
    pub ends : PumpEndsWith (call_bytes bytes left taken taken_after) 0 failed status
