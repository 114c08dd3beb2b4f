-- What a program that serves a session has written by its end.
use Rattle.std.specs.Prelude.{◌≡◌, ◌≤◌, ◌⊎◌, ◌+◌, ◌-◌, ◌^◌, ⊤, ℕ, true, List, length, Option, IfSome}
use Rattle.lsp_desk.specs.declared.life.Life.{Life}
use Rattle.lsp_session.specs.State.{State}
use Rattle.lsp_session.specs.Run.{Order, Picked, order_by}
use Rattle.lsp_server.specs.Course.{Course}
use Rattle.lsp_server.specs.Served.{CallBytes, call_bytes, ServedView, IsServed, ReadEnough, WrotePicked, WrotePart}
use Rattle.lsp_stdio.specs.Status.{IsShutDown, IsNotShutDown}

-- the calls are polled in order of admission
abbrev pub in_order : Order ⊤
in_order = order_by (λ _ n. 0) (λ p n. p)

module _ {H D C T : Type 0} (course : Course (Picked (State H C T) ⊤) D) where
  -- what was written is the session over all these bytes, and the life that stood at its `exit` is as told; they were
  -- read to their end or to the piece that tells an exit, and no further
  pub record ServedWhole (call : CallBytes) (P : Option Life → Type 0) : Type 0 where
    pub view : ServedView H D
    pub serves : IsServed course call view tt
    pub enough : ReadEnough course call 4096
    pub ends : P view.exited

  -- serving stopped, and what was written begins the session's output
  pub record ServedPart (call : CallBytes) (status : ℕ) : Type 0 where
    -- the desk, as the session left it
    pub desk : D
    pub part : WrotePart course call 4096 desk
    -- a read failed, or no more can be counted: what was written is that of the items told by the bytes read
    pub exact : (status ≡ 3) ⊎ (status ≡ 5) → WrotePicked course call desk tt
    pub reads_spent : status ≡ 5 → IfSome call.left (λ rest. 2 ^ 64 - 1 + length rest ≤ length call.bytes)
    pub desk_spent : status ≡ 7 → course.meaning.spent desk ≡ true

  -- what was written by the end, by the exit status
  pub record EndsWith (call : CallBytes) (status : ℕ) : Type 0 where
    -- `exit` came after `shutdown`, or it didn't
    pub done : status ≡ 0 → ServedWhole call IsShutDown
    pub unfinished : status ≡ 1 → ServedWhole call IsNotShutDown
    pub stopped : 3 ≤ status → ServedPart call status

  -- the same where the source and the sink were given away: what they came to isn't told
  pub record EndsWithin (bytes : List ℕ) (status : ℕ) : Type 0 where
    pub left : Option (List ℕ)
    pub taken : Option (List ℕ)
    pub taken_after : Option (List ℕ)
    pub ends : EndsWith (call_bytes bytes left taken taken_after) status
