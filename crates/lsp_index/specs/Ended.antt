-- For private clauses: what answering a query ends with, and the exit status of that.
use Rattle.std.specs.Prelude.{◌≡◌, ◌≢◌, ◌≤◌, ◌<◌, ◌⊎◌, ◌+◌, ◌-◌, ◌^◌, ⊤, ℕ, List, length, Bool, true, false, Option, Result, Ok, Err, IfOk, IfErr, OnErr, IfSome}
use Rattle.std.specs.Bool.{MatchBool}
use Rattle.std.specs.Result.{result_err}
use Rattle.lsp_server.specs.declared.step.ServeError.{ServeError}
use Rattle.lsp_server.specs.declared.step.ServeError.TheVariants.{DeskSpent}
use Rattle.lsp_server.specs.Errors.{IsBetweenReads}
use Rattle.lsp_server.specs.Leaves.{StaysFlushed, TellsFaults, WithinReads}
use Rattle.lsp_server.specs.Reads.{Moment}
use Rattle.lsp_server.specs.Served.{call_bytes}
use Rattle.lsp_server.specs.ServesSession.{SourceSinkTold, bytes_told, KeepsFlushed}
use Rattle.lsp_server.specs.SourceSink.{CountRose}
use Rattle.lsp_program.specs.Status.{status_of}
use Rattle.lsp_index.specs.Answered.{IsQueryAnswered, IsRefused, WroteBegun, WroteNone}
use Rattle.lsp_index.specs.Queries.{QueryData}

pub record AnswerEnded (q : QueryData) (reads : ℕ) (told : SourceSinkTold) (made made_after : Option (List Moment)) (r : Result Bool ServeError) : Type 0 where
  pub done : IfOk r (λ good. IfSome told.left (λ bytes. MatchBool good (IsQueryAnswered q (call_bytes bytes told.left_after told.taken told.taken_after)) (IsRefused (call_bytes bytes told.left_after told.taken told.taken_after))))
  pub flushed : StaysFlushed told.taken told.flushed told.taken_after told.flushed_after (result_err r)
  pub faults : TellsFaults told.reads_failed told.reads_failed_after told.writes_failed told.writes_failed_after (result_err r)
  pub within : WithinReads reads 4096 told.left told.left_after made made_after (result_err r)
  pub no_desk : IfErr r (λ e. (n : ℕ) → e ≢ DeskSpent n)
  pub between : IfErr r (λ e. IsBetweenReads e → IfSome told.left (λ bytes. WroteNone (call_bytes bytes told.left_after told.taken told.taken_after)))
  pub part : OnErr r (IfSome told.left (λ bytes. WroteBegun q (call_bytes bytes told.left_after told.taken told.taken_after)))

-- what the reads ended with, with whether no line is bad
abbrev pub ended_with : Result ⊤ ServeError → Bool → Result Bool ServeError
ended_with (Ok x) good = Ok good
ended_with (Err e) good = Err e

abbrev pub status_from : Result Bool ServeError → ℕ
status_from (Ok true) = 0
status_from (Ok false) = 8
status_from (Err e) = status_of e

-- what the exit status of answering a query tells, after all the reads that can be counted
pub record AnswerTells (q : QueryData) (told : SourceSinkTold) (status : ℕ) : Type 0 where
  pub known : (status ≤ 8) × (status ≢ 1) × (status ≢ 2) × (status ≢ 7)
  pub done : status ≡ 0 → IfSome told.left (λ bytes. IsQueryAnswered q (bytes_told told bytes))
  pub bad : status ≡ 8 → IfSome told.left (λ bytes. IsRefused (bytes_told told bytes))
  pub flushed : (status ≡ 0) ⊎ (status ≡ 3) ⊎ (status ≡ 5) ⊎ (status ≡ 8) → KeepsFlushed told
  pub read : status ≡ 3 → CountRose told.reads_failed told.reads_failed_after
  pub write : status ≡ 4 → CountRose told.writes_failed told.writes_failed_after
  pub spent : status ≡ 5 → IfSome told.left (λ bytes. IfSome told.left_after (λ rest. 2 ^ 64 - 1 + length rest ≤ length bytes))
  pub read_told : told.reads_failed < told.reads_failed_after → status ≡ 3
  pub write_told : told.writes_failed < told.writes_failed_after → status ≡ 4
  pub complete : IfSome told.left (λ bytes. length bytes < 2 ^ 64 - 1 → ¬ CountRose told.reads_failed told.reads_failed_after
      → ¬ CountRose told.writes_failed told.writes_failed_after → (status ≡ 0) ⊎ (status ≡ 6) ⊎ (status ≡ 8))
  pub unwritten : (status ≡ 3) ⊎ (status ≡ 5) → IfSome told.left (λ bytes. WroteNone (bytes_told told bytes))
  pub part : (status ≡ 4) ⊎ (status ≡ 6) → IfSome told.left (λ bytes. WroteBegun q (bytes_told told bytes))
