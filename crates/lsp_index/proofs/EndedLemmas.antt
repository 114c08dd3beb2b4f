-- What the exit status tells of what answering a query ended with.
use Rattle.std.proofs.Common.{◌≡◌, ◌≢◌, ℕ, ◌≤◌, ◌<◌, ◌+◌, ◌-◌, ◌^◌, ◌⊎◌, inl, inr, List, length, Bool, true, false, refl, ap, arith}
use Rattle.std.specs.Prelude.{Option, Some, None, Result, Ok, Err, IfOk, IfErr, OnErr, IfSome}
use Rattle.std.specs.Bool.{MatchBool}
use Rattle.std.specs.Result.{result_err}
use Rattle.lsp_server.specs.declared.step.ServeError.{ServeError}
use Rattle.lsp_server.specs.declared.step.ServeError.TheVariants.{ReadFault, WriteFault, ReadsSpent, DeskSpent, NoMemory}
use Rattle.lsp_server.specs.Errors.{IsBetweenReads}
use Rattle.lsp_server.specs.Leaves.{StaysFlushed, TellsFaults, WithinReads}
use Rattle.lsp_server.specs.Reads.{Moment}
use Rattle.lsp_server.specs.Served.{call_bytes}
use Rattle.lsp_server.specs.ServesSession.{SourceSinkTold}
use Rattle.lsp_server.specs.SourceSink.{CountRose, IsFlushed}
use Rattle.lsp_program.specs.Status.{status_of}
use Rattle.lsp_program.proofs.StatusLemmas.{status_of_high, status_three, status_four, status_five, status_between}
use Rattle.lsp_index.specs.Answered.{WroteNone}
use Rattle.lsp_index.specs.Ended.{AnswerEnded, AnswerTells, status_from}
use Rattle.lsp_index.specs.Queries.{QueryData}

-- ---- which status it is

known_of : (r : Result Bool ServeError) → IfErr r (λ e. (n : ℕ) → e ≢ DeskSpent n)
    → (status_from r ≤ 8) × (status_from r ≢ 1) × (status_from r ≢ 2) × (status_from r ≢ 7)
known_of (Ok true) h = (omega arith, λ e. absurd (cc), λ e. absurd (cc), λ e. absurd (cc))
known_of (Ok false) h = (omega arith, λ e. absurd (cc), λ e. absurd (cc), λ e. absurd (cc))
known_of (Err ReadFault) h = (omega arith, λ e. absurd (cc), λ e. absurd (cc), λ e. absurd (cc))
known_of (Err WriteFault) h = (omega arith, λ e. absurd (cc), λ e. absurd (cc), λ e. absurd (cc))
known_of (Err ReadsSpent) h = (omega arith, λ e. absurd (cc), λ e. absurd (cc), λ e. absurd (cc))
known_of (Err NoMemory) h = (omega arith, λ e. absurd (cc), λ e. absurd (cc), λ e. absurd (cc))
known_of (Err (DeskSpent n)) h = absurd (h n refl)

-- ---- no line is bad, or one is

module _ (left : Option (List ℕ)) (A B : List ℕ → Type 0) where
  done_of : (r : Result Bool ServeError) → IfOk r (λ good. IfSome left (λ bytes. MatchBool good (A bytes) (B bytes))) → status_from r ≡ 0 → IfSome left A
  done_of (Ok true) d h = d
  done_of (Ok false) d h = absurd (cc)
  done_of (Err e) d h = absurd (omega (arith, status_of_high e))

  bad_of : (r : Result Bool ServeError) → IfOk r (λ good. IfSome left (λ bytes. MatchBool good (A bytes) (B bytes))) → status_from r ≡ 8 → IfSome left B
  bad_of (Ok true) d h = absurd (cc)
  bad_of (Ok false) d h = d
  bad_of (Err ReadFault) d h = absurd (cc)
  bad_of (Err WriteFault) d h = absurd (cc)
  bad_of (Err ReadsSpent) d h = absurd (cc)
  bad_of (Err NoMemory) d h = absurd (cc)
  bad_of (Err (DeskSpent n)) d h = absurd (cc)

-- ---- what is flushed

flushed_of : (r : Result Bool ServeError) (taken taken_after : Option (List ℕ)) (count count_after : Option ℕ) → StaysFlushed taken count taken_after count_after (result_err r)
    → (status_from r ≡ 0) ⊎ (status_from r ≡ 3) ⊎ (status_from r ≡ 5) ⊎ (status_from r ≡ 8) → IsFlushed taken count → IsFlushed taken_after count_after
flushed_of (Ok b) taken taken_after count count_after s h = s.flushed
flushed_of (Err ReadFault) taken taken_after count count_after s h = s.flushed_at tt
flushed_of (Err WriteFault) taken taken_after count count_after s h = absurd (omega arith)
flushed_of (Err ReadsSpent) taken taken_after count count_after s h = s.flushed_at tt
flushed_of (Err NoMemory) taken taken_after count count_after s h = absurd (omega arith)
flushed_of (Err (DeskSpent n)) taken taken_after count count_after s h = s.flushed_at tt

-- ---- failures

is_some_error : (e f : ServeError) → Some e ≡ Some f → e ≡ f
is_some_error e f is = cc

module _ (reads reads_after writes writes_after : ℕ) where
  read_of : (r : Result Bool ServeError) → TellsFaults reads reads_after writes writes_after (result_err r) → status_from r ≡ 3 → CountRose reads reads_after
  read_of (Ok true) t h = absurd (cc)
  read_of (Ok false) t h = absurd (cc)
  read_of (Err e) t h = t.read (status_three e h)

  write_of : (r : Result Bool ServeError) → TellsFaults reads reads_after writes writes_after (result_err r) → status_from r ≡ 4 → CountRose writes writes_after
  write_of (Ok true) t h = absurd (cc)
  write_of (Ok false) t h = absurd (cc)
  write_of (Err e) t h = t.write (status_four e h)

  read_told_of : (r : Result Bool ServeError) → TellsFaults reads reads_after writes writes_after (result_err r) → reads < reads_after → status_from r ≡ 3
  read_told_of (Ok b) t h = let e = t.read_told h in absurd (cc)
  read_told_of (Err e) t h = ap status_of (is_some_error e ReadFault (t.read_told h))

  write_told_of : (r : Result Bool ServeError) → TellsFaults reads reads_after writes writes_after (result_err r) → writes < writes_after → status_from r ≡ 4
  write_told_of (Ok b) t h = let e = t.write_told h in absurd (cc)
  write_told_of (Err e) t h = ap status_of (is_some_error e WriteFault (t.write_told h))

module _ (count size : ℕ) (left left_after : Option (List ℕ)) (told told_after : Option (List Moment)) where
  spent_of : (r : Result Bool ServeError) → WithinReads count size left left_after told told_after (result_err r) → status_from r ≡ 5
      → IfSome left (λ bytes. IfSome left_after (λ rest. count + length rest ≤ length bytes))
  spent_of (Ok true) w h = absurd (cc)
  spent_of (Ok false) w h = absurd (cc)
  spent_of (Err e) w h = w.reads_spent (status_five e h)

-- ---- with no failure

module _ (count size reads reads_after writes writes_after : ℕ) (told told_after : Option (List Moment)) (taken taken_after : Option (List ℕ)) (bytes : List ℕ) (few : length bytes < count)
    (unread : CountRose reads reads_after → ⊥) (unwritten : CountRose writes writes_after → ⊥) where
  unspent : (left_after : Option (List ℕ)) → WithinReads count size (Some bytes) left_after told told_after (Some ReadsSpent) → WroteNone (call_bytes bytes left_after taken taken_after) → ⊥
  unspent None w none = none.gives
  unspent (Some rest) w none = omega (arith, w.reads_spent refl, few)

  at_error : (left_after : Option (List ℕ)) (e : ServeError) → TellsFaults reads reads_after writes writes_after (Some e) → WithinReads count size (Some bytes) left_after told told_after (Some e)
      → ((n : ℕ) → e ≢ DeskSpent n) → (IsBetweenReads e → WroteNone (call_bytes bytes left_after taken taken_after)) → (status_of e ≡ 0) ⊎ (status_of e ≡ 6) ⊎ (status_of e ≡ 8)
  at_error left_after ReadFault t w desk none = absurd (unread (t.read refl))
  at_error left_after WriteFault t w desk none = absurd (unwritten (t.write refl))
  at_error left_after ReadsSpent t w desk none = absurd (unspent left_after w (none tt))
  at_error left_after NoMemory t w desk none = inr (inl refl)
  at_error left_after (DeskSpent n) t w desk none = absurd (desk n refl)

complete_of : (count size reads reads_after writes writes_after : ℕ) (told told_after : Option (List Moment)) (taken taken_after left left_after : Option (List ℕ)) (r : Result Bool ServeError)
    → TellsFaults reads reads_after writes writes_after (result_err r) → WithinReads count size left left_after told told_after (result_err r) → IfErr r (λ e. (n : ℕ) → e ≢ DeskSpent n)
    → IfErr r (λ e. IsBetweenReads e → IfSome left (λ bytes. WroteNone (call_bytes bytes left_after taken taken_after)))
    → IfSome left (λ bytes. length bytes < count → (CountRose reads reads_after → ⊥) → (CountRose writes writes_after → ⊥) → (status_from r ≡ 0) ⊎ (status_from r ≡ 6) ⊎ (status_from r ≡ 8))
complete_of count size reads reads_after writes writes_after told told_after taken taken_after None left_after r t w desk none = tt
complete_of count size reads reads_after writes writes_after told told_after taken taken_after (Some bytes) left_after (Ok true) t w desk none = λ few unread unwritten. inl refl
complete_of count size reads reads_after writes writes_after told told_after taken taken_after (Some bytes) left_after (Ok false) t w desk none = λ few unread unwritten. inr (inr refl)
complete_of count size reads reads_after writes writes_after told told_after taken taken_after (Some bytes) left_after (Err e) t w desk none = λ few unread unwritten.
    at_error count size reads reads_after writes writes_after told told_after taken taken_after bytes few unread unwritten left_after e t w desk none

-- ---- what was written

unwritten_of : (P : Type 0) (r : Result Bool ServeError) → IfErr r (λ e. IsBetweenReads e → P) → (status_from r ≡ 3) ⊎ (status_from r ≡ 5) → P
unwritten_of P (Ok true) none h = absurd (omega arith)
unwritten_of P (Ok false) none h = absurd (omega arith)
unwritten_of P (Err e) none h = none (status_between e h)

part_of : (P : Type 0) (r : Result Bool ServeError) → OnErr r P → (status_from r ≡ 4) ⊎ (status_from r ≡ 6) → P
part_of P (Ok true) part h = absurd (omega arith)
part_of P (Ok false) part h = absurd (omega arith)
part_of P (Err e) part h = part

-- ---- all of it

pub status_tells : (q : QueryData) (told : SourceSinkTold) (r : Result Bool ServeError) → AnswerEnded q (2 ^ 64 - 1) told None None r → AnswerTells q told (status_from r)
status_tells q told r ended = record {
  known = known_of r ended.no_desk;
  done = done_of _ _ _ r ended.done;
  bad = bad_of _ _ _ r ended.done;
  flushed = flushed_of r _ _ _ _ ended.flushed;
  read = read_of _ _ _ _ r ended.faults;
  write = write_of _ _ _ _ r ended.faults;
  spent = spent_of _ _ _ _ _ _ r ended.within;
  read_told = read_told_of _ _ _ _ r ended.faults;
  write_told = write_told_of _ _ _ _ r ended.faults;
  complete = complete_of _ _ _ _ _ _ _ _ _ _ _ _ r ended.faults ended.within ended.no_desk ended.between;
  unwritten = unwritten_of _ r ended.between;
  part = part_of _ r ended.part;
}
