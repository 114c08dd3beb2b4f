-- What a consumer does with the bytes of a source, read by read.
use Rattle.std.specs.Prelude.{◌≡◌, ◌≤◌, ◌++◌, ℕ, Bool, true, false, List, [], ◌∷◌, length, Option, Some, IfSome, Result, Ok, Err}
use Rattle.std.specs.Io.KnownBytes.{Consumes, Appends}
use Rattle.lsp_server.specs.declared.step.ServeError.{ServeError}
use Rattle.lsp_server.specs.Errors.{ComesOfSink}
use Rattle.lsp_server.specs.SourceSink.{IsFlushed}
use Rattle.lsp_server.specs.Reads.{Moment}

-- what a consumer is given: bytes, or word that no more come
pub data Given : Type 0 where
  piece : List ℕ → Given
  end : Given

-- what a read gives: its bytes, or word that no more come where it gave none
abbrev pub given_of : List ℕ → Given
given_of [] = end
given_of (x ∷ xs) = piece (x ∷ xs)

-- what comes of it: the consumer goes on, it is done, or an error stops it
pub data ConsumerOutcome : Type 0 where
  goes_on : ConsumerOutcome
  done : ConsumerOutcome
  stops : ServeError → ConsumerOutcome

pub record Consuming (C : Type 0) : Type 1 where
  -- it may be given something
  pub is_open : C → Type 0
  -- it was given this, this came of it, and it wrote these bytes
  pub does : C → Given → ConsumerOutcome → List ℕ → C → Type 0

-- what holds of every consumer
pub record IsLawfulConsumer {C : Type 0} (m : Consuming C) : Type 0 where
  -- one that goes on may be given more
  pub opens : (a b : C) (given : Given) (written : List ℕ) → m.does a given goes_on written b → m.is_open b
  -- no bytes change nothing
  pub none : (a : C) → m.is_open a → m.does a (piece []) goes_on [] a
  -- bytes after bytes are as all of them at once
  pub more : (a b c : C) (xs ys ws vs : List ℕ) → m.does a (piece xs) goes_on ws b → m.does b (piece ys) goes_on vs c → m.does a (piece (xs ++ ys)) goes_on (ws ++ vs) c
  -- a sink that then refuses to flush stops it, whatever came of it
  pub refused : (a b : C) (given : Given) (outcome : ConsumerOutcome) (written : List ℕ) (e : ServeError) → m.does a given outcome written b → ComesOfSink e → m.does a given (stops e) written b

-- what holds of a consumer where one sees of it what another is
abbrev pub through : {A B : Type 0} → (A → B) → Consuming B → Consuming A
through show m = record { is_open = λ a. m.is_open (show a); does = λ a given outcome written b. m.does (show a) given outcome written (show b) }

-- what came of a piece, by the answer: whether it was the last
abbrev pub consumer_outcome : Result Bool ServeError → ConsumerOutcome
consumer_outcome (Ok false) = goes_on
consumer_outcome (Ok true) = done
consumer_outcome (Err e) = stops e

-- what came of the last thing that was given
abbrev pub last_outcome : {A : Type 0} → Result A ServeError → ConsumerOutcome
last_outcome (Ok x) = done
last_outcome (Err e) = stops e

-- ---- one call

-- the consumer did this, and the sink took what it wrote
pub record Did {C : Type 0} (m : Consuming C) (old : C) (given : Given) (outcome : ConsumerOutcome) (taken taken_after : Option (List ℕ)) (new : C) : Type 0 where
  pub written : List ℕ
  pub does : m.does old given outcome written new
  pub writes : Appends taken taken_after written

-- ---- the reads of a call

-- from one moment to another these bytes were read and given, and the consumer goes on
pub record Took {C : Type 0} (m : Consuming C) (old : C) (start now : Moment) (new : C) : Type 0 where
  pub read : List ℕ
  pub gives : Consumes start.left now.left read
  pub did : Did m old (piece read) goes_on start.taken now.taken new

-- the same as a read is made, and all that was written is flushed, if all was at the start
pub record AllTook {C : Type 0} (m : Consuming C) (old : C) (start now : Moment) : Type 0 where
  pub consumer : C
  pub took : Took m old start now consumer
  pub flushed : IsFlushed start.taken start.flushed → IsFlushed now.taken now.flushed

abbrev pub bytes_of : Given → List ℕ
bytes_of (piece bytes) = bytes
bytes_of end = []

-- the end is given only where no bytes are left, where the bytes are told
abbrev pub IsTimely : Given → Option (List ℕ) → Option (List ℕ) → Type 0
IsTimely (piece bytes) left left_after = Unit {0}
IsTimely end left left_after = IfSome left (λ bytes. left_after ≡ Some [])

-- all bytes read but for the last piece, of at most so many bytes, were given, and the consumer went on; then it was
-- given that piece, or the end, and this came of it
pub record TookLast {C : Type 0} (m : Consuming C) (old : C) (start now : Moment) (size : ℕ) (outcome : ConsumerOutcome) (new : C) : Type 0 where
  pub mid : C
  pub middle : Moment
  pub took : Took m old start middle mid
  pub last : Given
  pub gives : Consumes middle.left now.left (bytes_of last)
  pub short : length (bytes_of last) ≤ size
  pub timely : IsTimely last start.left now.left
  pub did : Did m mid last outcome middle.taken now.taken new
