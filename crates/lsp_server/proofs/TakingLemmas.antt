-- How giving goes on over the reads, and what it comes to.
use Rattle.std.proofs.Common.{◌≡◌, inl, inr, ◌≤◌, ◌<◌, ◌+◌, ◌*◌, ℕ, List, [], ◌∷◌, ◌++◌, length, take, refl, sym, ap, subst, length-append, length-take, arith}
use Rattle.std.specs.Prelude.{◌⊎◌, Option, Some, None, Result, Ok, Err, IfErr, IfSome}
use Rattle.std.specs.Result.{result_err}
use Rattle.std.specs.Io.KnownBytes.{Consumes, Keeps}
use Rattle.lsp_server.specs.declared.step.ServeError.{ServeError}
use Rattle.lsp_server.specs.declared.step.ServeError.TheVariants.{ReadFault, WriteFault, ReadsSpent, DeskSpent, NoMemory}
use Rattle.lsp_server.specs.SourceSink.{CountRose, ReadsEnd, IsFlushed}
use Rattle.lsp_server.specs.declared.sink.Refused.{Refused}
use Rattle.lsp_server.specs.declared.sink.Refused.TheVariants as refusals
use Rattle.lsp_server.specs.Errors.{refused_error, IsInStep, LeavesSink, ComesOfSink}
use Rattle.lsp_server.specs.Reads.{Moment}
use Rattle.lsp_server.specs.Leaves.{LeavesFaults, StaysFlushed, TellsFaults}
use Rattle.lsp_server.specs.Consuming.{Given, given_of, piece, end, ConsumerOutcome, goes_on, stops, Consuming, IsLawfulConsumer, through, Did, Took, AllTook, bytes_of, IsTimely, TookLast}
use Rattle.lsp_server.proofs.KnownLemmas.{appends_none, appends_more, appends_kept, consumes_none, consumes_more, consumes_kept, read_enough, few_read, at_zero, if_told}

-- ---- one call after another

module _ {C : Type 0} (m : Consuming C) (laws : IsLawfulConsumer m) where
  pub did_none : (a : C) (taken : Option (List ℕ)) → m.is_open a → Did m a (piece []) goes_on taken taken a
  did_none a taken is = record { written = []; does = laws.none a is; writes = appends_none taken }

  pub did_more : (a b c : C) (xs ys : List ℕ) (taken0 taken1 taken2 : Option (List ℕ)) → Did m a (piece xs) goes_on taken0 taken1 b → Did m b (piece ys) goes_on taken1 taken2 c
      → Did m a (piece (xs ++ ys)) goes_on taken0 taken2 c
  did_more a b c xs ys taken0 taken1 taken2 p q = record {
    written = p.written ++ q.written;
    does = laws.more a b c xs ys p.written q.written p.does q.does;
    writes = appends_more taken0 taken1 taken2 p.written q.written p.writes q.writes;
  }

-- ---- what a read gives

bytes_given : (bytes : List ℕ) → bytes_of (given_of bytes) ≡ bytes
bytes_given [] = refl
bytes_given (x ∷ xs) = refl

pub given_some : (bytes : List ℕ) → 0 < length bytes → given_of bytes ≡ piece bytes
given_some [] some = absurd (omega arith)
given_some (x ∷ xs) some = refl

pub given_none : (n : ℕ) (bytes : List ℕ) → n ≡ 0 → given_of (take n bytes) ≡ end
given_none n bytes zero = ap (λ k. given_of (take k bytes)) zero

-- ---- a call, and the flush after it

pub refused_in_sink : (x : Refused) → ComesOfSink (refused_error x)
refused_in_sink refusals.Failed = tt
refused_in_sink refusals.NoMemory = tt

module _ {C : Type 0} {m : Consuming C} where
  -- the flush took nothing
  pub did_kept : (a b : C) (given : Given) (outcome : ConsumerOutcome) (taken0 taken1 taken2 : Option (List ℕ)) → Did m a given outcome taken0 taken1 b → Keeps taken1 taken2
      → Did m a given outcome taken0 taken2 b
  did_kept a b given outcome taken0 taken1 taken2 d keeps = record { written = d.written; does = d.does; writes = appends_kept taken0 taken1 taken2 d.written d.writes keeps }

  -- it was refused
  pub did_refused : IsLawfulConsumer m → (a b : C) (given : Given) (outcome : ConsumerOutcome) (taken0 taken1 taken2 : Option (List ℕ)) (e : ServeError) → Did m a given outcome taken0 taken1 b → Keeps taken1 taken2
      → ComesOfSink e → Did m a given (stops e) taken0 taken2 b
  did_refused laws a b given outcome taken0 taken1 taken2 e d keeps sink = record {
    written = d.written;
    does = laws.refused a b given outcome d.written e d.does sink;
    writes = appends_kept taken0 taken1 taken2 d.written d.writes keeps;
  }

  -- the call's error stands, or one of the sink takes its place
  pub did_stands : IsLawfulConsumer m → (a b : C) (given : Given) (taken0 taken1 taken2 : Option (List ℕ)) (error result : ServeError) → Did m a given (stops error) taken0 taken1 b → Keeps taken1 taken2
      → (result ≡ error) ⊎ ComesOfSink result → Did m a given (stops result) taken0 taken2 b
  did_stands laws a b given taken0 taken1 taken2 error result d keeps (inl same) = subst (λ e. Did m a given (stops e) taken0 taken2 b) (sym same) (did_kept a b given (stops error) taken0 taken1 taken2 d keeps)
  did_stands laws a b given taken0 taken1 taken2 error result d keeps (inr sink) = did_refused laws a b given (stops error) taken0 taken1 taken2 result d keeps sink

-- ---- one read after another

module _ {C : Type 0} (m : Consuming C) where
  -- the loop over the reads has come this far
  pub record Reading (old : C) (start now : Moment) (new : C) (count : ℕ) : Type 0 where
    pub took : Took m old start now new
    -- each read gave a byte at least, and 4,096 at most
    pub each : count ≤ length took.read
    pub most : length took.read ≤ count * 4096

module _ {C : Type 0} {m : Consuming C} where
  pub reading_start : IsLawfulConsumer m → (a : C) (start : Moment) → m.is_open a → Reading m a start start a 0
  reading_start laws a start is = record { took = record { read = []; gives = consumes_none start.left; did = did_none m laws a start.taken is }; each = omega arith; most = omega arith }

  module _ (old : C) (start now : Moment) (mid : C) (count : ℕ) (reading : Reading m old start now mid count) where
    -- the same where a read failed
    pub took_kept : (later : Moment) → Keeps now.left later.left → later.taken ≡ now.taken → Took m old start later mid
    took_kept later keeps same = record {
      read = reading.took.read;
      gives = consumes_kept start.left now.left later.left reading.took.read reading.took.gives keeps;
      did = subst (λ t. Did m old (piece reading.took.read) goes_on start.taken t mid) (sym same) reading.took.did;
    }

    pub reading_more : IsLawfulConsumer m → (later : Moment) (bytes : List ℕ) (new : C) → Consumes now.left later.left bytes → Did m mid (piece bytes) goes_on now.taken later.taken new
        → 0 < length bytes → length bytes ≤ 4096 → Reading m old start later new (count + 1)
    reading_more laws later bytes new gives did some few = record {
      took = record {
        read = reading.took.read ++ bytes;
        gives = consumes_more start.left now.left later.left reading.took.read bytes reading.took.gives gives;
        did = did_more m laws old mid new reading.took.read bytes start.taken now.taken later.taken reading.took.did did;
      };
      each = omega (arith, length-append reading.took.read bytes, reading.each, some);
      most = omega (arith, length-append reading.took.read bytes, reading.most, few);
    }

    took_last : (later : Moment) (last : Given) (outcome : ConsumerOutcome) (new : C) → Consumes now.left later.left (bytes_of last) → length (bytes_of last) ≤ 4096 → IsTimely last start.left later.left
        → Did m mid last outcome now.taken later.taken new → TookLast m old start later 4096 outcome new
    took_last later last outcome new gives short timely did = record { mid = mid; middle = now; took = reading.took; last = last; gives = gives; short = short; timely = timely; did = did }

    -- a read of nothing is the end of input
    end_timely : (buffer : List ℕ) (left : Option (List ℕ)) (n : ℕ) → ReadsEnd now.left n → Consumes now.left left (take n buffer) → n ≡ 0 → IsTimely end start.left left
    end_timely buffer left n ends gives zero =
        if_told start.left _ (λ bytes is. (at_zero bytes reading.took.read buffer now.left left n (subst (λ l. Consumes l now.left reading.took.read) is reading.took.gives) ends gives zero).1)

    given_timely : (buffer : List ℕ) (left : Option (List ℕ)) (n : ℕ) → n ≤ length buffer → ReadsEnd now.left n → Consumes now.left left (take n buffer)
        → (bytes : List ℕ) → take n buffer ≡ bytes → IsTimely (given_of bytes) start.left left
    given_timely buffer left n within ends gives [] none = end_timely buffer left n ends gives (let e : length (take n buffer) ≡ 0 = ap length none in omega (arith, e, within, length-take n buffer))
    given_timely buffer left n within ends gives (x ∷ xs) some = tt

    -- what such a read gives was the last
    pub took_given : (buffer : List ℕ) (later : Moment) (n : ℕ) (outcome : ConsumerOutcome) (new : C) → n ≤ length buffer → length buffer ≡ 4096 → ReadsEnd now.left n → Consumes now.left later.left (take n buffer)
        → Did m mid (given_of (take n buffer)) outcome now.taken later.taken new → TookLast m old start later 4096 outcome new
    took_given buffer later n outcome new within size ends gives did =
        let bytes = bytes_given (take n buffer) in
        took_last later (given_of (take n buffer)) outcome new (rw bytes gives) (rw bytes (omega (arith, within, size, length-take n buffer))) (given_timely buffer later.left n within ends gives (take n buffer) refl) did

    -- ---- how many reads there were

    pub few_so : (left : Option (List ℕ)) (bytes : List ℕ) (reads : ℕ) → Consumes now.left left bytes → length reading.took.read + length bytes ≤ reads * 4096
        → IfSome start.left (λ all. IfSome left (λ rest. length all ≤ length rest + reads * 4096))
    few_so left bytes reads gives within =
        if_told start.left _ (λ all is. few_read all reading.took.read bytes now.left left (reads * 4096) (subst (λ l. Consumes l now.left reading.took.read) is reading.took.gives) gives within)

    pub few_more : (left : Option (List ℕ)) (bytes : List ℕ) (reads : ℕ) → Consumes now.left left bytes → length bytes ≤ 4096 → count + 1 ≤ reads
        → IfSome start.left (λ all. IfSome left (λ rest. length all ≤ length rest + reads * 4096))
    few_more left bytes reads gives few more = few_so left bytes reads gives (omega (arith, reading.most, few, more))

    pub enough : (reads : ℕ) → count ≡ reads → IfSome start.left (λ all. IfSome now.left (λ rest. reads + length rest ≤ length all))
    enough reads is =
        if_told start.left _ (λ all told. read_enough all reading.took.read now.left reads (subst (λ l. Consumes l now.left reading.took.read) told reading.took.gives) (omega (arith, reading.each, is)))

-- ---- what another sees of it

pub through_lawful : {A B : Type 0} (show : A → B) {m : Consuming B} → IsLawfulConsumer m → IsLawfulConsumer (through show m)
through_lawful show laws = record {
  opens = λ a b. laws.opens (show a) (show b);
  none = λ a. laws.none (show a);
  more = λ a b c. laws.more (show a) (show b) (show c);
  refused = λ a b. laws.refused (show a) (show b);
}

module _ {A B : Type 0} (show : A → B) {m : Consuming B} where
  pub seen_did : (old new : A) (given : Given) (outcome : ConsumerOutcome) (taken0 taken1 : Option (List ℕ)) → Did (through show m) old given outcome taken0 taken1 new → Did m (show old) given outcome taken0 taken1 (show new)
  seen_did old new given outcome taken0 taken1 d = record { written = d.written; does = d.does; writes = d.writes }

  pub shown_did : (old new : A) (given : Given) (outcome : ConsumerOutcome) (taken0 taken1 : Option (List ℕ)) → Did m (show old) given outcome taken0 taken1 (show new) → Did (through show m) old given outcome taken0 taken1 new
  shown_did old new given outcome taken0 taken1 d = record { written = d.written; does = d.does; writes = d.writes }

  pub seen_took : (old new : A) (start now : Moment) → Took (through show m) old start now new → Took m (show old) start now (show new)
  seen_took old new start now t = record { read = t.read; gives = t.gives; did = seen_did old new (piece t.read) goes_on start.taken now.taken t.did }

  pub seen_all_took : (old : A) (start now : Moment) → AllTook (through show m) old start now → AllTook m (show old) start now
  seen_all_took old start now t = record { consumer = show t.consumer; took = seen_took old t.consumer start now t.took; flushed = t.flushed }

  pub seen_last : (old new : A) (start now : Moment) (size : ℕ) (outcome : ConsumerOutcome) → TookLast (through show m) old start now size outcome new → TookLast m (show old) start now size outcome (show new)
  seen_last old new start now size outcome t = record {
    mid = show t.mid;
    middle = t.middle;
    took = seen_took old t.mid start t.middle t.took;
    last = t.last;
    gives = t.gives;
    short = t.short;
    timely = t.timely;
    did = seen_did t.mid new t.last outcome t.middle.taken now.taken t.did;
  }

-- ---- the answer of a step

pub no_step_spent : {A : Type 0} (P : Type 0) (r : Result A ServeError) → IfErr r IsInStep → IfSome (result_err r) (λ e. e ≡ ReadsSpent → P)
no_step_spent P (Ok x) others = tt
no_step_spent P (Err e) others = λ is. absurd (subst IsInStep is others)

pub no_step_fault : {A : Type 0} (P : Type 0) (r : Result A ServeError) → IfErr r IsInStep → IfSome (result_err r) (λ e. e ≡ ReadFault → P)
no_step_fault P (Ok x) others = tt
no_step_fault P (Err e) others = λ is. absurd (subst IsInStep is others)

-- all was flushed before the step too
pub flushed_then : (taken0 taken1 taken2 : Option (List ℕ)) (count0 count1 count2 : Option ℕ) (error : Option ServeError) → (IsFlushed taken0 count0 → IsFlushed taken1 count1)
    → StaysFlushed taken1 count1 taken2 count2 error → StaysFlushed taken0 count0 taken2 count2 error
flushed_then taken0 taken1 taken2 count0 count1 count2 None before p = record { flushed = λ was. p.flushed (before was); flushed_at = tt }
flushed_then taken0 taken1 taken2 count0 count1 count2 (Some e) before p = record { flushed = tt; flushed_at = λ at was. p.flushed_at at (before was) }

-- no read failed before the step, and none in it
module _ {A O B : Type 0} (faults_of : O → ℕ) (beside_of : O → B) (old new : O) (reads reads_after writes : ℕ) (same : reads_after ≡ reads) (kept : faults_of old ≡ writes) where
  pub step_tells : (r : Result A ServeError) → IfErr r IsInStep → LeavesFaults faults_of beside_of old new (result_err r) → TellsFaults reads reads_after writes (faults_of new) (result_err r)
  step_tells (Ok x) others p = record {
    read = tt;
    write = tt;
    counts = (omega (arith, same), omega (arith, kept, p.count));
    read_told = λ rose. absurd (omega (arith, same, rose));
    write_told = λ rose. absurd (omega (arith, kept, p.unfailed, rose));
  }
  step_tells (Err e) others p = record {
    read = λ is. absurd (subst IsInStep is others);
    write = λ is. subst (λ n. CountRose n (faults_of new)) kept (p.write is);
    counts = (omega (arith, same), omega (arith, kept, p.count));
    read_told = λ rose. absurd (omega (arith, same, rose));
    write_told = λ rose. told e others p.left rose;
  }
    where
      told : (e : ServeError) → IsInStep e → (LeavesSink e → faults_of new ≡ faults_of old) → writes < faults_of new → Some e ≡ Some WriteFault
      told ReadFault others left rose = absurd others
      told WriteFault others left rose = refl
      told ReadsSpent others left rose = absurd others
      told (DeskSpent n) others left rose = absurd (omega (arith, kept, left tt, rose))
      told NoMemory others left rose = absurd (omega (arith, kept, left tt, rose))
