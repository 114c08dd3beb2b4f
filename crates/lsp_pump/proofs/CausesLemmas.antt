-- Faults and reads of a reading, and of what is served after it.
use Rattle.std.proofs.Common.{◌≡◌, ◌≢◌, inl, inr, ◌≤◌, ◌<◌, ◌+◌, ◌-◌, ◌*◌, ℕ, List, [], length, refl, sym, ◌∙◌, ap, subst, arith, Bool, true}
use Rattle.std.specs.Prelude.{◌⊎◌, Option, Some, None, IfSome, IfNone}
use Rattle.std.specs.Io.KnownBytes.{Consumes}
use Rattle.std.proofs.lemmas.List.{length-append}
use Rattle.lsp_server.specs.declared.step.ServeError.{ServeError}
use Rattle.lsp_server.specs.declared.step.ServeError.TheVariants.{ReadFault, WriteFault, ReadsSpent, DeskSpent, NoMemory as OutOfMemory}
use Rattle.lsp_server.specs.Errors.{IsInStep, LeavesSink}
use Rattle.lsp_server.specs.Leaves.{LeavesFaults, TellsFaults, WithinReads}
use Rattle.lsp_server.specs.SourceSink.{CountRose}
use Rattle.lsp_pump.specs.declared.job.Ended.{Ended}
use Rattle.lsp_pump.specs.declared.job.Ended.TheVariants.{Open, End, Failed, NoMemory}
use Rattle.lsp_pump.specs.Reading.{LeavesReads}
use Rattle.lsp_pump.specs.Pumped.{TellsPumpFaults}

-- ---- faults

module _ (r0 r1 r2 w0 w1 w2 : ℕ) (exits : Bool) (e : Option ServeError) (kept : w1 ≡ w0) where
  unfailed : r1 ≡ r0 → TellsFaults r1 r2 w1 w2 e → TellsPumpFaults r0 r2 w0 w2 exits e
  unfailed same p =
      let q : TellsFaults r0 r2 w0 w2 e = subst (λ n. TellsFaults n r2 w0 w2 e) same (subst (λ n. TellsFaults r1 r2 n w2 e) kept p) in
      record {
        read = q.read;
        write = q.write;
        counts = q.counts;
        read_told = λ rose. subst (λ o. IfSome o (λ k. (k ≡ ReadFault) ⊎ IsInStep k)) (sym (q.read_told rose)) (inl refl);
        at_end = λ rose. subst (λ o. IfNone o (exits ≡ true)) (sym (q.read_told rose)) tt;
        write_told = q.write_told;
      }

  failed : CountRose r0 r1 → r0 ≤ r1 → (e ≡ Some ReadFault) × (r2 ≡ r1) × (w2 ≡ w1) → TellsPumpFaults r0 r2 w0 w2 exits e
  failed rose counts p =
      let same : w2 ≡ w0 = p.2 ∙ kept in
      subst (TellsPumpFaults r0 r2 w0 w2 exits) (sym p.0) (record {
        read = λ _. subst (CountRose r0) (sym p.1) rose;
        write = λ bad. absurd (let b : ReadFault ≡ WriteFault = bad in cc);
        counts = (omega (arith, counts, p.1), omega (arith, same));
        read_told = λ _. inl refl;
        at_end = λ _. tt;
        write_told = λ more. absurd (omega (arith, same, more));
      })

  pub pump_faults : (ended : Ended) → (ended ≡ Failed → CountRose r0 r1) → (ended ≢ Failed → r1 ≡ r0) → r0 ≤ r1 → (ended ≢ Failed → TellsFaults r1 r2 w1 w2 e)
      → (ended ≡ Failed → (e ≡ Some ReadFault) × (r2 ≡ r1) × (w2 ≡ w1)) → TellsPumpFaults r0 r2 w0 w2 exits e
  pump_faults Failed rose same counts others p = failed (rose refl) counts (p refl)
  pump_faults Open rose same counts others p = unfailed (same (λ is. cc)) (others (λ is. cc))
  pump_faults End rose same counts others p = unfailed (same (λ is. cc)) (others (λ is. cc))
  pump_faults NoMemory rose same counts others p = unfailed (same (λ is. cc)) (others (λ is. cc))

-- an error of a step tells a write that failed
write_told : (w0 w1 : ℕ) (e : ServeError) → IsInStep e → (LeavesSink e → w1 ≡ w0) → w0 < w1 → Some e ≡ Some WriteFault
write_told w0 w1 ReadFault at left rose = absurd at
write_told w0 w1 WriteFault at left rose = refl
write_told w0 w1 ReadsSpent at left rose = absurd at
write_told w0 w1 (DeskSpent n) at left rose = absurd (omega (arith, left tt, rose))
write_told w0 w1 OutOfMemory at left rose = absurd (omega (arith, left tt, rose))

-- a source that gives nothing doesn't fail
not_rose : CountRose 0 0 → ⊥
not_rose (inl less) = omega (arith, less)
not_rose (inr most) = omega (arith, most)

-- where the end of input was served
pub end_faults : (r w0 w1 : ℕ) (e : Option ServeError) → TellsFaults 0 0 w0 w1 e → TellsFaults r r w0 w1 e
end_faults r w0 w1 e p = record {
  read = unread e p.read;
  write = p.write;
  counts = (omega arith, p.counts.1);
  read_told = λ rose. absurd (omega (arith, rose));
  write_told = p.write_told;
}
  where
    unread : (k : Option ServeError) → IfSome k (λ x. x ≡ ReadFault → CountRose 0 0) → IfSome k (λ x. x ≡ ReadFault → CountRose r r)
    unread None h = tt
    unread (Some x) h = λ is. absurd (not_rose (h is))

pub end_in_step : (w0 w1 : ℕ) (e : Option ServeError) → TellsFaults 0 0 w0 w1 e → WithinReads 1 4096 (Some []) (Some []) None None e → IfSome e IsInStep
end_in_step w0 w1 None p q = tt
end_in_step w0 w1 (Some ReadFault) p q = absurd (not_rose (p.read refl))
end_in_step w0 w1 (Some WriteFault) p q = tt
end_in_step w0 w1 (Some ReadsSpent) p q = absurd (omega (arith, q.reads_spent refl))
end_in_step w0 w1 (Some (DeskSpent n)) p q = tt
end_in_step w0 w1 (Some OutOfMemory) p q = tt

-- where nothing was done, for another error
pub idle_faults : (r w : ℕ) (e : ServeError) → e ≢ ReadFault → e ≢ WriteFault → TellsFaults r r w w (Some e)
idle_faults r w e not_read not_write = record {
  read = λ is. absurd (not_read is);
  write = λ is. absurd (not_write is);
  counts = (omega arith, omega arith);
  read_told = λ rose. absurd (omega (arith, rose));
  write_told = λ rose. absurd (omega (arith, rose));
}

-- where nothing is served after the steps beside the reading
module _ {X B : Type 0} (faults_of : X → ℕ) (beside_of : X → B) (old new : X) (r0 r1 : ℕ) (exits : Bool) (counts : r0 ≤ r1) where
  pub exit_faults : exits ≡ true → LeavesFaults faults_of beside_of old new None → TellsPumpFaults r0 r1 (faults_of old) (faults_of new) exits None
  exit_faults is p = record {
    read = tt;
    write = tt;
    counts = (counts, p.count);
    read_told = λ _. tt;
    at_end = λ _. is;
    write_told = λ rose. absurd (omega (arith, p.unfailed, rose));
  }

  pub step_faults : (e : ServeError) → IsInStep e → LeavesFaults faults_of beside_of old new (Some e) → TellsPumpFaults r0 r1 (faults_of old) (faults_of new) exits (Some e)
  step_faults e at p = record {
    read = λ is. absurd (subst IsInStep is at);
    write = p.write;
    counts = (counts, p.count);
    read_told = λ _. inr at;
    at_end = λ _. tt;
    write_told = write_told (faults_of old) (faults_of new) e at p.left;
  }

-- ---- reads

pub any_some : {A : Type 0} (o : Option A) (P : A → Type 0) → ((x : A) → P x) → IfSome o P
any_some None P p = tt
any_some (Some x) P p = p x

few_of : (l0 l1 : Option (List ℕ)) (xs : List ℕ) (n : ℕ) → Consumes l0 l1 xs → length xs ≤ n → IfSome l0 (λ bytes. IfSome l1 (λ rest. length bytes ≤ length rest + n))
few_of None l1 xs n is short = tt
few_of (Some bytes) None xs n is short = tt
few_of (Some bytes) (Some rest) xs n is short = omega (arith, ap length is, length-append xs rest, short)

-- reads, and steps beside them that ended serving
pub within_read : (l0 l1 : Option (List ℕ)) (xs : List ℕ) (made reads : ℕ) (e : Option ServeError) → Consumes l0 l1 xs → length xs ≤ made * 4096 → made ≤ reads → IfSome e IsInStep → WithinReads reads 4096 l0 l1 None None e
within_read l0 l1 xs made reads e gives few most in_step = record {
  few = few_of l0 l1 xs (reads * 4096) gives (omega (arith, few, most));
  reads_spent = unspent e in_step;
  few_reads = tt;
  all_reads = any_some e _ (λ _ _. tt);
  fewer_at_fault = any_some e _ (λ _ _. tt);
}
  where
    unspent : (k : Option ServeError) → IfSome k IsInStep → IfSome k (λ x. x ≡ ReadsSpent → IfSome l0 (λ bytes. IfSome l1 (λ rest. reads + length rest ≤ length bytes)))
    unspent None h = tt
    unspent (Some x) h = λ is. absurd (subst IsInStep is h)

-- no reads
pub within_none : (n : ℕ) (l : Option (List ℕ)) (e : ServeError) → (e ≡ ReadsSpent → n ≡ 0) → WithinReads n 4096 l l None None (Some e)
within_none n l e none = record {
  few = few l;
  reads_spent = λ is. spent l (none is);
  few_reads = tt;
  all_reads = λ _. tt;
  fewer_at_fault = λ _. tt;
}
  where
    few : (l : Option (List ℕ)) → IfSome l (λ bytes. IfSome l (λ rest. length bytes ≤ length rest + n * 4096))
    few None = tt
    few (Some bytes) = omega arith

    spent : (l : Option (List ℕ)) → n ≡ 0 → IfSome l (λ bytes. IfSome l (λ rest. n + length rest ≤ length bytes))
    spent None is = tt
    spent (Some bytes) is = omega (arith, is)

-- reads, and those that were made after them
pub within_on : (l0 l1 l2 : Option (List ℕ)) (xs : List ℕ) (made reads : ℕ) (ended : Ended) (e : Option ServeError) → Consumes l0 l1 xs → length xs ≤ made * 4096 → made ≤ reads → (LeavesReads ended → made ≤ length xs)
    → WithinReads (reads - made) 4096 l1 l2 None None e → IfSome e (λ k. k ≡ ReadsSpent → LeavesReads ended) → WithinReads reads 4096 l0 l2 None None e
within_on l0 l1 l2 xs made reads ended e gives few most each p leaves = record {
  few = few_all l0 l1 l2 gives p.few;
  reads_spent = spent e p.reads_spent leaves;
  few_reads = tt;
  all_reads = any_some e _ (λ _ _. tt);
  fewer_at_fault = any_some e _ (λ _ _. tt);
}
  where
    few_all : (a b c : Option (List ℕ)) → Consumes a b xs → IfSome b (λ bytes. IfSome c (λ rest. length bytes ≤ length rest + (reads - made) * 4096)) → IfSome a (λ bytes. IfSome c (λ rest. length bytes ≤ length rest + reads * 4096))
    few_all None b c g q = tt
    few_all (Some x) None c g q = absurd g
    few_all (Some x) (Some y) None g q = tt
    few_all (Some x) (Some y) (Some z) g q = omega (arith, ap length g, length-append xs y, few, most, q)

    spent_all : (a b c : Option (List ℕ)) → Consumes a b xs → made ≤ length xs → IfSome b (λ bytes. IfSome c (λ rest. (reads - made) + length rest ≤ length bytes)) → IfSome a (λ bytes. IfSome c (λ rest. reads + length rest ≤ length bytes))
    spent_all None b c g h q = tt
    spent_all (Some x) None c g h q = absurd g
    spent_all (Some x) (Some y) None g h q = tt
    spent_all (Some x) (Some y) (Some z) g h q = omega (arith, ap length g, length-append xs y, h, most, q)

    spent : (k : Option ServeError) → IfSome k (λ x. x ≡ ReadsSpent → IfSome l1 (λ bytes. IfSome l2 (λ rest. (reads - made) + length rest ≤ length bytes))) → IfSome k (λ x. x ≡ ReadsSpent → LeavesReads ended)
        → IfSome k (λ x. x ≡ ReadsSpent → IfSome l0 (λ bytes. IfSome l2 (λ rest. reads + length rest ≤ length bytes)))
    spent None q h = tt
    spent (Some x) q h = λ is. spent_all l0 l1 l2 gives (each (h is)) (q is)
