-- How a reading goes on, and how it ends.
use Rattle.std.proofs.Common.{◌≡◌, ◌≤◌, ◌<◌, ◌+◌, ◌*◌, ℕ, List, [], ◌++◌, length, refl, sym, ◌∙◌, ap, subst, arith}
use Rattle.std.specs.Prelude.{Option, Some, None, IfSome}
use Rattle.std.specs.Io.KnownBytes.{Consumes}
use Rattle.std.proofs.lemmas.List.{append-nil, map-append, length-append}
use Rattle.rtrb.specs.Ring.{sent}
use Rattle.lsp_frame.specs.Codec.{At, more, told_at}
use Rattle.lsp_session.specs.Item.{ItemData}
use Rattle.lsp_server.specs.Items.{admitted, all_admitted, Decodes}
use Rattle.lsp_server.proofs.CodecLemmas.{decodes_nothing, decodes_more, decodes_fed, more_nothing, more_more}
use Rattle.lsp_server.proofs.KnownLemmas.{consumes_none, consumes_more}
use Rattle.lsp_server.specs.SourceSink.{CountRose}
use Rattle.lsp_pump.specs.declared.job.Ended.{Ended}
use Rattle.lsp_pump.specs.declared.job.Ended.TheVariants.{Open, End, Failed}
use Rattle.lsp_pump.specs.declared.job.Reading.{Reading}
use Rattle.lsp_pump.specs.Pieces.{all_items, back_items, some_float}
use Rattle.lsp_pump.specs.Reading.{TellsAll, ReadOnce, ReadEnds, CountsReads, EndsBy, HasRead, IsUnbegun, HasBegun, IsReadingOf}

-- ---- what is told

pub tells_none : (codec : At) → told_at codec ≡ [] → TellsAll (more codec []) [] codec
tells_none codec told = subst (λ k. TellsAll k [] codec) (sym (more_nothing codec)) (record { found = []; is = refl; decodes = decodes_nothing codec; told = told })

pub tells_more : (a b c : At) (read bytes : List ℕ) (xs ys : List ItemData) → TellsAll (more a read) xs b → TellsAll (more b bytes) ys c → TellsAll (more a (read ++ bytes)) (xs ++ ys) c
tells_more a b c read bytes xs ys p q = record {
  found = p.found ++ q.found;
  is = ap (λ l. l ++ ys) p.is ∙ ap (λ l. all_admitted p.found ++ l) q.is ∙ sym (map-append admitted p.found q.found);
  decodes = subst (λ k. Decodes k (p.found ++ q.found) c) (more_more a read bytes) (decodes_more (more (more a read) bytes) (more b bytes) c p.found q.found (decodes_fed (more a read) b p.found bytes p.decodes) q.decodes);
  told = q.told;
}

-- ---- how many reads

pub counts_none : CountsReads [] 0
counts_none = record { each = omega arith; few = omega arith }

pub counts_more : (read bytes : List ℕ) (made : ℕ) → CountsReads read made → 0 < length bytes → length bytes ≤ 4096 → CountsReads (read ++ bytes) (made + 1)
counts_more read bytes made p some short = record {
  each = omega (arith, length-append read bytes, p.each, some);
  few = omega (arith, length-append read bytes, p.few, short);
}

-- ---- how it ends

module _ (codec : At) (left0 left1 : Option (List ℕ)) (read : List ℕ) (given : List ItemData) (there : At) (made : ℕ)
    (gives : Consumes left0 left1 read) (tells : TellsAll (more codec read) given there) (reads : CountsReads read made) where
  -- after all that was told so far
  pub ended_now : (ended : Ended) → HasRead codec left0 left1 made given there ended
  ended_now ended = record {
    read = read;
    lost = [];
    there = there;
    gives = subst (λ l. Consumes left0 left1 l) (sym (append-nil read)) gives;
    tells = tells;
    whole = λ _. (refl, refl);
    few = subst (λ (l : List ℕ). length l ≤ made * 4096) (sym (append-nil read)) reads.few;
    each = λ _. subst (λ (l : List ℕ). made ≤ length l) (sym (append-nil read)) reads.each;
  }

  -- after one read more
  pub ended_after : (left2 : Option (List ℕ)) (faults1 faults2 : ℕ) (items : List ItemData) (later : At) (ended : Ended) → ReadOnce there left1 left2 faults1 faults2 items later → HasRead codec left0 left2 (made + 1) (given ++ items) later ended
  ended_after left2 faults1 faults2 items later ended o = record {
    read = read ++ o.read;
    lost = [];
    there = later;
    gives = subst (λ l. Consumes left0 left2 l) (sym (append-nil (read ++ o.read))) (consumes_more left0 left1 left2 read o.read gives o.gives);
    tells = tells_more codec there later read o.read given items tells o.tells;
    whole = λ _. (refl, refl);
    few = subst (λ (l : List ℕ). length l ≤ (made + 1) * 4096) (sym (append-nil (read ++ o.read))) (counts_more read o.read made reads o.some o.short).few;
    each = λ _. subst (λ (l : List ℕ). made + 1 ≤ length l) (sym (append-nil (read ++ o.read))) (counts_more read o.read made reads o.some o.short).each;
  }

  -- by a read that gave nothing to the codec
  pub ended_by : (left2 : Option (List ℕ)) (faults1 faults2 : ℕ) (later : At) (ended : Ended) → ReadEnds there left1 left2 faults1 faults2 ended later → HasRead codec left0 left2 (made + 1) given later ended
  ended_by left2 faults1 faults2 later ended e = record {
    read = read;
    lost = e.lost;
    there = there;
    gives = consumes_more left0 left1 left2 read e.lost gives e.gives;
    tells = tells;
    whole = e.whole;
    few = omega (arith, length-append read e.lost, reads.few, e.short);
    each = λ leaves. absurd (e.stops leaves);
  }

-- ---- the causes of ends

-- nothing failed, and there may be more to read
pub ends_open : (left0 left1 : Option (List ℕ)) (faults0 faults1 reads made : ℕ) → faults1 ≡ faults0 → made ≤ reads → EndsBy left0 left1 faults0 faults1 reads made Open
ends_open left0 left1 faults0 faults1 reads made same most = record {
  at_end = λ is. absurd (let bad : Open ≡ End = is in cc);
  failed = λ is. absurd (let bad : Open ≡ Failed = is in cc);
  unfailed = λ _. same;
  counts = omega (arith, same);
  most = most;
}

-- a read ended the reading
pub ends_by_read : (codec later : At) (left0 left1 left2 : Option (List ℕ)) (read : List ℕ) (faults0 faults1 faults2 reads made : ℕ) (ended : Ended) → Consumes left0 left1 read → ReadEnds codec left1 left2 faults1 faults2 ended later → faults1 ≡ faults0
    → made ≤ reads → EndsBy left0 left2 faults0 faults2 reads made ended
ends_by_read codec later left0 left1 left2 read faults0 faults1 faults2 reads made ended gives e same most = record {
  at_end = λ is. told_end left0 left1 left2 read gives (e.at_end is);
  failed = λ is. subst (λ n. CountRose n faults2) same (e.failed is);
  unfailed = λ not_failed. e.unfailed not_failed ∙ same;
  counts = omega (arith, same, e.counts);
  most = most;
}
  where
    told_end : (l0 l1 l2 : Option (List ℕ)) (xs : List ℕ) → Consumes l0 l1 xs → IfSome l1 (λ _. l2 ≡ Some []) → IfSome l0 (λ _. l2 ≡ Some [])
    told_end None l1 l2 xs g p = tt
    told_end (Some bytes) None l2 xs g p = absurd g
    told_end (Some bytes) (Some rest) l2 xs g p = p

-- ---- a reading

module _ {I : Type 0} (left_of : I → Option (List ℕ)) (faults_of : I → ℕ) where
  -- one that is to begin has told nothing
  pub fresh_begun : (r : Reading I) → IsUnbegun r → HasBegun left_of faults_of r r
  fresh_begun r fresh = record {
    ring = ((refl, refl, refl, refl), refl);
    read = [];
    gives = consumes_none (left_of r.source);
    tells = subst (λ (l : List ItemData). TellsAll (more r.codec []) l r.codec) (sym (ap all_items fresh.sent)) (tells_none r.codec fresh.told);
    reads = subst (λ n. CountsReads [] n) (sym fresh.made) counts_none;
    unfailed = refl;
    none = fresh.back;
  }

  -- one that went on stops where it is
  pub stops_open : (start end : Reading I) (reads : ℕ) → HasBegun left_of faults_of start end → end.made ≤ reads → IsReadingOf left_of faults_of start reads end Open
  stops_open start end reads p most =
      let told = all_items (sent end.sender) in
      let all : told ≡ told ++ back_items end.back = sym (append-nil told) ∙ ap (λ b. told ++ back_items b) (sym p.none) in
      record {
        ring = p.ring;
        has = subst (λ (l : List ItemData). HasRead start.codec (left_of start.source) (left_of end.source) end.made l end.codec Open) all
            (ended_now start.codec (left_of start.source) (left_of end.source) p.read told end.codec end.made p.gives p.tells p.reads Open);
        ends = ends_open (left_of start.source) (left_of end.source) (faults_of start.source) (faults_of end.source) reads end.made p.unfailed most;
        float_free = ap (λ b. some_float (back_items b)) p.none;
      }

  pub fresh_open : (r : Reading I) (reads : ℕ) → IsUnbegun r → IsReadingOf left_of faults_of r reads r r.ended
  fresh_open r reads fresh = subst (IsReadingOf left_of faults_of r reads r) (sym fresh.ended) (stops_open r r reads (fresh_begun r fresh) (omega (arith, fresh.made)))
