-- What is served on after all that a reading gave, and what pumping comes to by it.
use Rattle.std.proofs.Common.{◌≡◌, ◌-◌, ℕ, List, [], ◌++◌, sym, ◌∙◌, refl, ap, append_assoc, subst, arith, true, false}
use Rattle.std.specs.Prelude.{Option, Some, None, IfSome, IfNone, Bool, Result, Ok, Err, OnOk, IfErr}
use Rattle.std.specs.Result.{result_err}
use Rattle.std.specs.Global.{Vec}
use Rattle.rtrb.specs.Ring.{sent}
use Rattle.lsp_desk.specs.Meaning.{Grown}
use Rattle.lsp_frame.specs.Codec.{At, told_at}
use Rattle.lsp_session.specs.declared.item.Item.{Item}
use Rattle.lsp_session.specs.Item.{ItemData}
use Rattle.lsp_server.specs.declared.step.ServeError.{ServeError}
use Rattle.lsp_server.specs.declared.step.ServeError.TheVariants.{ReadFault, NoMemory as OutOfMemory}
use Rattle.lsp_server.specs.Errors.{StaysWhole}
use Rattle.lsp_server.proofs.KnownLemmas.{consumes_none, if_told, some_at}
use Rattle.lsp_server.proofs.RanLemmas.{grown_after}
use Rattle.lsp_server.proofs.TakingLemmas.{flushed_then}
use Rattle.lsp_pump.specs.declared.job.Ended.{Ended}
use Rattle.lsp_pump.specs.declared.job.Ended.TheVariants.{Open, End, Failed, NoMemory}
use Rattle.lsp_pump.specs.declared.job.Reading.{Reading}
use Rattle.lsp_pump.specs.Pieces.{all_items, back_items}
use Rattle.lsp_pump.specs.Steps.{Way, MayGoOn, MakesSteps}
use Rattle.lsp_pump.specs.Reading.{KeepsAllBytes, HasRead, EndsBy}
use Rattle.lsp_pump.specs.Pumped.{PumpsOver}
use Rattle.lsp_pump.specs.Onward.{course_at, call_bytes_from, ServesAt, ServedFrom, Stays, Finishes, PumpsOn, PumpsAfter}
use Rattle.lsp_pump.proofs.PiecesLemmas.{all_items-append}
use Rattle.lsp_pump.proofs.ReadingLemmas.{tells_none, counts_none, ended_now, ends_open}
use Rattle.lsp_pump.proofs.StepsLemmas.{makes_none, makes_more, makes_ended, makes_failed, makes_short}
use Rattle.lsp_pump.proofs.PumpedLemmas.{nothing_on, pumped_exit, pumped_error, pumped_on}
use Rattle.lsp_pump.proofs.CausesLemmas.{pump_faults, exit_faults, step_faults, end_faults, end_in_step, any_some, within_read, within_none, within_on}

-- ---- by the error that is answered

pub kept_ok : {A P : Type 0} (r : Result A ServeError) → (StaysWhole r → P) → IfNone (result_err r) P
kept_ok (Ok x) p = p tt
kept_ok (Err e) p = tt

pub on_ok_none : {A : Type 0} (r : Result A ServeError) (P : Type 0) → IfNone (result_err r) P → OnOk r P
on_ok_none (Ok x) P p = p
on_ok_none (Err e) P p = tt

pub told_err : {A : Type 0} (r : Result A ServeError) (P : ServeError → Type 0) → IfErr r P → IfSome (result_err r) P
told_err (Ok x) P p = tt
told_err (Err e) P p = p

-- a call served on, where its source is what such a call left
pub goes_by : {X S D B I : Type 0} (way : Way X S D B) (left_of : I → Option (List ℕ)) (faults_of : I → ℕ) (rounds reads : ℕ) (codec : At) (source source1 source2 : I) (a : X) (e : Option ServeError) (b : X) → source2 ≡ source1
    → ServedFrom way rounds reads codec (left_of source) (left_of source1) (faults_of source) (faults_of source1) a e b → ServedFrom way rounds reads codec (left_of source) (left_of source2) (faults_of source) (faults_of source2) a e b
goes_by way left_of faults_of rounds reads codec source source1 source2 a e b is f = subst (λ s. ServedFrom way rounds reads codec (left_of source) (left_of s) (faults_of source) (faults_of s) a e b) (sym is) f

-- ---- pumping

module _ {X S D B : Type 0} (way : Way X S D B) (rounds reads : ℕ) (codec : At) (left : Option (List ℕ)) (faults : ℕ) (a : X) where
  abbrev Pumps : Option ServeError → Option (List ℕ) → ℕ → X → Type 0
  Pumps error left1 faults1 b = PumpsOn way rounds reads codec left left1 faults faults1 a error b

  module _ (left1 : Option (List ℕ)) (faults1 made : ℕ) (codec1 : At) (given : List ItemData) where
    abbrev Has : Ended → Type 0
    Has ended = HasRead codec left left1 made given codec1 ended

    abbrev Ends : Ended → Type 0
    Ends ended = EndsBy left left1 faults faults1 reads made ended

    -- there was an exit among what was given
    pub pumps_exit : (ended : Ended) → Has ended → Ends ended → (b : X) → MakesSteps way rounds a given (Ok true) b → Pumps None left1 faults1 b
    pumps_exit ended has ends b p = record {
      pumps = if_told left _ (λ bytes is. pumped_exit (course_at way rounds codec.settings a) (way.place a).taken codec bytes left left1 is made given codec1 ended has (way.place b) p.answered);
      ready = p.stands.0;
      grown = p.grown;
      spent = tt;
      flushed = p.flushed;
      faults = exit_faults way.faults way.beside a b faults faults1 (way.has_exited b) ends.counts p.stands.1 p.sink;
      within = within_read left left1 (has.read ++ has.lost) made reads None has.gives has.few ends.most tt;
      beside = p.sink.beside;
    }

    -- a step of what was given failed
    pub pumps_failed : (ended : Ended) → Has ended → Ends ended → (b : X) (e : ServeError) → MakesSteps way rounds a given (Err e) b → Pumps (Some e) left1 faults1 b
    pumps_failed ended has ends b e p = record {
      pumps = if_told left _ (λ bytes is. pumped_error (course_at way rounds codec.settings a) (way.place a).taken codec bytes left left1 is made given codec1 ended has (way.place b) e p.fails.in_step p.answered);
      ready = tt;
      grown = p.grown;
      spent = p.fails.spent;
      flushed = p.flushed;
      faults = step_faults way.faults way.beside a b faults faults1 (way.has_exited b) ends.counts e p.fails.in_step p.sink;
      within = within_read left left1 (has.read ++ has.lost) made reads (Some e) has.gives has.few ends.most p.fails.in_step;
      beside = p.sink.beside;
    }

    -- all that was given was served, and then what came after it
    module _ (b : X) (p : MakesSteps way rounds a given (Ok false) b) where
      abbrev ServesAfter : Option (List ℕ) → Option ServeError → X → List ℕ → Type 0
      ServesAfter left2 e d bytes = ServesAt way rounds codec1 bytes left2 b e d

      pumps_over : (ended : Ended) → Has ended → KeepsAllBytes ended → (left2 : Option (List ℕ)) (e : Option ServeError) (d : X) (bytes : List ℕ) → left ≡ Some bytes → IfSome left1 (ServesAfter left2 e d)
          → PumpsOver (course_at way rounds codec.settings a) codec (call_bytes_from way rounds bytes left2 a d) (way.place d).state (way.place d).desk e
      pumps_over ended has keeps left2 e d bytes is on =
          pumped_on (course_at way rounds codec.settings a) (way.place a).taken codec bytes left left1 is made given codec1 ended has keeps (way.place b) p.answered
          codec1.settings (way.table (way.place b).state) p.same left2 (way.place d).taken (way.place d).state (way.place d).desk e on

      grown_on_to : (d : X) → Grown way.meaning (way.place b).desk (way.place d).desk → Grown way.meaning (way.place a).desk (way.place d).desk
      grown_on_to d grown = grown_after (way.place a) (way.place b) (way.place d).desk p.answered.list p.answered.ran grown

      -- it was served on from source and codec
      went_on : Has Open → Ends Open → (left2 : Option (List ℕ)) (faults2 : ℕ) (e : Option ServeError) (d : X) → ServedFrom way rounds (reads - made) codec1 left1 left2 faults1 faults2 b e d → Pumps e left2 faults2 d
      went_on has ends left2 faults2 e d f = record {
        pumps = if_told left _ (λ bytes is. pumps_over Open has tt left2 e d bytes is f.serves);
        ready = f.ready;
        grown = grown_on_to d f.grown;
        spent = f.spent;
        flushed = flushed_then _ _ _ _ _ _ e p.flushed.flushed f.flushed;
        faults = pump_faults faults faults1 faults2 (way.faults a) (way.faults b) (way.faults d) (way.has_exited d) e p.sink.unfailed Open ends.failed ends.unfailed ends.counts (λ _. f.faults) (λ is. absurd (let bad : Open ≡ Failed = is in cc));
        within = within_on left left1 left2 (has.read ++ has.lost) made reads Open e has.gives has.few ends.most has.each f.within (any_some e _ (λ _ _. tt));
        beside = f.beside ∙ p.sink.beside;
      }

      -- the end of input was
      ended_input : Has End → Ends End → (e : Option ServeError) (d : X) → ServedFrom way rounds 1 codec1 (Some []) (Some []) 0 0 b e d → Pumps e left1 faults1 d
      ended_input has ends e d f = record {
        pumps = if_told left _ (λ bytes is.
            let empty : left1 ≡ Some [] = some_at left _ bytes is (ends.at_end refl) in
            let serves : ServesAfter left1 e d [] = subst (λ l. ServesAt way rounds codec1 [] l b e d) (sym empty) f.serves in
            pumps_over End has tt left1 e d bytes is (subst (λ o. IfSome o (ServesAfter left1 e d)) (sym empty) serves));
        ready = f.ready;
        grown = grown_on_to d f.grown;
        spent = f.spent;
        flushed = flushed_then _ _ _ _ _ _ e p.flushed.flushed f.flushed;
        faults = pump_faults faults faults1 faults1 (way.faults a) (way.faults b) (way.faults d) (way.has_exited d) e p.sink.unfailed End ends.failed ends.unfailed ends.counts
            (λ _. end_faults faults1 (way.faults b) (way.faults d) e f.faults) (λ is. absurd (let bad : End ≡ Failed = is in cc));
        within = within_read left left1 (has.read ++ has.lost) made reads e has.gives has.few ends.most (end_in_step (way.faults b) (way.faults d) e f.faults f.within);
        beside = f.beside ∙ p.sink.beside;
      }

      -- nothing was, where a read failed
      read_failed : Has Failed → Ends Failed → Pumps (Some ReadFault) left1 faults1 b
      read_failed has ends = record {
        pumps = if_told left _ (λ bytes is. pumps_over Failed has tt left1 (Some ReadFault) b bytes is
            (if_told left1 _ (λ rest at. nothing_on (course_at way rounds codec1.settings b) codec1 (way.place b).taken rest left1 ReadFault at (ap told_at (has.whole tt).1 ∙ has.tells.told))));
        ready = tt;
        grown = p.grown;
        spent = tt;
        flushed = record { flushed = tt; flushed_at = λ _ was. p.flushed.flushed was };
        faults = pump_faults faults faults1 faults1 (way.faults a) (way.faults b) (way.faults b) (way.has_exited b) (Some ReadFault) p.sink.unfailed Failed ends.failed ends.unfailed ends.counts
            (λ is. absurd (is refl)) (λ _. (refl, refl, refl));
        within = within_on left left1 left1 (has.read ++ has.lost) made reads Failed (Some ReadFault) has.gives has.few ends.most has.each
            (within_none (reads - made) left1 ReadFault (λ is. cc)) (λ is. absurd (cc));
        beside = p.sink.beside;
      }

      stayed : (left2 : Option (List ℕ)) (faults2 : ℕ) (e : Option ServeError) (d : X) (k : ServeError) → Stays way rounds (reads - made) codec1 left1 left2 faults1 faults2 b e d k → Pumps (Some k) left1 faults1 b → Pumps e left2 faults2 d
      stayed left2 faults2 e d k f q =
          subst (λ x. Pumps e left2 faults2 x) (sym f.is) (subst (λ n. Pumps e left2 n b) (sym f.faults_is) (subst (λ l. Pumps e l faults1 b) (sym f.left_is) (subst (λ o. Pumps o left1 faults1 b) (sym f.told) q)))

      pub pumps_on : (ended : Ended) → Has ended → Ends ended → (left2 : Option (List ℕ)) (faults2 : ℕ) (e : Option ServeError) (d : X) → Finishes way rounds ended (reads - made) codec1 left1 left2 faults1 faults2 b e d → Pumps e left2 faults2 d
      pumps_on Open has ends left2 faults2 e d f = went_on has ends left2 faults2 e d f
      pumps_on End has ends left2 faults2 e d f = subst (λ n. Pumps e left2 n d) (sym f.2) (subst (λ l. Pumps e l faults1 d) (sym f.1) (ended_input has ends e d f.0))
      pumps_on Failed has ends left2 faults2 e d f = stayed left2 faults2 e d ReadFault f (read_failed has ends)
      pumps_on NoMemory has ends left2 faults2 e d f = stayed left2 faults2 e d OutOfMemory f (pumps_failed NoMemory has ends b OutOfMemory (makes_short way rounds a b given p))

  -- nothing was read, for want of memory
  pub pumps_nothing : told_at codec ≡ [] → MayGoOn way a → Pumps (Some OutOfMemory) left faults a
  pumps_nothing told going =
      pumps_failed left faults 0 codec [] Open (ended_now codec left left [] [] codec 0 (consumes_none left) (tells_none codec told) counts_none Open)
      (ends_open left left faults faults reads 0 refl (omega arith)) a OutOfMemory (makes_short way rounds a a [] (makes_none way rounds a going))

-- ---- after the pieces that were received

module _ {X S D B I : Type 0} (way : Way X S D B) (rounds : ℕ) (left_of : I → Option (List ℕ)) (faults_of : I → ℕ) (reads : ℕ) (reading : Reading I) (got known : List (Vec Item)) (all : sent reading.sender ≡ got ++ known) (b : X) where
  -- what was not received
  abbrev rest : List ItemData
  rest = all_items known ++ back_items reading.back

  abbrev given : List ItemData
  given = all_items (sent reading.sender) ++ back_items reading.back

  parted : all_items got ++ rest ≡ given
  parted = sym (append_assoc (all_items got) (all_items known) (back_items reading.back)) ∙ ap (λ l. l ++ back_items reading.back) (sym (ap all_items all ∙ all_items-append got known))

  abbrev After : Result Bool ServeError → Option ServeError → I → X → Type 0
  After served error source d = PumpsAfter way rounds left_of faults_of reads reading (all_items got) served b error source d

  pub after_failed : (e : ServeError) → After (Err e) (Some e) reading.source b
  after_failed e start first r m =
      pumps_failed way rounds reads start.codec (left_of start.source) (faults_of start.source) first (left_of reading.source) (faults_of reading.source) reading.made reading.codec given reading.ended r.has r.ends b e
      (subst (λ (l : List ItemData). MakesSteps way rounds first l (Err e) b) parted (makes_failed way rounds first b (all_items got) rest e m))

  pub after_exit : After (Ok true) None reading.source b
  after_exit start first r m =
      pumps_exit way rounds reads start.codec (left_of start.source) (faults_of start.source) first (left_of reading.source) (faults_of reading.source) reading.made reading.codec given reading.ended r.has r.ends b
      (subst (λ (l : List ItemData). MakesSteps way rounds first l (Ok true) b) parted (makes_ended way rounds first b (all_items got) rest m))

  steps_after : (first d : X) (r : Result Bool ServeError) → MakesSteps way rounds first (all_items got) (Ok false) b → MakesSteps way rounds b rest r d → MakesSteps way rounds first given r d
  steps_after first d r m n = subst (λ (l : List ItemData). MakesSteps way rounds first l r d) parted (makes_more way rounds first b d (all_items got) rest r m n)

  pub rest_failed : (d : X) (e : ServeError) → MakesSteps way rounds b rest (Err e) d → After (Ok false) (Some e) reading.source d
  rest_failed d e n start first r m =
      pumps_failed way rounds reads start.codec (left_of start.source) (faults_of start.source) first (left_of reading.source) (faults_of reading.source) reading.made reading.codec given reading.ended r.has r.ends d e
      (steps_after first d (Err e) m n)

  pub rest_exit : (d : X) → MakesSteps way rounds b rest (Ok true) d → After (Ok false) None reading.source d
  rest_exit d n start first r m =
      pumps_exit way rounds reads start.codec (left_of start.source) (faults_of start.source) first (left_of reading.source) (faults_of reading.source) reading.made reading.codec given reading.ended r.has r.ends d
      (steps_after first d (Ok true) m n)

  pub rest_on : (c d : X) (e : Option ServeError) (source : I) → MakesSteps way rounds b rest (Ok false) c
      → Finishes way rounds reading.ended (reads - reading.made) reading.codec (left_of reading.source) (left_of source) (faults_of reading.source) (faults_of source) c e d → After (Ok false) e source d
  rest_on c d e source n f start first r m =
      pumps_on way rounds reads start.codec (left_of start.source) (faults_of start.source) first (left_of reading.source) (faults_of reading.source) reading.made reading.codec given c (steps_after first c (Ok false) m n)
      reading.ended r.has r.ends (left_of source) (faults_of source) e d f
