-- Steps of items with ticks between them, one after another.
use Rattle.std.proofs.Common.{◌≡◌, ℕ, List, [], ◌∷◌, ◌++◌, refl, sym, ◌∙◌, ap, subst, arith, Bool, true, false}
use Rattle.std.specs.Prelude.{◌||◌, Option, Result, Ok, Err}
use Rattle.std.specs.Result.{result_err, IsErrAnd}
use Rattle.lsp_desk.specs.Meaning.{Meaning}
use Rattle.lsp_session.specs.declared.table.Entry.{Entry}
use Rattle.lsp_session.specs.Item.{ItemData, tick}
use Rattle.lsp_session.specs.Run.{is_exit, has_exit}
use Rattle.lsp_session.specs.State.{Effect}
use Rattle.lsp_server.specs.declared.step.ServeError.{ServeError}
use Rattle.lsp_server.specs.declared.step.ServeError.TheVariants.{NoMemory}
use Rattle.lsp_server.specs.Leaves.{LeavesFaults}
use Rattle.lsp_server.specs.SourceSink.{CountRose}
use Rattle.lsp_server.specs.Written.{Place, Ran, RanPart}
use Rattle.lsp_server.proofs.KnownLemmas.{if_ok}
use Rattle.lsp_server.proofs.ItemsLemmas.{has_exit-append, has_exit_same}
use Rattle.lsp_server.proofs.RanLemmas.{grown_none, ran_none, ran_more, part_more, part_after, part_whole, grown_after}
use Rattle.lsp_server.proofs.TakingLemmas.{flushed_then}
use Rattle.lsp_pump.specs.Spaced.{unticked, through_exit}
use Rattle.lsp_pump.specs.Steps.{StepsMade, StepsBegun, StepsAnswered, Way, MayGoOn, StandsAfter, MakesSteps}
use Rattle.lsp_pump.proofs.SpacedLemmas.{unticked-append, through-open, through-none, through-more, through_one, through_tick, through_same}

or_false : (k : Bool) → (k || false) ≡ k
or_false true = refl
or_false false = refl

module _ {S D : Type 0} {step : S → ItemData → Effect → S → Type 0} {m : Meaning D} (find : List ℕ → Option Entry) where
  pub steps_none : (a : Place S D) → StepsMade step m find a [] false a
  steps_none a = record { list = []; spaced = refl; ran = ran_none a; is = refl }

  pub steps_one : (a b : Place S D) (x : ItemData) (exits : Bool) → is_exit find x ≡ exits → Ran step m a (x ∷ []) b → StepsMade step m find a (x ∷ []) exits b
  steps_one a b x exits is ran = record { list = x ∷ []; spaced = ap unticked (sym (through_one find x)); ran = ran; is = ap (λ k. k || false) is ∙ or_false exits }

  pub begun_one : (a : Place S D) (x : ItemData) (desk : D) (taken : Option (List ℕ)) → RanPart step m a (x ∷ []) desk taken → StepsBegun step m find a (x ∷ []) desk taken
  begun_one a x desk taken part = record { list = x ∷ []; spaced = ap unticked (sym (through_one find x)); part = part }

  pub made_begun : (a b : Place S D) (items : List ItemData) (exits : Bool) → StepsMade step m find a items exits b → StepsBegun step m find a items b.desk b.taken
  made_begun a b items exits p = record { list = p.list; spaced = p.spaced; part = part_whole a b p.list p.ran }

  -- ---- items that come after, and that no step was made of

  pub made_longer : (a b : Place S D) (xs ys : List ItemData) → StepsMade step m find a xs true b → StepsMade step m find a (xs ++ ys) true b
  made_longer a b xs ys p = record {
    list = p.list;
    spaced = p.spaced ∙ ap unticked (sym (through-more find xs ys p.is));
    ran = p.ran;
    is = has_exit-append find xs ys ∙ ap (λ k. k || has_exit find ys) p.is;
  }

  pub begun_longer : (a : Place S D) (xs ys : List ItemData) (desk : D) (taken : Option (List ℕ)) → StepsBegun step m find a xs desk taken → StepsBegun step m find a (xs ++ ys) desk taken
  begun_longer a xs ys desk taken p = at (has_exit find xs) refl
    where
      at : (b : Bool) → has_exit find xs ≡ b → StepsBegun step m find a (xs ++ ys) desk taken
      at true is = record { list = p.list; spaced = p.spaced ∙ ap unticked (sym (through-more find xs ys is)); part = p.part }
      at false is = record {
        list = p.list ++ through_exit find ys;
        spaced = unticked-append p.list (through_exit find ys) ∙ ap (λ l. l ++ unticked (through_exit find ys)) (p.spaced ∙ ap unticked (through-none find xs is))
            ∙ sym (unticked-append xs (through_exit find ys)) ∙ ap unticked (sym (through-open find xs ys is));
        part = part_more p.list (through_exit find ys) p.part;
      }

  -- ---- steps after steps, by a table that answers alike

  module _ (find2 : List ℕ → Option Entry) (same : (name : List ℕ) → find2 name ≡ find name) (a b : Place S D) (xs ys : List ItemData) (p : StepsMade step m find a xs false b) where
    both_spaced : (list : List ItemData) → unticked list ≡ unticked (through_exit find2 ys) → unticked (p.list ++ list) ≡ unticked (through_exit find (xs ++ ys))
    both_spaced list is =
        unticked-append p.list list ∙ ap (λ l. l ++ unticked list) (p.spaced ∙ ap unticked (through-none find xs p.is))
        ∙ ap (λ l. unticked xs ++ l) (is ∙ ap unticked (through_same find2 find ys same))
        ∙ sym (unticked-append xs (through_exit find ys)) ∙ ap unticked (sym (through-open find xs ys p.is))

    pub steps_more : (c : Place S D) (exits : Bool) → StepsMade step m find2 b ys exits c → StepsMade step m find a (xs ++ ys) exits c
    steps_more c exits q = record {
      list = p.list ++ q.list;
      spaced = both_spaced q.list q.spaced;
      ran = ran_more a b c p.list q.list p.ran q.ran;
      is = has_exit-append find xs ys ∙ ap (λ k. k || has_exit find ys) p.is ∙ sym (has_exit_same find2 find ys same) ∙ q.is;
    }

    pub begun_more : (desk : D) (taken : Option (List ℕ)) → StepsBegun step m find2 b ys desk taken → StepsBegun step m find a (xs ++ ys) desk taken
    begun_more desk taken q = record { list = p.list ++ q.list; spaced = both_spaced q.list q.spaced; part = part_after a b desk taken p.list q.list p.ran q.part }

    pub answered_more : (c : Place S D) (r : Result Bool ServeError) → StepsAnswered step m find2 b ys r c → StepsAnswered step m find a (xs ++ ys) r c
    answered_more c (Ok exits) q = steps_more c exits q
    answered_more c (Err e) q = begun_more c.desk c.taken q

module _ {S D : Type 0} (step : S → ItemData → Effect → S → Type 0) (m : Meaning D) (find : List ℕ → Option Entry) where
  -- a tick is no item that came
  pub untick : (a b : Place S D) (items : List ItemData) (r : Result Bool ServeError) → StepsAnswered step m find a (items ++ tick ∷ []) r b → StepsAnswered step m find a items r b
  untick a b items (Ok exits) p = record {
    list = p.list;
    spaced = p.spaced ∙ through_tick find items;
    ran = p.ran;
    is = sym (has_exit-append find items (tick ∷ []) ∙ or_false (has_exit find items)) ∙ p.is;
  }
  untick a b items (Err e) p = record { list = p.list; spaced = p.spaced ∙ through_tick find items; part = p.part }

-- ---- by a way

-- faults of steps after steps that left none
leaves_more : {X B : Type 0} (faults_of : X → ℕ) (beside_of : X → B) (a b c : X) (r : Result Bool ServeError) → beside_of b ≡ beside_of a → faults_of b ≡ faults_of a
    → LeavesFaults faults_of beside_of b c (result_err r) → LeavesFaults faults_of beside_of a c (result_err r)
leaves_more faults_of beside_of a b c (Ok x) beside kept q = record { beside = q.beside ∙ beside; count = omega (arith, kept, q.count); write = tt; unfailed = q.unfailed ∙ kept; left = tt }
leaves_more faults_of beside_of a b c (Err e) beside kept q = record {
  beside = q.beside ∙ beside;
  count = omega (arith, kept, q.count);
  write = λ is. subst (λ n. CountRose n (faults_of c)) kept (q.write is);
  unfailed = tt;
  left = λ at. q.left at ∙ kept;
}

-- where it stands after a step, by whether that was an exit
pub stands_by : {X S D B : Type 0} (way : Way X S D B) (x : X) → way.is_ready x → (exits : Bool) → way.has_exited x ≡ exits → (way.has_exited x ≡ false → way.is_unexited x) → StandsAfter way x exits
stands_by way x ready true is unexited = (ready, is)
stands_by way x ready false is unexited = record { ready = ready; unexited = unexited is }

module _ {X S D B : Type 0} (way : Way X S D B) (rounds : ℕ) where
  abbrev find_of : X → List ℕ → Option Entry
  find_of a = way.table (way.place a).state

  abbrev Answers : X → List ItemData → Result Bool ServeError → X → Type 0
  Answers a items r b = StepsAnswered (way.step rounds) way.meaning (find_of a) (way.place a) items r (way.place b)

  pub makes_none : (a : X) → MayGoOn way a → MakesSteps way rounds a [] (Ok false) a
  makes_none a stands = record {
    answered = steps_none (find_of a) (way.place a);
    same = λ name. refl;
    stands = stands;
    fails = tt;
    grown = grown_none way.meaning (way.place a).desk;
    flushed = record { flushed = λ was. was; flushed_at = tt };
    sink = record { beside = refl; count = omega arith; write = tt; unfailed = refl; left = tt };
  }

  pub makes_more : (a b c : X) (xs ys : List ItemData) (r : Result Bool ServeError) → MakesSteps way rounds a xs (Ok false) b → MakesSteps way rounds b ys r c → MakesSteps way rounds a (xs ++ ys) r c
  makes_more a b c xs ys r p q =
      let made : StepsMade (way.step rounds) way.meaning (find_of a) (way.place a) xs false (way.place b) = p.answered in
      let same : (name : List ℕ) → find_of b name ≡ find_of a name = p.same in
      record {
        answered = answered_more (find_of a) (find_of b) same (way.place a) (way.place b) xs ys made (way.place c) r q.answered;
        same = if_ok r (λ _ s name. s name ∙ same name) q.same;
        stands = q.stands;
        fails = q.fails;
        grown = grown_after (way.place a) (way.place b) (way.place c).desk made.list made.ran q.grown;
        flushed = flushed_then _ _ _ _ _ _ (result_err r) p.flushed.flushed q.flushed;
        sink = leaves_more way.faults way.beside a b c r p.sink.beside p.sink.unfailed q.sink;
      }

  -- all items are those before and these
  pub makes_then : (a b c : X) (xs ys all : List ItemData) (r : Result Bool ServeError) → all ≡ xs ++ ys → MakesSteps way rounds a xs (Ok false) b → MakesSteps way rounds b ys r c → MakesSteps way rounds a all r c
  makes_then a b c xs ys all r is p q = subst (λ (l : List ItemData). MakesSteps way rounds a l r c) (sym is) (makes_more a b c xs ys r p q)

  -- the error is handed on
  pub makes_error : (a b : X) (items : List ItemData) (e : ServeError) (r : Result Bool ServeError) → IsErrAnd r (λ x. x ≡ e) → MakesSteps way rounds a items (Err e) b → MakesSteps way rounds a items r b
  makes_error a b items e (Ok x) is p = absurd is
  makes_error a b items e (Err x) is p = subst (λ k. MakesSteps way rounds a items (Err k) b) (sym is) p

  with_answer : (a b : X) (xs ys : List ItemData) (r : Result Bool ServeError) → MakesSteps way rounds a xs r b → Answers a ys r b → MakesSteps way rounds a ys r b
  with_answer a b xs ys r p answered = record { answered = answered; same = p.same; stands = p.stands; fails = p.fails; grown = p.grown; flushed = p.flushed; sink = p.sink }

  -- items that come after an exit, or after an error
  pub makes_ended : (a b : X) (xs ys : List ItemData) → MakesSteps way rounds a xs (Ok true) b → MakesSteps way rounds a (xs ++ ys) (Ok true) b
  makes_ended a b xs ys p = with_answer a b xs (xs ++ ys) (Ok true) p (made_longer (find_of a) (way.place a) (way.place b) xs ys p.answered)

  pub makes_failed : (a b : X) (xs ys : List ItemData) (e : ServeError) → MakesSteps way rounds a xs (Err e) b → MakesSteps way rounds a (xs ++ ys) (Err e) b
  makes_failed a b xs ys e p = with_answer a b xs (xs ++ ys) (Err e) p (begun_longer (find_of a) (way.place a) xs ys (way.place b).desk (way.place b).taken p.answered)

  pub makes_untick : (a b : X) (items : List ItemData) (r : Result Bool ServeError) → MakesSteps way rounds a (items ++ tick ∷ []) r b → MakesSteps way rounds a items r b
  makes_untick a b items r p = with_answer a b (items ++ tick ∷ []) items r p (untick (way.step rounds) way.meaning (find_of a) (way.place a) (way.place b) items r p.answered)

  -- memory was short after steps
  pub makes_short : (a b : X) (items : List ItemData) → MakesSteps way rounds a items (Ok false) b → MakesSteps way rounds a items (Err NoMemory) b
  makes_short a b items p = record {
    answered = made_begun (find_of a) (way.place a) (way.place b) items false p.answered;
    same = tt;
    stands = tt;
    fails = record { in_step = tt; spent = tt };
    grown = p.grown;
    flushed = record { flushed = tt; flushed_at = λ bad. absurd bad };
    sink = record { beside = p.sink.beside; count = p.sink.count; write = λ is. absurd (cc); unfailed = tt; left = λ _. p.sink.unfailed };
  }
