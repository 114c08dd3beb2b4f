-- What a reading, the steps beside it and what is served after it come to.
use Rattle.std.proofs.Common.{◌≡◌, inl, inr, ℕ, List, [], ◌∷◌, ◌++◌, sym, ◌∙◌, ap, subst, append_assoc, true, false}
use Rattle.std.specs.Prelude.{◌⊎◌, ◌||◌, Option, Some, None, IfSome, IfNone}
use Rattle.std.specs.Io.KnownBytes.{Consumes}
use Rattle.std.proofs.lemmas.List.{append-nil, map-append}
use Rattle.lsp_frame.specs.declared.settings.CodecSettings.{CodecSettings}
use Rattle.lsp_frame.specs.Codec.{At, more, items_at, told_at}
use Rattle.lsp_session.specs.declared.table.Entry.{Entry}
use Rattle.lsp_session.specs.Item.{ItemData, tick}
use Rattle.lsp_session.specs.Run.{has_exit, served}
use Rattle.lsp_server.specs.declared.step.ServeError.{ServeError}
use Rattle.lsp_server.specs.declared.step.ServeError.TheVariants.{ReadFault, WriteFault, ReadsSpent, DeskSpent, NoMemory}
use Rattle.lsp_server.specs.Errors.{IsBetweenReads, IsInStep}
use Rattle.lsp_server.specs.Items.{admitted, all_admitted}
use Rattle.lsp_server.specs.Course.{Course}
use Rattle.lsp_server.specs.Written.{Place}
use Rattle.lsp_server.specs.Served.{CallBytes, call_bytes, RanFrom}
use Rattle.lsp_server.specs.ServesOn.{coming, coming_told, ServesOn}
use Rattle.lsp_server.proofs.CodecLemmas.{more_more, more_nothing}
use Rattle.lsp_server.proofs.ItemsLemmas.{has_exit-append, has_exit_same}
use Rattle.lsp_server.proofs.KnownLemmas.{consumes_none, consumes_more, what_is_left, some_at}
use Rattle.lsp_server.proofs.RanLemmas.{ran_none, ran_more, part_after, part_none, grown_none}
use Rattle.lsp_pump.specs.Spaced.{unticked, EndsInTick, through_exit}
use Rattle.lsp_pump.specs.Steps.{StepsMade, StepsBegun}
use Rattle.lsp_pump.specs.declared.job.Ended.{Ended}
use Rattle.lsp_pump.specs.Reading.{KeepsAllBytes, TellsAll, HasRead}
use Rattle.lsp_pump.specs.Pumped.{IsPumpedList, RanPumped, PumpedEnough, PumpedTold, PumpedPart, PumpsOver}
use Rattle.lsp_pump.proofs.SpacedLemmas.{unticked-append, unticked_admitted, through-open, through-none, through-more, through_admitted, through_same, served_through, served_ends}
use Rattle.lsp_pump.proofs.StepsLemmas.{made_begun, begun_longer}

-- an error of a step comes between no two reads
pub never_both : (k : ServeError) → IsInStep k → IsBetweenReads k → ⊥
never_both ReadFault i b = i
never_both WriteFault i b = b
never_both ReadsSpent i b = i
never_both (DeskSpent n) i b = b
never_both NoMemory i b = b

-- ---- no tick comes of a codec

-- what codecs tell has no tick, through its first exit neither
coming_plain : (find : List ℕ → Option Entry) (codec : At) (bytes : List ℕ) → unticked (through_exit find (coming codec bytes)) ≡ through_exit find (coming codec bytes)
coming_plain find codec bytes = through_admitted find (items_at (more codec bytes))

module _ (codec there : At) (read : List ℕ) (given : List ItemData) (tells : TellsAll (more codec read) given there) where
  -- what comes of a codec is what it told, and what comes of it then
  pub coming_after : (c : List ℕ) → given ++ coming there c ≡ coming codec (read ++ c)
  coming_after c =
      ap (λ l. l ++ coming there c) tells.is ∙ sym (map-append admitted tells.found (items_at (more there c)))
      ∙ ap all_admitted (sym (tells.decodes.items c)) ∙ ap (λ k. all_admitted (items_at k)) (more_more codec read c)

  pub told_after : (c : List ℕ) → given ++ coming_told there c ≡ coming_told codec (read ++ c)
  told_after c =
      ap (λ l. l ++ coming_told there c) tells.is ∙ sym (map-append admitted tells.found (told_at (more there c)))
      ∙ ap all_admitted (sym (tells.decodes.told c)) ∙ ap (λ k. all_admitted (told_at k)) (more_more codec read c)

  pub given_plain : unticked given ≡ given
  given_plain = ap unticked tells.is ∙ unticked_admitted tells.found ∙ sym tells.is

-- ---- where the bytes are told

module _ {S D : Type 0} (course : Course S D) (taken : Option (List ℕ)) (codec there : At) (read : List ℕ) (given : List ItemData) (tells : TellsAll (more codec read) given there) (bytes c : List ℕ) (is : bytes ≡ read ++ c) where
  abbrev start : Place S D
  start = record { state = course.start; desk = course.desk; taken = taken }

  all_is : given ++ coming there c ≡ coming codec bytes
  all_is = coming_after codec there read given tells c ∙ ap (coming codec) (sym is)

  -- some steps were begun
  pub begun_part : (left : Option (List ℕ)) (desk : D) (taken1 : Option (List ℕ)) → StepsBegun course.step course.meaning course.find start given desk taken1 → PumpedPart course (coming codec bytes) (call_bytes bytes left taken taken1) desk
  begun_part left desk taken1 p =
      let longer = begun_longer course.find start given (coming there c) desk taken1 p in
      subst (λ l. PumpedPart course l (call_bytes bytes left taken taken1) desk) all_is
      (record { list = longer.list; spaced = longer.spaced ∙ ap (λ l. unticked (through_exit course.find l)) all_is ∙ coming_plain course.find codec bytes ∙ ap (through_exit course.find) (sym all_is); part = longer.part })

  -- the steps were made, and an exit was the last
  module _ (d : Place S D) (p : StepsMade course.step course.meaning course.find start given true d) where
    exit_comes : has_exit course.find (coming codec bytes) ≡ true
    exit_comes = ap (has_exit course.find) (sym all_is) ∙ has_exit-append course.find given (coming there c) ∙ ap (λ k. k || has_exit course.find (coming there c)) p.is

    exit_list : IsPumpedList course (coming codec bytes) p.list
    exit_list = record {
      spaced = p.spaced ∙ ap unticked (sym (through-more course.find given (coming there c) p.is)) ∙ ap (λ l. unticked (through_exit course.find l)) all_is ∙ coming_plain course.find codec bytes;
      ends = λ none. absurd (let bad : true ≡ false = sym exit_comes ∙ none in cc);
    }

    pub at_exit : (left : Option (List ℕ)) → (lost : List ℕ) → Consumes (Some bytes) left (read ++ lost) → PumpsOver course codec (call_bytes bytes left taken d.taken) d.state d.desk None
    at_exit left lost gives = record {
      ok = record { list = p.list; is = exit_list; ran = p.ran };
      enough = record {
        read = read ++ lost;
        gives = gives;
        enough = inr (ap (has_exit course.find) (sym (told_after codec there read given tells lost)) ∙ has_exit-append course.find given (coming_told there lost) ∙ ap (λ k. k || has_exit course.find (coming_told there lost)) p.is);
      };
      exact = tt;
      part = begun_part left d.desk d.taken (made_begun course.find start d given true p);
    }

  -- an error stopped the steps
  pub at_error : (d : Place S D) (left : Option (List ℕ)) (e : ServeError) → IsInStep e → StepsBegun course.step course.meaning course.find start given d.desk d.taken
      → PumpsOver course codec (call_bytes bytes left taken d.taken) d.state d.desk (Some e)
  at_error d left e in_step p = record { ok = tt; enough = tt; exact = λ between. absurd (never_both e in_step between); part = begun_part left d.desk d.taken p }

  -- all steps were made, and it went on from there
  module _ (d : Place S D) (p : StepsMade course.step course.meaning course.find start given false d) (settings : CodecSettings) (find2 : List ℕ → Option Entry) (same : (name : List ℕ) → find2 name ≡ course.find name) where
    abbrev later_course : Course S D
    later_course = record { step = course.step; meaning = course.meaning; find = find2; codec = settings; start = d.state; desk = d.desk }

    steps_plain : unticked p.list ≡ given
    steps_plain = p.spaced ∙ ap unticked (through-none course.find given p.is) ∙ given_plain codec there read given tells

    on_spaced : unticked (p.list ++ served find2 (coming there c)) ≡ through_exit course.find (coming codec bytes)
    on_spaced =
        unticked-append p.list (served find2 (coming there c)) ∙ ap (λ l. l ++ unticked (served find2 (coming there c))) steps_plain
        ∙ ap (λ l. given ++ l) (served_through find2 (coming there c) ∙ coming_plain find2 there c ∙ through_same find2 course.find (coming there c) same)
        ∙ sym (through-open course.find given (coming there c) p.is) ∙ ap (through_exit course.find) all_is

    on_ends : has_exit course.find (coming codec bytes) ≡ false → EndsInTick (p.list ++ served find2 (coming there c))
    on_ends none =
        let later : has_exit find2 (coming there c) ≡ false =
        has_exit_same find2 course.find (coming there c) same ∙ ap (λ k. k || has_exit course.find (coming there c)) (sym p.is) ∙ sym (has_exit-append course.find given (coming there c)) ∙ ap (has_exit course.find) all_is ∙ none in
        let end = served_ends find2 (coming there c) later in
        (p.list ++ end.0, ap (λ l. p.list ++ l) end.1 ∙ sym (append_assoc p.list end.0 (tick ∷ [])))

    module _ (left taken2 : Option (List ℕ)) (last : S) (desk : D) (gives : (xs : List ℕ) → Consumes (Some c) left xs → Consumes (Some bytes) left (read ++ xs)) where
      abbrev later_call : CallBytes
      later_call = call_bytes c left d.taken taken2

      abbrev whole_call : CallBytes
      whole_call = call_bytes bytes left taken taken2

      on_ok : (e : Option ServeError) → IfNone e (RanFrom later_course later_call (served find2 (coming there c)) last desk) → IfNone e (RanPumped course (coming codec bytes) whole_call last desk)
      on_ok (Some e) q = tt
      on_ok None q = record {
        list = p.list ++ served find2 (coming there c);
        is = record { spaced = on_spaced; ends = on_ends };
        ran = ran_more start d (record { state = last; desk = desk; taken = taken2 }) p.list (served find2 (coming there c)) p.ran q;
      }

      on_enough : (e : Option ServeError) → (xs : List ℕ) → Consumes (Some c) left xs → IfNone e ((left ≡ Some []) ⊎ (has_exit find2 (coming_told there xs) ≡ true)) → IfNone e (PumpedEnough course codec whole_call)
      on_enough (Some e) xs g q = tt
      on_enough None xs g q = record { read = read ++ xs; gives = gives xs g; enough = at q }
        where
          at : (left ≡ Some []) ⊎ (has_exit find2 (coming_told there xs) ≡ true) → (left ≡ Some []) ⊎ (has_exit course.find (coming_told codec (read ++ xs)) ≡ true)
          at (inl empty) = inl empty
          at (inr exits) = inr (ap (has_exit course.find) (sym (told_after codec there read given tells xs)) ∙ has_exit-append course.find given (coming_told there xs)
              ∙ ap (λ k. k || has_exit course.find (coming_told there xs)) p.is ∙ sym (has_exit_same find2 course.find (coming_told there xs) same) ∙ exits)

      on_exact : (e : Option ServeError) → (xs : List ℕ) → Consumes (Some c) left xs → IfSome e (λ k. IsBetweenReads k → has_exit find2 (coming_told there xs) ≡ false)
          → IfSome e (λ k. IsBetweenReads k → RanFrom later_course later_call (coming_told there xs) last desk) → IfSome e (λ k. IsBetweenReads k → PumpedTold course codec whole_call last desk)
      on_exact None xs g none q = tt
      on_exact (Some e) xs g none q = λ between. record {
        read = read ++ xs;
        gives = gives xs g;
        none = ap (has_exit course.find) (sym (told_after codec there read given tells xs)) ∙ has_exit-append course.find given (coming_told there xs)
            ∙ ap (λ k. k || has_exit course.find (coming_told there xs)) p.is ∙ sym (has_exit_same find2 course.find (coming_told there xs) same) ∙ none between;
        list = p.list ++ coming_told there xs;
        spaced = unticked-append p.list (coming_told there xs) ∙ ap (λ l. l ++ unticked (coming_told there xs)) steps_plain ∙ ap (λ l. given ++ l) (unticked_admitted (told_at (more there xs))) ∙ told_after codec there read given tells xs;
        ran = ran_more start d (record { state = last; desk = desk; taken = taken2 }) p.list (coming_told there xs) p.ran (q between);
      }

      pub went_on : (e : Option ServeError) → ServesOn later_course there later_call last desk e → PumpsOver course codec whole_call last desk e
      went_on e q = record {
        ok = on_ok e q.ok;
        enough = on_enough e q.read q.gives q.enough;
        exact = on_exact e q.read q.gives q.unexited q.exact;
        part = record { list = p.list ++ served find2 (coming there c); spaced = on_spaced; part = part_after start d desk taken2 p.list (served find2 (coming there c)) p.ran q.part };
      }

-- ---- what is served after all that was given

module _ {S D : Type 0} (course : Course S D) (codec : At) (taken : Option (List ℕ)) where
  abbrev from_here : Place S D
  from_here = record { state = course.start; desk = course.desk; taken = taken }

  -- nothing is
  pub nothing_on : (bytes : List ℕ) (left : Option (List ℕ)) (e : ServeError) → left ≡ Some bytes → told_at codec ≡ [] → ServesOn course codec (call_bytes bytes left taken taken) course.start course.desk (Some e)
  nothing_on bytes left e is told =
      let none : coming_told codec [] ≡ [] = ap (λ k. all_admitted (told_at k)) (more_nothing codec) ∙ ap all_admitted told in
      record {
        read = [];
        gives = subst (λ l. Consumes (Some bytes) l []) (sym is) (consumes_none (Some bytes));
        ok = tt;
        enough = tt;
        unexited = λ _. ap (has_exit course.find) none;
        exact = λ _. subst (λ (l : List ItemData). RanFrom course (call_bytes bytes left taken taken) l course.start course.desk) (sym none) (ran_none from_here);
        part = part_none from_here course.desk (served course.find (coming codec bytes)) (grown_none course.meaning course.desk);
      }

-- ---- a reading, the steps beside it, and what is served after it

module _ {S D : Type 0} (course : Course S D) (taken : Option (List ℕ)) (codec : At) (bytes : List ℕ) (left0 left1 : Option (List ℕ)) (is : left0 ≡ Some bytes) (made : ℕ) (given : List ItemData) (codec1 : At) (ended : Ended)
    (has : HasRead codec left0 left1 made given codec1 ended) where
  abbrev at_start : Place S D
  at_start = record { state = course.start; desk = course.desk; taken = taken }

  has_given : Consumes (Some bytes) left1 (has.read ++ has.lost)
  has_given = subst (λ l. Consumes l left1 (has.read ++ has.lost)) is has.gives

  pub pumped_exit : (d : Place S D) → StepsMade course.step course.meaning course.find at_start given true d → PumpsOver course codec (call_bytes bytes left1 taken d.taken) d.state d.desk None
  pumped_exit d p =
      let rest = what_is_left bytes left1 (has.read ++ has.lost) has_given in
      at_exit course taken codec has.there has.read given has.tells bytes (has.lost ++ rest.0) (rest.2 ∙ append_assoc has.read has.lost rest.0) d p left1 has.lost has_given

  pub pumped_error : (d : Place S D) (e : ServeError) → IsInStep e → StepsBegun course.step course.meaning course.find at_start given d.desk d.taken → PumpsOver course codec (call_bytes bytes left1 taken d.taken) d.state d.desk (Some e)
  pumped_error d e in_step p =
      let rest = what_is_left bytes left1 (has.read ++ has.lost) has_given in
      at_error course taken codec has.there has.read given has.tells bytes (has.lost ++ rest.0) (rest.2 ∙ append_assoc has.read has.lost rest.0) d left1 e in_step p

  pub pumped_on : KeepsAllBytes ended → (d : Place S D) → StepsMade course.step course.meaning course.find at_start given false d → (settings : CodecSettings) (find2 : List ℕ → Option Entry) → ((name : List ℕ) → find2 name ≡ course.find name)
      → (left2 taken2 : Option (List ℕ)) (last : S) (desk : D) (e : Option ServeError)
      → IfSome left1 (λ c. ServesOn (record { step = course.step; meaning = course.meaning; find = find2; codec = settings; start = d.state; desk = d.desk }) codec1 (call_bytes c left2 d.taken taken2) last desk e)
      → PumpsOver course codec (call_bytes bytes left2 taken taken2) last desk e
  pumped_on keeps d p settings find2 same left2 taken2 last desk e on =
      let whole = has.whole keeps in
      let gives : Consumes (Some bytes) left1 has.read = subst (λ l. Consumes (Some bytes) left1 l) (ap (λ l. has.read ++ l) whole.0 ∙ append-nil has.read) has_given in
      let rest = what_is_left bytes left1 has.read gives in
      let serves = subst (λ k. ServesOn (record { step = course.step; meaning = course.meaning; find = find2; codec = settings; start = d.state; desk = d.desk }) k (call_bytes rest.0 left2 d.taken taken2) last desk e) whole.1
      (some_at left1 (λ c. ServesOn (record { step = course.step; meaning = course.meaning; find = find2; codec = settings; start = d.state; desk = d.desk }) codec1 (call_bytes c left2 d.taken taken2) last desk e) rest.0 rest.1 on) in
      went_on course taken codec has.there has.read given has.tells bytes rest.0 rest.2 d p settings find2 same left2 taken2 last desk
      (λ xs more. consumes_more (Some bytes) left1 left2 has.read xs gives (subst (λ l. Consumes l left2 xs) (sym rest.1) more)) e serves
