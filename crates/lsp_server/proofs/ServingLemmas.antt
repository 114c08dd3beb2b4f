-- How serving goes on over the reads, and what it comes to.
use Rattle.std.proofs.Common.{◌≡◌, inl, inr, ℕ, ◌≤◌, List, [], ◌∷◌, ◌++◌, length, refl, sym, ◌∙◌, ap, subst, append_assoc, arith, Bool, true, false}
use Rattle.std.specs.Prelude.{Option, Some, ◌||◌}
use Rattle.std.specs.Io.KnownBytes.{Consumes}
use Rattle.std.proofs.lemmas.List.{append-nil, map-append}
use Rattle.lsp_desk.specs.Meaning.{Meaning}
use Rattle.lsp_frame.specs.Codec.{Item, At, start_by, more, items_at, told_at, frames}
use Rattle.lsp_frame.specs.declared.settings.CodecSettings.{CodecSettings}
use Rattle.lsp_session.specs.declared.table.Entry.{Entry}
use Rattle.lsp_session.specs.Item.{ItemData}
use Rattle.lsp_session.specs.Semantics.{Semantics, IsLawfulHandlers}
use Rattle.lsp_session.specs.State.{State}
use Rattle.lsp_session.specs.Run.{Order, Picked, Step, Run, is_exit, has_exit, served}
use Rattle.lsp_server.specs.SourceSink.{IsFlushed}
use Rattle.lsp_server.specs.Items.{admitted, all_admitted, stream_items, stream_told, Decodes}
use Rattle.lsp_server.specs.Course.{Course}
use Rattle.lsp_server.specs.Written.{Ran, RanPart}
use Rattle.lsp_server.specs.Served.{ServedTold, call_bytes, RanFrom, ReadEnough, RanTold, AllAnswered, WrotePart}
use Rattle.lsp_server.specs.Reads.{moment}
use Rattle.lsp_server.proofs.KnownLemmas.{appends_more, consumes_more, what_is_left, all_read}
use Rattle.lsp_server.proofs.PointLemmas.{Point, find_at}
use Rattle.lsp_server.proofs.ItemsLemmas.{same_exit, served_same, has_exit_same, has_exit-append, served-closed, run_table}
use Rattle.lsp_server.proofs.CodecLemmas.{decodes_more, decodes_fed, told_now, more_nothing, more_more}
use Rattle.lsp_server.proofs.RanLemmas.{ran_more, part_none, grown_none}
use Rattle.lsp_server.proofs.GoingLemmas.{Going, going_served}

-- the course of a session from a point on
abbrev pub way_from : {H D C T P : Type 0} → (semantics : Semantics H C T) → Meaning D → Order P → ℕ → CodecSettings → Point semantics D P → Course (Picked (State H semantics.Call semantics.Task) P) D
way_from semantics m order rounds settings a = record { step = Step semantics order rounds; meaning = m; find = find_at semantics a; codec = settings; start = a.state; desk = a.desk }

module _ {H D C T P : Type 0} (semantics : Semantics H C T) (m : Meaning D) (order : Order P) (rounds : ℕ) (settings : CodecSettings) where
  -- serving has come this far with the bytes that were read
  pub record Serving (a : Point semantics D P) (left0 : Option (List ℕ)) (b : Point semantics D P) (left1 : Option (List ℕ)) (codec : At) : Type 0 where
    pub fed : List ℕ
    pub gives : Consumes left0 left1 fed
    pub going : Going semantics m order rounds a (more (start_by settings) fed) b codec
    pub told : told_at codec ≡ []

module _ {H D C T P : Type 0} {semantics : Semantics H C T} {m : Meaning D} {order : Order P} {rounds : ℕ} {settings : CodecSettings} where
  module _ (a : Point semantics D P) (left0 : Option (List ℕ)) (b : Point semantics D P) (left1 : Option (List ℕ)) (codec1 : At) (serving : Serving semantics m order rounds settings a left0 b left1 codec1) where
    module _ (laws : IsLawfulHandlers semantics) where
      abbrev so_far : List ItemData
      so_far = all_admitted serving.going.given

      same_table : (name : List ℕ) → find_at semantics b name ≡ find_at semantics a name
      same_table name = run_table semantics laws order rounds a.state b.state so_far serving.going.ran.effect serving.going.ran.run name

      -- the items given so far are those that the bytes read tell
      told_is : stream_told settings serving.fed ≡ so_far
      told_is = ap all_admitted (told_now (more (start_by settings) serving.fed) codec1 serving.going.given serving.going.decodes ∙ ap (λ l. serving.going.given ++ l) serving.told ∙ append-nil serving.going.given)

      -- ---- one piece more

      module _ (left2 : Option (List ℕ)) (piece : List ℕ) (gives : Consumes left1 left2 piece) (d : Point semantics D P) (codec2 : At) (exits : Bool)
          (told : ServedTold (Step semantics order rounds) m (find_at semantics b) b (more codec1 piece) exits d codec2) where
        abbrev all : List Item
        all = serving.going.given ++ told.given

        all_gives : Consumes left0 left2 (serving.fed ++ piece)
        all_gives = consumes_more left0 left1 left2 serving.fed piece serving.gives gives

        decoded : Decodes (more (start_by settings) (serving.fed ++ piece)) all codec2
        decoded = decodes_more (more (start_by settings) (serving.fed ++ piece)) (more codec1 piece) codec2 serving.going.given told.given
            (decodes_fed (more (start_by settings) serving.fed) codec1 serving.going.given piece serving.going.decodes) told.decodes

        ran_all : Ran (Step semantics order rounds) m a (all_admitted all) d
        ran_all = subst (λ l. Ran (Step semantics order rounds) m a l d) (sym (map-append admitted serving.going.given told.given))
            (ran_more a b d so_far (all_admitted told.given) serving.going.ran told.ran)

-- ---- what it comes to, where the bytes are told

module _ {H D C T P : Type 0} {semantics : Semantics H C T} (laws : IsLawfulHandlers semantics) {m : Meaning D} {order : Order P} {rounds : ℕ} {settings : CodecSettings}
    (a : Point semantics D P) (bytes : List ℕ) (b : Point semantics D P) (left1 : Option (List ℕ)) (codec1 : At) (serving : Serving semantics m order rounds settings a (Some bytes) b left1 codec1) where
  abbrev taken0 : Option (List ℕ)
  taken0 = a.taken

  abbrev find : List ℕ → Option Entry
  find = semantics.find a.state.session.service

  abbrev find_b : List ℕ → Option Entry
  find_b = semantics.find b.state.session.service

  abbrev way : Course (Picked (State H semantics.Call semantics.Task) P) D
  way = way_from semantics m order rounds settings a

  abbrev before : List ItemData
  before = all_admitted serving.going.given

  tables_agree : (name : List ℕ) → find_b name ≡ find name
  tables_agree = same_table a (Some bytes) b left1 codec1 serving laws

  told_before : stream_told settings serving.fed ≡ before
  told_before = told_is a (Some bytes) b left1 codec1 serving laws

  -- ---- between two reads what was written is exact

  pub exact : RanTold way (call_bytes bytes left1 taken0 b.taken) b.state b.desk
  exact = record {
    read = serving.fed;
    gives = serving.gives;
    none = ap (has_exit find) told_before ∙ serving.going.none;
    ran = subst (λ l. RanFrom way (call_bytes bytes left1 taken0 b.taken) l b.state b.desk) (sym told_before) serving.going.ran;
  }

  -- so all was answered as the next read is made
  pub answered : (left_then : Option (List ℕ)) (flushed0 flushed1 : Option ℕ) → (IsFlushed taken0 flushed0 → IsFlushed b.taken flushed1) → AllAnswered way bytes (moment left_then taken0 flushed0) (moment left1 b.taken flushed1)
  answered left_then flushed0 flushed1 flushed = record { desk = b.desk; wrote = record { last = b.state; told = exact }; flushed = flushed }

  -- ---- an exit ends it

  module _ (left2 : Option (List ℕ)) (piece : List ℕ) (gives : Consumes left1 left2 piece) (d : Point semantics D P) (codec2 : At)
      (told : ServedTold (Step semantics order rounds) m find_b b (more codec1 piece) true d codec2) where
    abbrev given : List Item
    given = all a (Some bytes) b left1 codec1 serving laws left2 piece gives d codec2 true told

    read_all : Consumes (Some bytes) left2 (serving.fed ++ piece)
    read_all = all_gives a (Some bytes) b left1 codec1 serving laws left2 piece gives d codec2 true told

    all_decoded : Decodes (more (start_by settings) (serving.fed ++ piece)) given codec2
    all_decoded = decoded a (Some bytes) b left1 codec1 serving laws left2 piece gives d codec2 true told

    -- the items given end with the exit
    abbrev front : List ItemData
    front = before ++ told.ends.front

    given_is : all_admitted given ≡ front ++ told.ends.exit ∷ []
    given_is = map-append admitted serving.going.given told.given ∙ ap (λ l. before ++ l) told.ends.split ∙ sym (append_assoc before told.ends.front (told.ends.exit ∷ []))

    front_open : has_exit find front ≡ false
    front_open = has_exit-append find before told.ends.front ∙ ap (λ x. x || has_exit find told.ends.front) serving.going.none
        ∙ sym (has_exit_same find_b find told.ends.front tables_agree) ∙ told.ends.none

    exit_is : is_exit find told.ends.exit ≡ true
    exit_is = sym (same_exit find_b find told.ends.exit tables_agree) ∙ told.ends.is

    served_is : served find (stream_items settings bytes) ≡ all_admitted given
    served_is =
        let left = what_is_left bytes left2 (serving.fed ++ piece) read_all in
        let rest = all_admitted (items_at (more codec2 left.0)) in
        ap (λ l. served find (stream_items settings l)) left.2
        ∙ ap (λ l. served find (all_admitted l)) (all_decoded.items left.0)
        ∙ ap (served find) (map-append admitted given (items_at (more codec2 left.0)) ∙ ap (λ l. l ++ rest) given_is)
        ∙ served-closed find front told.ends.exit rest front_open exit_is ∙ sym given_is

    pub at_exit : RanFrom way (call_bytes bytes left2 taken0 d.taken) (served find (stream_items settings bytes)) d.state d.desk
    at_exit = subst (λ l. Ran (Step semantics order rounds) m a l d) (sym served_is) (ran_all a (Some bytes) b left1 codec1 serving laws left2 piece gives d codec2 true told)

    pub enough_at_exit : (size : ℕ) → length piece ≤ size → ReadEnough way (call_bytes bytes left2 taken0 d.taken) size
    enough_at_exit size short = record {
      early = serving.fed;
      piece = piece;
      gives = read_all;
      short = short;
      none = ap (has_exit find) told_before ∙ serving.going.none;
      enough = inr (ap (λ l. has_exit find (all_admitted l)) (told_now (more (start_by settings) (serving.fed ++ piece)) codec2 given all_decoded)
          ∙ ap (has_exit find) (map-append admitted given (told_at codec2)) ∙ has_exit-append find (all_admitted given) (all_admitted (told_at codec2))
          ∙ ap (λ x. x || has_exit find (all_admitted (told_at codec2)))
          (ap (has_exit find) given_is ∙ has_exit-append find front (told.ends.exit ∷ []) ∙ ap (λ x. x || (is_exit find told.ends.exit || false)) front_open ∙ ap (λ x. x || false) exit_is));
    }

  -- ---- the end of input ends it

  pub at_end : (left2 : Option (List ℕ)) (d : Point semantics D P) → left1 ≡ Some [] → Ran (Step semantics order rounds) m b (served find_b (all_admitted (items_at codec1))) d
      → RanFrom way (call_bytes bytes left2 taken0 d.taken) (served find (stream_items settings bytes)) d.state d.desk
  at_end left2 d empty last =
      let read : bytes ≡ serving.fed = all_read bytes serving.fed left1 serving.gives empty in
      let whole : before ++ served find_b (all_admitted (items_at codec1)) ≡ served find (stream_items settings bytes) =
      ap (λ l. before ++ l) (served_same find_b find (all_admitted (items_at codec1)) tables_agree)
      ∙ ap (λ c. before ++ served find (all_admitted (items_at c))) (sym (more_nothing codec1))
      ∙ going_served a (more (start_by settings) serving.fed) b codec1 serving.going []
      ∙ ap (λ l. served find (stream_items settings l)) (append-nil serving.fed ∙ sym read) in
      subst (λ l. Ran (Step semantics order rounds) m a l d) whole (ran_more a b d before (served find_b (all_admitted (items_at codec1))) serving.going.ran last)

  pub enough_at_end : (left2 taken : Option (List ℕ)) (size : ℕ) → left1 ≡ Some [] → left2 ≡ Some [] → ReadEnough way (call_bytes bytes left2 taken0 taken) size
  enough_at_end left2 taken size empty after = record {
    early = serving.fed;
    piece = [];
    gives = subst (λ l. Consumes (Some bytes) l (serving.fed ++ [])) (empty ∙ sym after) (subst (λ l. Consumes (Some bytes) left1 l) (sym (append-nil serving.fed)) serving.gives);
    short = omega arith;
    none = ap (has_exit find) told_before ∙ serving.going.none;
    enough = inl after;
  }

  -- ---- an error

  wrote : (left2 taken2 : Option (List ℕ)) (desk : D) (piece : List ℕ) (size : ℕ) → Consumes left1 left2 piece → length piece ≤ size
      → ((rest : List ℕ) → left2 ≡ Some rest → RanPart (Step semantics order rounds) m b (served find_b (all_admitted (items_at (more codec1 (piece ++ rest))))) desk taken2)
      → WrotePart way (call_bytes bytes left2 taken0 taken2) size desk
  wrote left2 taken2 desk piece size gives short part =
      let read = consumes_more (Some bytes) left1 left2 serving.fed piece serving.gives gives in
      let left = what_is_left bytes left2 (serving.fed ++ piece) read in
      let coming = all_admitted (items_at (more codec1 (piece ++ left.0))) in
      let now = part left.0 left.1 in
      record {
        early = serving.fed;
        piece = piece;
        gives = read;
        short = short;
        first = serving.going.ran.effect;
        mid = b.state;
        run = subst (λ l. Run (Step semantics order rounds) a.state l serving.going.ran.effect b.state) (sym told_before) serving.going.ran.run;
        middle = b.desk;
        grows = serving.going.ran.grows;
        later = served find_b coming;
        split = ap (λ l. l ++ served find_b coming) told_before ∙ ap (λ l. before ++ l) (served_same find_b find coming tables_agree)
            ∙ going_served a (more (start_by settings) serving.fed) b codec1 serving.going (piece ++ left.0)
            ∙ ap (λ l. served find (stream_items settings l)) (sym (append_assoc serving.fed piece left.0) ∙ sym left.2);
        written = now.written;
        part = now.part;
        writes = appends_more taken0 b.taken taken2 (frames serving.going.ran.effect.out) now.written serving.going.ran.writes now.writes;
      }

  -- nothing of the piece was served
  pub wrote_before : (left2 : Option (List ℕ)) (piece : List ℕ) (size : ℕ) → Consumes left1 left2 piece → length piece ≤ size → WrotePart way (call_bytes bytes left2 taken0 b.taken) size b.desk
  wrote_before left2 piece size gives short = wrote left2 b.taken b.desk piece size gives short (λ rest is. part_none b b.desk _ (grown_none m b.desk))

  -- some of the piece was served
  pub wrote_within : (left2 taken2 : Option (List ℕ)) (desk : D) (piece : List ℕ) (size : ℕ) → Consumes left1 left2 piece → length piece ≤ size
      → ((c : List ℕ) → RanPart (Step semantics order rounds) m b (served find_b (all_admitted (items_at (more (more codec1 piece) c)))) desk taken2)
      → WrotePart way (call_bytes bytes left2 taken0 taken2) size desk
  wrote_within left2 taken2 desk piece size gives short part =
      wrote left2 taken2 desk piece size gives short
      (λ rest is. subst (λ c. RanPart (Step semantics order rounds) m b (served find_b (all_admitted (items_at c))) desk taken2) (more_more codec1 piece rest) (part rest))

  -- some of the end was served
  pub wrote_at_end : (left2 taken2 : Option (List ℕ)) (desk : D) (size : ℕ) → left1 ≡ Some [] → left2 ≡ Some [] → RanPart (Step semantics order rounds) m b (served find_b (all_admitted (items_at codec1))) desk taken2
      → WrotePart way (call_bytes bytes left2 taken0 taken2) size desk
  wrote_at_end left2 taken2 desk size empty after part =
      wrote left2 taken2 desk [] size (subst (λ l. Consumes l left2 []) (sym empty) (subst (λ l. Consumes (Some []) l []) (sym after) refl)) (omega arith)
      (λ rest is. let none : rest ≡ [] = cc in
      subst (λ (l : List ℕ). RanPart (Step semantics order rounds) m b (served find_b (all_admitted (items_at (more codec1 l)))) desk taken2) (sym none)
      (subst (λ c. RanPart (Step semantics order rounds) m b (served find_b (all_admitted (items_at c))) desk taken2) (sym (more_nothing codec1)) part))
