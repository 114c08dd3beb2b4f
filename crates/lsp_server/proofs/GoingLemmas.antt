-- How serving goes on over the items that a codec tells.
use Rattle.std.proofs.Common.{◌≡◌, ℕ, List, [], ◌∷◌, ◌++◌, refl, sym, ◌∙◌, ap, subst, append_assoc, Bool, true, false, cond}
use Rattle.std.specs.Prelude.{Option, Some, None, is_some, ◌||◌}
use Rattle.std.proofs.lemmas.List.{append-nil, map-append}
use Rattle.lsp_desk.specs.declared.life.Life.{Life}
use Rattle.lsp_desk.specs.Meaning.{Meaning}
use Rattle.lsp_frame.specs.Codec.{Item, At, more, items_at, told_at, frames}
use Rattle.lsp_session.specs.declared.table.Entry.{Entry}
use Rattle.lsp_session.specs.Item.{ItemData}
use Rattle.lsp_session.specs.Semantics.{Semantics, IsLawfulHandlers}
use Rattle.lsp_session.specs.Run.{Order, Step, is_exit, has_exit, served}
use Rattle.lsp_server.specs.Items.{admitted, all_admitted, Decodes, GivesNext}
use Rattle.lsp_server.specs.Written.{Ran, RanPart}
use Rattle.lsp_server.specs.Served.{ServedTold}
use Rattle.lsp_server.specs.Serving.{PartTold}
use Rattle.lsp_server.proofs.KnownLemmas.{appends_more}
use Rattle.lsp_server.proofs.PointLemmas.{Point, find_at, GoesOn}
use Rattle.lsp_server.proofs.ItemsLemmas.{same_exit, has_exit-append, served-open, served-closed, run_table}
use Rattle.lsp_server.proofs.CodecLemmas.{decodes_nothing, decodes_more, next_found, next_none}
use Rattle.lsp_server.proofs.RanLemmas.{ran_none, ran_alone, ran_more, part_alone, part_after, part_all, part_whole, part_more, ran_notes, ran_lives}

is_none : (o : Option Life) → is_some o ≡ false → o ≡ None
is_none None h = refl
is_none (Some l) h = cc

module _ {H D C T P : Type 0} (semantics : Semantics H C T) (m : Meaning D) (order : Order P) (rounds : ℕ) where
  -- the items given so far were served, and no exit is among them
  pub record Going (a : Point semantics D P) (codec0 : At) (b : Point semantics D P) (codec1 : At) : Type 0 where
    pub given : List Item
    pub decodes : Decodes codec0 given codec1
    pub ran : Ran (Step semantics order rounds) m a (all_admitted given) b
    pub none : has_exit (find_at semantics a) (all_admitted given) ≡ false
    pub goes_on : GoesOn semantics b

module _ {H D C T P : Type 0} {semantics : Semantics H C T} {m : Meaning D} {order : Order P} {rounds : ℕ} where
  pub going_start : (a : Point semantics D P) (codec0 : At) → GoesOn semantics a → Going semantics m order rounds a codec0 a codec0
  going_start a codec0 goes_on = record { given = []; decodes = decodes_nothing codec0; ran = ran_none a; none = refl; goes_on = goes_on }

  module _ (a : Point semantics D P) (codec0 : At) (b : Point semantics D P) (codec1 : At) (going : Going semantics m order rounds a codec0 b codec1) where
    -- what is served of a whole input, after the items given
    pub going_served : (c : List ℕ) → all_admitted going.given ++ served (find_at semantics a) (all_admitted (items_at (more codec1 c))) ≡ served (find_at semantics a) (all_admitted (items_at (more codec0 c)))
    going_served c =
        sym (served-open (find_at semantics a) (all_admitted going.given) (all_admitted (items_at (more codec1 c))) going.none)
        ∙ ap (served (find_at semantics a)) (sym (map-append admitted going.given (items_at (more codec1 c))) ∙ ap all_admitted (sym (going.decodes.items c)))

    -- nothing of what comes next was written
    part_of_none : (c : List ℕ) → RanPart (Step semantics order rounds) m a (served (find_at semantics a) (all_admitted (items_at (more codec0 c)))) b.desk b.taken
    part_of_none c =
        subst (λ l. RanPart (Step semantics order rounds) m a l b.desk b.taken) (going_served c)
        (part_all a b (all_admitted going.given) (served (find_at semantics a) (all_admitted (items_at (more codec1 c)))) going.ran)

    pub told_all : (codec2 : At) → GivesNext codec1 None codec2 → told_at codec2 ≡ [] → ServedTold (Step semantics order rounds) m (find_at semantics a) a codec0 false b codec2
    told_all codec2 next waits = record {
      given = going.given;
      decodes = subst (λ l. Decodes codec0 l codec2) (append-nil going.given) (decodes_more codec0 codec1 codec2 going.given [] going.decodes (next_none codec1 codec2 next));
      ran = going.ran;
      ends = (going.none, waits);
    }

    module _ (laws : IsLawfulHandlers semantics) where
      same_table : (name : List ℕ) → find_at semantics b name ≡ find_at semantics a name
      same_table name = run_table semantics laws order rounds a.state b.state (all_admitted going.given) going.ran.effect going.ran.run name

      -- ---- one item more

      module _ (codec2 : At) (item : ItemData) (next : GivesNext codec1 (Some item) codec2) where
        all_and_one : (x : Item) → item ≡ admitted x → all_admitted going.given ++ item ∷ [] ≡ all_admitted (going.given ++ x ∷ [])
        all_and_one x is = ap (λ i. all_admitted going.given ++ i ∷ []) is ∙ sym (map-append admitted going.given (x ∷ []))

        ran_item : (d : Point semantics D P) → Ran (Step semantics order rounds) m b (item ∷ []) d → (x : Item) → item ≡ admitted x → Ran (Step semantics order rounds) m a (all_admitted (going.given ++ x ∷ [])) d
        ran_item d ran x is = subst (λ l. Ran (Step semantics order rounds) m a l d) (all_and_one x is) (ran_more a b d (all_admitted going.given) (item ∷ []) going.ran ran)

        exits_now : (d : Point semantics D P) → Ran (Step semantics order rounds) m b (item ∷ []) d → is_some d.state.session.exited ≡ is_exit (find_at semantics a) item
        exits_now d ran = ran_notes semantics m order rounds laws b d item ran going.goes_on.exited ∙ same_exit (find_at semantics b) (find_at semantics a) item same_table

        none_more : is_exit (find_at semantics a) item ≡ false → has_exit (find_at semantics a) (all_admitted going.given ++ item ∷ []) ≡ false
        none_more stays = has_exit-append (find_at semantics a) (all_admitted going.given) (item ∷ []) ∙ ap (λ x. x || (is_exit (find_at semantics a) item || false)) going.none ∙ ap (λ x. x || false) stays

        pub going_step : (d : Point semantics D P) → Ran (Step semantics order rounds) m b (item ∷ []) d → is_some d.state.session.exited ≡ false → Going semantics m order rounds a codec0 d codec2
        going_step d ran unnoted =
            let found = next_found codec1 codec2 item next in
            let stays : is_exit (find_at semantics a) item ≡ false = sym (exits_now d ran) ∙ unnoted in
            record {
              given = going.given ++ found.0 ∷ [];
              decodes = decodes_more codec0 codec1 codec2 going.given (found.0 ∷ []) going.decodes found.2;
              ran = ran_item d ran found.0 found.1;
              none = subst (λ l. has_exit (find_at semantics a) l ≡ false) (all_and_one found.0 found.1) (none_more stays);
              goes_on = record {
                exited = is_none d.state.session.exited unnoted;
                lives = ran_lives semantics m order rounds laws b d item ran (same_exit (find_at semantics b) (find_at semantics a) item same_table ∙ stays) going.goes_on.lives;
              };
            }

        pub told_exit : (d : Point semantics D P) → Ran (Step semantics order rounds) m b (item ∷ []) d → is_some d.state.session.exited ≡ true → ServedTold (Step semantics order rounds) m (find_at semantics a) a codec0 true d codec2
        told_exit d ran noted =
            let found = next_found codec1 codec2 item next in
            record {
              given = going.given ++ found.0 ∷ [];
              decodes = decodes_more codec0 codec1 codec2 going.given (found.0 ∷ []) going.decodes found.2;
              ran = ran_item d ran found.0 found.1;
              ends = record {
                front = all_admitted going.given;
                exit = item;
                split = sym (all_and_one found.0 found.1);
                none = going.none;
                is = sym (exits_now d ran) ∙ noted;
              };
            }

        begins_served : (c : List ℕ) → (rest : List ItemData) × ((all_admitted going.given ++ item ∷ []) ++ rest ≡ served (find_at semantics a) (all_admitted (items_at (more codec0 c))))
        begins_served c =
            let found = next_found codec1 codec2 item next in
            let rest = all_admitted (items_at (more codec2 c)) in
            let whole : all_admitted going.given ++ (item ∷ rest) ≡ all_admitted (items_at (more codec0 c)) =
            ap (λ i. all_admitted going.given ++ (i ∷ rest)) found.1 ∙ sym (map-append admitted going.given (found.0 ∷ items_at (more codec2 c)))
            ∙ ap (λ l. all_admitted (going.given ++ l)) (sym (found.2.items c)) ∙ ap all_admitted (sym (going.decodes.items c)) in
            at (is_exit (find_at semantics a) item) rest (sym (served-open (find_at semantics a) (all_admitted going.given) (item ∷ rest) going.none) ∙ ap (served (find_at semantics a)) whole)
          where
            at : (x : Bool) (rest : List ItemData) {goal : List ItemData} → all_admitted going.given ++ (cond x (item ∷ []) (item ∷ served (find_at semantics a) rest)) ≡ goal → (more : List ItemData) × ((all_admitted going.given ++ item ∷ []) ++ more ≡ goal)
            at true rest p = ([], append-nil (all_admitted going.given ++ item ∷ []) ∙ p)
            at false rest p = (served (find_at semantics a) rest, append_assoc (all_admitted going.given) (item ∷ []) (served (find_at semantics a) rest) ∙ p)

        part_of_step : (desk : D) (taken : Option (List ℕ)) → RanPart (Step semantics order rounds) m b (item ∷ []) desk taken → (c : List ℕ)
            → RanPart (Step semantics order rounds) m a (served (find_at semantics a) (all_admitted (items_at (more codec0 c)))) desk taken
        part_of_step desk taken part c =
            let begins = begins_served c in
            subst (λ l. RanPart (Step semantics order rounds) m a l desk taken) begins.1
            (part_more (all_admitted going.given ++ item ∷ []) begins.0 (part_after a b desk taken (all_admitted going.given) (item ∷ []) going.ran part))

  -- what was written of it alone
  going_alone : (a : Point semantics D P) (codec0 : At) (b : Point semantics D P) (codec1 : At) → (going : Going semantics m order rounds a codec0 b codec1)
      → Going semantics m order rounds (record a { taken = Some [] }) codec0 (record b { taken = Some (frames going.ran.effect.out) }) codec1
  going_alone a codec0 b codec1 going = record {
    given = going.given;
    decodes = going.decodes;
    ran = ran_alone a b (all_admitted going.given) going.ran;
    none = going.none;
    goes_on = record { exited = going.goes_on.exited; lives = going.goes_on.lives };
  }

  module _ (a : Point semantics D P) (codec0 : At) (b : Point semantics D P) (codec1 : At) (going : Going semantics m order rounds a codec0 b codec1) where
    pub told_part_none : PartTold (Step semantics order rounds) m (find_at semantics a) a codec0 b.desk b.taken
    told_part_none = record {
      written = frames going.ran.effect.out;
      part = λ c. part_alone (part_of_none (record a { taken = Some [] }) codec0 (record b { taken = Some (frames going.ran.effect.out) }) codec1 (going_alone a codec0 b codec1 going) c);
      writes = going.ran.writes;
    }

    pub told_part_step : IsLawfulHandlers semantics → (codec2 : At) (item : ItemData) → GivesNext codec1 (Some item) codec2 → (desk : D) (taken : Option (List ℕ)) → RanPart (Step semantics order rounds) m b (item ∷ []) desk taken
        → PartTold (Step semantics order rounds) m (find_at semantics a) a codec0 desk taken
    told_part_step laws codec2 item next desk taken part =
        let before = frames going.ran.effect.out in
        let alone : RanPart (Step semantics order rounds) m (record b { taken = Some before }) (item ∷ []) desk (Some (before ++ part.written)) = record { written = part.written; part = part.part; writes = refl } in
        record {
          written = before ++ part.written;
          part = λ c. part_alone (part_of_step (record a { taken = Some [] }) codec0 (record b { taken = Some before }) codec1 (going_alone a codec0 b codec1 going) laws codec2 item next desk (Some (before ++ part.written)) alone c);
          writes = appends_more a.taken b.taken taken before part.written going.ran.writes part.writes;
        }

  -- what was served through an exit is all that is served
  told_part : (find : List ℕ → Option Entry) (b : Point semantics D P) (codec1 : At) (d : Point semantics D P) (codec2 : At) → ServedTold (Step semantics order rounds) m find b codec1 true d codec2 → (c : List ℕ)
      → RanPart (Step semantics order rounds) m b (served find (all_admitted (items_at (more codec1 c)))) d.desk d.taken
  told_part find b codec1 d codec2 told c =
      let rest = all_admitted (items_at (more codec2 c)) in
      let whole : served find (all_admitted (items_at (more codec1 c))) ≡ all_admitted told.given =
      ap (λ l. served find (all_admitted l)) (told.decodes.items c) ∙ ap (served find) (map-append admitted told.given (items_at (more codec2 c)) ∙ ap (λ l. l ++ rest) told.ends.split)
      ∙ served-closed find told.ends.front told.ends.exit rest told.ends.none told.ends.is ∙ sym told.ends.split in
      subst (λ l. RanPart (Step semantics order rounds) m b l d.desk d.taken) (sym whole) (part_whole b d (all_admitted told.given) told.ran)

  -- so is what was served with no exit
  pub told_any : (exits : Bool) (find : List ℕ → Option Entry) (b : Point semantics D P) (codec1 : At) (d : Point semantics D P) (codec2 : At) → ServedTold (Step semantics order rounds) m find b codec1 exits d codec2 → (c : List ℕ)
      → RanPart (Step semantics order rounds) m b (served find (all_admitted (items_at (more codec1 c)))) d.desk d.taken
  told_any true find b codec1 d codec2 told c = told_part find b codec1 d codec2 told c
  told_any false find b codec1 d codec2 told c =
      let rest = all_admitted (items_at (more codec2 c)) in
      let whole : served find (all_admitted (items_at (more codec1 c))) ≡ all_admitted told.given ++ served find rest =
      ap (λ l. served find (all_admitted l)) (told.decodes.items c) ∙ ap (served find) (map-append admitted told.given (items_at (more codec2 c)))
      ∙ served-open find (all_admitted told.given) rest told.ends.0 in
      subst (λ l. RanPart (Step semantics order rounds) m b l d.desk d.taken) (sym whole) (part_more (all_admitted told.given) (served find rest) (part_whole b d (all_admitted told.given) told.ran))
