-- An admission is a change of the life and then a verdict, by which a call may begin.
use Rattle.std.proofs.Common.{◌≡◌, refl, sym, ◌∙◌, ap, subst, List, ◌++◌, ◌∷◌, [], Bool, true, false, not}
use Rattle.std.specs.Prelude.{Option, None, Some, option_map, if◌then◌else◌}
use Rattle.std.proofs.lemmas.List.{append-nil}
use Rattle.lsp_rpc.specs.declared.id.Id.{Id}
use Rattle.lsp_rpc.specs.Message.{IdData}
use Rattle.lsp_rpc.specs.Shown.{show_id}
use Rattle.lsp_desk.proofs.TraceLemmas.{grows_none}
use Rattle.lsp_desk.specs.declared.call.DeskFault.{DeskFault}
use Rattle.lsp_desk.specs.Meaning.{Meaning}
use Rattle.lsp_session.specs.declared.admission.Verdict.TheVariants.{Start}
use Rattle.lsp_session.specs.declared.pending.Pending.{Pending}
use Rattle.lsp_session.specs.declared.running.Running.{Running}
use Rattle.lsp_session.specs.declared.table.Entry.{Entry}
use Rattle.lsp_session.specs.declared.works.Phase.TheVariants as phases
use Rattle.lsp_session.specs.declared.works.Works.{Works}
use Rattle.lsp_session.specs.Item.{ItemData}
use Rattle.lsp_session.specs.Semantics.{Semantics, Fresh}
use Rattle.lsp_session.specs.Admission.{Admission, Occasion, RespectsLive, is_live, reads_by, admission}
use Rattle.lsp_session.specs.Verdict.{show_verdict, occasion_of}
use Rattle.lsp_session.specs.State.{State, Work, live, nothing, with_id}
use Rattle.lsp_session.specs.Run.{Admits, Admitting, Applies, Applying, Changes, Changing, admission_of, reads_in}
use Rattle.lsp_session.specs.PendingView.{live_ids}
use Rattle.lsp_session.specs.WorksView.{works_of, are_crowded, entered_works}
use Rattle.lsp_session.specs.View.{running_view, Facts, Keeps, KeepsAll, Goes}
use Rattle.lsp_session.specs.Ends.{Does, Breaks, MayDo}
use Rattle.lsp_session.proofs.SlotLemmas.{with_view, shown_crowded, shown_entered}
use Rattle.lsp_session.proofs.WorkLemmas.{entered_live, entered_settled, entered_sound}
use Rattle.lsp_session.proofs.AdmissionLemmas.{fresh_id}
use Rattle.lsp_session.proofs.OccasionLemmas.{same_occasion}
use Rattle.lsp_session.proofs.FactLemmas.{admits_fits}
use Rattle.lsp_session.proofs.RunningLemmas.{does_both, fails_after, extends_as, stays_on}
use Rattle.lsp_session.proofs.CutLemmas.{part_verdict}

module _ {H D C T : Type 0} (semantics : Semantics H C T) (m : Meaning D) (old : Running H D C T) (item : ItemData) (kept : KeepsAll semantics m old) where
  -- what the code asks of its parts is what the state says
  pub admission_is : (a : Admission semantics.Call) (crowded : Bool) → crowded ≡ are_crowded (works_of old.works)
      → a ≡ admission (occasion_of old.life (live_ids old.live) crowded) (semantics.find old.handlers) (reads_by old.empty_params semantics.reads) item
      → a ≡ admission_of semantics (running_view semantics m old).state item
  admission_is a crowded says is =
      let s = (running_view semantics m old).state in
      let there = same_occasion s old.life (live_ids old.live) crowded kept.0.life_is kept.0.live_are (says ∙ shown_crowded semantics s (works_of old.works)) kept.1 in
      is ∙ ap (λ (o : Occasion). admission o (semantics.find s.service) (reads_in semantics s) item) there

  module _ (mid new : Running H D C T) (a : Admission semantics.Call) (is : a ≡ admission_of semantics (running_view semantics m old).state item) (changed : Goes semantics m old (Changing a.change) mid)
      (unsaid : (running_view semantics m mid).out ≡ (running_view semantics m old).out) where
    pub admitted : Does semantics m (Keeps semantics m) mid (Applying semantics a.verdict) new → Does semantics m (KeepsAll semantics m) old (Admitting semantics item) new
    admitted done =
        let before = running_view semantics m old in
        let after = running_view semantics m new in
        let two = does_both m (λ s e s2. Changes s a.change e s2) (λ s e s2. Applies semantics s a.verdict e s2) before (running_view semantics m mid) after changed done.ok in
        let admits = subst (λ (x : Admission semantics.Call). Admits semantics before.state x two.effect after.state) is
        (record { first = two.does.first; mid = two.does.mid; changes = two.does.does_first; rest = two.does.rest; applies = two.does.does_rest; adds = two.does.adds }) in
        record {
          ok = record { effect = two.effect; does = admits; grows = two.grows; out = two.out };
          keeps = (done.keeps, admits_fits semantics before.state after.state item two.effect kept.1 admits);
        }

    pub not_admitted : (fault : DeskFault) → Breaks semantics m mid (Applying semantics a.verdict) new fault → Breaks semantics m old (Admitting semantics item) new fault
    not_admitted fault broken =
        let before = running_view semantics m old in
        let between = running_view semantics m mid in
        let after = running_view semantics m new in
        record {
          failed = fails_after m old.desk mid.desk new.desk changed.effect.trace fault changed.grows broken.failed;
          stays = stays_on before between after (record { out = extends_as before.out between.out unsaid; exited = ap (λ (x : State _ semantics.Call semantics.Task). x.exited) changed.does.leaves }) broken.stays;
          puts = part_verdict semantics m item before between after a is changed (record { trace = broken.failed.trace; grows = broken.failed.grows }) broken.puts;
          life = broken.life;
        }

-- ---- a call begins

-- but for its live ids the session is as it was
abbrev pub OnlyLive : {H D C T : Type 0} → Running H D C T → Running H D C T → Type 0
OnlyLive old mid = mid ≡ record old { live = mid.live }

pub only_live : {H D C T : Type 0} (old mid : Running H D C T) (live : Pending) → mid ≡ record old { live = live } → OnlyLive old mid
only_live old mid live is = is ∙ ap (λ (l : Pending). record old { live = l }) (sym (ap (λ (r : Running _ _ _ _). r.live) is))

-- a notification has no id that could be live
pub no_id : (live : List IdData) (id : Option Id) → ((x : Id) → id ≡ Some x → ⊥) → live ≡ live ++ with_id (option_map show_id id) []
no_id live None none = sym (append-nil live)
no_id live (Some x) none = absurd (none x refl)

-- the id of a request is live
pub id_began : {H D C T : Type 0} (semantics : Semantics H C T) (m : Meaning D) (old : Running H D C T) (id : Option Id) (entry : Entry) (call : C) → MayDo semantics m old (Start id entry call)
    → (x copy : Id) (fresh : Bool) (new : List IdData) → id ≡ Some x → show_id copy ≡ show_id x → fresh ≡ not (is_live (show_id copy) (live_ids old.live))
    → new ≡ (if fresh then live_ids old.live ++ show_id copy ∷ [] else live_ids old.live) → new ≡ live_ids old.live ++ with_id (option_map show_id id) []
id_began semantics m old id entry call may x copy fresh new is same tells ids =
    let begun = subst (λ (i : Option Id). RespectsLive (live (running_view semantics m old).state) (show_verdict semantics (Start i entry call))) is may.fresh in
    let other : is_live (show_id copy) (live_ids old.live) ≡ false = ap (λ (i : IdData). is_live i (live_ids old.live)) same ∙ ap (is_live (show_id x)) may.keeps.live_are ∙ begun in
    let yes : fresh ≡ true = tells ∙ ap not other in
    ids ∙ ap (λ (b : Bool). if b then live_ids old.live ++ show_id copy ∷ [] else live_ids old.live) yes ∙ ap (λ (i : IdData). live_ids old.live ++ i ∷ []) same
    ∙ ap (λ (i : Option Id). live_ids old.live ++ with_id (option_map show_id i) []) (sym is)

-- its id is live, and its work has entered a slot or the queue
pub call_began : {H D C T : Type 0} (semantics : Semantics H C T) (m : Meaning D) (old : Running H D C T) (live : Pending) (works : Works C T) (id : Option Id) (entry : Entry) (call : C) → MayDo semantics m old (Start id entry call)
    → live_ids live ≡ live_ids old.live ++ with_id (option_map show_id id) []
    → works_of works ≡ entered_works (works_of old.works) (record { id = id; entry = entry; phase = phases.Fresh call; due = true })
    → Does semantics m (Keeps semantics m) old (Applying semantics (show_verdict semantics (Start id entry call))) (record old { live = live; works = works })
call_began semantics m old live works id entry call may ids enters =
    let s = (running_view semantics m old).state in
    let w : Work semantics.Call semantics.Task = record { id = option_map show_id id; entry = entry; phase = Fresh (semantics.show_call call); due = true } in
    let leaves = ap (with_view semantics s) enters ∙ shown_entered semantics s (works_of old.works) _ in
    record {
      ok = record { effect = nothing; does = (refl, leaves); grows = grows_none m old.desk; out = sym (append-nil _) };
      keeps = subst (λ t. Facts semantics t old.life (live_ids live)) (sym leaves) (record {
        life_is = may.keeps.life_is;
        live_are = ids ∙ ap (λ ids. ids ++ with_id w.id []) may.keeps.live_are ∙ sym (entered_live s w may.keeps.settled);
        settled = entered_settled s w may.keeps.settled (fresh_id _ w.id entry (semantics.show_call call) may.fresh);
        sound = entered_sound semantics s w may.keeps.sound may.sound;
      });
    }
