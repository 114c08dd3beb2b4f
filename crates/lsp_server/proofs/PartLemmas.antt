-- What was written of a part of a run begins what the whole run writes.
use Rattle.std.proofs.Common.{◌≡◌, ℕ, List, [], ◌∷◌, ◌++◌, refl, sym, ◌∙◌, ap, subst, append_assoc, true}
use Rattle.lsp_rpc.specs.Message.{MessageData}
use Rattle.lsp_desk.specs.Meaning.{Meaning}
use Rattle.lsp_frame.specs.Codec.{frames}
use Rattle.lsp_session.specs.Item.{ItemData}
use Rattle.lsp_session.specs.Semantics.{Semantics}
use Rattle.lsp_session.specs.State.{Effect, nothing, both}
use Rattle.lsp_session.specs.Run.{Order, Step, Run, served}
use Rattle.lsp_session.proofs.RoundLemmas.{both-assoc}
use Rattle.lsp_session.proofs.StepLemmas.{run_on}
use Rattle.lsp_session.proofs.SameRunLemmas.{both_all, own_in_both, same_run}
use Rattle.lsp_server.specs.Course.{course}
use Rattle.lsp_server.specs.Items.{stream_items, stream_told}
use Rattle.lsp_server.specs.PartBegins.{PartBeginsRun}
use Rattle.lsp_server.proofs.FramesLemmas.{frames-append}

-- a run over some items and then others is one over the first and one over the others
run_apart : {S : Type 0} (step : S → ItemData → Effect → S → Type 0) (s t : S) (xs ys : List ItemData) (e : Effect) → Run step s (xs ++ ys) e t
    → (mid : S) × (a : Effect) × (b : Effect) × Run step s xs a mid × Run step mid ys b t × (e ≡ both a b)
run_apart step s t [] ys e run = (s, nothing, e, (refl, refl), run, refl)
run_apart step s t (x ∷ xs) ys e run =
    let more = run_apart step run.0 t xs ys run.2 run.4 in
    (more.0, both run.1 more.1, more.2, (run.0, run.1, more.1, run.3, more.3, refl), more.4, run.5 ∙ ap (λ z. both run.1 z) more.5 ∙ sym (both-assoc run.1 more.1 more.2))

-- the frames of a first part, what begins those of a second, the rest of these, and those of a third
begins : (first second third : List MessageData) (written rest : List ℕ) → written ++ rest ≡ frames second
    → (frames first ++ written) ++ (rest ++ frames third) ≡ frames ((first ++ second) ++ third)
begins first second third written rest is =
    append_assoc (frames first) written (rest ++ frames third)
    ∙ ap (λ l. frames first ++ l) (sym (append_assoc written rest (frames third)) ∙ ap (λ l. l ++ frames third) is)
    ∙ sym (append_assoc (frames first) (frames second) (frames third))
    ∙ ap (λ l. l ++ frames third) (sym (frames-append first second))
    ∙ sym (frames-append (first ++ second) third)

pub part_begins_run : {H D C T P X : Type 0} (semantics : Semantics H C T) (m : Meaning D) (order : Order P) (show : H → X) → PartBeginsRun semantics m order show
part_begins_run semantics m order show setting alone determined call whole size desk desk2 last bytes part ran =
    let step = Step semantics order setting.rounds in
    let start = (course semantics m order setting).start in
    let find = (course semantics m order setting).find in
    let codec = (course semantics m order setting).codec in
    let told = stream_told codec part.early in
    let given = part.part.given in
    let items = append_assoc told given part.part.rest ∙ ap (λ l. told ++ l) part.part.split ∙ part.split ∙ ap (λ bs. served find (stream_items codec bs)) (sym bytes) in
    let apart = run_apart step start last (told ++ given) part.part.rest ran.effect (subst (λ xs. Run step start xs ran.effect last) (sym items) ran.run) in
    let same = same_run semantics order show determined setting.rounds (told ++ given) start (both part.first part.part.effect) apart.1 part.part.last apart.0
    (run_on step start part.mid part.part.last told given part.first part.part.effect part.run part.part.run) apart.3
    (both_all part.first.trace part.part.effect.trace (part.grows.all_own alone) (part.part.grows.all_own (part.grows.alone ∙ alone)))
    (own_in_both ran.effect apart.1 apart.2 apart.5 (ran.grows.all_own alone)).0 in (
      part.part.part.0 ++ frames apart.2.out,
      begins part.first.out part.part.effect.out apart.2.out part.written part.part.part.0 part.part.part.1
          ∙ ap (λ (e : Effect). frames (e.out ++ apart.2.out)) (sym same.0) ∙ ap (λ (e : Effect). frames e.out) (sym apart.5),
    )
