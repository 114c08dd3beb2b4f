-- How lives go on.
use Rattle.std.proofs.Common.{◌≡◌, ◌<◌, ◌∙◌, sym, ap, subst, refl, arith, [], ◌∷◌, Bool, true, false}
use Rattle.std.proofs.lemmas.Bool.{ltb-true}
use Rattle.std.specs.Prelude.{Option, Some, None, ltb, if◌then◌else◌}
use Rattle.lsp_desk.specs.declared.life.Life.{Life}
use Rattle.lsp_desk.specs.declared.life.Life.TheVariants.{Uninitialized, Initializing, Initialized, ShutDown, Exited}
use Rattle.lsp_desk.specs.Lives.{rank, later, fallen}
use Rattle.lsp_desk.specs.Call.{Call, is_client}
use Rattle.lsp_desk.specs.Call as calls
use Rattle.lsp_desk.specs.Reply.{Reply}
use Rattle.lsp_desk.specs.Desk.{DeskState, desk_step}
use Rattle.lsp_desk.specs.Trace.{DeskEntry, after}
use Rattle.lsp_desk.specs.Laws.{LifeGoesOn, DeskLivesGoOn, EndsStay, ClientsLeaveLife}
use Rattle.lsp_desk.proofs.TraceLemmas.{life_by, life_after, step_life, entry_life, client_life}

-- what a call makes of a life
record GoesOn (life l2 : Life) : Type 0 where
  ended : life ≡ Exited → l2 ≡ Exited
  falls : rank l2 < rank life → (life ≡ Initializing) × (l2 ≡ Uninitialized)

stays : (life : Life) → GoesOn life life
stays life = record { ended = λ e. e; falls = λ less. absurd (omega (arith, less)) }

rises : (life l : Life) → GoesOn life (later life l)
rises life l = at (ltb (rank life) (rank l)) refl
  where
    last : (l : Life) → ltb 4 (rank l) ≡ true → ⊥
    last Uninitialized e = absurd (cc)
    last Initializing e = absurd (cc)
    last Initialized e = absurd (cc)
    last ShutDown e = absurd (cc)
    last Exited e = absurd (cc)

    at : (b : Bool) → ltb (rank life) (rank l) ≡ b → GoesOn life (if b then l else life)
    at true e = record {
      ended = λ is. absurd (last l (ap (λ x. ltb (rank x) (rank l)) (sym is) ∙ e));
      falls = λ less. absurd (omega (arith, less, ltb-true (rank life) (rank l) e));
    }
    at false e = stays life

falls_back : (life : Life) → GoesOn life (fallen life)
falls_back Uninitialized = stays Uninitialized
falls_back Initializing = record { ended = λ e. absurd (cc); falls = λ _. (refl, refl) }
falls_back Initialized = stays Initialized
falls_back ShutDown = stays ShutDown
falls_back Exited = stays Exited

ends : (life : Life) → GoesOn life Exited
ends Uninitialized = record { ended = λ _. refl; falls = λ less. absurd (omega (arith, less)) }
ends Initializing = record { ended = λ _. refl; falls = λ less. absurd (omega (arith, less)) }
ends Initialized = record { ended = λ _. refl; falls = λ less. absurd (omega (arith, less)) }
ends ShutDown = record { ended = λ _. refl; falls = λ less. absurd (omega (arith, less)) }
ends Exited = stays Exited

goes_on : (life : Life) (call : Call) → GoesOn life (life_by life call)
goes_on life (calls.Ask method params gated) = stays life
goes_on life (calls.Tell method params gated) = stays life
goes_on life (calls.Raw r) = stays life
goes_on life (calls.Poll ticket) = stays life
goes_on life calls.NextId = stays life
goes_on life calls.Look = stays life
goes_on life (calls.Rise l) = rises life l
goes_on life calls.Fall = falls_back life
goes_on life (calls.Answer r) = stays life
goes_on life calls.Next = stays life
goes_on life calls.Take = stays life
goes_on life calls.Close = ends life

of_life : (d d2 : DeskState) (l2 : Life) → d2.life ≡ l2 → GoesOn d.life l2 → LifeGoesOn d d2
of_life d d2 l2 is g = record {
  ended = λ e. is ∙ g.ended e;
  falls = λ less. let w = g.falls (subst (λ l. rank l < rank d.life) is less) in (w.0, is ∙ w.1);
}

pub lives_go_on_lem : DeskLivesGoOn
lives_go_on_lem d call = of_life d (desk_step d call).1 (life_by d.life call) (step_life d call) (goes_on d.life call)

pub clients_leave_life_lem : ClientsLeaveLife
clients_leave_life_lem d call is = step_life d call ∙ client_life d.life call is

entry_ended : (d : DeskState) (e : DeskEntry) → d.life ≡ Exited → (after d e).life ≡ Exited
entry_ended d e is = entry_life d e ∙ at e.reply
  where
    at : (reply : Option Reply) → life_after d.life e reply ≡ Exited
    at None = is
    at (Some reply) = (goes_on d.life e.call).ended is

pub ends_stay_lem : EndsStay
ends_stay_lem d d2 [] r is = ap (λ (x : DeskState). x.life) r ∙ is
ends_stay_lem d d2 (e ∷ es) r is = ends_stay_lem (after d e) d2 es r.1 (entry_ended d e is)
