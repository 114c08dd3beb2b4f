-- What the calls of a socket on its desk come to.
use Rattle.std.proofs.Common.{◌≡◌, ◌^◌, ◌-◌, ℕ, refl, List, [], ◌∷◌, ◌++◌, true, false, sym, ◌∙◌, ap, subst}
use Rattle.std.specs.Prelude.{Option, Some, None, Result, Ok, Err, IfErr, IsErrAnd}
use Rattle.std.specs.Option.{option_map}
use Rattle.lsp_rpc.specs.declared.request.Request.{Request}
use Rattle.lsp_rpc.specs.Message.{RequestData}
use Rattle.lsp_rpc.specs.Shown.{show_request}
use Rattle.lsp_desk.specs.declared.life.Life.{Life}
use Rattle.lsp_desk.specs.declared.life.Life.TheVariants as lives
use Rattle.lsp_desk.specs.declared.ready.Poll.TheVariants.{Ready, Pending}
use Rattle.lsp_desk.specs.Lives.{is_exited}
use Rattle.lsp_desk.specs.declared.call.DeskFault.{DeskFault}
use Rattle.lsp_desk.specs.declared.call.DeskFault.TheVariants as faults
use Rattle.lsp_desk.specs.declared.call.ServerReply.{ServerReply}
use Rattle.lsp_desk.specs.declared.call.ServerReply.TheVariants as code
use Rattle.lsp_desk.specs.Call.{Call, Look}
use Rattle.lsp_desk.specs.Reply.{Reply}
use Rattle.lsp_desk.specs.Reply as replies
use Rattle.lsp_desk.specs.Desk.{DeskState, desk_step, first_of}
use Rattle.lsp_desk.specs.Shown.{show_server_reply}
use Rattle.lsp_desk.specs.Trace.{DeskEntry, owns}
use Rattle.lsp_desk.specs.Meaning.{Meaning, Calls, Adds, Spends, PollsOn}
use Rattle.lsp_desk.specs.Socket.{AreCut, CutShort, looked, took_first, IsNextOf}
use Rattle.lsp_desk.proofs.TraceLemmas.{own_fits, grows_on, owns-append}

-- ---- what a reply is

-- the reply is the table's at some state
pub server_reply_is : {D : Type 0} (m : Meaning D) (old new : D) (call : Call) (reply : ServerReply) → Calls m show_server_reply old call (Ok reply) new → (mid : DeskState) × (show_server_reply reply ≡ (desk_step mid call).0)
server_reply_is m old new call reply p = own_fits (m.now old) (m.now new) p.trace (record { call = call; reply = Some (show_server_reply reply) }) p.grows.replays p.adds

-- only a life is shown as a life
pub no_life : (r : ServerReply) (life : Life) → show_server_reply r ≡ replies.LifeIs life → ((l : Life) → r ≡ code.Life l → ⊥) → ⊥
no_life (code.Life l) life e none = none l refl
no_life code.Done life e none = cc
no_life code.Given life e none = cc
no_life code.Ignored life e none = cc
no_life (code.First r) life e none = cc
no_life (code.Messages ms) life e none = cc

-- only a first message is shown as one
pub no_first : (r : ServerReply) (rs : List RequestData) (d : DeskState) → show_server_reply r ≡ (first_of d rs).0 → ((first : Option Request) → r ≡ code.First first → ⊥) → ⊥
no_first (code.Life l) [] d e none = cc
no_first (code.Life l) (x ∷ rs) d e none = cc
no_first code.Done [] d e none = cc
no_first code.Done (x ∷ rs) d e none = cc
no_first code.Given [] d e none = cc
no_first code.Given (x ∷ rs) d e none = cc
no_first code.Ignored [] d e none = cc
no_first code.Ignored (x ∷ rs) d e none = cc
no_first (code.First r) rs d e none = none r refl
no_first (code.Messages ms) [] d e none = cc
no_first (code.Messages ms) (x ∷ rs) d e none = cc

-- ---- calls that are cut short

-- what a call says of a fault that its desk is spent
abbrev pub TellsSpent : {D A : Type 0} → Meaning D → D → Result A DeskFault → Type 0
TellsSpent m new r = (n : ℕ) → r ≡ Err (faults.Spent n) → (n ≡ 2 ^ 64 - 1) × (m.spent new ≡ true)

spends_by : {R D : Type 0} (m : Meaning D) (new : D) (fault : DeskFault) → TellsSpent {A = R} m new (Err fault) → Spends m new fault
spends_by m new faults.NoMemory says = tt
spends_by m new (faults.Spent n) says = says n refl

cut_one : {R : Type 0} (show : R → Reply) (call : Call) (fault : DeskFault) (own : List DeskEntry) → Adds show call (Err fault) own → AreCut fault (call ∷ []) own
cut_one show call faults.NoMemory own one = subst (AreCut faults.NoMemory (call ∷ [])) (sym one) (refl, (refl, refl))
cut_one show call (faults.Spent n) own none = subst (AreCut (faults.Spent n) (call ∷ [])) (sym none) tt

-- the only call failed
pub call_cut : {D R : Type 0} (m : Meaning D) (show : R → Reply) (old new : D) (call : Call) (fault : DeskFault) → Calls m show old call (Err fault) new
    → TellsSpent {A = R} m new (Err fault) → CutShort m old new (call ∷ []) fault
call_cut {R = R} m show old new call fault p says = record { trace = p.trace; grows = p.grows; cut = cut_one show call fault (owns p.trace) p.adds; spends = spends_by {R = R} m new fault says }

-- the second of two calls failed
pub cut_second : {D : Type 0} (m : Meaning D) (old mid new : D) (life : Life) (d : Call) (fault : DeskFault) → PollsOn m old mid (λ own. own ≡ looked life ∷ []) → CutShort m mid new (d ∷ []) fault
    → CutShort m old new (Look ∷ d ∷ []) fault
cut_second m old mid new life d fault p q = record {
  trace = p.trace ++ q.trace;
  grows = grows_on m old mid new p.trace q.trace p.grows q.grows;
  cut = subst (AreCut fault (Look ∷ d ∷ [])) (sym (owns-append p.trace q.trace ∙ ap (λ l. l ++ owns q.trace) p.holds)) (refl, q.cut);
  spends = q.spends;
}

-- ---- one call after another

-- entries were made, and then others
pub polls_on : {D : Type 0} (m : Meaning D) (old mid new : D) (P Q R : List DeskEntry → Type 0) → PollsOn m old mid P → PollsOn m mid new Q → ((a b : List DeskEntry) → P a → Q b → R (a ++ b)) → PollsOn m old new R
polls_on m old mid new P Q R p q joins = record {
  trace = p.trace ++ q.trace;
  grows = grows_on m old mid new p.trace q.trace p.grows q.grows;
  holds = subst R (sym (owns-append p.trace q.trace)) (joins (owns p.trace) (owns q.trace) p.holds q.holds);
}

not_exited : (life : Life) → (life ≡ lives.Exited → ⊥) → is_exited life ≡ false
not_exited lives.Uninitialized goes_on = refl
not_exited lives.Initializing goes_on = refl
not_exited lives.Initialized goes_on = refl
not_exited lives.ShutDown goes_on = refl
not_exited lives.Exited goes_on = absurd (goes_on refl)

-- the session has not exited, and the first message was taken
pub next_some : {D : Type 0} (m : Meaning D) (old mid new : D) (life : Life) (r : Request) (first : Option Request) → first ≡ Some r → (life ≡ lives.Exited → ⊥) → PollsOn m old mid (λ own. own ≡ looked life ∷ [])
    → PollsOn m mid new (λ own. own ≡ took_first (option_map show_request first) ∷ []) → PollsOn m old new (IsNextOf (Ready (Some (show_request r))))
next_some m old mid new life r first is goes_on p q = polls_on m old mid new _ _ (IsNextOf (Ready (Some (show_request r)))) p q (λ a b x y.
    (life, not_exited life goes_on, ap (λ l. l ++ b) x ∙ ap (λ l. looked life ∷ l) (y ∙ ap (λ f. took_first (option_map show_request f) ∷ []) is)))

-- the session has not exited, and there was no message
pub next_none : {D : Type 0} (m : Meaning D) (old mid new : D) (life : Life) (first : Option Request) → first ≡ None → (life ≡ lives.Exited → ⊥) → PollsOn m old mid (λ own. own ≡ looked life ∷ [])
    → PollsOn m mid new (λ own. own ≡ took_first (option_map show_request first) ∷ []) → PollsOn m old new (IsNextOf Pending)
next_none m old mid new life first is goes_on p q = polls_on m old mid new _ _ (IsNextOf Pending) p q (λ a b x y.
    (life, not_exited life goes_on, ap (λ l. l ++ b) x ∙ ap (λ l. looked life ∷ l) (y ∙ ap (λ f. took_first (option_map show_request f) ∷ []) is)))

-- an error that a `?` made
pub on_error : {A E : Type 0} (r : Result A E) (e : E) (P : E → Type 0) → IsErrAnd r (λ x. x ≡ e) → P e → IfErr r P
on_error (Ok x) e P is p = tt
on_error (Err f) e P is p = subst P (sym is) p
