-- Each step keeps the rule.
use Rattle.std.proofs.Common.{◌≡◌, ◌≢◌, ◌⊎◌, inl, inr, ℕ, zero, suc, ◌+◌, ◌<◌, ◌≤◌, ◌^◌, ◌==◌, Bool, true, false, List, [], ◌∷◌, ◌++◌, length, set, refl, sym, ap, ◌∙◌, subst, ⊎_elim, arith, append-nil, append_assoc, length-append}
use Rattle.std.specs.Prelude.{slice_index, MatchBool, ◌%◌}
use mathlib.Core.Option.{Option, some, none, some-ne-none, some-injective}
use lib.ListN.{get_elem?}
use prog.Atomic.{either}
use native.Mathlib.Decide.{ℕ_discrete}
use native.Mathlib.Nat.{mod-eq_of_lt}
use Rattle.std.proofs.lemmas.Bool.Decides.{nat_tests}
use Rattle.lsp_desk.specs.Trace.{Fits as FitsEntry, after, AllBelow, times}
use Rattle.atomic_table.specs.Table.{State, stepped, Allows, Act, keeps, takes, gives, step, Valid, carried_after}
use Rattle.atomic_table.proofs.Lists.{at_set, set_here, set_else}
use Rattle.lsp_desk.specs.declared.plain.PlainDesk.{PlainDesk}
use Rattle.lsp_desk.specs.Desk.{opening}
use Rattle.lsp_desk.specs.Plain.{plain_state}
use Rattle.lsp_shared.specs.declared.view.Item.{Item}
use Rattle.lsp_shared.specs.declared.view.Phase.{Phase}
use Rattle.lsp_shared.specs.declared.view.Phase.TheVariants.{Idle, Drawn, Holding}
use Rattle.lsp_shared.specs.declared.view.View.{View}
use Rattle.lsp_shared.specs.Rule.{Kept, Sits, Stands, turns, held, once_below, one_at, IsLegal, AreClean, now_of, entry_of}
use Rattle.lsp_shared.specs.Steps.{Mine, reading, drawing, holding, passing_turn, Read, Drew, TookTurn, Passed, GotTurn, Ready}
use Rattle.lsp_shared.proofs.Totals.{total_set, total_at, total_two, total_only, one_other, once_yes, once_suc, once_le, once_some, one_same, times_append, below_mono, below_append, run_append, legal_append, clean_append, client_append}

-- one view changes, and the rest of the state as is said
pub rebuild : (s : State PlainDesk View) (k : Kept s) (id : ℕ) (v w : View) → get_elem? s.views id ≡ some v
    → (words : List ℕ) (homes : List (Option PlainDesk)) (log : List Item) (ticket : ℕ) (home : Option PlainDesk)
    → words ≡ ticket ∷ length log ∷ [] → homes ≡ home ∷ [] → length log ≤ ticket → ticket < 2 ^ 64 → IsLegal opening log → AreClean log
    → ((y : PlainDesk) → home ≡ some y → plain_state y ≡ now_of log)
    → (home ≡ none → (j : ℕ) × (u : View) × (get_elem? (set s.views id w) j ≡ some u) × (u.phase ≡ Holding (length log)))
    → ((j t : ℕ) (u : View) → get_elem? (set s.views id w) j ≡ some u → u.phase ≡ Holding t → home ≡ none)
    → ((x : ℕ) → turns x w + once_below x k.ticket ≡ once_below x ticket + turns x v)
    → w.owner ≡ v.owner → w.share ≡ v.share
    → ((j : ℕ) (u : View) → j ≢ id → get_elem? s.views j ≡ some u → Sits log ticket u) → Sits log ticket w
    → Kept record { words = words; homes = homes; views = set s.views id w }
rebuild s k id v w at words homes log ticket home words_are homes_are order small legal clean at_home away out once owner share others sits = record {
  log = log;
  ticket = ticket;
  home = home;
  owner = k.owner;
  words = words_are;
  homes = homes_are;
  order = order;
  small = small;
  legal = legal;
  clean = clean;
  at_home = at_home;
  away = away;
  out = out;
  once = λ x. let a = total_set (turns x) s.views id v w at in let b = k.once x in let c = once x in omega arith;
  owned = λ j u e is. ⊎_elim
      (λ (t : (j ≡ id) × (w ≡ u)). t.0 ∙ k.owned id v at (sym owner ∙ ap (λ (z : View). z.owner) t.1 ∙ is))
      (λ (t : (j ≢ id) × (get_elem? s.views j ≡ some u)). k.owned j u t.1 is)
      (at_set s.views id j w u e);
  shares = let a = total_set (λ z. z.share) s.views id v w at in let b = k.shares in let c = share in omega arith;
  sits = λ j u e. ⊎_elim
      (λ (t : (j ≡ id) × (w ≡ u)). subst (Sits log ticket) t.1 sits)
      (λ (t : (j ≢ id) × (get_elem? s.views j ≡ some u)). others j u t.0 t.1)
      (at_set s.views id j w u e);
}

length_at : {A : Type 0} (l : List A) (i : ℕ) (x : A) → get_elem? l i ≡ some x → i < length l
length_at [] i x q = absurd (some-ne-none x (sym q))
length_at (y ∷ l) zero x q = omega arith
length_at (y ∷ l) (suc i) x q = let r = length_at l i x q in omega arith

-- whoever is away still is, where the view that changes keeps its phase
pub away_on : (s : State PlainDesk View) (k : Kept s) (id : ℕ) (v w : View) → get_elem? s.views id ≡ some v → w.phase ≡ v.phase
    → k.home ≡ none → (j : ℕ) × (u : View) × (get_elem? (set s.views id w) j ≡ some u) × (u.phase ≡ Holding (length k.log))
away_on s k id v w at same e = let a = k.away e in go a.0 a.1 a.2 a.3 (native.Mathlib.Decide.ℕ_discrete a.0 id)
  where
    go : (j : ℕ) (u : View) → get_elem? s.views j ≡ some u → u.phase ≡ Holding (length k.log) → Dec (j ≡ id) → (j : ℕ) × (u : View) × (get_elem? (set s.views id w) j ≡ some u) × (u.phase ≡ Holding (length k.log))
    go j u there is (yes p) = let both : v ≡ u = some-injective v u (sym at ∙ ap (get_elem? s.views) (sym p) ∙ there) in
        (id, w, set_here s.views id w (length_at s.views id v at), same ∙ ap (λ (z : View). z.phase) both ∙ is)
    go j u there is (no n) = (j, u, set_else s.views id j w n ∙ there, is)

pub out_on : (s : State PlainDesk View) (k : Kept s) (id : ℕ) (v w : View) → get_elem? s.views id ≡ some v → w.phase ≡ v.phase
    → (j t : ℕ) (u : View) → get_elem? (set s.views id w) j ≡ some u → u.phase ≡ Holding t → k.home ≡ none
out_on s k id v w at same j t u e is = ⊎_elim
    (λ (x : (j ≡ id) × (w ≡ u)). k.out id t v at (sym same ∙ ap (λ (z : View). z.phase) x.1 ∙ is))
    (λ (x : (j ≢ id) × (get_elem? s.views j ≡ some u)). k.out j t u x.1 is)
    (at_set s.views id j w u e)

-- a view changes that has the same turns, and the words stay
pub stays : (s : State PlainDesk View) (k : Kept s) (id : ℕ) (v w : View) → get_elem? s.views id ≡ some v → (words : List ℕ) → words ≡ k.ticket ∷ length k.log ∷ []
    → w.made ≡ v.made → w.phase ≡ v.phase → w.owner ≡ v.owner → w.share ≡ v.share → Sits k.log k.ticket w → Kept record { words = words; homes = s.homes; views = set s.views id w }
stays s k id v w at words are made phase owner share sits = rebuild s k id v w at words s.homes k.log k.ticket k.home are k.homes k.order k.small k.legal k.clean k.at_home
    (away_on s k id v w at phase) (out_on s k id v w at phase) (λ x. let a : times x w.made ≡ times x v.made = ap (times x) made in let b : held x w.phase ≡ held x v.phase = ap (held x) phase in omega arith)
    owner share (λ j u _ e. k.sits j u e) sits

-- a load writes what it found
pub found_stays : (s : State PlainDesk View) (k : Kept s) → set s.words 0 (slice_index s.words 0) ≡ k.ticket ∷ length k.log ∷ []
found_stays s k = ap (λ ws. set ws 0 (slice_index ws 0)) k.words

pub looks : (slots id : ℕ) (me : Mine) → Allows Kept slots id me 0 (λ n. n) (Read (step slots 0 0 0 none) me)
looks slots id me s k len at small =
    let m = k.sits id me.0 at in
    let is : slice_index s.words 0 ≡ k.ticket = ap (λ ws. slice_index ws 0) k.words in
    let low = m.read in
    let w = reading me.0 (slice_index s.words 0) in (
      w,
      keeps,
      tt,
      stays s k id me.0 w at _ (found_stays s k) refl refl refl refl
          (record { rest = m.rest; begins = m.begins; beyond = m.beyond; told = m.told; clients = m.clients; inside = m.inside; stands = m.stands; read = omega arith; spent = m.spent }),
      (omega arith, refl),
    )

-- a turn that two views have is no turn
pub one_holder : (s : State PlainDesk View) (k : Kept s) (t i j : ℕ) (v u : View) → i ≢ j → get_elem? s.views i ≡ some v → get_elem? s.views j ≡ some u → 1 ≤ turns t v → 1 ≤ turns t u → ⊥
one_holder s k t i j v u n a b p q = let two = total_two (turns t) s.views i j v u n a b in let o = k.once t in let le = once_le t k.ticket in absurd (omega arith)

pub has_drawn : (t : ℕ) (v : View) → v.phase ≡ Drawn t → 1 ≤ turns t v
has_drawn t v is = let h : held t v.phase ≡ one_at t t = ap (held t) is in let o = one_same t in omega arith

pub has_holding : (t : ℕ) (v : View) → v.phase ≡ Holding t → 1 ≤ turns t v
has_holding t v is = let h : held t v.phase ≡ one_at t t = ap (held t) is in let o = one_same t in omega arith

-- a turn that a view has was drawn
pub was_drawn : (s : State PlainDesk View) (k : Kept s) (t id : ℕ) (v : View) → get_elem? s.views id ≡ some v → 1 ≤ turns t v → t < k.ticket
was_drawn s k t id v at h = let a = total_at (turns t) s.views id v at in let o = k.once t in once_some t k.ticket (omega arith)

pub idle_holds : {t : ℕ} → Idle ≡ Holding t → ⊥
idle_holds e = absurd (cc)

is_drawn : (p : Phase) (n t : ℕ) → p ≡ Drawn n → p ≡ Holding t → ⊥
is_drawn p n t a b = absurd (cc)

-- whoever is away is another, where the view that changes was not
pub away_other : (s : State PlainDesk View) (k : Kept s) (id : ℕ) (v w : View) → get_elem? s.views id ≡ some v → (v.phase ≡ Holding (length k.log) → ⊥)
    → k.home ≡ none → (j : ℕ) × (u : View) × (get_elem? (set s.views id w) j ≡ some u) × (u.phase ≡ Holding (length k.log))
away_other s k id v w at not e = let a = k.away e in
    (a.0, a.1, set_else s.views id a.0 w (λ (p : a.0 ≡ id). let both : v ≡ a.1 = some-injective v a.1 (sym at ∙ ap (get_elem? s.views) (sym p) ∙ a.2) in not (ap (λ (z : View). z.phase) both ∙ a.3)) ∙ a.2, a.3)

pub out_other : (s : State PlainDesk View) (k : Kept s) (id : ℕ) (w : View) → ((t : ℕ) → w.phase ≡ Holding t → ⊥)
    → (j t : ℕ) (u : View) → get_elem? (set s.views id w) j ≡ some u → u.phase ≡ Holding t → k.home ≡ none
out_other s k id w not j t u e is = ⊎_elim
    (λ (x : (j ≡ id) × (w ≡ u)). absurd (not t (ap (λ (z : View). z.phase) x.1 ∙ is)))
    (λ (x : (j ≢ id) × (get_elem? s.views j ≡ some u)). k.out j t u x.1 is)
    (at_set s.views id j w u e)

pub draws_hit : (s : State PlainDesk View) (k : Kept s) (id : ℕ) (v : View) (n : ℕ) → get_elem? s.views id ≡ some v → v.phase ≡ Idle → 0 < v.share → n + 1 < 2 ^ 64 → n ≡ k.ticket
    → Kept record { words = set s.words 0 (n + 1); homes = s.homes; views = set s.views id (drawing v n) }
draws_hit s k id v n at idle share small is =
    let m = k.sits id v at in
    let w = drawing v n in
    let h : held_now v = zero_held v idle in
    rebuild s k id v w at _ _ k.log (n + 1) k.home (ap (λ ws. set ws 0 (n + 1)) k.words) k.homes (let o = k.order in omega arith) small k.legal k.clean k.at_home
    (away_other s k id v w at (λ e. idle_holds (sym idle ∙ e))) (out_other s k id w (λ t e. absurd (cc)))
    (λ x. let a = once_suc x n in let b : once_below x n ≡ once_below x k.ticket = ap (once_below x) is in let c = h x in omega arith) refl refl
    (λ j u _ e. let mu = k.sits j u e in record { rest = mu.rest; begins = mu.begins; beyond = mu.beyond; told = mu.told; clients = mu.clients; inside = mu.inside; stands = mu.stands; read = (let r = mu.read in omega arith); spent = mu.spent })
    (record { rest = m.rest; begins = m.begins; beyond = m.beyond; told = m.told; clients = m.clients; inside = m.inside; stands = (let o = k.order in omega arith); read = (let r = m.read in omega arith); spent = λ e. absurd (omega arith) })
  where
    held_now : View → Type 0
    held_now v = (x : ℕ) → held x v.phase ≡ 0

    zero_held : (v : View) → v.phase ≡ Idle → held_now v
    zero_held v e x = ap (held x) e

abbrev Is : Mine → Mine → Type 0
Is a b = a ≡ b

pub draws : (slots id n : ℕ) (me : Mine) → me.0.phase ≡ Idle → 0 < me.0.share → n + 1 < 2 ^ 64
    → Allows Kept slots id me 0 (λ m. either (m == n) (n + 1) m) (Drew (step slots 0 n (n + 1) none) me)
draws slots id n me idle share small s k len at fits = go (m == n) refl
  where
    m : ℕ
    m = slice_index s.words 0

    is : m ≡ k.ticket
    is = ap (λ ws. slice_index ws 0) k.words

    go : (b : Bool) → (m == n) ≡ b → (w : View) × (a : Act PlainDesk) × Valid s.homes me.1 a × Kept (stepped s 0 (either b (n + 1) m) id me.1 w a)
        × MatchBool b (Is (w, carried_after me.1 a) (drawing me.0 n, me.1)) (Is (w, carried_after me.1 a) me)
    go true e = (drawing me.0 n, keeps, tt, draws_hit s k id me.0 n at idle share small (let q : m ≡ n = grind (arith, nat_tests) in sym q ∙ is), refl)
    go false e = (me.0, keeps, tt, stays s k id me.0 me.0 at _ (found_stays s k) refl refl refl refl (k.sits id me.0 at), refl)

pub home_there : (s : State PlainDesk View) (k : Kept s) (id t : ℕ) (v : View) → get_elem? s.views id ≡ some v → v.phase ≡ Drawn t → t ≡ length k.log → (y : PlainDesk) × (k.home ≡ some y)
home_there s k id t v at is here = go k.home refl
  where
    apart : (a : ℕ) (u : View) → get_elem? s.views a ≡ some u → u.phase ≡ Holding (length k.log) → Dec (a ≡ id) → ⊥
    apart a u there holds (yes p) = let both : v ≡ u = some-injective v u (sym at ∙ ap (get_elem? s.views) (sym p) ∙ there) in
        is_drawn v.phase t (length k.log) is (ap (λ (z : View). z.phase) both ∙ holds)
    apart a u there holds (no n) = one_holder s k t id a v u (λ e. n (sym e)) at there (has_drawn t v is) (has_holding t u (holds ∙ ap Holding (sym here)))

    go : (h : Option PlainDesk) → k.home ≡ h → (y : PlainDesk) × (k.home ≡ some y)
    go (some y) e = (y, e)
    go none e = let a = k.away e in absurd (apart a.0 a.1 a.2 a.3 (ℕ_discrete a.0 id))

pub takes_kept : (s : State PlainDesk View) (k : Kept s) (id t : ℕ) (v : View) (at : get_elem? s.views id ≡ some v) → v.phase ≡ Drawn t → 0 < v.share → t ≡ length k.log → (words : List ℕ) → words ≡ k.ticket ∷ length k.log ∷ []
    → Kept record { words = words; homes = set s.homes 0 none; views = set s.views id (holding v t (v.seen ++ (k.sits id v at).rest)) }
takes_kept s k id t v at is share here words are =
    let m = k.sits id v at in
    let w = holding v t (v.seen ++ m.rest) in
    let same : held_same v t = same_held v t is in
    rebuild s k id v w at words _ k.log k.ticket none are (ap (λ hs. set hs 0 none) k.homes) k.order k.small k.legal k.clean
    (λ y e. absurd (some-ne-none y (sym e)))
    (λ _. (id, w, set_here s.views id w (length_at s.views id v at), ap Holding here))
    (λ j u' u e q. refl)
    (λ x. let q = same x in omega arith) refl refl
    (λ j u _ e. k.sits j u e)
    (record {
      rest = [];
      begins = m.begins ∙ sym (append-nil (v.seen ++ m.rest));
      beyond = m.beyond;
      told = m.told;
      clients = λ _. tt;
      inside = m.inside;
      stands = (here, refl);
      read = m.read;
      spent = λ e. absurd (omega arith);
    })
  where
    held_same : View → ℕ → Type 0
    held_same v t = (x : ℕ) → held x v.phase ≡ one_at x t

    same_held : (v : View) (t : ℕ) → v.phase ≡ Drawn t → held_same v t
    same_held v t e x = ap (held x) e

drawn_same : (p : Phase) (n t : ℕ) → p ≡ Drawn n → p ≡ Drawn t → n ≡ t
drawn_same p n t a b = cc

holding_same : (p : Phase) (n t : ℕ) → p ≡ Holding n → p ≡ Holding t → n ≡ t
holding_same p n t a b = cc

-- who has the whole share has made each call so far
pub has_all : (s : State PlainDesk View) (k : Kept s) (id t : ℕ) (v : View) → get_elem? s.views id ≡ some v → v.phase ≡ Drawn t → t ≡ length k.log → v.share ≡ 2 ^ 63 → (x : ℕ) → x < length k.log → times x v.made ≡ 1
has_all s k id t v at is here all x less =
    let only = total_only (turns x) s.views id v at (λ j u apart e.
    let two = total_two (λ z. z.share) s.views j id u v apart e at in
    let shares = k.shares in
    let none_left : u.share ≡ 0 = omega arith in
    let sp = (k.sits j u e).spent none_left in
    let a : times x u.made ≡ 0 = ap (times x) sp.0 in
    let b : held x u.phase ≡ 0 = ap (held x) sp.1 in
    omega arith) in
    let once = k.once x in
    let yes' = once_yes x k.ticket (let o = k.order in omega arith) in
    let h : held x v.phase ≡ one_at x t = ap (held x) is in
    let o = one_other x t (λ e. absurd (omega arith)) in
    omega arith

pub takes_turn : (slots id t : ℕ) (me : Mine) → me.0.phase ≡ Drawn t → me.1 ≡ [] → 0 < me.0.share → Allows Kept slots id me 1 (λ n. n) (TookTurn (step slots 1 0 0 none) me)
takes_turn slots id t me is empty share s k len at fits = go (ℕ_discrete found t)
  where
    found : ℕ
    found = slice_index s.words 1

    serving : found ≡ length k.log
    serving = ap (λ ws. slice_index ws 1) k.words

    words : set s.words 1 found ≡ k.ticket ∷ length k.log ∷ []
    words = ap (λ ws. set ws 1 (slice_index ws 1)) k.words

    told : (me2 : Mine) → (found ≡ t → GotTurn me.0 t me2) × ((found ≡ t → ⊥) → me2 ≡ me) → TookTurn (step slots 1 0 0 none) me found me2
    told me2 p u q = subst (λ (z : ℕ). (found ≡ z → GotTurn me.0 z me2) × ((found ≡ z → ⊥) → me2 ≡ me)) (drawn_same me.0.phase t u is q) p

    go : Dec (found ≡ t) → (w : View) × (a : Act PlainDesk) × Valid s.homes me.1 a × Kept (stepped s 1 found id me.1 w a) × TookTurn (step slots 1 0 0 none) me found (w, carried_after me.1 a)
    go (no ne) = (me.0, keeps, tt, stays s k id me.0 me.0 at _ words refl refl refl refl (k.sits id me.0 at), told me ((λ e. absurd (ne e)), (λ _. refl)))
    go (yes e) =
        let here : t ≡ length k.log = sym e ∙ serving in
        let y = home_there s k id t me.0 at is here in
        let m = k.sits id me.0 at in
        let w = holding me.0 t (me.0.seen ++ m.rest) in
        let got : GotTurn me.0 t (w, (0, y.0) ∷ me.1) = record {
          rest = m.rest;
          desk = y.0;
          view = refl;
          carried = ap (λ c. (0, y.0) ∷ c) empty;
          legal = subst (IsLegal opening) m.begins k.legal;
          clean = subst AreClean m.begins k.clean;
          state = k.at_home y.0 y.1 ∙ ap now_of m.begins;
          turn = here ∙ ap length m.begins;
          clients = m.clients;
          inside = subst (λ l. AllBelow (length l) me.0.made) m.begins m.inside;
          none_yet = (let a = total_at (turns t) s.views id me.0 at in let o = k.once t in let le = once_le t k.ticket in let h : held t me.0.phase ≡ one_at t t = ap (held t) is in let q = one_same t in omega arith);
          once = λ x. (let a = total_at (turns x) s.views id me.0 at in let o = k.once x in let le = once_le x k.ticket in omega arith);
          whole = λ all x less. has_all s k id t me.0 at is here all x (let q : length k.log ≡ length (me.0.seen ++ m.rest) = ap length m.begins in omega arith);
        } in
        (w, takes 0 y.0, ap (λ hs. get_elem? hs 0) k.homes ∙ ap some y.1, takes_kept s k id t me.0 at is share here _ words, told _ ((λ _. got), (λ ne. absurd (ne e))))

-- the turn of a seat that holds the desk is the next one, and it has seen the whole history
pub passes_kept : (s : State PlainDesk View) (k : Kept s) (id t : ℕ) (me : Mine) (item : Item) (ready : Ready item t me) → get_elem? s.views id ≡ some me.0 → 0 < me.0.share
    → (words : List ℕ) → words ≡ k.ticket ∷ (length k.log + 1) ∷ []
    → Kept record { words = words; homes = set s.homes 0 (some ready.desk); views = set s.views id (passing_turn me.0 t item) }
passes_kept s k id t me item ready at share words are =
    let v = me.0 in
    let m = k.sits id v at in
    let w = passing_turn v t item in
    let log = k.log ++ item ∷ [] in
    let st : Stands (length k.log) m.rest (Holding t) = subst (Stands (length k.log) m.rest) ready.phase m.stands in
    let whole : k.log ≡ v.seen = m.begins ∙ ap (λ r. v.seen ++ r) st.1 ∙ append-nil v.seen in
    let below = was_drawn s k t id v at (has_holding t v ready.phase) in
    let more : length log ≡ length k.log + 1 = omega (arith, length-append k.log (item ∷ [])) in
    let longer : log ≡ v.seen ++ item ∷ [] = ap (λ l. l ++ item ∷ []) whole in
    let fits : FitsEntry (now_of k.log) (entry_of item) = subst (λ l. FitsEntry (now_of l) (entry_of item)) (sym whole) ready.fits in
    let none_out = alone s k id t v at ready.phase st.0 in
    rebuild s k id v w at words _ log k.ticket (some ready.desk) (are ∙ ap (λ (n : ℕ). k.ticket ∷ n ∷ []) (sym more)) (ap (λ hs. set hs 0 (some ready.desk)) k.homes)
    (let q = st.0 in omega arith) k.small (legal_append opening k.log (item ∷ []) k.legal (fits, tt)) (clean_append k.log (item ∷ []) k.clean (ready.clean, tt))
    (λ y e. ap plain_state (sym (some-injective ready.desk y e)) ∙ ready.state ∙ ap (λ l. after (now_of l) (entry_of item)) (sym whole) ∙ sym (run_append opening k.log (item ∷ [])))
    (λ e. absurd (some-ne-none ready.desk e))
    (λ j u' u e q. ⊎_elim
    (λ (x : (j ≡ id) × (w ≡ u)). absurd (idle_holds (ap (λ (z : View). z.phase) x.1 ∙ q)))
    (λ (x : (j ≢ id) × (get_elem? s.views j ≡ some u)). absurd (none_out j u' u x.0 x.1 (inr q)))
    (at_set s.views id j w u e))
    (λ x. let a = times_append x v.made (t ∷ []) in let h : held x v.phase ≡ one_at x t = ap (held x) ready.phase in omega arith)
    refl refl
    (λ j u apart e. let mu = k.sits j u e in record {
      rest = mu.rest ++ item ∷ [];
      begins = ap (λ l. l ++ item ∷ []) mu.begins ∙ append_assoc u.seen mu.rest (item ∷ []);
      beyond = mu.beyond ++ item ∷ [];
      told = ap (λ l. l ++ item ∷ []) mu.told ∙ append_assoc u.told mu.beyond (item ∷ []);
      clients = λ is. client_append mu.rest (item ∷ []) (mu.clients is) (ready.client (not_owner s k id j v u at e apart is), tt);
      inside = below_mono (length k.log) (length log) u.made (omega arith) mu.inside;
      stands = still (length k.log) (length log) mu.rest (mu.rest ++ item ∷ []) u.phase more (λ q. none_out j t u apart e (inl (q ∙ ap Drawn (sym st.0)))) (λ n q. none_out j n u apart e (inr q)) mu.stands;
      read = mu.read;
      spent = mu.spent;
    })
    (record {
      rest = [];
      begins = longer ∙ sym (append-nil (v.seen ++ item ∷ []));
      beyond = m.beyond ++ item ∷ [];
      told = ap (λ l. l ++ item ∷ []) m.told ∙ append_assoc v.told m.beyond (item ∷ []);
      clients = λ _. tt;
      inside = below_append (length log) v.made (t ∷ []) (below_mono (length k.log) (length log) v.made (omega arith) m.inside) ((let q = st.0 in omega arith), tt);
      stands = tt;
      read = m.read;
      spent = λ e. absurd (omega arith);
    })
  where
    -- no other has drawn this turn, and no other holds the desk
    alone : (s : State PlainDesk View) (k : Kept s) (id t : ℕ) (v : View) → get_elem? s.views id ≡ some v → v.phase ≡ Holding t → t ≡ length k.log
        → (j n : ℕ) (u : View) → j ≢ id → get_elem? s.views j ≡ some u → (u.phase ≡ Drawn t) ⊎ (u.phase ≡ Holding n) → ⊥
    alone s k id t v at is here j n u apart e q = ⊎_elim
        (λ (d : u.phase ≡ Drawn t). one_holder s k t j id u v apart e at (has_drawn t u d) (has_holding t v is))
        (λ (h : u.phase ≡ Holding n). let su : Stands (length k.log) (k.sits j u e).rest (Holding n) = subst (Stands (length k.log) (k.sits j u e).rest) h (k.sits j u e).stands in
        one_holder s k t j id u v apart e at (has_holding t u (h ∙ ap Holding (su.0 ∙ sym here))) (has_holding t v is))
        q

    still : (n n2 : ℕ) (rest rest2 : List Item) (p : Phase) → n2 ≡ n + 1 → (p ≡ Drawn n → ⊥) → ((m : ℕ) → p ≡ Holding m → ⊥) → Stands n rest p → Stands n2 rest2 p
    still n n2 rest rest2 Idle more a b st = tt
    still n n2 rest rest2 (Drawn t) more a b st = let ne : t ≢ n = (λ e. a (ap Drawn e)) in omega arith
    still n n2 rest rest2 (Holding t) more a b st = absurd (b t refl)

    not_owner : (s : State PlainDesk View) (k : Kept s) (id j : ℕ) (v u : View) → get_elem? s.views id ≡ some v → get_elem? s.views j ≡ some u → j ≢ id → u.owner ≡ true → v.owner ≡ false
    not_owner s k id j v u at e apart is = go v.owner refl
      where
        go : (b : Bool) → v.owner ≡ b → v.owner ≡ false
        go true q = absurd (apart (k.owned j u e is ∙ sym (k.owned id v at q)))
        go false q = q

pub passes : (slots id t : ℕ) (me : Mine) (item : Item) → Ready item t me → 0 < me.0.share → Allows Kept slots id me 1 (λ n. (n + 1) % 2 ^ 64) (Passed item (step slots 1 1 0 none) me)
passes slots id t me item ready share s k len at fits =
    let serving : slice_index s.words 1 ≡ length k.log = ap (λ ws. slice_index ws 1) k.words in
    let below = was_drawn s k t id me.0 at (has_holding t me.0 ready.phase) in
    let m = k.sits id me.0 at in
    let st : Stands (length k.log) m.rest (Holding t) = subst (Stands (length k.log) m.rest) ready.phase m.stands in
    let next : (slice_index s.words 1 + 1) % 2 ^ 64 ≡ length k.log + 1 = mod-eq_of_lt (let q = st.0 in let r = k.small in omega arith) ∙ ap (λ (n : ℕ). n + 1) serving in
    let words : set s.words 1 ((slice_index s.words 1 + 1) % 2 ^ 64) ≡ k.ticket ∷ (length k.log + 1) ∷ [] = ap (λ (n : ℕ). set s.words 1 n) next ∙ ap (λ ws. set ws 1 (length k.log + 1)) k.words in
    let kept = passes_kept s k id t me item ready at share (set s.words 1 ((slice_index s.words 1 + 1) % 2 ^ 64)) words in (
      passing_turn me.0 t item,
      gives,
      tt,
      subst (λ c. Kept (stepped s 1 ((slice_index s.words 1 + 1) % 2 ^ 64) id c (passing_turn me.0 t item) gives)) (sym ready.carried) kept,
      (λ u q. gone u q ready.carried),
    )
  where
    gone : (u : ℕ) → me.0.phase ≡ Holding u → me.1 ≡ (0, ready.desk) ∷ [] → Is (passing_turn me.0 t item, carried_after me.1 gives) (passing_turn me.0 u item, [])
    gone u q c = let same : t ≡ u = holding_same me.0.phase t u ready.phase q in λ i. (passing_turn me.0 (same i) item, carried_after (c i) gives)
