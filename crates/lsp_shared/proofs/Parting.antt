-- Splitting a seat, joining two, and the first state.
use Rattle.std.proofs.Common.{◌≡◌, ℕ, zero, suc, ◌+◌, ◌-◌, ◌/◌, ◌^◌, ◌==◌, ◌<◌, ◌≤◌, ◌||◌, ltb, Bool, true, false, List, [], ◌∷◌, ◌++◌, length, set, refl, sym, ap, ◌∙◌, subst, ⊎_elim, arith, true≢false, append-nil, if◌then◌else◌}
use Rattle.std.specs.Prelude.{max}
use Rattle.std.proofs.lemmas.Bool.Decides.{nat_tests}
use mathlib.Core.Option.{some, none, some-ne-none, some-injective}
use lib.ListN.{get_elem?}
use native.Mathlib.Nat.{div-le_self}
use Rattle.atomic_table.specs.Table.{Allows, Splits, Joins, keeps, step, opening as table_opening}
use Rattle.atomic_table.proofs.Lists.{at_set, at_snoc, set_else, at_longer}
use Rattle.lsp_desk.specs.declared.plain.PlainDesk.{PlainDesk}
use Rattle.lsp_desk.specs.Desk.{DeskState, opening}
use Rattle.lsp_desk.specs.Plain.{plain_state}
use Rattle.lsp_desk.specs.Trace.{after, AllBelow}
use Rattle.lsp_shared.specs.declared.view.Item.{Item}
use Rattle.lsp_shared.specs.declared.view.Phase.TheVariants.{Idle}
use Rattle.lsp_shared.specs.declared.view.View.{View}
use Rattle.lsp_shared.specs.Rule.{Kept, Sits, Stands, turns, held, IsLegal, AreClean, AllClient, entry_of, newcomer}
use Rattle.lsp_shared.specs.Steps.{Mine, half, rest_of, joined, empty, longer, learned, Learned, Heard, Begins, AddsClients, IsSoundView}
use Rattle.lsp_shared.proofs.Totals.{total_set, total_at, total_snoc, times_append, once_le, below_mono, below_append, clean_take}
use Rattle.lsp_shared.proofs.Moves.{stays, found_stays, away_on, out_on, idle_holds}

pub off : false ≡ true → ⊥
off e = true≢false (sym e)

-- after one view changed, a view is that one or as before
at_cases : {X : Type 0} (l : List View) (i j : ℕ) (a b : View) → get_elem? (set l i a) j ≡ some b → (j ≡ i → a ≡ b → X) → (get_elem? l j ≡ some b → X) → X
at_cases l i j a b e f g = ⊎_elim (λ t. f t.0 t.1) (λ t. g t.1) (at_set l i j a b e)

pub splits : (id : ℕ) (v : View) → 2 ≤ v.share → Splits Kept id v (rest_of v) (half v)
splits id v share s k at =
    let l = rest_of v in
    let r = half v in
    let m = k.sits id v at in
    let halves : l.share + r.share ≡ v.share = (let d : v.share / 2 ≤ v.share = div-le_self v.share 2 in omega arith) in
    let some_left : 0 < l.share = omega arith in
    record {
      log = k.log;
      ticket = k.ticket;
      home = k.home;
      owner = k.owner;
      words = k.words;
      homes = k.homes;
      order = k.order;
      small = k.small;
      legal = k.legal;
      clean = k.clean;
      at_home = k.at_home;
      away = λ e. let a = away_on s k id v l at refl e in (a.0, a.1, at_longer (set s.views id l) (r ∷ []) a.0 a.1 a.2, a.3);
      out = λ j t u e is. ⊎_elim (λ (q : get_elem? (set s.views id l) j ≡ some u). out_on s k id v l at refl j t u q is) (λ (q : r ≡ u). absurd (idle_holds (ap (λ (z : View). z.phase) q ∙ is))) (at_snoc (set s.views id l) r u j e);
      once = λ x. let a = total_set (turns x) s.views id v l at in let b = total_snoc (turns x) (set s.views id l) r in let c = k.once x in omega arith;
      owned = λ j u e is. ⊎_elim
          (λ (q : get_elem? (set s.views id l) j ≡ some u). at_cases s.views id j l u q (λ p t. p ∙ k.owned id v at (ap (λ (z : View). z.owner) t ∙ is)) (λ h. k.owned j u h is))
          (λ (q : r ≡ u). absurd (off (ap (λ (z : View). z.owner) q ∙ is)))
          (at_snoc (set s.views id l) r u j e);
      shares = (let a = total_set (λ z. z.share) s.views id v l at in let b = total_snoc (λ z. z.share) (set s.views id l) r in let c = k.shares in omega arith);
      sits = λ j u e. ⊎_elim
          (λ (q : get_elem? (set s.views id l) j ≡ some u). at_cases s.views id j l u q
          (λ _ t. subst (Sits k.log k.ticket) t (record { rest = m.rest; begins = m.begins; beyond = m.beyond; told = m.told; clients = m.clients; inside = m.inside; stands = m.stands; read = m.read; spent = λ z. absurd (omega arith) }))
          (k.sits j u))
          (λ (q : r ≡ u). subst (Sits k.log k.ticket) q (record { rest = m.rest; begins = m.begins; beyond = k.log; told = refl; clients = λ z. absurd (off z); inside = tt; stands = tt; read = omega arith; spent = λ _. (refl, refl) }))
          (at_snoc (set s.views id l) r u j e);
    }

client_drop : (c d : List Item) → AllClient (c ++ d) → AllClient d
client_drop [] d p = p
client_drop (x ∷ xs) d p = client_drop xs d p.1

client_take : (c d : List Item) → AllClient (c ++ d) → AllClient c
client_take [] d p = tt
client_take (x ∷ xs) d p = (p.0, client_take xs d p.1)

-- of two beginnings of one list the shorter begins the longer
split_at : (a b c d : List Item) → a ++ b ≡ c ++ d → length a ≤ length c → (r : List Item) × (c ≡ a ++ r) × (b ≡ r ++ d)
split_at [] b c d e le = (c, refl, e)
split_at (x ∷ xs) b [] d e le = absurd (omega arith)
split_at (x ∷ xs) b (y ∷ ys) d e le = let r = split_at xs b ys d (tails e) (omega arith) in (r.0, (λ i. sym (heads e) i ∷ r.1 i), r.2)
  where
    tails : {x y : Item} {xs ys : List Item} → x ∷ xs ≡ y ∷ ys → xs ≡ ys
    tails e = cc

    heads : {x y : Item} {xs ys : List Item} → x ∷ xs ≡ y ∷ ys → x ≡ y
    heads e = cc

joined_sits : (log : List Item) (ticket : ℕ) (v w : View) → Sits log ticket v → Sits log ticket w → 0 < v.share → Sits log ticket (joined v w)
joined_sits log ticket v w m n share = record {
  rest = m.rest;
  begins = m.begins;
  beyond = n.rest;
  told = n.begins;
  clients = m.clients;
  inside = below_append (length log) v.made w.made m.inside n.inside;
  stands = m.stands;
  read = (let a = m.read in let b = n.read in omega arith);
  spent = λ z. absurd (omega arith);
}

pub joins : (id : ℕ) (v : View) (other : ℕ) (w : View) → 0 < v.share → w.phase ≡ Idle → w.owner ≡ false → Joins Kept id v other w (joined v w) empty
joins id v other w share idle no_owner s k at apart there0 =
    let b = joined v w in
    let m = k.sits id v at in
    let there : get_elem? s.views other ≡ some w = sym (set_else s.views id other b apart) ∙ there0 in
    let n = k.sits other w there in
    let views = set s.views id b in
    let last = set views other empty in
    record {
      log = k.log;
      ticket = k.ticket;
      home = k.home;
      owner = k.owner;
      words = k.words;
      homes = k.homes;
      order = k.order;
      small = k.small;
      legal = k.legal;
      clean = k.clean;
      at_home = k.at_home;
      away = λ e. let a = away_on s k id v b at refl e in (a.0, a.1, set_else views other a.0 empty (λ p. idle_holds (sym idle ∙ ap (λ (z : View). z.phase) (some-injective w a.1 (sym there0 ∙ ap (get_elem? views) (sym p) ∙ a.2)) ∙ a.3)) ∙ a.2, a.3);
      out = λ j t u e is. at_cases views other j empty u e
          (λ _ q. absurd (idle_holds (ap (λ (z : View). z.phase) q ∙ is)))
          (λ q. out_on s k id v b at refl j t u q is);
      once = λ x. let a = total_set (turns x) s.views id v b at in let c = total_set (turns x) views other w empty there0 in let d = k.once x in let f = times_append x v.made w.made in
          let g : held x w.phase ≡ 0 = ap (held x) idle in omega arith;
      owned = λ j u e is. at_cases views other j empty u e
          (λ _ q. absurd (off (ap (λ (z : View). z.owner) q ∙ is)))
          (λ q. at_cases s.views id j b u q (λ p t. p ∙ k.owned id v at (ap (λ (z : View). z.owner) t ∙ is)) (λ h. k.owned j u h is));
      shares = (let a = total_set (λ z. z.share) s.views id v b at in let c = total_set (λ z. z.share) views other w empty there0 in let d = k.shares in omega arith);
      sits = λ j u e. at_cases views other j empty u e
          (λ _ q. subst (Sits k.log k.ticket) q (record { rest = k.log; begins = refl; beyond = k.log; told = refl; clients = λ z. absurd (off z); inside = tt; stands = tt; read = omega arith; spent = λ _. (refl, refl) }))
          (λ q. at_cases s.views id j b u q (λ _ t. subst (Sits k.log k.ticket) t (joined_sits k.log k.ticket v w m n share)) (k.sits j u));
    }

legal_take : (d : DeskState) (a b : List Item) → IsLegal d (a ++ b) → IsLegal d a
legal_take d [] b p = tt
legal_take d (x ∷ xs) b p = (p.0, legal_take (after d (entry_of x)) xs b p.1)

-- the view with the longer of what it has seen and what it was told, and which of the two begins the other
record Hears (log : List Item) (ticket : ℕ) (v : View) (l : List Item) : Type 0 where
  sits : Sits log ticket record { seen = l; told = []; made = v.made; read = v.read; share = v.share; owner = v.owner; phase = v.phase }
  seen : Begins v.seen l
  told : Begins v.told l
  clients : v.owner ≡ true → AddsClients v.seen l

hears : (log : List Item) (ticket : ℕ) (v : View) → Sits log ticket v → v.phase ≡ Idle → (c : Bool) → ltb (length v.seen) (length v.told) ≡ c → Hears log ticket v (if c then v.told else v.seen)
hears log ticket v m idle true e =
    let le : length v.seen ≤ length v.told = grind (arith, nat_tests) in
    let s = split_at v.seen m.rest v.told m.beyond (sym m.begins ∙ m.told) le in
    let asks : v.owner ≡ true → AllClient (s.0 ++ m.beyond) = (λ is. subst AllClient s.2 (m.clients is)) in
    record {
      sits = record { rest = m.beyond; begins = m.told; beyond = log; told = refl; clients = λ is. client_drop s.0 m.beyond (asks is); inside = m.inside; stands = subst (Stands (length log) m.beyond) (sym idle) tt; read = m.read; spent = m.spent };
      seen = (s.0, s.1);
      told = ([], sym (append-nil v.told));
      clients = λ is. (s.0, s.1, client_take s.0 m.beyond (asks is));
    }
hears log ticket v m idle false e =
    let le : length v.told ≤ length v.seen = grind (arith, nat_tests) in
    let s = split_at v.told m.beyond v.seen m.rest (sym m.told ∙ m.begins) le in
    record {
      sits = record { rest = m.rest; begins = m.begins; beyond = log; told = refl; clients = m.clients; inside = m.inside; stands = m.stands; read = m.read; spent = m.spent };
      seen = ([], sym (append-nil v.seen));
      told = (s.0, s.1);
      clients = λ _. ([], sym (append-nil v.seen), tt);
    }

pub learns : (slots id : ℕ) (me : Mine) → me.0.phase ≡ Idle → Allows Kept slots id me 0 (λ n. n) (Learned (step slots 0 0 0 none) me)
learns slots id me idle s k len at small =
    let v = me.0 in
    let m = k.sits id v at in
    let w = learned v in
    let h = hears k.log k.ticket v m idle (ltb (length v.seen) (length v.told)) refl in (
      w,
      keeps,
      tt,
      stays s k id v w at _ (found_stays s k) refl refl refl refl h.sits,
      (
        refl,
        record {
          seen = h.seen;
          told = h.told;
          clients = h.clients;
          legal = legal_take opening w.seen h.sits.rest (subst (IsLegal opening) h.sits.begins k.legal);
          clean = clean_take w.seen h.sits.rest (subst AreClean h.sits.begins k.clean);
          once = λ x. (let a = total_at (turns x) s.views id v at in let o = k.once x in let le = once_le x k.ticket in omega arith);
          share = (let a = total_at (λ z. z.share) s.views id v at in let b = k.shares in omega arith);
          read = (let r = m.read in let t = k.small in omega arith);
        },
      ),
    )

pub begins : (desk : PlainDesk) → plain_state desk ≡ opening → Kept (table_opening (0 ∷ 0 ∷ []) (desk ∷ []) newcomer)
begins desk new = record {
  log = [];
  ticket = 0;
  home = some desk;
  owner = 0;
  words = refl;
  homes = refl;
  order = omega arith;
  small = omega arith;
  legal = tt;
  clean = tt;
  at_home = λ y e. ap plain_state (sym (some-injective desk y e)) ∙ new;
  away = λ e. absurd (some-ne-none desk e);
  out = λ j t u e is. absurd (idle_holds (ap (λ (z : View). z.phase) (one j u e).1 ∙ is));
  once = λ x. grind (arith, nat_tests);
  owned = λ j u e is. (one j u e).0;
  shares = omega arith;
  sits = λ j u e. subst (Sits [] 0) (one j u e).1 (record { rest = []; begins = refl; beyond = []; told = refl; clients = λ _. tt; inside = tt; stands = tt; read = omega arith; spent = λ z. absurd (omega arith) });
}
  where
    one : (j : ℕ) (u : View) → get_elem? (newcomer ∷ []) j ≡ some u → (j ≡ 0) × (newcomer ≡ u)
    one zero u e = (refl, some-injective newcomer u e)
    one (suc j) u e = absurd (some-ne-none u (sym e))

pub longest : (a b : List Item) → length (longer a b) ≡ max (length a) (length b)
longest a b = go (ltb (length a) (length b)) refl
  where
    go : (c : Bool) → ltb (length a) (length b) ≡ c → length (if c then b else a) ≡ max (length a) (length b)
    go true e = let le : length a < length b = grind (arith, nat_tests) in omega arith
    go false e = let le : length b ≤ length a = grind (arith, nat_tests) in omega arith

-- what is true of a seat that took another in
pub takes_in : (v w u : View) → u ≡ learned (joined v w) → Heard (joined v w) → AllBelow (length v.seen) v.made → AllBelow (length w.seen) w.made
    → Begins v.seen u.seen × Begins w.seen u.seen × (v.owner ≡ true → AddsClients v.seen u.seen) × IsSoundView u
takes_in v w u is h a b = subst (λ (x : View). Begins v.seen x.seen × Begins w.seen x.seen × (v.owner ≡ true → AddsClients v.seen x.seen) × IsSoundView x) (sym is) (h.seen, h.told, h.clients, sound)
  where
    most : length (longer v.seen w.seen) ≡ max (length v.seen) (length w.seen)
    most = longest v.seen w.seen

    sound : IsSoundView (learned (joined v w))
    sound = record {
      legal = h.legal;
      clean = h.clean;
      inside = let n = length (longer v.seen w.seen) in let e = most in below_append n v.made w.made (below_mono (length v.seen) n v.made (omega arith) a) (below_mono (length w.seen) n w.made (omega arith) b);
      once = h.once;
      share = h.share;
      read = h.read;
    }

-- of two seats one is spent where the larger of the turns that they read is the last one
pub joined_spent : (a b : ℕ) → max a b < 2 ^ 64 → (a == 2 ^ 64 - 1) || (b == 2 ^ 64 - 1) ≡ (max a b == 2 ^ 64 - 1)
joined_spent a b less = go (a == 2 ^ 64 - 1) refl (b == 2 ^ 64 - 1) refl
  where
    go : (p : Bool) → (a == 2 ^ 64 - 1) ≡ p → (q : Bool) → (b == 2 ^ 64 - 1) ≡ q → p || q ≡ (max a b == 2 ^ 64 - 1)
    go true e q f = let is : a ≡ 2 ^ 64 - 1 = grind (arith, nat_tests) in let both : max a b ≡ 2 ^ 64 - 1 = omega arith in sym (ap (λ (n : ℕ). n == 2 ^ 64 - 1) both)
    go false e true f = let is : b ≡ 2 ^ 64 - 1 = grind (arith, nat_tests) in let both : max a b ≡ 2 ^ 64 - 1 = omega arith in sym (ap (λ (n : ℕ). n == 2 ^ 64 - 1) both)
    go false e false f = grind (arith, nat_tests)
