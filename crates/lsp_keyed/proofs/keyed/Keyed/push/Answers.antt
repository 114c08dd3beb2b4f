-- Where the number can't be listed, the entry is taken out again.
use Rattle.std.proofs.Common.{◌≡◌, ◌++◌, [], ◌∷◌, true, false, cond, refl, ap, sym, ◌∙◌, subst, rules}
use Rattle.std.specs.Prelude.{None, Some, Result, Ok, Err, OnOk, OnErr}
use Rattle.std.specs.Result.{is_ok}
use Rattle.std.specs.HashMap.{get, Updates}
use Rattle.std.specs.Map.{lookup}
use Rattle.std.specs.Option.{option_copied_mut}
use Rattle.lsp_keyed.specs.declared.keyed.Numbers.{Numbers}
use Rattle.lsp_keyed.specs.Items.{without, IsAbove}
use Rattle.lsp_keyed.specs.Index.{listed, AreLess}
use Rattle.lsp_keyed.proofs.IndexLemmas.{inserted_last, removed_number, removed_last, numbers_less, listed_updated, listed_alike, indexed_pushed, indexed_same}
use Rattle.lsp_keyed.proofs.keyed.Keyed.push.Goals as goal
use Rattle.lsp_keyed.proofs.keyed.Keyed.push.Goals.{in-Some+else-is_ok, in-None+else-is_ok-2}

at_ok : {T E : Type 0} (P : Type 0) (r : Result T E) → is_ok r ≡ true → OnOk r P → P
at_ok P (Ok x) is p = p
at_ok P (Err e) is p = absurd (cc)

at_err : {T E : Type 0} (P : Type 0) (r : Result T E) → is_ok r ≡ false → OnErr r P → P
at_err P (Ok x) is p = absurd (cc)
at_err P (Err e) is p = p

pub push_number-requires : goal.push_number-requires
push_number-requires g c =
    let es = c.self.inside.entries.entries in
    let above : IsAbove c.args.number es = subst (IsAbove c.args.number) (sym c.self.view_is) c.requires.above in
    let at : get g.K.PartialEq.eq c.self.inside.numbers c.args.same ≡ Some c.in-Some.known.now = sym c.get_mut.ensures.value ∙ ap option_copied_mut c.in-Some.is in
    let less : AreLess c.args.number (listed (get g.K.PartialEq.eq c.self.inside.numbers c.args.same))
    = subst (AreLess c.args.number) (sym (c.self.invariant.found c.args.same)) (numbers_less (g.K.PartialEq.eq c.args.same) c.args.number es above) in
    (subst (λ o. AreLess c.args.number (listed o)) at less).1

pub returns-then-is_ok-clause-ok : goal.returns-then-is_ok-clause-ok
returns-then-is_ok-clause-ok g c =
    let above : IsAbove c.args.number c.self.inside.entries.entries = subst (IsAbove c.args.number) (sym c.self.view_is) c.requires.above in
    c.in_ok-insert.ensures.entries ∙ inserted_last c.args.number (c.args.key, c.args.value) c.self.inside.entries.entries above
    ∙ ap (λ l. l ++ (c.args.number, (c.args.key, c.args.value)) ∷ []) c.self.view_is

pub invariant_of-self-then-is_ok : goal.invariant_of-self-then-is_ok
invariant_of-self-then-is_ok g c =
    let eq = g.K.PartialEq.eq in
    let es = c.self.inside.entries.entries in
    let m = c.self.inside.numbers in
    let n = c.args.number in
    let above : IsAbove n es = subst (IsAbove n) (sym c.self.view_is) c.requires.above in
    let known = c.in-Some.known.now in
    let at : get eq m c.args.same ≡ Some known = sym c.get_mut.ensures.value ∙ ap option_copied_mut c.in-Some.is in
    let later : c.push_number.new.numbers.keys ≡ known.later.keys ++ n ∷ [] = search rules in
    let w : Numbers = record { oldest = known.oldest; later = c.push_number.new.numbers } in
    let more : listed (Some w) ≡ listed (get eq m c.args.same) ++ n ∷ [] = ap (λ ks. known.oldest ∷ ks) later ∙ ap (λ o. listed o ++ n ∷ []) (sym at) in
    indexed_pushed g.met.K.Eq.laws es c.insert.new.self.entries m (c.get_mut.follows.lender w) n c.args.key c.args.same c.args.value
    c.self.invariant above c.requires.same (c.in_ok-insert.ensures.entries ∙ inserted_last n (c.args.key, c.args.value) es above)
    (listed_updated eq m (c.get_mut.follows.lender w) c.args.same (Some w) (listed (get eq m c.args.same) ++ n ∷ []) ((c.get_mut.follows.holds w).3 (search rules)).0 more)

pub returns-then-is_ok-2-clause-ok : goal.returns-then-is_ok-2-clause-ok
returns-then-is_ok-2-clause-ok g c =
    let above : IsAbove c.args.number c.self.inside.entries.entries = subst (IsAbove c.args.number) (sym c.self.view_is) c.requires.above in
    c.in_ok-insert.ensures.entries ∙ inserted_last c.args.number (c.args.key, c.args.value) c.self.inside.entries.entries above
    ∙ ap (λ l. l ++ (c.args.number, (c.args.key, c.args.value)) ∷ []) c.self.view_is

pub invariant_of-self-then-is_ok-2 : goal.invariant_of-self-then-is_ok-2
invariant_of-self-then-is_ok-2 g c =
    let eq = g.K.PartialEq.eq in
    let es = c.self.inside.entries.entries in
    let m = c.self.inside.numbers in
    let n = c.args.number in
    let new = c.insert-in-None.new.self in
    let above : IsAbove n es = subst (IsAbove n) (sym c.self.view_is) c.requires.above in
    let at : get eq m c.args.same ≡ None = sym c.get_mut.ensures.value ∙ ap option_copied_mut c.in-None.is in
    let alone : Numbers = record { oldest = n; later = c.new.result } in
    let updates : Updates eq c.get_mut.follows.lender-at-none new c.args.same (Some alone)
    = at_ok (Updates eq c.get_mut.follows.lender-at-none new c.args.same (Some alone)) c.insert-in-None.result (sym c.is_ok-in-None.ensures.value ∙ c.if-is_ok-2.true) c.insert-in-None.ensures.updates in
    let more : listed (Some alone) ≡ listed (get eq m c.args.same) ++ n ∷ [] = ap (λ ks. n ∷ ks) c.new.ensures.empty ∙ ap (λ o. listed o ++ n ∷ []) (sym at) in
    indexed_pushed g.met.K.Eq.laws es c.insert.new.self.entries m new n c.args.key c.args.same c.args.value
    c.self.invariant above c.requires.same (c.in_ok-insert.ensures.entries ∙ inserted_last n (c.args.key, c.args.value) es above)
    (listed_updated eq m new c.args.same (Some alone) (listed (get eq m c.args.same) ++ n ∷ [])
    (λ q. updates.0 q ∙ ap (λ o. cond (eq c.args.same q) (Some alone) (get eq o q)) c.get_mut.follows.holds-at-none) more)

pub returns-clause-err : goal.returns-clause-err
returns-clause-err g c =
    let es = c.self.inside.entries.entries in
    let n = c.args.number in
    let above : IsAbove n es = subst (IsAbove n) (sym c.self.view_is) c.requires.above in
    let is : c.match-get_mut.self-inside.entries.entries ≡ c.insert.new.self.entries
    = elim c.match-get_mut.branch [ in-Some+else-is_ok w ↦ ap (λ i. i.entries.entries) w.self-inside-is | in-None+else-is_ok-2 w ↦ ap (λ i. i.entries.entries) w.self-inside-is ] in
    c.remove.ensures.entries ∙ removed_number n c.match-get_mut.self-inside.entries.entries
    ∙ ap (without n) (is ∙ c.in_ok-insert.ensures.entries ∙ inserted_last n (c.args.key, c.args.value) es above)
    ∙ removed_last n (c.args.key, c.args.value) es above ∙ c.self.view_is

pub invariant_of-self-2 : goal.invariant_of-self-2
invariant_of-self-2 g c =
    let eq = g.K.PartialEq.eq in
    let es = c.self.inside.entries.entries in
    let m = c.self.inside.numbers in
    let same = c.args.same in
    let listed_before : (q : g.row.K.Denot) → listed (get eq c.match-get_mut.self-inside.numbers q) ≡ listed (get eq m q)
    = elim c.match-get_mut.branch [
      | in-Some+else-is_ok w ↦ (
          let known = w.in-Some.known.now in
          let at : get eq m same ≡ Some known = sym c.get_mut.ensures.value ∙ ap option_copied_mut w.in-Some.is in
          let later : w.push_number.new.numbers.keys ≡ known.later.keys = at_err (w.push_number.new.numbers.keys ≡ known.later.keys) w.push_number.result (sym w.is_ok.ensures.value ∙ w.if-is_ok.false) w.push_number.ensures.err in
          let left : Numbers = record { oldest = known.oldest; later = w.push_number.new.numbers } in
          let before : listed (Some left) ≡ listed (get eq m same) = ap (λ ks. known.oldest ∷ ks) later ∙ ap listed (sym at) in
          λ q. ap (λ i. listed (get eq i.numbers q)) w.self-inside-is
          ∙ listed_updated eq m (c.get_mut.follows.lender left) same (Some left) (listed (get eq m same)) ((c.get_mut.follows.holds left).3 (rw at refl)).0 before q
          ∙ sym (listed_alike g.met.K.Eq.laws es m same c.self.invariant q))
      | in-None+else-is_ok-2 w ↦ (
          let left : w.insert-in-None.new.self.entries ≡ c.get_mut.follows.lender-at-none.entries
          = at_err (w.insert-in-None.new.self.entries ≡ c.get_mut.follows.lender-at-none.entries) w.insert-in-None.result (sym w.is_ok-in-None.ensures.value ∙ w.if-is_ok-2.false) w.insert-in-None.ensures.err in
          λ q. ap (λ i. listed (get eq i.numbers q)) w.self-inside-is
          ∙ ap (λ es. listed (lookup (eq q) es)) left ∙ ap (λ o. listed (get eq o q)) c.get_mut.follows.holds-at-none)
    ] in
    indexed_same g.met.K.Eq.laws es c.remove.new.self.entries m c.match-get_mut.self-inside.numbers
    c.self.invariant (returns-clause-err g c ∙ sym c.self.view_is) listed_before
