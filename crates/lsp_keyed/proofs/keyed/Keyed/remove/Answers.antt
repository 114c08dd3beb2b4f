-- The entry is out, and its key is found without its number.
use Rattle.std.proofs.Common.{◌≡◌, ◌==◌, ◌<◌, ℕ, true, false, [], ◌∷◌, List, length, cond, refl, ap, sym, ◌∙◌, rules, arith}
use Rattle.std.specs.Prelude.{option_map, Option, None, Some, IsSome}
use Rattle.std.specs.HashMap.{get}
use Rattle.std.specs.Option.{option_copied_mut}
use Rattle.std.specs.List.{find}
use Rattle.lsp_keyed.specs.declared.keyed.Numbers.{Numbers}
use Rattle.lsp_keyed.specs.Items.{has_number, without}
use Rattle.lsp_keyed.specs.Index.{listed, without_number}
use Rattle.lsp_keyed.proofs.IndexLemmas.{lookup_number, removed_number, listed_updated, listed_alike, cond_again, indexed_without}
use Rattle.lsp_keyed.proofs.keyed.Keyed.remove.Goals as goal
use Rattle.lsp_keyed.proofs.keyed.Keyed.remove.Goals.{in-Some+then-number-known, in-Some+else-number-known+in-Some-pop_first, in-Some+else-number-known+in_default-pop_first, in_default}

none_popped : (o : Option ℕ) (ks : List ℕ) → o ≡ None → (0 < length ks → IsSome o) → ks ≡ []
none_popped o [] is some = refl
none_popped None (k ∷ ks) is some = let h = some (omega arith) in absurd (cc)
none_popped (Some n) (k ∷ ks) is some = absurd (cc)

pub returns-in_err-entry-clause-entry : goal.returns-in_err-entry-clause-entry
returns-in_err-entry-clause-entry g c =
    let none : c.from_residual.result ≡ None = search rules in
    none ∙ sym c.in_err-entry.was ∙ c.remove.ensures.value ∙ lookup_number c.args.number c.self.inside.entries.entries
    ∙ ap (λ l. option_map (λ e. e.1) (find (has_number c.args.number) l)) c.self.view_is

pub returns-in_err-entry-clause-rest : goal.returns-in_err-entry-clause-rest
returns-in_err-entry-clause-rest g c =
    c.remove.ensures.entries ∙ removed_number c.args.number c.self.inside.entries.entries ∙ ap (without c.args.number) c.self.view_is

pub invariant_of-self-then-number-known : goal.invariant_of-self-then-number-known
invariant_of-self-then-number-known g c =
    let eq = g.K.PartialEq.eq in
    let es = c.self.inside.entries.entries in
    let m = c.self.inside.numbers in
    let n = c.args.number in
    let x = c.in_ok-entry.entry in
    let known = c.in-Some.known.now in
    let at : get eq m x.0 ≡ Some known = sym c.get_mut.ensures.value ∙ ap option_copied_mut c.in-Some.is in
    let w : Numbers = record { oldest = known.oldest; later = c.remove_number.new.numbers } in
    let apart : (n == known.oldest) ≡ false = search rules in
    let fewer : listed (Some w) ≡ without_number n (listed (get eq m x.0))
    = ap (λ ks. known.oldest ∷ ks) c.remove_number.ensures
    ∙ sym (ap (λ b. cond b known.later.keys (known.oldest ∷ without_number n known.later.keys)) apart)
    ∙ ap (λ o. without_number n (listed o)) (sym at) in
    indexed_without g.met.K.Eq.laws es c.remove.new.self.entries m (c.get_mut.follows.lender w) n x c.self.invariant
    (sym (lookup_number n es) ∙ sym c.remove.ensures.value ∙ c.in_ok-entry.was) (c.remove.ensures.entries ∙ removed_number n es)
    (listed_updated eq m (c.get_mut.follows.lender w) x.0 (Some w) (without_number n (listed (get eq m x.0))) ((c.get_mut.follows.holds w).3 (search rules)).0 fewer)

pub invariant_of-self-in-Some-pop_first : goal.invariant_of-self-in-Some-pop_first
invariant_of-self-in-Some-pop_first g c =
    let eq = g.K.PartialEq.eq in
    let es = c.self.inside.entries.entries in
    let m = c.self.inside.numbers in
    let n = c.args.number in
    let x = c.in_ok-entry.entry in
    let known = c.in-Some.known.now in
    let at : get eq m x.0 ≡ Some known = sym c.get_mut.ensures.value ∙ ap option_copied_mut c.in-Some.is in
    let w : Numbers = record { oldest = c.in-Some-pop_first.next; later = c.pop_first.new.self } in
    let same : (n == known.oldest) ≡ true = search rules in
    let left : known.later.keys ≡ c.in-Some-pop_first.next ∷ c.pop_first.new.self.keys = c.in-Some-pop_first.ensures.removal in
    let fewer : listed (Some w) ≡ without_number n (listed (get eq m x.0))
    = sym left ∙ sym (ap (λ b. cond b known.later.keys (known.oldest ∷ without_number n known.later.keys)) same)
    ∙ ap (λ o. without_number n (listed o)) (sym at) in
    indexed_without g.met.K.Eq.laws es c.remove.new.self.entries m (c.get_mut.follows.lender w) n x c.self.invariant
    (sym (lookup_number n es) ∙ sym c.remove.ensures.value ∙ c.in_ok-entry.was) (c.remove.ensures.entries ∙ removed_number n es)
    (listed_updated eq m (c.get_mut.follows.lender w) x.0 (Some w) (without_number n (listed (get eq m x.0))) ((c.get_mut.follows.holds w).3 (search rules)).0 fewer)

pub invariant_of-self-in_default-pop_first : goal.invariant_of-self-in_default-pop_first
invariant_of-self-in_default-pop_first g c =
    let eq = g.K.PartialEq.eq in
    let es = c.self.inside.entries.entries in
    let m = c.self.inside.numbers in
    let n = c.args.number in
    let x = c.in_ok-entry.entry in
    let known = c.in-Some.known.now in
    let new = c.remove-in_default-pop_first.new.self in
    let at : get eq m x.0 ≡ Some known = sym c.get_mut.ensures.value ∙ ap option_copied_mut c.in-Some.is in
    let w : Numbers = record { oldest = known.oldest; later = c.pop_first.new.self } in
    let same : (n == known.oldest) ≡ true = search rules in
    let none_left : known.later.keys ≡ [] = none_popped c.pop_first.result known.later.keys (search rules) c.pop_first.ensures.variant.1 in
    let fewer : listed None ≡ without_number n (listed (get eq m x.0))
    = sym none_left ∙ sym (ap (λ b. cond b known.later.keys (known.oldest ∷ without_number n known.later.keys)) same)
    ∙ ap (λ o. without_number n (listed o)) (sym at) in
    let between = ((c.get_mut.follows.holds w).3 (search rules)).0 in
    let updates = λ (q : g.row.K.Denot). c.remove-in_default-pop_first.ensures.updates.0 q ∙ ap (λ o. cond (eq x.0 q) None o) (between q) ∙ cond_again (eq x.0 q) None (Some w) (get eq m q) in
    indexed_without g.met.K.Eq.laws es c.remove.new.self.entries m new n x c.self.invariant
    (sym (lookup_number n es) ∙ sym c.remove.ensures.value ∙ c.in_ok-entry.was) (c.remove.ensures.entries ∙ removed_number n es)
    (listed_updated eq m new x.0 None (without_number n (listed (get eq m x.0))) updates fewer)

pub invariant_of-self-in_default : goal.invariant_of-self-in_default
invariant_of-self-in_default g c =
    let eq = g.K.PartialEq.eq in
    let es = c.self.inside.entries.entries in
    let m = c.self.inside.numbers in
    let n = c.args.number in
    let x = c.in_ok-entry.entry in
    let at : get eq m x.0 ≡ None = search rules in
    let fewer : listed (get eq m x.0) ≡ without_number n (listed (get eq m x.0)) = rw at refl in
    let listed_before = λ (q : g.row.K.Denot). listed_alike g.met.K.Eq.laws es m x.0 c.self.invariant q ∙ ap (λ ns. cond (eq x.0 q) ns (listed (get eq m q))) fewer in
    indexed_without g.met.K.Eq.laws es c.remove.new.self.entries m c.get_mut.follows.lender-at-none n x c.self.invariant
    (sym (lookup_number n es) ∙ sym c.remove.ensures.value ∙ c.in_ok-entry.was) (c.remove.ensures.entries ∙ removed_number n es)
    (λ q. ap (λ o. listed (get eq o q)) c.get_mut.follows.holds-at-none ∙ listed_before q)

pub returns-clause-entry : goal.returns-clause-entry
returns-clause-entry g c =
    sym c.in_ok-entry.was ∙ c.remove.ensures.value ∙ lookup_number c.args.number c.self.inside.entries.entries
    ∙ ap (λ l. option_map (λ e. e.1) (find (has_number c.args.number) l)) c.self.view_is

pub returns-clause-rest : goal.returns-clause-rest
returns-clause-rest g c =
    let left : c.match-get_mut.self ≡ c.remove.new.self.entries
    = elim c.match-get_mut.branch [
      | in-Some+then-number-known w ↦ w.self-is
      | in-Some+else-number-known+in-Some-pop_first w ↦ w.self-is
      | in-Some+else-number-known+in_default-pop_first w ↦ w.self-is
      | in_default w ↦ w.self-is
    ] in
    left ∙ c.remove.ensures.entries ∙ removed_number c.args.number c.self.inside.entries.entries ∙ ap (without c.args.number) c.self.view_is
