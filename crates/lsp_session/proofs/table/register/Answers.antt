-- The name was found already, or is found now.
use Rattle.std.proofs.Common.{◌≡◌, List, ℕ, sym, ap, ◌∙◌, subst, rules, true, false, cond}
use Rattle.std.specs.Prelude.{bytes_eq, is_some, string_bytes, Some}
use Rattle.std.specs.HashMap.{get_by_text}
use Rattle.std.proofs.lemmas.Map.Text.{hash_map_updates_text}
use Rattle.lsp_session.specs.declared.table.Registration.{Registration}
use Rattle.lsp_session.specs.Found.{AreFound}
use Rattle.lsp_session.proofs.TableLemmas.{found_again, found_new}
use Rattle.lsp_session.proofs.table.register.Goals as goal

pub returns-then-contains_key-clause-found : goal.returns-then-contains_key-clause-found
returns-then-contains_key-clause-found c =
    let some : is_some (get_by_text c.args.places.now (string_bytes c.args.registration.name)) ≡ true = search rules in
    subst (λ (ms : List Registration). AreFound ms c.args.places.now) (sym c.in_ok-push.ensures.items) (found_again c.args.methods.now.items c.args.places.now c.args.registration c.requires.found some)

pub returns-in-Ok-clause-found : goal.returns-in-Ok-clause-found
returns-in-Ok-clause-found c =
    let none : is_some (get_by_text c.args.places.now (string_bytes c.args.registration.name)) ≡ false = search rules in
    let updates : (q : List ℕ) → get_by_text c.insert.new.self q ≡ cond (bytes_eq (string_bytes c.args.registration.name) q) (Some c.args.entry) (get_by_text c.args.places.now q) =
    λ q. hash_map_updates_text (string_bytes c.args.key) c.args.places.now c.insert.new.self _ c.in-Ok.ensures.updates q
    ∙ ap (λ bs. cond (bytes_eq bs q) (Some c.args.entry) (get_by_text c.args.places.now q)) c.requires.same in
    subst (λ (ms : List Registration). AreFound ms c.insert.new.self) (sym c.in_ok-push.ensures.items)
    (found_new c.args.methods.now.items c.args.places.now c.insert.new.self c.args.registration c.args.entry c.requires.found none c.requires.here updates)
