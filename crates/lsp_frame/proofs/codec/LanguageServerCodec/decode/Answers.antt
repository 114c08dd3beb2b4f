use Rattle.std.specs.Prelude.{◌↔◌}
use Rattle.std.proofs.Common.{◌≡◌, ◌≤◌, length, drop, Option, None, option_map, subst, sym, ap, ◌∙◌, rules}
use Rattle.lsp_frame.specs.Transitions.{Item}
use Rattle.lsp_frame.specs.Items.{At, most_held}
use Rattle.lsp_frame.specs.Places.{codec_at, ComesTo}
use Rattle.lsp_frame.specs.Shown.{shown, show_found}
use Rattle.lsp_frame.proofs.PlacesCome.{comes_to_end, comes_to_state_after}
use Rattle.lsp_frame.proofs.ItemsLeft.{none_told, none_found}
use Rattle.lsp_frame.proofs.HeldBytes.{held_at_most}
use Rattle.lsp_frame.proofs.codec.LanguageServerCodec.decode.Goals as goal

-- what is answered is the item that was found
answered : (c : goal.Joined-next) → shown c.match-next.decoded ≡ option_map show_found c.in_ok-next.next.item
answered c = search rules

alike : (P : Type 0) (x y : Option Item) → x ≡ y → (y ≡ None) ↔ P → (x ≡ None) ↔ P
alike P x y same exact = subst (λ (z : Option Item). (z ≡ None) ↔ P) (sym same) exact

pub returns-clause-more : goal.returns-clause-more
returns-clause-more c =
    let e = c.in_ok-next.ensures in
    let next = c.in_ok-next.next in
    let settings = c.self.inside.settings in
    alike _ _ _ (answered c)
    (none_told settings c.args.self.now c.self.inside.state next.state c.as_slice.result.now _ next.item next.unfinished
    (ap (codec_at settings c.self.inside.state) c.as_slice.ensures ∙ c.self.view_is) e.goes e.ends)

pub returns-clause-held : goal.returns-clause-held
returns-clause-held c = λ none.
    let e = c.in_ok-next.ensures in
    let next = c.in_ok-next.next in
    let settings = c.self.inside.settings in
    let waits = e.waits (none_found next.item (sym (answered c) ∙ none)) in
    subst (λ t. length t ≤ most_held settings.limits) (sym (c.advance.ensures.items ∙ ap (drop next.consumed) (sym c.as_slice.ensures)))
    (held_at_most settings next.state (drop next.consumed c.as_slice.result.now) waits e.allowed)

alike_places : (a b c d : At) (x y : Option Item) → a ≡ c → x ≡ y → b ≡ d → ComesTo a x b → ComesTo c y d
alike_places a b c d x y from item to comes =
    subst (ComesTo c y) to (subst (λ z. ComesTo c z b) item (subst (λ t. ComesTo t x b) from comes))

pub returns-clause-place : goal.returns-clause-place
returns-clause-place c =
    let next = c.in_ok-next.next in
    let settings = c.self.inside.settings in
    alike_places _ _ _ _ _ _ (ap (codec_at settings c.self.inside.state) c.as_slice.ensures ∙ c.self.view_is) (sym (answered c))
    (ap (codec_at settings next.state) (sym (c.advance.ensures.items ∙ ap (drop next.consumed) (sym c.as_slice.ensures))))
    c.in_ok-next.ensures.place

pub returns-clause-rest : goal.returns-clause-rest
returns-clause-rest c = comes_to_end _ _ _ (returns-clause-place c)

pub returns-clause-after : goal.returns-clause-after
returns-clause-after c = comes_to_state_after _ _ _ (returns-clause-place c)
