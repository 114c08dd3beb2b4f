-- How decoding goes on.
use Rattle.std.proofs.Common.{◌≡◌, ℕ, List, [], ◌∷◌, ◌++◌, refl, sym, ◌∙◌, ap, append_assoc}
use Rattle.std.specs.Prelude.{Option, Some, None, option_map}
use Rattle.std.proofs.lemmas.List.{append-nil}
use Rattle.lsp_frame.specs.Codec.{Item, At, more, with_item, items_at, told_at}
use Rattle.lsp_session.specs.Item.{ItemData}
use Rattle.lsp_server.specs.Items.{admitted, Decodes, GivesNext}

pub more_nothing : (a : At) → more a [] ≡ a
more_nothing a = ap (λ (l : List ℕ). record { settings = a.settings; state = a.state; held = l }) (append-nil a.held)

pub more_more : (a : At) (p c : List ℕ) → more (more a p) c ≡ more a (p ++ c)
more_more a p c = ap (λ (l : List ℕ). record { settings = a.settings; state = a.state; held = l }) (append_assoc a.held p c)

pub decodes_nothing : (a : At) → Decodes a [] a
decodes_nothing a = record { items = λ c. refl; told = λ c. refl }

pub decodes_more : (a b c : At) (xs ys : List Item) → Decodes a xs b → Decodes b ys c → Decodes a (xs ++ ys) c
decodes_more a b c xs ys p q = record {
  items = λ k. p.items k ∙ ap (λ l. xs ++ l) (q.items k) ∙ sym (append_assoc xs ys (items_at (more c k)));
  told = λ k. p.told k ∙ ap (λ l. xs ++ l) (q.told k) ∙ sym (append_assoc xs ys (told_at (more c k)));
}

-- the same where a piece was fed
pub decodes_fed : (a b : At) (xs : List Item) (p : List ℕ) → Decodes a xs b → Decodes (more a p) xs (more b p)
decodes_fed a b xs p d = record {
  items = λ k. ap items_at (more_more a p k) ∙ d.items (p ++ k) ∙ ap (λ x. xs ++ items_at x) (sym (more_more b p k));
  told = λ k. ap told_at (more_more a p k) ∙ d.told (p ++ k) ∙ ap (λ x. xs ++ told_at x) (sym (more_more b p k));
}

pub told_now : (a b : At) (xs : List Item) → Decodes a xs b → told_at a ≡ xs ++ told_at b
told_now a b xs d = ap told_at (sym (more_nothing a)) ∙ d.told [] ∙ ap (λ x. xs ++ told_at x) (more_nothing b)

pub items_now : (a b : At) (xs : List Item) → Decodes a xs b → items_at a ≡ xs ++ items_at b
items_now a b xs d = ap items_at (sym (more_nothing a)) ∙ d.items [] ∙ ap (λ x. xs ++ items_at x) (more_nothing b)

-- the item that came next
pub next_found : (a b : At) (item : ItemData) → GivesNext a (Some item) b → (x : Item) × (item ≡ admitted x) × Decodes a (x ∷ []) b
next_found a b item next = at next.found next.shows next.items next.told
  where
    at : (found : Option Item) → Some item ≡ option_map admitted found → ((c : List ℕ) → items_at (more a c) ≡ with_item found (items_at (more b c)))
        → ((c : List ℕ) → told_at (more a c) ≡ with_item found (told_at (more b c))) → (x : Item) × (item ≡ admitted x) × Decodes a (x ∷ []) b
    at None shows items told = absurd (cc)
    at (Some x) shows items told = (x, cc, record { items = items; told = told })

pub next_none : (a b : At) → GivesNext a None b → Decodes a [] b
next_none a b next = at next.found next.shows next.items next.told
  where
    at : (found : Option Item) → None ≡ option_map admitted found → ((c : List ℕ) → items_at (more a c) ≡ with_item found (items_at (more b c)))
        → ((c : List ℕ) → told_at (more a c) ≡ with_item found (told_at (more b c))) → Decodes a [] b
    at None shows items told = record { items = items; told = told }
    at (Some x) shows items told = absurd (cc)
