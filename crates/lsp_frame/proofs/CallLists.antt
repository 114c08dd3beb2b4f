-- Any list of calls gives the items of what was fed.
use Rattle.std.proofs.Common.{◌≡◌, ℕ, List, [], ◌∷◌, ◌++◌, Option, Some, None, refl, sym, ap, ◌∙◌, append_assoc, append-nil}
use Rattle.lsp_frame.specs.Transitions.{Item}
use Rattle.lsp_frame.specs.Items.{At, more, items_at, told_at, with_item, start_by}
use Rattle.lsp_frame.specs.Calls.{CodecCall, fed, gave, finished, encoded, failed, Leads, bytes_fed, items_given}
use Rattle.lsp_frame.specs.Laws.{GivesAll}
use Rattle.lsp_frame.specs.declared.settings.CodecSettings.{CodecSettings}

-- the items by F from a on, with bytes that follow, are those given and then those from b on
abbrev Goes : (At → List Item) → List CodecCall → At → At → Type 0
Goes F calls a b = (c : List ℕ) → F (more a (bytes_fed calls ++ c)) ≡ items_given calls ++ F (more b c)

given_first : (x : Option Item) (xs ys : List Item) → with_item x (xs ++ ys) ≡ with_item x xs ++ ys
given_first None xs ys = refl
given_first (Some x) xs ys = refl

held_is : (a : At) (x y : List ℕ) → x ≡ y → let P : At → At → Type 0 = λ a b. a ≡ b in P (record { settings = a.settings; state = a.state; held = x }) (record { settings = a.settings; state = a.state; held = y })
held_is a x y e = ap (λ t. record { settings = a.settings; state = a.state; held = t }) e

after_fed : (F : At → List Item) (piece : List ℕ) (calls : List CodecCall) (a middle b : At) → middle ≡ more a piece → Goes F calls middle b → Goes F (fed piece ∷ calls) a b
after_fed F piece calls a middle b is goes c =
    let bs = bytes_fed calls in
    ap F (held_is a (a.held ++ ((piece ++ bs) ++ c)) ((a.held ++ piece) ++ (bs ++ c)) (ap (λ t. a.held ++ t) (append_assoc piece bs c) ∙ sym (append_assoc a.held piece (bs ++ c))))
    ∙ ap (λ m. F (more m (bs ++ c))) (sym is)
    ∙ goes c

after_given : (F : At → List Item) (x : Option Item) (calls : List CodecCall) (a middle b : At) → ((c : List ℕ) → F (more a c) ≡ with_item x (F (more middle c))) → Goes F calls middle b → Goes F (gave x ∷ calls) a b
after_given F x calls a middle b gives goes c = gives (bytes_fed calls ++ c) ∙ ap (with_item x) (goes c) ∙ given_first x (items_given calls) (F (more b c))

-- a call after which the codec is as before
after_same : (F : At → List Item) (calls : List CodecCall) (a middle b : At) → middle ≡ a → Goes F calls middle b → Goes F calls a b
after_same F calls a middle b same goes c = ap (λ m. F (more m (bytes_fed calls ++ c))) (sym same) ∙ goes c

items_go : (calls : List CodecCall) (a b : At) → Leads calls a b → Goes items_at calls a b
items_go [] a b e = λ c. ap (λ x. items_at (more x c)) e
items_go (fed piece ∷ calls) a b l = after_fed items_at piece calls a l.0 b l.1 (items_go calls l.0 b l.2)
items_go (gave x ∷ calls) a b l = after_given items_at x calls a l.0 b l.1.0 (items_go calls l.0 b l.2)
items_go (finished r ∷ calls) a b l = after_same items_at calls a l.0 b l.1.0 (items_go calls l.0 b l.2)
items_go (encoded m ∷ calls) a b l = after_same items_at calls a l.0 b l.1.0 (items_go calls l.0 b l.2)
items_go (failed ∷ calls) a b l = after_same items_at calls a l.0 b l.1 (items_go calls l.0 b l.2)

told_go : (calls : List CodecCall) (a b : At) → Leads calls a b → Goes told_at calls a b
told_go [] a b e = λ c. ap (λ x. told_at (more x c)) e
told_go (fed piece ∷ calls) a b l = after_fed told_at piece calls a l.0 b l.1 (told_go calls l.0 b l.2)
told_go (gave x ∷ calls) a b l = after_given told_at x calls a l.0 b l.1.1 (told_go calls l.0 b l.2)
told_go (finished r ∷ calls) a b l = after_same told_at calls a l.0 b l.1.0 (told_go calls l.0 b l.2)
told_go (encoded m ∷ calls) a b l = after_same told_at calls a l.0 b l.1.0 (told_go calls l.0 b l.2)
told_go (failed ∷ calls) a b l = after_same told_at calls a l.0 b l.1 (told_go calls l.0 b l.2)

settings_stay : (calls : List CodecCall) (a b : At) → Leads calls a b → b.settings ≡ a.settings
settings_stay [] a b e = ap (λ x. x.settings) (sym e)
settings_stay (fed piece ∷ calls) a b l = settings_stay calls l.0 b l.2 ∙ ap (λ x. x.settings) l.1
settings_stay (gave x ∷ calls) a b l = settings_stay calls l.0 b l.2 ∙ l.1.2
settings_stay (finished r ∷ calls) a b l = settings_stay calls l.0 b l.2 ∙ ap (λ x. x.settings) l.1.0
settings_stay (encoded m ∷ calls) a b l = settings_stay calls l.0 b l.2 ∙ ap (λ x. x.settings) l.1.0
settings_stay (failed ∷ calls) a b l = settings_stay calls l.0 b l.2 ∙ ap (λ x. x.settings) l.1

at_end : (F : At → List Item) (settings : CodecSettings) (calls : List CodecCall) (a : At) → Goes F calls (start_by settings) a → F (more (start_by settings) (bytes_fed calls)) ≡ items_given calls ++ F a
at_end F settings calls a goes =
    ap (λ t. F (more (start_by settings) t)) (sym (append-nil (bytes_fed calls))) ∙ goes []
    ∙ ap (λ t. items_given calls ++ F t) (held_is a (a.held ++ []) a.held (append-nil a.held))

pub gives_all_lem : GivesAll
gives_all_lem settings calls a l = (
  at_end told_at settings calls a (told_go calls (start_by settings) a l),
  at_end items_at settings calls a (items_go calls (start_by settings) a l),
  settings_stay calls (start_by settings) a l,
)
