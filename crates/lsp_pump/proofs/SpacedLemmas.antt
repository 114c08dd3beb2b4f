-- Lists with ticks between their items, and first exits.
use Rattle.std.proofs.Common.{◌≡◌, ℕ, List, [], ◌∷◌, ◌++◌, refl, ◌∙◌, ap, Bool, true, false}
use Rattle.std.specs.Prelude.{◌||◌, if◌then◌else◌, Option}
use Rattle.lsp_frame.specs.Codec.{Item as CodecItem, message as whole, fault as broken, code_of_fault}
use Rattle.lsp_session.specs.declared.table.Entry.{Entry}
use Rattle.lsp_session.specs.Item.{ItemData, message, fault, tick}
use Rattle.lsp_session.specs.Run.{is_exit, has_exit, served}
use Rattle.lsp_server.specs.Items.{all_admitted}
use Rattle.lsp_server.proofs.ItemsLemmas.{same_exit}
use Rattle.lsp_pump.specs.Spaced.{unticked, EndsInTick, through_exit}

pub unticked-append : (xs ys : List ItemData) → unticked (xs ++ ys) ≡ unticked xs ++ unticked ys
unticked-append [] ys = refl
unticked-append (message m ∷ xs) ys = ap (λ l. message m ∷ l) (unticked-append xs ys)
unticked-append (fault code ∷ xs) ys = ap (λ l. fault code ∷ l) (unticked-append xs ys)
unticked-append (tick ∷ xs) ys = unticked-append xs ys

unticked_cons : (x : ItemData) (xs ys : List ItemData) → unticked xs ≡ unticked ys → unticked (x ∷ xs) ≡ unticked (x ∷ ys)
unticked_cons (message m) xs ys e = ap (λ l. message m ∷ l) e
unticked_cons (fault code) xs ys e = ap (λ l. fault code ∷ l) e
unticked_cons tick xs ys e = e

-- a codec tells no tick
pub unticked_admitted : (found : List CodecItem) → unticked (all_admitted found) ≡ all_admitted found
unticked_admitted [] = refl
unticked_admitted (whole m ∷ found) = ap (λ l. message m ∷ l) (unticked_admitted found)
unticked_admitted (broken e ∷ found) = ap (λ l. fault (code_of_fault e) ∷ l) (unticked_admitted found)

-- ---- the first exit

module _ (find : List ℕ → Option Entry) where
  pub through-open : (xs ys : List ItemData) → has_exit find xs ≡ false → through_exit find (xs ++ ys) ≡ xs ++ through_exit find ys
  through-open [] ys none = refl
  through-open (x ∷ xs) ys none = at (is_exit find x) none (λ h. through-open xs ys h)
    where
      at : (b : Bool) → (b || has_exit find xs) ≡ false → (has_exit find xs ≡ false → through_exit find (xs ++ ys) ≡ xs ++ through_exit find ys)
          → (if b then x ∷ [] else x ∷ through_exit find (xs ++ ys)) ≡ x ∷ (xs ++ through_exit find ys)
      at true h more = cc
      at false h more = ap (λ l. x ∷ l) (more h)

  pub through-none : (xs : List ItemData) → has_exit find xs ≡ false → through_exit find xs ≡ xs
  through-none [] none = refl
  through-none (x ∷ xs) none = at (is_exit find x) none (λ h. through-none xs h)
    where
      at : (b : Bool) → (b || has_exit find xs) ≡ false → (has_exit find xs ≡ false → through_exit find xs ≡ xs) → (if b then x ∷ [] else x ∷ through_exit find xs) ≡ x ∷ xs
      at true h more = cc
      at false h more = ap (λ l. x ∷ l) (more h)

  pub through-more : (xs ys : List ItemData) → has_exit find xs ≡ true → through_exit find (xs ++ ys) ≡ through_exit find xs
  through-more [] ys some = cc
  through-more (x ∷ xs) ys some = at (is_exit find x) some (λ h. through-more xs ys h)
    where
      at : (b : Bool) → (b || has_exit find xs) ≡ true → (has_exit find xs ≡ true → through_exit find (xs ++ ys) ≡ through_exit find xs)
          → (if b then x ∷ [] else x ∷ through_exit find (xs ++ ys)) ≡ (if b then x ∷ [] else x ∷ through_exit find xs)
      at true h more = refl
      at false h more = ap (λ l. x ∷ l) (more h)

  -- a tick is no exit
  pub through_tick : (xs : List ItemData) → unticked (through_exit find (xs ++ tick ∷ [])) ≡ unticked (through_exit find xs)
  through_tick [] = refl
  through_tick (x ∷ xs) = at (is_exit find x) (through_tick xs)
    where
      at : (b : Bool) → unticked (through_exit find (xs ++ tick ∷ [])) ≡ unticked (through_exit find xs) → unticked (if b then x ∷ [] else x ∷ through_exit find (xs ++ tick ∷ [])) ≡ unticked (if b then x ∷ [] else x ∷ through_exit find xs)
      at true more = refl
      at false more = unticked_cons x (through_exit find (xs ++ tick ∷ [])) (through_exit find xs) more

  pub through_one : (x : ItemData) → through_exit find (x ∷ []) ≡ x ∷ []
  through_one x = at (is_exit find x)
    where
      at : (b : Bool) → (if b then x ∷ [] else x ∷ []) ≡ x ∷ []
      at true = refl
      at false = refl

  pub through_admitted : (found : List CodecItem) → unticked (through_exit find (all_admitted found)) ≡ through_exit find (all_admitted found)
  through_admitted [] = refl
  through_admitted (whole m ∷ found) = at (is_exit find (message m)) (through_admitted found)
    where
      at : (b : Bool) → unticked (through_exit find (all_admitted found)) ≡ through_exit find (all_admitted found)
          → unticked (if b then message m ∷ [] else message m ∷ through_exit find (all_admitted found)) ≡ (if b then message m ∷ [] else message m ∷ through_exit find (all_admitted found))
      at true more = refl
      at false more = ap (λ l. message m ∷ l) more
  through_admitted (broken e ∷ found) = ap (λ l. fault (code_of_fault e) ∷ l) (through_admitted found)

  -- ---- what is served

  pub served_through : (items : List ItemData) → unticked (served find items) ≡ unticked (through_exit find items)
  served_through [] = refl
  served_through (x ∷ items) = at (is_exit find x) (served_through items)
    where
      at : (b : Bool) → unticked (served find items) ≡ unticked (through_exit find items) → unticked (if b then x ∷ [] else x ∷ served find items) ≡ unticked (if b then x ∷ [] else x ∷ through_exit find items)
      at true more = refl
      at false more = unticked_cons x (served find items) (through_exit find items) more

  pub served_ends : (items : List ItemData) → has_exit find items ≡ false → EndsInTick (served find items)
  served_ends [] none = ([], refl)
  served_ends (x ∷ items) none = at (is_exit find x) none (λ h. served_ends items h)
    where
      at : (b : Bool) → (b || has_exit find items) ≡ false → (has_exit find items ≡ false → EndsInTick (served find items)) → EndsInTick (if b then x ∷ [] else x ∷ served find items)
      at true h more = cc
      at false h more = let end = more h in (x ∷ end.0, ap (λ l. x ∷ l) end.1)

pub through_same : (f g : List ℕ → Option Entry) (items : List ItemData) → ((name : List ℕ) → f name ≡ g name) → through_exit f items ≡ through_exit g items
through_same f g [] same = refl
through_same f g (item ∷ items) same =
    ap (λ b. if b then item ∷ [] else item ∷ through_exit f items) (same_exit f g item same)
    ∙ ap (λ l. if is_exit g item then item ∷ [] else item ∷ l) (through_same f g items same)
