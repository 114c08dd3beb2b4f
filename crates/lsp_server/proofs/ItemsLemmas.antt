-- What is served of a list of items, and lives that go on.
use Rattle.std.proofs.Common.{◌≡◌, ℕ, List, [], ◌∷◌, ◌++◌, refl, sym, ◌∙◌, ap, append_assoc, Bool, true, false, true≢false}
use Rattle.std.specs.Prelude.{◌||◌, if◌then◌else◌, Option}
use Rattle.lsp_rpc.specs.Message.{request, response}
use Rattle.lsp_desk.specs.declared.life.Life.{Life}
use Rattle.lsp_desk.specs.declared.life.Life.TheVariants.{Uninitialized, Initializing, Initialized, ShutDown, Exited}
use Rattle.lsp_desk.specs.Lives.{is_exited}
use Rattle.lsp_session.specs.declared.table.Entry.{Entry}
use Rattle.lsp_session.specs.Item.{ItemData, message, fault, tick}
use Rattle.lsp_session.specs.Semantics.{Semantics, IsLawfulHandlers}
use Rattle.lsp_session.specs.State.{State, Effect}
use Rattle.lsp_session.specs.Run.{Order, Picked, Step, Run, is_exit, is_exit_entry, has_exit, served}
use Rattle.lsp_session.proofs.CountLemmas.{step_table}

-- ---- tables that answer alike

pub same_exit : (f g : List ℕ → Option Entry) (item : ItemData) → ((name : List ℕ) → f name ≡ g name) → is_exit f item ≡ is_exit g item
same_exit f g (message (request r)) same = ap is_exit_entry (same r.method)
same_exit f g (message (response r)) same = refl
same_exit f g (fault code) same = refl
same_exit f g tick same = refl

pub served_same : (f g : List ℕ → Option Entry) (items : List ItemData) → ((name : List ℕ) → f name ≡ g name) → served f items ≡ served g items
served_same f g [] same = refl
served_same f g (item ∷ items) same =
    ap (λ b. if b then item ∷ [] else item ∷ served f items) (same_exit f g item same)
    ∙ ap (λ l. if is_exit g item then item ∷ [] else item ∷ l) (served_same f g items same)

pub has_exit_same : (f g : List ℕ → Option Entry) (items : List ItemData) → ((name : List ℕ) → f name ≡ g name) → has_exit f items ≡ has_exit g items
has_exit_same f g [] same = refl
has_exit_same f g (item ∷ items) same =
    ap (λ b. b || has_exit f items) (same_exit f g item same) ∙ ap (λ b. is_exit g item || b) (has_exit_same f g items same)

-- ---- the first exit

pub has_exit-append : (find : List ℕ → Option Entry) (xs ys : List ItemData) → has_exit find (xs ++ ys) ≡ (has_exit find xs || has_exit find ys)
has_exit-append find [] ys = refl
has_exit-append find (x ∷ xs) ys = ap (λ b. is_exit find x || b) (has_exit-append find xs ys) ∙ sym (or_assoc (is_exit find x) (has_exit find xs) (has_exit find ys))
  where
    or_assoc : (a b c : Bool) → ((a || b) || c) ≡ (a || (b || c))
    or_assoc true b c = refl
    or_assoc false b c = refl

-- what is served goes on after items with no exit
pub served-open : (find : List ℕ → Option Entry) (xs ys : List ItemData) → has_exit find xs ≡ false → served find (xs ++ ys) ≡ xs ++ served find ys
served-open find [] ys none = refl
served-open find (x ∷ xs) ys none = at (is_exit find x) none (λ h. served-open find xs ys h)
  where
    at : (b : Bool) → (b || has_exit find xs) ≡ false → (has_exit find xs ≡ false → served find (xs ++ ys) ≡ xs ++ served find ys)
        → (if b then x ∷ [] else x ∷ served find (xs ++ ys)) ≡ x ∷ (xs ++ served find ys)
    at true h more = cc
    at false h more = ap (λ l. x ∷ l) (more h)

-- and it ends with the first exit
pub served-closed : (find : List ℕ → Option Entry) (xs : List ItemData) (exit : ItemData) (ys : List ItemData) → has_exit find xs ≡ false → is_exit find exit ≡ true
    → served find ((xs ++ exit ∷ []) ++ ys) ≡ xs ++ exit ∷ []
served-closed find xs exit ys none is =
    ap (served find) (append_assoc xs (exit ∷ []) ys) ∙ served-open find xs (exit ∷ ys) none
    ∙ ap (λ b. xs ++ (if b then exit ∷ [] else exit ∷ served find ys)) is

-- ---- a run leaves the method table

module _ {H C T P : Type 0} (semantics : Semantics H C T) (laws : IsLawfulHandlers semantics) (order : Order P) (rounds : ℕ) where
  pub run_table : (s s2 : Picked (State H semantics.Call semantics.Task) P) (items : List ItemData) (e : Effect) → Run (Step semantics order rounds) s items e s2
      → (name : List ℕ) → semantics.find s2.session.service name ≡ semantics.find s.session.service name
  run_table s s2 [] e p name = ap (λ (x : Picked (State H semantics.Call semantics.Task) P). semantics.find x.session.service name) p.1
  run_table s s2 (item ∷ items) e p name = run_table p.0 s2 items p.2 p.4 name ∙ step_table semantics laws name order rounds s p.0 item p.1 p.3

-- ---- a session that goes on

pub not_exited : (life : Life) → (life ≡ Exited → ⊥) → is_exited life ≡ false
not_exited Uninitialized h = refl
not_exited Initializing h = refl
not_exited Initialized h = refl
not_exited ShutDown h = refl
not_exited Exited h = absurd (h refl)

pub alive : (life : Life) → is_exited life ≡ false → life ≡ Exited → ⊥
alive life h e = true≢false (sym (ap is_exited e) ∙ h)
