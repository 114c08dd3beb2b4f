-- The messages that were made up so far, and those that are counted.
use Rattle.std.proofs.Common.{◌≡◌, ◌+◌, ◌<◌, ◌≤◌, ℕ, suc, zero, List, [], ◌∷◌, ◌++◌, Bool, true, cond, inl, inr, refl, sym, ap, ◌∙◌, subst, arith, append_assoc, add-one, length}
use Rattle.std.proofs.lemmas.List.{append-nil}
use Rattle.std.specs.Prelude.{Option, Some, None, IfSome, Result, Ok, Err, IfOk, is_some, count_by, ⊤}
use Rattle.std.specs.List.{fold}
use Rattle.lsp_frame.specs.Codec.{Item, At, more, with_item, told_at}
use Rattle.lsp_frame.specs.Frames.{framed}
use Rattle.lsp_server.specs.Course.{Course}
use Rattle.lsp_server.specs.Served.{CallBytes, call_bytes}
use Rattle.lsp_service.specs.declared.service.LspService.{LspService}
use Rattle.lsp_session.specs.Run.{Picked}
use Rattle.lsp_session.specs.Semantics.{Semantics}
use Rattle.lsp_session.specs.State.{State}
use Rattle.lsp_stdio.specs.Stdio.{ServedWhole, EndsWith}
use Rattle.lsp_sample_server.specs.declared.sample.Sample.{Sample}
use Rattle.lsp_sample_run.specs.declared.arguments.MadeUp.{MadeUp}
use Rattle.lsp_sample_run.specs.Arguments.{default_setting}
use Rattle.lsp_sample_run.specs.Run.{ServesSample}
use Rattle.lsp_sample_run.specs.Bulk.{next_drawn, number_drawn, body_of, bodies, generated, summary, Writes, IsSummary}
use Rattle.lsp_sample_run.specs.Tally.{one, counts}

-- ---- what is made up

pub drawn_next : (seed k x y : ℕ) → x ≡ number_drawn seed k → y ≡ next_drawn x → y ≡ number_drawn seed (k + 1)
drawn_next seed k x y is next = rw add-one (next ∙ ap next_drawn is)

bodies_one : (seed k : ℕ) (head : List ℕ) → head ++ (bodies seed k ++ framed (body_of (k + 1) (number_drawn seed (k + 1)))) ≡ head ++ bodies seed (k + 1)
bodies_one seed k head = rw add-one refl

pub bodies_next : (seed k y : ℕ) (head old new : List ℕ) → old ≡ head ++ bodies seed k → y ≡ number_drawn seed (k + 1) → new ≡ old ++ framed (body_of (k + 1) y) → new ≡ head ++ bodies seed (k + 1)
bodies_next seed k y head old new was is more =
    more ∙ ap (λ l. l ++ framed (body_of (k + 1) y)) was ∙ append_assoc head (bodies seed k) (framed (body_of (k + 1) y))
    ∙ ap (λ z. head ++ (bodies seed k ++ framed (body_of (k + 1) z))) is ∙ bodies_one seed k head

-- a text with two numbers, from its pieces
pub regrouped : (a b c d e : List ℕ) → a ++ ((b ++ c) ++ (d ++ e)) ≡ (((a ++ b) ++ c) ++ d) ++ e
regrouped a b c d e =
    sym (append_assoc a (b ++ c) (d ++ e)) ∙ sym (append_assoc (a ++ (b ++ c)) d e)
    ∙ ap (λ l. (l ++ d) ++ e) (sym (append_assoc a b c))

-- ---- what is counted

more-none : (a : At) → more a [] ≡ a
more-none a = ap (λ (l : List ℕ). let x : At = record { settings = a.settings; state = a.state; held = l } in x) (append-nil a.held)

pub told_next : (old new : At) (x : Option Item) → ((c : List ℕ) → told_at (more old c) ≡ with_item x (told_at (more new c))) → told_at old ≡ with_item x (told_at new)
told_next old new x tells = ap told_at (sym (more-none old)) ∙ tells [] ∙ ap (λ a. with_item x (told_at a)) (more-none new)

fold_from : (f : Item → ℕ) (n : ℕ) (xs : List Item) → fold (λ a x. a + f x) n xs ≡ n + fold (λ a x. a + f x) 0 xs
fold_from f n [] = omega arith
fold_from f n (x ∷ xs) = let one_way = fold_from f (n + f x) xs in let other = fold_from f (0 + f x) xs in omega (arith, one_way, other)

pub counted_next : (p : Item → Bool) (x : Item) (xs : List Item) → count_by p (x ∷ xs) ≡ one (p x) + count_by p xs
counted_next p x xs = let h = fold_from (λ y. cond (p y) 1 0) (0 + cond (p x) 1 0) xs in omega (arith, h)

pub counted : (p : Item → Bool) (x : Option Item) (now next all : ℕ) (old new : At) → told_at old ≡ with_item x (told_at new) → next ≡ now + counts p x
    → now + count_by p (told_at old) ≡ all → next + count_by p (told_at new) ≡ all
counted p None now next all old new told more was = omega (arith, ap (count_by p) told, more, was)
counted p (Some x) now next all old new told more was = omega (arith, ap (count_by p) told, counted_next p x (told_at new), more, was)

pub fewer : (x : Option Item) (old new : At) → told_at old ≡ with_item x (told_at new) → is_some x ≡ true → length (told_at new) < length (told_at old)
fewer None old new told some = absurd (cc)
fewer (Some x) old new told some = omega (arith, ap length told)

-- ---- what is served

whole : {H D C T : Type 0} (course : Course (Picked (State H C T) ⊤) D) (call : CallBytes) (n : ℕ) → n ≤ 1 → EndsWith course call n → ServedWhole course call (λ _. ⊤)
whole course call zero low ends = let w = ends.done refl in record { view = w.view; serves = w.serves; enough = w.enough; ends = tt }
whole course call (suc zero) low ends = let w = ends.unfinished refl in record { view = w.view; serves = w.serves; enough = w.enough; ends = tt }
whole course call (suc (suc n)) low ends = absurd (omega (arith, low))

module _ {C T : Type 0} (semantics : Semantics (LspService Sample) C T) where
  writes_by : (session : MadeUp) (bytes : List ℕ) (rest : Option (List ℕ)) (n : ℕ) → n ≤ 1
      → ServesSample semantics default_setting (call_bytes (generated session) rest (Some []) (Some bytes)) n → Writes semantics session bytes
  writes_by session bytes rest n low (inl s) = record {
    left = rest;
    serves = record { service = s.service; new = s.new; desk = s.desk; opening = s.opening; holds = whole _ _ n low s.holds };
  }
  writes_by session bytes rest n low (inr none) = absurd (omega (arith, low, none.memory))

  pub written_as : (session : MadeUp) (input bytes : List ℕ) (left rest taken taken_after : Option (List ℕ)) (n : ℕ) → n ≤ 1 → left ≡ Some input → input ≡ generated session → taken ≡ Some [] → taken_after ≡ Some bytes
      → IfSome left (λ b. ServesSample semantics default_setting (call_bytes b rest taken taken_after) n) → Writes semantics session bytes
  written_as session input bytes left rest taken taken_after n low left_is made none is served =
      writes_by session bytes rest n low
      (subst (λ (i : List ℕ). ServesSample semantics default_setting (call_bytes i rest (Some []) (Some bytes)) n) made
      (subst (λ (t : Option (List ℕ)). ServesSample semantics default_setting (call_bytes input rest (Some []) t) n) is
      (subst (λ (t : Option (List ℕ)). ServesSample semantics default_setting (call_bytes input rest t taken_after) n) none
      (subst (λ (l : Option (List ℕ)). IfSome l (λ b. ServesSample semantics default_setting (call_bytes b rest taken taken_after) n)) left_is served))))

  pub summary_as : {A E : Type 0} (session : MadeUp) (bytes : List ℕ) (r : Result A E) (text : A → List ℕ) → Writes semantics session bytes → IfOk r (λ line. text line ≡ summary bytes)
      → IfOk r (λ line. IsSummary semantics session (text line))
  summary_as session bytes (Ok line) text writes is = record { bytes = bytes; writes = writes; is = is }
  summary_as session bytes (Err e) text writes is = tt
