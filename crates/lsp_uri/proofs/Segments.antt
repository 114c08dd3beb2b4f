-- The segments of a path, one after the other.
use Rattle.std.proofs.Common.{◌≡◌, ℕ, ◌<◌, List, length, Bool, true, false, ◌&&◌, Option, Some, None, refl, sym, ap, ◌∙◌}
use Rattle.std.specs.List.{list_all}
use Rattle.lsp_uri.specs.Cuts.{before, after}
use Rattle.lsp_uri.specs.Grammar.{is_segment, are_segments}
use Rattle.lsp_uri.proofs.CutLemmas.{pieces-some, pieces-none, before-none, after-shorter}

and_true : (x : Bool) → (x && true) ≡ x
and_true true = refl
and_true false = refl

pub segments-some : (s t : List ℕ) → after 47 s ≡ Some t → are_segments s ≡ (is_segment (before 47 s) && are_segments t)
segments-some s t e = ap (list_all is_segment) (pieces-some 47 s t e)

pub segments-none : (s : List ℕ) → after 47 s ≡ None → are_segments s ≡ is_segment (before 47 s)
segments-none s e = ap (list_all is_segment) (pieces-none 47 s e) ∙ (and_true (is_segment s) ∙ ap is_segment (sym (before-none 47 s e)))

stopped : (s : List ℕ) (o : Option (List ℕ)) → after 47 s ≡ o → is_segment (before 47 s) ≡ false → are_segments s ≡ false
stopped s None e h = segments-none s e ∙ h
stopped s (Some t) e h = segments-some s t e ∙ ap (λ x. x && are_segments t) h

pub segments-stopped : (s : List ℕ) → is_segment (before 47 s) ≡ false → are_segments s ≡ false
segments-stopped s h = stopped s (after 47 s) refl h

pub segments-shorter : (s t : List ℕ) → after 47 s ≡ Some t → length t < length s
segments-shorter s t e = after-shorter 47 s t e

pub ruleset segment_lemmas = (segments-some, segments-none, segments-stopped, segments-shorter)
