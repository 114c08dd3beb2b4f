-- Places among characters, and the bytes at them.
use Rattle.std.proofs.Common.{◌≡◌, ◌≤◌, ◌+◌, ◌-◌, ℕ, suc, zero, List, [], ◌∷◌, ◌++◌, Bool, true, false, Option, Some, None, option_map, refl, sym, ap, ◌∙◌, subst, arith, length, take, drop}
use Rattle.std.specs.Prelude.{◌&&◌}
use Rattle.std.specs.Option.{option_and_then}
use Rattle.std.specs.Str.{chars, IsUtf8, IsCharBoundary}
use Rattle.std.proofs.lemmas.List.{take_all, length-append, length-drop, take-append-drop}
use Rattle.std.proofs.Math.Seq.{take-add}
use Rattle.std.proofs.lemmas.Str.{encodes-append, encodes-chars, scalars-chars, chars_from_encodes, IsCharBoundary-from_drop}
use lib.Utf8.{scalars, encodes, scalar}
use Rattle.lsp_documents.specs.Lines.{first_line, later_lines, from_line, fitting, place_of, place_from}
use Rattle.lsp_documents.proofs.FittingLemmas.{bytes_within}
use Rattle.lsp_documents.proofs.LineLemmas.{no_line, IsEndOf, IsOptionEnd, from_line-end, from_line-encodes}

second : (a b : Bool) → (a && b) ≡ true → b ≡ true
second true b e = e
second false b e = cc

both : (a b : Bool) → a ≡ true → b ≡ true → (a && b) ≡ true
both a b p q = ap (λ x. x && b) p ∙ q

first : (a b : Bool) → (a && b) ≡ true → a ≡ true
first true b e = refl
first false b e = e

pub scalars-drop : (n : ℕ) (cs : List ℕ) → scalars cs ≡ true → scalars (drop n cs) ≡ true
scalars-drop zero cs e = e
scalars-drop (suc n) [] e = e
scalars-drop (suc n) (c ∷ cs) e = scalars-drop n cs (second (scalar c) (scalars cs) e)

pub scalars-take : (n : ℕ) (cs : List ℕ) → scalars cs ≡ true → scalars (take n cs) ≡ true
scalars-take zero cs e = refl
scalars-take (suc n) [] e = e
scalars-take (suc n) (c ∷ cs) e = both (scalar c) (scalars (take n cs)) (first (scalar c) (scalars cs) e) (scalars-take n cs (second (scalar c) (scalars cs) e))

-- a front of the characters, and what follows, are a front of the bytes, and what follows
pub bytes_apart : (cs : List ℕ) (n : ℕ) → encodes cs ≡ encodes (take n cs) ++ encodes (drop n cs)
bytes_apart cs n = ap encodes (sym (take-append-drop n cs)) ∙ encodes-append (take n cs) (drop n cs)

-- a line of the characters that begins at this byte
pub record BeginsAt (cs : List ℕ) (line start : ℕ) (rest : List ℕ) : Type 0 where
  pub is : from_line line cs ≡ Some rest
  pub bytes : encodes rest ≡ drop start (encodes cs)
  pub end : IsEndOf cs rest

pub line_found : (cs : List ℕ) (line start : ℕ) → from_line line (encodes cs) ≡ Some (drop start (encodes cs)) → (rest : List ℕ) × BeginsAt cs line start rest
line_found cs line start e = go (from_line line cs) refl (from_line-end line cs) (sym (from_line-encodes line cs) ∙ e)
  where
    go : (o : Option (List ℕ)) → from_line line cs ≡ o → IsOptionEnd cs o → option_map encodes o ≡ Some (drop start (encodes cs)) → (rest : List ℕ) × BeginsAt cs line start rest
    go None is end h = cc
    go (Some rest) is end h = (rest, record { is = is; bytes = cc; end = end })

pub line_missing : (cs : List ℕ) (line : ℕ) → from_line line (encodes cs) ≡ None → from_line line cs ≡ None
line_missing cs line e = go (from_line line cs) refl (sym (from_line-encodes line cs) ∙ e)
  where
    go : (o : Option (List ℕ)) → from_line line cs ≡ o → option_map encodes o ≡ None → from_line line cs ≡ None
    go None is h = is
    go (Some rest) is h = cc

pub rest_scalars : (cs rest : List ℕ) → scalars cs ≡ true → IsEndOf cs rest → scalars rest ≡ true
rest_scalars cs rest e end = ap scalars (sym end.same) ∙ scalars-drop (length cs - length rest) cs e

-- the place of a line's start is at its byte
pub start_bytes : (cs rest : List ℕ) (line start : ℕ) → start ≤ length (encodes cs) → BeginsAt cs line start rest → length (encodes (take (length cs - length rest) cs)) ≡ start
start_bytes cs rest line start within h =
    let n = length cs - length rest in
    let whole = ap length (bytes_apart cs n) ∙ length-append (encodes (take n cs)) (encodes (drop n cs)) in
    let later = ap (λ ds. length (encodes ds)) h.end.same ∙ ap length h.bytes ∙ length-drop start (encodes cs) in
    omega (arith, whole, later)

-- so many bytes are before a place in the text from a line on
pub behind_start : (cs rest : List ℕ) (line start p : ℕ) → start ≤ length (encodes cs) → BeginsAt cs line start rest → length (encodes (take ((length cs - length rest) + p) cs)) ≡ start + length (encodes (take p rest))
behind_start cs rest line start p within h =
    let n = length cs - length rest in
    ap (λ ds. length (encodes ds)) (take-add n p cs ∙ ap (λ ds. take n cs ++ take p ds) h.end.same)
    ∙ ap length (encodes-append (take n cs) (take p rest))
    ∙ length-append (encodes (take n cs)) (encodes (take p rest))
    ∙ ap (λ k. k + length (encodes (take p rest))) (start_bytes cs rest line start within h)

offset_in_line : (cs rest : List ℕ) (line start character : ℕ) → start ≤ length (encodes cs) → BeginsAt cs line start rest → length (encodes (take (place_of line character cs) cs)) ≡ start + length (encodes (take (fitting character (first_line rest)) rest))
offset_in_line cs rest line start character within h =
    ap (λ o. length (encodes (take (place_from (length cs) character o) cs))) h.is
    ∙ behind_start cs rest line start (fitting character (first_line rest)) within h

pub from_line-add : (t rest : List ℕ) (a b : ℕ) → from_line a t ≡ Some rest → from_line (a + b) t ≡ from_line b rest
from_line-add t rest a zero e = let same : a + 0 ≡ a = omega arith in ap (λ n. from_line n t) same ∙ e
from_line-add t rest a (suc b) e =
    let more : a + suc b ≡ suc (a + b) = omega arith in
    ap (λ n. from_line n t) more ∙ ap (option_and_then later_lines) (from_line-add t rest a b e)

-- a place of a later line is one of the text from an earlier line on
place_in_rest : (cs rest : List ℕ) (a b character : ℕ) → from_line a cs ≡ Some rest → IsEndOf cs rest → place_of (a + b) character cs ≡ (length cs - length rest) + place_of b character rest
place_in_rest cs rest a b character e end = ap (place_from (length cs) character) (from_line-add cs rest a b e) ∙ go (from_line b rest) (from_line-end b rest)
  where
    go : (o : Option (List ℕ)) → IsOptionEnd rest o → place_from (length cs) character o ≡ (length cs - length rest) + place_from (length rest) character o
    go None h = omega (arith, end.shorter)
    go (Some later) h = omega (arith, end.shorter, h.shorter)

pub offset_past_lines : (cs : List ℕ) (line character : ℕ) → from_line line cs ≡ None → length (encodes (take (place_of line character cs) cs)) ≡ length (encodes cs)
offset_past_lines cs line character e =
    ap (λ o. length (encodes (take (place_from (length cs) character o) cs))) e
    ∙ ap (λ ds. length (encodes ds)) (take_all (length cs) cs (omega arith))

-- ---- the same of a text by its bytes

pub text_line : (bs : List ℕ) (line start : ℕ) → IsUtf8 bs → from_line line bs ≡ Some (drop start bs) → (rest : List ℕ) × BeginsAt (chars bs) line start rest
text_line bs line start u e = line_found (chars bs) line start (subst (λ t. from_line line t ≡ Some (drop start t)) (sym (encodes-chars bs u)) e)

pub text_rest : (bs : List ℕ) (line start : ℕ) → IsUtf8 bs → from_line line bs ≡ Some (drop start bs) → IsUtf8 (drop start bs)
text_rest bs line start u e =
    let found = text_line bs line start u e in
    (found.0, (rest_scalars (chars bs) found.0 (scalars-chars bs u) found.1.end, found.1.bytes ∙ ap (drop start) (encodes-chars bs u)))

pub text_boundary : (bs : List ℕ) (line start : ℕ) → IsUtf8 bs → start ≤ length bs → from_line line bs ≡ Some (drop start bs) → IsCharBoundary bs start
text_boundary bs line start u within e = IsCharBoundary-from_drop bs start within (text_rest bs line start u e)

pub text_offset : (bs : List ℕ) (line start character : ℕ) → IsUtf8 bs → start ≤ length bs → from_line line bs ≡ Some (drop start bs)
    → start + length (encodes (take (fitting character (first_line (chars (drop start bs)))) (chars (drop start bs)))) ≡ length (encodes (take (place_of line character (chars bs)) (chars bs)))
text_offset bs line start character u within e =
    let found = text_line bs line start u e in
    let whole = encodes-chars bs u in
    let rest : found.0 ≡ chars (drop start bs) = chars_from_encodes found.0 (drop start bs) (text_rest bs line start u e) (found.1.bytes ∙ ap (drop start) whole) in
    let inside : start ≤ length (encodes (chars bs)) = subst (λ t. start ≤ length t) (sym whole) within in
    ap (λ ds. start + length (encodes (take (fitting character (first_line ds)) ds))) (sym rest)
    ∙ sym (offset_in_line (chars bs) found.0 line start character inside found.1)

pub text_place : (bs : List ℕ) (line start more character : ℕ) → IsUtf8 bs → start ≤ length bs → from_line line bs ≡ Some (drop start bs)
    → start + length (encodes (take (place_of more character (chars (drop start bs))) (chars (drop start bs)))) ≡ length (encodes (take (place_of (line + more) character (chars bs)) (chars bs)))
text_place bs line start more character u within e =
    let cs = chars bs in
    let found = text_line bs line start u e in
    let whole = encodes-chars bs u in
    let rest : found.0 ≡ chars (drop start bs) = chars_from_encodes found.0 (drop start bs) (text_rest bs line start u e) (found.1.bytes ∙ ap (drop start) whole) in
    let inside : start ≤ length (encodes cs) = subst (λ t. start ≤ length t) (sym whole) within in
    ap (λ ds. start + length (encodes (take (place_of more character ds) ds))) (sym rest)
    ∙ sym (ap (λ p. length (encodes (take p cs))) (place_in_rest cs found.0 line more character found.1.is found.1.end)
    ∙ behind_start cs found.0 line start (place_of more character found.0) inside found.1)

pub text_end : (bs : List ℕ) (line character : ℕ) → IsUtf8 bs → from_line line bs ≡ None → length bs ≡ length (encodes (take (place_of line character (chars bs)) (chars bs)))
text_end bs line character u e =
    let whole = encodes-chars bs u in
    let missing = line_missing (chars bs) line (subst (λ t. from_line line t ≡ None) (sym whole) e) in
    ap length (sym whole) ∙ sym (offset_past_lines (chars bs) line character missing)

-- where a line is not there, no later one is
pub text_end_later : (bs : List ℕ) (line later character : ℕ) → IsUtf8 bs → line ≤ later → from_line line bs ≡ None → length bs ≡ length (encodes (take (place_of later character (chars bs)) (chars bs)))
text_end_later bs line later character u le e = text_end bs later character u (no_line bs line later le e)

-- a place is within the text
pub offset_within : (bs : List ℕ) (n : ℕ) → IsUtf8 bs → length (encodes (take n (chars bs))) ≤ length bs
offset_within bs n u = omega (arith, bytes_within (chars bs) n, ap length (encodes-chars bs u))
