-- The position of a byte.
use Rattle.std.proofs.Common.{◌≡◌, ◌<◌, ◌≤◌, ◌+◌, ◌-◌, ℕ, List, ◌++◌, Bool, true, false, Option, Some, None, option_map, refl, sym, ap, ◌∙◌, subst, arith, length, take, drop, nat_lt, ltb-true, ltb-false, sum_by}
use Rattle.std.specs.Prelude.{IfSome}
use Rattle.std.specs.Str.{chars, IsUtf8, IsCharBoundary}
use Rattle.std.proofs.Math.Seq.{take-add}
use Rattle.std.proofs.lemmas.List.{take_at, drop_at, take-take, drop-take, take-append-drop, length-append, length-drop, length-take-le}
use Rattle.std.proofs.lemmas.Str.{encodes-append, encodes-chars, scalars-chars, chars_from_encodes, encodes_same, length-le-encodes, IsUtf8-take, IsUtf8-drop}
use lib.Utf8.{encodes}
use Rattle.lsp_documents.specs.Lines.{units, from_line, later_lines, IsPosition}
use Rattle.lsp_documents.proofs.FittingLemmas.{bytes_within}
use Rattle.lsp_documents.proofs.LineLemmas.{IsEndOf, IsOptionEnd, IsEndOf-trans, later-end, later-encodes}
use Rattle.lsp_documents.proofs.PlaceLemmas.{bytes_apart, start_bytes, text_line, rest_scalars, scalars-take}

-- how many bytes so many characters are
abbrev pub bytes_to : List ℕ → ℕ → ℕ
bytes_to cs n = length (encodes (take n cs))

-- more characters are no fewer bytes, and within the text more bytes
bytes_rise : (cs : List ℕ) (a b : ℕ) → a ≤ b → bytes_to cs a ≤ bytes_to cs b
bytes_rise cs a b le = subst (λ ds. length (encodes ds) ≤ bytes_to cs b) (take-take a b cs le) (bytes_within (take b cs) a)

bytes_more : (cs : List ℕ) (a b : ℕ) → a < b → b ≤ length cs → bytes_to cs a < bytes_to cs b
bytes_more cs a b less within =
    let m = b - a in
    let e : a + m ≡ b = omega arith in
    let parts = ap (λ n. length (encodes (take n cs))) (sym e) ∙ ap (λ ds. length (encodes ds)) (take-add a m cs) ∙ ap length (encodes-append (take a cs) (take m (drop a cs))) ∙ length-append (encodes (take a cs)) (encodes (take m (drop a cs))) in
    let long : length (take m (drop a cs)) ≡ m = length-take-le m (drop a cs) (omega (arith, length-drop a cs)) in
    omega (arith, parts, long, length-le-encodes (take m (drop a cs)))

pub place_below : (cs : List ℕ) (a b : ℕ) → a ≤ length cs → bytes_to cs a ≤ bytes_to cs b → a ≤ b
place_below cs a b within le = go (nat_lt b a) refl
  where
    go : (t : Bool) → nat_lt b a ≡ t → a ≤ b
    go true p = let h = bytes_more cs b a (ltb-true b a p) within in absurd (omega (arith, h, le))
    go false p = ltb-false b a p

pub place_before : (cs : List ℕ) (a b : ℕ) → bytes_to cs a < bytes_to cs b → a < b
place_before cs a b less = go (nat_lt a b) refl
  where
    go : (t : Bool) → nat_lt a b ≡ t → a < b
    go true p = ltb-true a b p
    go false p = let h = bytes_rise cs b a (ltb-false a b p) in absurd (omega (arith, h, less))

-- the place of a byte is how many characters are before it
pub record IsAt (bs : List ℕ) (offset at : ℕ) : Type 0 where
  pub within : at ≤ length (chars bs)
  pub front : encodes (take at (chars bs)) ≡ take offset bs
  pub bytes : bytes_to (chars bs) at ≡ offset

pub place_of_byte : (bs : List ℕ) (offset : ℕ) → IsUtf8 bs → IsCharBoundary bs offset → IsAt bs offset (length (chars (take offset bs)))
place_of_byte bs offset u b =
    let before = chars (take offset bs) in
    let later = chars (drop offset bs) in
    let front = encodes-chars (take offset bs) (IsUtf8-take bs offset u b) in
    let back = encodes-chars (drop offset bs) (IsUtf8-drop bs offset u b) in
    let parts : before ++ later ≡ chars bs = encodes_same (before ++ later) (chars bs) (encodes-append before later ∙ ap (λ xs. xs ++ encodes later) front ∙ ap (λ ys. take offset bs ++ ys) back ∙ take-append-drop offset bs ∙ sym (encodes-chars bs u)) in
    let at : take (length before) (chars bs) ≡ before = ap (take (length before)) (sym parts) ∙ take_at before later (length before) refl in
    let whole : encodes (take (length before) (chars bs)) ≡ take offset bs = ap encodes at ∙ front in
    record {
      within = omega (arith, ap length parts, length-append before later);
      front = whole;
      bytes = ap length whole ∙ length-take-le offset bs b.0;
    }

-- ---- the position of a byte, from the line that it is in

at_line : (bs : List ℕ) (offset start at n : ℕ) (rest : List ℕ) → n ≤ at → start ≤ offset → drop n (chars bs) ≡ rest → bytes_to (chars bs) n ≡ start → encodes (take at (chars bs)) ≡ take offset bs
    → encodes (take (at - n) rest) ≡ take (offset - start) (drop start bs)
at_line bs offset start at n rest before begun same is_start front =
    let cs = chars bs in
    let line = take (at - n) rest in
    let whole : n + (at - n) ≡ at = omega arith in
    let bytes : start + (offset - start) ≡ offset = omega arith in
    let parts : encodes (take n cs) ++ encodes line ≡ take offset bs =
    sym (encodes-append (take n cs) line) ∙ ap (λ ds. encodes (take n cs ++ take (at - n) ds)) (sym same) ∙ ap encodes (sym (take-add n (at - n) cs)) ∙ ap (λ k. encodes (take k cs)) whole ∙ front in
    sym (drop_at (encodes (take n cs)) (encodes line) start is_start) ∙ ap (drop start) parts ∙ ap (λ k. drop start (take k bs)) (sym bytes) ∙ drop-take start (offset - start) bs

next_line_later : (cs rest : List ℕ) (at offset : ℕ) → IsEndOf cs rest → bytes_to cs at ≡ offset → IfSome (option_map encodes (later_lines rest)) (λ later. offset < length (encodes cs) - length later) → IfSome (later_lines rest) (λ later. at < length cs - length later)
next_line_later cs rest at offset end is h = go (later_lines rest) (later-end rest) h
  where
    go : (o : Option (List ℕ)) → IsOptionEnd rest o → IfSome (option_map encodes o) (λ later. offset < length (encodes cs) - length later) → IfSome o (λ later. at < length cs - length later)
    go None k h = h
    go (Some later) k h =
        let through = IsEndOf-trans cs rest later end k in
        let m = length cs - length later in
        let whole = ap length (bytes_apart cs m) ∙ length-append (encodes (take m cs)) (encodes (drop m cs)) in
        let back = ap (λ ds. length (encodes ds)) through.same in
        place_before cs at m (omega (arith, whole, back, is, h))

pub position_is : (bs : List ℕ) (offset line start character : ℕ) → IsUtf8 bs → IsCharBoundary bs offset → start ≤ offset → from_line line bs ≡ Some (drop start bs)
    → IfSome (later_lines (drop start bs)) (λ later. offset < length bs - length later) → character ≡ sum_by units (chars (take (offset - start) (drop start bs)))
    → IsPosition (chars bs) (length (chars (take offset bs))) line character
position_is bs offset line start character u b begun line_is not_later is =
    let cs = chars bs in
    let at = length (chars (take offset bs)) in
    let whole = encodes-chars bs u in
    let a = place_of_byte bs offset u b in
    let found = text_line bs line start u line_is in
    let rest = found.0 in
    let n = length cs - length rest in
    let inside : start ≤ length (encodes cs) = omega (arith, ap length whole, b.0) in
    let is_start = start_bytes cs rest line start inside found.1 in
    let before : n ≤ at = place_below cs n at (omega arith) (omega (arith, is_start, a.bytes)) in
    let bytes : encodes rest ≡ drop start bs = found.1.bytes ∙ ap (drop start) whole in
    let line_bytes = at_line bs offset start at n rest before begun found.1.end.same is_start a.front in
    let line_chars : take (at - n) rest ≡ chars (take (offset - start) (drop start bs)) =
    chars_from_encodes (take (at - n) rest) (take (offset - start) (drop start bs))
    (take (at - n) rest, (scalars-take (at - n) rest (rest_scalars cs rest (scalars-chars bs u) found.1.end), line_bytes)) line_bytes in
    let later : IfSome (option_map encodes (later_lines rest)) (λ later. offset < length (encodes cs) - length later) =
    subst (λ t. IfSome (option_map encodes (later_lines rest)) (λ later. offset < length t - length later)) (sym whole)
    (subst (λ o. IfSome o (λ later. offset < length bs - length later)) (ap later_lines (sym bytes) ∙ later-encodes rest) not_later) in
    record {
      rest = rest;
      line_is = found.1.is;
      within = a.within;
      begun = before;
      not_later = next_line_later cs rest at offset found.1.end a.bytes later;
      character_is = is ∙ ap (sum_by units) (sym line_chars);
    }

-- the same of the same text, the same bytes and the same numbers
pub moved : (cs ds bs es : List ℕ) (offset l l' u u' : ℕ) → cs ≡ ds → bs ≡ es → l ≡ l' → u ≡ u' → IsPosition cs (length (chars (take offset bs))) l u → IsPosition ds (length (chars (take offset es))) l' u'
moved cs ds bs es offset l l' u u' a b c d h =
    subst (λ x. IsPosition x (length (chars (take offset es))) l' u') a
    (subst (λ x. IsPosition cs (length (chars (take offset x))) l' u') b
    (subst (λ x. IsPosition cs (length (chars (take offset bs))) x u') c
    (subst (λ x. IsPosition cs (length (chars (take offset bs))) l x) d h)))
