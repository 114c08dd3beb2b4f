-- What is written of a value without parts reads back.
use Rattle.std.proofs.Common.{◌≡◌, ℕ, ◌≤◌, List, Bool, true, false, not, ◌&&◌, cond, Option, Some, None, option_map, is_some, true≢false, ℤ, pos, negsuc, int_le, refl, sym, ap, ◌∙◌, arith}
use Rattle.std.proofs.lemmas.Bool.{le-leb, and_parts, not-true, false≢true}
use Rattle.serde_json.specs.Data.{Data, unsigned, negative, float, null, boolean, number, string, array, object}
use Rattle.serde_json.specs.Find.{as_object}
use Rattle.lsp_shape.specs.Plain.{Plain, leaf, absent, present, parts, entry, choice, plain_depth}
use Rattle.lsp_shape.specs.Shape.{Shape, nil, truth, integer, bits, text, any}
use Rattle.lsp_shape.specs.Read.{read, read_maybe, read_or_truth, integer_within}
use Rattle.lsp_shape.specs.Write.{write, write_maybe}
use Rattle.lsp_shape.specs.Values.{is_of, clear, is_null, is_maybe, clear_maybe}

-- what is written of plain data of the shape reads back
abbrev pub Back : Shape → Type 0
Back s = (p : Plain) → is_of s p ≡ true → clear s p ≡ true → read s (write s p) ≡ Some p

-- the same of a reader and a writer, for plain data that nests so deep at most
abbrev pub BackBelow : ℕ → (Data → Option Plain) → (Plain → Data) → (Plain → Bool) → (Plain → Bool) → Type 0
BackBelow n f w is cl = (p : Plain) → plain_depth p ≤ n → is p ≡ true → cl p ≡ true → f (w p) ≡ Some p

pub back_nil : Back nil
back_nil (leaf null) i c = refl
back_nil (leaf (boolean b)) i c = absurd (false≢true i)
back_nil (leaf (number b)) i c = absurd (false≢true i)
back_nil (leaf (string b)) i c = absurd (false≢true i)
back_nil (leaf (array b)) i c = absurd (false≢true i)
back_nil (leaf (object b)) i c = absurd (false≢true i)
back_nil absent i c = absurd (false≢true i)
back_nil (present p) i c = absurd (false≢true i)
back_nil (parts ps) i c = absurd (false≢true i)
back_nil (entry k p) i c = absurd (false≢true i)
back_nil (choice n p) i c = absurd (false≢true i)

pub back_truth : Back truth
back_truth (leaf null) i c = absurd (false≢true i)
back_truth (leaf (boolean b)) i c = refl
back_truth (leaf (number b)) i c = absurd (false≢true i)
back_truth (leaf (string b)) i c = absurd (false≢true i)
back_truth (leaf (array b)) i c = absurd (false≢true i)
back_truth (leaf (object b)) i c = absurd (false≢true i)
back_truth absent i c = absurd (false≢true i)
back_truth (present p) i c = absurd (false≢true i)
back_truth (parts ps) i c = absurd (false≢true i)
back_truth (entry k p) i c = absurd (false≢true i)
back_truth (choice n p) i c = absurd (false≢true i)

text_at : (b : Bool) (p : Plain) → is_some (cond b (Some p) None) ≡ true → cond b (Some p) None ≡ Some p
text_at true p i = refl
text_at false p i = absurd (false≢true i)

pub back_text : (test : List ℕ → Bool) → Back (text test)
back_text test (leaf null) i c = absurd (false≢true i)
back_text test (leaf (boolean b)) i c = absurd (false≢true i)
back_text test (leaf (number b)) i c = absurd (false≢true i)
back_text test (leaf (string b)) i c = text_at (test b) (leaf (string b)) i
back_text test (leaf (array b)) i c = absurd (false≢true i)
back_text test (leaf (object b)) i c = absurd (false≢true i)
back_text test absent i c = absurd (false≢true i)
back_text test (present p) i c = absurd (false≢true i)
back_text test (parts ps) i c = absurd (false≢true i)
back_text test (entry k p) i c = absurd (false≢true i)
back_text test (choice n p) i c = absurd (false≢true i)

pub back_any : Back any
back_any (leaf d) i c = refl
back_any _ i c = absurd (false≢true i)

below_zero : (low high z : ℤ) → (int_le low z && int_le z high && not (int_le (pos 0) z)) ≡ true → integer_within low high (Some z) ≡ Some (leaf (number (negative z)))
below_zero low high (pos n) i =
    absurd (true≢false (sym (le-leb 0 n (omega arith)) ∙ not-true (int_le (pos 0) (pos n)) (and_parts (int_le low (pos n) && int_le (pos n) high) (not (int_le (pos 0) (pos n))) i).1))
below_zero low high (negsuc n) i = rw (and_parts (int_le low (negsuc n) && int_le (negsuc n) high) true i).0 refl

pub back_integer : (low high : ℤ) → Back (integer low high)
back_integer low high (leaf null) i c = absurd (false≢true i)
back_integer low high (leaf (boolean b)) i c = absurd (false≢true i)
back_integer low high (leaf (number (unsigned n))) i c = rw i refl
back_integer low high (leaf (number (negative z))) i c = below_zero low high z i
back_integer low high (leaf (number (float x))) i c = absurd (false≢true i)
back_integer low high (leaf (string b)) i c = absurd (false≢true i)
back_integer low high (leaf (array b)) i c = absurd (false≢true i)
back_integer low high (leaf (object b)) i c = absurd (false≢true i)
back_integer low high absent i c = absurd (false≢true i)
back_integer low high (present p) i c = absurd (false≢true i)
back_integer low high (parts ps) i c = absurd (false≢true i)
back_integer low high (entry k p) i c = absurd (false≢true i)
back_integer low high (choice n p) i c = absurd (false≢true i)

pub back_bits : (high : ℕ) → Back (bits high)
back_bits high (leaf null) i c = absurd (false≢true i)
back_bits high (leaf (boolean b)) i c = absurd (false≢true i)
back_bits high (leaf (number (unsigned n))) i c = back_integer (pos 0) (pos high) (leaf (number (unsigned n))) c refl
back_bits high (leaf (number (negative z))) i c = absurd (false≢true i)
back_bits high (leaf (number (float x))) i c = absurd (false≢true i)
back_bits high (leaf (string b)) i c = absurd (false≢true i)
back_bits high (leaf (array b)) i c = absurd (false≢true i)
back_bits high (leaf (object b)) i c = absurd (false≢true i)
back_bits high absent i c = absurd (false≢true i)
back_bits high (present p) i c = absurd (false≢true i)
back_bits high (parts ps) i c = absurd (false≢true i)
back_bits high (entry k p) i c = absurd (false≢true i)
back_bits high (choice n p) i c = absurd (false≢true i)

-- ---- what may be absent

there : (f : Data → Option Plain) (d : Data) (p : Plain) → not (is_null d) ≡ true → f d ≡ Some p → read_maybe f d ≡ Some (present p)
there f null p n e = absurd (false≢true n)
there f _ p n e = ap (option_map present) e

there_or_truth : (f : Data → Option Plain) (d : Data) (p : Plain) → is_some (as_object d) ≡ true → f d ≡ Some p → read_or_truth f d ≡ Some (present p)
there_or_truth f (object b) p n e = ap (option_map present) e
there_or_truth f _ p n e = absurd (false≢true n)

pub present_back : (n : ℕ) (f : Data → Option Plain) (w : Plain → Data) (is cl : Plain → Bool) → BackBelow n f w is cl → (p : Plain) → plain_depth (present p) ≤ n → is p ≡ true
    → (not (is_null (w p)) && cl p) ≡ true → read_maybe f (w p) ≡ Some (present p)
present_back n f w is cl back p h i c =
    let t = and_parts (not (is_null (w p))) (cl p) c in
    let deep : plain_depth p ≤ n = omega arith in
    there f (w p) p t.0 (back p deep i t.1)

pub supported_back : (f : Data → Option Plain) (w : Plain → Data) (is cl : Plain → Bool) → ((p : Plain) → is p ≡ true → cl p ≡ true → f (w p) ≡ Some p) → (p : Plain) → is p ≡ true
    → is_some (as_object (w p)) ≡ true → cl p ≡ true → read_or_truth f (w p) ≡ Some (present p)
supported_back f w is cl back p i o c = there_or_truth f (w p) p o (back p i c)

pub maybe_back : (n : ℕ) (f : Data → Option Plain) (w : Plain → Data) (is cl : Plain → Bool) → BackBelow n f w is cl → (p : Plain) → plain_depth p ≤ n → is_maybe is p ≡ true → clear_maybe cl w p ≡ true
    → read_maybe f (write_maybe w p) ≡ Some p
maybe_back n f w is cl back absent h i c = refl
maybe_back n f w is cl back (present p) h i c = present_back n f w is cl back p h i c
maybe_back n f w is cl back _ h i c = absurd (false≢true i)
