-- The reads that were noted, and their order among the writes.
use Rattle.std.proofs.Common.{◌≡◌, ◌≤◌, ◌<◌, ◌+◌, ℕ, List, [], ◌∷◌, ◌++◌, length, sym, ◌∙◌, ap, append_assoc, length-append, arith}
use Rattle.std.specs.Prelude.{◌≢◌, Option, Some, None}
use Rattle.std.specs.List.{AllByRecursion}
use Rattle.std.proofs.lemmas.List.{append-nil}
use Rattle.lsp_server.specs.SourceSink.{ReadsEnd}
use Rattle.lsp_server.specs.Reads.{Moment, Notes, Made, InOrder}

-- ---- what was noted

made_none : (old : Option (List Moment)) (P : List Moment → Type 0) → P [] → Made old old P
made_none None P p = tt
made_none (Some before) P p = ([], sym (append-nil before), p)

made_more : (old mid new : Option (List Moment)) (m : Moment) (P Q : List Moment → Type 0) → Made old mid P → Notes mid m new → ((made : List Moment) → P made → Q (made ++ m ∷ [])) → Made old new Q
made_more None mid new m P Q made notes f = tt
made_more (Some before) None new m P Q made notes f = absurd made
made_more (Some before) (Some between) None m P Q made notes f = absurd notes
made_more (Some before) (Some between) (Some after) m P Q made notes f =
    (made.0 ++ m ∷ [], notes ∙ ap (λ l. l ++ m ∷ []) made.1 ∙ append_assoc before made.0 (m ∷ []), f made.0 made.2)

made_map : (old new : Option (List Moment)) (P Q : List Moment → Type 0) → ((made : List Moment) → P made → Q made) → Made old new P → Made old new Q
made_map None new P Q f made = tt
made_map (Some before) None P Q f made = absurd made
made_map (Some before) (Some after) P Q f made = (made.0, made.1, f made.0 made.2)

-- ---- in order

-- a read that gave a byte did not find the end of input
pub not_at_end : (left : Option (List ℕ)) (n : ℕ) → ReadsEnd left n → (n ≡ 0 → ⊥) → left ≢ Some []
not_at_end None n ends some is = absurd (cc)
not_at_end (Some rest) n ends some is = let e : rest ≡ [] = cc in some (ends.1 e)

-- this holds as a read is made that finds more
abbrev pub FindsMore : (Moment → Type 0) → Moment → Type 0
FindsMore P m = P m × (m.left ≢ Some [])

in_order : (P : Moment → Type 0) (made : List Moment) → AllByRecursion (FindsMore P) made → InOrder P made
in_order P [] all = tt
in_order P (m ∷ []) all = all.0.0
in_order P (m ∷ later ∷ rest) all = (all.0.0, all.0.1, in_order P (later ∷ rest) all.1)

-- whatever the last one finds
in_order_last : (P : Moment → Type 0) (made : List Moment) (m : Moment) → AllByRecursion (FindsMore P) made → P m → InOrder P (made ++ m ∷ [])
in_order_last P [] m all last = last
in_order_last P (k ∷ []) m all last = (all.0.0, all.0.1, last)
in_order_last P (k ∷ later ∷ rest) m all last = (all.0.0, all.0.1, in_order_last P (later ∷ rest) m all.1 last)

all_more : (P : Moment → Type 0) (made : List Moment) (m : Moment) → AllByRecursion (FindsMore P) made → FindsMore P m → AllByRecursion (FindsMore P) (made ++ m ∷ [])
all_more P [] m all last = (last, tt)
all_more P (k ∷ rest) m all last = (all.0, all_more P rest m all.1 last)

-- ---- the reads of a call so far

-- so many, this holds at each, and each found more
abbrev pub Noted : (Moment → Type 0) → ℕ → List Moment → Type 0
Noted P count made = (length made ≡ count) × AllByRecursion (FindsMore P) made

module _ (P : Moment → Type 0) where
  pub noted_none : (old : Option (List Moment)) → Made old old (Noted P 0)
  noted_none old = made_none old (Noted P 0) (omega arith, tt)

  pub in_order_so_far : (old new : Option (List Moment)) (count : ℕ) → Made old new (Noted P count) → Made old new (InOrder P)
  in_order_so_far old new count noted = made_map old new (Noted P count) (InOrder P) (λ made so_far. in_order P made so_far.1) noted

  pub few_so_far : (old new : Option (List Moment)) (count reads : ℕ) → count ≤ reads → Made old new (Noted P count) → Made old new (λ made. length made ≤ reads)
  few_so_far old new count reads within noted = made_map old new (Noted P count) (λ made. length made ≤ reads) (λ made so_far. omega (arith, so_far.0, within)) noted

  pub fewer_so_far : (old new : Option (List Moment)) (count reads : ℕ) → count < reads → Made old new (Noted P count) → Made old new (λ made. length made < reads)
  fewer_so_far old new count reads within noted = made_map old new (Noted P count) (λ made. length made < reads) (λ made so_far. omega (arith, so_far.0, within)) noted

  pub all_made : (old new : Option (List Moment)) (count reads : ℕ) → count ≡ reads → Made old new (Noted P count) → Made old new (λ made. length made ≡ reads)
  all_made old new count reads is noted = made_map old new (Noted P count) (λ made. length made ≡ reads) (λ made so_far. so_far.0 ∙ is) noted

  module _ (old mid new : Option (List Moment)) (m : Moment) (count : ℕ) (noted : Made old mid (Noted P count)) (notes : Notes mid m new) where
    pub noted_more : FindsMore P m → Made old new (Noted P (count + 1))
    noted_more more = made_more old mid new m (Noted P count) (Noted P (count + 1)) noted notes
        (λ made so_far. (omega (arith, length-append made (m ∷ []), so_far.0), all_more P made m so_far.1 more))

    pub in_order_last_read : P m → Made old new (InOrder P)
    in_order_last_read holds = made_more old mid new m (Noted P count) (InOrder P) noted notes (λ made so_far. in_order_last P made m so_far.1 holds)

    pub few_reads : (reads : ℕ) → count + 1 ≤ reads → Made old new (λ made. length made ≤ reads)
    few_reads reads within = made_more old mid new m (Noted P count) (λ made. length made ≤ reads) noted notes (λ made so_far. omega (arith, length-append made (m ∷ []), so_far.0, within))

-- what follows at each read
in_order_map : (P Q : Moment → Type 0) → ((m : Moment) → P m → Q m) → (made : List Moment) → InOrder P made → InOrder Q made
in_order_map P Q f [] all = tt
in_order_map P Q f (m ∷ []) all = f m all
in_order_map P Q f (m ∷ later ∷ rest) all = (f m all.0, all.1, in_order_map P Q f (later ∷ rest) all.2)

pub made_in_order : (old new : Option (List Moment)) (P Q : Moment → Type 0) → ((m : Moment) → P m → Q m) → Made old new (InOrder P) → Made old new (InOrder Q)
made_in_order old new P Q f made = made_map old new (InOrder P) (InOrder Q) (in_order_map P Q f) made
