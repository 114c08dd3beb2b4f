-- Counting lines keeps the laws of consumers.
use Rattle.std.proofs.Common.{◌≡◌, ◌<◌, ◌+◌, ◌^◌, ℕ, List, [], ◌++◌, refl, sym, ◌∙◌, ap, subst, zero-add, arith}
use Rattle.std.specs.Prelude.{Some}
use Rattle.std.specs.Io.KnownBytes.{Consumes}
use Rattle.std.proofs.lemmas.List.Sums.{sum_by-append}
use Rattle.lsp_server.specs.declared.step.ServeError.{ServeError}
use Rattle.lsp_server.specs.Reads.{Moment}
use Rattle.lsp_server.specs.Consuming.{Given, piece, end, ConsumerOutcome, goes_on, done, stops, IsLawfulConsumer, bytes_of, IsTimely, TookLast}
use Rattle.lsp_server.proofs.KnownLemmas.{all_read, end_before}
use Rattle.tests_session.specs.Lines.{lines_in, counted}
use Rattle.tests_session.specs.LinesCounted.{Counts, counting}

counted_more : (n a b m k : ℕ) → m ≡ counted (n + a) → k ≡ counted (m + b) → k ≡ counted (n + (a + b))
counted_more n a b m k p q = omega (arith, p, q)

counted_none : (n : ℕ) → n < 2 ^ 64 → n ≡ counted (n + 0)
counted_none n h = omega arith

fits : (n m : ℕ) → m ≡ counted n → m < 2 ^ 64
fits n m is = omega (arith, is)

opens : (a b : ℕ) (given : Given) (written : List ℕ) → Counts a given goes_on written b → b < 2 ^ 64
opens a b (piece bytes) written p = fits (a + lines_in bytes) b p.0
opens a b end written p = absurd p

more : (a b c : ℕ) (xs ys ws vs : List ℕ) → Counts a (piece xs) goes_on ws b → Counts b (piece ys) goes_on vs c → Counts a (piece (xs ++ ys)) goes_on (ws ++ vs) c
more a b c xs ys ws vs p q = (
  counted_more a (lines_in xs) (lines_in ys) b c p.0 q.0 ∙ ap (λ n. counted (a + n)) (sym (sum_by-append _ xs ys)),
  ap (λ l. l ++ vs) p.1 ∙ q.1,
)

refused : (a b : ℕ) (given : Given) (outcome : ConsumerOutcome) (written : List ℕ) (e : ServeError) → Counts a given (stops e) written b
refused a b (piece bytes) outcome written e = tt
refused a b end outcome written e = tt

pub counting_lawful : {S : Type 0} (lines : S → ℕ) → IsLawfulConsumer (counting lines)
counting_lawful lines = record {
  opens = λ a b. opens (lines a) (lines b);
  none = λ a is. (counted_none (lines a) is, refl);
  more = λ a b c. more (lines a) (lines b) (lines c);
  refused = λ a b given outcome written e p sink. refused (lines a) (lines b) given outcome written e;
}

-- at the end all lines were counted
pub lines_counted : {S : Type 0} (lines : S → ℕ) (a b : S) (start now : Moment) (size : ℕ) (bytes : List ℕ) → lines a ≡ 0 → start.left ≡ Some bytes → TookLast (counting lines) a start now size done b
    → lines b ≡ counted (lines_in bytes)
lines_counted lines a b start now size bytes zero is t = at t.last t.gives t.timely t.did.does
  where
    at : (last : Given) → Consumes t.middle.left now.left (bytes_of last) → IsTimely last start.left now.left → Counts (lines t.mid) last done t.did.written (lines b) → lines b ≡ counted (lines_in bytes)
    at (piece xs) gives timely does = absurd does
    at end gives timely does =
        let after : now.left ≡ Some [] = rw is at timely in
        let read = subst (λ l. Consumes l t.middle.left t.took.read) is t.took.gives in
        let whole : bytes ≡ t.took.read = all_read bytes t.took.read t.middle.left read (end_before bytes t.took.read t.middle.left now.left read gives after) in
        does.0 ∙ t.took.did.does.0 ∙ ap (λ n. counted (n + lines_in t.took.read)) zero ∙ ap counted (zero-add (lines_in t.took.read)) ∙ ap (λ l. counted (lines_in l)) (sym whole)
