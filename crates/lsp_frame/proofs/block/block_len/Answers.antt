use Rattle.std.proofs.Common.{◌+◌, ◌-◌, ◌<◌, ◌≤◌, ℕ, List, length, take, drop, Some, None, sym, ap, ◌∙◌, subst, arith, length-drop}
use Rattle.std.proofs.lemmas.List.{take_rest}
use Rattle.memchr.specs.Find.{IsFirstByte, is_byte}
use Rattle.lsp_frame.specs.Blocks.{empty_line}
use Rattle.lsp_frame.proofs.ClearPlaces.{block_at_clear, clear_less, clear_more, clear_to_end, clear_to_last, at_line_end, no_block}
use Rattle.lsp_frame.proofs.block.block_len.Goals as goal

-- the bytes from a place on
abbrev rest : List ℕ → ℕ → List ℕ
rest bs place = take (length bs - place) (drop place bs)

line_ends : (bs : List ℕ) (place line : ℕ) → IsFirstByte (is_byte 10) (rest bs place) (Some line) → IsFirstByte (is_byte 10) (drop place bs) (Some line)
line_ends bs place line found = subst (λ (t : List ℕ). IsFirstByte (is_byte 10) t (Some line)) (take_rest bs place) found

no_line_ends : (bs : List ℕ) (place : ℕ) → IsFirstByte (is_byte 10) (rest bs place) None → IsFirstByte (is_byte 10) (drop place bs) None
no_line_ends bs place none = subst (λ (t : List ℕ). IsFirstByte (is_byte 10) t None) (take_rest bs place) none

fits_after : (bs : List ℕ) (m n : ℕ) → 0 < n → n ≤ length (rest bs m) → m < length bs
fits_after bs m n some fits = omega (arith, ap length (take_rest bs m), length-drop m bs)

pub returns-in_default-memchr-clause-value : goal.returns-in_default-memchr-clause-value
returns-in_default-memchr-clause-value c =
    let bs = c.args.bytes.now in
    no_block bs (length bs) (sym c.in_default.ensures.value) (omega arith) (clear_to_last bs c.lines.place (no_line_ends bs c.lines.place c.in_default-memchr.ensures) c.lines.invariant)

pub returns-in_default-memchr-clause-all : goal.returns-in_default-memchr-clause-all
returns-in_default-memchr-clause-all c = λ _.
    let bs = c.args.bytes.now in
    clear_to_last bs c.lines.place (no_line_ends bs c.lines.place c.in_default-memchr.ensures) c.lines.invariant

pub returns-in-Some-empty_line-clause-value : goal.returns-in-Some-empty_line-clause-value
returns-in-Some-empty_line-clause-value c =
    let bs = c.args.bytes.now in
    let line = c.in-Some-memchr.line in
    let m = c.lines.place + (line + 1) in
    let n = c.in-Some-empty_line.n in
    let found = line_ends bs c.lines.place line c.in-Some-memchr.ensures in
    let fits = fits_after bs m n c.in-Some-empty_line.ensures.within.0 c.in-Some-empty_line.ensures.within.2 in
    let clear = clear_to_end bs c.lines.place line m (omega arith) found.0.before c.lines.invariant in
    block_at_clear bs m n (sym c.in_default.ensures.value) fits clear
    (at_line_end bs c.lines.place line m (omega arith) found.1 (Some n) (ap empty_line (sym (take_rest bs m)) ∙ sym c.in-Some-empty_line.ensures.value))

pub returns-in-Some-empty_line-clause-before : goal.returns-in-Some-empty_line-clause-before
returns-in-Some-empty_line-clause-before c =
    let bs = c.args.bytes.now in
    let line = c.in-Some-memchr.line in
    let m = c.lines.place + (line + 1) in
    let n = c.in-Some-empty_line.n in
    let found = line_ends bs c.lines.place line c.in-Some-memchr.ensures in
    let clear = clear_to_end bs c.lines.place line m (omega arith) found.0.before c.lines.invariant in
    clear_less bs (m + n - 2) m (omega (arith, c.in-Some-empty_line.ensures.within.1)) clear

pub lines-preserved : goal.lines-preserved
lines-preserved c =
    let bs = c.args.bytes.now in
    let line = c.in-Some-memchr.line in
    let m = c.lines.place + (line + 1) in
    let found = line_ends bs c.lines.place line c.in-Some-memchr.ensures in
    let clear = clear_to_end bs c.lines.place line m (omega arith) found.0.before c.lines.invariant in
    clear_more bs m clear
    (at_line_end bs c.lines.place line m (omega arith) found.1 None (ap empty_line (sym (take_rest bs m)) ∙ sym c.in_default-empty_line.ensures.value))

pub returns-clause-value : goal.returns-clause-value
returns-clause-value c =
    no_block c.args.bytes.now (c.lines.place + 1) (sym c.in_default.ensures.value) (omega (arith, c.lines-test.false)) c.lines.invariant
