-- A head that is known by its text.
use Rattle.std.proofs.Common.{◌≡◌, ◌<◌, ◌≤◌, ℕ, List, length, Bool, true, false, nat_lt, cond, Some, None, sym, ap, ◌∙◌, subst, arith}
use Rattle.lsp_frame.specs.Frames.{head_text}
use Rattle.lsp_frame.specs.Transitions.{at_frame, at_length, go, fault}
use Rattle.lsp_frame.specs.PlainHeads.{IsPlainHead}
use Rattle.lsp_frame.specs.declared.limits.Limits.{Limits}
use Rattle.lsp_frame.specs.declared.plain_head.PlainHead.{PlainHead}
use Rattle.lsp_frame.specs.declared.parse_error.ParseError.TheVariants.{BodyTooLong}
use Rattle.lsp_frame.specs.declared.decode_state.DecodeState.TheVariants.{Body, Skip}
use Rattle.lsp_frame.proofs.FramesRead.{plain_transition}
use Rattle.lsp_frame.proofs.transition.transition_at.Goals as goal

less : (a b : ℕ) → a < b → nat_lt a b ≡ true
less a b lt = grind arith

not_less : (a b : ℕ) → b ≤ a → nat_lt a b ≡ false
not_less a b le = grind arith

-- the body is waited for, or skipped where it is too long
plain : (limits : Limits) (head : PlainHead) (bytes : List ℕ) (b : Bool) → nat_lt limits.body head.len ≡ b → IsPlainHead head bytes → head.size ≤ limits.head
    → cond b (go (Some (fault BodyTooLong)) (Skip head.len) head.size) (go None (Body head.len) head.size) ≡ at_frame limits bytes
plain limits head bytes b decided is within =
    let short : length (head_text head.len) ≤ limits.head = subst (λ q. q ≤ limits.head) is.size within in
    ap (λ t. cond t (go (Some (fault BodyTooLong)) (Skip head.len) head.size) (go None (Body head.len) head.size)) (sym decided)
    ∙ ap (λ q. at_length limits q head.len) is.size
    ∙ sym (plain_transition limits head.len is.front.0 is.fits short)
    ∙ ap (at_frame limits) (sym is.front.1)

pub returns-then-limits-head-clause-value : goal.returns-then-limits-head-clause-value
returns-then-limits-head-clause-value c =
    rw c.in-Frame.is (plain c.args.settings.limits c.in-Some.head c.args.bytes.now true (less _ _ c.if-limits-head.true) c.in-Some.ensures.value c.in-Some.ensures.within)

pub returns-else-limits-head-clause-value : goal.returns-else-limits-head-clause-value
returns-else-limits-head-clause-value c =
    rw c.in-Frame.is (plain c.args.settings.limits c.in-Some.head c.args.bytes.now false (not_less _ _ c.if-limits-head.false) c.in-Some.ensures.value c.in-Some.ensures.within)
