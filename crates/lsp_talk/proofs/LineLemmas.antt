-- The line of a talk.
use Rattle.std.proofs.Common.{◌≡◌, ◌*◌, ◌%◌, ◌^◌, ◌<◌, ◌≤◌, ℕ, zero, suc, List, [], refl, sym, ap, ◌∙◌, subst, arith, append-nil, Option, Some, None}
use Rattle.std.specs.Io.KnownBytes.{Appends}
use Rattle.lsp_desk.specs.Trace.{DeskEntry}
use Rattle.lsp_server.specs.Written.{IsPrefixOf}
use Rattle.lsp_callers.specs.Counted.{sent_in, delivered_in}
use Rattle.lsp_talk.specs.Talk.{HasTalked, talk_line, WroteLine, WroteLinePart}

appends_none : (t : Option (List ℕ)) → Appends t t []
appends_none None = tt
appends_none (Some xs) = sym (append-nil xs)

-- nothing was written
pub no_line : (h : List DeskEntry) (t : Option (List ℕ)) → WroteLinePart h t t
no_line h t = record { written = []; part = (talk_line (sent_in h) (delivered_in h), refl); writes = appends_none t }

pub no_part : (line : List ℕ) (t : Option (List ℕ)) → (written : List ℕ) × IsPrefixOf written line × Appends t t written
no_part line t = ([], (line, refl), appends_none t)

-- so few callers say so few messages
pub few_said : (clones messages : ℕ) → clones ≤ 4 → messages ≤ 1000 → clones * messages < 2 ^ 64
few_said zero m few less = omega (arith, less)
few_said (suc zero) m few less = omega (arith, less)
few_said (suc (suc zero)) m few less = omega (arith, less)
few_said (suc (suc (suc zero))) m few less = omega (arith, less)
few_said (suc (suc (suc (suc zero)))) m few less = omega (arith, less)
few_said (suc (suc (suc (suc (suc n))))) m few less = absurd (omega (arith, few))

small_rest : (n : ℕ) → n < 2 ^ 64 → n % 2 ^ 64 ≡ n
small_rest n less = omega (arith, less)

-- what was counted is what the history has
pub line_is : (clones messages sent delivered : ℕ) (h : List DeskEntry) → HasTalked clones messages h → clones * messages < 2 ^ 64 → sent ≡ clones * messages → delivered ≡ delivered_in h % 2 ^ 64
    → talk_line sent delivered ≡ talk_line (sent_in h) (delivered_in h)
line_is clones messages sent delivered h talked small sent_is delivered_is =
    let all : delivered ≡ delivered_in h = delivered_is ∙ ap (λ (n : ℕ). n % 2 ^ 64) talked.delivered ∙ small_rest (clones * messages) small ∙ sym talked.delivered in
    ap (λ (n : ℕ). talk_line n delivered) (sent_is ∙ sym talked.sent) ∙ ap (λ (n : ℕ). talk_line (sent_in h) n) all

pub wrote_line : (h : List DeskEntry) (line : List ℕ) (taken taken_after : Option (List ℕ)) → line ≡ talk_line (sent_in h) (delivered_in h) → Appends taken taken_after line → WroteLine h taken taken_after
wrote_line h line taken taken_after is wrote = subst (λ l. Appends taken taken_after l) is wrote

pub wrote_part : (h : List DeskEntry) (line : List ℕ) (taken taken_after : Option (List ℕ)) → line ≡ talk_line (sent_in h) (delivered_in h)
    → (written : List ℕ) × IsPrefixOf written line × Appends taken taken_after written → WroteLinePart h taken taken_after
wrote_part h line taken taken_after is wrote = record { written = wrote.0; part = subst (λ l. IsPrefixOf wrote.0 l) is wrote.1; writes = wrote.2 }
