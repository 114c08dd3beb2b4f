-- What becomes of callers that were idle.
use Rattle.std.proofs.Common.{◌≡◌, ◌≤◌, ◌+◌, ◌*◌, ℕ, zero, suc, ◌<◌, List, [], ◌∷◌, ◌++◌, length, get_or, refl, sym, ap, ◌∙◌, subst, arith, append_assoc, append-nil}
use Rattle.std.proofs.Math.Nat.{suc-mul}
use Rattle.std.specs.List.{AllZip, sum_by, flat_map}
use Rattle.std.proofs.lemmas.List.Sums.{sum_by-cons, sum_by_push}
use Rattle.std.proofs.lemmas.List.Concat.{flat_map-cons}
use Rattle.atomic_table.specs.Seated.{TableId}
use Rattle.lsp_desk.specs.Trace.{DeskEntry}
use Rattle.lsp_shared.specs.Desks.{rested_desk, rested_view}
use Rattle.lsp_callers.specs.declared.caller.Idle.{Idle}
use Rattle.lsp_callers.specs.declared.caller.Heard.{Heard}
use Rattle.lsp_callers.specs.Said.{said_by, said_by_all}
use Rattle.lsp_callers.specs.Callers.{IsIdleOn, AreIdleFrom, IsHeardOn, AreHeardOn, ComesOf, said_of, all_said_of, messages_of, idle_shares, heard_shares, share_left}

pub all_heard : (desk : TableId) (messages n : ℕ) (callers : List Idle) (heard : List Heard) → AreIdleFrom desk n callers → AllZip (ComesOf messages) callers heard → AreHeardOn desk heard
all_heard desk messages n [] [] idle comes = tt
all_heard desk messages n [] (h ∷ heard) idle comes = absurd comes
all_heard desk messages n (c ∷ callers) [] idle comes = absurd comes
all_heard desk messages n (c ∷ callers) (h ∷ heard) idle comes =
    (subst (λ (d : TableId). IsHeardOn d h) idle.1.here comes.0.heard_on, all_heard desk messages (suc n) callers heard idle.2 comes.1)

pub all_said : (desk : TableId) (messages n : ℕ) (callers : List Idle) (heard : List Heard) → AreIdleFrom desk n callers → AllZip (ComesOf messages) callers heard
    → said_by_all n messages ++ all_said_of heard ≡ said_by_all (n + length callers) messages
all_said desk messages n [] [] idle comes = let same : n ≡ n + 0 = omega arith in append-nil (said_by_all n messages) ∙ ap (λ (k : ℕ). said_by_all k messages) same
all_said desk messages n [] (h ∷ heard) idle comes = absurd comes
all_said desk messages n (c ∷ callers) [] idle comes = absurd comes
all_said desk messages n (c ∷ callers) (h ∷ heard) idle comes =
    let number : h.number ≡ suc n = comes.0.numbered ∙ idle.0 in
    let here : said_of h ≡ said_by (suc n) messages = ap (λ (k : ℕ). said_by k h.messages) number ∙ ap (λ (k : ℕ). said_by (suc n) k) comes.0.counted in
    let later : suc n + length callers ≡ n + suc (length callers) = omega arith in
    ap (λ l. said_by_all n messages ++ l) (flat_map-cons said_of h heard)
    ∙ sym (append_assoc (said_by_all n messages) (said_of h) (all_said_of heard))
    ∙ ap (λ l. (said_by_all n messages ++ l) ++ all_said_of heard) here
    ∙ all_said desk messages (suc n) callers heard idle.2 comes.1
    ∙ ap (λ (k : ℕ). said_by_all k messages) later

pub all_shares : (messages : ℕ) (callers : List Idle) (heard : List Heard) → AllZip (ComesOf messages) callers heard → heard_shares heard ≡ idle_shares callers
all_shares messages [] [] comes = refl
all_shares messages [] (h ∷ heard) comes = absurd comes
all_shares messages (c ∷ callers) [] comes = absurd comes
all_shares messages (c ∷ callers) (h ∷ heard) comes =
    let rest = all_shares messages callers heard comes.1 in
    let one = sum_by-cons (λ (x : Heard). (rested_view x.seat).share) h heard in
    let two = sum_by-cons (λ (x : Idle). (rested_view x.seat).share) c callers in
    omega (arith, rest, one, two, comes.0.share)

pub all_counted : (messages : ℕ) (callers : List Idle) (heard : List Heard) → AllZip (ComesOf messages) callers heard → messages_of heard ≡ length callers * messages
all_counted messages [] [] comes = omega arith
all_counted messages [] (h ∷ heard) comes = absurd comes
all_counted messages (c ∷ callers) [] comes = absurd comes
all_counted messages (c ∷ callers) (h ∷ heard) comes =
    let rest = all_counted messages callers heard comes.1 in
    let one = sum_by-cons (λ (x : Heard). x.messages) h heard in
    let many : suc (length callers) * messages ≡ length callers * messages + messages = suc-mul (length callers) messages in
    omega (arith, rest, one, comes.0.counted, many)

-- ---- a list by its places

pub idle_at : (desk : TableId) (n i : ℕ) (x : Idle) (callers : List Idle) → AreIdleFrom desk n callers → i < length callers → x ≡ get_or callers i x → IsIdleOn desk x
idle_at desk n i x [] idle less is = absurd (omega (arith, less))
idle_at desk n zero x (c ∷ callers) idle less is = subst (IsIdleOn desk) (sym is) idle.1
idle_at desk n (suc i) x (c ∷ callers) idle less is = idle_at desk (suc n) i x callers idle.2 (omega (arith, less)) is

pub gives_all : (messages : ℕ) (callers : List Idle) (heard : List Heard) → length heard ≡ length callers
    → ((i : ℕ) (c : Idle) (h : Heard) → i < length callers → ComesOf messages (get_or callers i c) (get_or heard i h)) → AllZip (ComesOf messages) callers heard
gives_all messages [] [] long each = tt
gives_all messages [] (h ∷ heard) long each = absurd (omega (arith, long))
gives_all messages (c ∷ callers) [] long each = absurd (omega (arith, long))
gives_all messages (c ∷ callers) (h ∷ heard) long each =
    (each 0 c h (omega arith), gives_all messages callers heard (omega (arith, long)) (λ i d k less. each (suc i) d k (omega (arith, less))))

pub idle_push : (desk : TableId) (n : ℕ) (callers : List Idle) (c : Idle) → AreIdleFrom desk n callers → c.number ≡ suc (n + length callers) → IsIdleOn desk c → AreIdleFrom desk n (callers ++ c ∷ [])
idle_push desk n [] c idle number is = let same : suc (n + 0) ≡ suc n = omega arith in (number ∙ same, is, tt)
idle_push desk n (d ∷ callers) c idle number is =
    let same : suc (n + suc (length callers)) ≡ suc (suc n + length callers) = omega arith in
    (idle.0, idle.1, idle_push desk (suc n) callers c idle.2 (number ∙ same) is)

-- ---- shares

pub enough_left : (n : ℕ) → n < 4 → 2 ≤ share_left n
enough_left zero less = omega arith
enough_left (suc zero) less = omega arith
enough_left (suc (suc zero)) less = omega arith
enough_left (suc (suc (suc zero))) less = omega arith
enough_left (suc (suc (suc (suc n)))) less = absurd (omega (arith, less))

pub shares_push : (callers : List Idle) (c : Idle) → idle_shares (callers ++ c ∷ []) ≡ idle_shares callers + (rested_view c.seat).share
shares_push callers c = sum_by_push (λ (x : Idle). (rested_view x.seat).share) callers c
