use Rattle.std.proofs.Common.{◌-◌, ◌≤◌, length, take, sym, subst, ap, ◌∙◌, refl}
use Rattle.lsp_frame.specs.Kept.{IsLooked, IsClear}
use Rattle.lsp_frame.proofs.ClearPlaces.{looked_block, looked_all}
use Rattle.lsp_frame.proofs.transition.at_block.Goals as goal

pub returns-in-Some-clause-looked : goal.returns-in-Some-clause-looked
returns-in-Some-clause-looked c =
    let bs = c.args.bytes.now in
    let head = c.args.limits.head in
    let len = c.in-Some.len in
    let front = c.front-front.ensures in
    let clear : IsClear (take head bs) (len - 2) = subst (λ t. IsClear t (len - 2)) front c.in-Some.ensures.before in
    let fits : len ≤ length (take head bs) = subst (λ t. len ≤ length t) front c.in-Some.ensures.within.1 in
    subst (IsLooked bs) (sym c.saturating_sub.ensures) (looked_block bs head len fits clear)

pub returns-else-bytes-limits-clause-looked : goal.returns-else-bytes-limits-clause-looked
returns-else-bytes-limits-clause-looked c =
    let bs = c.args.bytes.now in
    let head = c.args.limits.head in
    let front = c.front-front.ensures in
    let clear : IsClear (take head bs) (length (take head bs)) = subst (λ t. IsClear t (length t)) front (c.in-None.ensures.all refl) in
    subst (IsLooked bs) (sym (c.saturating_sub-in-None.ensures ∙ ap (λ t. length t - 1) front)) (looked_all bs head clear)
