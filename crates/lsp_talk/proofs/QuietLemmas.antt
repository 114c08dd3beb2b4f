-- Entries that send nothing, and hand out only what a `Take` does.
use Rattle.std.proofs.Common.{◌≡◌, ◌*◌, ℕ, zero, suc, List, [], ◌∷◌, ◌++◌, length, refl, ◌∙◌, arith, length-append}
use Rattle.std.specs.List.{sum_by}
use Rattle.std.proofs.lemmas.List.Sums.{sum_by-cons, sum_by-append}
use Rattle.lsp_rpc.specs.Message.{RequestData}
use Rattle.lsp_desk.specs.Flow.{put_by, taken_by, all_put, all_taken}
use Rattle.lsp_desk.specs.Trace.{DeskEntry}
use Rattle.lsp_session.specs.declared.life_check.LifeChange.{LifeChange}
use Rattle.lsp_session.specs.declared.life_check.LifeChange.TheVariants.{Stays, Rises, Falls}
use Rattle.lsp_session.specs.Run.{took, changing}
use Rattle.lsp_callers.specs.Said.{entry_said, said_by, said_by_all}
use Rattle.lsp_callers.specs.Counted.{one_sent, handed_out}

-- how many messages an entry puts in and takes out
abbrev pub puts : DeskEntry → ℕ
puts e = length (put_by e.call e.reply)

abbrev pub takes : DeskEntry → ℕ
takes e = length (taken_by e.reply)

abbrev pub says : DeskEntry → ℕ
says e = one_sent e.reply

abbrev pub hands : DeskEntry → ℕ
hands e = handed_out e.call e.reply

pub record IsQuiet (e : DeskEntry) : Type 0 where
  pub silent : says e ≡ 0
  pub puts_none : puts e ≡ 0
  pub takes_handed : takes e ≡ hands e

abbrev pub AreQuiet : List DeskEntry → Type 0
AreQuiet [] = Unit {0}
AreQuiet (e ∷ es) = IsQuiet e × AreQuiet es

pub AreQuiet-append : (a b : List DeskEntry) → AreQuiet a → AreQuiet b → AreQuiet (a ++ b)
AreQuiet-append [] b p q = q
AreQuiet-append (e ∷ a) b p q = (p.0, AreQuiet-append a b p.1 q)

pub took_quiet : (messages : List RequestData) → IsQuiet (took messages)
took_quiet messages = record { silent = refl; puts_none = refl; takes_handed = refl }

pub changing_quiet : (change : LifeChange) → AreQuiet (changing change)
changing_quiet Stays = tt
changing_quiet (Rises life) = (record { silent = refl; puts_none = refl; takes_handed = refl }, tt)
changing_quiet Falls = (record { silent = refl; puts_none = refl; takes_handed = refl }, tt)

-- ---- sums over entries

pub sum_puts : (h : List DeskEntry) → length (all_put h) ≡ sum_by puts h
sum_puts [] = refl
sum_puts (e ∷ h) = let rest = sum_puts h in let both = length-append (put_by e.call e.reply) (all_put h) in let one = sum_by-cons puts e h in omega (arith, rest, both, one)

pub sum_takes : (h : List DeskEntry) → length (all_taken h) ≡ sum_by takes h
sum_takes [] = refl
sum_takes (e ∷ h) = let rest = sum_takes h in let both = length-append (taken_by e.reply) (all_taken h) in let one = sum_by-cons takes e h in omega (arith, rest, both, one)

-- quiet ones say and put nothing, and hand out what is taken
pub quiet_says : (h : List DeskEntry) → AreQuiet h → sum_by says h ≡ 0
quiet_says [] q = refl
quiet_says (e ∷ h) q = let rest = quiet_says h q.1 in let one = sum_by-cons says e h in omega (arith, rest, one, q.0.silent)

pub quiet_puts : (h : List DeskEntry) → AreQuiet h → sum_by puts h ≡ 0
quiet_puts [] q = refl
quiet_puts (e ∷ h) q = let rest = quiet_puts h q.1 in let one = sum_by-cons puts e h in omega (arith, rest, one, q.0.puts_none)

pub quiet_takes : (h : List DeskEntry) → AreQuiet h → sum_by takes h ≡ sum_by hands h
quiet_takes [] q = refl
quiet_takes (e ∷ h) q = let rest = quiet_takes h q.1 in let one = sum_by-cons takes e h in let two = sum_by-cons hands e h in omega (arith, rest, one, two, q.0.takes_handed)

-- ---- what the callers say

-- each says and puts in one message, and takes out none
record Says (f : DeskEntry → ℕ) (n : ℕ) : Type 0 where
  each : (c m : ℕ) → f (entry_said c m) ≡ n

said_one : (f : DeskEntry → ℕ) (n c m : ℕ) → Says f n → sum_by f (said_by c m) ≡ m * n
said_one f n c zero each = omega arith
said_one f n c (suc m) each =
    let rest = said_one f n c m each in
    let both = sum_by-append f (said_by c m) (entry_said c (suc m) ∷ []) in
    let last = sum_by-cons f (entry_said c (suc m)) [] in
    let one = each.each c (suc m) in
    grind (arith, rest, both, last, one)

said_sum : (f : DeskEntry → ℕ) (n c m : ℕ) → Says f n → sum_by f (said_by_all c m) ≡ c * (m * n)
said_sum f n zero m each = omega arith
said_sum f n (suc c) m each =
    let rest = said_sum f n c m each in
    let both = sum_by-append f (said_by_all c m) (said_by (suc c) m) in
    let last = said_one f n (suc c) m each in
    grind (arith, rest, both, last)

pub said_says : (c m : ℕ) → sum_by says (said_by_all c m) ≡ c * m
said_says c m = said_sum says 1 c m (record { each = λ _ _. refl }) ∙ grind arith

pub said_puts : (c m : ℕ) → sum_by puts (said_by_all c m) ≡ c * m
said_puts c m = said_sum puts 1 c m (record { each = λ _ _. refl }) ∙ grind arith

pub said_takes : (c m : ℕ) → sum_by takes (said_by_all c m) ≡ 0
said_takes c m = said_sum takes 0 c m (record { each = λ _ _. refl }) ∙ grind arith

pub said_hands : (c m : ℕ) → sum_by hands (said_by_all c m) ≡ 0
said_hands c m = said_sum hands 0 c m (record { each = λ _ _. refl }) ∙ grind arith
