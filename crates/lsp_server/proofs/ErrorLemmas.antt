-- Which errors a server may stop with.
use Rattle.std.proofs.Common.{◌≡◌, inl, inr, ℕ, ◌+◌, ◌<◌, ◌≤◌, List, length, refl, sym, ◌∙◌, subst, arith, Bool, true, false, true≢false}
use Rattle.std.specs.Prelude.{◌⊎◌, Option, Some, None, IfSome, Result, Ok, Err, OnErr}
use Rattle.lsp_desk.specs.Meaning.{Meaning, IsLawfulDesk, Grown}
use Rattle.lsp_server.specs.declared.step.ServeError.{ServeError}
use Rattle.lsp_server.specs.declared.step.ServeError.TheVariants.{ReadFault, WriteFault, ReadsSpent, DeskSpent, NoMemory}
use Rattle.lsp_server.specs.Errors.{IsInStep, SaysSpent, ComesUnfailed, ComesOfSink}

-- what holds anyway holds at an error
pub at_error : {A E X : Type 0} (r : Result A E) → X → OnErr r X
at_error (Ok x) holds = tt
at_error (Err e) holds = holds

-- a desk that others don't use is never spent
pub unspent_alone : {D : Type 0} (m : Meaning D) → IsLawfulDesk m → (old new : D) → Grown m old new → m.alone old ≡ true → m.spent new ≡ false
unspent_alone m laws old new grown alone = laws.alone_unspent new (grown.grows.alone ∙ alone)

pub never_alone : {D : Type 0} (m : Meaning D) → IsLawfulDesk m → (old new : D) → Grown m old new → (error : ServeError) → SaysSpent m new error
    → m.alone old ≡ true → (n : ℕ) → error ≡ DeskSpent n → ⊥
never_alone m laws old new grown (DeskSpent k) says alone n e = true≢false (sym says.1 ∙ unspent_alone m laws old new grown alone)
never_alone m laws old new grown error says alone n e = cc

shared_where_spent : {D : Type 0} (m : Meaning D) → IsLawfulDesk m → (old new : D) → Grown m old new → m.spent new ≡ true → (b : Bool) → m.alone old ≡ b → b ≡ false
shared_where_spent m laws old new grown spent true is = absurd (true≢false (sym spent ∙ unspent_alone m laws old new grown is))
shared_where_spent m laws old new grown spent false is = refl

-- what may come without a failure, and with reads left
pub unfailed : {D : Type 0} (m : Meaning D) → IsLawfulDesk m → (old new : D) → Grown m old new → (error : ServeError) → SaysSpent m new error
    → (read wrote : Type 0) (reads : ℕ) (bytes : List ℕ) (left : Option (List ℕ)) (told : (left ≡ None → ⊥))
    → (error ≡ ReadFault → read) → (error ≡ WriteFault → wrote) → (error ≡ ReadsSpent → IfSome left (λ rest. reads + length rest ≤ length bytes))
    → length bytes < reads → (read → ⊥) → (wrote → ⊥) → ComesUnfailed (m.alone old) error
unfailed m laws old new grown ReadFault says read wrote reads bytes left told r w s enough no_read no_write = no_read (r refl)
unfailed m laws old new grown WriteFault says read wrote reads bytes left told r w s enough no_read no_write = no_write (w refl)
unfailed m laws old new grown ReadsSpent says read wrote reads bytes None told r w s enough no_read no_write = told refl
unfailed m laws old new grown ReadsSpent says read wrote reads bytes (Some rest) told r w s enough no_read no_write =
    let few : reads + length rest ≤ length bytes = s refl in absurd (omega (arith, few, enough))
unfailed m laws old new grown (DeskSpent n) says read wrote reads bytes left told r w s enough no_read no_write = shared_where_spent m laws old new grown says.1 (m.alone old) refl
unfailed m laws old new grown NoMemory says read wrote reads bytes left told r w s enough no_read no_write = tt

-- ---- an error stands, or one of the sink takes its place

pub spent_stands : {D : Type 0} (m : Meaning D) (desk : D) (error result : ServeError) → (result ≡ error) ⊎ ComesOfSink result → SaysSpent m desk error → SaysSpent m desk result
spent_stands m desk error result (inl same) says = subst (SaysSpent m desk) (sym same) says
spent_stands m desk error (DeskSpent n) (inr sink) says = absurd sink
spent_stands m desk error result (inr sink) says = tt

pub step_stands : (error result : ServeError) → (result ≡ error) ⊎ ComesOfSink result → IsInStep error → IsInStep result
step_stands error result (inl same) in_step = subst IsInStep (sym same) in_step
step_stands error WriteFault (inr sink) in_step = tt
step_stands error NoMemory (inr sink) in_step = tt
step_stands error result (inr sink) in_step = absurd sink
