-- What the code counts of the messages that an editor reads.
use Rattle.std.specs.Prelude.{◌≡◌, ℕ, ◌+◌, Bool, Option, Some, None, if◌then◌else◌}
use Rattle.lsp_frame.specs.Codec.{Item}
use Rattle.lsp_sample_run.specs.declared.bulk.Tally.{Tally}
use Rattle.lsp_sample_run.specs.Bulk.{is_reply, is_error, is_own}

abbrev pub one : Bool → ℕ
one b = if b then 1 else 0

abbrev pub counts : (Item → Bool) → Option Item → ℕ
counts p None = 0
counts p (Some x) = one (p x)

-- with this item more, if there is one
pub record IsCounted (old : Tally) (item : Option Item) (new : Tally) : Type 0 where
  pub replies : new.replies ≡ old.replies + counts is_reply item
  pub errors : new.errors ≡ old.errors + counts is_error item
  pub own : new.own ≡ old.own + counts is_own item
