-- What a service is served with, and what the status says.
use Rattle.std.proofs.Common.{◌≡◌, ◌≤◌, ◌<◌, ◌-◌, ◌^◌, ◌⊎◌, ℕ, List, length, Bool, true, false, inl, inr, refl, sym, subst, arith}
use Rattle.std.specs.Prelude.{◌≢◌, Option, Some, None, IfSome, ⊤}
use Rattle.lsp_desk.specs.declared.plain.PlainDesk.{PlainDesk}
use Rattle.lsp_desk.specs.Meaning.{IsOpening}
use Rattle.lsp_desk.specs.Plain.{plain_meaning}
use Rattle.lsp_frame.specs.declared.limits.Limits.{Limits}
use Rattle.lsp_frame.specs.Codec.{Floats, Refused, Read, default_limits}
use Rattle.lsp_server.specs.Course as server_course
use Rattle.lsp_server.specs.Course.{course}
use Rattle.lsp_server.specs.Served.{CallBytes, call_bytes}
use Rattle.lsp_server.specs.SourceSink.{CountRose, IsFlushed}
use Rattle.lsp_session.specs.Semantics.{Semantics}
use Rattle.lsp_stdio.specs.Stdio.{in_order, EndsWith}
use Rattle.lsp_stdio.specs.Pumping.{PumpEndsWith}
use Rattle.lsp_stdio.proofs.StdioLemmas.{on_some}
use Rattle.lsp_sample_run.specs.declared.arguments.Setting.{Setting}
use Rattle.lsp_sample_run.specs.declared.arguments.Form.{Form}
use Rattle.lsp_sample_run.specs.Run.{sample_setting, docs_setting, NotBegun, ServedBy, PumpedBy, NeverUnread, ToldByStatus, ToldByForm}

-- ---- the session

-- the setting of a server that is new but for the calls and the rounds is that of the sample
pub sample_setting_is : {H : Type 0} (service : H) (d desk : PlainDesk) (m w : ℕ) (l : Limits) (f : Floats) (e : Bool) (setting : Setting)
    → d ≡ desk → m ≡ setting.max → w ≡ 1024 → l ≡ default_limits → f ≡ Refused → e ≡ false
    → (let s : server_course.Setting H PlainDesk ⊤ = record { service = service; desk = d; max = m; wait = w; rounds = setting.rounds; limits = l; floats = f; empty_params = e; pick = tt } in s) ≡ sample_setting setting service desk
sample_setting_is service d desk m w l f e setting desk_is max_is wait_is limits_are floats_are empty_is =
    rw (desk_is, max_is, wait_is, limits_are, floats_are, empty_is) refl

-- that of one which is new but for floats and empty params is that of the document server
pub docs_setting_is : {H : Type 0} (service : H) (d desk : PlainDesk) (m w : ℕ) (l : Limits) (f : Floats) (e : Bool)
    → d ≡ desk → m ≡ 4 → w ≡ 1024 → l ≡ default_limits → f ≡ Read → e ≡ true
    → (let s : server_course.Setting H PlainDesk ⊤ = record { service = service; desk = d; max = m; wait = w; rounds = 8; limits = l; floats = f; empty_params = e; pick = tt } in s) ≡ docs_setting service desk
docs_setting_is service d desk m w l f e desk_is max_is wait_is limits_are floats_are empty_is =
    rw (desk_is, max_is, wait_is, limits_are, floats_are, empty_is) refl

module _ {H C T : Type 0} (semantics : Semantics H C T) (IsNewService : H → Type 0) (setting_of : H → PlainDesk → server_course.Setting H PlainDesk ⊤) where
  pub served_by : (service : H) (desk : PlainDesk) (s : server_course.Setting H PlainDesk ⊤) (left : Option (List ℕ)) (call : List ℕ → CallBytes) (n : ℕ)
      → IsNewService service → IsOpening plain_meaning desk → s ≡ setting_of service desk
      → IfSome left (λ bytes. EndsWith (course semantics plain_meaning in_order s) (call bytes) n)
      → IfSome left (λ bytes. ServedBy semantics IsNewService setting_of (call bytes) n)
  served_by service desk s left call n new opening is = on_some left _ _ (λ bytes ends. inl (record {
    service = service;
    new = new;
    desk = desk;
    opening = opening;
    holds = subst (λ x. EndsWith (course semantics plain_meaning in_order x) (call bytes) n) is ends;
  }))

  pub pumped_by : (service : H) (desk : PlainDesk) (s : server_course.Setting H PlainDesk ⊤) (left : Option (List ℕ)) (call : List ℕ → CallBytes) (failed failed_after n : ℕ)
      → IsNewService service → IsOpening plain_meaning desk → s ≡ setting_of service desk
      → IfSome left (λ bytes. PumpEndsWith (course semantics plain_meaning in_order s) (call bytes) failed failed_after n)
      → IfSome left (λ bytes. PumpedBy semantics IsNewService setting_of (call bytes) failed failed_after n)
  pumped_by service desk s left call failed failed_after n new opening is = on_some left _ _ (λ bytes ends. inl (record {
    service = service;
    new = new;
    desk = desk;
    opening = opening;
    holds = subst (λ x. PumpEndsWith (course semantics plain_meaning in_order x) (call bytes) failed failed_after n) is ends;
  }))

-- where no service could be made, whatever was to hold else
pub not_begun : (left taken : Option (List ℕ)) (Begun : List ℕ → Type 0) → IfSome left (λ bytes. Begun bytes ⊎ NotBegun (call_bytes bytes left taken taken) 6)
not_begun None taken Begun = tt
not_begun (Some bytes) taken Begun = inr (record { memory = refl; unread = refl; unwritten = refl })

-- ---- the status

-- a desk of one's own is never spent
pub but_seven : (n : ℕ) → (n ≡ 7 → true ≡ false) → (n ≤ 1) ⊎ (n ≡ 6) ⊎ (n ≡ 7) → (n ≤ 1) ⊎ (n ≡ 6)
but_seven n alone (inl low) = inl low
but_seven n alone (inr (inl six)) = inr six
but_seven n alone (inr (inr seven)) = not_both (alone seven)
  where
    not_both : {A : Type 0} → true ≡ false → A
    not_both e = absurd (cc)

pub told_nothing : (bytes : Option (List ℕ)) (MayBeUnread : ℕ → Type 0) (reads writes : ℕ) (taken : Option (List ℕ)) (count : Option ℕ) → ToldByStatus bytes MayBeUnread reads reads writes writes taken count taken count 6
told_nothing bytes MayBeUnread reads writes taken count = record {
  flushed = λ four six. absurd (six refl);
  read = λ three. absurd (omega (arith, three));
  write = λ four. absurd (omega (arith, four));
  read_told = λ rose. absurd (omega (arith, rose));
  write_told = λ rose. absurd (omega (arith, rose));
  complete = every bytes;
}
  where
    every : (o : Option (List ℕ)) → IfSome o (λ all. length all < 2 ^ 64 - 1 → ¬ CountRose reads reads → ¬ CountRose writes writes → (6 ≤ 1) ⊎ (◌≡◌ {A = ℕ} 6 6))
    every None = tt
    every (Some all) = λ few read wrote. inr refl

-- what reads nothing: it wrote a line, or it stopped
pub told_unread : (reads writes writes_after : ℕ) (taken : Option (List ℕ)) (count : Option ℕ) (taken_after : Option (List ℕ)) (count_after : Option ℕ) (status : ℕ)
    → (status ≡ 0) ⊎ (status ≡ 4) ⊎ (status ≡ 6) ⊎ (status ≡ 7)
    → (status ≡ 0 → IsFlushed taken count → IsFlushed taken_after count_after) → (status ≡ 7 → IsFlushed taken count → IsFlushed taken_after count_after)
    → (status ≡ 4 → CountRose writes writes_after) → (writes < writes_after → status ≡ 4)
    → ToldByStatus None NeverUnread reads reads writes writes_after taken count taken_after count_after status
told_unread reads writes writes_after taken count taken_after count_after status known zero seven write write_told = record {
  flushed = λ four six. flushed known four six;
  read = λ three. absurd (omega (arith, three, known));
  write = write;
  read_told = λ rose. absurd (omega (arith, rose));
  write_told = write_told;
  complete = tt;
}
  where
    flushed : (status ≡ 0) ⊎ (status ≡ 4) ⊎ (status ≡ 6) ⊎ (status ≡ 7) → status ≢ 4 → status ≢ 6 → IsFlushed taken count → IsFlushed taken_after count_after
    flushed (inl is) four six = zero is
    flushed (inr (inl is)) four six = absurd (four is)
    flushed (inr (inr (inl is))) four six = absurd (six is)
    flushed (inr (inr (inr is))) four six = seven is

-- what reads and writes nothing
told_untouched : (reads writes : ℕ) (taken : Option (List ℕ)) (count : Option ℕ) → ToldByStatus None NeverUnread reads reads writes writes taken count taken count 2
told_untouched reads writes taken count = record {
  flushed = λ four six is. is;
  read = λ three. absurd (omega (arith, three));
  write = λ four. absurd (omega (arith, four));
  read_told = λ rose. absurd (omega (arith, rose));
  write_told = λ rose. absurd (omega (arith, rose));
  complete = tt;
}

-- ---- the forms

pub at_form : (o : Option Form) (form : Form) (P : Form → Type 0) → o ≡ Some form → P form → IfSome o P
at_form o form P is p = subst (λ x. IfSome x P) (sym is) p

pub told_at : (o : Option Form) (form : Form) (left : Option (List ℕ)) (reads reads_after writes writes_after : ℕ) (taken : Option (List ℕ)) (count : Option ℕ) (taken_after : Option (List ℕ)) (count_after : Option ℕ) (status : ℕ)
    → o ≡ Some form → ToldByForm (Some form) left reads reads_after writes writes_after taken count taken_after count_after status
    → ToldByForm o left reads reads_after writes writes_after taken count taken_after count_after status
told_at o form left reads reads_after writes writes_after taken count taken_after count_after status is =
    subst (λ x. ToldByForm x left reads reads_after writes writes_after taken count taken_after count_after status) (sym is)

pub at_none : (o : Option Form) (P : Form → Type 0) → o ≡ None → IfSome o P
at_none o P is = subst (λ x. IfSome x P) (sym is) tt

pub told_at_none : (o : Option Form) (left : Option (List ℕ)) (reads writes : ℕ) (taken : Option (List ℕ)) (count : Option ℕ) → o ≡ None
    → ToldByForm o left reads reads writes writes taken count taken count 2
told_at_none o left reads writes taken count is = subst (λ x. ToldByForm x left reads reads writes writes taken count taken count 2) (sym is) (told_untouched reads writes taken count)

-- where the sink didn't fail, no write did
pub unfailed : {C : Type 0} (n : ℕ) → (n ≡ 0) ⊎ (n ≡ 4) ⊎ (n ≡ 6) → (n ≡ 4 → C) → ¬ C → (n ≡ 0) ⊎ (n ≡ 6)
unfailed n (inl zero) failed none = inl zero
unfailed n (inr (inl four)) failed none = absurd (none (failed four))
unfailed n (inr (inr six)) failed none = inr six

pub never_seven : (n : ℕ) → (n ≡ 0) ⊎ (n ≡ 4) ⊎ (n ≡ 6) → (n ≡ 0) ⊎ (n ≡ 4) ⊎ (n ≡ 6) ⊎ (n ≡ 7)
never_seven n (inl zero) = inl zero
never_seven n (inr (inl four)) = inr (inl four)
never_seven n (inr (inr six)) = inr (inr (inl six))

pub not_seven : (n : ℕ) → (n ≡ 0) ⊎ (n ≡ 4) ⊎ (n ≡ 6) → n ≡ 7 → ⊥
not_seven n known seven = omega (arith, known, seven)
