-- What a server that served the frame of an `initialize` hands back.
use Rattle.std.proofs.Common.{◌≡◌, ◌≤◌, ℕ, List, [], ◌++◌, map, refl, sym, ap, ◌∙◌, subst, Bool, Option, Some, None}
use Rattle.std.specs.Prelude.{⊤}
use Rattle.lsp_desk.specs.Meaning.{Grown}
use Rattle.lsp_desk.specs.Trace.{entries_of, places}
use Rattle.lsp_frame.specs.declared.limits.Limits.{Limits}
use Rattle.lsp_frame.specs.declared.settings.CodecSettings.{CodecSettings}
use Rattle.lsp_frame.specs.Codec.{Floats, Refused, default_limits, default_settings}
use Rattle.lsp_session.specs.Item.{ItemData}
use Rattle.lsp_session.specs.Run.{Step, Run, served}
use Rattle.lsp_server.specs.Course.{Setting, course, opening_view, picked}
use Rattle.lsp_server.specs.Items.{stream_items}
use Rattle.lsp_server.specs.Served.{CallBytes, ServedView, IsServed}
use Rattle.lsp_shared.specs.Rule.{entry_of}
use Rattle.lsp_shared.specs.Seats.{entries_seen}
use Rattle.lsp_shared.proofs.Calling.{kin_same}
use Rattle.lsp_callers.specs.declared.tallied.Tallied.{Tallied}
use Rattle.lsp_callers.specs.Made.{KeepsSeat}
use Rattle.lsp_callers.specs.Tallies.{tallied_meaning, tallied_view, tallied_desk}
use Rattle.lsp_session.specs.declared.table.Kind.{Kind}
use Rattle.lsp_service.specs.declared.service.LspService.{LspService}
use Rattle.lsp_service.specs.Service.{KeptTask, service_semantics}
use Rattle.lsp_sample_server.specs.declared.task.SampleTask.{SampleTask}
use Rattle.lsp_sample_server.specs.declared.sample.Sample.{Sample}
use Rattle.lsp_sample_server.specs.Sample.{sample_semantics}
use Rattle.lsp_sample_server.specs.Sessions.{IsSampleService, in_order, service_of_sample}
use Rattle.lsp_talk.proofs.AgainLemmas.{run_again}
use Rattle.lsp_talk.specs.Hello.{hello_bytes, hello_items, HasServedHello}

or_none : {X : Type 0} → Option (List X) → List X
or_none None = []
or_none (Some l) = l

pub some_same : {X : Type 0} (a b : List X) → Some a ≡ Some b → a ≡ b
unfolding or_none
some_same a b e = ap or_none e

codec_same : (l : Limits) (f : Floats) → l ≡ default_limits → f ≡ Refused → record { limits = l; floats = f } ≡ default_settings
codec_same l f limits floats = rw (limits, floats) refl

module _ {R : Type 0} where
  -- the setting of a server of this service
  abbrev pub hello_setting : LspService Sample → Tallied R → ℕ → ℕ → ℕ → Limits → Floats → Bool → Setting (LspService Sample) (Tallied R) ⊤
  hello_setting service desk max wait rounds limits floats empty_params =
      record { service = service; desk = desk; max = max; wait = wait; rounds = rounds; limits = limits; floats = floats; empty_params = empty_params; pick = tt }

  -- H are the service's tasks in the code
  pub hello_served : {H : Type 0} (task : H → SampleTask) (kind : H → Kind) (service : LspService Sample) (desk : Tallied R) (max wait rounds : ℕ) (limits : Limits) (floats : Floats) (empty_params : Bool) (call : CallBytes)
      (view : ServedView (LspService Sample) (Tallied R)) (pick : ⊤)
      → IsServed (course (service_semantics sample_semantics task kind) tallied_meaning in_order (hello_setting service desk max wait rounds limits floats empty_params)) call view pick
      → IsSampleService service → call.bytes ≡ hello_bytes → 1 ≤ max → 1 ≤ rounds → limits ≡ default_limits → floats ≡ Refused → (tallied_view desk).seen ≡ [] → (tallied_view desk).made ≡ [] → HasServedHello (tallied_view view.desk)
  hello_served task kind service desk max wait rounds limits floats empty_params call view pick h is_sample bytes_are some some_rounds limits_are floats_are seen made =
      let ran = h.ran in
      let trace = ran.effect.trace in
      let setting = hello_setting service desk max wait rounds limits floats empty_params in
      let find = service_of_sample.find service in
      let items_are : served find (stream_items (record { limits = limits; floats = floats }) call.bytes) ≡ hello_items service =
      ap (λ (k : CodecSettings). served find (stream_items k call.bytes)) (codec_same limits floats limits_are floats_are)
      ∙ ap (λ b. served find (stream_items default_settings b)) bytes_are in
      let none : entries_seen (tallied_view desk) ≡ [] = ap (λ l. map entry_of l) seen in
      let history : entries_seen (tallied_view view.desk) ≡ entries_seen (tallied_view desk) ++ entries_of trace = some_same _ _ ran.grows.history in
      record {
        trace = trace;
        serves = record {
          rounds = rounds;
          some = some_rounds;
          service = service;
          is_sample = is_sample;
          out = ran.effect.out;
          last = h.last.session;
          serves = record {
            max = max;
            wait = wait;
            empty_params = empty_params;
            some = some;
            pick = tt;
            then = h.last.pick;
            runs = subst (λ (l : List ItemData). Run (Step service_of_sample in_order rounds) (picked (opening_view setting) tt) l ran.effect h.last) items_are
                (run_again (service_semantics sample_semantics task kind) (λ (t : KeptTask SampleTask). service_of_sample.show_task t) in_order rounds (picked (opening_view setting) tt) _ ran.effect h.last ran.run);
          };
        };
        seen = history ∙ ap (λ l. l ++ entries_of trace) none;
        made = ran.grows.own [] (ap Some none) ∙ ap (λ l. l ++ places 0 trace) made;
      }

  pub keeps_grown : (desk old new : Tallied R) → old ≡ desk → Grown tallied_meaning old new → KeepsSeat (tallied_desk desk) (tallied_view desk) (tallied_desk new) (tallied_view new)
  keeps_grown desk old new same grown =
      let kin = kin_same (tallied_desk new) (tallied_desk old) (tallied_view new).share (tallied_view old).share grown.grows.kin in
      subst (λ (t : Tallied R). KeepsSeat (tallied_desk t) (tallied_view t) (tallied_desk new) (tallied_view new)) same
      (record { here = kin.0; share = kin.1; owner = grown.grows.chief })

  -- the desk that was handed in
  pub keeps_same : (desk new : Tallied R) → new ≡ desk → KeepsSeat (tallied_desk desk) (tallied_view desk) (tallied_desk new) (tallied_view new)
  keeps_same desk new same = subst (λ (t : Tallied R). KeepsSeat (tallied_desk desk) (tallied_view desk) (tallied_desk t) (tallied_view t)) (sym same) (record { here = refl; share = refl; owner = refl })
