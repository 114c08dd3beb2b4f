-- What a relay comes to with the bytes that it was given.
use Rattle.std.proofs.Common.{◌≡◌, ℕ, ◌≤◌, List, [], ◌++◌, length, refl, sym, ◌∙◌, ap, subst, append_assoc, zero-add}
use Rattle.std.specs.Prelude.{Option, Some}
use Rattle.std.specs.Io.KnownBytes.{Consumes, Appends}
use Rattle.std.proofs.lemmas.List.{append-nil}
use Rattle.lsp_frame.specs.Codec.{Item, At, start, more, items, items_at, told, told_at, default_limits}
use Rattle.lsp_server.specs.Items.{Decodes}
use Rattle.lsp_server.specs.Served.{call_bytes}
use Rattle.lsp_server.specs.Written.{IsPrefixOf}
use Rattle.lsp_server.proofs.KnownLemmas.{appends_none, appends_more, consumes_more, what_is_left, all_read}
use Rattle.lsp_server.proofs.CodecLemmas.{told_now, items_now, more_more}
use Rattle.lsp_proxy.specs.Proxy.{opening_state}
use Rattle.lsp_proxy.specs.Law.{sent_over, state_after}
use Rattle.lsp_relay.specs.Relay.{events, count_dropped, counted, sent_frames, relay_frames, IsRelayed, RelayWroteTold, RelayWrotePart, RelayPlace, opening_place, TookItems}
use Rattle.lsp_relay.specs.Relaying.{frames_from}
use Rattle.lsp_relay.proofs.ApartLemmas.{keeps_apart}
use Rattle.lsp_relay.proofs.EventLemmas.{events-append, over_both}
use Rattle.lsp_relay.proofs.TookLemmas.{took_more, took_after}

-- a relay has come this far with the bytes that it was given
pub record Going (editors : ℕ) (left0 left1 taken0 taken1 : Option (List ℕ)) (place : RelayPlace) (codec : At) : Type 0 where
  pub fed : List ℕ
  pub gives : Consumes left0 left1 fed
  pub given : List Item
  pub decodes : Decodes (more (start default_limits) fed) given codec
  -- all that waited was written
  pub written : List ℕ
  pub took : TookItems (opening_place editors) given (record place { waiting = written })
  pub empty : place.waiting ≡ []
  pub writes : Appends taken0 taken1 written
  pub told : told_at codec ≡ []

module _ (editors : ℕ) (left0 left1 taken0 taken1 : Option (List ℕ)) (place : RelayPlace) (codec : At) (going : Going editors left0 left1 taken0 taken1 place codec) where
  -- the items given are those that the bytes read tell
  told_is : told default_limits going.fed ≡ going.given
  told_is = told_now (more (start default_limits) going.fed) codec going.given going.decodes ∙ ap (λ l. going.given ++ l) going.told ∙ append-nil going.given

  written_is : going.written ≡ relay_frames editors going.given
  written_is = going.took.waiting

-- ---- what it comes to, where the bytes are told

module _ (editors : ℕ) (bytes : List ℕ) (left1 taken0 taken1 : Option (List ℕ)) (place : RelayPlace) (codec : At) (going : Going editors (Some bytes) left1 taken0 taken1 place codec) where
  told_given : told default_limits going.fed ≡ going.given
  told_given = told_is editors (Some bytes) left1 taken0 taken1 place codec going

  frames_told : relay_frames editors (told default_limits going.fed) ≡ going.written
  frames_told = ap (relay_frames editors) told_given ∙ sym (written_is editors (Some bytes) left1 taken0 taken1 place codec going)

  -- between two reads what was written is exact
  pub exact : RelayWroteTold editors (call_bytes bytes left1 taken0 taken1)
  exact = record {
    read = going.fed;
    gives = going.gives;
    writes = subst (λ l. Appends taken0 taken1 l) (sym frames_told) going.writes;
  }

  -- the frames over items that go on
  frames_on : (ys : List Item) → relay_frames editors (going.given ++ ys) ≡ going.written ++ sent_frames (sent_over (events editors ys) place.state)
  frames_on ys =
      ap (λ l. sent_frames (sent_over l (opening_state editors))) (events-append editors going.given ys)
      ∙ over_both (events editors going.given) (events editors ys) (opening_state editors)
      ∙ ap (λ l. l ++ sent_frames (sent_over (events editors ys) (state_after (events editors going.given) (opening_state editors)))) (sym (written_is editors (Some bytes) left1 taken0 taken1 place codec going))
      ∙ ap (λ s. going.written ++ sent_frames (sent_over (events editors ys) s)) (sym going.took.state)

  -- ---- the end of input

  pub at_end : (left2 : Option (List ℕ)) → left1 ≡ Some [] → left2 ≡ Some [] → (last : RelayPlace) → TookItems place (items_at codec) last → events place.editors (items_at codec) ≡ []
      → IsRelayed editors (call_bytes bytes left2 taken0 taken1) last.passed last.dropped
  at_end left2 empty after last took silent =
      let read : bytes ≡ going.fed = all_read bytes going.fed left1 going.gives empty in
      let whole : items default_limits bytes ≡ going.given ++ items_at codec =
      ap (items default_limits) read ∙ items_now (more (start default_limits) going.fed) codec going.given going.decodes in
      let all = took_more (opening_place editors) (record place { waiting = going.written }) (record last { waiting = going.written ++ last.waiting }) going.given (items_at codec) going.took
      (took_after place last (items_at codec) going.written going.empty took) in
      let quiet : events editors (items_at codec) ≡ [] = ap (λ n. events n (items_at codec)) (sym going.took.editors) ∙ silent in
      let frames_are : going.written ≡ relay_frames editors (items default_limits bytes) =
      sym (append-nil going.written) ∙ ap (λ l. going.written ++ sent_frames (sent_over l place.state)) (sym quiet) ∙ sym (frames_on (items_at codec)) ∙ ap (relay_frames editors) (sym whole) in
      record {
        ends = after;
        writes = subst (λ l. Appends taken0 taken1 l) frames_are going.writes;
        passed_is = all.passed ∙ ap counted (zero-add (length (events editors (going.given ++ items_at codec)))) ∙ ap (λ l. counted (length (events editors l))) (sym whole);
        dropped_is = all.dropped ∙ ap counted (zero-add (count_dropped editors (going.given ++ items_at codec))) ∙ ap (λ l. counted (count_dropped editors l)) (sym whole);
        apart = keeps_apart editors (events editors (items default_limits bytes));
      }

  -- ---- an error

  wrote : (left2 taken2 : Option (List ℕ)) (piece : List ℕ) (size : ℕ) → Consumes left1 left2 piece → length piece ≤ size → (late : List ℕ) → Appends taken1 taken2 late
      → ((rest : List ℕ) → IsPrefixOf late (sent_frames (sent_over (events editors (items_at (more codec (piece ++ rest)))) place.state)))
      → RelayWrotePart editors (call_bytes bytes left2 taken0 taken2) size
  wrote left2 taken2 piece size gives short late writes part =
      let read = consumes_more (Some bytes) left1 left2 going.fed piece going.gives gives in
      let left = what_is_left bytes left2 (going.fed ++ piece) read in
      let coming = items_at (more codec (piece ++ left.0)) in
      let whole : items default_limits bytes ≡ going.given ++ coming =
      ap (items default_limits) (left.2 ∙ append_assoc going.fed piece left.0)
      ∙ ap items_at (sym (more_more (start default_limits) going.fed (piece ++ left.0))) ∙ going.decodes.items (piece ++ left.0) in
      let begins = part left.0 in
      record {
        early = going.fed;
        piece = piece;
        gives = read;
        short = short;
        written = going.written ++ late;
        whole = (late, ap (λ l. l ++ late) frames_told);
        part = (begins.0, append_assoc going.written late begins.0 ∙ ap (λ l. going.written ++ l) begins.1 ∙ sym (frames_on coming) ∙ ap (relay_frames editors) (sym whole));
        writes = appends_more taken0 taken1 taken2 going.written late going.writes writes;
      }

  -- nothing of the piece was written
  pub wrote_before : (left2 : Option (List ℕ)) (piece : List ℕ) (size : ℕ) → Consumes left1 left2 piece → length piece ≤ size → RelayWrotePart editors (call_bytes bytes left2 taken0 taken1) size
  wrote_before left2 piece size gives short =
      wrote left2 taken1 piece size gives short [] (appends_none taken1)
      (λ rest. (sent_frames (sent_over (events editors (items_at (more codec (piece ++ rest)))) place.state), refl))

  -- some of what the proxy sends for the piece was written
  pub wrote_within : (left2 taken2 : Option (List ℕ)) (piece : List ℕ) (size : ℕ) → Consumes left1 left2 piece → length piece ≤ size → (written : List ℕ)
      → ((rest : List ℕ) → IsPrefixOf written (frames_from place (items_at (more (more codec piece) rest)))) → Appends taken1 taken2 written → RelayWrotePart editors (call_bytes bytes left2 taken0 taken2) size
  wrote_within left2 taken2 piece size gives short written part writes =
      wrote left2 taken2 piece size gives short written writes
      (λ rest. subst (λ n. IsPrefixOf written (sent_frames (sent_over (events n (items_at (more codec (piece ++ rest)))) place.state))) going.took.editors
      (subst (λ k. IsPrefixOf written (frames_from place (items_at k))) (more_more codec piece rest) (part rest)))
