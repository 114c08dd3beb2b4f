-- Items that were taken, one list after another.
use Rattle.std.proofs.Common.{◌≡◌, ◌≢◌, ◌<◌, ◌+◌, ◌^◌, ℕ, List, [], ◌∷◌, ◌++◌, length, refl, sym, ◌∙◌, ap, subst, append_assoc, length-append, arith, Some, None}
use Rattle.std.proofs.lemmas.List.{append-nil}
use Rattle.lsp_frame.specs.Codec.{Item, At, told_at}
use Rattle.lsp_server.specs.Items.{Decodes}
use Rattle.lsp_server.proofs.CodecLemmas.{decodes_nothing, decodes_more, told_now}
use Rattle.lsp_proxy.specs.Law.{Event, react, sent_over, state_after}
use Rattle.lsp_relay.specs.Notes.{event_of}
use Rattle.lsp_relay.specs.Relay.{events, count_dropped, counted, sent_frames, RelayPlace, TookItems, TookTold}
use Rattle.lsp_relay.proofs.EventLemmas.{events-append, count_dropped-append, state_after-append, over_both}

counted_more : (n a b m k : ℕ) → m ≡ counted (n + a) → k ≡ counted (m + b) → k ≡ counted (n + (a + b))
counted_more n a b m k p q = omega (arith, p, q)

pub counted_none : (n : ℕ) → n < 2 ^ 64 → n ≡ counted (n + 0)
counted_none n h = omega arith

-- the counts fit 64 bits
pub record IsCounted (p : RelayPlace) : Type 0 where
  pub passed : p.passed < 2 ^ 64
  pub dropped : p.dropped < 2 ^ 64

pub took_none : (p : RelayPlace) → IsCounted p → TookItems p [] p
took_none p fits = record {
  editors = refl;
  state = refl;
  passed = counted_none p.passed fits.passed;
  dropped = counted_none p.dropped fits.dropped;
  waiting = sym (append-nil p.waiting);
}

pub took_more : (a b c : RelayPlace) (xs ys : List Item) → TookItems a xs b → TookItems b ys c → TookItems a (xs ++ ys) c
took_more a b c xs ys p q =
    let same : events a.editors ys ≡ events b.editors ys = ap (λ n. events n ys) (sym p.editors) in
    let lost : count_dropped a.editors ys ≡ count_dropped b.editors ys = ap (λ n. count_dropped n ys) (sym p.editors) in
    record {
      editors = q.editors ∙ p.editors;
      state = q.state ∙ ap (λ n. state_after (events n ys) b.state) p.editors ∙ ap (state_after (events a.editors ys)) p.state
          ∙ sym (state_after-append (events a.editors xs) (events a.editors ys) a.state) ∙ ap (λ l. state_after l a.state) (sym (events-append a.editors xs ys));
      passed = counted_more a.passed (length (events a.editors xs)) (length (events a.editors ys)) b.passed c.passed p.passed (q.passed ∙ ap (λ n. counted (b.passed + length (events n ys))) p.editors)
          ∙ ap (λ n. counted (a.passed + n)) (sym (length-append (events a.editors xs) (events a.editors ys)) ∙ ap length (sym (events-append a.editors xs ys)));
      dropped = counted_more a.dropped (count_dropped a.editors xs) (count_dropped a.editors ys) b.dropped c.dropped p.dropped (q.dropped ∙ ap (λ n. counted (b.dropped + count_dropped n ys)) p.editors)
          ∙ ap (λ n. counted (a.dropped + n)) (sym (count_dropped-append a.editors xs ys));
      waiting = q.waiting ∙ ap (λ l. l ++ sent_frames (sent_over (events b.editors ys) b.state)) p.waiting
          ∙ append_assoc a.waiting (sent_frames (sent_over (events a.editors xs) a.state)) (sent_frames (sent_over (events b.editors ys) b.state))
          ∙ ap (λ n. a.waiting ++ (sent_frames (sent_over (events a.editors xs) a.state) ++ sent_frames (sent_over (events n ys) b.state))) p.editors
          ∙ ap (λ s. a.waiting ++ (sent_frames (sent_over (events a.editors xs) a.state) ++ sent_frames (sent_over (events a.editors ys) s))) p.state
          ∙ ap (λ l. a.waiting ++ l) (sym (over_both (events a.editors xs) (events a.editors ys) a.state))
          ∙ ap (λ l. a.waiting ++ sent_frames (sent_over l a.state)) (sym (events-append a.editors xs ys));
    }

pub took_same : (a b : RelayPlace) (xs ys : List Item) → xs ≡ ys → TookItems a xs b → TookItems a ys b
took_same a b xs ys is p = subst (λ l. TookItems a l b) is p

-- the same after frames that were written
pub took_after : (a b : RelayPlace) (xs : List Item) (before : List ℕ) → a.waiting ≡ [] → TookItems a xs b
    → TookItems (record a { waiting = before }) xs (record b { waiting = before ++ b.waiting })
took_after a b xs before empty p = record {
  editors = p.editors;
  state = p.state;
  passed = p.passed;
  dropped = p.dropped;
  waiting = ap (λ l. before ++ l) (p.waiting ∙ ap (λ l. l ++ sent_frames (sent_over (events a.editors xs) a.state)) empty);
}

-- an item that tells no message is counted
pub took_dropped : (a b : RelayPlace) (x : Item) → event_of a.editors x ≡ None → b.editors ≡ a.editors → b.state ≡ a.state → b.passed ≡ counted (a.passed + 0) → b.dropped ≡ counted (a.dropped + 1)
    → b.waiting ≡ a.waiting → TookItems a (x ∷ []) b
took_dropped a b x none editors state passed dropped waiting =
    let no_event : events a.editors (x ∷ []) ≡ [] = rw none refl in
    let one : count_dropped a.editors (x ∷ []) ≡ 1 = rw none refl in
    record {
      editors = editors;
      state = state ∙ ap (λ l. state_after l a.state) (sym no_event);
      passed = passed ∙ ap (λ l. counted (a.passed + length l)) (sym no_event);
      dropped = dropped ∙ ap (λ n. counted (a.dropped + n)) (sym one);
      waiting = waiting ∙ sym (append-nil a.waiting) ∙ ap (λ l. a.waiting ++ sent_frames (sent_over l a.state)) (sym no_event);
    }

-- an item that tells a message is heard
pub took_heard : (a b : RelayPlace) (x : Item) (e : Event) → event_of a.editors x ≡ Some e → b.editors ≡ a.editors → b.state ≡ (react e a.state).0 → b.passed ≡ counted (a.passed + 1) → b.dropped ≡ counted (a.dropped + 0)
    → b.waiting ≡ a.waiting ++ sent_frames (react e a.state).1 → TookItems a (x ∷ []) b
took_heard a b x e some editors state passed dropped waiting =
    let event : events a.editors (x ∷ []) ≡ e ∷ [] = rw some refl in
    let none : count_dropped a.editors (x ∷ []) ≡ 0 = rw some refl in
    record {
      editors = editors;
      state = state ∙ ap (λ l. state_after l a.state) (sym event);
      passed = passed ∙ ap (λ l. counted (a.passed + length l)) (sym event);
      dropped = dropped ∙ ap (λ n. counted (a.dropped + n)) (sym none);
      waiting = waiting ∙ ap (λ l. a.waiting ++ sent_frames l) (sym (append-nil (react e a.state).1)) ∙ ap (λ l. a.waiting ++ sent_frames (sent_over l a.state)) (sym event);
    }

-- ---- what a codec tells

pub told_start : (p : RelayPlace) (codec : At) → IsCounted p → TookTold p codec p codec
told_start p codec fits = record { given = []; decodes = decodes_nothing codec; took = took_none p fits }

pub told_more : (a : RelayPlace) (codec0 : At) (b : RelayPlace) (codec1 : At) (c : RelayPlace) (codec2 : At) → TookTold a codec0 b codec1 → TookTold b codec1 c codec2 → TookTold a codec0 c codec2
told_more a codec0 b codec1 c codec2 p q = record {
  given = p.given ++ q.given;
  decodes = decodes_more codec0 codec1 codec2 p.given q.given p.decodes q.decodes;
  took = took_more a b c p.given q.given p.took q.took;
}

-- an item that a codec gave is told no more
pub fewer_told : (a b : At) (x : Item) → Decodes a (x ∷ []) b → length (told_at b) < length (told_at a)
fewer_told a b x decodes = let e = ap length (told_now a b (x ∷ []) decodes) in omega (arith, e)

nothing_after : (xs ys : List Item) → xs ++ ys ≡ [] → ys ≡ []
nothing_after [] ys none = none
nothing_after (x ∷ xs) ys none = absurd (cc)

-- where something is told later, something was told before
pub told_before : (a : RelayPlace) (codec0 : At) (b : RelayPlace) (codec1 : At) → TookTold a codec0 b codec1 → told_at codec1 ≢ [] → told_at codec0 ≢ []
told_before a codec0 b codec1 p later none = later (nothing_after p.given (told_at codec1) (sym (told_now codec0 codec1 p.given p.decodes) ∙ none))
