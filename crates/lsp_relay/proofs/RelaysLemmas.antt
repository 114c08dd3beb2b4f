-- A relay keeps the laws of consumers.
use Rattle.std.proofs.Common.{◌≡◌, ◌<◌, ◌+◌, ◌^◌, ℕ, List, [], ◌++◌, length, sym, ◌∙◌, ap, subst, append_assoc, arith}
use Rattle.std.specs.Prelude.{Option}
use Rattle.std.specs.Io.KnownBytes.{Appends}
use Rattle.lsp_frame.specs.Codec.{Item, At, more, items_at, told_at}
use Rattle.lsp_server.specs.declared.step.ServeError.{ServeError}
use Rattle.lsp_server.specs.Errors.{ComesOfSink}
use Rattle.lsp_server.specs.Items.{Decodes}
use Rattle.lsp_server.specs.Written.{IsPrefixOf}
use Rattle.lsp_server.specs.Consuming.{Given, piece, end, ConsumerOutcome, goes_on, done, stops, IsLawfulConsumer, Did}
use Rattle.lsp_server.proofs.CodecLemmas.{decodes_nothing, decodes_more, decodes_fed, more_nothing, more_more}
use Rattle.lsp_proxy.specs.Law.{sent_over, state_after}
use Rattle.lsp_relay.specs.Relay.{RelayPlace, TookItems, TookTold, events, sent_frames, counted}
use Rattle.lsp_relay.specs.Relaying.{Stand, MayRelay, RelaysTold, frames_from, Relays, relays}
use Rattle.lsp_relay.proofs.EventLemmas.{events-append, over_both}
use Rattle.lsp_relay.proofs.TookLemmas.{took_none, took_more, took_after}

-- the frames over items that were taken, and over those after them
pub frames_on : (a : RelayPlace) (xs ys : List Item) → frames_from a (xs ++ ys) ≡ frames_from a xs ++ sent_frames (sent_over (events a.editors ys) (state_after (events a.editors xs) a.state))
frames_on a xs ys = ap (λ l. sent_frames (sent_over l a.state)) (events-append a.editors xs ys) ∙ over_both (events a.editors xs) (events a.editors ys) a.state

-- what was taken is counted
fits : (n more now : ℕ) → now ≡ counted (n + more) → now < 2 ^ 64
fits n more now is = omega (arith, is)

relays_none : (a : Stand) → MayRelay a → Relays a (piece []) goes_on [] a
relays_none a is = record {
  given = [];
  decodes = subst (λ k. Decodes k [] a.codec) (sym (more_nothing a.codec)) (decodes_nothing a.codec);
  took = took_none_waiting;
  before = is.empty;
  opened = is;
}
  where
    took_none_waiting : TookItems a.place [] (record a.place { waiting = [] })
    took_none_waiting =
        let none = took_none a.place (record { passed = is.passed; dropped = is.dropped }) in
        record { editors = none.editors; state = none.state; passed = none.passed; dropped = none.dropped; waiting = sym is.empty ∙ none.waiting }

relays_more : (a b c : Stand) (xs ys ws vs : List ℕ) → RelaysTold a xs ws b → RelaysTold b ys vs c → RelaysTold a (xs ++ ys) (ws ++ vs) c
relays_more a b c xs ys ws vs p q = record {
  given = p.given ++ q.given;
  decodes = subst (λ k. Decodes k (p.given ++ q.given) c.codec) (more_more a.codec xs ys)
      (decodes_more (more (more a.codec xs) ys) (more b.codec ys) c.codec p.given q.given (decodes_fed (more a.codec xs) b.codec p.given ys p.decodes) q.decodes);
  took = took_more a.place (record b.place { waiting = ws }) (record c.place { waiting = ws ++ vs }) p.given q.given p.took
      (took_after b.place (record c.place { waiting = vs }) q.given ws q.before q.took);
  before = p.before;
  opened = q.opened;
}

-- what was written begins the frames of all that may come
told_begins : (a b : Stand) (bytes written : List ℕ) → RelaysTold a bytes written b → (c : List ℕ) → IsPrefixOf written (frames_from a.place (items_at (more (more a.codec bytes) c)))
told_begins a b bytes written p c =
    let after = items_at (more b.codec c) in
    let rest = sent_frames (sent_over (events a.place.editors after) (state_after (events a.place.editors p.given) a.place.state)) in
    let written_is : written ≡ frames_from a.place p.given = p.took.waiting ∙ ap (λ l. l ++ frames_from a.place p.given) p.before in
    (rest, ap (λ l. l ++ rest) written_is ∙ sym (frames_on a.place p.given after) ∙ ap (frames_from a.place) (sym (p.decodes.items c)))

relays_refused : (a b : Stand) (given : Given) (outcome : ConsumerOutcome) (written : List ℕ) (e : ServeError) → Relays a given outcome written b → ComesOfSink e → Relays a given (stops e) written b
relays_refused a b (piece bytes) goes_on written e p sink = (sink, told_begins a b bytes written p)
relays_refused a b (piece bytes) done written e p sink = absurd p
relays_refused a b (piece bytes) (stops e0) written e p sink = (sink, p.1)
relays_refused a b end goes_on written e p sink = absurd p
relays_refused a b end done written e p sink = (sink, p.none)
relays_refused a b end (stops e0) written e p sink = (sink, p.1)

relays_opens : (a b : Stand) (given : Given) (written : List ℕ) → Relays a given goes_on written b → MayRelay b
relays_opens a b (piece bytes) written p = p.opened
relays_opens a b end written p = absurd p

pub relays_lawful : IsLawfulConsumer relays
relays_lawful = record { opens = relays_opens; none = relays_none; more = relays_more; refused = relays_refused }

-- ---- what taking and writing come to

-- all that waited was written
pub did_told : (a b : Stand) (mid : RelayPlace) (bytes : List ℕ) (taken0 taken1 : Option (List ℕ)) → MayRelay a → TookTold a.place (more a.codec bytes) mid b.codec → told_at b.codec ≡ []
    → b.place ≡ record mid { waiting = [] } → Appends taken0 taken1 mid.waiting → Did relays a (piece bytes) goes_on taken0 taken1 b
did_told a b mid bytes taken0 taken1 is told all rest writes =
    let took : TookItems a.place told.given (record b.place { waiting = mid.waiting }) = subst (λ p. TookItems a.place told.given (record p { waiting = mid.waiting })) (sym rest) told.took in
    record {
      written = mid.waiting;
      does = record {
        given = told.given;
        decodes = told.decodes;
        took = took;
        before = is.empty;
        opened = record {
          empty = ap (λ (p : RelayPlace). p.waiting) rest;
          told = all;
          passed = fits a.place.passed (length (events a.place.editors told.given)) b.place.passed took.passed;
          dropped = fits a.place.dropped _ b.place.dropped took.dropped;
        };
      };
      writes = writes;
    }

-- some of what waited was written
pub did_some : (a b : Stand) (mid : RelayPlace) (codec : At) (bytes : List ℕ) (taken0 taken1 : Option (List ℕ)) (e : ServeError) → MayRelay a → TookTold a.place (more a.codec bytes) mid codec → ComesOfSink e
    → (written : List ℕ) × IsPrefixOf written mid.waiting × Appends taken0 taken1 written → Did relays a (piece bytes) (stops e) taken0 taken1 b
did_some a b mid codec bytes taken0 taken1 e is told sink part = record {
  written = part.0;
  does = (
    sink,
    λ c.
        let after = items_at (more codec c) in
        let rest = sent_frames (sent_over (events a.place.editors after) (state_after (events a.place.editors told.given) a.place.state)) in
        let waits : mid.waiting ≡ frames_from a.place told.given = told.took.waiting ∙ ap (λ l. l ++ frames_from a.place told.given) is.empty in
        (part.1.0 ++ rest, sym (append_assoc part.0 part.1.0 rest) ∙ ap (λ l. l ++ rest) (part.1.1 ∙ waits) ∙ sym (frames_on a.place told.given after) ∙ ap (frames_from a.place) (sym (told.decodes.items c))),
  );
  writes = part.2;
}
