-- What a relay does with the bytes that it is given.
use Rattle.std.specs.Prelude.{◌≡◌, ◌<◌, ◌^◌, ℕ, List, []}
use Rattle.lsp_frame.specs.Codec.{Item, At, more, items_at, told_at}
use Rattle.lsp_server.specs.Items.{Decodes}
use Rattle.lsp_server.specs.Errors.{ComesOfSink}
use Rattle.lsp_server.specs.Written.{IsPrefixOf}
use Rattle.lsp_server.specs.Consuming.{Given, piece, end, ConsumerOutcome, goes_on, done, stops, Consuming}
use Rattle.lsp_proxy.specs.Law.{sent_over}
use Rattle.lsp_relay.specs.Relay.{RelayPlace, TookItems, events, sent_frames}

-- where a relay stands, with what its codec holds
pub record Stand : Type 0 where
  pub place : RelayPlace
  pub codec : At

-- nothing waits to be written, all that the codec tells was taken, and the counts fit 64 bits
pub record MayRelay (a : Stand) : Type 0 where
  pub empty : a.place.waiting ≡ []
  pub told : told_at a.codec ≡ []
  pub passed : a.place.passed < 2 ^ 64
  pub dropped : a.place.dropped < 2 ^ 64

-- the items that are told with these bytes were taken, and what the proxy sends for them was written
pub record RelaysTold (a : Stand) (bytes written : List ℕ) (b : Stand) : Type 0 where
  pub given : List Item
  pub decodes : Decodes (more a.codec bytes) given b.codec
  pub took : TookItems a.place given (record b.place { waiting = written })
  pub before : a.place.waiting ≡ []
  pub opened : MayRelay b

-- what ends the input was taken, for which the proxy sends nothing
pub record RelaysEnd (a : Stand) (written : List ℕ) (b : Stand) : Type 0 where
  pub took : TookItems a.place (items_at a.codec) b.place
  pub silent : events a.place.editors (items_at a.codec) ≡ []
  pub none : written ≡ []

-- the frames of what the proxy sends for these items
abbrev pub frames_from : RelayPlace → List Item → List ℕ
frames_from place found = sent_frames (sent_over (events place.editors found) place.state)

abbrev pub Relays : Stand → Given → ConsumerOutcome → List ℕ → Stand → Type 0
Relays a (piece bytes) goes_on written b = RelaysTold a bytes written b
Relays a (piece bytes) done written b = ⊥
Relays a (piece bytes) (stops e) written b = ComesOfSink e × ((c : List ℕ) → IsPrefixOf written (frames_from a.place (items_at (more (more a.codec bytes) c))))
Relays a end goes_on written b = ⊥
Relays a end done written b = RelaysEnd a written b
Relays a end (stops e) written b = ComesOfSink e × (written ≡ [])

abbrev pub relays : Consuming Stand
relays = record { is_open = MayRelay; does = Relays }
