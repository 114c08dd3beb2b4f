-- What a proxy sends over lists that follow one another.
use Rattle.std.proofs.Common.{◌≡◌, ◌+◌, ℕ, List, [], ◌∷◌, ◌++◌, map, refl, sym, ◌∙◌, ap, append_assoc}
use Rattle.std.proofs.lemmas.List.{map-append}
use Rattle.std.proofs.lemmas.List.Elements.{filter_map-append}
use Rattle.std.proofs.lemmas.List.Sums.{sum_by-append}
use Rattle.lsp_frame.specs.Codec.{Item, frames}
use Rattle.lsp_server.proofs.FramesLemmas.{frames-append}
use Rattle.lsp_proxy.specs.Proxy.{ProxyState, Sent}
use Rattle.lsp_proxy.specs.Law.{Event, react, sent_over, state_after}
use Rattle.lsp_relay.specs.Notes.{event_of, note_of}
use Rattle.lsp_relay.specs.Relay.{events, count_dropped, sent_frames}

pub sent_over-append : (xs ys : List Event) (s : ProxyState) → sent_over (xs ++ ys) s ≡ sent_over xs s ++ sent_over ys (state_after xs s)
sent_over-append [] ys s = refl
sent_over-append (x ∷ xs) ys s =
    ap (λ l. (react x s).1 ++ l) (sent_over-append xs ys (react x s).0)
    ∙ sym (append_assoc (react x s).1 (sent_over xs (react x s).0) (sent_over ys (state_after xs (react x s).0)))

pub state_after-append : (xs ys : List Event) (s : ProxyState) → state_after (xs ++ ys) s ≡ state_after ys (state_after xs s)
state_after-append [] ys s = refl
state_after-append (x ∷ xs) ys s = state_after-append xs ys (react x s).0

pub events-append : (editors : ℕ) (xs ys : List Item) → events editors (xs ++ ys) ≡ events editors xs ++ events editors ys
events-append editors xs ys = filter_map-append (event_of editors) xs ys

pub count_dropped-append : (editors : ℕ) (xs ys : List Item) → count_dropped editors (xs ++ ys) ≡ count_dropped editors xs + count_dropped editors ys
count_dropped-append editors xs ys = sum_by-append _ xs ys

pub sent_frames-append : (xs ys : Sent) → sent_frames (xs ++ ys) ≡ sent_frames xs ++ sent_frames ys
sent_frames-append xs ys = ap frames (map-append note_of xs ys) ∙ frames-append (map note_of xs) (map note_of ys)

-- the frames over lists that follow one another
pub over_both : (xs ys : List Event) (s : ProxyState) → sent_frames (sent_over (xs ++ ys) s) ≡ sent_frames (sent_over xs s) ++ sent_frames (sent_over ys (state_after xs s))
over_both xs ys s = ap sent_frames (sent_over-append xs ys s) ∙ sent_frames-append (sent_over xs s) (sent_over ys (state_after xs s))
