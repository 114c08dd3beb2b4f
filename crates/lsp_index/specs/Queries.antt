-- What a query answers over a graph: definition, references, hover (LSIF; LSP 3.17).
use Rattle.std.specs.Prelude.{◌≡◌, ◌==◌, ◌&&◌, ◌||◌, ℕ, zero, suc, List, [], ◌∷◌, ◌++◌, Bool, true, false, not, Option, Some, None, option_and_then, unwrap_or, fold, map, filter, nat_lt, bytes_eq, codes, if◌then◌else◌, slice_get}
use Rattle.std.specs.List.{list_any}
use Rattle.serde_json.specs.Data.{Data, array, string}
use Rattle.serde_json.specs.Written.{compact_text}
use Rattle.serde_json.specs.View.{items_of}
use Rattle.lsp_shape.specs.Plain.{leaf, parts, part, no_parts}
use Rattle.lsp_shape.specs.Read.{text_is}
use Rattle.lsp_shape.specs.Write.{write}
use Rattle.lsp_rpc.specs.Message.{IdData}
use Rattle.lsp_rpc.specs.Ids.{same_id}
use Rattle.lsp_base.specs.Position.{location_row, range_row}
use Rattle.lsp_base.specs.declared.position.Position.{Position}
use Rattle.lsp_base.specs.declared.position.Range.{Range}
use Rattle.lsp_index.specs.declared.graph.Role.{Role}
use Rattle.lsp_index.specs.declared.graph.Role.TheVariants.{Place, Linked, Neither}
use Rattle.lsp_index.specs.declared.query.Request.{Request}
use Rattle.lsp_index.specs.declared.query.Request.TheVariants.{Definition, References, Hover}
use Rattle.lsp_index.specs.Graph.{VertexData, document_vertex, range_vertex, hover_vertex, other_vertex, ItemEdge, Graph, at_id}

abbrev pub is_definition : Request → Bool
is_definition Definition = true
is_definition References = false
is_definition Hover = false

abbrev pub is_references : Request → Bool
is_references Definition = false
is_references References = true
is_references Hover = false

abbrev pub is_hover : Request → Bool
is_hover Definition = false
is_hover References = false
is_hover Hover = true

-- what is asked
pub record QueryData : Type 0 where
  pub request : Request
  pub uri : List ℕ
  pub position : Position

-- ---- what stands under an id

abbrev pub document_in : VertexData → Option (List ℕ)
document_in (document_vertex uri) = Some uri
document_in (range_vertex r) = None
document_in (hover_vertex text) = None
document_in other_vertex = None

abbrev pub range_in : VertexData → Option Range
range_in (document_vertex uri) = None
range_in (range_vertex r) = Some r
range_in (hover_vertex text) = None
range_in other_vertex = None

abbrev pub hover_in : VertexData → Option (List ℕ)
hover_in (document_vertex uri) = None
hover_in (range_vertex r) = None
hover_in (hover_vertex text) = Some text
hover_in other_vertex = None

-- the URI of a document
abbrev pub document_at : Graph → IdData → Option (List ℕ)
document_at g id = option_and_then document_in (at_id g.vertices id)

abbrev pub range_at : Graph → IdData → Option Range
range_at g id = option_and_then range_in (at_id g.vertices id)

-- the text of a hover
abbrev pub hover_at : Graph → IdData → Option (List ℕ)
hover_at g id = option_and_then hover_in (at_id g.vertices id)

-- the list with the id, where it is new
abbrev pub with_new_id : List IdData → IdData → List IdData
with_new_id ids id = if list_any (same_id id) ids then ids else ids ++ id ∷ []

-- ---- the range at a position

-- by line, then by character
abbrev pub is_before : Position → Position → Bool
is_before a b = nat_lt a.line b.line || (a.line == b.line && nat_lt a.character b.character)

-- a position at the end of a range is outside
abbrev pub holds_position : Range → Position → Bool
holds_position r p = not (is_before p r.start) && is_before p r.end

-- it starts later, or there too and ends earlier
abbrev pub is_closer : Range → Range → Bool
is_closer r s = is_before s.start r.start || (not (is_before r.start s.start) && is_before r.end s.end)

-- the list with the ids that the edge `contains` names, where it comes from a document of that URI
abbrev pub with_contained : Graph → List ℕ → List IdData → IdData × List IdData → List IdData
with_contained g uri ids c = if text_is uri (document_at g c.0) then fold with_new_id ids c.1 else ids

-- the ids that edges `contains` from a document of that URI name
abbrev pub named_in : Graph → List ℕ → List IdData
named_in g uri = fold (with_contained g uri) [] g.contained

abbrev pub range_holding : IdData → Position → Option Range → Option (IdData × Range)
range_holding id p None = None
range_holding id p (Some r) = if holds_position r p then Some (id, r) else None

-- a range of those named that holds the position
abbrev pub candidate_in : List IdData → Position → IdData × VertexData → Option (IdData × Range)
candidate_in named p v = if list_any (same_id v.0) named then range_holding v.0 p (range_in v.1) else None

-- the closer of the two, and the first where neither is
abbrev pub closest_of : Option (IdData × Range) → Option (IdData × Range) → Option (IdData × Range)
closest_of None c = c
closest_of (Some b) None = Some b
closest_of (Some b) (Some c) = if is_closer c.1 b.1 then Some c else Some b

abbrev pub with_candidate : List IdData → Position → Option (IdData × Range) → IdData × VertexData → Option (IdData × Range)
with_candidate named p closest v = closest_of closest (candidate_in named p v)

-- of the ranges of the document that hold the position: the one that starts last, of these the one that ends first, and of
-- these the first in the dump
abbrev pub chosen_at : Graph → List ℕ → Position → Option (IdData × Range)
chosen_at g uri p = fold (with_candidate (named_in g uri) p) None g.vertices

-- ---- the result that a vertex leads to

-- the result of a vertex, or else what its edge `next` leads to
abbrev pub own_or_next : Option IdData → Option IdData → (IdData → Option IdData) → Option IdData
own_or_next (Some r) next on = Some r
own_or_next None None on = None
own_or_next None (Some w) on = on w

-- what is reached over fewer than so many edges `next`
abbrev pub reached_within : ℕ → Graph → IdData → Option IdData
reached_within zero g v = None
reached_within (suc n) g v = own_or_next (at_id g.results v) (at_id g.nexts v) (λ w. reached_within n g w)

-- this result is reached; none is reached where no edge goes on, and where a vertex comes again
abbrev pub IsReached : Graph → IdData → Option IdData → Type 0
IsReached g v None = (n : ℕ) → reached_within n g v ≡ None
IsReached g v (Some r) = (n : ℕ) × (reached_within n g v ≡ Some r)

-- what is reached from the range at the position, if there is one
abbrev pub IsReachedFrom : Graph → Option (IdData × Range) → Option IdData → Type 0
IsReachedFrom g None o = o ≡ None
IsReachedFrom g (Some c) o = IsReached g c.0 o

-- ---- locations

pub record LocationData : Type 0 where
  pub uri : List ℕ
  pub range : Range

abbrev pub same_position : Position → Position → Bool
same_position a b = a.line == b.line && a.character == b.character

abbrev pub same_location : LocationData → LocationData → Bool
same_location a b = bytes_eq a.uri b.uri && (same_position a.range.start b.range.start && same_position a.range.end b.range.end)

-- a location that was given is left out later
abbrev pub with_location : List LocationData → LocationData → List LocationData
with_location ls l = if list_any (same_location l) ls then ls else ls ++ l ∷ []

-- an id under which no range stands is passed over
abbrev pub with_range : List ℕ → List LocationData → Option Range → List LocationData
with_range uri ls None = ls
with_range uri ls (Some r) = with_location ls (record { uri = uri; range = r })

abbrev pub with_ranges : Graph → List IdData → List LocationData → Option (List ℕ) → List LocationData
with_ranges g ids ls None = ls
with_ranges g ids ls (Some uri) = fold (λ ls id. with_range uri ls (range_at g id)) ls ids

-- the locations with those of an item: the ranges that it leads to, in its document
abbrev pub with_item_ranges : Graph → List LocationData → ItemEdge → List LocationData
with_item_ranges g ls i = with_ranges g i.targets ls (document_at g i.document)

-- the items of a result, in the order of the dump
abbrev pub items_from : Graph → IdData → List ItemEdge
items_from g r = map (λ e. e.1) (filter (λ e. same_id r e.0) g.items)

-- ---- all that a result includes

-- the list with the further results that an item leads to
abbrev pub with_linked : List IdData → Role → List IdData → List IdData
with_linked rs Place ids = rs
with_linked rs Linked ids = fold with_new_id rs ids
with_linked rs Neither ids = rs

-- the list with the further results of a result
abbrev pub with_results : Graph → List IdData → IdData → List IdData
with_results g rs r = fold (λ rs i. with_linked rs i.role i.targets) rs (items_from g r)

-- the list with the further results of its member, where there is one
abbrev pub with_results_of : Graph → List IdData → Option IdData → List IdData
with_results_of g rs None = rs
with_results_of g rs (Some r) = with_results g rs r

-- The list begins with the result, and to it the further results of each of its members are appended, in order, where they
-- are new: this is the list after so many of its members.
abbrev pub results_after : Graph → IdData → ℕ → List IdData
results_after g r zero = r ∷ []
results_after g r (suc n) = with_results_of g (results_after g r n) (slice_get (results_after g r n) n)

-- after all of them
abbrev pub AreResults : Graph → IdData → List IdData → Type 0
AreResults g r rs = (n : ℕ) × (results_after g r n ≡ rs) × (slice_get rs n ≡ None)

-- the locations with those of an item, where it leads to places
abbrev pub with_place : Graph → List LocationData → Role → ItemEdge → List LocationData
with_place g ls Place i = with_item_ranges g ls i
with_place g ls Linked i = ls
with_place g ls Neither i = ls

abbrev pub with_places : Graph → List LocationData → IdData → List LocationData
with_places g ls r = fold (λ ls i. with_place g ls i.role i) ls (items_from g r)

-- ---- the answer

abbrev pub location_value : LocationData → Data
location_value l = write location_row.shape (parts (part (leaf (string l.uri)) (part (range_row.shown l.range) no_parts)))

-- the text of a list of locations
abbrev pub locations_text : List LocationData → List ℕ
locations_text ls = compact_text (array (items_of (map location_value ls)))

abbrev pub null_text : List ℕ
null_text = codes "null"

abbrev pub IsListed : Graph → Option IdData → List ℕ → Type 0
IsListed g None text = text ≡ locations_text []
IsListed g (Some r) text = (rs : List IdData) × AreResults g r rs × (text ≡ locations_text (fold (with_places g) [] rs))

abbrev pub IsHover : Graph → Option IdData → List ℕ → Type 0
IsHover g None text = text ≡ null_text
IsHover g (Some r) text = text ≡ unwrap_or (hover_at g r) null_text

abbrev pub IsAnswerFrom : Request → Graph → Option IdData → List ℕ → Type 0
IsAnswerFrom Definition g r text = IsListed g r text
IsAnswerFrom References g r text = IsListed g r text
IsAnswerFrom Hover g r text = IsHover g r text

-- the text of the answer to the query
pub record IsAnswer (q : QueryData) (g : Graph) (text : List ℕ) : Type 0 where
  pub reached : Option IdData
  pub reaches : IsReachedFrom g (chosen_at g q.uri q.position) reached
  pub answers : IsAnswerFrom q.request g reached text
