-- What an index keeps of one more entry.
use Rattle.std.proofs.Common.{◌≡◌, List, [], ◌∷◌, ◌++◌, Bool, true, false, cond, Option, Some, None, option_map, option_and_then, is_some, map, filter, fold, refl, sym, ◌∙◌, ap, append_assoc}
use Rattle.std.specs.List.{filter_map}
use Rattle.std.specs.Map.{lookup}
use Rattle.std.proofs.lemmas.List.{append-nil, map-append}
use Rattle.std.proofs.lemmas.List.Elements.{filter_map-append, filter-append}
use Rattle.std.proofs.lemmas.List.Sums.{fold-append}
use Rattle.lsp_rpc.specs.Message.{IdData}
use Rattle.lsp_rpc.specs.Ids.{same_id, same_id-Decides, same_id_equiv}
use Rattle.lsp_rpc.specs.Shown.{show_id}
use Rattle.lsp_rpc.specs.declared.id.Id.{Id}
use Rattle.lsp_index.specs.declared.graph.Item.{Item}
use Rattle.lsp_index.specs.declared.graph.Node.{Node}
use Rattle.lsp_index.specs.declared.graph.Index.{Index}
use Rattle.lsp_index.specs.Graph.{Graph, graph_of, EntryData, VertexData, vertex_entry, contains_edge, next_edge, result_edge, item_edge, unseen_edge, vertex_in, contained_in, next_in, result_in, item_in, ItemEdge, at_id, with_first, firsts}
use Rattle.lsp_index.specs.Queries.{items_from}
use Rattle.lsp_index.specs.Shown.{show_item_edge, show_node}
use Rattle.lsp_index.specs.Kept.{same_key, with_entry, IsKept}
use Rattle.lsp_index.proofs.TableLemmas.{lookup-shown}

-- ---- the graph

graph_is : {v v' : List (IdData × VertexData)} {c c' : List (IdData × List IdData)} {n n' r r' : List (IdData × IdData)} {i i' : List (IdData × ItemEdge)}
    → v ≡ v' → c ≡ c' → n ≡ n' → r ≡ r' → i ≡ i'
    → let a : Graph = record { vertices = v; contained = c; nexts = n; results = r; items = i } in
    let b : Graph = record { vertices = v'; contained = c'; nexts = n'; results = r'; items = i' } in a ≡ b
graph_is p q s t u = λ j. record { vertices = p j; contained = q j; nexts = s j; results = t j; items = u j }

module _ (es : List EntryData) where
  stays : {Y : Type 0} (h : EntryData → Option Y) (e : EntryData) → filter_map h (e ∷ []) ≡ [] → filter_map h (es ++ e ∷ []) ≡ filter_map h es
  stays h e none = filter_map-append h es (e ∷ []) ∙ ap (λ l. filter_map h es ++ l) none ∙ append-nil (filter_map h es)

  first_stays : {Y : Type 0} (h : EntryData → Option (IdData × Y)) (e : EntryData) → filter_map h (e ∷ []) ≡ [] → firsts (filter_map h (es ++ e ∷ [])) ≡ firsts (filter_map h es)
  first_stays h e none = ap firsts (stays h e none)

  first_more : {Y : Type 0} (h : EntryData → Option (IdData × Y)) (e : EntryData) (y : IdData × Y) → filter_map h (e ∷ []) ≡ y ∷ [] → firsts (filter_map h (es ++ e ∷ [])) ≡ with_first (firsts (filter_map h es)) y
  first_more h e y one = ap firsts (filter_map-append h es (e ∷ []) ∙ ap (λ l. filter_map h es ++ l) one) ∙ fold-append with_first [] (filter_map h es) (y ∷ [])

  pub graph_of-push : (e : EntryData) → graph_of (es ++ e ∷ []) ≡ with_entry (graph_of es) e
  graph_of-push (vertex_entry id v) =
      let e = vertex_entry id v in
      graph_is (first_more vertex_in e (id, v) refl) (stays contained_in e refl) (first_stays next_in e refl) (first_stays result_in e refl) (stays item_in e refl)
  graph_of-push (contains_edge id ts) =
      let e = contains_edge id ts in
      graph_is (first_stays vertex_in e refl) (filter_map-append contained_in es (e ∷ [])) (first_stays next_in e refl) (first_stays result_in e refl) (stays item_in e refl)
  graph_of-push (next_edge id t) =
      let e = next_edge id t in
      graph_is (first_stays vertex_in e refl) (stays contained_in e refl) (first_more next_in e (id, t) refl) (first_stays result_in e refl) (stays item_in e refl)
  graph_of-push (result_edge id t) =
      let e = result_edge id t in
      graph_is (first_stays vertex_in e refl) (stays contained_in e refl) (first_stays next_in e refl) (first_more result_in e (id, t) refl) (stays item_in e refl)
  graph_of-push (item_edge id i) =
      let e = item_edge id i in
      graph_is (first_stays vertex_in e refl) (stays contained_in e refl) (first_stays next_in e refl) (first_stays result_in e refl) (filter_map-append item_in es (e ∷ []))
  graph_of-push unseen_edge =
      let e = unseen_edge in
      graph_is (first_stays vertex_in e refl) (stays contained_in e refl) (first_stays next_in e refl) (first_stays result_in e refl) (stays item_in e refl)

pub graph_of-more : (es fs : List EntryData) → graph_of (es ++ fs) ≡ fold with_entry (graph_of es) fs
graph_of-more es [] = ap graph_of (append-nil es)
graph_of-more es (e ∷ fs) =
    ap graph_of (sym (append_assoc es (e ∷ []) fs)) ∙ graph_of-more (es ++ e ∷ []) fs ∙ ap (λ g. fold with_entry g fs) (graph_of-push es e)

-- ---- a table

-- the first value of an id was put into the table
pub first_kept : {V W : Type 0} (show : V → W) (id : Id) (v : V) (es new : List (Id × V)) (shown : List (IdData × W)) → map (λ (e : Id × V). (show_id e.0, show e.1)) es ≡ shown
    → new ≡ cond (is_some (lookup (same_key id) es)) es (es ++ (id, v) ∷ []) → map (λ (e : Id × V). (show_id e.0, show e.1)) new ≡ with_first shown (show_id id, show v)
first_kept {V} {W} show id v es new shown is put =
    ap all put ∙ at (is_some (lookup (same_key id) es)) (is_some (at_id shown (show_id id))) same
  where
    all : List (Id × V) → List (IdData × W)
    all l = map (λ (e : Id × V). (show_id e.0, show e.1)) l

    is_some-map : (o : Option V) → is_some (option_map show o) ≡ is_some o
    is_some-map None = refl
    is_some-map (Some x) = refl

    same : is_some (at_id shown (show_id id)) ≡ is_some (lookup (same_key id) es)
    same = ap (λ l. is_some (at_id l (show_id id))) (sym is) ∙ ap is_some (lookup-shown show id es) ∙ is_some-map (lookup (same_key id) es)

    at : (b d : Bool) → d ≡ b → map (λ (e : Id × V). (show_id e.0, show e.1)) (cond b es (es ++ (id, v) ∷ [])) ≡ cond d shown (shown ++ (show_id id, show v) ∷ [])
    at true d e = is ∙ sym (ap (λ t. cond t shown (shown ++ (show_id id, show v) ∷ [])) e)
    at false d e =
        map-append (λ (e : Id × V). (show_id e.0, show e.1)) es ((id, v) ∷ []) ∙ ap (λ l. l ++ (show_id id, show v) ∷ []) is
        ∙ sym (ap (λ t. cond t shown (shown ++ (show_id id, show v) ∷ [])) e)

-- of an id and a value that show this
pub first_kept_as : {V W : Type 0} (show : V → W) (id : Id) (v : V) (i : IdData) (w : W) → show_id id ≡ i → show v ≡ w → (es new : List (Id × V)) (shown : List (IdData × W))
    → map (λ (e : Id × V). (show_id e.0, show e.1)) es ≡ shown → new ≡ cond (is_some (lookup (same_key id) es)) es (es ++ (id, v) ∷ [])
    → map (λ (e : Id × V). (show_id e.0, show e.1)) new ≡ with_first shown (i, w)
first_kept_as show id v i w same_id same es new shown is put = first_kept show id v es new shown is put ∙ (λ j. with_first shown (same_id j, same j))

-- ---- items

-- the items of a result, with one more of any result
items_from-push : (g : Graph) (i r : IdData) (x : ItemEdge) → items_from (record g { items = g.items ++ (i, x) ∷ [] }) r ≡ items_from g r ++ cond (same_id r i) (x ∷ []) []
items_from-push g i r x =
    ap (map (λ (e : IdData × ItemEdge). e.1)) (filter-append (λ (e : IdData × ItemEdge). same_id r e.0) g.items ((i, x) ∷ []))
    ∙ map-append (λ (e : IdData × ItemEdge). e.1) (filter (λ (e : IdData × ItemEdge). same_id r e.0) g.items) (cond (same_id r i) ((i, x) ∷ []) [])
    ∙ at (same_id r i)
  where
    at : (b : Bool) → items_from g r ++ map (λ (e : IdData × ItemEdge). e.1) (cond b ((i, x) ∷ []) []) ≡ items_from g r ++ cond b (x ∷ []) []
    at true = refl
    at false = refl

pub item_kept : (g : Graph) (id : Id) (item : Item) (old new : Id → List Item) → ((k : Id) → map show_item_edge (old k) ≡ items_from g (show_id k))
    → ((q : Id) → new q ≡ cond (same_key id q) (old id ++ item ∷ []) (old q))
    → (k : Id) → map show_item_edge (new k) ≡ items_from (with_entry g (item_edge (show_id id) (show_item_edge item))) (show_id k)
item_kept g id item old new kept put k =
    ap (map show_item_edge) (put k) ∙ at (same_id (show_id id) (show_id k)) refl ∙ sym (items_from-push g (show_id id) (show_id k) (show_item_edge item))
  where
    at : (b : Bool) → same_id (show_id id) (show_id k) ≡ b
        → map show_item_edge (cond b (old id ++ item ∷ []) (old k)) ≡ items_from g (show_id k) ++ cond (same_id (show_id k) (show_id id)) (show_item_edge item ∷ []) []
    at true h =
        let e : show_id id ≡ show_id k = (same_id-Decides (show_id id) (show_id k)).0 h in
        map-append show_item_edge (old id) (item ∷ []) ∙ ap (λ l. l ++ show_item_edge item ∷ []) (kept id ∙ ap (items_from g) e)
        ∙ sym (ap (λ b. items_from g (show_id k) ++ cond b (show_item_edge item ∷ []) []) (same_id_equiv.symm (show_id k) (show_id id) ∙ h))
    at false h =
        kept k ∙ sym (append-nil (items_from g (show_id k)))
        ∙ sym (ap (λ b. items_from g (show_id k) ++ cond b (show_item_edge item ∷ []) []) (same_id_equiv.symm (show_id k) (show_id id) ∙ h))

-- of an id and an item that show this
pub item_kept_as : (g : Graph) (id : Id) (item : Item) (i : IdData) (x : ItemEdge) → show_id id ≡ i → show_item_edge item ≡ x → (old new : Id → List Item)
    → ((k : Id) → map show_item_edge (old k) ≡ items_from g (show_id k)) → ((q : Id) → new q ≡ cond (same_key id q) (old id ++ item ∷ []) (old q))
    → (k : Id) → map show_item_edge (new k) ≡ items_from (with_entry g (item_edge i x)) (show_id k)
item_kept_as g id item i x same_id same old new kept put k = item_kept g id item old new kept put k ∙ (λ j. items_from (with_entry g (item_edge (same_id j) (same j))) (show_id k))

-- ---- what stands under an id

pub found_in : {A : Type 0} (f : VertexData → Option A) (g : Graph) (index : Index) → IsKept g index → (id : Id) (o : Option Node) → o ≡ lookup (same_key id) index.vertices.entries
    → option_and_then f (option_map show_node o) ≡ option_and_then f (at_id g.vertices (show_id id))
found_in f g index kept id o is =
    ap (λ p. option_and_then f (option_map show_node p)) is ∙ ap (option_and_then f) (sym (lookup-shown show_node id index.vertices.entries))
    ∙ ap (λ l. option_and_then f (at_id l (show_id id))) kept.vertices
