-- Where a call is begun.
use Rattle.std.specs.Prelude.{◌≡◌, ◌⊎◌, ⊤, false, List, Option, Some, None}
use Rattle.lsp_rpc.specs.Message.{IdData, RequestData, request}
use Rattle.lsp_desk.specs.declared.life.Life.TheVariants.{Uninitialized, Initialized}
use Rattle.lsp_session.specs.declared.table.Entry.{Entry}
use Rattle.lsp_session.specs.declared.table.Kind.{Kind}
use Rattle.lsp_session.specs.declared.table.Kind.TheVariants.{Request, Notification}
use Rattle.lsp_session.specs.declared.table.Layer.{Layer}
use Rattle.lsp_session.specs.declared.table.Layer.TheVariants.{Initialize, Shutdown, Normal}
use Rattle.lsp_session.specs.Item.{ItemData, message}
use Rattle.lsp_session.specs.Semantics.{Semantics, call}
use Rattle.lsp_session.specs.Admission.{Starts, is_live}
use Rattle.lsp_session.specs.State.{State, live, is_crowded}
use Rattle.lsp_session.specs.Run.{admission_of, reads_in}

-- a request has an id that isn't live, and a notification has none
abbrev pub FitsKind : Kind → Option IdData → List IdData → Type 0
FitsKind Request None live = ⊥
FitsKind Request (Some i) live = is_live i live ≡ false
FitsKind Notification None live = ⊤
FitsKind Notification (Some i) live = ⊥

-- the item is of a registered method in this layer, and its params are read as this call
pub record IsCallOf {H C T : Type 0} (semantics : Semantics H C T) (s : State H semantics.Call semantics.Task) (item : ItemData) (layer : Layer) (id : Option IdData) (entry : Entry) (c : semantics.Call) : Type 0 where
  pub r : RequestData
  pub item_is : item ≡ message (request r)
  pub id_is : r.id ≡ id
  -- the method is registered, in this layer
  pub found : semantics.find s.service r.method ≡ Some entry
  pub in_layer : entry.layer ≡ layer
  -- the id is as the kind of the method wants it
  pub of_kind : FitsKind entry.kind id (live s)
  -- the params are read so
  pub read : reads_in semantics s entry r.params ≡ call c

pub record CallsBegin {H C T : Type 0} (semantics : Semantics H C T) : Type 0 where
  -- an `initialize` begins where none has begun
  pub initialize : (s : State H semantics.Call semantics.Task) (item : ItemData) (id : Option IdData) (entry : Entry) (c : semantics.Call) → s.desk.life ≡ Uninitialized
      → IsCallOf semantics s item Initialize id entry c → (admission_of semantics s item).verdict ≡ Starts id entry c
  -- once it has ended well a `shutdown` begins
  pub shutdown : (s : State H semantics.Call semantics.Task) (item : ItemData) (id : Option IdData) (entry : Entry) (c : semantics.Call) → s.desk.life ≡ Initialized
      → IsCallOf semantics s item Shutdown id entry c → (admission_of semantics s item).verdict ≡ Starts id entry c
  -- and so does any other call, unless it is of a request and no more may wait
  pub normal : (s : State H semantics.Call semantics.Task) (item : ItemData) (id : Option IdData) (entry : Entry) (c : semantics.Call) → s.desk.life ≡ Initialized
      → (is_crowded s ≡ false) ⊎ (id ≡ None) → IsCallOf semantics s item Normal id entry c → (admission_of semantics s item).verdict ≡ Starts id entry c
