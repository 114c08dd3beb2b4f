-- What contracts see of the code's works, and what is made of them.
use Rattle.std.specs.Prelude.{ℕ, ◌-◌, ◌&&◌, ◌++◌, List, [], ◌∷◌, Bool, not, length, take, drop, map, filter, nat_lt, if◌then◌else◌}
use Rattle.lsp_session.specs.declared.works.Work.{Work}
use Rattle.lsp_session.specs.declared.works.Works.{Works}
use Rattle.lsp_session.specs.Works.{mark}

pub record WorksView (C T : Type 0) : Type 0 where
  pub max : ℕ
  pub wait : ℕ
  pub slots : List (Work C T)
  pub queue : List (Work C T)

abbrev pub works_of : {C T : Type 0} → Works C T → WorksView C T
works_of w = record { max = w.max; wait = w.wait; slots = w.slots.items; queue = w.queue.items }

-- all slots are taken, and as many calls wait as may
abbrev pub are_crowded : {C T : Type 0} → WorksView C T → Bool
are_crowded w = not (nat_lt (length w.slots) w.max) && not (nat_lt (length w.queue) w.wait)

-- a call enters a slot while one is free, and otherwise the queue
abbrev pub entered_works : {C T : Type 0} → WorksView C T → Work C T → WorksView C T
entered_works w work = record w {
  slots = if nat_lt (length w.slots) w.max then w.slots ++ work ∷ [] else w.slots;
  queue = if nat_lt (length w.slots) w.max then w.queue else w.queue ++ work ∷ [];
}

-- the queue moves up while a slot is free
abbrev pub up : {C T : Type 0} → WorksView C T → WorksView C T
up w = record w { slots = w.slots ++ map mark (take (w.max - length w.slots) w.queue); queue = drop (w.max - length w.slots) w.queue }

-- those that pass this test stay
abbrev pub kept_works : {C T : Type 0} → (Work C T → Bool) → WorksView C T → WorksView C T
kept_works p w = record w { slots = filter p w.slots; queue = filter p w.queue }
