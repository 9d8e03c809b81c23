-- The middle of an End: the tasks that ran are over, some of the wishes are accepted, and the region ticks still.
use Rattle.std.specs.Prelude.{ℕ, ◌≡◌, ◌+◌, ◌≤◌, ◌^◌, true, None, List, ◌∷◌, ◌++◌, length, vec_len, vec_capacity}
use Rattle.std.specs.HashMap.{spare as room_in}
use Rattle.std.specs.List.{AllByRecursion}
use Rattle.fol_model.specs.declared.places.ChunkPos.{ChunkPos}
use Rattle.fol_model.specs.declared.entities.Entity.{Entity}
use Rattle.fol_model.specs.declared.tasks.Task.{Task}
use Rattle.fol_model.specs.declared.tasks.Wish.{Wish}
use Rattle.fol_model.specs.declared.actions.Action.TheVariants.{Arrive}
use Rattle.fol_model.specs.ActionStep.{Recorded}
use Rattle.fol_model.specs.World.{World}
use Rattle.fol_model.specs.End.{all_accepted}
use Rattle.fol_laws.proofs.SoundRuns.{Ending}
use Rattle.fol_laws.proofs.WishLimits.{WishOk}
use Rattle.fol_end_laws.specs.DroppedHolds.{on_chunk}
use Rattle.fol_sections.specs.Places.{count_at}
use Rattle.fol_regions.specs.Table.{grid_state}
use Rattle.fol_chunks.specs.Contents.{Contents, flat_of, within}
use Rattle.fol_store.specs.Stock.{bag_of}
use Rattle.fol_world.specs.declared.tables.Tables.{Tables}
use Rattle.fol_world.specs.Hands.{owner_of}
use Rattle.fol_world.specs.MostParts.{parts_at_most}
use Rattle.fol_world.specs.Bags.{StoredIn}
use Rattle.fol_world.specs.Agenda.{Covers}
use Rattle.fol_world.specs.Stands.{AreTickets, IsCourse}

-- the tables are those of the world w, but that it may have more tickets, and that the top of the stack need not owe a tick
pub record Midway (t : Tables) (w : World) (since : ℕ → ℕ) : Type 0 where
  pub grid : t.grid ≡ w.grid.grid
  pub regions : grid_state t.regions ≡ w.grid
  pub stored : StoredIn t.store w since
  pub tickets : (c : ChunkPos) → count_at t.tickets.entries c ≤ w.tickets c
  pub covers : Covers t.agenda.items w.grid (bag_of t.store)
  pub course : IsCourse t.course w

-- what is known of a world while the region r ends its tick, and n wishes are to be accepted
pub record Ends (w : World) (since : ℕ → ℕ) (r n : ℕ) : Type 0 where
  pub ending : Ending r w
  pub own : (c : ChunkPos) → w.recorded r c ≡ true → owner_of w.grid c ≡ r
  pub new_ticks : (q : ℕ) → w.grid.next ≤ q → w.tick q ≡ 0
  pub since_most : (q : ℕ) → since q ≤ w.next_job
  pub few_ids : w.grid.next + n ≤ 2 ^ 61
  pub few_jobs : w.next_job + n ≤ 2 ^ 61
  pub few_tickets : (c : ChunkPos) → w.tickets c ≤ 2 ^ 61

-- memory for n wishes more, and for the release behind them
pub record HasRoomFor (t : Tables) (v : Contents) (n : ℕ) : Type 0 where
  pub regions : n + 1 ≤ t.regions.spare
  pub tasks : n ≤ t.store.spare
  pub slots : n + parts_at_most (grid_state t.regions) n ≤ t.store.slots
  pub tickets : 1 ≤ room_in t.tickets
  pub agenda : vec_len t.agenda + n + parts_at_most (grid_state t.regions) n ≤ vec_capacity t.agenda
  pub entities : n ≤ v.spare

-- tables and contents are those of the world w, in which r ends its tick
pub record Underway (t : Tables) (v : Contents) (w : World) (since : ℕ → ℕ) (r n : ℕ) : Type 0 where
  pub midway : Midway t w since
  pub ends : Ends w since r n
  pub room : HasRoomFor t v n
  pub contents : flat_of v ≡ within (w.recorded r) w.flat

-- an entity that is sent stands nowhere
abbrev pub IsFree : World → Wish → Type 0
IsFree w x = (e : Entity) → x.action ≡ Arrive e → w.flat.standing e.id ≡ None

-- each of the wishes is within limits when its turn comes
abbrev pub AreFit : Recorded → World → List Wish → Type 0
AreFit rec w xs = (before behind : List Wish) (x : Wish) → xs ≡ before ++ x ∷ behind → WishOk rec x × IsFree (all_accepted w before) x

-- the wish can be accepted
pub record MayAccept (t : Tables) (v : Contents) (x : Wish) : Type 0 where
  pub world : World
  pub since : ℕ → ℕ
  pub region : ℕ
  pub rest : ℕ
  pub underway : Underway t v world since region (rest + 1)
  pub fit : WishOk (world.recorded region) x
  pub free : IsFree world x

-- ---- tasks that ran and hold their chunks still

-- the world in which these tasks hold their chunks, as tickets do
abbrev pub holding : List Task → World → World
holding ts w = record w {
  grid = record w.grid { holds = λ c. w.grid.holds c + on_chunk c ts };
  tickets = λ c. w.tickets c + on_chunk c ts;
}

-- tables and contents are those of the world w, in which r ends its tick, but that these tasks, which ran in the tick, hold their chunks
pub record StillHold (t : Tables) (v : Contents) (w : World) (since : ℕ → ℕ) (r : ℕ) (ts : List Task) (n : ℕ) : Type 0 where
  pub underway : Underway t v (holding ts w) since r n
  pub tickets : AreTickets t.tickets.entries w.tickets
  pub there : AllByRecursion (λ k. w.recorded r k.chunk ≡ true) ts

-- the wish can be accepted while these tasks hold their chunks
pub record MayAcceptNext (t : Tables) (v : Contents) (r : ℕ) (ts : List Task) (x : Wish) : Type 0 where
  pub world : World
  pub since : ℕ → ℕ
  pub rest : ℕ
  pub held : StillHold t v world since r ts (rest + 1)
  pub fit : WishOk (world.recorded r) x
  pub free : IsFree world x

-- so can all of them, one after another
pub record MayAcceptAll (t : Tables) (v : Contents) (r : ℕ) (ts : List Task) (xs : List Wish) : Type 0 where
  pub world : World
  pub since : ℕ → ℕ
  pub rest : ℕ
  pub held : StillHold t v world since r ts (length xs + rest)
  pub fit : AreFit (world.recorded r) world xs
