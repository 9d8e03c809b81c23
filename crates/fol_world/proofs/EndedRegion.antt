-- A region whose bag came back is released.
use Rattle.std.proofs.Common.{◌≡◌, ℕ, ◌+◌, sym, ◌∙◌, ap, subst, arith, true, List, length}
use Rattle.fol_model.specs.declared.places.ChunkPos.{ChunkPos}
use Rattle.fol_model.specs.ActionStep.{at_id}
use Rattle.fol_model.specs.GridState.{GridState, is_dead}
use Rattle.fol_model.specs.Release.{release}
use Rattle.fol_laws.proofs.FunctionsChanged.{at_here}
use Rattle.fol_regions.specs.Changes.{release_change}
use Rattle.fol_regions.specs.Table.{grid_state}
use Rattle.fol_data.specs.declared.region_data.RegionData.{RegionData}
use Rattle.fol_store.specs.Bag.{Bag, put_back}
use Rattle.fol_store.specs.Stock.{bag_of, next_of}
use Rattle.fol_world.specs.declared.tables.Tables.{Tables}
use Rattle.fol_world.specs.Bags.{AreInOrder, CanJoin, Joins}
use Rattle.fol_world.specs.Follows.{Settle}
use Rattle.fol_world.specs.Released.{BringsBack, CanEnd, EndsRegion, HasChunksOfAll, IsReturned, MayRelease, Releases, parted_in, parts_in, released_bags}
use Rattle.fol_world.proofs.CatchingUp.{place_twice}

-- the bag of r once it was put back, and once it followed the chunks that it noted
module _ (f : ℕ → Bag) (g : GridState) (r tick owed : ℕ) (k m : ℕ → Bag) (put : k ≡ at_id f r (put_back tick owed (f r))) where
  pub own_back : k r ≡ put_back tick owed (f r)
  own_back = ap (λ (x : ℕ → Bag). x r) put ∙ at_here f r (put_back tick owed (f r))

  pub returned : IsReturned g r (k r).tick (k r).owed (m r) → IsReturned g r tick owed (m r)
  returned own = record {
    here = own.here;
    taken = own.taken;
    counter = own.counter ∙ ap (λ (b : Bag). b.tick) own_back;
    owes = own.owes ∙ ap (λ (b : Bag). b.owed) own_back;
    listed = own.listed;
    since = own.since;
  }

  pub in_place : m ≡ at_id k r (m r) → m ≡ at_id f r (m r)
  in_place bags = place_twice f k m r (put ∙ ap (λ (b : Bag). at_id f r b) (sym own_back)) bags

module _ (t u : Tables) (r : ℕ) (places : List ChunkPos) (body : RegionData) (can : CanEnd t r places body) (back : BringsBack t u r body) where
  abbrev after : ℕ → Bag
  after = released_bags (release (grid_state t.regions) r) (release_change (grid_state t.regions) r) r body.tick body.owed (bag_of t.store)

  settles : (h : ℕ → Bag) → Joins (release_change (grid_state t.regions) r).merges (bag_of u.store) h
      → ((h r).here ≡ true) × Settle (release (grid_state t.regions) r) after (parted_in (release (grid_state t.regions) r) (release_change (grid_state t.regions) r) r h)
  settles h joins = can.can.settles (bag_of u.store r) back.own h (subst (λ (f : ℕ → Bag). Joins (release_change (grid_state t.regions) r).merges f h) back.bags joins)

  lists : (h : ℕ → Bag) → Joins (release_change (grid_state t.regions) r).merges (bag_of u.store) h → is_dead ((release (grid_state t.regions) r).state r) ≡ true
      → HasChunksOfAll (release (grid_state t.regions) r) (release_change (grid_state t.regions) r).parts (h r)
  lists h joins = can.can.lists (bag_of u.store r) back.own h (subst (λ (f : ℕ → Bag). Joins (release_change (grid_state t.regions) r).merges f h) back.bags joins)

  pub may_release : MayRelease u r
  may_release =
      let e = back.regions in
      let b = back.bags in
      let n = back.next in
      let a = back.agenda in
      rw e (record {
        ticks = can.comes.ticks;
        grid = back.grid ∙ can.comes.grid;
        spare = can.spare;
        few_ids = can.few_ids;
        after = after;
        joins = subst (CanJoin (release_change (grid_state t.regions) r).merges) (sym b) (can.can.joins (bag_of u.store r) back.own);
        order = subst AreInOrder (sym b) (can.can.order (bag_of u.store r) back.own);
        settles = settles;
        lists = lists;
        follow = rw n can.can.follow;
        slots = omega (arith, can.can.slots, back.slots);
        bags = can.can.bags;
        covers = rw a can.can.covers;
        room = rw a can.room;
      })

  pub ends_region : (v : Tables) → Releases u v r → EndsRegion t v r body
  ends_region v rel = let e = back.regions in record {
    regions = rel.regions ∙ ap (λ x. release (grid_state x) r) e;
    contents = rel.things.flat ∙ back.contents;
    tasks = rel.things.jobs ∙ back.tasks;
    bags = subst (λ x. Settle (release (grid_state x) r) after (bag_of v.store)) e (rel.bags after (subst (λ x. (h : ℕ → Bag) → Joins (release_change (grid_state x) r).merges (bag_of u.store) h
        → ((h r).here ≡ true) × Settle (release (grid_state x) r) after (parted_in (release (grid_state x) r) (release_change (grid_state x) r) r h)) (sym e) settles));
    next = let n = rel.next in let m = back.next in let n' : next_of v.store ≡ next_of u.store + length (parts_in (release (grid_state t.regions) r) (release_change (grid_state t.regions) r) r) = rw e at n in n' ∙ ap (λ (x : ℕ). x + length (parts_in (release (grid_state t.regions) r) (release_change (grid_state t.regions) r) r)) m;
    agenda = rel.agenda;
    stack = let a = back.agenda in rw (e, a) at rel.stack;
    grid = rel.grid ∙ back.grid;
    tickets = rel.tickets ∙ back.tickets;
    course = rel.course ∙ back.course;
  }
