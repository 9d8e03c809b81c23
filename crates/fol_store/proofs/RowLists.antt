-- The lists of a store's parts name exactly what the store holds.
use Rattle.std.proofs.Common.{◌≡◌, ℕ, ◌<◌, false, zero, suc, List, [], ◌∷◌, get_or, map, refl, ◌∙◌, ap, inl, inr, arith}
use Rattle.std.specs.Prelude.{All, Contains, nat_eq}
use Rattle.std.specs.List.{IsDistinct, AllByRecursion}
use Rattle.std.specs.List.Sorted.{IsPermutation}
use Rattle.std.specs.Option.{option_map, unwrap_or}
use Rattle.std.proofs.lemmas.Bool.{cases_Bool, eqb-true}
use Rattle.std.proofs.lemmas.List.Elements.{All-head, All-tail, All-nil, All-contains, Contains-get_or}
use Rattle.std.proofs.lemmas.List.Sorted.{All-permutation}
use Rattle.std.proofs.Math.Path.{fun_ext}
use Rattle.fol_model.specs.declared.openings.BlockAt.{BlockAt}
use Rattle.fol_model.specs.declared.entities.Entity.{Entity}
use Rattle.fol_model.specs.declared.closings.TaskRow.{TaskRow}
use Rattle.fol_model.specs.declared.places.BlockPos.{BlockPos}
use Rattle.fol_model.specs.Geometry.{same_block}
use Rattle.fol_model.specs.World.{block_in, standing_in}
use Rattle.fol_model.specs.ActionStep.{standing_of}
use Rattle.fol_keyed.proofs.Keyed.{Differ}
use Rattle.fol_keyed.proofs.Places.{same_block-true, same_block-self}
use Rattle.fol_chunks.proofs.EntityLists.{standing_found}
use Rattle.fol_queues.proofs.Numbers.{nat_self}
use Rattle.fol_queues.specs.Distinct.{Distinct}
use Rattle.fol_queues.specs.Waiting.{dated_in, job_of}
use Rattle.fol_queues.specs.declared.dated.Dated.{Dated}
use Rattle.fol_bags.specs.declared.slot.Slot.{Slot}
use Rattle.fol_store.specs.TaskRows.{job_of_row, row_of, rows_of}
use Rattle.fol_store.specs.Lists.{blocks_of, entities_of, tasks_of, IsListed}
use Rattle.fol_bags.specs.Things.{of_block, of_entity, of_task, some_number, no_data}
use Rattle.fol_store.specs.Stock.{Stock, Where, arriving, in_spot, in_bag, slot, spot, column, found, flat_of, jobs_of}
use Rattle.fol_bags.specs.Slots.{no_slot}
use Rattle.fol_store.specs.Sound.{IsSound}
use Rattle.fol_store.proofs.Totals.{found_at, found_none}
use Rattle.fol_store.proofs.Listing.{look, list_at, whole, whole_part, whole_differs, look_permuted}

-- what holds of each element and of the default holds at each place
at_any : {X : Type 0} (P : X → Type 0) (xs : List X) (d : X) → P d → All P xs → (i : ℕ) → P (get_or xs i d)
at_any P [] d p h i = p
at_any P (x ∷ xs) d p h zero = All-head P x xs h
at_any P (x ∷ xs) d p h (suc i) = at_any P xs d p (All-tail P x xs h) i

-- nothing is listed
nothing_listed : IsListed no_data
unfolding IsDistinct
nothing_listed = record { contents = record { blocks_differ = tt; blocks_full = All-nil (λ (x : BlockAt). 0 < x.id); entities_differ = tt }; tasks = tt }

abbrev pub block_key : BlockAt → BlockPos
block_key x = x.at

abbrev pub block_value : BlockAt → ℕ
block_value x = x.id

abbrev pub entity_key : Entity → ℕ
entity_key e = e.id

abbrev pub task_key : TaskRow → ℕ
task_key r = r.task.number

-- a block in a list of blocks with numbers above 0
number_looked : (xs : List BlockAt) (b : BlockPos) → All (λ x. 0 < x.id) xs → some_number (block_in xs b) ≡ look same_block same_block-true same_block-self block_key block_value xs b
number_looked [] b h = refl
number_looked (x ∷ xs) b h =
    elim (cases_Bool (same_block x.at b)) [
      | inl e ↦ rw (e, above (x.id) (All-head (λ x. 0 < x.id) x xs h)) refl
      | inr e ↦ rw e (number_looked xs b (All-tail (λ x. 0 < x.id) x xs h))
    ]
  where
    above : (n : ℕ) → 0 < n → nat_eq n 0 ≡ false
    above n l = elim (cases_Bool (nat_eq n 0)) [ inl t ↦ let z : n ≡ 0 = eqb-true n 0 t in absurd (omega arith) | inr t ↦ t ]

block_looked : (xs : List BlockAt) (b : BlockPos) → block_in xs b ≡ unwrap_or (look same_block same_block-true same_block-self block_key block_value xs b) 0
block_looked [] b = refl
block_looked (x ∷ xs) b = elim (cases_Bool (same_block x.at b)) [ inl e ↦ rw e refl | inr e ↦ rw e (block_looked xs b) ]

-- rows of tasks
rows_found : (tick : ℕ) (ds : List Dated) (n : ℕ) → option_map (job_of tick) (dated_in ds n) ≡ rows_of (map (row_of tick) ds) n
rows_found tick [] n = refl
rows_found tick (d ∷ ds) n = elim (cases_Bool (nat_eq d.task.number n)) [ inl e ↦ rw e refl | inr e ↦ rw e (rows_found tick ds n) ]

rows_differ : (tick : ℕ) (ds : List Dated) → Distinct ds → Differ nat_eq eqb-true nat_self task_key (map (row_of tick) ds)
unfolding IsDistinct
rows_differ tick [] d = tt
rows_differ tick (x ∷ xs) d = (each x xs d.0, rows_differ tick xs d.1)
  where
    each : (x : Dated) (xs : List Dated) → AllByRecursion (λ y. nat_eq x.task.number y.task.number ≡ false) xs → AllByRecursion (λ (y : TaskRow). nat_eq x.task.number y.task.number ≡ false) (map (row_of tick) xs)
    each x [] h = tt
    each x (y ∷ ys) h = (h.0, each x ys h.1)

module _ (s : Stock) (sound : IsSound s) (spots : All IsListed s.spots) (bags : All (λ b. IsListed b.body) s.bags) where
  spot_listed : (i : ℕ) → IsListed (spot s i)
  spot_listed = at_any IsListed s.spots no_data nothing_listed spots

  bag_listed : (id : ℕ) → IsListed (slot s id).body
  bag_listed = at_any (λ (b : Slot). IsListed b.body) s.bags no_slot nothing_listed bags

  abbrev pub all_blocks : List BlockAt
  all_blocks = whole s [] blocks_of refl

  abbrev pub all_entities : List Entity
  all_entities = whole s [] entities_of refl

  abbrev pub all_tasks : List TaskRow
  all_tasks = whole s (map (row_of 0) s.arrivals) tasks_of refl

  blocks_each : (w : Where) → Differ same_block same_block-true same_block-self block_key (list_at s [] blocks_of refl w)
  unfolding IsDistinct
  blocks_each arriving = tt
  blocks_each (in_spot i) = (spot_listed i).contents.blocks_differ
  blocks_each (in_bag id) = (bag_listed id).contents.blocks_differ

  block_columns : (b : BlockPos) (w : Where) → column s (of_block b) w ≡ look same_block same_block-true same_block-self block_key block_value (list_at s [] blocks_of refl w) b
  block_columns b arriving = refl
  block_columns b (in_spot i) = number_looked (blocks_of (spot s i)) b (spot_listed i).contents.blocks_full
  block_columns b (in_bag id) = number_looked (blocks_of (slot s id).body) b (bag_listed id).contents.blocks_full

  entities_each : (w : Where) → Differ nat_eq eqb-true nat_self entity_key (list_at s [] entities_of refl w)
  unfolding IsDistinct
  entities_each arriving = tt
  entities_each (in_spot i) = (spot_listed i).contents.entities_differ
  entities_each (in_bag id) = (bag_listed id).contents.entities_differ

  entity_columns : (id : ℕ) (w : Where) → column s (of_entity id) w ≡ look nat_eq eqb-true nat_self entity_key standing_of (list_at s [] entities_of refl w) id
  entity_columns id arriving = refl
  entity_columns id (in_spot i) = standing_found (entities_of (spot s i)) id
  entity_columns id (in_bag u) = standing_found (entities_of (slot s u).body) id

  tasks_each : (w : Where) → Differ nat_eq eqb-true nat_self task_key (list_at s (map (row_of 0) s.arrivals) tasks_of refl w)
  tasks_each arriving = rows_differ 0 s.arrivals sound.arrivals_differ
  tasks_each (in_spot i) = rows_differ (spot s i).tick (spot s i).queues.tasks (spot_listed i).tasks
  tasks_each (in_bag id) = rows_differ (slot s id).body.tick (slot s id).body.queues.tasks (bag_listed id).tasks

  task_columns : (n : ℕ) (w : Where) → column s (of_task n) w ≡ look nat_eq eqb-true nat_self task_key job_of_row (list_at s (map (row_of 0) s.arrivals) tasks_of refl w) n
  task_columns n arriving = rows_found 0 s.arrivals n
  task_columns n (in_spot i) = rows_found (spot s i).tick (spot s i).queues.tasks n
  task_columns n (in_bag id) = rows_found (slot s id).body.tick (slot s id).body.queues.tasks n

  -- no two of the blocks have one place, no two of the entities one id, and no two of the tasks one number
  pub all_blocks_differ : Differ same_block same_block-true same_block-self block_key all_blocks
  all_blocks_differ =
      whole_differs same_block same_block-true same_block-self block_key block_value s [] blocks_of refl (λ b w. column s (of_block b) w) (λ b. found s (of_block b))
      (λ b v e. found_at s (of_block b) v e) (λ b e w. found_none s (of_block b) e w) (λ b v w x y p q. sound.unique (of_block b) v w x y p q) blocks_each block_columns

  pub all_entities_differ : Differ nat_eq eqb-true nat_self entity_key all_entities
  all_entities_differ =
      whole_differs nat_eq eqb-true nat_self entity_key standing_of s [] entities_of refl (λ id w. column s (of_entity id) w) (λ id. found s (of_entity id))
      (λ id v e. found_at s (of_entity id) v e) (λ id e w. found_none s (of_entity id) e w) (λ id v w x y p q. sound.unique (of_entity id) v w x y p q) entities_each entity_columns

  pub all_tasks_differ : Differ nat_eq eqb-true nat_self task_key all_tasks
  all_tasks_differ =
      whole_differs nat_eq eqb-true nat_self task_key job_of_row s (map (row_of 0) s.arrivals) tasks_of refl (λ n w. column s (of_task n) w) (λ n. found s (of_task n))
      (λ n v e. found_at s (of_task n) v e) (λ n e w. found_none s (of_task n) e w) (λ n v w x y p q. sound.unique (of_task n) v w x y p q) tasks_each task_columns

  -- in whatever order, they are what the store holds
  pub blocks_held : (ys : List BlockAt) → IsPermutation all_blocks ys → block_in ys ≡ (flat_of s).blocks
  unfolding flat_of
  blocks_held ys m =
      fun_ext (λ b.
      block_looked ys b
      ∙ ap (λ o. unwrap_or o 0) (look_permuted same_block same_block-true same_block-self block_key block_value s [] blocks_of refl (λ b w. column s (of_block b) w) (λ b. found s (of_block b))
      (λ b v e. found_at s (of_block b) v e) (λ b e w. found_none s (of_block b) e w) (λ b v w x y p q. sound.unique (of_block b) v w x y p q) blocks_each block_columns ys m b))

  pub entities_held : (ys : List Entity) → IsPermutation all_entities ys → standing_in ys ≡ (flat_of s).standing
  unfolding flat_of
  entities_held ys m =
      fun_ext (λ id.
      standing_found ys id
      ∙ look_permuted nat_eq eqb-true nat_self entity_key standing_of s [] entities_of refl (λ id w. column s (of_entity id) w) (λ id. found s (of_entity id))
      (λ id v e. found_at s (of_entity id) v e) (λ id e w. found_none s (of_entity id) e w) (λ id v w x y p q. sound.unique (of_entity id) v w x y p q) entities_each entity_columns ys m id)

  pub tasks_held : (ys : List TaskRow) → IsPermutation all_tasks ys → rows_of ys ≡ jobs_of s
  unfolding jobs_of
  tasks_held ys m =
      fun_ext (λ n.
      look_permuted nat_eq eqb-true nat_self task_key job_of_row s (map (row_of 0) s.arrivals) tasks_of refl (λ n w. column s (of_task n) w) (λ n. found s (of_task n))
      (λ n v e. found_at s (of_task n) v e) (λ n e w. found_none s (of_task n) e w) (λ n v w x y p q. sound.unique (of_task n) v w x y p q) tasks_each task_columns ys m n)

  -- none of the blocks has number 0
  pub blocks_above : (ys : List BlockAt) → IsPermutation all_blocks ys → All (λ x. 0 < x.id) ys
  blocks_above ys m = All-permutation (λ x. 0 < x.id) all_blocks ys m (λ k d l. above (get_or all_blocks k d) (whole_part s [] blocks_of refl (get_or all_blocks k d) (Contains-get_or all_blocks k d l)))
    where
      above : (x : BlockAt) → (w : Where) × Contains (list_at s [] blocks_of refl w) x → 0 < x.id
      above x (arriving, c) = absurd (omega (arith, c.1))
      above x (in_spot i, c) = All-contains (λ x. 0 < x.id) (blocks_of (spot s i)) x (spot_listed i).contents.blocks_full c
      above x (in_bag id, c) = All-contains (λ x. 0 < x.id) (blocks_of (slot s id).body) x (bag_listed id).contents.blocks_full c
