-- The rows of entities, from a map of where they are.
use Rattle.std.proofs.Common.{◌≡◌, ℕ, ◌<◌, ◌≤◌, refl, sym, ◌∙◌, ap, arith, Bool, true, false, inl, inr, List, [], ◌∷◌, ◌++◌}
use Rattle.std.specs.Prelude.{nat_eq, nat_le, map, flat_map, if◌then◌else◌, Option, Some, None}
use Rattle.std.specs.Option.{option_map}
use Rattle.std.specs.List.{AllByRecursion, find, list_all, list_any}
use Rattle.std.specs.List.Sorted.{IsStrictlySortedBy}
use Rattle.std.specs.BTreeMap.{BTreeMap, IsOrdered}
use Rattle.std.specs.Ordering.{nat_cmp, eq_by_cmp}
use Rattle.std.specs.declared.cmp.Ordering.TheVariants.{Less}
use Rattle.std.proofs.Math.Path.{fun_ext}
use Rattle.std.proofs.lemmas.Bool.{cases_Bool, and_parts, eqb-true, eq-eqb, leb-true, or_left, or_right, true≢false}
use Rattle.std.proofs.lemmas.List.{append-nil}
use Rattle.std.proofs.lemmas.List.Concat.{flat_map-cons}
use Rattle.std.proofs.lemmas.List.Folds.{list_any-append}
use Rattle.fol_model.specs.declared.entities.Entity.{Entity}
use Rattle.fol_model.specs.declared.entities.Place.{Place}
use Rattle.fol_model.specs.declared.entities.Place.TheVariants.{At, Transit}
use Rattle.fol_model.specs.declared.actions.Action.{Action}
use Rattle.fol_model.specs.declared.actions.Action.TheVariants as action
use Rattle.fol_model.specs.declared.closings.TaskRow.{TaskRow}
use Rattle.fol_model.specs.declared.closings.EntityRow.{EntityRow}
use Rattle.fol_model.specs.declared.openings.Opening.{Opening}
use Rattle.fol_model.specs.ActionStep.{Standing, standing_of}
use Rattle.fol_model.specs.Counting.{some_below, least}
use Rattle.fol_model.specs.Job.{Job}
use Rattle.fol_model.specs.Limits.{is_entity, is_entity_id}
use Rattle.fol_model.specs.Universe.{numbers_below}
use Rattle.fol_model.specs.Outputs.{brings, entity_row, entity_rows, is_arrival_of}
use Rattle.fol_model.specs.World.{World, standing_in}
use Rattle.fol_laws.specs.OnePlace.{PlacesOk, place_at, place_of}
use Rattle.fol_laws.proofs.Coordinates.{list_any-map, list_any-flat_map}
use Rattle.fol_laws.proofs.Listed as laws
use Rattle.fol_laws.proofs.NumberOrder.{in_numbers, numbers_sorted, numbers_tell}
use Rattle.fol_laws.proofs.NumbersBelow.{some_below-gives}
use Rattle.fol_laws.proofs.SortedRows.{all_append}
use Rattle.fol_laws.proofs.Tests.{same_answer}
use Rattle.fol_chunks.specs.Rows.{by_id}
use Rattle.fol_chunks.proofs.EntityLists.{standing_found}
use Rattle.fol_store.specs.TaskRows.{by_number, job_of_row, rows_of}
use Rattle.fol_world.specs.Closings.{ArePlaces, IsPlace, PutsAll, arrival_entries, arrival_in, place_row, places_in, row_at, standing_entry, standing_row}
use Rattle.fol_world.proofs.EntriesPut.{LooksUp, entries_are, entry_of, looks_up, puts_more, puts_right}
use Rattle.fol_world.proofs.KeyedRows.{each, finds_own, found_passes, map_flat}
use Rattle.fol_world.proofs.LeastFound.{only_kept}
use Rattle.fol_world.proofs.RowsInOrder.{own_jobs, tells_by, tells_numbers}

-- ---- a map of places has the rows in order
same_number : (a b : ℕ) → eq_by_cmp nat_cmp a b ≡ nat_eq a b
same_number a b = same_answer (eq_by_cmp nat_cmp a b) (nat_eq a b)
    (λ h. eq-eqb a b (laws.same_by nat_cmp numbers_tell a b h))
    (λ h. let s : a ≡ b = eqb-true a b h in ap (eq_by_cmp nat_cmp a) (sym s) ∙ laws.own nat_cmp numbers_tell a)

row_of : (id : ℕ) (o : Option Place) → map place_row (entry_of id o) ≡ row_at id o
row_of id None = refl
row_of id (Some p) = refl

-- the rows of the entries of entities that stand
standing_rows : (es : List Entity) → map standing_row es ≡ map place_row (map standing_entry es)
standing_rows [] = refl
standing_rows (e ∷ es) = ap (λ (rows : List EntityRow). standing_row e ∷ rows) (standing_rows es)

-- the ids of entities in order rise
keys_rise : (es : List Entity) → IsStrictlySortedBy by_id es → IsStrictlySortedBy nat_cmp (map (λ (e : ℕ × Place). e.0) (map standing_entry es))
unfolding IsStrictlySortedBy
keys_rise [] h = tt
keys_rise (x ∷ xs) h = (below xs h.0, keys_rise xs h.1)
  where
    below : (ys : List Entity) → AllByRecursion (λ y. by_id x y ≡ Less) ys → AllByRecursion (λ k. nat_cmp x.id k ≡ Less) (map (λ (e : ℕ × Place). e.0) (map standing_entry ys))
    below [] h = tt
    below (y ∷ ys) h = (h.0, below ys h.1)

module _ (f : ℕ → Option Place) (entities : List Entity) (tasks : List TaskRow) (are : ArePlaces f entities tasks) where
  abbrev entries : List (ℕ × Place)
  entries = map standing_entry entities ++ flat_map arrival_entries tasks

  has_entry : (id : ℕ) (p : Place) → f id ≡ Some p → list_any (λ (e : ℕ × Place). eq_by_cmp nat_cmp e.0 id) entries ≡ true
  has_entry id p h = ap (λ (test : ℕ × Place → Bool). list_any test entries) (fun_ext (λ (e : ℕ × Place). same_number e.0 id)) ∙ are.all id p h

  within : (id : ℕ) (p : Place) → f id ≡ Some p → list_any (eq_by_cmp nat_cmp id) (numbers_below 1000000001) ≡ true
  within id p h = ap (λ (test : ℕ → Bool). list_any test (numbers_below 1000000001)) (fun_ext (λ k. same_number id k)) ∙ in_numbers 1000000001 id (are.few id p h)

  rows_are : (es : List (ℕ × Place)) → IsStrictlySortedBy nat_cmp (map (λ (e : ℕ × Place). e.0) es) → LooksUp nat_cmp (tells_by nat_cmp numbers_tell) f es → map place_row es ≡ places_in f
  rows_are es ordered right =
      ap (map place_row) (entries_are nat_cmp (tells_by nat_cmp numbers_tell) f (numbers_below 1000000001) es (numbers_sorted 1000000001) ordered right within)
      ∙ map_flat place_row (λ k. entry_of k (f k)) (numbers_below 1000000001)
      ∙ ap (λ (g : ℕ → List EntityRow). flat_map g (numbers_below 1000000001)) (fun_ext (λ k. row_of k (f k)))

  pub places_are : (old m n : BTreeMap ℕ Place) → old.entries ≡ [] → IsOrdered nat_cmp n → PutsAll nat_cmp old m (map standing_entry entities) → PutsAll nat_cmp m n (flat_map arrival_entries tasks)
      → map place_row n.entries ≡ places_in f
  places_are old m n none ordered stand arrive =
      let puts = puts_more nat_cmp old m n (map standing_entry entities) (flat_map arrival_entries tasks) stand arrive in
      let tells = tells_by nat_cmp numbers_tell in
      let right = puts_right nat_cmp tells.is f old n entries none puts are.right has_entry in
      rows_are n.entries ordered right

  -- where no task brings one, those that stand are all
  pub standing_are : IsStrictlySortedBy by_id entities → flat_map arrival_entries tasks ≡ [] → map standing_row entities ≡ places_in f
  standing_are rise none =
      let tells = tells_by nat_cmp numbers_tell in
      let same : entries ≡ map standing_entry entities = ap (λ (l : List (ℕ × Place)). map standing_entry entities ++ l) none ∙ append-nil _ in
      let right : AllByRecursion (IsPlace f) (map standing_entry entities) = rw same at are.right in
      let has : (id : ℕ) (p : Place) → f id ≡ Some p → list_any (λ (e : ℕ × Place). eq_by_cmp nat_cmp e.0 id) (map standing_entry entities) ≡ true = rw same at has_entry in
      standing_rows entities
      ∙ rows_are (map standing_entry entities) (keys_rise entities rise) (looks_up nat_cmp tells f (map standing_entry entities) right has)

-- ---- entities that stand, and tasks that bring the others
mapped_all : {X Y : Type 0} (P : Y → Type 0) (g : X → Y) (xs : List X) → AllByRecursion (λ x. P (g x)) xs → AllByRecursion P (map g xs)
mapped_all P g [] h = tt
mapped_all P g (x ∷ xs) h = (h.0, mapped_all P g xs h.1)

listed_all : {X Y : Type 0} (P : Y → Type 0) (g : X → List Y) (xs : List X) → AllByRecursion (λ x. AllByRecursion P (g x)) xs → AllByRecursion P (flat_map g xs)
listed_all P g [] h = tt
listed_all {X} {Y} P g (x ∷ xs) h = rw (flat_map-cons {A = Y} g x xs) (all_append P (g x) (flat_map g xs) h.0 (listed_all P g xs h.1))

-- where a look-up finds an element that passes another test, one passes it
found_any : {X : Type 0} (p q : X → Bool) (xs : List X) (x : X) → find p xs ≡ Some x → q x ≡ true → list_any q xs ≡ true
found_any p q [] x h k = absurd (cc)
found_any p q (y ∷ ys) x h k = elim (cases_Bool (p y)) [
  | inl e ↦ let f : Some y ≡ Some x = rw e at h in let s : y ≡ x = cc in or_left (q y) _ (ap q s ∙ k)
  | inr e ↦ or_right (q y) _ (found_any p q ys x (rw e at h) k)
]

module _ (o : Opening) (w : World) (ok : PlacesOk o w) (entities : List Entity) (tasks : List TaskRow) (stand : standing_in entities ≡ w.flat.standing) (rise : IsStrictlySortedBy by_id entities)
    (queued : rows_of tasks ≡ w.jobs) (numbered : IsStrictlySortedBy by_number tasks) where
  at_own : (e : Entity) → find (λ (x : Entity). nat_eq x.id e.id) entities ≡ Some e → place_of w e.id ≡ Some (At e.at)
  at_own e h = (ok.stands e.id (standing_of e) (sym (ap (λ (f : ℕ → Option Standing). f e.id) stand) ∙ standing_found entities e.id ∙ ap (option_map standing_of) h)).0

  stand_right : AllByRecursion (IsPlace (place_of w)) (map standing_entry entities)
  stand_right = mapped_all (IsPlace (place_of w)) standing_entry entities
      (each (λ (e : Entity). find (λ (x : Entity). nat_eq x.id e.id) entities ≡ Some e) (λ (e : Entity). place_of w e.id ≡ Some (At e.at)) at_own entities
      (finds_own nat_cmp nat_eq tells_numbers (λ (e : Entity). e.id) entities rise))

  arrives_right : (n : ℕ) (a : Action) (j : Job) → w.jobs n ≡ Some j → j.action ≡ a → AllByRecursion (IsPlace (place_of w)) (arrival_in n a)
  arrives_right n (action.Set at id) j h k = tt
  arrives_right n (action.Copy at to) j h k = tt
  arrives_right n (action.Load c) j h k = tt
  arrives_right n (action.Unload c) j h k = tt
  arrives_right n (action.Post c d inner) j h k = tt
  arrives_right n (action.Send id to) j h k = tt
  arrives_right n (action.Arrive e) j h k = ((ok.arrives e.id n (ap (brings e.id) h ∙ ap (is_arrival_of e.id) k ∙ eq-eqb e.id e.id refl)).0, tt)
  arrives_right n (action.Every p l inner) j h k = tt

  arrivals_right : AllByRecursion (IsPlace (place_of w)) (flat_map arrival_entries tasks)
  arrivals_right = listed_all (IsPlace (place_of w)) arrival_entries tasks
      (each (λ (r : TaskRow). w.jobs r.task.number ≡ Some (job_of_row r)) (λ (r : TaskRow). AllByRecursion (IsPlace (place_of w)) (arrival_entries r))
      (λ (r : TaskRow) h. arrives_right r.task.number r.task.action (job_of_row r) h refl) tasks (own_jobs w.jobs tasks numbered queued))

  abbrev has : ℕ → ℕ × Place → Bool
  has id e = nat_eq e.0 id

  stands_listed : (id : ℕ) (b : Standing) (r : Option Entity) → w.flat.standing id ≡ Some b → find (λ (x : Entity). nat_eq x.id id) entities ≡ r → list_any (has id) (map standing_entry entities) ≡ true
  stands_listed id b None h e =
      let z : w.flat.standing id ≡ None = sym (ap (λ (f : ℕ → Option Standing). f id) stand) ∙ standing_found entities id ∙ ap (option_map standing_of) e in absurd (let y : None ≡ Some b = sym z ∙ h in cc)
  stands_listed id b (Some x) h e = list_any-map (has id) standing_entry entities ∙ found_passes (λ (x : Entity). nat_eq x.id id) entities x e

  brings_one : (id n : ℕ) (a : Action) → is_arrival_of id a ≡ true → list_any (has id) (arrival_in n a) ≡ true
  brings_one id n (action.Set at k) h = absurd (true≢false (sym h))
  brings_one id n (action.Copy at to) h = absurd (true≢false (sym h))
  brings_one id n (action.Load c) h = absurd (true≢false (sym h))
  brings_one id n (action.Unload c) h = absurd (true≢false (sym h))
  brings_one id n (action.Post c d inner) h = absurd (true≢false (sym h))
  brings_one id n (action.Send k to) h = absurd (true≢false (sym h))
  brings_one id n (action.Arrive e) h = or_left (nat_eq e.id id) false h
  brings_one id n (action.Every p l inner) h = absurd (true≢false (sym h))

  arrival_listed : (id n : ℕ) (r : Option TaskRow) → brings id (w.jobs n) ≡ true → find (λ (x : TaskRow). nat_eq x.task.number n) tasks ≡ r → list_any (has id) (flat_map arrival_entries tasks) ≡ true
  arrival_listed id n None h e =
      let z : w.jobs n ≡ None = sym (ap (λ (f : ℕ → Option Job). f n) queued) ∙ ap (option_map job_of_row) e in absurd (true≢false (sym h ∙ ap (brings id) z))
  arrival_listed id n (Some r) h e =
      let z : w.jobs n ≡ Some (job_of_row r) = sym (ap (λ (f : ℕ → Option Job). f n) queued) ∙ ap (option_map job_of_row) e in
      list_any-flat_map (has id) arrival_entries tasks
      ∙ found_any (λ (x : TaskRow). nat_eq x.task.number n) (λ (x : TaskRow). list_any (has id) (arrival_entries x)) tasks r e (brings_one id r.task.number r.task.action (sym (ap (brings id) z) ∙ h))

  all_listed : (id : ℕ) (p : Place) (b : Option Standing) → w.flat.standing id ≡ b → place_of w id ≡ Some p → list_any (has id) (map standing_entry entities ++ flat_map arrival_entries tasks) ≡ true
  all_listed id p (Some b) s h = list_any-append (has id) (map standing_entry entities) (flat_map arrival_entries tasks)
      ∙ or_left (list_any (has id) (map standing_entry entities)) _ (stands_listed id b (find (λ (x : Entity). nat_eq x.id id) entities) s refl)
  all_listed id p None s h = elim (cases_Bool (some_below (λ n. brings id (w.jobs n)) w.next_job)) [
    | inl e ↦ let k = some_below-gives (λ n. brings id (w.jobs n)) w.next_job e in list_any-append (has id) (map standing_entry entities) (flat_map arrival_entries tasks)
        ∙ or_right (list_any (has id) (map standing_entry entities)) _ (arrival_listed id k.0 (find (λ (x : TaskRow). nat_eq x.task.number k.0) tasks) k.2 refl)
    | inr e ↦ absurd (let z : None ≡ Some p = rw (s, e) at h in cc)
  ]

  pub are_places : ((id : ℕ) (b : Standing) → standing_in o.entities id ≡ Some b → id < 1000000001) → ArePlaces (place_of w) entities tasks
  are_places few = record {
    right = all_append (IsPlace (place_of w)) (map standing_entry entities) (flat_map arrival_entries tasks) stand_right arrivals_right;
    all = λ id p h. all_listed id p (w.flat.standing id) refl h;
    few = λ id p h. few_at id p (standing_in o.entities id) refl h;
  }
    where
      few_at : (id : ℕ) (p : Place) (b : Option Standing) → standing_in o.entities id ≡ b → place_of w id ≡ Some p → id < 1000000001
      few_at id p None e h = absurd (let z : None ≡ Some p = sym (ok.none id e) ∙ h in cc)
      few_at id p (Some b) e h = few id b e

-- ---- the rows of the world
abbrev in_transit : ℕ → ℕ → EntityRow
in_transit id n = record { id = id; place = Transit n }

module _ (o : Opening) (w : World) (ok : PlacesOk o w) where
  one_number : (id a b : ℕ) → brings id (w.jobs a) ≡ true → brings id (w.jobs b) ≡ true → a ≡ b
  one_number id a b h k = let e : Some (Transit a) ≡ Some (Transit b) = sym (ok.arrives id a h).0 ∙ (ok.arrives id b k).0 in let f : Transit a ≡ Transit b = cc in cc

  row_is : (id : ℕ) (b : Option Standing) → w.flat.standing id ≡ b → row_at id (place_of w id) ≡ entity_row w id b
  row_is id (Some b) s = rw s refl
  row_is id None s = rw s (transit_row (some_below (λ n. brings id (w.jobs n)) w.next_job) (least (λ n. brings id (w.jobs n)) w.next_job)
      ∙ ap (λ (ns : List ℕ). map (in_transit id) ns) (sym (only_kept (λ n. brings id (w.jobs n)) (one_number id) w.next_job)))
    where
      transit_row : (found : Bool) (n : ℕ) → row_at id (place_at None found n) ≡ map (in_transit id) (if found then n ∷ [] else [])
      transit_row true n = refl
      transit_row false n = refl

  pub entity_rows_are : places_in (place_of w) ≡ entity_rows w
  unfolding entity_rows
  entity_rows_are = ap (λ (g : ℕ → List EntityRow). flat_map g (numbers_below 1000000001)) (fun_ext (λ id. row_is id (w.flat.standing id) refl))

-- an entity of the opening has an id within the limits
pub few_ids : (es : List Entity) → list_all is_entity es ≡ true → (id : ℕ) (b : Standing) → standing_in es id ≡ Some b → id < 1000000001
unfolding is_entity is_entity_id
few_ids [] h id b e = absurd (cc)
few_ids (x ∷ xs) h id b e = let p = and_parts (is_entity x) (list_all is_entity xs) h in elim (cases_Bool (nat_eq x.id id)) [
  | inl k ↦ let s : x.id ≡ id = eqb-true x.id id k in
      let a = and_parts (is_entity_id x.id) _ p.0 in let l = and_parts (nat_le 1 x.id) (nat_le x.id 1000000000) a.0 in let m : x.id ≤ 1000000000 = leb-true _ _ l.1 in omega arith
  | inr k ↦ few_ids xs p.1 id b (rw k at e)
]
