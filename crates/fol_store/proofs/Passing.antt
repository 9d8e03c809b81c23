-- A tick of a region passes in which none of its tasks is due: its tasks come nearer, and its entities walk.
use Rattle.std.proofs.Common.{◌≡◌, ◌≢◌, ◌⊎◌, ◌&&◌, ℕ, ◌+◌, ◌-◌, ◌<◌, ◌≤◌, ◌^◌, Bool, true, false, List, [], ◌∷◌, length, refl, sym, ◌∙◌, ap, subst, inl, inr, arith, Option, Some, None, cond}
use Rattle.std.specs.Prelude.{nat_eq, if◌then◌else◌, count_by}
use Rattle.std.specs.Option.{option_map, unwrap_or, ForSome}
use Rattle.std.proofs.lemmas.Bool.{cases_Bool, cases_eq, leb-true, leb-false}
use Rattle.std.proofs.lemmas.List.Sums.{sum_by-cons}
use Rattle.std.proofs.Math.Path.{fun_ext}
use Rattle.fol_model.specs.declared.places.ChunkPos.{ChunkPos}
use Rattle.fol_model.specs.declared.places.BlockPos.{BlockPos}
use Rattle.fol_model.specs.Geometry.{chunk_of}
use Rattle.fol_model.specs.ActionStep.{Flat, Recorded, Standing}
use Rattle.fol_model.specs.FlatTick.{ahead, moved, walked}
use Rattle.fol_model.specs.Job.{Job, queued}
use Rattle.fol_queues.specs.Waiting.{dated, dated_in, due_count, is_due, job_of}
use Rattle.fol_queues.specs.declared.dated.Dated.{Dated}
use Rattle.fol_chunks.specs.Contents.{Contents, flat_of as contents_of, is_recorded}
use Rattle.fol_chunks.proofs.Flats.{flat_is}
use Rattle.fol_data.specs.Rests.{IsInTime}
use Rattle.fol_bags.specs.declared.slot.Slot.{Slot}
use Rattle.fol_store.specs.Passing.{nearer}
use Rattle.fol_bags.specs.Things.{Key, of_block, of_entity, of_task, Thing, things, chunk_at, some_number, IsTimely}
use Rattle.fol_store.specs.Stock.{Stock, Where, arriving, in_spot, in_bag, slot, place, column, found, flat_of, jobs_of}
use Rattle.fol_store.specs.Sound.{Allows, Near, IsBag, IsSound}
use Rattle.fol_store.proofs.Totals.{where_cases, IsUnique, found_of, found_at, found_none}
use Rattle.fol_store.proofs.Resound.{Kept, kept_bag, kept_self, near_kept, whole_alone}
use Rattle.fol_store.proofs.BagSteps.{with_bags, slot_here, slot_other}
use Rattle.fol_store.proofs.WholeBag.{inside, outside_it}

-- what counts as one
abbrev weight : Bool → ℕ
weight b = cond b 1 0

-- where no task of a list is due, each is due later
due_later : (now : ℕ) (ds : List Dated) → count_by (is_due now) ds ≡ 0 → (n : ℕ) → ForSome (dated_in ds n) (λ d. now < d.deadline)
due_later now [] c n d q = cc
due_later now (x ∷ xs) c n d q =
    let s : count_by (is_due now) (x ∷ xs) ≡ cond (is_due now x) 1 0 + count_by (is_due now) xs = sum_by-cons (λ z. cond (is_due now z) 1 0) x xs in
    elim (cases_Bool (nat_eq x.task.number n)) [
      | inl e ↦
          let same : Some x ≡ Some d = rw e at q in
          let is : x ≡ d = cc in
          elim (cases_Bool (is_due now x)) [
            | inl y ↦ let one : weight (is_due now x) ≡ weight true = ap weight y in absurd (omega (arith, s, one, c))
            | inr y ↦ let l : now < x.deadline = leb-false x.deadline now y in omega (arith, l, ap (λ (z : Dated). z.deadline) is)
          ]
      | inr e ↦ due_later now xs (omega (arith, s, c)) n d (rw e at q)
    ]

-- where no task of a list is due, none was due before
pub none_sooner : (now later : ℕ) (ds : List Dated) → now ≤ later → count_by (is_due later) ds ≡ 0 → count_by (is_due now) ds ≡ 0
none_sooner now later [] l c = refl
none_sooner now later (x ∷ xs) l c =
    let a : count_by (is_due later) (x ∷ xs) ≡ cond (is_due later x) 1 0 + count_by (is_due later) xs = sum_by-cons (λ z. cond (is_due later z) 1 0) x xs in
    let b : count_by (is_due now) (x ∷ xs) ≡ cond (is_due now x) 1 0 + count_by (is_due now) xs = sum_by-cons (λ z. cond (is_due now z) 1 0) x xs in
    elim (cases_Bool (is_due later x)) [
      | inl y ↦ let one : weight (is_due later x) ≡ weight true = ap weight y in absurd (omega (arith, a, one, c))
      | inr y ↦
          let far : later < x.deadline = leb-false x.deadline later y in
          let rest : count_by (is_due now) xs ≡ 0 = none_sooner now later xs l (omega (arith, a, c)) in
          elim (cases_Bool (is_due now x)) [
            | inl z ↦ let near : x.deadline ≤ now = leb-true x.deadline now z in absurd (omega (arith, far, near, l))
            | inr z ↦ let none : weight (is_due now x) ≡ weight false = ap weight z in omega (arith, b, none, rest)
          ]
    ]

-- an entity one tick later
abbrev strode : Recorded → Standing → Standing
strode rec b = if (rec (chunk_of b.at) && rec (chunk_of (ahead b.vx b.vz b.at))) then record b { at = ahead b.vx b.vz b.at } else b

-- what a thing is one tick later
abbrev aged : Recorded → (k : Key) → Thing k → Thing k
aged rec (of_block b) x = x
aged rec (of_entity n) x = strode rec x
aged rec (of_task n) j = record j { rest = j.rest - 1 }

-- it stays on the chunks
aged_stays : (rec : Recorded) (k : Key) (x : Thing k) → rec (chunk_at k x) ≡ true → rec (chunk_at k (aged rec k x)) ≡ true
aged_stays rec (of_block b) x e = e
aged_stays rec (of_entity n) x e = elim (cases_Bool (rec (chunk_of (ahead x.vx x.vz x.at)))) [ inl f ↦ rw (e, f) f | inr f ↦ rw (e, f) e ]
aged_stays rec (of_task n) j e = e

some_if : {X : Type 0} (b : Bool) (x y : X) → (if b then Some x else Some y) ≡ Some (if b then x else y)
some_if true x y = refl
some_if false x y = refl

strode_all : (rec : Recorded) (o : Option Standing) → walked rec o ≡ option_map (strode rec) o
strode_all rec None = refl
strode_all rec (Some x) = some_if (rec (chunk_of x.at) && rec (chunk_of (ahead x.vx x.vz x.at))) (record x { at = ahead x.vx x.vz x.at }) x

map_same : {X : Type 0} (f : X → X) → ((x : X) → f x ≡ x) → (o : Option X) → o ≡ option_map f o
map_same f h None = refl
map_same f h (Some x) = ap (λ y. Some y) (sym (h x))

aged_job : (rec : Recorded) (tick n : ℕ) (o : Option Dated) → option_map (job_of (tick + 1)) o ≡ option_map (aged rec (of_task n)) (option_map (job_of tick) o)
aged_job rec tick n None = refl
aged_job rec tick n (Some d) =
    let less : d.deadline - (tick + 1) ≡ (d.deadline - tick) - 1 = omega arith in
    ap (λ r. Some (queued d.task.chunk r d.task.action)) less

module _ (s : Stock) (bags : List Slot) (spare slots id : ℕ) (chunks : Contents) where
  -- the bag with its counter one higher, one tick less owed, and its contents one tick later
  abbrev pub passed : Slot
  passed = record (slot s id) {
    body = record (slot s id).body {
      tick = (slot s id).body.tick + 1;
      owed = (slot s id).body.owed - 1;
      chunks = chunks;
    };
  }

  abbrev t : Stock
  t = with_bags s bags spare slots

  abbrev rec : ChunkPos → Bool
  rec = is_recorded (slot s id).chunks

  passed_things : contents_of chunks ≡ moved rec (contents_of (slot s id).body.chunks) → (k : Key) → things passed.body k ≡ option_map (aged rec k) (things (slot s id).body k)
  passed_things walk (of_block b) = ap (λ (f : Flat). some_number (f.blocks b)) walk ∙ map_same (aged rec (of_block b)) (λ x. refl) (things (slot s id).body (of_block b))
  passed_things walk (of_entity n) = ap (λ (f : Flat). f.standing n) walk ∙ strode_all rec ((contents_of (slot s id).body.chunks).standing n)
  passed_things walk (of_task n) = aged_job rec (slot s id).body.tick n (dated (slot s id).body.queues n)

  passed_kept : Kept (slot s id) passed
  passed_kept = record { here = refl; taken = refl; chunks = refl; list = refl; touched = refl; listed = λ o. o; calm = λ o. o }

  module _ (none : due_count ((slot s id).body.tick + 1) (slot s id).body.queues ≡ 0) (h : IsSound s) where
    -- each task has at least two ticks to wait
    waits_on : (n : ℕ) → ForSome (dated (slot s id).body.queues n) (λ d. (slot s id).body.tick + 2 ≤ d.deadline)
    waits_on n d q = let l : (slot s id).body.tick + 1 < d.deadline = due_later ((slot s id).body.tick + 1) (slot s id).body.queues.tasks none n d q in omega (arith, l)

    pub passed_timely : (slot s id).body.tick < 2 ^ 62 → IsTimely passed.body
    passed_timely early = record {
      tick = let l = early in omega (arith, l);
      in_time = λ n d q.
          let old : IsInTime (slot s id).body.tick d = (h.bag_times id).in_time n d q in
          record { low = let l = waits_on n d q in omega (arith, l); high = let l = old.high in omega (arith, l) };
    }

    module _ (listed : (slot s id).listed ≡ true) (calm : (slot s id).calm ≡ true) where
      pub waits_longer : (n : ℕ) → ForSome (jobs_of s n) (λ j. rec j.chunk ≡ true → 2 ≤ j.rest)
      unfolding jobs_of
      waits_longer n j q r =
          let p = found_at s (of_task n) j q in
          let w : p.0 ≡ in_bag id = whole_alone s id (slot s id) (h.bags id) listed calm (of_task n) p.0 j p.1 r in
          let here : column s (of_task n) (in_bag id) ≡ Some j = ap (column s (of_task n)) (sym w) ∙ p.1 in
          go (dated (slot s id).body.queues n) refl here
        where
          go : (o : Option Dated) → dated (slot s id).body.queues n ≡ o → option_map (job_of (slot s id).body.tick) (dated (slot s id).body.queues n) ≡ Some j → 2 ≤ j.rest
          go None e f = let g : None ≡ Some j = ap (option_map (job_of (slot s id).body.tick)) (sym e) ∙ f in cc
          go (Some d) e f =
              let g : Some (job_of (slot s id).body.tick d) ≡ Some j = ap (option_map (job_of (slot s id).body.tick)) (sym e) ∙ f in
              let is : job_of (slot s id).body.tick d ≡ j = cc in
              let rest : d.deadline - (slot s id).body.tick ≡ j.rest = ap (λ (z : Job). z.rest) is in
              let l = waits_on n d e in
              omega (arith, rest, l)

  module _ (e : (u : ℕ) → slot t u ≡ (if nat_eq id u then passed else slot s u)) (walk : contents_of chunks ≡ moved rec (contents_of (slot s id).body.chunks)) (h : IsSound s)
      (listed : (slot s id).listed ≡ true) (calm : (slot s id).calm ≡ true) where
    col_here : (k : Key) → column t k (in_bag id) ≡ option_map (aged rec k) (column s k (in_bag id))
    col_here k = ap (λ (b : Slot). things b.body k) (slot_here s bags spare slots id passed e) ∙ passed_things walk k

    col_other : (k : Key) (w : Where) → w ≢ in_bag id → column t k w ≡ column s k w
    col_other k arriving n = refl
    col_other k (in_spot i) n = refl
    col_other k (in_bag u) n = ap (λ (b : Slot). things b.body k) (slot_other s bags spare slots id passed e u (λ q. n (ap (λ v. in_bag v) (sym q))))

    -- what lies in a part lay there before, on the same chunk, or it lies in the bag, on one of its chunks
    record Back (k : Key) (w : Where) (x : Thing k) : Type 0 where
      pub thing : Thing k
      pub had : column s k w ≡ Some thing
      pub chunk : (chunk_at k thing ≡ chunk_at k x) ⊎ ((w ≡ in_bag id) × (rec (chunk_at k x) ≡ true))

    back : (k : Key) (w : Where) (x : Thing k) → column t k w ≡ Some x → Back k w x
    back k w x q =
        elim (where_cases w (in_bag id)) [
          | inl z ↦ came z (column s k (in_bag id)) refl (sym (col_here k) ∙ ap (column t k) (sym z) ∙ q)
          | inr n ↦ record { thing = x; had = sym (col_other k w n) ∙ q; chunk = inl refl }
        ]
      where
        came : w ≡ in_bag id → (o : Option (Thing k)) → column s k (in_bag id) ≡ o → option_map (aged rec k) (column s k (in_bag id)) ≡ Some x → Back k w x
        came z None g f = let r : None ≡ Some x = ap (option_map (aged rec k)) (sym g) ∙ f in absurd (let y : ⊥ = cc in y)
        came z (Some y) g f =
            let r : Some (aged rec k y) ≡ Some x = ap (option_map (aged rec k)) (sym g) ∙ f in
            let is : aged rec k y ≡ x = cc in
            let there : rec (chunk_at k x) ≡ true = ap (λ v. rec (chunk_at k v)) (sym is) ∙ aged_stays rec k y (inside s id h listed calm k y g) in
            record { thing = y; had = ap (column s k) z ∙ g; chunk = inr (z, there) }

    passed_unique : IsUnique t
    passed_unique k v w x y q r = let a = back k v x q in let b = back k w y r in h.unique k v w a.thing b.thing a.had b.had

    -- the things of the bag's chunks may lie in it
    home : (c : ChunkPos) → rec c ≡ true → (place s c).bag ≡ Some id
    home c r = (h.bags id).held (rw listed refl) c r

    passed_lies : (k : Key) (w : Where) (x : Thing k) → column t k w ≡ Some x → Allows (place s (chunk_at k x)) w
    passed_lies k w x q =
        let b = back k w x q in
        elim b.chunk [
          | inl c ↦ let P : ChunkPos → Type 0 = λ c. Allows (place s c) w in subst P c (h.lies k w b.thing b.had)
          | inr c ↦ let P : Where → Type 0 = λ v. Allows (place s (chunk_at k x)) v in subst P (sym c.0) (home (chunk_at k x) c.1)
        ]

    passed_near : (u : ℕ) → (slot s u).listed ≡ true → (k : Key) (w : Where) (x : Thing k) → column t k w ≡ Some x → is_recorded (slot s u).chunks (chunk_at k x) ≡ true → Near u (slot s u) (chunk_at k x) w
    passed_near u o k w x q r =
        let b = back k w x q in
        elim b.chunk [
          | inl c ↦ let P : ChunkPos → Type 0 = λ c. Near u (slot s u) c w in subst P c ((h.bags u).near o k w b.thing b.had (ap (is_recorded (slot s u).chunks) c ∙ r))
          | inr c ↦
              let its : (place s (chunk_at k x)).bag ≡ Some u = (h.bags u).held (rw o refl) (chunk_at k x) r in
              let same : Some id ≡ Some u = sym (home (chunk_at k x) c.1) ∙ its in
              let one : id ≡ u = cc in
              let P : Where → Type 0 = λ v. Near u (slot s u) (chunk_at k x) v in subst P (sym c.0) one
        ]

    bag_kept : (u : ℕ) (d : Slot) → Kept (slot s u) d → IsBag t u d
    bag_kept u d kept =
        kept_bag s t u (slot s u) d kept (λ c q. inl q) (λ o c q. q)
        (λ o k w x q r. near_kept u (slot s u) d kept (chunk_at k x) w (passed_near u (kept.listed o) k w x q r))
        (λ o k x q. let b = back k (in_bag u) x q in (h.bags u).out (sym kept.taken ∙ o) k b.thing b.had)
        (h.bags u)

    pub passed_sound : length bags ≡ length s.bags → IsTimely passed.body → IsSound t
    passed_sound long timely = record {
      unique = passed_unique;
      lies = passed_lies;
      spot_range = h.spot_range;
      bag_range = λ c u q. let l : u < length s.bags = h.bag_range c u q in omega (arith, l, long);
      bags = λ u. elim (cases_eq id u) [
        | inl q ↦ let P : ℕ → Type 0 = λ v. IsBag t v (slot t v) in subst P q (let Q : Slot → Type 0 = λ b. IsBag t id b in subst Q (sym (slot_here s bags spare slots id passed e)) (bag_kept id passed passed_kept))
        | inr n ↦ let Q : Slot → Type 0 = λ b. IsBag t u b in subst Q (sym (slot_other s bags spare slots id passed e u n)) (bag_kept u (slot s u) (kept_self (slot s u)))
      ];
      spot_times = h.spot_times;
      bag_times = λ u. elim (cases_eq id u) [
        | inl q ↦ let P : ℕ → Type 0 = λ v. IsTimely (slot t v).body in subst P q (let Q : Slot → Type 0 = λ b. IsTimely b.body in subst Q (sym (slot_here s bags spare slots id passed e)) timely)
        | inr n ↦ let Q : Slot → Type 0 = λ b. IsTimely b.body in subst Q (sym (slot_other s bags spare slots id passed e u n)) (h.bag_times u)
      ];
      arrival_times = h.arrival_times;
      arrivals_differ = h.arrivals_differ;
    }

    -- what the bag has is one tick older
    abbrev older : (k : Key) → Option (Thing k) → Option (Thing k)
    older k None = None
    older k (Some x) = if rec (chunk_at k x) then Some (aged rec k x) else Some x

    found_passed : (k : Key) → found t k ≡ older k (found s k)
    found_passed k = go (found s k) (found t k) refl refl
      where
        some_case : (x : Thing k) (w : Where) → column s k w ≡ Some x → found t k ≡ older k (Some x)
        some_case x w q =
            elim (where_cases w (in_bag id)) [
              | inl z ↦
                  let here : column s k (in_bag id) ≡ Some x = ap (column s k) (sym z) ∙ q in
                  rw (inside s id h listed calm k x here) (found_of t passed_unique k (in_bag id) (aged rec k x) (col_here k ∙ ap (option_map (aged rec k)) here))
              | inr n ↦ rw (outside_it s id h listed calm k w x q n) (found_of t passed_unique k w x (col_other k w n ∙ q))
            ]

        go : (o r : Option (Thing k)) → found s k ≡ o → found t k ≡ r → r ≡ older k o
        go None None f g = refl
        go None (Some y) f g =
            let p = found_at t k y g in
            let b = back k p.0 y p.1 in
            let z : None ≡ Some b.thing = sym (found_none s k f p.0) ∙ b.had in absurd (let v : ⊥ = cc in v)
        go (Some x) r f g = let p = found_at s k x f in sym g ∙ some_case x p.0 p.1

    older_number : (b : BlockPos) (o : Option ℕ) → older (of_block b) o ≡ o
    older_number b None = refl
    older_number b (Some x) = elim (cases_Bool (rec (chunk_of b))) [ inl z ↦ rw z refl | inr z ↦ rw z refl ]

    older_standing : (n : ℕ) (o : Option Standing) → older (of_entity n) o ≡ walked rec o
    older_standing n None = refl
    older_standing n (Some x) = elim (cases_Bool (rec (chunk_of x.at))) [ inl z ↦ rw z (sym (some_if (rec (chunk_of (ahead x.vx x.vz x.at))) (record x { at = ahead x.vx x.vz x.at }) x)) | inr z ↦ rw z refl ]

    pub passed_contents : flat_of t ≡ moved rec (flat_of s)
    unfolding flat_of
    passed_contents = flat_is (flat_of t) (moved rec (flat_of s))
        (fun_ext (λ b. ap (λ o. unwrap_or o 0) (found_passed (of_block b) ∙ older_number b (found s (of_block b)))))
        (fun_ext (λ n. found_passed (of_entity n) ∙ older_standing n (found s (of_entity n))))

    pub passed_tasks : jobs_of t ≡ λ n. nearer rec (jobs_of s n)
    unfolding jobs_of
    passed_tasks = fun_ext (λ n. found_passed (of_task n) ∙ older_job n (found s (of_task n)))
      where
        older_job : (n : ℕ) (o : Option Job) → older (of_task n) o ≡ nearer rec o
        older_job n None = refl
        older_job n (Some j) = refl
