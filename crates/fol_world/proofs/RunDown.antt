-- What the store is when the tasks of a tick are over and hold their chunks still, and what it is when they drop their holds.
use Rattle.std.proofs.Common.{◌≡◌, ◌≢◌, ℕ, ◌+◌, ◌≤◌, ◌<◌, refl, sym, ◌∙◌, ap, subst, arith, Bool, true, false, not, ◌&&◌, inl, inr, List, []}
use Rattle.std.specs.Prelude.{nat_eq, filter, Option, Some, None}
use Rattle.std.specs.List.{AllByRecursion}
use Rattle.std.specs.List.Sorted.{IsStrictlySortedBy}
use Rattle.std.proofs.Math.Path.{fun_ext}
use Rattle.std.proofs.lemmas.Bool.{cases_Bool, cases_eq, eqb-true, ne_eqb, true≢false}
use Rattle.std.proofs.lemmas.List.{append-nil}
use Rattle.fol_model.specs.declared.places.ChunkPos.{ChunkPos}
use Rattle.fol_model.specs.declared.regions.State.TheVariants.{Ticking}
use Rattle.fol_model.specs.declared.openings.Opening.{Opening}
use Rattle.fol_model.specs.declared.tasks.Ran.{Ran}
use Rattle.fol_model.specs.declared.events.Entry.{Entry}
use Rattle.fol_model.specs.Geometry.{chunk_of}
use Rattle.fol_model.specs.GridNumbers.{IsGrid}
use Rattle.fol_model.specs.GridState.{GridState, is_loaded}
use Rattle.fol_model.specs.Universe.{all_chunks}
use Rattle.fol_model.specs.Outputs.{is_chunk_of}
use Rattle.fol_model.specs.ActionStep.{Flat, Recorded, Standing}
use Rattle.fol_model.specs.Job.{Job, is_on, is_taken}
use Rattle.fol_model.specs.World.{World, due}
use Rattle.fol_model.specs.End.{dropped, left, run_down}
use Rattle.fol_model.specs.Run.{Run, world}
use Rattle.fol_laws.specs.Contents.{SameOn, seen}
use Rattle.fol_laws.proofs.FunctionsChanged.{at_other}
use Rattle.fol_laws.proofs.UnseenEnds.{recorded_owner}
use Rattle.fol_laws.proofs.WholeRuns.{Good, good_run}
use Rattle.fol_laws.proofs.CountBelow.{count_split}
use Rattle.fol_laws.proofs.SoundRuns.{Ending, run_down_ending}
use Rattle.fol_laws.specs.Tasks.{JobOk}
use Rattle.fol_laws.proofs.SoundState.{SoundWorld}
use Rattle.fol_laws.proofs.SoundSteps.{left_was}
use Rattle.fol_model.specs.Rules.{Rules}
use Rattle.fol_end_laws.specs.DroppedHolds.{on_chunk}
use Rattle.fol_end_laws.proofs.DropsInTurn.{on_due}
use Rattle.fol_end_laws.proofs.FinishedTicks.{due_on_recorded, tasks_kept}
use Rattle.fol_world.specs.Underway.{holding}
use Rattle.fol_world.proofs.Held.{count_most}
use Rattle.fol_world.proofs.Loosened.{loosens_self}
use Rattle.fol_chunks.specs.Contents.{is_recorded, outside, option_filter}
use Rattle.fol_chunks.specs.Order.{chunk_cmp}
use Rattle.fol_store.specs.Bag.{Bag}
use Rattle.fol_store.specs.Stock.{Stock, bag_of}
use Rattle.fol_world.specs.Agenda.{Covers}
use Rattle.fol_world.specs.Bags.{AreBut, IsBagOf, StoredIn}
use Rattle.fol_world.specs.Hands.{at_rest, in_hands, owner_of, ticker, went}
use Rattle.fol_world.specs.Released.{Loosens}
use Rattle.fol_world.proofs.ChunkLists.{listed as chunk_listed}
use Rattle.fol_world.proofs.Flats.{flat_ext}
use Rattle.fol_world.proofs.ReleasedHands.{in_hands_there}

-- ---- what lies outside some chunks, where a change is inside of them
narrow : (p q : Recorded) (o : Option Standing) → ((c : ChunkPos) → q c ≡ true → p c ≡ true)
    → option_filter (λ (s : Standing). not (p (chunk_of s.at))) (seen (λ c. not (q c)) o) ≡ option_filter (λ (s : Standing). not (p (chunk_of s.at))) o
narrow p q None h = refl
narrow p q (Some s) h = elim (cases_Bool (q (chunk_of s.at))) [ inl e ↦ let t = h (chunk_of s.at) e in rw (e, t) refl | inr e ↦ rw e refl ]

pub outside_same : (p q : Recorded) (f h : Flat) → ((c : ChunkPos) → q c ≡ true → p c ≡ true) → SameOn (λ c. not (q c)) f h → outside p f ≡ outside p h
outside_same p q f h in_p same = flat_ext (outside p f) (outside p h)
    (λ b. elim (cases_Bool (p (chunk_of b))) [
      | inl e ↦ rw e refl
      | inr e ↦ elim (cases_Bool (q (chunk_of b))) [
        | inl k ↦ absurd (true≢false (sym (in_p (chunk_of b) k) ∙ e))
        | inr k ↦ let s = same.blocks b (rw k refl) in rw e s
      ]
    ])
    (λ id. sym (narrow p q (f.standing id) in_p)
    ∙ ap (λ (o : Option Standing). option_filter (λ (s : Standing). not (p (chunk_of s.at))) o) (same.standing id)
    ∙ narrow p q (h.standing id) in_p)

none : (a b : Bool) → (a && false) ≡ (b && false)
none true true = refl
none true false = refl
none false true = refl
none false false = refl

-- ---- the bags, where only r's chunks lost holds
module _ (g : GridState) (hs : ChunkPos → ℕ) (r : ℕ) (ticks : g.state r ≡ Ticking) (tick later owed : ℕ → ℕ) (recorded : ℕ → Recorded) (f k : ℕ → Bag)
    (others_tick : (q : ℕ) → q ≢ r → later q ≡ tick q) (l : Loosens g (record g { holds = hs }) r f k)
    (others : (c : ChunkPos) → owner_of g c ≢ r → is_loaded (record g { holds = hs }) c ≡ is_loaded g c) where
  abbrev h : GridState
  h = record g { holds = hs }

  -- a chunk that was not noted is of the region where it was
  own_chunks : (k r).listed ≡ true → (c : ChunkPos) → is_recorded (k r).since c ≡ false → is_recorded (filter (is_chunk_of g r) all_chunks) c ≡ is_recorded (filter (is_chunk_of h r) all_chunks) c
  own_chunks w c n = chunk_listed (is_chunk_of g r) all_chunks c ∙ ap (λ (b : Bool). (b && nat_eq (owner_of g c) r) && is_recorded all_chunks c) (sym (l.loaded w c n)) ∙ sym (chunk_listed (is_chunk_of h r) all_chunks c)

  other_chunks : (q : ℕ) → q ≢ r → filter (is_chunk_of g q) all_chunks ≡ filter (is_chunk_of h q) all_chunks
  other_chunks q d = ap (λ (p : ChunkPos → Bool). filter p all_chunks) (fun_ext (λ c. elim (cases_eq (owner_of g c) r) [
    | inl e ↦ let n : nat_eq (owner_of g c) q ≡ false = ne_eqb _ _ (λ x. d (sym x ∙ e)) in rw n (none (is_loaded g c) (is_loaded h c))
    | inr e ↦ ap (λ (b : Bool). b && nat_eq (owner_of g c) q) (sym (others c e))
  ]))

  own_loosened : IsBagOf g tick owed recorded r (f r) → IsBagOf h later owed recorded r (k r)
  own_loosened b = record {
    here = ap (λ (x : Bag). x.here) l.own ∙ b.here;
    taken = ap (λ (x : Bag). x.taken) l.own ∙ b.taken;
    counter = λ x. let z : false ≡ true = rw ticks at x in absurd (true≢false (sym z));
    owes = λ x. let z : false ≡ true = rw ticks at x in absurd (true≢false (sym z));
    listed = λ d w. let p = b.listed d (l.kept w) in let e = ap (λ (x : Bag). x.chunks) l.own in record {
      order = subst (IsStrictlySortedBy chunk_cmp) (sym e) p.order;
      same = λ c n. ap (λ (xs : List ChunkPos). is_recorded xs c) e ∙ p.same c (l.noted w c n) ∙ own_chunks w c n;
    };
    since = λ x. let z : false ≡ true = rw ticks at x in absurd (true≢false (sym z));
    out = λ x. ap (λ (x : Bag). x.chunks) l.own ∙ b.out x;
  }

  other_loosened : (q : ℕ) → q ≢ r → IsBagOf g tick owed recorded q (f q) → IsBagOf h later owed recorded q (f q)
  other_loosened q d b = record {
    here = b.here;
    taken = b.taken;
    counter = λ x. b.counter x ∙ sym (others_tick q d);
    owes = b.owes;
    listed = λ n w. subst (AreBut (f q).since (f q).chunks) (other_chunks q d) (b.listed n w);
    since = b.since;
    out = b.out;
  }

  pub bags_loosened : ((q : ℕ) → IsBagOf g tick owed recorded q (f q)) → (q : ℕ) → IsBagOf h later owed recorded q (k q)
  bags_loosened bags q = elim (cases_eq q r) [
    | inl e ↦ let P : ℕ → Type 0 = λ n. IsBagOf h later owed recorded n (k n) in subst P (sym e) (own_loosened (bags r))
    | inr d ↦ let b = l.others q d in rw b (other_loosened q d (bags q))
  ]

  pub covers_loosened : (xs : List ℕ) → Covers xs g f → Covers xs h k
  covers_loosened xs cov q x = cov q (elim (cases_eq q r) [
    | inl e ↦ let z : false ≡ true = rw (e, ticks) at x in absurd (true≢false (sym z))
    | inr d ↦ let b = l.others q d in rw b at x
  ])

-- ---- the tasks at rest
at_rest_left : (g : GridState) (since : ℕ → ℕ) (r n : ℕ) (o : Option Job) → 0 < r → at_rest g since n (left r o) ≡ at_rest g since n o
at_rest_left g since r n None p = refl
at_rest_left g since r n (Some j) p = elim (cases_Bool (nat_eq j.taker r)) [
  | inl e ↦ let t : j.taker ≡ r = eqb-true _ _ e in let z : nat_eq j.taker 0 ≡ false = ne_eqb _ _ (λ x. omega arith) in rw (e, z) refl
  | inr e ↦ rw e refl
]

module _ (o : Opening) (es : List Entry) (ok : IsGrid o.grid) (run : Run o es) (r : ℕ) (ticks : (world o es).grid.state r ≡ Ticking) (ran : List Ran) where
  abbrev w : World
  w = world o es

  abbrev v : World
  v = run_down (world o es) r ran

  good : Good o w
  good = good_run o es [] ok (rw (append-nil es) run)

  own : (c : ChunkPos) → w.recorded r c ≡ true → owner_of w.grid c ≡ r
  own c h = recorded_owner w r c good.recorded.margin ticks h

  there : (c : ChunkPos) → w.recorded r c ≡ true → in_hands w.grid w.recorded c ≡ true
  there = in_hands_there w.grid r good.sound.rules good.sound.grid ticks w.recorded own

  flat_down : outside (in_hands w.grid w.recorded) w.flat ≡ outside (in_hands v.grid v.recorded) v.flat
  unfolding dropped in_hands ticker
  flat_down = outside_same (in_hands w.grid w.recorded) (w.recorded r) w.flat v.flat there (tasks_kept o es [] ok (rw (append-nil es) run) r ran ticks)

  jobs_down : (since : ℕ → ℕ) (n : ℕ) → at_rest w.grid since n (w.jobs n) ≡ at_rest v.grid since n (v.jobs n)
  unfolding dropped went ticker
  jobs_down since n = sym (at_rest_left w.grid since r n (w.jobs n) (good.sound.rules.given r (λ d. cc)))

  down : Ending r v
  down = run_down_ending w r ran good.sound ticks

  -- the world in which the tasks that ran hold their chunks still
  abbrev u : World
  u = holding (due (world o es) r) (run_down (world o es) r ran)

  holds_again : (c : ChunkPos) → u.grid.holds c ≡ w.grid.holds c
  unfolding dropped
  holds_again c =
      let on = on_due c w r w.next_job in
      let split = count_split (λ n. is_on c (w.jobs n)) (λ n. is_taken r (w.jobs n)) (λ n. not (is_taken r (w.jobs n)) && is_on c (w.jobs n)) w.next_job (λ n. refl) in
      omega (arith, on, split, good.sound.holds c)

  pub grid_again : u.grid ≡ w.grid
  unfolding dropped
  grid_again = ap (λ (f : ChunkPos → ℕ). record w.grid { holds = f }) (fun_ext holds_again)

  sound_again : SoundWorld u
  unfolding dropped
  sound_again = record {
    rules = subst Rules (sym grid_again) good.sound.rules;
    grid = good.sound.grid;
    each = λ n j e. subst (λ (g : GridState). JobOk g j) (sym grid_again) (good.sound.each n j (left_was r (w.jobs n) j e).0);
    holds = λ c. omega (arith, down.sound.holds c);
    numbers = down.sound.numbers;
  }

  pub ending_again : Ending r u
  unfolding dropped
  ending_again = record { sound = sound_again; ticks = ticks; free = down.free }

  pub still_there : AllByRecursion (λ t. v.recorded r t.chunk ≡ true) (due w r)
  unfolding dropped
  still_there = due_on_recorded o w r good ticks

  pub few_on : (c : ChunkPos) → on_chunk c (due w r) ≤ w.next_job
  few_on c = omega (arith, on_due c w r w.next_job, count_most (λ k. is_taken r (w.jobs k) && is_on c (w.jobs k)) w.next_job)

  pub stored_again : (since : ℕ → ℕ) (store : Stock) → StoredIn store w since → StoredIn store u since
  unfolding dropped in_hands ticker went
  stored_again since store stored = record {
    flat = stored.flat ∙ flat_down;
    jobs = stored.jobs ∙ fun_ext (jobs_down since);
    next = stored.next;
    bags = λ q. subst (λ (g : GridState). IsBagOf g v.tick w.owed w.recorded q (bag_of store q)) (sym grid_again)
        (bags_loosened w.grid w.grid.holds r ticks w.tick v.tick w.owed w.recorded (bag_of store) (bag_of store) (λ q d. at_other w.tick r (w.tick r + 1) q d) (loosens_self w.grid r (bag_of store)) (λ c d. refl) stored.bags q);
  }
