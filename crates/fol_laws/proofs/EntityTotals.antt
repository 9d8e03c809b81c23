-- Each event keeps the number of places of each entity.
use Rattle.std.proofs.Common.{◌≡◌, ℕ, zero, suc, ◌+◌, ◌≤◌, refl, sym, ◌∙◌, ap, arith, true, false, cond, inl, inr, List, [], ◌∷◌, ◌&&◌}
use Rattle.std.specs.Prelude.{nat_eq, Option, Some, None}
use Rattle.std.specs.List.{AllByRecursion}
use Rattle.std.proofs.lemmas.Bool.{cases_Bool, cases_eq, true≢false, eq-eqb, ne_eqb}
use Rattle.fol_model.specs.declared.places.ChunkPos.{ChunkPos}
use Rattle.fol_model.specs.declared.regions.State.TheVariants.{Ticking}
use Rattle.fol_model.specs.Geometry.{section_of}
use Rattle.fol_model.specs.GridState.{GridState}
use Rattle.fol_model.specs.Add.{is_full}
use Rattle.fol_model.specs.Counting.{count_below}
use Rattle.fol_model.specs.Limits.{may_post}
use Rattle.fol_model.specs.ActionStep.{Standing, Recorded, at_id}
use Rattle.fol_model.specs.FlatTick.{acted, flat_tick}
use Rattle.fol_model.specs.World.{World, start, due}
use Rattle.fol_model.specs.Job.{Job, is_taken, queued}
use Rattle.fol_model.specs.Holds.{loaded, unloaded, posted}
use Rattle.fol_model.specs.QueuedTask.{begun, counted_down}
use Rattle.fol_model.specs.End.{dropped, left, ticked, put_back, accepted, all_accepted, released, run_down, ended}
use Rattle.fol_model.specs.Run.{after, Allowed}
use Rattle.fol_laws.proofs.SoundState.{SoundWorld}
use Rattle.fol_laws.specs.OnePlace.{one, transits, OnePlace}
use Rattle.fol_model.specs.Outputs.{is_arrival_of, brings}
use Rattle.fol_model.specs.declared.places.BlockPos.{BlockPos}
use Rattle.fol_model.specs.declared.openings.Opening.{Opening}
use Rattle.fol_model.specs.declared.tasks.Ran.{Ran}
use Rattle.fol_model.specs.declared.tasks.Wish.{Wish}
use Rattle.fol_model.specs.declared.actions.Action.{Action}
use Rattle.fol_model.specs.declared.actions.Action.TheVariants as action
use Rattle.fol_model.specs.declared.events.Event.{Event}
use Rattle.fol_model.specs.declared.events.Event.TheVariants.{Load, Unload, Post, PhaseOpen, Begin, End, PhaseClose, Finish, Stop}
use Rattle.fol_laws.proofs.CountBelow.{count_same, count_less, count_next, count_split}
use Rattle.fol_laws.proofs.FunctionsChanged.{at_here, at_other}
use Rattle.fol_laws.proofs.WishLimits.{WishOk, comes_back, due_ok}
use Rattle.fol_laws.proofs.SoundRuns.{wishes_ok, run_down_ending, Ending, accepted_ending}
use Rattle.fol_laws.proofs.EntityCounts.{arrivals, sends, one_here, one_other, acted_one, walked_one, due_arrivals, left_bound}

module _ (id : ℕ) where
  -- ---- the places of a world
  abbrev pub total : World → ℕ
  total w = one (w.flat.standing id) + transits w id

  posted_transits : (w : World) (c : ChunkPos) (d : ℕ) (a : Action) → SoundWorld w → count_below (λ n. brings id (at_id w.jobs w.next_job (Some (queued c d a)) n)) (w.next_job + 1) ≡ cond (is_arrival_of id a) 1 0 + transits w id
  posted_transits w c d a s =
      let job : Option Job = Some (queued c d a) in
      let none = s.numbers w.next_job (omega arith) in
      let more = count_less (λ n. brings id (at_id w.jobs w.next_job job n)) (λ n. brings id (w.jobs n)) (w.next_job + 1) w.next_job (omega arith)
      (ap (brings id) none) (λ k h. ap (brings id) (at_other w.jobs w.next_job job k h)) in
      let here : cond {A = ℕ} (brings id (at_id w.jobs w.next_job job w.next_job)) 1 0 ≡ cond {A = ℕ} (is_arrival_of id a) 1 0 = ap (λ (o : Option Job). cond {A = ℕ} (brings id o) 1 0) (at_here w.jobs w.next_job job) in
      let last = count_next (λ n. brings id (w.jobs n)) w.next_job (ap (brings id) none) in omega arith

  posted_total : (w : World) (c : ChunkPos) (d : ℕ) (a : Action) → SoundWorld w → is_full w.grid c ≡ false → total (posted w c d a) ≡ total w + cond (is_arrival_of id a) 1 0
  unfolding posted
  posted_total w c d a s f = rw f (let x = posted_transits w c d a s in omega arith)

  put_back_total : (rec : Recorded) (w : World) (a : Action) (b : Option BlockPos) → comes_back rec a b ≡ true → total w + cond (is_arrival_of id a) 1 0 ≤ 1 → total (put_back w a b) ≡ total w + cond (is_arrival_of id a) 1 0
  put_back_total rec w (action.Set at k) b h m = omega arith
  put_back_total rec w (action.Copy at to) b h m = omega arith
  put_back_total rec w (action.Load c) b h m = omega arith
  put_back_total rec w (action.Unload c) b h m = omega arith
  put_back_total rec w (action.Post c d inner) b h m = omega arith
  put_back_total rec w (action.Send k to) b h m = omega arith
  put_back_total rec w (action.Arrive e) None h m = absurd (true≢false (sym h))
  put_back_total rec w (action.Arrive e) (Some b) h m = elim (cases_eq e.id id) [
    | inl s ↦ let z : nat_eq e.id id ≡ true = eq-eqb _ _ s in
        let a = one_here id w.flat.standing e.id (Some (record { at = b; vx = e.vx; vz = e.vz })) s in let n = rw z at m in rw z (omega arith)
    | inr s ↦ let z : nat_eq e.id id ≡ false = ne_eqb _ _ s in
        let a = one_other id w.flat.standing e.id (Some (record { at = b; vx = e.vx; vz = e.vz })) s in rw z (omega arith)
  ]
  put_back_total rec w (action.Every p l inner) b h m = omega arith

  pub accepted_total : (rec : Recorded) (w : World) (x : Wish) → SoundWorld w → WishOk rec x → total w + cond (is_arrival_of id x.action) 1 0 ≤ 1 → total (accepted w x) ≡ total w + cond (is_arrival_of id x.action) 1 0
  unfolding accepted
  accepted_total rec w x s ok m = elim (cases_Bool (is_full w.grid x.chunk)) [
    | inl f ↦ rw f (put_back_total rec w x.action x.back ok.back m)
    | inr f ↦ rw f (posted_total w x.chunk x.delay x.action s f)
  ]

  all_total : (rec : Recorded) (w : World) (xs : List Wish) (r : ℕ) → Ending r w → AllByRecursion (WishOk rec) xs → total w + (sends id) xs ≤ 1 → total (all_accepted w xs) ≡ total w + (sends id) xs
  all_total rec w [] r e ok m = omega arith
  all_total rec w (x ∷ xs) r e ok m =
      let a = accepted_total rec w x e.sound ok.0 (omega arith) in
      let b = all_total rec (accepted w x) xs r (accepted_ending rec w x r e ok.0) ok.1 (omega arith) in omega arith

  -- what stands and what the tick is_arrival_of is at most one
  pub due_total : (w : World) (r : ℕ) → total w ≤ 1 → one (w.flat.standing id) + (arrivals id) (due w r) ≤ 1
  due_total w r m =
      let split = count_split (λ n. brings id (w.jobs n)) (λ n. is_taken r (w.jobs n)) (λ n. brings id (left r (w.jobs n))) w.next_job (λ n. left_bound id r (w.jobs n)) in
      let d = due_arrivals id w r w.next_job in omega arith

  -- steps 1 to 3 of an end: what the tick sends is not yet accepted
  pub run_down_total : (w : World) (r : ℕ) (ran : List Ran) → SoundWorld w → total w ≤ 1 → total (run_down w r ran) + (sends id) (ticked w r ran).wishes ≡ total w
  unfolding flat_tick dropped
  run_down_total w r ran s m =
      let due_m = due_total w r m in
      let split = count_split (λ n. brings id (w.jobs n)) (λ n. is_taken r (w.jobs n)) (λ n. brings id (left r (w.jobs n))) w.next_job (λ n. left_bound id r (w.jobs n)) in
      let d = due_arrivals id w r w.next_job in
      let a = acted_one id (w.recorded r) w.flat (due w r) (due_ok w r w.next_job s.each) due_m in
      let b = walked_one id (w.recorded r) ((acted (w.recorded r) w.flat (due w r)).standing id) in omega arith

  released_total : (w : World) (r : ℕ) → total (released w r) ≡ total w
  unfolding released
  released_total w r = refl

  ended_total : (w : World) (r : ℕ) (ran : List Ran) → SoundWorld w → w.grid.state r ≡ Ticking → total w ≤ 1 → total (ended w r ran) ≡ total w
  unfolding ended
  ended_total w r ran s t m =
      let a = run_down_total w r ran s m in
      let b = all_total (w.recorded r) (run_down w r ran) (ticked w r ran).wishes r (run_down_ending w r ran s t) (wishes_ok w r ran s) (omega arith) in
      let c = released_total (all_accepted (run_down w r ran) (ticked w r ran).wishes) r in omega arith

  loaded_total : (w : World) (c : ChunkPos) → total (loaded w c) ≡ total w
  unfolding loaded
  loaded_total w c = elim (cases_Bool (is_full w.grid c)) [ inl f ↦ rw f refl | inr f ↦ rw f refl ]

  unloaded_total : (w : World) (c : ChunkPos) → total (unloaded w c) ≡ total w
  unfolding unloaded
  unloaded_total w c = elim (cases_Bool (nat_eq (w.tickets c) 0)) [ inl f ↦ rw f refl | inr f ↦ rw f refl ]

  full_posted : (w : World) (c : ChunkPos) (d : ℕ) (a : Action) → is_full w.grid c ≡ true → total (posted w c d a) ≡ total w
  unfolding posted
  full_posted w c d a f = rw f refl

  quiet_post : (a : Action) → may_post a ≡ true → is_arrival_of id a ≡ false
  quiet_post (action.Set at k) h = refl
  quiet_post (action.Copy at to) h = refl
  quiet_post (action.Load q) h = refl
  quiet_post (action.Unload q) h = refl
  quiet_post (action.Post q d inner) h = refl
  quiet_post (action.Send k to) h = refl
  quiet_post (action.Arrive e) h = absurd (true≢false (sym h))
  quiet_post (action.Every p l inner) h = refl

  down_bound : (g : GridState) (r : ℕ) (o : Option Job) → brings id o ≡ brings id (counted_down g r o)
  down_bound g r None = refl
  down_bound g r (Some j) = elim (cases_Bool (nat_eq j.taker 0 && nat_eq (g.owner (section_of g.grid j.chunk)) r)) [ inl e ↦ rw e refl | inr e ↦ rw e refl ]

  begun_total : (w : World) (worker r : ℕ) → total (begun w worker r) ≡ total w
  unfolding begun
  begun_total w worker r = let a = count_same (λ n. brings id (w.jobs n)) (λ n. brings id (counted_down w.grid r (w.jobs n))) w.next_job (λ n l. down_bound w.grid r (w.jobs n)) in omega arith

  pub after_total : (w : World) (e : Event) → SoundWorld w → Allowed w e → total w ≤ 1 → total (after w e) ≡ total w
  after_total w (Load caller c answer) s a m = loaded_total w c
  after_total w (Unload caller c answer) s a m = unloaded_total w c
  after_total w (Post caller c d x answer) s a m = elim (cases_Bool (is_full w.grid c)) [
    | inl f ↦ full_posted w c d x f
    | inr f ↦ let y = quiet_post x a.3 in let z = rw y at (posted_total w c d x s f) in omega arith
  ]
  after_total w (PhaseOpen n) s a m = refl
  after_total w (Begin worker r) s a m = begun_total w worker r
  after_total w (End worker r tick ran accepts) s a m = ended_total w r ran s a.0 m
  after_total w PhaseClose s a m = refl
  after_total w Finish s a m = refl
  after_total w (Stop caller) s a m = refl

pub one_most : (o : Option Standing) → one o ≤ 1
one_most None = omega arith
one_most (Some b) = omega arith

pub place_after : (o : Opening) (w : World) (e : Event) → SoundWorld w → OnePlace o w → Allowed w e → OnePlace o (after w e)
place_after o w e s p a id = let m = one_most ((start o).flat.standing id) in after_total id w e s a (let q = p id in omega arith) ∙ p id

abbrev absent : Option Job
absent = None

none_bound : (id n : ℕ) → count_below (λ n. brings id absent) n ≡ 0
unfolding count_below
none_bound id zero = refl
none_bound id (suc n) = let i = none_bound id n in omega arith

pub place_start : (o : Opening) → OnePlace o (start o)
place_start o id = let x = none_bound id 1 in omega arith
