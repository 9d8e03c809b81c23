-- What the events leave to a Ticking region.
use Rattle.std.proofs.Common.{◌≡◌, ℕ, zero, suc, ◌+◌, ◌<◌, refl, sym, ◌∙◌, ap, arith, true, false, inl, inr, List, [], ◌∷◌, ◌&&◌}
use Rattle.std.specs.Prelude.{◌≢◌, nat_eq, nat_le, Option, Some, None}
use Rattle.std.specs.List.{AllByRecursion}
use Rattle.std.proofs.lemmas.Bool.{cases_Bool, cases_eq, and_parts, eqb-true, eqb-false, ne_eqb}
use Rattle.fol_model.specs.declared.places.ChunkPos.{ChunkPos}
use Rattle.fol_model.specs.declared.places.SectionPos.{SectionPos}
use Rattle.fol_model.specs.declared.regions.State.TheVariants.{Ready, Ticking}
use Rattle.fol_model.specs.Geometry.{is_chunk, section_of}
use Rattle.fol_model.specs.Add.{is_full}
use Rattle.fol_model.specs.Drop.{drop_hold}
use Rattle.fol_model.specs.Counters.{tick_after_release}
use Rattle.fol_laws.specs.Steps.{SameSections}
use Rattle.fol_laws.proofs.AddSections.{ticking_add, grid_add, add_ticking_sections}
use Rattle.fol_laws.proofs.ReleaseKeeps.{grid_release, release_ticking_sections}
use Rattle.fol_model.specs.ActionStep.{Recorded, at_id}
use Rattle.fol_model.specs.World.{World, due_below}
use Rattle.fol_model.specs.Job.{Job, taken_task, queued}
use Rattle.fol_model.specs.Holds.{loaded, unloaded, posted}
use Rattle.fol_model.specs.QueuedTask.{begun, counted_down}
use Rattle.fol_model.specs.End.{dropped, left, ticked, put_back, accepted, all_accepted, released, run_down, ended}
use Rattle.fol_model.specs.Run.{after, Allowed}
use Rattle.fol_laws.proofs.SoundState.{SoundWorld}
use Rattle.fol_model.specs.OpenTick.{is_end}
use Rattle.fol_model.specs.declared.places.BlockPos.{BlockPos}
use Rattle.fol_model.specs.declared.tasks.Ran.{Ran}
use Rattle.fol_model.specs.declared.tasks.Wish.{Wish}
use Rattle.fol_model.specs.declared.actions.Action.{Action}
use Rattle.fol_model.specs.declared.actions.Action.TheVariants as action
use Rattle.fol_model.specs.declared.events.Event.{Event}
use Rattle.fol_model.specs.declared.events.Event.TheVariants.{Load, Unload, Post, PhaseOpen, Begin, End, PhaseClose, Finish, Stop}
use Rattle.fol_laws.proofs.FunctionsChanged.{at_here, at_other}
use Rattle.fol_laws.proofs.GridFields.{begin_grid, begin_owner, begin_ticking, no_new_part, ticking_release}
use Rattle.fol_laws.proofs.SoundRuns.{Ending, all_accepted_ending, accepted_ending, run_down_ending, wishes_ok}
use Rattle.fol_laws.proofs.WishLimits.{WishOk}

pub record Kept (q : ℕ) (w v : World) : Type 0 where
  pub ticks : v.grid.state q ≡ Ticking
  pub sections : SameSections w.grid v.grid q
  pub grid : v.grid.grid ≡ w.grid.grid
  pub recorded : v.recorded q ≡ w.recorded q
  pub worker : v.worker q ≡ w.worker q
  pub tick : v.tick q ≡ w.tick q
  pub taken : (n : ℕ) → taken_task q n (v.jobs n) ≡ taken_task q n (w.jobs n)

pub kept_self : (q : ℕ) (w : World) → w.grid.state q ≡ Ticking → Kept q w w
kept_self q w t = record { ticks = t; sections = λ s. ((λ e. e), (λ e. e)); grid = refl; recorded = refl; worker = refl; tick = refl; taken = λ n. refl }

pub kept_then : (q : ℕ) (u w v : World) → Kept q u w → Kept q w v → Kept q u v
kept_then q u w v a b = record {
  ticks = b.ticks;
  sections = λ s. ((λ e. (b.sections s).0 ((a.sections s).0 e)), (λ e. (a.sections s).1 ((b.sections s).1 e)));
  grid = b.grid ∙ a.grid;
  recorded = b.recorded ∙ a.recorded;
  worker = b.worker ∙ a.worker;
  tick = b.tick ∙ a.tick;
  taken = λ n. b.taken n ∙ a.taken n;
}

module _ (q : ℕ) (w : World) (s : SoundWorld w) (t : w.grid.state q ≡ Ticking) where
  some : 0 < q
  some = s.rules.given q (λ d. cc)

  pub kept_loaded : (c : ChunkPos) → is_chunk c ≡ true → Kept q w (loaded w c)
  unfolding loaded
  kept_loaded c l = elim (cases_Bool (is_full w.grid c)) [
    | inl f ↦ rw f (kept_self q w t)
    | inr f ↦ rw f (record { ticks = ticking_add w.grid c s.rules s.grid l q t; sections = add_ticking_sections w.grid c s.rules s.grid l q t; grid = grid_add w.grid c; recorded = refl; worker = refl; tick = refl; taken = λ n. refl })
  ]

  queued_taken : (c : ChunkPos) (d : ℕ) (a : Action) (n : ℕ) → taken_task q n (at_id w.jobs w.next_job (Some (queued c d a)) n) ≡ taken_task q n (w.jobs n)
  queued_taken c d a n = elim (cases_eq n w.next_job) [
    | inl e ↦ let here : at_id w.jobs w.next_job (Some (queued c d a)) n ≡ Some (queued c d a) = rw e (at_here w.jobs w.next_job (Some (queued c d a))) in
        let z : nat_eq 0 q ≡ false = ne_eqb _ _ (λ x. let p = some in omega arith) in
        let none : w.jobs n ≡ None = s.numbers n (omega arith) in
        ap (taken_task q n) here ∙ rw (z, none) refl
    | inr e ↦ ap (taken_task q n) (at_other w.jobs w.next_job (Some (queued c d a)) n e)
  ]

  pub kept_posted : (c : ChunkPos) (d : ℕ) (a : Action) → is_chunk c ≡ true → Kept q w (posted w c d a)
  unfolding posted
  kept_posted c d a l = elim (cases_Bool (is_full w.grid c)) [
    | inl f ↦ rw f (kept_self q w t)
    | inr f ↦ rw f (record { ticks = ticking_add w.grid c s.rules s.grid l q t; sections = add_ticking_sections w.grid c s.rules s.grid l q t; grid = grid_add w.grid c; recorded = refl; worker = refl; tick = refl; taken = queued_taken c d a })
  ]

  pub kept_unloaded : (c : ChunkPos) → Kept q w (unloaded w c)
  unfolding unloaded drop_hold
  kept_unloaded c = elim (cases_Bool (nat_eq (w.tickets c) 0)) [
    | inl f ↦ rw f (kept_self q w t)
    | inr f ↦ rw f (record { ticks = t; sections = λ s. ((λ e. e), (λ e. e)); grid = refl; recorded = refl; worker = refl; tick = refl; taken = λ n. refl })
  ]

  down_taken : (r : ℕ) → q ≢ r → (n : ℕ) (o : Option Job) → taken_task q n (counted_down w.grid r o) ≡ taken_task q n o
  down_taken r d n None = refl
  down_taken r d n (Some j) = elim (cases_Bool (nat_eq j.taker 0 && nat_eq (w.grid.owner (section_of w.grid.grid j.chunk)) r)) [
    | inl k ↦ let z : j.taker ≡ 0 = eqb-true _ _ (and_parts (nat_eq j.taker 0) (nat_eq (w.grid.owner (section_of w.grid.grid j.chunk)) r) k).0 in
        let p = some in
        let a : nat_eq j.taker q ≡ false = ne_eqb _ _ (λ x. omega arith) in
        let b : nat_eq r q ≡ false = ne_eqb _ _ (λ x. d (sym x)) in
        let c : nat_eq 0 q ≡ false = ne_eqb _ _ (λ x. omega arith) in
        elim (cases_Bool (nat_le j.rest 1)) [ inl m ↦ rw (k, m, a, b) refl | inr m ↦ rw (k, m, a, c) refl ]
    | inr k ↦ rw k refl
  ]

  pub kept_begun : (worker r : ℕ) → w.grid.state r ≡ Ready → Kept q w (begun w worker r)
  unfolding begun
  kept_begun worker r e = let d : q ≢ r = λ x. let y : w.grid.state q ≡ w.grid.state r = ap w.grid.state x in absurd (cc) in record {
    ticks = begin_ticking w.grid r q t;
    sections = λ s. ((λ e. ap (λ (f : SectionPos → ℕ). f s) (begin_owner w.grid r) ∙ e), (λ e. sym (ap (λ (f : SectionPos → ℕ). f s) (begin_owner w.grid r)) ∙ e));
    grid = begin_grid w.grid r;
    recorded = at_other w.recorded r _ q d;
    worker = at_other w.worker r worker q d;
    tick = refl;
    taken = λ n. down_taken r d n (w.jobs n);
  }

left_taken : (q r : ℕ) → q ≢ r → (n : ℕ) (o : Option Job) → taken_task q n (left r o) ≡ taken_task q n o
left_taken q r d n None = refl
left_taken q r d n (Some j) = elim (cases_Bool (nat_eq j.taker r)) [
  | inl k ↦ let a : nat_eq j.taker q ≡ false = ne_eqb _ _ (λ x. d (sym x ∙ eqb-true _ _ k)) in rw (k, a) refl
  | inr k ↦ rw k refl
]

kept_dropped : (q : ℕ) (w : World) (r : ℕ) → w.grid.state q ≡ Ticking → q ≢ r → Kept q w (dropped w r)
unfolding dropped
kept_dropped q w r t d = record { ticks = t; sections = λ s. ((λ e. e), (λ e. e)); grid = refl; recorded = refl; worker = refl; tick = refl; taken = λ n. left_taken q r d n (w.jobs n) }

kept_put_back : (q : ℕ) (w : World) (a : Action) (b : Option BlockPos) → w.grid.state q ≡ Ticking → Kept q w (put_back w a b)
kept_put_back q w (action.Set at id) b t = kept_self q w t
kept_put_back q w (action.Copy at to) b t = kept_self q w t
kept_put_back q w (action.Load c) b t = kept_self q w t
kept_put_back q w (action.Unload c) b t = kept_self q w t
kept_put_back q w (action.Post c d inner) b t = kept_self q w t
kept_put_back q w (action.Send id to) b t = kept_self q w t
kept_put_back q w (action.Arrive e) None t = kept_self q w t
kept_put_back q w (action.Arrive e) (Some b) t = record { ticks = t; sections = λ s. ((λ e. e), (λ e. e)); grid = refl; recorded = refl; worker = refl; tick = refl; taken = λ n. refl }
kept_put_back q w (action.Every p l inner) b t = kept_self q w t

pub kept_accepted : (rec : Recorded) (q : ℕ) (w : World) (x : Wish) → SoundWorld w → w.grid.state q ≡ Ticking → WishOk rec x → Kept q w (accepted w x)
unfolding accepted
kept_accepted rec q w x s t ok = elim (cases_Bool (is_full w.grid x.chunk)) [
  | inl f ↦ rw f (kept_put_back q w x.action x.back t)
  | inr f ↦ rw f (kept_posted q w s t x.chunk x.delay x.action ok.chunk)
]

pub kept_all : (rec : Recorded) (q : ℕ) (w : World) (xs : List Wish) (r : ℕ) → Ending r w → w.grid.state q ≡ Ticking → AllByRecursion (WishOk rec) xs → Kept q w (all_accepted w xs)
kept_all rec q w [] r m t ok = kept_self q w t
kept_all rec q w (x ∷ xs) r m t ok = let a = kept_accepted rec q w x m.sound t ok.0 in
    kept_then q w (accepted w x) _ a (kept_all rec q (accepted w x) xs r (accepted_ending rec w x r m ok.0) a.ticks ok.1)

kept_released : (q : ℕ) (w : World) (r : ℕ) → Ending r w → w.grid.state q ≡ Ticking → q ≢ r → Kept q w (released w r)
unfolding released tick_after_release
kept_released q w r m t d = record {
  ticks = ticking_release w.grid r q m.sound.rules t d;
  sections = release_ticking_sections w.grid r m.sound.rules m.sound.grid m.ticks q t d;
  grid = grid_release w.grid r;
  recorded = refl;
  worker = refl;
  tick = rw (no_new_part w.grid r q m.sound.rules t d) refl;
  taken = λ n. refl;
}

pub kept_run_down : (q : ℕ) (w : World) (r : ℕ) (ran : List Ran) → w.grid.state q ≡ Ticking → q ≢ r → Kept q w (run_down w r ran)
kept_run_down q w r ran t d = let v : World = record w { flat = (ticked w r ran).flat; tick = at_id w.tick r (w.tick r + 1) } in
    kept_then q w v _ (record { ticks = t; sections = λ s. ((λ e. e), (λ e. e)); grid = refl; recorded = refl; worker = refl; tick = at_other w.tick r (w.tick r + 1) q d; taken = λ n. refl }) (kept_dropped q v r t d)

pub kept_ended : (q : ℕ) (w : World) (r : ℕ) (ran : List Ran) → SoundWorld w → w.grid.state r ≡ Ticking → w.grid.state q ≡ Ticking → q ≢ r → Kept q w (ended w r ran)
unfolding ended
kept_ended q w r ran s e t d =
    let m = run_down_ending w r ran s e in
    let a = kept_run_down q w r ran t d in
    let b = kept_all (w.recorded r) q (run_down w r ran) (ticked w r ran).wishes r m a.ticks (wishes_ok w r ran s) in
    let n = all_accepted_ending (w.recorded r) (run_down w r ran) (ticked w r ran).wishes r m (wishes_ok w r ran s) in
    kept_then q w _ _ (kept_then q w _ _ a b) (kept_released q _ r n b.ticks d)

-- each event but an End of q
pub kept_after : (q : ℕ) (w : World) (e : Event) → SoundWorld w → w.grid.state q ≡ Ticking → Allowed w e → is_end q e ≡ false → Kept q w (after w e)
kept_after q w (Load caller c answer) s t a n = kept_loaded q w s t c a.0
kept_after q w (Unload caller c answer) s t a n = kept_unloaded q w s t c
kept_after q w (Post caller c d x answer) s t a n = kept_posted q w s t c d x a.0
kept_after q w (PhaseOpen k) s t a n = record { ticks = t; sections = λ s. ((λ e. e), (λ e. e)); grid = refl; recorded = refl; worker = refl; tick = refl; taken = λ n. refl }
kept_after q w (Begin worker r) s t a n = kept_begun q w s t worker r a.0
kept_after q w (End worker r tick ran accepts) s t a n = kept_ended q w r ran s a.0 t (λ x. eqb-false r q n (sym x))
kept_after q w PhaseClose s t a n = record { ticks = t; sections = λ s. ((λ e. e), (λ e. e)); grid = refl; recorded = refl; worker = refl; tick = refl; taken = λ n. refl }
kept_after q w Finish s t a n = record { ticks = t; sections = λ s. ((λ e. e), (λ e. e)); grid = refl; recorded = refl; worker = refl; tick = refl; taken = λ n. refl }
kept_after q w (Stop caller) s t a n = record { ticks = t; sections = λ s. ((λ e. e), (λ e. e)); grid = refl; recorded = refl; worker = refl; tick = refl; taken = λ n. refl }

-- ---- the due tasks
pub due_same : (q : ℕ) (w v : World) (n : ℕ) → ((k : ℕ) → taken_task q k (v.jobs k) ≡ taken_task q k (w.jobs k)) → due_below v q n ≡ due_below w q n
unfolding due_below
due_same q w v zero h = refl
due_same q w v (suc n) h = let a = due_same q w v n h in let b = h n in rw (a, b) refl
