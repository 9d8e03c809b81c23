-- How many task numbers and region ids the steps and the entries give out.
use Rattle.std.proofs.Common.{◌≡◌, ℕ, ◌+◌, ◌*◌, ◌≤◌, ◌<◌, refl, ◌∙◌, ap, arith, Bool, true, false, inl, inr, List, [], ◌∷◌, ◌++◌, length, ◌||◌}
use Rattle.std.specs.Prelude.{nat_eq, nat_le, Option, Some, None}
use Rattle.std.proofs.lemmas.Bool.{cases_Bool, and_from, le-leb, lt-ltb}
use Rattle.fol_model.specs.declared.places.ChunkPos.{ChunkPos}
use Rattle.fol_model.specs.declared.places.BlockPos.{BlockPos}
use Rattle.fol_model.specs.declared.regions.State.TheVariants.{Ready, Ticking}
use Rattle.fol_model.specs.declared.tasks.Ran.{Ran}
use Rattle.fol_model.specs.declared.tasks.Wish.{Wish}
use Rattle.fol_model.specs.declared.actions.Action.{Action}
use Rattle.fol_model.specs.declared.actions.Action.TheVariants as action
use Rattle.fol_model.specs.declared.events.Accept.{Accept}
use Rattle.fol_model.specs.declared.events.Event.{Event}
use Rattle.fol_model.specs.declared.events.Event.TheVariants.{Load, Unload, Post, PhaseOpen, Begin, End, PhaseClose, Finish, Stop}
use Rattle.fol_model.specs.declared.events.Entry.{Entry}
use Rattle.fol_model.specs.declared.openings.Opening.{Opening}
use Rattle.fol_model.specs.GridNumbers.{IsGrid}
use Rattle.fol_model.specs.GridState.{GridState, is_ready, is_ticking, present_count}
use Rattle.fol_model.specs.Counting.{count_below}
use Rattle.fol_model.specs.Add.{add, is_full, wanted, target}
use Rattle.fol_model.specs.Begin.{begin}
use Rattle.fol_model.specs.Drop.{drop_hold}
use Rattle.fol_model.specs.Release.{release, must_wait, cleans, parts, is_part_id}
use Rattle.fol_model.specs.Rules.{Rules}
use Rattle.fol_model.specs.World.{World, start}
use Rattle.fol_model.specs.Holds.{loaded, unloaded, posted}
use Rattle.fol_model.specs.QueuedTask.{begun}
use Rattle.fol_model.specs.End.{dropped, ticked, put_back, accepted, all_accepted, answers, released, run_down, ended}
use Rattle.fol_model.specs.Run.{after, after_all, Allowed, RunFrom}
use Rattle.fol_laws.specs.Growth.{ends_in, ends, answers_in, answered}
use Rattle.fol_laws.proofs.Consequences.{nine_live}
use Rattle.fol_laws.proofs.ReleaseKeeps.{release_keeps}
use Rattle.fol_laws.proofs.SoundState.{SoundWorld}
use Rattle.fol_laws.proofs.SoundRuns.{Ending, all_accepted_ending, run_down_ending, wishes_ok, after_keeps, start_sound}
use Rattle.fol_laws.proofs.CountBelow.{count_last}

-- ---- the ids of the grid
add_next : (g : GridState) (c : ChunkPos) → (add g c).next ≤ g.next + 1
unfolding add
add_next g c = elim (cases_Bool (is_full g c)) [
  | inl f ↦ rw f (omega arith)
  | inr f ↦ elim (cases_Bool (nat_eq (wanted g c) 0)) [
    | inl k ↦ rw (f, k) (omega arith)
    | inr k ↦ elim (cases_Bool (nat_eq (target g c) g.next)) [ inl t ↦ rw (f, k, t) (omega arith) | inr t ↦ rw (f, k, t) (omega arith) ]
  ]
]

module _ (g : GridState) (t : ℕ) (free : must_wait g t ≡ false) (cleaning : cleans g t ≡ true) (several : nat_le 2 (parts g t) ≡ true) where
  pub next_is : (release g t).next ≡ g.next + parts g t
  unfolding release
  next_is = rw (free, cleaning, several) refl

  part_ready : (i : ℕ) → g.next ≤ i → i < g.next + parts g t → (release g t).state i ≡ Ready
  unfolding release
  part_ready i l m = let p : is_part_id g t i ≡ true = and_from _ _ several (and_from (nat_le g.next i) _ (le-leb _ _ l) (lt-ltb _ _ m)) in rw (free, cleaning, p) refl

  -- each part has nine sections
  pub nine_parts : Rules (release g t) → 9 * parts g t ≤ present_count (release g t)
  nine_parts rules =
      let live : ℕ → Bool = λ r. is_ready ((release g t).state r) || is_ticking ((release g t).state r) in
      let few : 9 * count_below live (release g t).next ≤ present_count (release g t) = nine_live (release g t) rules in
      let here : 9 * count_below live (g.next + parts g t) ≤ present_count (release g t) = rw next_is at few in
      let k = count_last live g.next (parts g t) (λ i l m. let e = part_ready i l m in rw e refl) in omega arith

  several_next : Rules (release g t) → (release g t).next ≤ g.next + 1820
  several_next rules = let a = next_is in let b = nine_parts rules in let c = rules.count in omega arith

held_next : (g : GridState) (t : ℕ) → must_wait g t ≡ true → (release g t).next ≤ g.next + 1820
unfolding release
held_next g t w = rw w (omega arith)

whole_next : (g : GridState) (t : ℕ) → must_wait g t ≡ false → cleans g t ≡ true → nat_le 2 (parts g t) ≡ false → (release g t).next ≤ g.next + 1820
unfolding release
whole_next g t w k m = rw (w, k, m) (omega arith)

rested_next : (g : GridState) (t : ℕ) → must_wait g t ≡ false → cleans g t ≡ false → (release g t).next ≤ g.next + 1820
unfolding release
rested_next g t w k = rw (w, k) (omega arith)

release_next : (g : GridState) (t : ℕ) → Rules g → IsGrid g.grid → g.state t ≡ Ticking → (release g t).next ≤ g.next + 1820
release_next g t rules ok ticks = elim (cases_Bool (must_wait g t)) [
  | inl w ↦ held_next g t w
  | inr w ↦ elim (cases_Bool (cleans g t)) [
    | inl k ↦ elim (cases_Bool (nat_le 2 (parts g t))) [
      | inl m ↦ several_next g t w k m (release_keeps g t rules ok ticks)
      | inr m ↦ whole_next g t w k m
    ]
    | inr k ↦ rested_next g t w k
  ]
]

-- ---- the numbers of a world: v has at most k task numbers and m region ids more than w
record Grown (k m : ℕ) (w v : World) : Type 0 where
  pub jobs : v.next_job ≤ w.next_job + k
  pub ids : v.grid.next ≤ w.grid.next + m

posted_grown : (w : World) (c : ChunkPos) (d : ℕ) (a : Action) → Grown 1 1 w (posted w c d a)
unfolding posted
posted_grown w c d a = elim (cases_Bool (is_full w.grid c)) [
  | inl f ↦ rw f (record { jobs = omega arith; ids = omega arith })
  | inr f ↦ rw f (record { jobs = omega arith; ids = add_next w.grid c })
]

loaded_grown : (w : World) (c : ChunkPos) → Grown 1 1 w (loaded w c)
unfolding loaded
loaded_grown w c = elim (cases_Bool (is_full w.grid c)) [
  | inl f ↦ rw f (record { jobs = omega arith; ids = omega arith })
  | inr f ↦ rw f (record { jobs = omega arith; ids = add_next w.grid c })
]

unloaded_grown : (w : World) (c : ChunkPos) → Grown 1 1 w (unloaded w c)
unfolding unloaded drop_hold
unloaded_grown w c = elim (cases_Bool (nat_eq (w.tickets c) 0)) [
  | inl f ↦ rw f (record { jobs = omega arith; ids = omega arith })
  | inr f ↦ rw f (record { jobs = omega arith; ids = omega arith })
]

begun_grown : (w : World) (worker r : ℕ) → Grown 1 1 w (begun w worker r)
unfolding begun begin
begun_grown w worker r = record { jobs = omega arith; ids = omega arith }

put_back_grown : (w : World) (a : Action) (b : Option BlockPos) → Grown 1 1 w (put_back w a b)
put_back_grown w (action.Set at id) b = record { jobs = omega arith; ids = omega arith }
put_back_grown w (action.Copy at to) b = record { jobs = omega arith; ids = omega arith }
put_back_grown w (action.Load c) b = record { jobs = omega arith; ids = omega arith }
put_back_grown w (action.Unload c) b = record { jobs = omega arith; ids = omega arith }
put_back_grown w (action.Post c d inner) b = record { jobs = omega arith; ids = omega arith }
put_back_grown w (action.Send id to) b = record { jobs = omega arith; ids = omega arith }
put_back_grown w (action.Arrive e) None = record { jobs = omega arith; ids = omega arith }
put_back_grown w (action.Arrive e) (Some b) = record { jobs = omega arith; ids = omega arith }
put_back_grown w (action.Every p l inner) b = record { jobs = omega arith; ids = omega arith }

accepted_grown : (w : World) (x : Wish) → Grown 1 1 w (accepted w x)
unfolding accepted
accepted_grown w x = elim (cases_Bool (is_full w.grid x.chunk)) [ inl f ↦ rw f (put_back_grown w x.action x.back) | inr f ↦ rw f (posted_grown w x.chunk x.delay x.action) ]

all_grown : (w : World) (xs : List Wish) → Grown (length xs) (length xs) w (all_accepted w xs)
all_grown w [] = record { jobs = omega arith; ids = omega arith }
all_grown w (x ∷ xs) = let a = accepted_grown w x in let b = all_grown (accepted w x) xs in
    record { jobs = omega (arith, a.jobs, b.jobs); ids = omega (arith, a.ids, b.ids) }

down_numbers : (w : World) (r : ℕ) (ran : List Ran) → ((run_down w r ran).next_job ≡ w.next_job) × ((run_down w r ran).grid.next ≡ w.grid.next)
unfolding dropped
down_numbers w r ran = (refl, refl)

released_grown : (w : World) (r : ℕ) → Ending r w → Grown 0 1820 w (released w r)
unfolding released
released_grown w r m = record { jobs = omega arith; ids = release_next w.grid r m.sound.rules m.sound.grid m.ticks }

answers_length : (w : World) (xs : List Wish) → length (answers w xs) ≡ length xs
answers_length w [] = refl
answers_length w (x ∷ xs) = let i = answers_length (accepted w x) xs in omega arith

ended_grown : (w : World) (r : ℕ) (ran : List Ran) (accepts : List Accept) → SoundWorld w → w.grid.state r ≡ Ticking → accepts ≡ answers (run_down w r ran) (ticked w r ran).wishes
    → Grown (length accepts) (length accepts + 1820) w (ended w r ran)
unfolding ended
ended_grown w r ran accepts s t e =
    let rec = w.recorded r in
    let xs = (ticked w r ran).wishes in
    let n : length accepts ≡ length xs = ap length e ∙ answers_length (run_down w r ran) xs in
    let m = all_accepted_ending rec (run_down w r ran) xs r (run_down_ending w r ran s t) (wishes_ok w r ran s) in
    let d = down_numbers w r ran in
    let a = all_grown (run_down w r ran) xs in
    let b = released_grown (all_accepted (run_down w r ran) xs) r m in
    record { jobs = omega (arith, d.0, a.jobs, b.jobs); ids = omega (arith, d.1, a.ids, b.ids) }

more : (k m : ℕ) (w v : World) (i j : ℕ) → k ≤ i → m ≤ j → Grown k m w v → Grown i j w v
more k m w v i j l n g = record { jobs = omega (arith, g.jobs); ids = omega (arith, g.ids) }

same_numbers : (w v : World) → v.next_job ≡ w.next_job → v.grid.next ≡ w.grid.next → Grown 1 1 w v
same_numbers w v e f = record { jobs = omega arith; ids = omega arith }

after_grown : (w : World) (e : Event) → SoundWorld w → Allowed w e → Grown (1 + answers_in e) (1 + answers_in e + 1820 * ends_in e) w (after w e)
after_grown w (Load caller c answer) s a = more 1 1 w (loaded w c) _ _ (omega arith) (omega arith) (loaded_grown w c)
after_grown w (Unload caller c answer) s a = more 1 1 w (unloaded w c) _ _ (omega arith) (omega arith) (unloaded_grown w c)
after_grown w (Post caller c d x answer) s a = more 1 1 w (posted w c d x) _ _ (omega arith) (omega arith) (posted_grown w c d x)
after_grown w (PhaseOpen n) s a = more 1 1 w _ _ _ (omega arith) (omega arith) (same_numbers w (after w (PhaseOpen n)) refl refl)
after_grown w (Begin worker r) s a = more 1 1 w (begun w worker r) _ _ (omega arith) (omega arith) (begun_grown w worker r)
after_grown w (End worker r tick ran accepts) s a = more _ _ w (ended w r ran) _ _ (omega arith) (omega arith) (ended_grown w r ran accepts s a.0 a.4)
after_grown w PhaseClose s a = more 1 1 w _ _ _ (omega arith) (omega arith) (same_numbers w (after w PhaseClose) refl refl)
after_grown w Finish s a = more 1 1 w _ _ _ (omega arith) (omega arith) (same_numbers w (after w Finish) refl refl)
after_grown w (Stop caller) s a = more 1 1 w _ _ _ (omega arith) (omega arith) (same_numbers w (after w (Stop caller)) refl refl)

all_entries_grown : (w : World) (es rest : List Entry) → SoundWorld w → RunFrom w (es ++ rest) → Grown (length es + answered es) (length es + answered es + 1820 * ends es) w (after_all w es)
all_entries_grown w [] rest s run = record { jobs = omega arith; ids = omega arith }
all_entries_grown w (e ∷ es) rest s run =
    let a = after_grown w e.event s run.1 in
    let b = all_entries_grown (after w e.event) es rest (after_keeps w e.event s run.1) run.2 in
    record { jobs = omega (arith, a.jobs, b.jobs); ids = omega (arith, a.ids, b.ids) }

pub jobs_grow : (o : Opening) (es rest : List Entry) → IsGrid o.grid → RunFrom (start o) (es ++ rest) → (after_all (start o) es).next_job ≤ 1 + length es + answered es
jobs_grow o es rest ok run = let g = all_entries_grown (start o) es rest (start_sound o ok) run in omega (arith, g.jobs)

pub ids_grow : (o : Opening) (es rest : List Entry) → IsGrid o.grid → RunFrom (start o) (es ++ rest) → (after_all (start o) es).grid.next ≤ 1 + length es + answered es + 1820 * ends es
ids_grow o es rest ok run = let g = all_entries_grown (start o) es rest (start_sound o ok) run in omega (arith, g.ids)
