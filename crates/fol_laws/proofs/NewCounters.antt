-- A region that was not given out yet has counter 0.
use Rattle.std.proofs.Common.{◌≡◌, ◌≢◌, ℕ, ◌+◌, ◌<◌, ◌≤◌, refl, sym, ◌∙◌, ap, arith, true, false, inl, inr, not, ◌&&◌, List, [], ◌∷◌, ◌++◌}
use Rattle.std.specs.Prelude.{nat_eq, nat_le, nat_lt, Option, Some, None}
use Rattle.std.proofs.lemmas.Bool.{cases_Bool, and_parts, leb-true, true≢false}
use Rattle.fol_model.specs.declared.places.ChunkPos.{ChunkPos}
use Rattle.fol_model.specs.declared.places.BlockPos.{BlockPos}
use Rattle.fol_model.specs.declared.regions.State.TheVariants.{Ticking, Dead}
use Rattle.fol_model.specs.declared.openings.Opening.{Opening}
use Rattle.fol_model.specs.declared.tasks.Ran.{Ran}
use Rattle.fol_model.specs.declared.tasks.Wish.{Wish}
use Rattle.fol_model.specs.declared.actions.Action.{Action}
use Rattle.fol_model.specs.declared.actions.Action.TheVariants as action
use Rattle.fol_model.specs.declared.events.Event.{Event}
use Rattle.fol_model.specs.declared.events.Event.TheVariants.{Load, Unload, Post, PhaseOpen, Begin, End, PhaseClose, Finish, Stop}
use Rattle.fol_model.specs.declared.events.Entry.{Entry}
use Rattle.fol_model.specs.GridNumbers.{IsGrid}
use Rattle.fol_model.specs.GridState.{GridState}
use Rattle.fol_model.specs.Add.{add, is_full, wanted, target}
use Rattle.fol_model.specs.Begin.{begin}
use Rattle.fol_model.specs.Drop.{drop_hold}
use Rattle.fol_model.specs.Release.{release, must_wait, cleans, parts, is_part_id, is_new_part}
use Rattle.fol_model.specs.Counters.{tick_after_release}
use Rattle.fol_model.specs.World.{World, start}
use Rattle.fol_model.specs.Holds.{loaded, unloaded, posted}
use Rattle.fol_model.specs.QueuedTask.{begun}
use Rattle.fol_model.specs.End.{dropped, ticked, put_back, accepted, all_accepted, released, run_down, ended}
use Rattle.fol_model.specs.Run.{after, after_all, Allowed, RunFrom}
use Rattle.fol_laws.specs.Growth.{NewCountersAreZero}
use Rattle.fol_laws.proofs.CounterGrowth.{tick_loaded, tick_unloaded, tick_posted, tick_accepted, tick_begun, tick_down}
use Rattle.fol_laws.proofs.FunctionsChanged.{at_other}
use Rattle.fol_laws.proofs.NumberGrowth.{next_is}
use Rattle.fol_laws.proofs.SoundState.{SoundWorld}
use Rattle.fol_laws.proofs.SoundRuns.{after_keeps, start_sound}

-- ---- ids are given out and never taken back

next_add : (g : GridState) (c : ChunkPos) → g.next ≤ (add g c).next
unfolding add
next_add g c = elim (cases_Bool (is_full g c)) [
  | inl f ↦ rw f (omega arith)
  | inr f ↦ elim (cases_Bool (nat_eq (wanted g c) 0)) [
    | inl k ↦ rw (f, k) (omega arith)
    | inr k ↦ elim (cases_Bool (nat_eq (target g c) g.next)) [ inl t ↦ rw (f, k, t) (omega arith) | inr t ↦ rw (f, k, t) (omega arith) ]
  ]
]

next_release : (g : GridState) (t : ℕ) → g.next ≤ (release g t).next
unfolding release
next_release g t = elim (cases_Bool (must_wait g t)) [
  | inl w ↦ rw w (omega arith)
  | inr w ↦ elim (cases_Bool (cleans g t)) [
    | inl k ↦ elim (cases_Bool (nat_le 2 (parts g t))) [ inl m ↦ rw (w, k, m) (omega arith) | inr m ↦ rw (w, k, m) (omega arith) ]
    | inr k ↦ rw (w, k) (omega arith)
  ]
]

-- the id of a part that a release makes was given out by it
part_given : (g : GridState) (t r : ℕ) → is_new_part g t r ≡ true → r < (release g t).next
part_given g t r e =
    let a = and_parts (not (must_wait g t) && cleans g t) (is_part_id g t r) e in
    let b = and_parts (not (must_wait g t)) (cleans g t) a.0 in
    let free : must_wait g t ≡ false = elim (cases_Bool (must_wait g t)) [ inl w ↦ absurd (true≢false (sym (rw w at b.0))) | inr w ↦ w ] in
    let c = and_parts (nat_le 2 (parts g t)) (nat_le g.next r && nat_lt r (g.next + parts g t)) a.1 in
    let d = and_parts (nat_le g.next r) (nat_lt r (g.next + parts g t)) c.1 in
    let below = leb-true _ _ d.1 in
    omega (arith, below, next_is g t free b.1 c.0)

-- ---- the steps

same_counters : (w v : World) → v.tick ≡ w.tick → w.grid.next ≤ v.grid.next → NewCountersAreZero w → NewCountersAreZero v
same_counters w v e l new r above = ap (λ (f : ℕ → ℕ). f r) e ∙ new r (omega (arith, l, above))

next_loaded : (w : World) (c : ChunkPos) → w.grid.next ≤ (loaded w c).grid.next
unfolding loaded
next_loaded w c = elim (cases_Bool (is_full w.grid c)) [ inl f ↦ rw f (omega arith) | inr f ↦ rw f (next_add w.grid c) ]

next_posted : (w : World) (c : ChunkPos) (d : ℕ) (a : Action) → w.grid.next ≤ (posted w c d a).grid.next
unfolding posted
next_posted w c d a = elim (cases_Bool (is_full w.grid c)) [ inl f ↦ rw f (omega arith) | inr f ↦ rw f (next_add w.grid c) ]

next_unloaded : (w : World) (c : ChunkPos) → w.grid.next ≤ (unloaded w c).grid.next
unfolding unloaded drop_hold
next_unloaded w c = elim (cases_Bool (nat_eq (w.tickets c) 0)) [ inl f ↦ rw f (omega arith) | inr f ↦ rw f (omega arith) ]

next_begun : (w : World) (worker r : ℕ) → w.grid.next ≤ (begun w worker r).grid.next
unfolding begun begin
next_begun w worker r = omega arith

pub grid_put_back : (w : World) (a : Action) (b : Option BlockPos) → (put_back w a b).grid ≡ w.grid
grid_put_back w (action.Set at id) b = refl
grid_put_back w (action.Copy at to) b = refl
grid_put_back w (action.Load c) b = refl
grid_put_back w (action.Unload c) b = refl
grid_put_back w (action.Post c d inner) b = refl
grid_put_back w (action.Send id to) b = refl
grid_put_back w (action.Arrive e) None = refl
grid_put_back w (action.Arrive e) (Some b) = refl
grid_put_back w (action.Every p l inner) b = refl

next_accepted : (w : World) (x : Wish) → w.grid.next ≤ (accepted w x).grid.next
unfolding accepted
next_accepted w x = elim (cases_Bool (is_full w.grid x.chunk)) [
  | inl f ↦ rw f (omega (arith, ap (λ (g : GridState). g.next) (grid_put_back w x.action x.back)))
  | inr f ↦ rw f (next_posted w x.chunk x.delay x.action)
]

all_new : (w : World) (xs : List Wish) → NewCountersAreZero w → NewCountersAreZero (all_accepted w xs)
all_new w [] new = new
all_new w (x ∷ xs) new = all_new (accepted w x) xs (same_counters w (accepted w x) (tick_accepted w x) (next_accepted w x) new)

grid_down : (w : World) (r : ℕ) (ran : List Ran) → (run_down w r ran).grid.next ≡ w.grid.next
unfolding dropped
grid_down w r ran = refl

down_new : (w : World) (r : ℕ) (ran : List Ran) → r < w.grid.next → NewCountersAreZero w → NewCountersAreZero (run_down w r ran)
down_new w r ran given new q above =
    let up : w.grid.next ≤ q = omega (arith, above, grid_down w r ran) in
    let other : q ≢ r = λ e. omega (arith, up, given, e) in
    ap (λ (f : ℕ → ℕ). f q) (tick_down w r ran) ∙ at_other w.tick r (w.tick r + 1) q other ∙ new q up

released_new : (w : World) (r : ℕ) → NewCountersAreZero w → NewCountersAreZero (released w r)
unfolding released tick_after_release
released_new w r new q above = elim (cases_Bool (is_new_part w.grid r q)) [
  | inl e ↦ absurd (omega (arith, part_given w.grid r q e, above))
  | inr e ↦ rw e (new q (omega (arith, next_release w.grid r, above)))
]

ended_new : (w : World) (r : ℕ) (ran : List Ran) → r < w.grid.next → NewCountersAreZero w → NewCountersAreZero (ended w r ran)
unfolding ended
ended_new w r ran given new = released_new (all_accepted (run_down w r ran) (ticked w r ran).wishes) r (all_new (run_down w r ran) (ticked w r ran).wishes (down_new w r ran given new))

ticking_given : (w : World) (r : ℕ) → SoundWorld w → w.grid.state r ≡ Ticking → r < w.grid.next
ticking_given w r s t = s.rules.below_next r (λ e. absurd (let k : Ticking ≡ Dead = sym t ∙ e in cc))

after_new : (w : World) (e : Event) → SoundWorld w → Allowed w e → NewCountersAreZero w → NewCountersAreZero (after w e)
after_new w (Load caller c answer) s a new = same_counters w (loaded w c) (tick_loaded w c) (next_loaded w c) new
after_new w (Unload caller c answer) s a new = same_counters w (unloaded w c) (tick_unloaded w c) (next_unloaded w c) new
after_new w (Post caller c d x answer) s a new = same_counters w (posted w c d x) (tick_posted w c d x) (next_posted w c d x) new
after_new w (PhaseOpen n) s a new = new
after_new w (Begin worker r) s a new = same_counters w (begun w worker r) (tick_begun w worker r) (next_begun w worker r) new
after_new w (End worker r tick ran accepts) s a new = ended_new w r ran (ticking_given w r s a.0) new
after_new w PhaseClose s a new = new
after_new w Finish s a new = new
after_new w (Stop caller) s a new = new

all_entries_new : (w : World) (es rest : List Entry) → SoundWorld w → RunFrom w (es ++ rest) → NewCountersAreZero w → NewCountersAreZero (after_all w es)
all_entries_new w [] rest s run new = new
all_entries_new w (e ∷ es) rest s run new = all_entries_new (after w e.event) es rest (after_keeps w e.event s run.1) run.2 (after_new w e.event s run.1 new)

pub new_counters : (o : Opening) (es rest : List Entry) → IsGrid o.grid → RunFrom (start o) (es ++ rest) → NewCountersAreZero (after_all (start o) es)
new_counters o es rest ok run = all_entries_new (start o) es rest (start_sound o ok) run (λ r above. refl)
