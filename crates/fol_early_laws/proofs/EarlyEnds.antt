-- Ends of ticks whose wishes touch no region which has begun early.
use Rattle.std.proofs.Common.{◌≡◌, ℕ, ◌+◌, ◌-◌, ◌<◌, refl, sym, ◌∙◌, ap, Bool, true, false, inl, inr, not, ◌&&◌, ◌||◌, List, [], ◌∷◌}
use Rattle.std.specs.Prelude.{nat_eq, if◌then◌else◌, Option, Some, None}
use Rattle.std.specs.List.{AllByRecursion}
use Rattle.std.proofs.lemmas.Bool.{cases_Bool, and_right, ne_eqb, false_from_ne_true, or_parts, true≢false}
use Rattle.fol_model.specs.Counting.{count_below, greatest_below}
use Rattle.fol_model.specs.declared.actions.Action.{Action}
use Rattle.fol_model.specs.declared.actions.Action.TheVariants as action
use Rattle.fol_model.specs.declared.places.BlockPos.{BlockPos}
use Rattle.fol_model.specs.declared.places.ChunkPos.{ChunkPos}
use Rattle.fol_model.specs.declared.regions.State.TheVariants.{Ready, Ticking}
use Rattle.fol_model.specs.declared.tasks.Ran.{Ran}
use Rattle.fol_model.specs.declared.tasks.Wish.{Wish}
use Rattle.fol_model.specs.Add.{is_full}
use Rattle.fol_model.specs.ActionStep.{Recorded, at_id}
use Rattle.fol_model.specs.Counters.{joins, owed_after_release, tick_after_release}
use Rattle.fol_model.specs.End.{accepted, all_accepted, answers, dropped, ended, outcome_in, put_back, released, run_down, ticked}
use Rattle.fol_model.specs.FlatTick.{FlatEnd, flat_tick}
use Rattle.fol_model.specs.Holds.{posting}
use Rattle.fol_model.specs.Job.{is_on, is_taken}
use Rattle.fol_model.specs.Release.{cleans, is_new_part, is_part_id, must_wait, release}
use Rattle.fol_model.specs.World.{World, due}
use Rattle.fol_laws.specs.LateBegin.{post_touches, wishes_touch}
use Rattle.fol_laws.proofs.Joins as joining
use Rattle.fol_laws.proofs.CountBelow.{count_same}
use Rattle.fol_laws.proofs.RecordedMargins.{RecordedOk}
use Rattle.fol_laws.proofs.ReleaseKeeps.{apart_part, ready_apart}
use Rattle.fol_laws.proofs.Resting.{Resting}
use Rattle.fol_laws.proofs.RestingHolds.{rest_posted}
use Rattle.fol_laws.proofs.RestingEnds.{rest_down, rest_released}
use Rattle.fol_laws.proofs.SoundRuns.{Ending, accepted_ending, all_accepted_ending, run_down_ending, wishes_ok}
use Rattle.fol_laws.proofs.SoundState.{SoundWorld}
use Rattle.fol_laws.proofs.TickingKept.{due_same}
use Rattle.fol_laws.proofs.WishLimits.{WishOk}
use Rattle.fol_early_laws.specs.EarlyBegins.{ahead_of, down_all, marked_grid, unhanded}
use Rattle.fol_early_laws.proofs.EarlyHolds.{greatest_same, posted_ahead, posted_unhanded, posting_ahead}
use Rattle.fol_early_laws.proofs.EarlyTasks.{down_rest, left_down, on_down, recorded_all, taken_down}
use Rattle.fol_early_laws.proofs.MarkedGrids.{full_same, new_part_same, release_same}

-- ---- the tick runs, and its holds are dropped
module _ (w : World) (p : ℕ → Bool) (q : ℕ) (s : SoundWorld w) (ok : RecordedOk w) (ready : (r : ℕ) → p r ≡ true → w.grid.state r ≡ Ready) (ticks : w.grid.state q ≡ Ticking) where
  off : p q ≡ false
  off = false_from_ne_true (p q) (λ k. let a = ready q k in cc)

  given : 0 < q
  given = s.rules.given q (λ d. cc)

  pub due_ahead : due (ahead_of w p) q ≡ due w q
  unfolding ahead_of
  due_ahead = due_same q w (ahead_of w p) w.next_job (λ n. taken_down w.grid p q given off n (w.jobs n))

  recorded_same : (ahead_of w p).recorded q ≡ w.recorded q
  unfolding ahead_of
  recorded_same = rw off refl

  flat_ahead : (ahead_of w p).flat ≡ w.flat
  unfolding ahead_of
  flat_ahead = refl

  pub ticked_ahead : (ran : List Ran) → ticked (ahead_of w p) q ran ≡ ticked w q ran
  ticked_ahead ran = λ i. flat_tick (recorded_same i) (outcome_in ran) (due_ahead i) (flat_ahead i)

  holds_down : (c : ChunkPos) → count_below (λ n. is_taken q (down_all w.grid p (w.jobs n)) && is_on c (down_all w.grid p (w.jobs n))) w.next_job ≡ count_below (λ n. is_taken q (w.jobs n) && is_on c (w.jobs n)) w.next_job
  holds_down c = count_same _ _ w.next_job (λ n l. on_down w.grid p q given off c (w.jobs n))

  pub run_down_ahead : (ran : List Ran) → run_down (ahead_of w p) q ran ≡ ahead_of (run_down w q ran) p
  unfolding ahead_of dropped
  run_down_ahead ran =
      let v : World = run_down w q ran in
      let rest : (r : ℕ) → p r ≡ true → Resting r w v = λ r k. rest_down r q w s ok (ready r k) ticks ran in
      λ i. record w {
        grid = record (marked_grid w.grid p) { holds = λ c. w.grid.holds c - holds_down c i };
        flat = (ticked_ahead ran i).flat;
        tick = at_id w.tick q (w.tick q + 1);
        jobs = λ n. left_down w.grid p q given off (w.jobs n) i;
        worker = λ r. 0;
        recorded = λ r. recorded_all w v p rest w.recorded r i;
        owed = λ r. if p r then w.owed r - 1 else w.owed r;
      }

-- ---- its wishes are accepted
put_back_ahead : (w : World) (p : ℕ → Bool) (a : Action) (b : Option BlockPos) → put_back (ahead_of w p) a b ≡ ahead_of (put_back w a b) p
unfolding ahead_of
put_back_ahead w p (action.Set at k) b = refl
put_back_ahead w p (action.Copy at to) b = refl
put_back_ahead w p (action.Load c) b = refl
put_back_ahead w p (action.Unload c) b = refl
put_back_ahead w p (action.Post c d inner) b = refl
put_back_ahead w p (action.Send k to) b = refl
put_back_ahead w p (action.Arrive e) None = refl
put_back_ahead w p (action.Arrive e) (Some b) = refl
put_back_ahead w p (action.Every k l inner) b = refl

full_ahead : (w : World) (p : ℕ → Bool) (c : ChunkPos) → is_full (ahead_of w p).grid c ≡ is_full w.grid c
unfolding ahead_of
full_ahead w p c = full_same w.grid c p

pub accepted_ahead : (rec : Recorded) (w : World) (p : ℕ → Bool) (x : Wish) → SoundWorld w → WishOk rec x → ((r : ℕ) → p r ≡ true → w.grid.state r ≡ Ready) → ((r : ℕ) → p r ≡ true → post_touches w.grid x.chunk r ≡ false)
    → accepted (ahead_of w p) x ≡ ahead_of (accepted w x) p
unfolding accepted
accepted_ahead rec w p x s ok ready calm = let a = full_ahead w p x.chunk in elim (cases_Bool (is_full w.grid x.chunk)) [
  | inl f ↦ rw (a, f) (put_back_ahead w p x.action x.back)
  | inr f ↦ rw (a, f) (posted_ahead w p x.chunk s ok.chunk ready x.delay x.action calm)
]

ready_put_back : (w : World) (a : Action) (b : Option BlockPos) (r : ℕ) → w.grid.state r ≡ Ready → (put_back w a b).grid.state r ≡ Ready
ready_put_back w (action.Set at k) b r h = h
ready_put_back w (action.Copy at to) b r h = h
ready_put_back w (action.Load c) b r h = h
ready_put_back w (action.Unload c) b r h = h
ready_put_back w (action.Post c d inner) b r h = h
ready_put_back w (action.Send k to) b r h = h
ready_put_back w (action.Arrive e) None r h = h
ready_put_back w (action.Arrive e) (Some b) r h = h
ready_put_back w (action.Every k l inner) b r h = h

ready_accepted : (rec : Recorded) (w : World) (x : Wish) (r : ℕ) → SoundWorld w → WishOk rec x → w.grid.state r ≡ Ready → post_touches w.grid x.chunk r ≡ false → (accepted w x).grid.state r ≡ Ready
unfolding accepted
ready_accepted rec w x r s ok h n = elim (cases_Bool (is_full w.grid x.chunk)) [
  | inl f ↦ rw f (ready_put_back w x.action x.back r h)
  | inr f ↦ rw f (rest_posted r w s h x.chunk x.delay x.action ok.chunk n).ready
]

-- what all wishes come to
pub record AllAhead (p : ℕ → Bool) (w : World) (xs : List Wish) : Type 0 where
  pub world : all_accepted (ahead_of w p) xs ≡ ahead_of (all_accepted w xs) p
  pub answers : answers (ahead_of w p) xs ≡ answers w xs
  pub ready : (r : ℕ) → p r ≡ true → (all_accepted w xs).grid.state r ≡ Ready

all_ahead : (rec : Recorded) (w : World) (p : ℕ → Bool) (xs : List Wish) (q : ℕ) → Ending q w → AllByRecursion (WishOk rec) xs → ((r : ℕ) → p r ≡ true → w.grid.state r ≡ Ready)
    → ((r : ℕ) → p r ≡ true → wishes_touch w xs r ≡ false) → AllAhead p w xs
all_ahead rec w p [] q m ok ready calm = record { world = refl; answers = refl; ready = ready }
all_ahead rec w p (x ∷ xs) q m ok ready calm =
    let now : (r : ℕ) → p r ≡ true → post_touches w.grid x.chunk r ≡ false = λ r k. (or_parts (post_touches w.grid x.chunk r) (wishes_touch (accepted w x) xs r) (calm r k)).0 in
    let one = accepted_ahead rec w p x m.sound ok.0 ready now in
    let rest = all_ahead rec (accepted w x) p xs q (accepted_ending rec w x q m ok.0) ok.1 (λ r k. ready_accepted rec w x r m.sound ok.0 (ready r k) (now r k))
    (λ r k. (or_parts (post_touches w.grid x.chunk r) (wishes_touch (accepted w x) xs r) (calm r k)).1) in
    record {
      world = ap (λ v. all_accepted v xs) one ∙ rest.world;
      answers = (λ i. posting_ahead w p x.chunk i ∷ answers (one i) xs) ∙ ap (λ l. posting w x.chunk ∷ l) rest.answers;
      ready = rest.ready;
    }

-- ---- the region is released
module _ (w : World) (p : ℕ → Bool) (q : ℕ) (m : Ending q w) (ready : (r : ℕ) → p r ≡ true → w.grid.state r ≡ Ready) where
  apart_from : (r : ℕ) → p r ≡ true → joining.Apart w.grid q m.sound.rules m.ticks r
  apart_from r k = ready_apart w.grid q m.sound.rules m.ticks r (ready r k)

  not_part : (r : ℕ) → p r ≡ true → is_part_id w.grid q r ≡ false
  not_part r k = let e = ready r k in apart_part w.grid q m.sound.rules m.sound.grid m.ticks r (λ d. cc) (apart_from r k)

  not_joins : (r : ℕ) → p r ≡ true → w.grid.waits r q ≡ false
  not_joins r k = (apart_from r k).free

  grid_released : release (marked_grid w.grid p) q ≡ marked_grid (release w.grid q) p
  grid_released = release_same w.grid q p (λ r k. ne_eqb _ _ (λ e. (apart_from r k).differs e)) not_joins not_part

  tick_released : (r : ℕ) → tick_after_release (marked_grid w.grid p) q w.tick r ≡ tick_after_release w.grid q w.tick r
  unfolding tick_after_release
  tick_released r = let a = new_part_same w.grid q p r in rw a refl

  joins_off : (u : ℕ) → joins w.grid q u ≡ true → p u ≡ false
  joins_off u j = false_from_ne_true (p u) (λ k.
      let a : nat_eq u q ≡ false = ne_eqb _ _ (λ e. (apart_from u k).differs e) in let b = not_joins u k in true≢false (sym j ∙ rw (a, b) refl))

  owed_released : (r : ℕ) → owed_after_release (marked_grid w.grid p) q (λ u. if p u then w.owed u - 1 else w.owed u) r ≡ (if p r then owed_after_release w.grid q w.owed r - 1 else owed_after_release w.grid q w.owed r)
  unfolding owed_after_release
  owed_released r = let a = new_part_same w.grid q p r in
      let most : greatest_below (joins w.grid q) (λ u. if p u then w.owed u - 1 else w.owed u) w.grid.next ≡ greatest_below (joins w.grid q) w.owed w.grid.next =
      greatest_same (joins w.grid q) (λ u. if p u then w.owed u - 1 else w.owed u) w.owed w.grid.next (λ k j. let o = joins_off k j in rw o refl) in
      elim (cases_Bool (p r)) [
        | inl k ↦ let e : nat_eq r q ≡ false = ne_eqb _ _ (λ e. (apart_from r k).differs e) in
            let n : is_new_part w.grid q r ≡ false = and_right (not (must_wait w.grid q) && cleans w.grid q) (is_part_id w.grid q r) (not_part r k) in
            rw (a, n, e, k) refl
        | inr k ↦ rw (a, k) (ap (λ v. if nat_eq r q || is_new_part w.grid q r then v else w.owed r) most)
      ]

  pub released_ahead : released (ahead_of w p) q ≡ ahead_of (released w q) p
  unfolding ahead_of released
  released_ahead =
      let v : World = record w { grid = release w.grid q; tick = tick_after_release w.grid q w.tick; owed = owed_after_release w.grid q w.owed } in
      let rest : (r : ℕ) → p r ≡ true → Resting r w v = λ r k. rest_released r w q m (ready r k) in
      λ i. record w {
        grid = grid_released i;
        tick = λ r. tick_released r i;
        jobs = λ n. down_rest w v p rest (w.jobs n) i;
        worker = λ r. 0;
        recorded = λ r. recorded_all w v p rest w.recorded r i;
        owed = λ r. owed_released r i;
      }

-- ---- the End as a whole
module _ (w : World) (p : ℕ → Bool) (q : ℕ) (s : SoundWorld w) (ok : RecordedOk w) (ready : (r : ℕ) → p r ≡ true → w.grid.state r ≡ Ready) (ticks : w.grid.state q ≡ Ticking)
    (ran : List Ran) (calm : (r : ℕ) → p r ≡ true → wishes_touch (run_down w q ran) (ticked w q ran).wishes r ≡ false) where
  down_ready : (r : ℕ) → p r ≡ true → (run_down w q ran).grid.state r ≡ Ready
  down_ready r k = (rest_down r q w s ok (ready r k) ticks ran).ready

  wishes_ahead : AllAhead p (run_down w q ran) (ticked w q ran).wishes
  wishes_ahead = all_ahead (w.recorded q) (run_down w q ran) p (ticked w q ran).wishes q (run_down_ending w q ran s ticks) (wishes_ok w q ran s) down_ready calm

  pub accepts_ahead : answers (run_down (ahead_of w p) q ran) (ticked (ahead_of w p) q ran).wishes ≡ answers (run_down w q ran) (ticked w q ran).wishes
  accepts_ahead = (λ i. answers (run_down_ahead w p q s ok ready ticks ran i) (ticked_ahead w p q s ok ready ticks ran i).wishes) ∙ wishes_ahead.answers

  pub ended_ahead : ended (ahead_of w p) q ran ≡ ahead_of (ended w q ran) p
  unfolding ended
  ended_ahead =
      let v = all_accepted (run_down w q ran) (ticked w q ran).wishes in
      (λ i. released (all_accepted (run_down_ahead w p q s ok ready ticks ran i) (ticked_ahead w p q s ok ready ticks ran i).wishes) q)
      ∙ ap (λ u. released u q) wishes_ahead.world
      ∙ released_ahead v p q (all_accepted_ending (w.recorded q) (run_down w q ran) (ticked w q ran).wishes q (run_down_ending w q ran s ticks) (wishes_ok w q ran s)) wishes_ahead.ready

-- ---- who has the open ticks is nothing to it
pub due_unhanded : (x : World) (q : ℕ) → due (unhanded x) q ≡ due x q
due_unhanded x q = due_same q x (unhanded x) x.next_job (λ n. refl)

pub ticked_unhanded : (x : World) (q : ℕ) (ran : List Ran) → ticked (unhanded x) q ran ≡ ticked x q ran
ticked_unhanded x q ran = ap (λ d. flat_tick (x.recorded q) (outcome_in ran) d x.flat) (due_unhanded x q)

run_down_unhanded : (x : World) (q : ℕ) (ran : List Ran) → run_down (unhanded x) q ran ≡ unhanded (run_down x q ran)
unfolding dropped
run_down_unhanded x q ran = λ i. record (unhanded (run_down x q ran)) { flat = (ticked_unhanded x q ran i).flat }

put_back_unhanded : (x : World) (a : Action) (b : Option BlockPos) → put_back (unhanded x) a b ≡ unhanded (put_back x a b)
put_back_unhanded x (action.Set at k) b = refl
put_back_unhanded x (action.Copy at to) b = refl
put_back_unhanded x (action.Load c) b = refl
put_back_unhanded x (action.Unload c) b = refl
put_back_unhanded x (action.Post c d inner) b = refl
put_back_unhanded x (action.Send k to) b = refl
put_back_unhanded x (action.Arrive e) None = refl
put_back_unhanded x (action.Arrive e) (Some b) = refl
put_back_unhanded x (action.Every k l inner) b = refl

accepted_unhanded : (x : World) (wish : Wish) → accepted (unhanded x) wish ≡ unhanded (accepted x wish)
unfolding accepted
accepted_unhanded x wish = elim (cases_Bool (is_full x.grid wish.chunk)) [
  | inl f ↦ rw f (put_back_unhanded x wish.action wish.back)
  | inr f ↦ rw f (posted_unhanded x wish.chunk wish.delay wish.action)
]

all_unhanded : (x : World) (xs : List Wish) → all_accepted (unhanded x) xs ≡ unhanded (all_accepted x xs)
all_unhanded x [] = refl
all_unhanded x (y ∷ ys) = ap (λ v. all_accepted v ys) (accepted_unhanded x y) ∙ all_unhanded (accepted x y) ys

answers_unhanded : (x : World) (xs : List Wish) → answers (unhanded x) xs ≡ answers x xs
answers_unhanded x [] = refl
answers_unhanded x (y ∷ ys) = (λ i. posting x y.chunk ∷ answers (accepted_unhanded x y i) ys) ∙ ap (λ l. posting x y.chunk ∷ l) (answers_unhanded (accepted x y) ys)

released_unhanded : (x : World) (q : ℕ) → released (unhanded x) q ≡ unhanded (released x q)
unfolding released
released_unhanded x q = refl

pub ended_unhanded : (x : World) (q : ℕ) (ran : List Ran) → ended (unhanded x) q ran ≡ unhanded (ended x q ran)
unfolding ended
ended_unhanded x q ran = (λ i. released (all_accepted (run_down_unhanded x q ran i) (ticked_unhanded x q ran i).wishes) q)
    ∙ ap (λ v. released v q) (all_unhanded (run_down x q ran) (ticked x q ran).wishes)
    ∙ released_unhanded (all_accepted (run_down x q ran) (ticked x q ran).wishes) q

pub ran_unhanded : (x : World) (q : ℕ) (ran : List Ran) → (ticked (unhanded x) q ran).ran ≡ (ticked x q ran).ran
ran_unhanded x q ran = ap (λ (t : FlatEnd). t.ran) (ticked_unhanded x q ran)

pub accepts_unhanded : (x : World) (q : ℕ) (ran : List Ran) → answers (run_down (unhanded x) q ran) (ticked (unhanded x) q ran).wishes ≡ answers (run_down x q ran) (ticked x q ran).wishes
accepts_unhanded x q ran = (λ i. answers (run_down_unhanded x q ran i) (ticked_unhanded x q ran i).wishes) ∙ answers_unhanded (run_down x q ran) (ticked x q ran).wishes
