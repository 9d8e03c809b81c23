-- When an accepted task runs.
use Rattle.std.specs.Prelude.{ℕ, ◌≡◌, ◌+◌, ◌-◌, ◌≤◌, ◌<◌, Bool, false, nat_eq, cond, List, [], ◌∷◌, ◌++◌, ◌⊎◌, Some, None, count_by}
use Rattle.fol_model.specs.declared.places.ChunkPos.{ChunkPos}
use Rattle.fol_model.specs.Geometry.{section_of}
use Rattle.fol_model.specs.Deed.{Deed}
use Rattle.fol_model.specs.ActionStep.{plain_of, plain_wishes}
use Rattle.fol_model.specs.FlatTick.{acted, asked}
use Rattle.fol_model.specs.World.{World, due_below}
use Rattle.fol_model.specs.Job.{Job, queued}
use Rattle.fol_model.specs.End.{ticked, run_down, answers}
use Rattle.fol_model.specs.Run.{after, after_all}
use Rattle.fol_model.specs.OpenTick.{NoEnd}
use Rattle.fol_model.specs.declared.events.Accept.{Accept}
use Rattle.fol_model.specs.declared.events.Accept.TheVariants as accept
use Rattle.fol_model.specs.declared.actions.Action.{Action}
use Rattle.fol_model.specs.declared.actions.Action.TheVariants as action
use Rattle.fol_model.specs.declared.tasks.Ran.{Ran}
use Rattle.fol_model.specs.declared.tasks.Wish.{Wish}
use Rattle.fol_model.specs.declared.events.Event.{Event}
use Rattle.fol_model.specs.declared.events.Event.TheVariants.{Post, Begin, End}
use Rattle.fol_model.specs.declared.events.Entry.{Entry}

-- one of the wishes was posted under the number
abbrev pub IsPosted : List Wish → List Accept → ℕ → ChunkPos → ℕ → Action → Type 0
IsPosted [] ys n c d a = ⊥
IsPosted (x ∷ xs) [] n c d a = ⊥
IsPosted (x ∷ xs) (y ∷ ys) n c d a = ((y ≡ accept.Posted n) × (x.chunk ≡ c) × (x.delay ≡ d) × (x.action ≡ a)) ⊎ IsPosted xs ys n c d a

-- the event, in the world w, accepts task n
abbrev pub Accepts : World → Event → ℕ → ChunkPos → ℕ → Action → Type 0
Accepts w (Post caller q e b answer) n c d a = (answer ≡ accept.Posted n) × (q ≡ c) × (e ≡ d) × (b ≡ a)
Accepts w (End worker r tick ran given) n c d a = IsPosted (ticked w r ran).wishes given n c d a
Accepts w _ n c d a = ⊥

-- a Begin of the region that owns the section of the chunk just before it
abbrev pub begins_on : World → ChunkPos → Event → Bool
begins_on w c (Begin worker r) = nat_eq (w.grid.owner (section_of w.grid.grid c)) r
begins_on w c _ = false

-- the number of such Begins along the entries
abbrev pub begins : World → ChunkPos → List Entry → ℕ
begins w c [] = 0
begins w c (e ∷ es) = cond (begins_on w c e.event) 1 0 + begins (after w e.event) c es

-- how often an event names a task as one that ran
abbrev pub names : ℕ → Event → ℕ
names n (End worker r tick ran given) = count_by (λ x. nat_eq x.number n) ran
names n _ = 0

abbrev pub named : ℕ → List Entry → ℕ
named n [] = 0
named n (e ∷ es) = names n e.event + named n es

-- the tick of r has taken the task
abbrev pub taken_by : ChunkPos → Action → ℕ → Job
taken_by c a r = record { chunk = c; rest = 0; action = a; taker = r }

-- what the tick of r asks for before the repeat of its due task n: the wishes of the due tasks with lower numbers, and then the one of n's
-- inner action, if there is one
abbrev pub asked_before : World → ℕ → ℕ → Action → List Wish
asked_before w r n a =
    asked (w.recorded r) w.flat (due_below w r n)
    ++ plain_wishes (w.recorded r) (acted (w.recorded r) w.flat (due_below w r n)) (plain_of a)

-- the End of the tick of r accepts the repeat of its due task n once: it is the wish straight behind those, the same `Every` with one time
-- fewer left, on n's chunk and with the period as delay; and the answer to this wish is Posted
pub record IsRepeated (w : World) (r : ℕ) (ran : List Ran) (n : ℕ) (c : ChunkPos) (p left : ℕ) (inner : Deed) : Type 0 where
  pub later : List Wish
  pub wishes : (ticked w r ran).wishes
      ≡ asked_before w r n (action.Every p left inner) ++ (record { chunk = c; delay = p; action = action.Every p (left - 1) inner; back = None }) ∷ later
  pub number : ℕ
  pub later_answers : List Accept
  pub answered : answers (run_down w r ran) (ticked w r ran).wishes
      ≡ answers (run_down w r ran) (asked_before w r n (action.Every p left inner)) ++ accept.Posted number ∷ later_answers

-- what becomes of task n, which w has queued with rest d, along the entries of a run from w
pub record DueRule (w : World) (es : List Entry) (n : ℕ) (c : ChunkPos) (d : ℕ) (a : Action) : Type 0 where
  -- before the d-th of these Begins it is queued, and no End names it
  pub waits : (xs ys : List Entry) → es ≡ xs ++ ys → begins w c xs < d
      → ((after_all w xs).jobs n ≡ Some (queued c (d - begins w c xs) a)) × (named n xs ≡ 0)
  -- from the d-th one to its End that tick has it
  pub runs : (xs ms ys : List Entry) (worker r by : ℕ) → es ≡ xs ++ (record { by = by; event = Begin worker r }) ∷ (ms ++ ys) → begins w c xs + 1 ≡ d
      → (after_all w xs).grid.owner (section_of (after_all w xs).grid.grid c) ≡ r → NoEnd r ms
      → ((after_all (after (after_all w xs) (Begin worker r)) ms).jobs n ≡ Some (taken_by c a r)) × (named n xs + named n ms ≡ 0)
  -- that End names it once, and no other one does
  pub once : (xs ms zs : List Entry) (worker r by : ℕ) (f : Entry) (tick : ℕ) (k : ℕ) (ran : List Ran) (given : List Accept)
      → es ≡ xs ++ (record { by = by; event = Begin worker r }) ∷ (ms ++ f ∷ zs) → begins w c xs + 1 ≡ d
      → (after_all w xs).grid.owner (section_of (after_all w xs).grid.grid c) ≡ r → NoEnd r ms → f.event ≡ End k r tick ran given
      → (names n f.event ≡ 1) × (named n zs ≡ 0)
      × ((p left : ℕ) (inner : Deed) → a ≡ action.Every p left inner → 2 ≤ left → IsRepeated (after_all (after (after_all w xs) (Begin worker r)) ms) r ran n c p left inner)
