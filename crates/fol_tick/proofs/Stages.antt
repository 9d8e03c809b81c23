-- Runs of tasks, and of ticks, behind one another.
use Rattle.std.proofs.Common.{◌≡◌, ℕ, zero, suc, ◌+◌, ◌-◌, ◌≤◌, refl, sym, ◌∙◌, ap, subst, arith, true, false, List, [], ◌∷◌, ◌++◌, length, take, drop, append_assoc, append-nil, drop-drop}
use Rattle.std.specs.List.{slice_range}
use Rattle.std.proofs.Math.Seq.{take-add}
use Rattle.std.proofs.lemmas.List.{take_rest}
use Rattle.std.proofs.lemmas.List.Folds.{drop_split}
use Rattle.fol_model.specs.ActionStep.{Flat, Recorded}
use Rattle.fol_model.specs.FlatTick.{FlatEnd, acted, moved, outcomes, asked, flat_tick, AllAbove, Rising}
use Rattle.fol_model.specs.declared.tasks.Task.{Task}
use Rattle.fol_chunks.specs.Contents.{flat_of, is_recorded}
use Rattle.fol_data.specs.declared.tick.Tick.{Tick}
use Rattle.fol_tick.specs.Calls.{HostCall, AreCallsOf, given}
use Rattle.fol_tick.specs.Runs.{tasks_run, stage_of, behind, TasksRan, SameTick, tasks_between, Runs, Finishes}
use Rattle.fol_tick.proofs.Outcomes.{acted_append, asked_append, outcomes_given, calls_append}

module _ (rec : Recorded) where
  behind_both : (a m n : FlatEnd) → behind (behind a m) n ≡ behind a (behind m n)
  behind_both a m n = λ i. record { flat = n.flat; ran = append_assoc a.ran m.ran n.ran i; wishes = append_assoc a.wishes m.wishes n.wishes i }

  run_append : (ts us : List Task) (xs ys : List HostCall) (f : Flat) → AreCallsOf ts xs → Rising (ts ++ us)
      → behind (tasks_run rec (given ts xs) ts f) (tasks_run rec (given us ys) us (acted rec f ts)) ≡ tasks_run rec (given (ts ++ us) (xs ++ ys)) (ts ++ us) f
  run_append ts us xs ys f s r =
      let flat = sym (acted_append rec f ts us) in
      let ran = sym (outcomes_given ts us xs ys s rec f r) in
      let wishes = sym (asked_append rec f ts us) in
      λ i. record { flat = flat i; ran = ran i; wishes = wishes i }

  -- tasks behind others
  pub ran_both : (ts us : List Task) (a b c : FlatEnd) (xs ys : List HostCall) → TasksRan rec ts a b xs → TasksRan rec us b c ys → Rising (ts ++ us) → TasksRan rec (ts ++ us) a c (xs ++ ys)
  ran_both ts us a b c xs ys first second rising = record {
    served = calls_append ts us xs ys first.served second.served;
    stage =
        (let P : FlatEnd → Type 0 = λ z. c ≡ behind z (tasks_run rec (given us ys) us z.flat) in subst P first.stage second.stage)
        ∙ behind_both a (tasks_run rec (given ts xs) ts a.flat) (tasks_run rec (given us ys) us (acted rec a.flat ts))
        ∙ ap (λ z. behind a z) (run_append ts us xs ys a.flat first.served rising);
  }

  -- no task
  pub ran_none : (a : FlatEnd) → TasksRan rec [] a a []
  ran_none a = record { served = refl; stage = λ i. record { flat = a.flat; ran = sym (append-nil a.ran) i; wishes = sym (append-nil a.wishes) i } }

-- ---- tasks in the middle of a list
above_take : (n k : ℕ) (ts : List Task) → AllAbove n ts → AllAbove n (take k ts)
above_take n zero ts h = tt
above_take n (suc k) [] h = tt
above_take n (suc k) (t ∷ ts) h = (h.0, above_take n k ts h.1)

rising_take : (k : ℕ) (ts : List Task) → Rising ts → Rising (take k ts)
rising_take zero ts h = tt
rising_take (suc k) [] h = tt
rising_take (suc k) (t ∷ ts) h = (above_take t.number k ts h.0, rising_take k ts h.1)

rising_drop : (k : ℕ) (ts : List Task) → Rising ts → Rising (drop k ts)
rising_drop zero ts h = h
rising_drop (suc k) [] h = tt
rising_drop (suc k) (t ∷ ts) h = rising_drop k ts h.1

pub between_both : (ts : List Task) (a b c : ℕ) → a ≤ b → b ≤ c → slice_range ts a b ++ slice_range ts b c ≡ slice_range ts a c
between_both ts a b c p q =
    let whole : c - a ≡ (b - a) + (c - b) = omega arith in
    let start : b ≡ a + (b - a) = omega arith in
    sym (ap (λ n. take n (drop a ts)) whole
    ∙ take-add (b - a) (c - b) (drop a ts)
    ∙ ap (λ zs. take (b - a) (drop a ts) ++ take (c - b) zs) (drop-drop (b - a) a ts ∙ ap (λ n. drop n ts) (sym start)))

-- ---- ticks
pub same_both : (a b c : Tick) → SameTick a b → SameTick b c → SameTick a c
same_both a b c p q = record {
  worker = q.worker ∙ p.worker;
  region = q.region ∙ p.region;
  begun = q.begun ∙ p.begun;
  chunks = q.chunks ∙ p.chunks;
  due = q.due ∙ p.due;
  counter = q.counter ∙ p.counter;
  owed = q.owed ∙ p.owed;
  queues = q.queues ∙ p.queues;
}

pub same_self : (a : Tick) → SameTick a a
same_self a = record {
  worker = refl;
  region = refl;
  begun = refl;
  chunks = refl;
  due = refl;
  counter = refl;
  owed = refl;
  queues = refl;
}

-- tasks of a tick that is the same but for how far it has come
same_tasks : (a b c : Tick) (ys : List HostCall) → SameTick a b → TasksRan (is_recorded b.chunks) (tasks_between b c) (stage_of b) (stage_of c) ys
    → TasksRan (is_recorded a.chunks) (slice_range a.due b.next c.next) (stage_of b) (stage_of c) ys
same_tasks a b c ys s h = rw (sym s.chunks, sym s.due) h

pub runs_none : (a : Tick) → a.moved ≡ false → a.next ≤ length a.due → Runs a a []
runs_none a unmoved within =
    let none : a.next - a.next ≡ 0 = omega arith in
    record {
      same = same_self a;
      unmoved = unmoved;
      forward = omega arith;
      within = within;
      tasks = rw none (ran_none (is_recorded a.chunks) (stage_of a));
    }

pub runs_both : (a b c : Tick) (xs ys : List HostCall) → Rising a.due → Runs a b xs → Runs b c ys → Runs a c (xs ++ ys)
runs_both a b c xs ys rising p q = record {
  same = same_both a b c p.same q.same;
  unmoved = q.unmoved;
  forward = let f = p.forward in let g = q.forward in omega arith;
  within = q.within;
  tasks =
      let joined = between_both a.due a.next b.next c.next p.forward q.forward in
      let whole : Rising (slice_range a.due a.next b.next ++ slice_range a.due b.next c.next) = rw joined (rising_take (c.next - a.next) (drop a.next a.due) (rising_drop a.next a.due rising)) in
      let P : List Task → Type 0 = λ ts. TasksRan (is_recorded a.chunks) ts (stage_of a) (stage_of c) (xs ++ ys) in
      subst P joined
      (ran_both (is_recorded a.chunks) (slice_range a.due a.next b.next) (slice_range a.due b.next c.next) (stage_of a) (stage_of b) (stage_of c) xs ys p.tasks (same_tasks a b c ys p.same q.tasks) whole);
}

-- the same from a tick that has come as far
pub runs_from : (a b c : Tick) (xs : List HostCall) → SameTick a b → b.next ≡ a.next → stage_of b ≡ stage_of a → Runs b c xs → Runs a c xs
runs_from a b c xs same next stage h = record {
  same = same_both a b c same h.same;
  unmoved = h.unmoved;
  forward = let f = h.forward in omega arith;
  within = h.within;
  tasks =
      let P : ℕ → Type 0 = λ n. TasksRan (is_recorded a.chunks) (slice_range a.due n c.next) (stage_of a) (stage_of c) xs in
      let Q : FlatEnd → Type 0 = λ z. TasksRan (is_recorded a.chunks) (slice_range a.due b.next c.next) z (stage_of c) xs in
      subst P next (subst Q stage (same_tasks a b c xs same h.tasks));
}

-- a tick that has come no further
pub runs_still : (a b : Tick) → b.moved ≡ false → b.next ≤ length b.due → SameTick a b → b.next ≡ a.next → stage_of b ≡ stage_of a → Runs a b []
runs_still a b unmoved within same next stage = runs_from a b b [] same next stage (runs_none b unmoved within)

-- calls of a host, one behind another, and what they ran
module _ {H : Type 0} (reaches : H → List HostCall → H → Type 0) (follows : (a b c : H) (xs ys : List HostCall) → reaches a xs b → reaches b ys c → reaches a (xs ++ ys) c) where
  abbrev pub Came : H → H → Tick → Tick → Type 0
  Came a b s t = (calls : List HostCall) × reaches a calls b × Runs s t calls

  pub came_on : (a b c : H) (s t u : Tick) → Rising s.due → Came a b s t → Came b c t u → Came a c s u
  came_on a b c s t u rising p q = (p.0 ++ q.0, follows a b c p.0 q.0 p.1 q.1, runs_both s t u p.0 q.0 rising p.2 q.2)

-- the movement behind all tasks
pub finishes : (a b c : Tick) (xs : List HostCall) → Runs a b xs → b.next ≡ length b.due → SameTick b c → c.moved ≡ true → c.next ≡ b.next
    → stage_of c ≡ record { flat = moved (is_recorded b.chunks) (flat_of b.body.chunks); ran = b.log.ran; wishes = b.log.wishes } → Finishes a c xs
unfolding flat_tick
finishes a b c xs h all same moved_now next stage =
    let due = h.same.due in
    let end : b.next ≡ length a.due = all ∙ ap (λ (ts : List Task). length ts) due in
    let rest : tasks_between a b ≡ drop a.next a.due = ap (λ n. slice_range a.due a.next n) end ∙ take_rest a.due a.next in
    let tasks : TasksRan (is_recorded a.chunks) (drop a.next a.due) (stage_of a) (stage_of b) xs = let P : List Task → Type 0 = λ ts. TasksRan (is_recorded a.chunks) ts (stage_of a) (stage_of b) xs in subst P rest h.tasks in
    record {
      same = same_both a b c h.same same;
      moved = moved_now;
      next = next ∙ all ∙ ap (λ (ts : List Task). length ts) (sym same.due);
      served = tasks.served;
      stage =
          stage
          ∙ ap (λ (z : FlatEnd). let w : FlatEnd = record { flat = moved (is_recorded b.chunks) z.flat; ran = z.ran; wishes = z.wishes } in w) tasks.stage
          ∙ ap (λ chunks. let w : FlatEnd = record { flat = moved (is_recorded chunks) (acted (is_recorded a.chunks) (flat_of a.body.chunks) (drop a.next a.due)); ran = a.log.ran ++ outcomes (is_recorded a.chunks) (given (drop a.next a.due) xs) (flat_of a.body.chunks) (drop a.next a.due); wishes = a.log.wishes ++ asked (is_recorded a.chunks) (flat_of a.body.chunks) (drop a.next a.due) } in w) h.same.chunks;
    }

-- the end of a tick behind some of its tasks
pub finishes_both : (a b c : Tick) (xs ys : List HostCall) → Rising a.due → Runs a b xs → Finishes b c ys → Finishes a c (xs ++ ys)
unfolding flat_tick
finishes_both a b c xs ys rising p q =
    let within : b.next ≤ length a.due = let P : List Task → Type 0 = λ ts. b.next ≤ length ts in subst P p.same.due p.within in
    let split : drop a.next a.due ≡ slice_range a.due a.next b.next ++ drop b.next a.due = drop_split a.due a.next b.next p.forward in
    let whole : Rising (slice_range a.due a.next b.next ++ drop b.next a.due) = let P : List Task → Type 0 = λ ts. Rising ts in subst P split (rising_drop a.next a.due rising) in
    let served : AreCallsOf (drop b.next a.due) ys = let P : List Task → Type 0 = λ ts. AreCallsOf (drop b.next ts) ys in subst P p.same.due q.served in
    let stage : stage_of c ≡ behind (stage_of b) (flat_tick (is_recorded a.chunks) (given (drop b.next a.due) ys) (drop b.next a.due) (flat_of b.body.chunks)) = rw (sym p.same.chunks, sym p.same.due) q.stage in
    let middle : FlatEnd = behind (stage_of b) (tasks_run (is_recorded a.chunks) (given (drop b.next a.due) ys) (drop b.next a.due) (flat_of b.body.chunks)) in
    let second : TasksRan (is_recorded a.chunks) (drop b.next a.due) (stage_of b) middle ys = record { served = served; stage = refl } in
    let both = ran_both (is_recorded a.chunks) (slice_range a.due a.next b.next) (drop b.next a.due) (stage_of a) (stage_of b) middle xs ys p.tasks second whole in
    let all : TasksRan (is_recorded a.chunks) (drop a.next a.due) (stage_of a) middle (xs ++ ys) = let P : List Task → Type 0 = λ ts. TasksRan (is_recorded a.chunks) ts (stage_of a) middle (xs ++ ys) in subst P (sym split) both in
    record {
      same = same_both a b c p.same q.same;
      moved = q.moved;
      next = q.next;
      served = all.served;
      stage = stage ∙ ap (λ (z : FlatEnd). let w : FlatEnd = record { flat = moved (is_recorded a.chunks) z.flat; ran = z.ran; wishes = z.wishes } in w) all.stage;
    }

-- the whole tick
pub whole_tick : (a b : Tick) (xs : List HostCall) → a.next ≡ 0 → a.log.ran ≡ [] → a.log.wishes ≡ [] → Finishes a b xs → stage_of b ≡ flat_tick (is_recorded a.chunks) (given a.due xs) a.due (flat_of a.body.chunks)
unfolding flat_tick
whole_tick a b xs next ran wishes h =
    let from : stage_of b ≡ behind (stage_of a) (flat_tick (is_recorded a.chunks) (given (drop 0 a.due) xs) (drop 0 a.due) (flat_of a.body.chunks)) = let P : ℕ → Type 0 = λ n. stage_of b ≡ behind (stage_of a) (flat_tick (is_recorded a.chunks) (given (drop n a.due) xs) (drop n a.due) (flat_of a.body.chunks)) in subst P next h.stage in
    from
    ∙ (λ i. record { flat = moved (is_recorded a.chunks) (acted (is_recorded a.chunks) (flat_of a.body.chunks) a.due); ran = ran i ++ outcomes (is_recorded a.chunks) (given a.due xs) (flat_of a.body.chunks) a.due; wishes = wishes i ++ asked (is_recorded a.chunks) (flat_of a.body.chunks) a.due })
