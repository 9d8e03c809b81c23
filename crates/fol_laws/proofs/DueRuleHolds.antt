-- The due rule of each accepted task.
use Rattle.std.proofs.Common.{◌≡◌, ℕ, ◌+◌, ◌-◌, ◌<◌, refl, sym, ◌∙◌, ap, arith, false, inl, inr, List, [], ◌∷◌, ◌++◌, ◌≤◌}
use Rattle.std.specs.Prelude.{Option, Some}
use Rattle.std.proofs.lemmas.Bool.{cases_Bool, eq-eqb}
use Rattle.fol_model.specs.declared.places.ChunkPos.{ChunkPos}
use Rattle.fol_model.specs.declared.regions.State.TheVariants.{Ticking}
use Rattle.fol_model.specs.Geometry.{section_of}
use Rattle.fol_model.specs.GridNumbers.{IsGrid}
use Rattle.fol_model.specs.Add.{is_full}
use Rattle.fol_model.specs.World.{World, start}
use Rattle.fol_model.specs.Job.{Job, queued}
use Rattle.fol_model.specs.End.{ticked, accepted, all_accepted, answers, dropped, released, run_down, ended}
use Rattle.fol_model.specs.Holds.{posted, posting}
use Rattle.fol_model.specs.Run.{after, after_all, Allowed, RunFrom}
use Rattle.fol_laws.proofs.SoundState.{SoundWorld, job_below}
use Rattle.fol_model.specs.OpenTick.{NoEnd}
use Rattle.fol_model.specs.DueRule.{begins, named, taken_by, IsPosted, Accepts, DueRule, names}
use Rattle.fol_model.specs.declared.events.Accept.{Accept}
use Rattle.fol_model.specs.declared.events.Accept.TheVariants as accept
use Rattle.fol_model.specs.declared.actions.Action.{Action}
use Rattle.fol_model.specs.declared.openings.Opening.{Opening}
use Rattle.fol_model.specs.declared.tasks.Ran.{Ran}
use Rattle.fol_model.specs.declared.tasks.Wish.{Wish}
use Rattle.fol_model.specs.declared.events.Event.{Event}
use Rattle.fol_model.specs.declared.events.Event.TheVariants.{Load, Unload, Post, PhaseOpen, Begin, End, PhaseClose, Finish, Stop}
use Rattle.fol_model.specs.declared.events.Entry.{Entry}
use Rattle.fol_laws.proofs.FunctionsChanged.{at_here}
use Rattle.fol_laws.proofs.TaskFates.{fated, all_older}
use Rattle.fol_laws.proofs.SoundRuns.{after_keeps, start_sound}
use Rattle.fol_laws.proofs.OwnedRuns.{began_ticks}
use Rattle.fol_laws.proofs.DueAlong.{waits_along, begun_taken, taken_along, ended_names, over_along, named_before, names_fresh}
use Rattle.fol_laws.proofs.RepeatPosted.{is_repeated}

-- ---- what is accepted is queued with its delay
posting_is : (w : World) (c : ChunkPos) (n : ℕ) → posting w c ≡ accept.Posted n → (is_full w.grid c ≡ false) × (n ≡ w.next_job)
posting_is w c n h = elim (cases_Bool (is_full w.grid c)) [
  | inl f ↦ let x = rw f at h in absurd (cc)
  | inr f ↦ let x : accept.Posted w.next_job ≡ accept.Posted n = rw f at h in (f, cc)
]

posted_here : (w : World) (c : ChunkPos) (d : ℕ) (a : Action) → is_full w.grid c ≡ false → ((posted w c d a).jobs w.next_job ≡ Some (queued c d a)) × ((posted w c d a).next_job ≡ w.next_job + 1)
unfolding posted
posted_here w c d a f = rw f (at_here w.jobs w.next_job (Some (queued c d a)), refl)

accepted_here : (w : World) (x : Wish) → is_full w.grid x.chunk ≡ false → ((accepted w x).jobs w.next_job ≡ Some (queued x.chunk x.delay x.action)) × ((accepted w x).next_job ≡ w.next_job + 1)
unfolding accepted
accepted_here w x f = rw f (posted_here w x.chunk x.delay x.action f)

same_queued : (x : Wish) (c : ChunkPos) (d : ℕ) (a : Action) → x.chunk ≡ c → x.delay ≡ d → x.action ≡ a → ◌≡◌ {A = Option Job} (Some (queued x.chunk x.delay x.action)) (Some (queued c d a))
same_queued x c d a e f g i = Some (queued (e i) (f i) (g i))

wish_queued : (w : World) (xs : List Wish) (n : ℕ) (c : ChunkPos) (d : ℕ) (a : Action) → IsPosted xs (answers w xs) n c d a → (all_accepted w xs).jobs n ≡ Some (queued c d a)
wish_queued w [] n c d a h = absurd h
wish_queued w (x ∷ xs) n c d a (inl h) =
    let p = posting_is w x.chunk n h.0 in
    let k = accepted_here w x p.0 in
    let o = all_older (accepted w x) xs in
    (all_older (accepted w x) xs).jobs n (let e = p.1 in let f = k.1 in omega arith) ∙ ap (accepted w x).jobs p.1 ∙ k.0 ∙ same_queued x c d a h.1 h.2 h.3
wish_queued w (x ∷ xs) n c d a (inr h) = wish_queued (accepted w x) xs n c d a h

ended_jobs : (w : World) (r : ℕ) (ran : List Ran) → (ended w r ran).jobs ≡ (all_accepted (run_down w r ran) (ticked w r ran).wishes).jobs
unfolding ended released
ended_jobs w r ran = refl

posted_accepted : (xs : List Wish) (ys zs : List Accept) (n : ℕ) (c : ChunkPos) (d : ℕ) (a : Action) → ys ≡ zs → IsPosted xs ys n c d a → IsPosted xs zs n c d a
posted_accepted xs ys zs n c d a e h = rw (← e) h

post_queued : (w : World) (q : ChunkPos) (e : ℕ) (b : Action) (n : ℕ) (c : ChunkPos) (d : ℕ) (a : Action) → posting w q ≡ accept.Posted n → q ≡ c → e ≡ d → b ≡ a → (posted w q e b).jobs n ≡ Some (queued c d a)
post_queued w q e b n c d a h x y z = let p = posting_is w q n h in ap (posted w q e b).jobs p.1 ∙ (posted_here w q e b p.0).0 ∙ (λ i. Some (queued (x i) (y i) (z i)))

pub accepted_queued : (w : World) (e : Event) (n : ℕ) (c : ChunkPos) (d : ℕ) (a : Action) → Allowed w e → Accepts w e n c d a → (after w e).jobs n ≡ Some (queued c d a)
accepted_queued w (Load caller q answer) n c d a al h = absurd h
accepted_queued w (Unload caller q answer) n c d a al h = absurd h
accepted_queued w (Post caller q e b answer) n c d a al h = post_queued w q e b n c d a (sym al.4 ∙ h.0) h.1 h.2 h.3
accepted_queued w (PhaseOpen k) n c d a al h = absurd h
accepted_queued w (Begin worker r) n c d a al h = absurd h
accepted_queued w (End worker r tick ran answers) n c d a al h =
    ap (λ (f : ℕ → Option Job). f n) (ended_jobs w r ran) ∙ wish_queued (run_down w r ran) (ticked w r ran).wishes n c d a (posted_accepted (ticked w r ran).wishes answers _ n c d a al.4 h)
accepted_queued w PhaseClose n c d a al h = absurd h
accepted_queued w Finish n c d a al h = absurd h
accepted_queued w (Stop caller) n c d a al h = absurd h

-- ---- along a run
rest_run : (w : World) (xs ys : List Entry) → SoundWorld w → RunFrom w (xs ++ ys) → SoundWorld (after_all w xs) × RunFrom (after_all w xs) ys
rest_run w [] ys s run = (s, run)
rest_run w (x ∷ xs) ys s run = rest_run (after w x.event) xs ys (after_keeps w x.event s run.1) run.2

-- the d-th Begin, and what comes of the task until the End
record Due (w : World) (xs ms ys : List Entry) (n : ℕ) (c : ChunkPos) (a : Action) (worker r : ℕ) : Type 0 where
  sound : SoundWorld (after_all (after (after_all w xs) (Begin worker r)) ms)
  ticks : 0 < r
  run : RunFrom (after_all (after (after_all w xs) (Begin worker r)) ms) ys
  job : (after_all (after (after_all w xs) (Begin worker r)) ms).jobs n ≡ Some (taken_by c a r)
  none : named n xs + named n ms ≡ 0

due_at : (w : World) (xs ms ys : List Entry) (n : ℕ) (c : ChunkPos) (d : ℕ) (a : Action) (worker r by : ℕ) → SoundWorld w → w.jobs n ≡ Some (queued c d a)
    → RunFrom w (xs ++ (record { by = by; event = Begin worker r }) ∷ (ms ++ ys)) → begins w c xs + 1 ≡ d
    → (after_all w xs).grid.owner (section_of (after_all w xs).grid.grid c) ≡ r → NoEnd r ms → Due w xs ms ys n c a worker r
due_at w xs ms ys n c d a worker r by s q run e o ne =
    let v = after_all w xs in
    let u = after v (Begin worker r) in
    let a1 = waits_along n c a w xs ((record { by = by; event = Begin worker r }) ∷ (ms ++ ys)) d s run q (omega arith) in
    let b = rest_run w xs ((record { by = by; event = Begin worker r }) ∷ (ms ++ ys)) s run in
    let one : v.jobs n ≡ Some (queued c 1 a) = a1.0 ∙ ap (λ (k : ℕ). Some (queued c k a)) (let z : d - begins w c xs ≡ 1 = omega arith in z) in
    let k = begun_taken n c a v worker r b.0 one o in
    let su = after_keeps v (Begin worker r) b.0 b.1.1 in
    let p : 0 < r = su.rules.given r (λ x. let t = began_ticks v (Begin worker r) r (eq-eqb _ _ refl) in cc) in
    let t = taken_along n c a u ms ys r su p b.1.2 ne k in
    let m = rest_run u ms ys su b.1.2 in
    record { sound = m.0; ticks = p; run = m.1; job = t.0; none = omega (arith, a1.1, t.1) }

ticks_of : (v : World) (n : ℕ) (c : ChunkPos) (a : Action) (r : ℕ) → SoundWorld v → v.jobs n ≡ Some (taken_by c a r) → 0 < r → v.grid.state r ≡ Ticking
ticks_of v n c a r s q p = (s.each n (taken_by c a r) q).takes (λ z. omega arith)

pub due_rule : (w : World) (es : List Entry) (n : ℕ) (c : ChunkPos) (d : ℕ) (a : Action) → SoundWorld w → RunFrom w es → w.jobs n ≡ Some (queued c d a) → DueRule w es n c d a
due_rule w es n c d a s run q = record {
  waits = λ xs ys e l. waits_along n c a w xs ys d s (rw e at run) q l;
  runs = λ xs ms ys worker r by e b o ne. let k = due_at w xs ms ys n c d a worker r by s q (rw e at run) b o ne in (k.job, k.none);
  once = λ xs ms zs worker r by f tick k ran ans e b o ne is.
      let v = after_all (after (after_all w xs) (Begin worker r)) ms in
      let x = due_at w xs ms (f ∷ zs) n c d a worker r by s q (rw e at run) b o ne in
      let y = ended_names n c a v f.event k r tick ran ans x.sound x.run.1 is x.job in
      let m = job_below n v (taken_by c a r) x.sound x.job in
      let g = (fated v f.event).next in (
        y.0,
        over_along n (after v f.event) zs (after_keeps v f.event x.sound x.run.1) x.run.2 (omega arith) y.1,
        λ p left inner ea l. is_repeated v r ran n c p left inner x.sound (ticks_of v n c a r x.sound x.job x.ticks) m (x.job ∙ ap (λ (k : Action). Some (taken_by c k r)) ea) l,
      );
}

accepted_run : (w : World) (es : List Entry) (e : Entry) (rest : List Entry) (n : ℕ) (c : ChunkPos) (d : ℕ) (a : Action) → SoundWorld w → RunFrom w (es ++ e ∷ rest) → Accepts (after_all w es) e.event n c d a
    → DueRule (after (after_all w es) e.event) rest n c d a
accepted_run w es e rest n c d a s run h =
    let b = rest_run w es (e ∷ rest) s run in
    due_rule (after (after_all w es) e.event) rest n c d a (after_keeps (after_all w es) e.event b.0 b.1.1) b.1.2 (accepted_queued (after_all w es) e.event n c d a b.1.1 h)

pub due_law : (o : Opening) (es rest : List Entry) (e : Entry) (n : ℕ) (c : ChunkPos) (d : ℕ) (a : Action) → IsGrid o.grid → RunFrom (start o) (es ++ e ∷ rest) → Accepts (after_all (start o) es) e.event n c d a
    → DueRule (after (after_all (start o) es) e.event) rest n c d a
due_law o es rest e n c d a ok run h = accepted_run (start o) es e rest n c d a (start_sound o ok) run h

-- ---- before it is accepted
posted_new : (w : World) (xs : List Wish) (n : ℕ) (c : ChunkPos) (d : ℕ) (a : Action) → IsPosted xs (answers w xs) n c d a → w.next_job ≤ n
posted_new w [] n c d a h = absurd h
posted_new w (x ∷ xs) n c d a (inl h) = let p = posting_is w x.chunk n h.0 in let e = p.1 in omega arith
posted_new w (x ∷ xs) n c d a (inr h) = let i = posted_new (accepted w x) xs n c d a h in let o = all_older w (x ∷ []) in omega (arith, o.next)

down_next : (w : World) (r : ℕ) (ran : List Ran) → (run_down w r ran).next_job ≡ w.next_job
unfolding dropped
down_next w r ran = refl

post_new : (w : World) (q : ChunkPos) (n : ℕ) → posting w q ≡ accept.Posted n → w.next_job ≤ n
post_new w q n h = let p = posting_is w q n h in let e = p.1 in omega arith

accepted_new : (w : World) (e : Event) (n : ℕ) (c : ChunkPos) (d : ℕ) (a : Action) → Allowed w e → Accepts w e n c d a → w.next_job ≤ n
accepted_new w (Load caller q answer) n c d a al h = absurd h
accepted_new w (Unload caller q answer) n c d a al h = absurd h
accepted_new w (Post caller q e b answer) n c d a al h = post_new w q n (sym al.4 ∙ h.0)
accepted_new w (PhaseOpen k) n c d a al h = absurd h
accepted_new w (Begin worker r) n c d a al h = absurd h
accepted_new w (End worker r tick ran answers) n c d a al h =
    let i = posted_new (run_down w r ran) (ticked w r ran).wishes n c d a (posted_accepted (ticked w r ran).wishes answers _ n c d a al.4 h) in
    let e = down_next w r ran in omega arith
accepted_new w PhaseClose n c d a al h = absurd h
accepted_new w Finish n c d a al h = absurd h
accepted_new w (Stop caller) n c d a al h = absurd h

before_run : (w : World) (es : List Entry) (e : Entry) (rest : List Entry) (n : ℕ) (c : ChunkPos) (d : ℕ) (a : Action) → SoundWorld w → RunFrom w (es ++ e ∷ rest) → Accepts (after_all w es) e.event n c d a → named n es + names n e.event ≡ 0
before_run w es e rest n c d a s run h =
    let b = rest_run w es (e ∷ rest) s run in
    let l = accepted_new (after_all w es) e.event n c d a b.1.1 h in
    let x = named_before n w es (e ∷ rest) run l in
    let y = names_fresh n (after_all w es) e.event l b.1.1 in omega arith

pub before_law : (o : Opening) (es rest : List Entry) (e : Entry) (n : ℕ) (c : ChunkPos) (d : ℕ) (a : Action) → IsGrid o.grid → RunFrom (start o) (es ++ e ∷ rest) → Accepts (after_all (start o) es) e.event n c d a → named n es + names n e.event ≡ 0
before_law o es rest e n c d a ok run h = before_run (start o) es e rest n c d a (start_sound o ok) run h
