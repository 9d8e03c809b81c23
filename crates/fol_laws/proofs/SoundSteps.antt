-- Each step keeps grid, tickets and tasks sound.
use Rattle.std.proofs.Common.{◌≡◌, ℕ, ◌+◌, ◌-◌, ◌≤◌, ◌<◌, refl, sym, ◌∙◌, ap, arith, true, false, inl, inr, not, ◌&&◌}
use Rattle.std.specs.Prelude.{◌≢◌, nat_eq, nat_le, if◌then◌else◌, Option, Some, None}
use Rattle.std.proofs.lemmas.Bool.{cases_Bool, cases_eq, and_parts, eqb-false, leb-true, leb-false}
use Rattle.std.proofs.lemmas.Option.{same_Some}
use Rattle.fol_model.specs.declared.places.ChunkPos.{ChunkPos}
use Rattle.fol_model.specs.declared.regions.State.{State}
use Rattle.fol_model.specs.declared.regions.State.TheVariants.{Ready, Ticking}
use Rattle.fol_model.specs.Geometry.{section_of, same_chunk, is_chunk}
use Rattle.fol_model.specs.GridState.{GridState}
use Rattle.fol_model.specs.Add.{add, is_full}
use Rattle.fol_model.specs.Drop.{drop_hold}
use Rattle.fol_model.specs.Begin.{begin}
use Rattle.fol_model.specs.Counting.{count_below}
use Rattle.fol_model.specs.Release.{release}
use Rattle.fol_laws.proofs.SamePlaces.{same_chunk-true}
use Rattle.fol_laws.proofs.AddKeeps.{add_keeps}
use Rattle.fol_laws.proofs.AddSections.{holds_add, grid_add, ticking_add}
use Rattle.fol_laws.proofs.ReleaseKeeps.{release_keeps, grid_release, holds_release}
use Rattle.fol_laws.proofs.SmallSteps.{drop_keeps, begin_keeps}
use Rattle.fol_model.specs.Limits.{is_action, is_delay, fits}
use Rattle.fol_model.specs.ActionStep.{at_id}
use Rattle.fol_model.specs.Job.{Job, is_on, is_taken, queued}
use Rattle.fol_model.specs.QueuedTask.{counted_down}
use Rattle.fol_model.specs.End.{left}
use Rattle.fol_model.specs.declared.actions.Action.{Action}
use Rattle.fol_laws.proofs.SoundState.{Sound}
use Rattle.fol_laws.specs.Tasks.{JobOk}
use Rattle.fol_laws.proofs.CountBelow.{count_same, count_less, count_next, count_split}
use Rattle.fol_laws.proofs.FunctionsChanged.{at_here, at_other}
use Rattle.fol_laws.proofs.GridFields.{grid_ok, holds_drop, grid_drop, state_drop, fewer_keeps, begin_holds, begin_grid, begin_ticking, begin_here, ticking_release}

delay_in : (d : ℕ) → is_delay d ≡ true → (1 ≤ d) × (d ≤ 1000000)
unfolding is_delay
delay_in d h = let x = and_parts (nat_le 1 d) (nat_le d 1000000) h in (leb-true _ _ x.0, leb-true _ _ x.1)

same_ok : (g : GridState) (i j : Job) → ◌≡◌ {A = Option Job} (Some i) (Some j) → JobOk g i → JobOk g j
same_ok g i j e h = let s : i ≡ j = same_Some i j e in rw s at h

-- the tasks of a grid where each Ticking region ticks in the next
pub still_ok : (g h : GridState) (j : Job) → (j.taker ≢ 0 → g.state j.taker ≡ Ticking → h.state j.taker ≡ Ticking) → JobOk g j → JobOk h j
still_ok g h j keeps ok = record { chunk = ok.chunk; action = ok.action; fits = ok.fits; rest_high = ok.rest_high; rest_low = ok.rest_low; takes = λ n. keeps n (ok.takes n) }

module _ (g : GridState) (ti : ChunkPos → ℕ) (jobs : ℕ → Option Job) (next : ℕ) (s : Sound g ti jobs next) where
  add_ok : (c : ChunkPos) → is_chunk c ≡ true → (j : Job) → JobOk g j → JobOk (add g c) j
  add_ok c l j ok = still_ok g (add g c) j (λ n t. ticking_add g c s.rules s.grid l j.taker t) ok

  pub loaded_sound : (c : ChunkPos) → is_chunk c ≡ true → is_full g c ≡ false → Sound (add g c) (λ q. if same_chunk c q then ti c + 1 else ti q) jobs next
  loaded_sound c l f = record {
    rules = add_keeps g c s.rules s.grid l;
    grid = grid_ok _ _ (grid_add g c) s.grid;
    each = λ n j e. add_ok c l j (s.each n j e);
    holds = λ q. holds_add g c q f ∙ elim (cases_Bool (same_chunk c q)) [
      | inl e ↦ let a = s.holds c in let b = same_chunk-true c q e in rw (e, ← b) (omega arith)
      | inr e ↦ rw e (s.holds q)
    ];
    numbers = s.numbers;
  }

  pub posted_sound : (c : ChunkPos) (d : ℕ) (a : Action) → is_chunk c ≡ true → is_delay d ≡ true → is_action a ≡ true → fits c a ≡ true → is_full g c ≡ false
      → Sound (add g c) ti (at_id jobs next (Some (queued c d a))) (next + 1)
  posted_sound c d a l dl act fit f =
      let job : Option Job = Some (queued c d a) in
      record {
        rules = add_keeps g c s.rules s.grid l;
        grid = grid_ok _ _ (grid_add g c) s.grid;
        each = λ n j e. elim (cases_eq n next) [
          | inl h ↦ let here : at_id jobs next job n ≡ job = rw h (at_here jobs next job) in
              same_ok (add g c) (queued c d a) j (sym here ∙ e) (record { chunk = l; action = act; fits = fit; rest_high = (delay_in d dl).1; rest_low = λ _. (delay_in d dl).0; takes = λ n. absurd (n refl) })
          | inr h ↦ add_ok c l j (s.each n j (sym (at_other jobs next job n h) ∙ e))
        ];
        holds = λ q.
            let more = count_less (λ n. is_on q (at_id jobs next job n)) (λ n. is_on q (jobs n)) (next + 1) next (omega arith)
            (ap (is_on q) (s.numbers next (omega arith))) (λ k h. ap (is_on q) (at_other jobs next job k h)) in
            let here : is_on q (at_id jobs next job next) ≡ same_chunk c q = ap (is_on q) (at_here jobs next job) in
            let last = count_next (λ n. is_on q (jobs n)) next (ap (is_on q) (s.numbers next (omega arith))) in
            let old = s.holds q in
            holds_add g c q f ∙ elim (cases_Bool (same_chunk c q)) [
              | inl e ↦ let b = same_chunk-true c q e in let oc = s.holds c in
                  let one : is_on q (at_id jobs next job next) ≡ true = here ∙ e in
                  let m = rw one at more in rw (e, ap g.holds b) (omega arith)
              | inr e ↦ let one : is_on q (at_id jobs next job next) ≡ false = here ∙ e in
                  let m = rw one at more in rw e (omega arith)
            ];
        numbers = λ n h. at_other jobs next job n (λ e. omega arith) ∙ s.numbers n (omega arith);
      }

  pub unloaded_sound : (c : ChunkPos) → nat_eq (ti c) 0 ≡ false → Sound (drop_hold g c) (λ q. if same_chunk c q then ti c - 1 else ti q) jobs next
  unloaded_sound c f = let n = eqb-false (ti c) 0 f in record {
    rules = drop_keeps g c s.rules;
    grid = grid_ok _ _ (grid_drop g c) s.grid;
    each = λ n j e. still_ok g (drop_hold g c) j (λ _ t. ap (λ (f : ℕ → State). f j.taker) (state_drop g c) ∙ t) (s.each n j e);
    holds = λ q. holds_drop g c q ∙ elim (cases_Bool (same_chunk c q)) [
      | inl e ↦ let b = same_chunk-true c q e in let oc = s.holds c in let old = s.holds q in rw (e, ap g.holds b, ap ti b) (let t : ti q ≢ 0 = λ z. n (ap ti b ∙ z) in omega arith)
      | inr e ↦ rw e (s.holds q)
    ];
    numbers = s.numbers;
  }

-- ---- the begin of a tick
down_chunk : (g : GridState) (r : ℕ) (o : Option Job) (q : ChunkPos) → is_on q (counted_down g r o) ≡ is_on q o
down_chunk g r None q = refl
down_chunk g r (Some j) q = elim (cases_Bool (nat_eq j.taker 0 && nat_eq (g.owner (section_of g.grid j.chunk)) r)) [ inl e ↦ rw e refl | inr e ↦ rw e refl ]

module _ (g : GridState) (r : ℕ) (some : 0 < r) where
  begin_ok : (j : Job) → JobOk g j → JobOk (begin g r) j
  begin_ok j ok = still_ok g (begin g r) j (λ _ t. begin_ticking g r j.taker t) ok

  -- a queued task whose rest falls
  falls_ok : (i : Job) → JobOk g i → nat_eq i.taker 0 ≡ true → JobOk (begin g r) (record i { rest = i.rest - 1; taker = if nat_le i.rest 1 then r else 0 })
  falls_ok i ok z = elim (cases_Bool (nat_le i.rest 1)) [
    | inl k ↦ rw k (record { chunk = ok.chunk; action = ok.action; fits = ok.fits; rest_high = omega (arith, ok.rest_high); rest_low = λ e. absurd (omega arith); takes = λ _. begin_here g r })
    | inr k ↦ rw k (record { chunk = ok.chunk; action = ok.action; fits = ok.fits; rest_high = omega (arith, ok.rest_high); rest_low = λ _. omega (arith, leb-false _ _ k); takes = λ n. absurd (n refl) })
  ]

  down_ok : (o : Option Job) → ((j : Job) → o ≡ Some j → JobOk g j) → (j : Job) → counted_down g r o ≡ Some j → JobOk (begin g r) j
  down_ok None h j e = absurd (cc)
  down_ok (Some i) h j e = elim (cases_Bool (nat_eq i.taker 0 && nat_eq (g.owner (section_of g.grid i.chunk)) r)) [
    | inl k ↦ same_ok (begin g r) _ j (rw k at e) (falls_ok i (h i refl) (and_parts (nat_eq i.taker 0) (nat_eq (g.owner (section_of g.grid i.chunk)) r) k).0)
    | inr k ↦ same_ok (begin g r) i j (rw k at e) (begin_ok i (h i refl))
  ]

pub begun_sound : (g : GridState) (ti : ChunkPos → ℕ) (jobs : ℕ → Option Job) (next r : ℕ) → Sound g ti jobs next → g.state r ≡ Ready → Sound (begin g r) ti (λ n. counted_down g r (jobs n)) next
begun_sound g ti jobs next r s e = record {
  rules = begin_keeps g r s.rules e;
  grid = grid_ok _ _ (begin_grid g r) s.grid;
  each = λ n j h. down_ok g r (s.rules.given r (λ d. cc)) (jobs n) (s.each n) j h;
  holds = λ q. ap (λ (f : ChunkPos → ℕ). f q) (begin_holds g r) ∙ s.holds q
      ∙ ap (λ k. ti q + k) (count_same (λ n. is_on q (jobs n)) (λ n. is_on q (counted_down g r (jobs n))) next (λ n l. sym (down_chunk g r (jobs n) q)));
  numbers = λ n h. ap (counted_down g r) (s.numbers n h);
}

-- ---- the end of a tick
left_on : (r : ℕ) (q : ChunkPos) (o : Option Job) → is_on q (left r o) ≡ (not (is_taken r o) && is_on q o)
left_on r q None = refl
left_on r q (Some j) = elim (cases_Bool (nat_eq j.taker r)) [ inl e ↦ rw e refl | inr e ↦ rw e refl ]

-- what is left is a task from before that r has not taken
pub left_was : (r : ℕ) (o : Option Job) (j : Job) → left r o ≡ Some j → (o ≡ Some j) × (j.taker ≢ r)
left_was r None j e = absurd (cc)
left_was r (Some i) j e = elim (cases_Bool (nat_eq i.taker r)) [
  | inl k ↦ let x = rw k at e in absurd (cc)
  | inr k ↦ let x : ◌≡◌ {A = Option Job} (Some i) (Some j) = rw k at e in let y : i ≡ j = same_Some i j x in (x, rw y at (eqb-false _ _ k))
]

abbrev pub holds_left : GridState → (ℕ → Option Job) → ℕ → ℕ → ChunkPos → ℕ
holds_left g jobs next r c = g.holds c - count_below (λ n. is_taken r (jobs n) && is_on c (jobs n)) next

pub dropped_sound : (g : GridState) (ti : ChunkPos → ℕ) (jobs : ℕ → Option Job) (next r : ℕ) → Sound g ti jobs next
    → Sound (record g { holds = holds_left g jobs next r }) ti (λ n. left r (jobs n)) next
dropped_sound g ti jobs next r s = record {
  rules = fewer_keeps g (holds_left g jobs next r) s.rules (λ c. omega arith);
  grid = s.grid;
  each = λ n j e. still_ok g _ j (λ _ t. t) (s.each n j (left_was r (jobs n) j e).0);
  holds = λ q. let a = s.holds q in
      let b = count_split (λ n. is_on q (jobs n)) (λ n. is_taken r (jobs n)) (λ n. is_on q (left r (jobs n))) next (λ n. left_on r q (jobs n)) in
      omega arith;
  numbers = λ n h. ap (left r) (s.numbers n h);
}

-- no task is taken by r
abbrev pub Free : ℕ → (ℕ → Option Job) → Type 0
Free r jobs = (n : ℕ) (j : Job) → jobs n ≡ Some j → j.taker ≢ r

pub released_sound : (g : GridState) (ti : ChunkPos → ℕ) (jobs : ℕ → Option Job) (next r : ℕ) → Sound g ti jobs next → Free r jobs → g.state r ≡ Ticking → Sound (release g r) ti jobs next
released_sound g ti jobs next r s free e = record {
  rules = release_keeps g r s.rules s.grid e;
  grid = grid_ok _ _ (grid_release g r) s.grid;
  each = λ n j h. still_ok g (release g r) j (λ _ t. ticking_release g r j.taker s.rules t (free n j h)) (s.each n j h);
  holds = λ q. ap (λ (f : ChunkPos → ℕ). f q) (holds_release g r) ∙ s.holds q;
  numbers = s.numbers;
}
