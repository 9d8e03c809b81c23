-- The tasks of a tick that comes back before anything of it ran.
use Rattle.std.proofs.Common.{◌≡◌, ◌≢◌, ℕ, ◌+◌, ◌-◌, ◌≤◌, ◌<◌, refl, sym, ◌∙◌, ap, arith, Bool, true, false, inl, inr, ◌||◌, List}
use Rattle.std.specs.Prelude.{nat_eq, nat_le, if◌then◌else◌, IsNone, IsTrue, Option, Some, None}
use Rattle.std.specs.Option.{is_none, option_map, option_or}
use Rattle.std.proofs.lemmas.Bool.{cases_Bool, eqb-true, eqb-false, eq-eqb, ne_eqb, leb-true, leb-false, and_parts}
use Rattle.std.proofs.lemmas.Option.{same_Some}
use Rattle.fol_model.specs.declared.tasks.Task.{Task}
use Rattle.fol_model.specs.declared.places.ChunkPos.{ChunkPos}
use Rattle.fol_model.specs.Geometry.{section_of}
use Rattle.fol_model.specs.GridState.{GridState}
use Rattle.fol_model.specs.Job.{Job, queued, taken_task}
use Rattle.fol_model.specs.QueuedTask.{counted_down, is_queued_in, queued_in}
use Rattle.fol_early_laws.specs.EarlyBegins.{down_all}
use Rattle.fol_queues.specs.declared.dated.Dated.{Dated}
use Rattle.fol_queues.specs.Waiting.{job_of, task_in}
use Rattle.fol_world.specs.Hands.{at_rest, owner_of, went}
use Rattle.fol_queues.specs.Again.{AreNew, dated_at}
use Rattle.fol_core.proofs.BegunHands.{listed}

-- ---- tasks that are queued again

-- what stands under a number then
abbrev pub again_at : ℕ → Option Task → Option Dated → Option Dated
again_at deadline t x = option_or (option_map (dated_at deadline) t) x

-- tasks whose numbers are free
pub all_new : (ts : List Task) (f : ℕ → Option Dated) → ((n : ℕ) (t : Task) → task_in ts n ≡ Some t → IsNone (f n)) → AreNew ts f
all_new ts f h = λ n. free (f n) (task_in ts n) (h n)
  where
    free : (x : Option Dated) (o : Option Task) → ((t : Task) → o ≡ Some t → IsNone x) → IsTrue (is_none x || is_none o)
    free None o h = refl
    free (Some d) None h = refl
    free (Some d) (Some t) h = let none : IsNone (Some d) = h t refl in absurd (cc)

-- ---- the task of a tick under a number

-- what the open tick of a region has to run
abbrev pub taken_one : ℕ → ℕ → Option Job → Option Task
taken_one id n None = None
taken_one id n (Some j) = if nat_eq j.taker id then Some (record { number = n; chunk = j.chunk; action = j.action }) else None

pub one_listed : (id n : ℕ) (o : Option Job) → taken_task id n o ≡ listed (taken_one id n o)
one_listed id n None = refl
one_listed id n (Some j) = elim (cases_Bool (nat_eq j.taker id)) [ inl e ↦ rw e refl | inr e ↦ rw e refl ]

pub one_number : (id n : ℕ) (o : Option Job) (t : Task) → taken_one id n o ≡ Some t → t.number ≡ n
one_number id n None t e = absurd (cc)
one_number id n (Some j) t e = elim (cases_Bool (nat_eq j.taker id)) [
  | inl k ↦ let s : Some (record { number = n; chunk = j.chunk; action = j.action }) ≡ Some t = rw k at e in ap (λ (z : Task). z.number) (sym (same_Some (record { number = n; chunk = j.chunk; action = j.action }) t s))
  | inr k ↦ let s : None ≡ Some t = rw k at e in absurd (cc)
]

module _ (g : GridState) (id : ℕ) (positive : 0 < id) (n : ℕ) where
  -- a task that the tick took is not queued with it
  pub taken_apart : (o : Option Job) (t : Task) → taken_one id n (counted_down g id o) ≡ Some t → queued_in g id (counted_down g id o) ≡ None
  unfolding queued_in
  taken_apart None t e = absurd (cc)
  taken_apart (Some j) t e = elim (cases_Bool (is_queued_in g id j)) [
    | inl k ↦ elim (cases_Bool (nat_le j.rest 1)) [
      | inl m ↦ let z : nat_eq id 0 ≡ false = ne_eqb id 0 (λ x. omega arith) in rw (k, m, z) refl
      | inr m ↦ let z : nat_eq 0 id ≡ false = ne_eqb 0 id (λ x. omega arith) in let s : None ≡ Some t = rw (k, m, z) at e in absurd (cc)
    ]
    | inr k ↦ rw (k, k) refl
  ]

  -- once it is queued again, and those that were left have the deadlines that they had, the tasks are those of before the Begin
  pub again_job : (tick : ℕ) (o : Option Job) (x : Option Dated) → ((j : Job) → o ≡ Some j → j.taker ≡ 0 → 1 ≤ j.rest) → ((j : Job) → o ≡ Some j → j.taker ≢ id)
      → option_map (job_of (tick + 1)) x ≡ queued_in g id (counted_down g id o)
      → option_map (job_of tick) (again_at (tick + 1) (taken_one id n (counted_down g id o)) x) ≡ queued_in g id o
  unfolding queued_in
  again_job tick None None low other e = refl
  again_job tick None (Some d) low other e = absurd (cc)
  again_job tick (Some j) x low other e = elim (cases_Bool (is_queued_in g id j)) [
    | inl k ↦
        let p = and_parts (nat_eq j.taker 0) (nat_eq (g.owner (section_of g.grid j.chunk)) id) k in
        let z : j.taker ≡ 0 = eqb-true j.taker 0 p.0 in
        let l : 1 ≤ j.rest = low j refl z in
        elim (cases_Bool (nat_le j.rest 1)) [
          | inl m ↦
              let i : nat_eq id id ≡ true = eq-eqb id id refl in
              let one : tick + 1 - tick ≡ j.rest = omega (arith, l, leb-true j.rest 1 m) in
              let same : queued j.chunk (tick + 1 - tick) j.action ≡ j = λ t. record { chunk = j.chunk; rest = one t; action = j.action; taker = sym z t } in
              rw (k, m, i) (ap (λ (v : Job). Some v) same)
          | inr m ↦
              let i : nat_eq 0 id ≡ false = ne_eqb 0 id (λ y. omega arith) in
              let own = p.1 in
              let left : option_map (job_of (tick + 1)) x ≡ Some (record j { rest = j.rest - 1; taker = 0 }) = rw (k, m, own) at e in
              let more : 1 < j.rest = leb-false j.rest 1 m in
              rw (k, m, i) (left_more x j z more left)
        ]
    | inr k ↦
        let i : nat_eq j.taker id ≡ false = ne_eqb j.taker id (other j refl) in
        let none : option_map (job_of (tick + 1)) x ≡ None = rw (k, k) at e in
        rw (k, i) (none_again x none)
  ]
    where
      left_more : (x : Option Dated) (j : Job) → j.taker ≡ 0 → 1 < j.rest → option_map (job_of (tick + 1)) x ≡ Some (record j { rest = j.rest - 1; taker = 0 }) → option_map (job_of tick) x ≡ Some j
      left_more None j z more e = absurd (cc)
      left_more (Some d) j z more e =
          let s : job_of (tick + 1) d ≡ record j { rest = j.rest - 1; taker = 0 } = same_Some _ _ e in
          let rest : d.deadline - (tick + 1) ≡ j.rest - 1 = ap (λ (v : Job). v.rest) s in
          let r : d.deadline - tick ≡ j.rest = omega (arith, rest, more) in
          ap (λ (v : Job). Some v) (λ t. record { chunk = (s t).chunk; rest = r t; action = (s t).action; taker = sym z t })

      none_again : (x : Option Dated) → option_map (job_of (tick + 1)) x ≡ None → option_map (job_of tick) x ≡ None
      none_again None e = refl
      none_again (Some d) e = absurd (cc)

-- ---- what is at rest once the tick is back

hidden : (g : GridState) (f : ℕ → ℕ) (n : ℕ) (j : Job) → went g f j.chunk n ≡ true → at_rest g f n (Some j) ≡ None
hidden g f n j w = elim (cases_Bool (nat_eq j.taker 0)) [ inl z ↦ rw (z, w) refl | inr z ↦ rw z refl ]

or_true : (b : Bool) → (b || true) ≡ true
or_true true = refl
or_true false = refl

or_none : (o : Option Job) → option_or o None ≡ o
or_none None = refl
or_none (Some j) = refl

-- g is the grid of the world, in which the region id rests; x and y are those of worlds ahead of it, by the marks p and q
module _ (g x y : GridState) (f k l : ℕ → ℕ) (p q : ℕ → Bool) (id : ℕ) (on : p id ≡ true) (off : q id ≡ false) (same : (r : ℕ) → r ≢ id → q r ≡ p r) (n : ℕ)
    (calm : (c : ChunkPos) → owner_of g c ≡ id → went g f c n ≡ false) where
  abbrev GoneAs : GridState → (ℕ → ℕ) → (ℕ → Bool) → Option Job → Type 0
  GoneAs z m s o = (j : Job) → o ≡ Some j → j.taker ≡ 0 → went z m j.chunk n ≡ (went g f j.chunk n || s (owner_of g j.chunk))

  down_off : (s : ℕ → Bool) (j : Job) → s (owner_of g j.chunk) ≡ false → down_all g s (Some j) ≡ Some j
  down_off s j e = elim (cases_Bool (nat_eq j.taker 0)) [ inl z ↦ rw (z, e) refl | inr z ↦ rw z refl ]

  down_taken : (s : ℕ → Bool) (j : Job) → nat_eq j.taker 0 ≡ false → down_all g s (Some j) ≡ Some j
  down_taken s j z = rw z refl

  down_on : (s : ℕ → Bool) (j : Job) → nat_eq j.taker 0 ≡ true → s (owner_of g j.chunk) ≡ true
      → down_all g s (Some j) ≡ Some (record j { rest = j.rest - 1; taker = if nat_le j.rest 1 then owner_of g j.chunk else 0 })
  down_on s j z e = rw (z, e) refl

  -- on the ground of a marked region nothing is at rest
  none_rests : (z : GridState) (m : ℕ → ℕ) (s : ℕ → Bool) (j : Job) → nat_eq j.taker 0 ≡ true → s (owner_of g j.chunk) ≡ true → GoneAs z m s (Some j) → at_rest z m n (down_all g s (Some j)) ≡ None
  none_rests z m s j t e gone =
      let w : went z m j.chunk n ≡ true = gone j refl (eqb-true j.taker 0 t) ∙ ap (λ b. went g f j.chunk n || b) e ∙ or_true (went g f j.chunk n) in
      ap (at_rest z m n) (down_on s j t e) ∙ hidden z m n (record j { rest = j.rest - 1; taker = if nat_le j.rest 1 then owner_of g j.chunk else 0 }) w

  taken_rests : (z : GridState) (m : ℕ → ℕ) (s : ℕ → Bool) (j : Job) → nat_eq j.taker 0 ≡ false → at_rest z m n (down_all g s (Some j)) ≡ None
  taken_rests z m s j t = let none : at_rest z m n (Some j) ≡ None = rw t refl in ap (at_rest z m n) (down_taken s j t) ∙ none

  not_own : (j : Job) → nat_eq (owner_of g j.chunk) id ≡ false → queued_in g id (Some j) ≡ None
  unfolding queued_in
  not_own j e = elim (cases_Bool (nat_eq j.taker 0)) [ inl z ↦ rw (z, e) refl | inr z ↦ rw z refl ]

  its_own : (j : Job) → nat_eq j.taker 0 ≡ true → nat_eq (owner_of g j.chunk) id ≡ true → queued_in g id (Some j) ≡ Some j
  unfolding queued_in
  its_own j z e = rw (z, e) refl

  not_queued : (j : Job) → nat_eq j.taker 0 ≡ false → queued_in g id (Some j) ≡ None
  unfolding queued_in
  not_queued j z = rw z refl

  pub job_back : (o : Option Job) → GoneAs x k p o → GoneAs y l q o → option_or (at_rest x k n (down_all g p o)) (queued_in g id o) ≡ at_rest y l n (down_all g q o)
  unfolding queued_in
  job_back None gone went_too = refl
  job_back (Some j) gone went_too = elim (cases_Bool (nat_eq j.taker 0)) [
    | inr z ↦ (λ i. option_or (taken_rests x k p j z i) (not_queued j z i)) ∙ sym (taken_rests y l q j z)
    | inl z ↦ elim (cases_Bool (nat_eq (owner_of g j.chunk) id)) [
      | inl e ↦
          let here = eqb-true (owner_of g j.chunk) id e in
          let marked : p (owner_of g j.chunk) ≡ true = ap p here ∙ on in
          let free : q (owner_of g j.chunk) ≡ false = ap q here ∙ off in
          let still : went y l j.chunk n ≡ false = went_too j refl (eqb-true j.taker 0 z) ∙ (λ i. calm j.chunk here i || free i) in
          let rests : at_rest y l n (Some j) ≡ Some j = rw (z, still) refl in
          (λ i. option_or (none_rests x k p j z marked gone i) (its_own j z e i)) ∙ sym (ap (at_rest y l n) (down_off q j free) ∙ rests)
      | inr e ↦
          let away = eqb-false (owner_of g j.chunk) id e in
          let like : q (owner_of g j.chunk) ≡ p (owner_of g j.chunk) = same (owner_of g j.chunk) away in
          (λ i. option_or (at_rest x k n (down_all g p (Some j))) (not_own j e i)) ∙ or_none (at_rest x k n (down_all g p (Some j))) ∙ elim (cases_Bool (p (owner_of g j.chunk))) [
            | inl m ↦ none_rests x k p j z m gone ∙ sym (none_rests y l q j z (like ∙ m) went_too)
            | inr m ↦
                let a = gone j refl (eqb-true j.taker 0 z) ∙ ap (λ b. went g f j.chunk n || b) m in
                let b = went_too j refl (eqb-true j.taker 0 z) ∙ ap (λ b. went g f j.chunk n || b) (like ∙ m) in
                let c : went x k j.chunk n ≡ went y l j.chunk n = a ∙ sym b in
                let still : at_rest x k n (Some j) ≡ at_rest y l n (Some j) = rw (z, c) refl in
                ap (at_rest x k n) (down_off p j m) ∙ still ∙ sym (ap (at_rest y l n) (down_off q j (like ∙ m)))
          ]
    ]
  ]

  pub jobs_apart : (o : Option Job) → GoneAs x k p o → IsTrue (is_none (at_rest x k n (down_all g p o)) || is_none (queued_in g id o))
  unfolding queued_in
  jobs_apart None gone = refl
  jobs_apart (Some j) gone = elim (cases_Bool (nat_eq j.taker 0)) [
    | inr z ↦ let a = taken_rests x k p j z in rw a refl
    | inl z ↦ elim (cases_Bool (nat_eq (owner_of g j.chunk) id)) [
      | inl e ↦ let a = none_rests x k p j z (ap p (eqb-true (owner_of g j.chunk) id e) ∙ on) gone in rw a refl
      | inr e ↦ let a = not_own j e in rw a (or_true (is_none (at_rest x k n (down_all g p (Some j)))))
    ]
  ]
