-- The due tasks of a tick as a list.
use Rattle.std.proofs.Common.{◌≡◌, ℕ, zero, suc, ◌≤◌, ◌<◌, refl, sym, ◌∙◌, ap, arith, true, false, inl, inr, ◌&&◌, List, [], ◌∷◌, ◌++◌}
use Rattle.std.specs.Prelude.{nat_eq, nat_lt, nat_le, Option, Some, None, if◌then◌else◌}
use Rattle.std.proofs.lemmas.Bool.{cases_Bool, cases_eq, cases_order, eq-eqb, ne_eqb, lt-ltb, le-ltb, ltb-false}
use Rattle.std.proofs.lemmas.Option.{same_Some}
use Rattle.fol_model.specs.declared.tasks.Task.{Task}
use Rattle.fol_model.specs.ActionStep.{Recorded}
use Rattle.fol_model.specs.FlatTick.{AllAbove, Rising}
use Rattle.fol_model.specs.Job.{Job, taken_task}
use Rattle.fol_model.specs.World.{World, due_below}
use Rattle.fol_laws.proofs.OutcomesAgain.{due_rising}
use Rattle.fol_queues.specs.Waiting.{task_in}
use Rattle.fol_world.specs.Begun.{due_task}
use Rattle.fol_core.proofs.BegunHands.{listed}

above_none : (n k : ℕ) (ts : List Task) → AllAbove n ts → k ≤ n → task_in ts k ≡ None
above_none n k [] a l = refl
above_none n k (t ∷ ts) a l = let b : n < t.number = a.0 in let z : nat_eq t.number k ≡ false = ne_eqb t.number k (λ e. omega arith) in rw z (above_none n k ts a.1 l)

-- two lists that rise and have the same task under each number are one
pub rising_same : (xs ys : List Task) → Rising xs → Rising ys → ((n : ℕ) → task_in xs n ≡ task_in ys n) → xs ≡ ys
rising_same [] [] a b h = refl
rising_same [] (y ∷ ys) a b h = let z : nat_eq y.number y.number ≡ true = eq-eqb y.number y.number refl in let k : None ≡ Some y = rw z at (h y.number) in absurd (cc)
rising_same (x ∷ xs) [] a b h = let z : nat_eq x.number x.number ≡ true = eq-eqb x.number x.number refl in let k : Some x ≡ None = rw z at (h x.number) in absurd (cc)
rising_same (x ∷ xs) (y ∷ ys) a b h = elim (cases_order x.number y.number) [
  | inl e ↦ let z : nat_eq x.number x.number ≡ true = eq-eqb x.number x.number refl in
      let y' : nat_eq y.number x.number ≡ true = eq-eqb y.number x.number (sym e) in
      let k : Some x ≡ Some y = rw (z, y') at (h x.number) in
      let same : x ≡ y = same_Some x y k in
      let tails = rising_same xs ys a.1 b.1 (λ n. elim (cases_eq n x.number) [
        | inl m ↦ above_none x.number n xs a.0 (omega arith) ∙ sym (above_none y.number n ys b.0 (omega arith))
        | inr m ↦ let p : nat_eq x.number n ≡ false = ne_eqb x.number n (λ q. m (sym q)) in let r : nat_eq y.number n ≡ false = ne_eqb y.number n (λ q. m (sym (e ∙ q))) in rw (p, r) at (h n)
      ]) in
      ap (λ (t : Task). t ∷ xs) same ∙ ap (λ (ts : List Task). y ∷ ts) tails
  | inr o ↦ elim o [
    | inl l ↦ let z : nat_eq x.number x.number ≡ true = eq-eqb x.number x.number refl in
        let p : nat_eq y.number x.number ≡ false = ne_eqb y.number x.number (λ q. omega arith) in
        let k : Some x ≡ task_in ys x.number = rw (z, p) at (h x.number) in
        let none = above_none y.number x.number ys b.0 (omega arith) in absurd (cc)
    | inr l ↦ let z : nat_eq y.number y.number ≡ true = eq-eqb y.number y.number refl in
        let p : nat_eq x.number y.number ≡ false = ne_eqb x.number y.number (λ q. omega arith) in
        let k : task_in xs y.number ≡ Some y = rw (z, p) at (h y.number) in
        let none = above_none x.number y.number xs a.0 (omega arith) in absurd (cc)
  ]
]

first_or : Option Task → Option Task → Option Task
first_or None o = o
first_or (Some t) o = Some t

keep : (o : Option Task) → o ≡ first_or o None
unfolding first_or
keep None = refl
keep (Some t) = refl

find_append : (xs ys : List Task) (n : ℕ) → task_in (xs ++ ys) n ≡ first_or (task_in xs n) (task_in ys n)
unfolding first_or
find_append [] ys n = refl
find_append (x ∷ xs) ys n = elim (cases_Bool (nat_eq x.number n)) [ inl e ↦ rw e refl | inr e ↦ rw e (find_append xs ys n) ]

module _ (v : World) (id : ℕ) (f : ℕ → Option Task) (is : (n : ℕ) → taken_task id n (v.jobs n) ≡ listed (f n)) (numbers : (n : ℕ) (t : Task) → f n ≡ Some t → t.number ≡ n) where
  one_at : (n k : ℕ) (o : Option Task) → ((t : Task) → o ≡ Some t → t.number ≡ k) → task_in (listed o) n ≡ (if nat_eq k n then o else None)
  one_at n k None h = elim (cases_Bool (nat_eq k n)) [ inl e ↦ rw e refl | inr e ↦ rw e refl ]
  one_at n k (Some t) h = let e = h t refl in rw e refl

  below : (k n : ℕ) → task_in (due_below v id k) n ≡ (if nat_lt n k then f n else None)
  unfolding due_below first_or
  below zero n = let z : nat_lt n 0 ≡ false = le-ltb n 0 (omega arith) in rw z refl
  below (suc k) n =
      let i = below k n in
      let j : task_in (taken_task id k (v.jobs k)) n ≡ (if nat_eq k n then f k else None) = ap (λ ts. task_in ts n) (is k) ∙ one_at n k (f k) (numbers k) in
      find_append (due_below v id k) (taken_task id k (v.jobs k)) n ∙ elim (cases_order n k) [
        | inl e ↦ let a : nat_lt n k ≡ false = le-ltb n k (omega arith) in let b : nat_lt n (suc k) ≡ true = lt-ltb n (suc k) (omega arith) in
            let c : nat_eq k n ≡ true = eq-eqb k n (sym e) in rw (i, j, a, b, c, e) refl
        | inr o ↦ elim o [
          | inl l ↦ let a : nat_lt n k ≡ true = lt-ltb n k l in let b : nat_lt n (suc k) ≡ true = lt-ltb n (suc k) (omega arith) in
              let c : nat_eq k n ≡ false = ne_eqb k n (λ q. omega arith) in rw (i, j, a, b, c) (sym (keep (f n)))
          | inr l ↦ let a : nat_lt n k ≡ false = le-ltb n k (omega arith) in let b : nat_lt n (suc k) ≡ false = le-ltb n (suc k) (omega arith) in
              let c : nat_eq k n ≡ false = ne_eqb k n (λ q. omega arith) in rw (i, j, a, b, c) refl
        ]
      ]

  module _ (none : (n : ℕ) → v.next_job ≤ n → f n ≡ None) where
    -- the due task of each number
    pub due_has : (n : ℕ) → task_in (due_below v id v.next_job) n ≡ f n
    due_has n = elim (cases_Bool (nat_lt n v.next_job)) [
      | inl l ↦ below v.next_job n ∙ (rw l refl)
      | inr l ↦ let k = none n (ltb-false n v.next_job l) in below v.next_job n ∙ (rw (l, k) refl)
    ]

    -- the list that rises and has just these tasks
    pub due_is_list : (ts : List Task) → Rising ts → ((n : ℕ) → task_in ts n ≡ f n) → ts ≡ due_below v id v.next_job
    due_is_list ts r h = rising_same ts (due_below v id v.next_job) r (due_rising v id v.next_job) (λ n. h n ∙ sym (due_has n))

pub due_number : (rec : Recorded) (n : ℕ) (o : Option Job) (t : Task) → due_task rec n o ≡ Some t → t.number ≡ n
due_number rec n None t e = absurd (cc)
due_number rec n (Some j) t e = elim (cases_Bool (rec j.chunk && nat_le j.rest 1)) [
  | inl k ↦ let h : Some (record { number = n; chunk = j.chunk; action = j.action }) ≡ Some t = rw k at e in ap (λ (z : Task). z.number) (sym (same_Some (record { number = n; chunk = j.chunk; action = j.action }) t h))
  | inr k ↦ let h : None ≡ Some t = rw k at e in absurd (cc)
]
