-- What the calls of a queue do to its look-up by number.
use Rattle.std.proofs.Common.{◌≡◌, ℕ, ◌+◌, ◌||◌, ℤ, Bool, false, not, List, [], ◌∷◌, ◌++◌, length, get_or, map, inl, inr, refl, ◌∙◌, ap, arith, Option, Some, None, IsNone, IsTrue, length-append}
use Rattle.std.proofs.lemmas.List.{length-map}
use Rattle.std.specs.Prelude.{nat_eq, count_by, All}
use Rattle.std.specs.Option.{option_map, option_or, is_none, ForSome}
use Rattle.std.specs.List.{find, IsDistinct, AllByRecursion}
use Rattle.std.specs.List.Sorted.{IsPermutation, IsNonDecreasingBy}
use Rattle.std.proofs.lemmas.Bool.{eqb-true, cases_Bool}
use Rattle.std.proofs.lemmas.List.Elements.{Contains-get_or}
use Rattle.std.proofs.lemmas.List.Sorted.{length_permutation}
use Rattle.std.proofs.Math.Path.{fun_ext}
use Rattle.fol_model.specs.ActionStep.{at_id}
use Rattle.fol_model.specs.FlatTick.{Rising}
use Rattle.fol_model.specs.declared.tasks.Task.{Task}
use Rattle.fol_queues.specs.declared.dated.Dated.{Dated}
use Rattle.fol_queues.specs.Waiting.{dated_in, task_in, is_due, IsRaisable, option_filter}
use Rattle.fol_queues.specs.Distinct.{Distinct}
use Rattle.fol_queues.specs.Parted.{Parted, DueParted, MovedInto}
use Rattle.fol_queues.proofs.Numbers.{nat_self, Apart, rising_from_sorted}
use Rattle.fol_keyed.proofs.Keyed.{differ_push, differ_left, differ_right, differ_joined, Differ_parted, find_push, find_left, find_moved, find_joined, find_own, find_permuted, differ_permuted, count_moved, length_parted}

abbrev number_of : Dated → ℕ
number_of d = d.task.number

none_is : {X : Type 0} (o : Option X) → IsNone o → o ≡ None
none_is None h = refl
none_is (Some x) h = cc

-- tasks without their deadlines
tasks_found : (ds : List Dated) (n : ℕ) → task_in (map (λ (d : Dated). d.task) ds) n ≡ option_map (λ d. d.task) (dated_in ds n)
tasks_found [] n = refl
tasks_found (d ∷ ds) n =
    elim (cases_Bool (nat_eq d.task.number n)) [
      | inl e ↦ rw e refl
      | inr e ↦ rw e (tasks_found ds n)
    ]

tasks_apart : (ds : List Dated) → Distinct ds → Apart (map (λ (d : Dated). d.task) ds)
unfolding IsDistinct
tasks_apart [] d = tt
tasks_apart (x ∷ xs) d = (all x xs d.0, tasks_apart xs d.1)
  where
    all : (x : Dated) (xs : List Dated) → AllByRecursion (λ y. nat_eq x.task.number y.task.number ≡ false) xs → AllByRecursion (λ (y : Task). nat_eq x.task.number y.number ≡ false) (map (λ (d : Dated). d.task) xs)
    all x [] h = tt
    all x (y ∷ ys) h = (h.0, all x ys h.1)

module _ (tasks : List Dated) where
  pub accepts_distinct : (xs : List Dated) (d : Dated) → Distinct tasks → IsNone (dated_in tasks d.task.number) → IsPermutation (tasks ++ d ∷ []) xs → Distinct xs
  accepts_distinct xs d h fresh m =
      differ_permuted nat_eq eqb-true nat_self number_of (tasks ++ d ∷ []) xs m (differ_push nat_eq eqb-true nat_self number_of tasks d h (none_is (dated_in tasks d.task.number) fresh))

  pub accepts : (xs : List Dated) (d : Dated) → Distinct tasks → IsNone (dated_in tasks d.task.number) → IsPermutation (tasks ++ d ∷ []) xs → dated_in xs ≡ at_id (dated_in tasks) d.task.number (Some d)
  accepts xs d h fresh m =
      let none = none_is (dated_in tasks d.task.number) fresh in
      fun_ext (λ n. find_permuted nat_eq eqb-true nat_self number_of (tasks ++ d ∷ []) xs (differ_push nat_eq eqb-true nat_self number_of tasks d h none) m n ∙ find_push nat_eq eqb-true nat_self number_of tasks d none n)

  -- what a parted queue keeps, and what it gives
  pub left_of : (p : Dated → Bool) (left moved : List Dated) → Parted p tasks left moved → Distinct tasks → dated_in left ≡ λ n. option_filter (λ d. not (p d)) (dated_in tasks n)
  left_of p left moved h d = fun_ext (λ n. find_left nat_eq eqb-true nat_self number_of p tasks left moved h d n)

  pub moved_of : (p : Dated → Bool) (left moved : List Dated) → Parted p tasks left moved → Distinct tasks → dated_in moved ≡ λ n. option_filter p (dated_in tasks n)
  moved_of p left moved h d = fun_ext (λ n. find_moved nat_eq eqb-true nat_self number_of p tasks left moved h d n)

  pub left_distinct : (p : Dated → Bool) (left moved : List Dated) → Parted p tasks left moved → Distinct tasks → Distinct left
  left_distinct p left moved h d = differ_right nat_eq eqb-true nat_self number_of moved left (Differ_parted nat_eq eqb-true nat_self number_of p tasks left moved h d)

  pub moved_distinct : (p : Dated → Bool) (left moved : List Dated) → Parted p tasks left moved → Distinct tasks → Distinct moved
  moved_distinct p left moved h d = differ_left nat_eq eqb-true nat_self number_of moved left (Differ_parted nat_eq eqb-true nat_self number_of p tasks left moved h d)

  -- others come in, each with its deadline changed
  pub joins : (f : Dated → Dated) → ((d : Dated) → (f d).task.number ≡ d.task.number) → (others xs : List Dated) → Distinct tasks → Distinct others
      → ((n : ℕ) → IsTrue (is_none (dated_in tasks n) || is_none (dated_in others n))) → IsPermutation (tasks ++ map f others) xs → dated_in xs ≡ λ n. option_or (dated_in tasks n) (option_map f (dated_in others n))
  joins f keeps others xs d o none m = fun_ext (λ n. find_joined nat_eq eqb-true nat_self number_of f keeps tasks others xs d o none m n)

  pub joins_distinct : (f : Dated → Dated) → ((d : Dated) → (f d).task.number ≡ d.task.number) → (others xs : List Dated) → Distinct tasks → Distinct others
      → ((n : ℕ) → IsTrue (is_none (dated_in tasks n) || is_none (dated_in others n))) → IsPermutation (tasks ++ map f others) xs → Distinct xs
  joins_distinct f keeps others xs d o none m = differ_permuted nat_eq eqb-true nat_self number_of (tasks ++ map f others) xs m (differ_joined nat_eq eqb-true nat_self number_of f keeps tasks others d o none)

  -- the deadlines of those that pass can be moved
  pub passing_raisable : (p : Dated → Bool) (offset : ℤ) → Distinct tasks → ((n : ℕ) → ForSome (option_filter p (dated_in tasks n)) (IsRaisable offset)) → All (λ d. IsTrue (p d) → IsRaisable offset d) tasks
  passing_raisable p offset d h = λ k e l t.
      let own : dated_in tasks (number_of (get_or tasks k e)) ≡ Some (get_or tasks k e) = find_own nat_eq eqb-true nat_self number_of tasks (get_or tasks k e) d (Contains-get_or tasks k e l) in
      h (number_of (get_or tasks k e)) (get_or tasks k e) (rw (own, t) refl)

  -- the tasks that were taken are those of the due ones
  pub takes : (now : ℕ) (left : List Dated) (out : List Task) → DueParted now tasks left out → Distinct tasks → task_in out ≡ λ n. option_map (λ d. d.task) (option_filter (is_due now) (dated_in tasks n))
  takes now left out h d =
      fun_ext (λ n.
      let apart : Apart (map (λ (e : Dated). e.task) h.due) = tasks_apart h.due (moved_distinct (is_due now) left h.due h.parted d) in
      let a : find (λ (t : Task). nat_eq t.number n) out ≡ task_in (map (λ (e : Dated). e.task) h.due) n =
      find_permuted nat_eq eqb-true nat_self (λ (t : Task). t.number) (map (λ (e : Dated). e.task) h.due) out apart h.tasks n in
      a ∙ tasks_found h.due n ∙ ap (λ o. option_map (λ (e : Dated). e.task) o) (find_moved nat_eq eqb-true nat_self number_of (is_due now) tasks left h.due h.parted d n))

  pub takes_in_order : (now : ℕ) (left : List Dated) (out : List Task) → DueParted now tasks left out → Distinct tasks → IsNonDecreasingBy (λ (t : Task). t.number) out → Rising out
  takes_in_order now left out h d up =
      let apart : Apart (map (λ (e : Dated). e.task) h.due) = tasks_apart h.due (moved_distinct (is_due now) left h.due h.parted d) in
      rising_from_sorted out (differ_permuted nat_eq eqb-true nat_self (λ (t : Task). t.number) (map (λ (e : Dated). e.task) h.due) out h.tasks apart) up

  pub takes_count : (now : ℕ) (left : List Dated) (out : List Task) → DueParted now tasks left out → length out ≡ count_by (is_due now) tasks
  takes_count now left out h = length_permutation _ out h.tasks ∙ length-map h.due (λ (e : Dated). e.task) ∙ count_moved (is_due now) tasks left h.due h.parted

  pub takes_len : (now : ℕ) (left : List Dated) (out : List Task) → DueParted now tasks left out → length left + length out ≡ length tasks
  takes_len now left out h =
      let e : length out ≡ length h.due = length_permutation _ out h.tasks ∙ length-map h.due (λ (e : Dated). e.task) in
      omega (arith, length_parted (is_due now) tasks left h.due h.parted)

-- what passes joined others
module _ (p : Dated → Bool) (f : Dated → Dated) (keeps : (d : Dated) → (f d).task.number ≡ d.task.number) (xs left others joined : List Dated) (h : MovedInto p f xs left others joined) (d : Distinct xs) (o : Distinct others) (none : (n : ℕ) → IsTrue (is_none (dated_in others n) || is_none (option_filter p (dated_in xs n)))) where
  none_moved : (n : ℕ) → IsTrue (is_none (dated_in others n) || is_none (dated_in h.moved n))
  none_moved n = rw (ap (λ (g : ℕ → Option Dated). g n) (moved_of xs p left h.moved h.parted d)) (none n)

  pub moves_into : dated_in joined ≡ λ n. option_or (dated_in others n) (option_map f (option_filter p (dated_in xs n)))
  moves_into =
      joins others f keeps h.moved joined o (moved_distinct xs p left h.moved h.parted d) none_moved h.joins
      ∙ ap (λ (g : ℕ → Option Dated). λ (n : ℕ). option_or (dated_in others n) (option_map f (g n))) (moved_of xs p left h.moved h.parted d)

  pub moves_distinct : Distinct joined
  moves_distinct = joins_distinct others f keeps h.moved joined o (moved_distinct xs p left h.moved h.parted d) none_moved h.joins

pub moves_len : (p : Dated → Bool) (f : Dated → Dated) (xs left others joined : List Dated) → MovedInto p f xs left others joined → (length left + count_by p xs ≡ length xs) × (length joined ≡ length others + count_by p xs)
moves_len p f xs left others joined h =
    let m : length h.moved ≡ count_by p xs = count_moved p xs left h.moved h.parted in
    let all = length_parted p xs left h.moved h.parted in
    (omega (arith, all), omega (arith, length_permutation (others ++ map f h.moved) joined h.joins, length-append others (map f h.moved), length-map h.moved f))
