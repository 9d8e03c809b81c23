-- Tasks that come back together, and wait with one deadline.
use Rattle.std.proofs.Common.{◌≡◌, ℕ, ◌+◌, ◌<◌, ◌≤◌, Bool, true, false, cond, List, [], ◌∷◌, ◌++◌, length, length-append, map, inl, inr, refl, sym, ◌∙◌, ap, arith, subst, append_assoc, Option, Some, None, IsTrue, ◌||◌}
use Rattle.std.specs.Prelude.{nat_eq, All, count_by}
use Rattle.std.specs.Option.{is_none, option_map, option_or}
use Rattle.std.specs.List.{IsDistinct, AllByRecursion}
use Rattle.std.specs.List.Sorted.{IsPermutation}
use Rattle.std.proofs.lemmas.Bool.{cases_Bool, eqb-true, ne_eqb, le-leb, lt-leb}
use Rattle.std.proofs.lemmas.List.{append-nil, get_or-map, length-map}
use Rattle.std.proofs.lemmas.List.Folds.{find-append}
use Rattle.std.proofs.lemmas.List.Sorted.{IsPermutation-refl, IsPermutation-append_comm, IsPermutation-append_left, IsPermutation-append_right, IsPermutation-trans, sum_by-IsPermutation}
use Rattle.std.proofs.lemmas.List.Sums.{sum_by-append}
use Rattle.std.proofs.Math.Path.{fun_ext}
use Rattle.fol_model.specs.declared.tasks.Task.{Task}
use Rattle.fol_model.specs.FlatTick.{Rising, AllAbove}
use Rattle.fol_keyed.proofs.Keyed.{count_all, differ_append, differ_permuted, find_permuted, no_shared_key}
use Rattle.fol_queues.specs.declared.dated.Dated.{Dated}
use Rattle.fol_queues.specs.Distinct.{Distinct}
use Rattle.fol_queues.specs.Again.{AreNew, dated_at, queued_again, with_again}
use Rattle.fol_queues.specs.Waiting.{dated_in, task_in, is_due}
use Rattle.fol_queues.specs.Parted.{IsTakingDue}
use Rattle.fol_queues.proofs.Numbers.{nat_self}

module _ (deadline : ℕ) where
  abbrev pub all_at : List Task → List Dated
  all_at ts = map (dated_at deadline) ts

  pub tasks_at : (ts : List Task) → map (λ (d : Dated). d.task) (all_at ts) ≡ ts
  tasks_at [] = refl
  tasks_at (t ∷ ts) = ap (λ (us : List Task). t ∷ us) (tasks_at ts)

  pub found_at : (ts : List Task) (n : ℕ) → dated_in (all_at ts) n ≡ option_map (dated_at deadline) (task_in ts n)
  found_at [] n = refl
  found_at (t ∷ ts) n = elim (cases_Bool (nat_eq t.number n)) [
    | inl e ↦ rw e refl
    | inr e ↦ rw e (found_at ts n)
  ]

  above_at : (n : ℕ) (ts : List Task) → AllAbove n ts → AllByRecursion (λ (d : Dated). nat_eq n d.task.number ≡ false) (all_at ts)
  above_at n [] a = tt
  above_at n (t ∷ ts) a = (ne_eqb n t.number (λ e. omega (arith, a.0, e)), above_at n ts a.1)

  pub distinct_at : (ts : List Task) → Rising ts → Distinct (all_at ts)
  unfolding IsDistinct
  distinct_at [] r = tt
  distinct_at (t ∷ ts) r = (above_at t.number ts r.0, distinct_at ts r.1)

abbrev number_of : Dated → ℕ
number_of d = d.task.number

pub none_left : (ts : List Task) → length ts ≡ 0 → ts ≡ []
none_left [] e = refl
none_left (t ∷ ts) e = absurd (omega (arith, e))

-- the last one of those that come back moves
pub last_moves : (hs ks xs : List Dated) (x : Dated) → IsPermutation (hs ++ x ∷ []) ks → IsPermutation (hs ++ (xs ++ x ∷ [])) (ks ++ xs)
last_moves hs ks xs x m =
    let a : IsPermutation (hs ++ (xs ++ x ∷ [])) (hs ++ (x ∷ [] ++ xs)) = IsPermutation-append_right hs (xs ++ x ∷ []) (x ∷ [] ++ xs) (IsPermutation-append_comm xs (x ∷ [])) in
    let b : IsPermutation ((hs ++ x ∷ []) ++ xs) (ks ++ xs) = IsPermutation-append_left xs (hs ++ x ∷ []) ks m in
    IsPermutation-trans _ _ _ a (subst (λ (l : List Dated). IsPermutation l (ks ++ xs)) (append_assoc hs (x ∷ []) xs) b)

-- a task joins those that wait, of which some came back
pub joins_beside : (ds es : List Dated) (ts : List Task) (deadline : ℕ) (d : Dated) → IsPermutation (ds ++ d ∷ []) es → IsPermutation (with_again ds ts deadline ++ d ∷ []) (with_again es ts deadline)
joins_beside ds es ts deadline d m =
    subst (λ (l : List Dated). IsPermutation l (with_again es ts deadline)) (sym (append_assoc ds (all_at deadline ts) (d ∷ []))) (last_moves ds es (all_at deadline ts) d m)

-- the due tasks of a tick come back to tasks that have other numbers
module _ (tasks : List Dated) (deadline : ℕ) (ts : List Task) (distinct : Distinct tasks) (rising : Rising ts) (new : AreNew ts (dated_in tasks)) where
  free : (x : Option Dated) (t : Option Task) → IsTrue (is_none x || is_none t) → IsTrue (is_none x || is_none (option_map (dated_at deadline) t))
  free None t h = refl
  free (Some d) None h = refl
  free (Some d) (Some t) h = h

  turned : (x : Option Dated) (t : Option Task) → IsTrue (is_none x || is_none t) → option_or x (option_map (dated_at deadline) t) ≡ option_or (option_map (dated_at deadline) t) x
  turned None None h = refl
  turned None (Some t) h = refl
  turned (Some d) None h = refl
  turned (Some d) (Some t) h = absurd (cc)

  beside : Distinct (tasks ++ all_at deadline ts)
  beside =
      let e = distinct_at deadline ts rising in
      differ_append nat_eq eqb-true nat_self number_of tasks (all_at deadline ts) distinct e
      (no_shared_key nat_eq eqb-true nat_self number_of tasks (all_at deadline ts) distinct e (λ n. rw (found_at deadline ts n) (free (dated_in tasks n) (task_in ts n) (new n))))

  pub back_distinct : (xs : List Dated) → IsPermutation (tasks ++ all_at deadline ts) xs → Distinct xs
  back_distinct xs m = differ_permuted nat_eq eqb-true nat_self number_of (tasks ++ all_at deadline ts) xs m beside

  pub back_found : (xs : List Dated) → IsPermutation (tasks ++ all_at deadline ts) xs → dated_in xs ≡ queued_again deadline ts (dated_in tasks)
  back_found xs m = fun_ext (λ n.
      find_permuted nat_eq eqb-true nat_self number_of (tasks ++ all_at deadline ts) xs beside m n
      ∙ find-append (λ (d : Dated). nat_eq d.task.number n) tasks (all_at deadline ts)
      ∙ ap (option_or (dated_in tasks n)) (found_at deadline ts n)
      ∙ turned (dated_in tasks n) (task_in ts n) (new n))

-- tasks in another order have the same numbers
pub permuted_distinct : (xs ys : List Dated) → IsPermutation xs ys → Distinct xs → Distinct ys
permuted_distinct xs ys m d = differ_permuted nat_eq eqb-true nat_self number_of xs ys m d

pub permuted_found : (xs ys : List Dated) → IsPermutation xs ys → Distinct xs → dated_in ys ≡ dated_in xs
permuted_found xs ys m d = fun_ext (λ n. find_permuted nat_eq eqb-true nat_self number_of xs ys d m n)

pub permuted_count : (p : Dated → Bool) (xs ys : List Dated) → IsPermutation xs ys → count_by p ys ≡ count_by p xs
permuted_count p xs ys m = sum_by-IsPermutation (λ z. cond (p z) 1 0) xs ys m

-- where the tasks stood in another order before
module _ (xs ys : List Dated) (deadline : ℕ) (ts : List Task) (m : IsPermutation xs ys) (distinct : Distinct xs) (rising : Rising ts) (new : AreNew ts (dated_in xs)) where
  new_still : AreNew ts (dated_in ys)
  new_still = λ n. subst (λ (o : Option Dated). IsTrue (is_none o || is_none (task_in ts n))) (sym (find_permuted nat_eq eqb-true nat_self number_of xs ys distinct m n)) (new n)

  pub given_distinct : Distinct (with_again ys ts deadline)
  given_distinct = back_distinct ys deadline ts (permuted_distinct xs ys m distinct) rising new_still (with_again ys ts deadline) (IsPermutation-refl _)

  pub given_found : dated_in (with_again ys ts deadline) ≡ queued_again deadline ts (dated_in xs)
  given_found =
      back_found ys deadline ts (permuted_distinct xs ys m distinct) rising new_still (with_again ys ts deadline) (IsPermutation-refl _)
      ∙ ap (queued_again deadline ts) (permuted_found xs ys m distinct)

pub length_with_again : (ds : List Dated) (ts : List Task) (deadline : ℕ) → length (with_again ds ts deadline) ≡ length ds + length ts
length_with_again ds ts deadline = length-append ds (all_at deadline ts) ∙ ap (λ n. length ds + n) (length-map ts (dated_at deadline))

-- where none came back
pub without_again : (ds : List Dated) (ts : List Task) (deadline : ℕ) → ts ≡ [] → with_again ds ts deadline ≡ ds
without_again ds ts deadline e = ap (λ us. ds ++ all_at deadline us) e ∙ append-nil ds

-- those that wait with one deadline are due together, or none of them is
pub all_due : (now deadline : ℕ) (ts : List Task) → deadline ≤ now → All (λ d. is_due now d ≡ true) (all_at deadline ts)
all_due now deadline ts l = λ k d m. ap (is_due now) (get_or-map (dated_at deadline) ts k d.task d (omega (arith, m, length-map ts (dated_at deadline)))) ∙ le-leb deadline now l

pub none_due_again : (now deadline : ℕ) (ts : List Task) → now < deadline → All (λ d. is_due now d ≡ false) (all_at deadline ts)
none_due_again now deadline ts l = λ k d m. ap (is_due now) (get_or-map (dated_at deadline) ts k d.task d (omega (arith, m, length-map ts (dated_at deadline)))) ∙ lt-leb deadline now l

-- those that came back are taken where they are due
pub again_taken : (now deadline : ℕ) (ds : List Dated) (ts out : List Task) → deadline ≤ now → out ≡ ts → IsTakingDue now (with_again ds ts deadline) ds out
again_taken now deadline ds ts out l e = record {
  due = all_at deadline ts;
  tasks = e ∙ sym (tasks_at deadline ts);
  all = IsPermutation-append_comm ds (all_at deadline ts);
  yes = all_due now deadline ts l;
}

pub again_counted : (now deadline : ℕ) (ds : List Dated) (ts : List Task) → deadline ≤ now → length ts ≤ count_by (is_due now) (with_again ds ts deadline)
again_counted now deadline ds ts l =
    let all : count_by (is_due now) (all_at deadline ts) ≡ length (all_at deadline ts) = count_all (is_due now) (all_at deadline ts) (all_due now deadline ts l) in
    omega (arith, all, length-map ts (dated_at deadline), sum_by-append (λ z. cond (is_due now z) 1 0) ds (all_at deadline ts))
