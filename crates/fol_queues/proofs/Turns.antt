-- The order of tasks in a heap.
use Rattle.std.proofs.Common.{◌≡◌, ℕ, ◌<◌, ◌≤◌, ◌*◌, ◌+◌, ◌∙◌, ap, cond, inl, inr, true, false, refl, List, [], ◌∷◌, length, get_or, rules, arith, sym, subst}
use Rattle.std.specs.Cmp.{IsTotalOrder}
use Rattle.std.specs.Cmp.Rules.{comparing}
use Rattle.std.specs.Slice.Heapsort.{IsHeapWithin}
use Rattle.std.specs.BinaryHeap.{lt_by_cmp, IsHeap}
use Rattle.std.proofs.lemmas.Bool.{cases_Bool, le-leb, leb-false, lt-leb, lt-ltb}
use Rattle.std.specs.BinaryHeap.Sift.{SiftsDown, RestoresHeap}
use Rattle.std.specs.List.{swap_remove}
use Rattle.std_alloc.proofs.HeapSift.{at_most, popped, greatest}
use Rattle.std.proofs.lemmas.List.Elements.{All-from_recursion}
use Rattle.std.specs.Prelude.{All, count_by, nat_lt}
use Rattle.std.proofs.lemmas.List.Elements.{at_read}
use Rattle.std.proofs.lemmas.List.Sums.{get_or-le-sum_by}
use Rattle.fol_keyed.proofs.Keyed.{at_own, count_none}
use Rattle.fol_queues.specs.declared.dated.Dated.{Dated}
use Rattle.fol_queues.specs.Turn.{by_turn}
use Rattle.fol_queues.specs.Waiting.{is_due}

pub by_turn_total : IsTotalOrder by_turn
by_turn_total = search (comparing, rules)

-- what is not after another is due no later
pub not_after : (a b : Dated) → lt_by_cmp by_turn a b ≡ false → a.deadline ≤ b.deadline
not_after a b h = at_most b.deadline a.deadline h

-- a child is due no earlier than its parent
pub child_later : (ds : List Dated) (i k : ℕ) (d : Dated) → IsHeap by_turn ds → i * 2 + 1 ≤ k → k ≤ i * 2 + 2 → k < length ds → (get_or ds i d).deadline ≤ (get_or ds k d).deadline
unfolding IsHeap
child_later ds i k d h a b l = not_after (get_or ds i d) (get_or ds k d) (h i k d (omega arith) a b l)

-- below one that is not due none is due
pub none_due_below : (now : ℕ) (ds : List Dated) → IsHeap by_turn ds → (i k : ℕ) (d : Dated) → i * 2 + 1 ≤ k → k ≤ i * 2 + 2 → k < length ds → is_due now (get_or ds i d) ≡ false → is_due now (get_or ds k d) ≡ false
none_due_below now ds h i k d a b l f =
    let later : now < (get_or ds i d).deadline = leb-false (get_or ds i d).deadline now f in
    let child : (get_or ds i d).deadline ≤ (get_or ds k d).deadline = child_later ds i k d h a b l in
    lt-leb (get_or ds k d).deadline now (omega arith)

-- where the last task took the place of the first one and sank from there
pub taken : (xs ys zs : List Dated) (x : Dated) (n : ℕ) → n + 1 ≡ length xs → length zs ≡ n → x ≡ get_or xs 0 x → ys ≡ swap_remove xs 0 x → SiftsDown by_turn ys 0 n zs → IsHeap by_turn xs → IsHeap by_turn zs
unfolding IsHeap SiftsDown RestoresHeap
taken xs ys zs x n e l first is sinks h =
    (popped by_turn by_turn_total xs ys zs x n e first is (λ g. let P : ℕ → Type 0 = λ m. IsHeapWithin (lt_by_cmp by_turn) zs 0 m in subst P (sym l) (sinks.1 g)) h).0

-- where the first task is not due, none is
pub none_due : (now : ℕ) (ds : List Dated) → IsHeap by_turn ds → ((d : Dated) → 0 < length ds → is_due now (get_or ds 0 d) ≡ false) → All (λ d. is_due now d ≡ false) ds
none_due now ds h first = λ k d l.
    let some : 0 < length ds = omega arith in
    let top = All-from_recursion (λ (y : Dated). lt_by_cmp by_turn (get_or ds 0 d) y ≡ false) ds (greatest by_turn_total ds (get_or ds 0 d) (at_own ds 0 d some) h) in
    let later : now < (get_or ds 0 d).deadline = leb-false (get_or ds 0 d).deadline now (first d some) in
    let last : (get_or ds 0 d).deadline ≤ (get_or ds k d).deadline = not_after (get_or ds 0 d) (get_or ds k d) (top k d l) in
    lt-leb (get_or ds k d).deadline now (omega arith)

-- where the first task is due, some are, and else none is
pub first_tells : (now : ℕ) (ds : List Dated) (d : Dated) → IsHeap by_turn ds → 0 < length ds → d ≡ get_or ds 0 d → is_due now d ≡ nat_lt 0 (count_by (is_due now) ds)
first_tells now ds d h l e = elim (cases_Bool (is_due now d)) [
  | inl t ↦
      let one : cond (is_due now (get_or ds 0 d)) 1 0 ≤ count_by (is_due now) ds = get_or-le-sum_by (λ (z : Dated). cond (is_due now z) 1 0) ds 0 d l in
      let due : is_due now (get_or ds 0 d) ≡ true = ap (is_due now) (sym e) ∙ t in
      let some : 1 ≤ count_by (is_due now) ds = rw due at one in
      t ∙ sym (lt-ltb 0 (count_by (is_due now) ds) (omega arith))
  | inr f ↦
      let none : All (λ z. is_due now z ≡ false) ds = none_due now ds h (λ z m. at_read ds (λ y. is_due now y ≡ false) 0 d l e f z) in
      f ∙ sym (ap (nat_lt 0) (count_none (is_due now) ds none))
]

pub none_tells : (now : ℕ) (ds : List Dated) → length ds ≡ 0 → false ≡ nat_lt 0 (count_by (is_due now) ds)
none_tells now [] e = refl
none_tells now (d ∷ ds) e = absurd (omega (arith, e))

-- the first ones stay a heap where they stay as they are
pub heap_stays : (n : ℕ) (xs ys : List Dated) → ((k : ℕ) (d : Dated) → k < n → get_or ys k d ≡ get_or xs k d) → IsHeapWithin (lt_by_cmp by_turn) xs 0 n → IsHeapWithin (lt_by_cmp by_turn) ys 0 n
heap_stays n xs ys same h = λ p k d low a b l. (λ i. lt_by_cmp by_turn (same p d (omega arith) i) (same k d l i)) ∙ h p k d low a b l

pub heap_to : (n : ℕ) (xs : List Dated) → n ≡ length xs → IsHeap by_turn xs → IsHeapWithin (lt_by_cmp by_turn) xs 0 n
unfolding IsHeap
heap_to n xs e h = λ p k d low a b l. h p k d low a b (omega (arith, e, l))

-- a task that is taken from where a due one was read is due
pub due_at : (now : ℕ) (ds : List Dated) (i : ℕ) (d e : Dated) → i < length ds → d ≡ get_or ds i d → d.deadline ≤ now → e ≡ get_or ds i e → is_due now e ≡ true
due_at now ds i d e some is l own =
    let read = at_read ds (λ z. is_due now z ≡ true) i d some is (le-leb d.deadline now l) in
    ap (is_due now) own ∙ read e

pub restored : (n : ℕ) (xs ys : List Dated) → RestoresHeap by_turn xs 0 n ys → IsHeapWithin (lt_by_cmp by_turn) xs 0 n → IsHeap by_turn ys
unfolding RestoresHeap
restored n xs ys r h = r h
