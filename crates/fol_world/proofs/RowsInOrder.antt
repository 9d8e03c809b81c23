-- The rows of tasks and of blocks, from lists in order.
use Rattle.std.proofs.Common.{◌≡◌, ℕ, ◌<◌, refl, sym, ◌∙◌, ap, true, inl, inr, List, [], ◌∷◌}
use Rattle.std.specs.Prelude.{nat_eq, nat_lt, if◌then◌else◌, Option, Some, None}
use Rattle.std.specs.Option.{option_map}
use Rattle.std.specs.List.{AllByRecursion, find, list_any}
use Rattle.std.specs.List.Sorted.{IsStrictlySortedBy}
use Rattle.std.specs.Ordering.{nat_cmp, eq_by_cmp, ordering_reverse}
use Rattle.std.specs.declared.cmp.Ordering.{Ordering}
use Rattle.std.specs.declared.cmp.Ordering.TheVariants.{Less}
use Rattle.std.proofs.lemmas.Bool.{cases_Bool, eqb-true, eq-eqb, lt-ltb, ltb-true}
use Rattle.fol_model.specs.declared.places.BlockPos.{BlockPos}
use Rattle.fol_model.specs.declared.openings.BlockAt.{BlockAt}
use Rattle.fol_model.specs.declared.closings.TaskRow.{TaskRow}
use Rattle.fol_model.specs.Geometry.{same_block}
use Rattle.fol_model.specs.Universe.{all_blocks, block_cmp, numbers_below}
use Rattle.fol_model.specs.Job.{Job}
use Rattle.fol_model.specs.World.{World, block_in}
use Rattle.fol_model.specs.Outputs.{block_rows, task_row, task_rows}
use Rattle.fol_laws.proofs.Listed as laws
use Rattle.fol_laws.proofs.BlockOrder.{blocks_listed, blocks_sorted, blocks_tell}
use Rattle.fol_laws.proofs.NumberOrder.{in_numbers, numbers_sorted, numbers_tell}
use Rattle.fol_laws.proofs.SamePlaces.{same_block-self, same_block-true}
use Rattle.fol_laws.proofs.Tests.{same_answer}
use Rattle.fol_laws.proofs.SoundState.{SoundWorld, job_below}
use Rattle.fol_chunks.specs.Rows.{by_place}
use Rattle.fol_store.specs.TaskRows.{by_number, job_of_row, rows_of}
use Rattle.fol_world.proofs.BlockRuns.{BlocksWithin}
use Rattle.fol_world.proofs.KeyedRows.{Tells, each, find_passes, finds_own, keyed_rows, listed, map_filter}

one_way : {X : Type 0} (c : X → X → Ordering) → laws.Tells c → (a b : X) → c a b ≡ Less → c b a ≡ Less → ⊥
one_way c t a b h k = let e = t.order.antisymm a b in let f : Less ≡ ordering_reverse Less = rw (h, k) at e in cc

pub tells_by : {X : Type 0} (c : X → X → Ordering) → laws.Tells c → Tells c (eq_by_cmp c)
tells_by c t = record { is = laws.same_by c t; self = laws.own c t; one_way = one_way c t }

pub tells_numbers : Tells nat_cmp nat_eq
tells_numbers = record { is = λ a b e. eqb-true a b e; self = λ a. eq-eqb a a refl; one_way = one_way nat_cmp numbers_tell }

-- ---- tasks
task_found : (jobs : ℕ → Option Job) (xs : List TaskRow) (n : ℕ) (o : Option TaskRow) → find (λ r. nat_eq r.task.number n) xs ≡ o → rows_of xs n ≡ jobs n → task_row n (jobs n) ≡ listed o
task_found jobs xs n None e h = let z : jobs n ≡ None = sym h ∙ ap (option_map job_of_row) e in rw z refl
task_found jobs xs n (Some r) e h =
    let z : jobs n ≡ Some (job_of_row r) = sym h ∙ ap (option_map job_of_row) e in
    let s : r.task.number ≡ n = eqb-true _ _ (find_passes (λ (r : TaskRow). nat_eq r.task.number n) xs r e) in
    rw (z, ← s) refl

pub own_jobs : (jobs : ℕ → Option Job) (xs : List TaskRow) → IsStrictlySortedBy by_number xs → rows_of xs ≡ jobs → AllByRecursion (λ r. jobs r.task.number ≡ Some (job_of_row r)) xs
own_jobs jobs xs o h = each _ (λ r. jobs r.task.number ≡ Some (job_of_row r)) (λ r e. ap (λ (f : ℕ → Option Job). f r.task.number) (sym h) ∙ ap (option_map job_of_row) e) xs
    (finds_own nat_cmp nat_eq tells_numbers (λ (r : TaskRow). r.task.number) xs o)

pub task_rows_are : (w : World) (xs : List TaskRow) → SoundWorld w → IsStrictlySortedBy by_number xs → rows_of xs ≡ w.jobs → xs ≡ task_rows w
unfolding task_rows
task_rows_are w xs s o h = keyed_rows nat_cmp nat_eq tells_numbers (λ (r : TaskRow). r.task.number) (λ n. task_row n (w.jobs n)) (numbers_below w.next_job) xs (numbers_sorted w.next_job) o
    (λ n m. task_found w.jobs xs n (find (λ r. nat_eq r.task.number n) xs) refl (ap (λ (f : ℕ → Option Job). f n) h))
    (each _ (λ r. list_any (nat_eq r.task.number) (numbers_below w.next_job) ≡ true) (λ r e. in_numbers w.next_job r.task.number (job_below r.task.number w (job_of_row r) s e)) xs (own_jobs w.jobs xs o h))

-- ---- blocks
tied : (a b : BlockPos) → eq_by_cmp block_cmp a b ≡ same_block a b
tied a b = same_answer (eq_by_cmp block_cmp a b) (same_block a b)
    (λ h. let s : a ≡ b = laws.same_by block_cmp blocks_tell a b h in ap (same_block a) (sym s) ∙ same_block-self a)
    (λ h. let s : a ≡ b = same_block-true a b h in ap (eq_by_cmp block_cmp a) (sym s) ∙ laws.own block_cmp blocks_tell a)

abbrev block_at : (BlockPos → ℕ) → BlockPos → List BlockAt
block_at f b = if nat_lt 0 (f b) then (record { at = b; id = f b }) ∷ [] else []

block_found : (xs : List BlockAt) (b : BlockPos) → AllByRecursion (λ x. 0 < x.id) xs → block_at (block_in xs) b ≡ listed (find (λ x. eq_by_cmp block_cmp x.at b) xs)
block_found [] b h = refl
block_found (x ∷ xs) b h = elim (cases_Bool (same_block x.at b)) [
  | inl e ↦ let t = tied x.at b ∙ e in let l : nat_lt 0 x.id ≡ true = lt-ltb _ _ h.0 in let s : x.at ≡ b = same_block-true x.at b e in rw (e, t, l, ← s) refl
  | inr e ↦ let t = tied x.at b ∙ e in rw (e, t) (block_found xs b h.1)
]

own_blocks : (xs : List BlockAt) → IsStrictlySortedBy by_place xs → AllByRecursion (λ x. 0 < x.id) xs → AllByRecursion (λ x. 0 < block_in xs x.at) xs
own_blocks xs o h = gives xs (finds_own block_cmp (eq_by_cmp block_cmp) (tells_by block_cmp blocks_tell) (λ (x : BlockAt). x.at) xs o)
  where
    found_above : (x : BlockAt) → find (λ (y : BlockAt). eq_by_cmp block_cmp y.at x.at) xs ≡ Some x → 0 < block_in xs x.at
    found_above x e = elim (cases_Bool (nat_lt 0 (block_in xs x.at))) [
      | inl l ↦ ltb-true 0 (block_in xs x.at) l
      | inr l ↦ let f = block_found xs x.at h in let g : [] ≡ x ∷ [] = rw (l, e) at f in absurd (cc)
    ]

    gives : (ys : List BlockAt) → AllByRecursion (λ x. find (λ (y : BlockAt). eq_by_cmp block_cmp y.at x.at) xs ≡ Some x) ys → AllByRecursion (λ x. 0 < block_in xs x.at) ys
    gives [] a = tt
    gives (y ∷ ys) a = (found_above y a.0, gives ys a.1)

pub block_rows_are : (w : World) (xs : List BlockAt) → BlocksWithin w.flat.blocks → IsStrictlySortedBy by_place xs → AllByRecursion (λ x. 0 < x.id) xs → block_in xs ≡ w.flat.blocks → xs ≡ block_rows w
unfolding block_rows
block_rows_are w xs within o full h =
    keyed_rows block_cmp (eq_by_cmp block_cmp) (tells_by block_cmp blocks_tell) (λ (x : BlockAt). x.at) (block_at w.flat.blocks) all_blocks xs blocks_sorted o
    (λ b m. let f : block_at (block_in xs) b ≡ listed (find (λ x. eq_by_cmp block_cmp x.at b) xs) = block_found xs b full in ap (λ g. block_at g b) (sym h) ∙ f)
    (each (λ x. 0 < block_in xs x.at) (λ x. list_any (eq_by_cmp block_cmp x.at) all_blocks ≡ true) (λ x l. blocks_listed.members x.at ∙ within x.at (let e = ap (λ (g : BlockPos → ℕ). g x.at) h in rw e at l)) xs (own_blocks xs o full))
    ∙ sym (map_filter (λ b. record { at = b; id = w.flat.blocks b }) (λ b. nat_lt 0 (w.flat.blocks b)) all_blocks)
