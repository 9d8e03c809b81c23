-- How many regions have a mark in a list, when one comes or goes.
use Rattle.std.proofs.Common.{◌≡◌, ℕ, zero, suc, ◌+◌, ◌-◌, ◌≤◌, ◌<◌, refl, sym, ◌∙◌, ap, arith, Bool, true, false, inl, inr, List, [], ◌∷◌, ◌++◌, length, length-append, slice_index_or, slice_set}
use Rattle.std.specs.Prelude.{cond}
use Rattle.std.proofs.Math.Path.{fun_ext}
use Rattle.std.proofs.lemmas.Bool.{cases_Bool, cases_eq, cases_lt, false_from_ne_true, true≢false}
use Rattle.std.proofs.Math.ListN.{get_or-append, get_or-eq_default}
use Rattle.std.proofs.Math.Seq.{get_or-append_right}
use Rattle.std.proofs.lemmas.List.{get_or-set_same, get_or-set_other, length-set}
use Rattle.fol_model.specs.ActionStep.{at_id}
use Rattle.fol_model.specs.Counting.{count_below}
use Rattle.fol_laws.proofs.CountBelow.{count_less, count_next, count_zero}
use Rattle.fol_laws.proofs.FunctionsChanged.{at_here, at_other}
use Rattle.fol_core.specs.Meaning.{mark, mark_count}

pub count_below_le : (p : ℕ → Bool) (n : ℕ) → count_below p n ≤ n
unfolding count_below
count_below_le p zero = omega arith
count_below_le p (suc n) = let h = count_below_le p n in elim (cases_Bool (p n)) [ inl e ↦ rw e (omega arith) | inr e ↦ rw e (omega arith) ]

-- the mark of a region in the list is set to b
pub mark_set : (marks : List Bool) (id : ℕ) (b : Bool) → id < length marks → mark (slice_set marks id b) ≡ at_id (mark marks) id b
mark_set marks id b l = fun_ext (λ r. elim (cases_eq r id) [
  | inl e ↦ ap (λ k. slice_index_or (slice_set marks id b) k false) e ∙ get_or-set_same marks id b false l ∙ sym (ap (at_id (mark marks) id b) e ∙ at_here (mark marks) id b)
  | inr d ↦ get_or-set_other marks id r b false d ∙ sym (at_other (mark marks) id b r d)
])

module _ (marks : List Bool) (id : ℕ) (l : id < length marks) where
  pub count_added : mark marks id ≡ false → mark_count (slice_set marks id true) ≡ mark_count marks + 1
  unfolding mark_count
  count_added off =
      let on : at_id (mark marks) id true id ≡ true = at_here (mark marks) id true in
      let less = count_less (at_id (mark marks) id true) (mark marks) (length marks) id l off (λ k d. at_other (mark marks) id true k d) in
      let one : ◌≡◌ {A = ℕ} (cond (at_id (mark marks) id true id) 1 0) 1 = ap (λ b. cond b 1 0) on in
      (λ i. count_below (mark_set marks id true l i) (length-set marks id true i)) ∙ (omega (arith, less, one))

  pub count_removed : mark marks id ≡ true → mark_count marks ≡ mark_count (slice_set marks id false) + 1
  unfolding mark_count
  count_removed on =
      let off : at_id (mark marks) id false id ≡ false = at_here (mark marks) id false in
      let less = count_less (mark marks) (at_id (mark marks) id false) (length marks) id l off (λ k d. sym (at_other (mark marks) id false k d)) in
      let one : ◌≡◌ {A = ℕ} (cond (mark marks id) 1 0) 1 = ap (λ b. cond b 1 0) on in
      let now : count_below (mark (slice_set marks id false)) (length (slice_set marks id false)) ≡ count_below (at_id (mark marks) id false) (length marks) = λ i. count_below (mark_set marks id false l i) (length-set marks id false i) in
      omega (arith, less, one, now)

pub count_few : (marks : List Bool) → mark_count marks ≤ length marks
unfolding mark_count
count_few marks = count_below_le (mark marks) (length marks)

-- a region with a mark is in the list
pub mark_below : (marks : List Bool) (id : ℕ) → mark marks id ≡ true → id < length marks
mark_below marks id on = elim (cases_lt id (length marks)) [
  | inl l ↦ l
  | inr l ↦ absurd (true≢false (sym on ∙ get_or-eq_default marks false l))
]

pub count_off : (marks : List Bool) → ((r : ℕ) → mark marks r ≡ false) → mark_count marks ≡ 0
unfolding mark_count
count_off marks none = count_zero (mark marks) (length marks) none

-- where they are none, no region has a mark
pub none_counted : (marks : List Bool) → mark_count marks ≡ 0 → (r : ℕ) → mark marks r ≡ false
none_counted marks none r = false_from_ne_true (mark marks r) (λ on. let one = count_removed marks r (mark_below marks r on) on in omega (arith, none, one))

pub count_none : mark_count [] ≡ 0
unfolding mark_count count_below
count_none = refl

-- one region more that has no mark
pub mark_more : (marks : List Bool) → mark (marks ++ false ∷ []) ≡ mark marks
mark_more marks = fun_ext (λ r. elim (cases_lt r (length marks)) [
  | inl l ↦ get_or-append marks (false ∷ []) false r l
  | inr l ↦ past r l ∙ sym (get_or-eq_default marks false l)
])
  where
    past : (r : ℕ) → length marks ≤ r → mark (marks ++ false ∷ []) r ≡ false
    past r l = elim (cases_lt r (length (marks ++ false ∷ []))) [
      | inl m ↦ get_or-append_right marks (false ∷ []) r false l ∙ ap (λ k. slice_index_or (false ∷ []) k false) (let e : r - length marks ≡ 0 = omega (arith, length-append marks (false ∷ [])) in e)
      | inr m ↦ get_or-eq_default (marks ++ false ∷ []) false m
    ]

pub count_more : (marks : List Bool) → mark_count (marks ++ false ∷ []) ≡ mark_count marks
unfolding mark_count
count_more marks = (λ i. count_below (mark_more marks i) (length-append marks (false ∷ []) i)) ∙ count_next (mark marks) (length marks) (get_or-eq_default marks false (omega arith))

pub mark_none : (r : ℕ) → mark [] r ≡ false
mark_none r = refl
