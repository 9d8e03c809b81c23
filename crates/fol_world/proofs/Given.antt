-- A region that was given out stays so.
use Rattle.std.proofs.Common.{◌≡◌, ◌≢◌, ℕ, ◌+◌, ◌≤◌, ◌<◌, arith, inl, inr, true, false, ◌&&◌, refl, sym, ◌∙◌, subst, get_or, []}
use Rattle.std.specs.Prelude.{nat_eq, nat_le, nat_lt, All}
use Rattle.std.proofs.lemmas.Bool.{and_parts, cases_Bool, eq-eqb, leb-true, ltb-true}
use Rattle.std.proofs.lemmas.List.Elements.{All-from_get_or, All-nil}
use Rattle.std.proofs.lemmas.List.Folds.{list_any_at}
use Rattle.fol_model.specs.declared.regions.State.TheVariants.{Ticking, Dead}
use Rattle.fol_model.specs.GridState.{GridState}
use Rattle.fol_model.specs.Release.{cleans, is_part_id, must_wait, parts, release}
use Rattle.fol_model.specs.Universe.{numbers_below}
use Rattle.fol_regions.specs.Answers.{IsGiven}
use Rattle.fol_regions.specs.Changes.{part_ids, release_change}
use Rattle.fol_world.proofs.JoinedBags.{among, in_filter}

next_grows : (g : GridState) (r : ℕ) → g.next ≤ (release g r).next
unfolding release
next_grows g r = elim (cases_Bool (must_wait g r)) [
  | inl w ↦ rw w (omega arith)
  | inr w ↦ elim (cases_Bool (cleans g r)) [
    | inr k ↦ rw (w, k) (omega arith)
    | inl k ↦ elim (cases_Bool (nat_le 2 (parts g r))) [ inl t ↦ rw (w, k, t) (omega arith) | inr t ↦ rw (w, k, t) (omega arith) ]
  ]
]

-- a region that ticks keeps its id when it is released
pub given_after : (g : GridState) (r : ℕ) → g.state r ≡ Ticking → (g.state r ≢ Dead → 0 < r) → (g.state r ≢ Dead → r < g.next) → IsGiven (release g r) r
given_after g r ticks above below = record { above = above (λ d. cc); below = (let b = below (λ d. cc) in let n = next_grows g r in omega arith) }

module _ (g : GridState) (r : ℕ) where
  none_held : must_wait g r ≡ true → (release_change g r).parts ≡ []
  unfolding release_change
  none_held w = rw w refl

  none_rested : must_wait g r ≡ false → cleans g r ≡ false → (release_change g r).parts ≡ []
  unfolding release_change
  none_rested w k = rw (w, k) refl

  pub parts_are : must_wait g r ≡ false → cleans g r ≡ true → (release_change g r).parts ≡ part_ids g r
  unfolding release_change
  parts_are w k = rw (w, k) refl

  part_given : r < g.next → must_wait g r ≡ false → cleans g r ≡ true → (q : ℕ) → is_part_id g r q ≡ true → IsGiven (release g r) q
  unfolding release
  part_given l w k q p =
      let a = and_parts (nat_le 2 (parts g r)) (nat_le g.next q && nat_lt q (g.next + parts g r)) p in
      let b = and_parts (nat_le g.next q) (nat_lt q (g.next + parts g r)) a.1 in
      let low : g.next ≤ q = leb-true g.next q b.0 in
      let high : q < g.next + parts g r = ltb-true q (g.next + parts g r) b.1 in
      record { above = omega arith; below = rw (w, k, a.0) high }

  -- the parts of a region that is released are given out
  pub parts_given : r < g.next → All (IsGiven (release g r)) (release_change g r).parts
  parts_given l = elim (cases_Bool (must_wait g r)) [
    | inl w ↦ subst (All (IsGiven (release g r))) (sym (none_held w)) (All-nil (IsGiven (release g r)))
    | inr w ↦ elim (cases_Bool (cleans g r)) [
      | inr k ↦ subst (All (IsGiven (release g r))) (sym (none_rested w k)) (All-nil (IsGiven (release g r)))
      | inl k ↦ subst (All (IsGiven (release g r))) (sym (parts_are w k)) (All-from_get_or (IsGiven (release g r)) (part_ids g r) 0 (λ i within.
          let q = get_or (part_ids g r) i 0 in
          let m : among q (part_ids g r) ≡ true = list_any_at (nat_eq q) (part_ids g r) i 0 within (eq-eqb q q refl) in
          let p : is_part_id g r q ≡ true = (and_parts (is_part_id g r q) (among q (numbers_below (g.next + parts g r))) (sym (in_filter (is_part_id g r) (numbers_below (g.next + parts g r)) q) ∙ m)).0 in
          part_given l w k q p))
    ]
  ]
