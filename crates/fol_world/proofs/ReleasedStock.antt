-- All that follows in the store and in the stack when a region is released.
use Rattle.std.proofs.Common.{◌≡◌, ◌≢◌, ℕ, ◌+◌, ◌*◌, ◌≤◌, refl, sym, ◌∙◌, ap, arith, true, false, inl, inr, List, [], ◌∷◌, ◌++◌, length}
use Rattle.std.specs.Prelude.{nat_eq, nat_lt, nat_le}
use Rattle.std.proofs.lemmas.Bool.{cases_Bool, cases_eq, eqb-true, eq-eqb, ne_eqb, and_parts, and_from, true≢false}
use Rattle.fol_model.specs.declared.regions.State.{State}
use Rattle.fol_model.specs.declared.regions.State.TheVariants.{Ticking, Dead}
use Rattle.fol_model.specs.GridNumbers.{IsGrid}
use Rattle.fol_model.specs.Counters.{owed_after_release, tick_after_release}
use Rattle.fol_model.specs.GridState.{GridState, is_dead, is_ready, present_count}
use Rattle.fol_model.specs.Release.{release, must_wait, cleans, is_part_id, parts}
use Rattle.fol_model.specs.ActionStep.{Recorded, at_id}
use Rattle.fol_model.specs.Rules.{Rules}
use Rattle.fol_regions.specs.Changes.{Changes, into, waiting_for, part_ids, release_change}
use Rattle.fol_store.specs.Bag.{Bag}
use Rattle.fol_world.specs.Agenda.{Covers, owes}
use Rattle.fol_world.specs.Bags.{CanJoin, Follow, IsBagOf, joined_bags}
use Rattle.fol_world.specs.Released.{heirs, parted, parts_in, released_bags, returned_bag}
use Rattle.fol_world.proofs.JoinedBags.{behind, in_front}
use Rattle.fol_world.proofs.PartIds.{nine_each, nine_own, parts_count, parts_follow}
use Rattle.fol_world.proofs.ReleasedBags as rb

-- ---- what holds of the bags k after the release of r, by which g became h
pub record ReleasedTo (g h : GridState) (r : ℕ) (ch : Changes) (tick owed later left : ℕ → ℕ) (recorded : ℕ → Recorded) (f : ℕ → Bag) : Type 0 where
  pub joins : CanJoin ch.merges (at_id f r (returned_bag (tick r) (owed r) (f r)))
  pub follow : Follow g.next (parts_in h ch r)
  -- nine sections for each
  pub few : 9 * length (parts_in h ch r) ≤ present_count g
  pub few_heirs : 9 * length (heirs h ch r) ≤ present_count g
  pub next : h.next ≡ g.next + length (parts_in h ch r)
  pub bags : (q : ℕ) → IsBagOf h later left recorded q (released_bags h ch r (tick r) (owed r) f q)
  pub covers : (xs : List ℕ) → Covers xs g f → Covers (xs ++ heirs h ch r) h (released_bags h ch r (tick r) (owed r) f)

not_ready : (s : State) → s ≡ Dead → is_ready s ≡ true → ⊥
not_ready s e h = let x : false ≡ true = rw e at h in true≢false (sym x)

module _ (g : GridState) (r : ℕ) (rules : Rules g) (ok : IsGrid g.grid) (ticks : g.state r ≡ Ticking) (tick owed : ℕ → ℕ) (recorded : ℕ → Recorded) (f : ℕ → Bag)
    (bags : (q : ℕ) → IsBagOf g tick owed recorded q (f q)) where
  abbrev h : GridState
  h = release g r

  abbrev us : List ℕ
  us = waiting_for g r

  abbrev back : ℕ → Bag
  back = at_id f r (returned_bag (tick r) (owed r) (f r))

  abbrev all : ℕ → Bag
  all = joined_bags (into r us) back

  abbrev later : ℕ → ℕ
  later = tick_after_release g r tick

  abbrev left : ℕ → ℕ
  left = owed_after_release g r owed

  -- r lives on: it is the one that may owe a tick now
  lives_on : (ch : Changes) → ch.merges ≡ into r us → is_dead (h.state r) ≡ false → h.next ≡ g.next → ((q : ℕ) → IsBagOf h later left recorded q (all q))
      → ((q : ℕ) → q ≢ r → is_ready (h.state q) ≡ true → (g.waits q r ≡ false) × (h.state q ≡ g.state q)) → ReleasedTo g h r ch tick owed later left recorded f
  lives_on ch m d n is others =
      let same : released_bags h ch r (tick r) (owed r) f ≡ all = rw (d, m) refl in
      record {
        joins = rw m (rb.all_can_join g r rules ok ticks tick owed recorded f bags);
        follow = rw d tt;
        few = rw d (omega arith);
        few_heirs = rw d (nine_own g r rules ticks);
        next = rw d (n ∙ (omega arith));
        bags = λ q. rw same (is q);
        covers = λ xs cov q o. rw d (let o : owes h all q ≡ true = rw same at o in elim (cases_eq q r) [
          | inl e ↦ behind q xs (r ∷ []) (let z : nat_eq q r ≡ true = eq-eqb q r e in rw z refl)
          | inr x ↦
              let p = and_parts (is_ready (h.state q)) (nat_lt 0 (all q).owed) o in
              let s = others q x p.0 in
              let b : all q ≡ f q = rb.all_off g r rules ok ticks tick owed recorded f bags q x s.0 in
              in_front q xs (r ∷ []) (cov q (and_from (is_ready (g.state q)) (nat_lt 0 (f q).owed) (sym (ap is_ready s.1) ∙ p.0) (sym (ap (λ (y : Bag). nat_lt 0 y.owed) b) ∙ p.1)))
        ]);
      }

  held_to : must_wait g r ≡ true → ReleasedTo g h r (release_change g r) tick owed later left recorded f
  unfolding release_change release
  held_to w = let z : nat_eq r r ≡ true = eq-eqb r r refl in
      lives_on (release_change g r) (rw w refl) (rw (w, z) refl) (rw w refl) (rb.bags_held g r rules ok ticks tick owed recorded f bags w) (λ q d k.
      let n : nat_eq q r ≡ false = ne_eqb q r d in
      elim (cases_Bool (g.waits q r)) [
        | inl x ↦ absurd (not_ready (h.state q) (rw (w, n, x) refl) k)
        | inr x ↦ (x, rw (w, n, x) refl)
      ])

  rested_to : must_wait g r ≡ false → cleans g r ≡ false → ReleasedTo g h r (release_change g r) tick owed later left recorded f
  unfolding release_change release
  rested_to w k =
      let z : nat_eq r r ≡ true = eq-eqb r r refl in
      let none = rb.none_joins g r rules ok ticks tick owed recorded f bags w k in
      lives_on (release_change g r) (rw (w, k, none) refl) (rw (w, k, z) refl) (rw (w, k) refl) (rb.bags_rested g r rules ok ticks tick owed recorded f bags w k) (λ q d x.
      let n : nat_eq q r ≡ false = ne_eqb q r d in
      (rb.none_waits g r rules ok ticks tick owed recorded f bags w k q, rw (w, k, n) refl))

  one_to : must_wait g r ≡ false → cleans g r ≡ true → nat_eq (parts g r) 1 ≡ true → ReleasedTo g h r (release_change g r) tick owed later left recorded f
  unfolding release_change release
  one_to w k one =
      let z : nat_eq r r ≡ true = eq-eqb r r refl in
      let e : parts g r ≡ 1 = eqb-true _ _ one in
      let no : (q : ℕ) → is_part_id g r q ≡ false = λ q. rw e refl in
      let two : nat_le 2 (parts g r) ≡ false = rw e refl in
      lives_on (release_change g r) (rw (w, k) refl) (rw (w, k, no r, z, one) refl) (rw (w, k, two) refl) (rb.bags_one g r rules ok ticks tick owed recorded f bags w k one) (λ q d x.
      let n : nat_eq q r ≡ false = ne_eqb q r d in
      elim (cases_Bool (g.waits q r)) [
        | inl y ↦ absurd (not_ready (h.state q) (rw (w, k, no q, n, y) refl) x)
        | inr y ↦ (y, rw (w, k, no q, n, y) refl)
      ])

  parted_to : must_wait g r ≡ false → cleans g r ≡ true → nat_eq (parts g r) 1 ≡ false → ReleasedTo g h r (release_change g r) tick owed later left recorded f
  unfolding release_change release
  parted_to w k several =
      let z : nat_eq r r ≡ true = eq-eqb r r refl in
      let nr : is_part_id g r r ≡ false = rb.old_no_part g r rules ok ticks r (rb.r_below g r rules ok ticks) in
      let dead : is_dead (h.state r) ≡ true = rw (w, k, nr, z, several) refl in
      let merges : (release_change g r).merges ≡ into r us = rw (w, k) refl in
      let ids : (release_change g r).parts ≡ part_ids g r = rw (w, k) refl in
      let same : released_bags h (release_change g r) r (tick r) (owed r) f ≡ parted (part_ids g r) r all = rw (dead, ids, merges) refl in
      let count = parts_count g r in
      record {
        joins = rw merges (rb.all_can_join g r rules ok ticks tick owed recorded f bags);
        follow = rw (dead, ids) (parts_follow g r);
        few = rw (dead, ids) (nine_each g r rules ok ticks w k);
        few_heirs = rw (dead, ids) (nine_each g r rules ok ticks w k);
        next = rw (dead, ids) (elim (cases_Bool (nat_le 2 (parts g r))) [
          | inl two ↦ let c : length (part_ids g r) ≡ parts g r = count ∙ rw two refl in rw (w, k, two) (omega arith)
          | inr two ↦ let c : length (part_ids g r) ≡ 0 = count ∙ rw two refl in rw (w, k, two) (omega arith)
        ]);
        bags = λ q. rw same (rb.bags_parted g r rules ok ticks tick owed recorded f bags w k several q);
        covers = λ xs cov q o. rw (dead, ids) (
            let o : owes h (parted (part_ids g r) r all) q ≡ true = rw same at o in
            let p = and_parts (is_ready (h.state q)) (nat_lt 0 (parted (part_ids g r) r all q).owed) o in
            elim (cases_Bool (is_part_id g r q)) [
              | inl part ↦ behind q xs (part_ids g r) (rb.among_ids g r rules ok ticks tick owed recorded f bags w k several q ∙ part)
              | inr part ↦ elim (cases_eq q r) [
                | inl e ↦ absurd (not_ready (h.state r) (rw (w, k, nr, z, several) refl) (sym (ap (λ (y : ℕ). is_ready (h.state y)) e) ∙ p.0))
                | inr d ↦
                    let n : nat_eq q r ≡ false = ne_eqb q r d in
                    elim (cases_Bool (g.waits q r)) [
                      | inl y ↦ absurd (not_ready (h.state q) (rw (w, k, part, n, y) refl) p.0)
                      | inr y ↦
                          let s : h.state q ≡ g.state q = rw (w, k, part, n, y) refl in
                          let b : parted (part_ids g r) r all q ≡ f q = rb.parted_other g r rules ok ticks tick owed recorded f bags w k several q part d y in
                          in_front q xs (part_ids g r) (cov q (and_from (is_ready (g.state q)) (nat_lt 0 (f q).owed) (sym (ap is_ready s) ∙ p.0) (sym (ap (λ (x : Bag). nat_lt 0 x.owed) b) ∙ p.1)))
                    ]
              ]
            ]);
      }

  pub released_to : ReleasedTo g h r (release_change g r) tick owed later left recorded f
  released_to = elim (cases_Bool (must_wait g r)) [
    | inl w ↦ held_to w
    | inr w ↦ elim (cases_Bool (cleans g r)) [
      | inr k ↦ rested_to w k
      | inl k ↦ elim (cases_Bool (nat_eq (parts g r) 1)) [ inl one ↦ one_to w k one | inr one ↦ parted_to w k one ]
    ]
  ]
