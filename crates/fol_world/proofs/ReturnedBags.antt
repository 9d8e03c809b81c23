-- The bags after a release, once regions joined the one that came back.
use Rattle.std.proofs.Common.{◌≡◌, ◌≢◌, ℕ, ◌<◌, refl, sym, ◌∙◌, ap, subst, arith, Bool, true, false, inl, inr, ◌&&◌, List, filter}
use Rattle.std.specs.Prelude.{nat_eq, nat_lt, ◌↔◌}
use Rattle.std.specs.List.Sorted.{IsStrictlySortedBy}
use Rattle.std.proofs.Math.Path.{fun_ext}
use Rattle.std.proofs.lemmas.Bool.{cases_Bool, cases_eq, and_from, and_parts, eq-eqb, eqb-false, eqb-true, ltb-true, true≢false}
use Rattle.fol_model.specs.declared.places.ChunkPos.{ChunkPos}
use Rattle.fol_model.specs.declared.places.SectionPos.{SectionPos}
use Rattle.fol_model.specs.declared.regions.State.TheVariants.{Dead, Ready, Ticking, Transient}
use Rattle.fol_model.specs.Geometry.{section_of}
use Rattle.fol_model.specs.GridNumbers.{IsGrid}
use Rattle.fol_model.specs.Universe.{all_chunks}
use Rattle.fol_model.specs.GridState.{GridState, in_margin, is_dead}
use Rattle.fol_model.specs.Release.{cleans, joined_owner, must_wait, parts, release}
use Rattle.fol_model.specs.declared.regions.State.{State}
use Rattle.fol_model.specs.ActionStep.{Recorded, at_id}
use Rattle.fol_model.specs.Outputs.{is_chunk_of}
use Rattle.fol_model.specs.Rules.{Rules}
use Rattle.fol_laws.proofs.CleanedGrid.{margin_from}
use Rattle.fol_laws.proofs.Distances.{self_distance}
use Rattle.fol_laws.proofs.FunctionsChanged.{at_here, at_other}
use Rattle.fol_laws.proofs.ReleaseKeeps.{grid_release, holds_release}
use Rattle.fol_laws.proofs.Tests.{same_answer}
use Rattle.fol_regions.specs.declared.change.MergePair.{MergePair}
use Rattle.fol_regions.specs.Changes.{into, part_ids, release_change, waiting_for}
use Rattle.fol_chunks.specs.Order.{chunk_cmp}
use Rattle.fol_store.specs.Bag.{Bag, no_bag}
use Rattle.fol_store.specs.Relisted.{IsInOrder}
use Rattle.fol_world.specs.Bags.{Alike, AreInOrder, CanJoin, IsBagOf, Joins, joined_bags}
use Rattle.fol_world.specs.Begun.{Gathered}
use Rattle.fol_world.specs.Follows.{Settle}
use Rattle.fol_world.specs.Released.{HasChunksOfAll, IsReturned, is_chunk_among, opened_parts, parted, parted_in, released_bags, returned_bag}
use Rattle.fol_world.proofs.AddBags.{same_filter}
use Rattle.fol_world.proofs.ChunkLists.{kept_sorted}
use Rattle.fol_world.proofs.Given.{parts_are}
use Rattle.fol_world.proofs.JoinedBags.{JoinedInto, among, joined_into}
use Rattle.fol_world.proofs.ReleasedBags as rb
use Rattle.fol_world.proofs.SettledBags.{gathered_self, settle_same}
use Rattle.fol_world.proofs.UnitedBags.{IsPart, UnitedInto, all_owed, are_in_order, can_join_alike, gathered_alike, joins_order, union_list, united_into}
use Rattle.fol_world.proofs.UnsettledBags.{exact_bag}

module _ (g : GridState) (r : ℕ) (rules : Rules g) (ok : IsGrid g.grid) (ticks : g.state r ≡ Ticking) (tick owed : ℕ → ℕ) (recorded : ℕ → Recorded) (f : ℕ → Bag)
    (bags : (q : ℕ) → IsBagOf g tick owed recorded q (f q)) where
  abbrev after : GridState
  after = release g r

  abbrev us : List ℕ
  us = waiting_for g r

  abbrev base : ℕ → Bag
  base = at_id f r (returned_bag (tick r) (owed r) (f r))

  abbrev all : ℕ → Bag
  all = joined_bags (into r us) base

  base_here : base r ≡ returned_bag (tick r) (owed r) (f r)
  base_here = at_here f r (returned_bag (tick r) (owed r) (f r))

  -- which sections are of the region once the others joined it
  was_part : (s : SectionPos) → joined_owner g r s ≡ r → IsPart r us (g.owner s)
  was_part s e = elim (cases_Bool (g.waits (g.owner s) r)) [
    | inl w ↦ inr (rb.among_us g r rules ok ticks (g.owner s) ∙ w)
    | inr w ↦ let x : g.owner s ≡ r = rw w at e in inl x
  ]

  part_joins : (s : SectionPos) → IsPart r us (g.owner s) → joined_owner g r s ≡ r
  part_joins s (inl e) = let w : g.waits (g.owner s) r ≡ false = ap (λ n. g.waits n r) e ∙ rb.not_self g r rules ok ticks in rw w e
  part_joins s (inr m) = let w : g.waits (g.owner s) r ≡ true = sym (rb.among_us g r rules ok ticks (g.owner s)) ∙ m in rw w refl

  merges_are : (release_change g r).merges ≡ into r us
  unfolding release_change
  merges_are = elim (cases_Bool (must_wait g r)) [
    | inl w ↦ rw w refl
    | inr w ↦ elim (cases_Bool (cleans g r)) [
      | inl k ↦ rw (w, k) refl
      | inr k ↦ let none = rb.none_joins g r rules ok ticks tick owed recorded f bags w k in rw (w, k, none) refl
    ]
  ]

  -- a section of a loaded chunk is of the region afterwards just where it is once the others joined, where the region lives on
  abbrev Keeps : Type 0
  Keeps = (c : ChunkPos) → 0 < g.holds c → ((after.owner (section_of g.grid c) ≡ r) ↔ (joined_owner g r (section_of g.grid c) ≡ r))

  keeps : is_dead (after.state r) ≡ false → Keeps
  keeps lives = elim (cases_Bool (must_wait g r)) [
    | inl w ↦ λ c held. let o = rb.held_owner g r rules ok ticks tick owed recorded f bags w (section_of g.grid c) in ((λ e. sym o ∙ e), (λ e. o ∙ e))
    | inr w ↦ elim (cases_Bool (cleans g r)) [
      | inr k ↦ λ c held.
          let o = rb.rested_owner g r rules ok ticks tick owed recorded f bags w k (section_of g.grid c) in
          let x = rb.none_waits g r rules ok ticks tick owed recorded f bags w k (g.owner (section_of g.grid c)) in
          let j : joined_owner g r (section_of g.grid c) ≡ g.owner (section_of g.grid c) = rw x refl in
          ((λ e. j ∙ sym o ∙ e), (λ e. o ∙ sym j ∙ e))
      | inl k ↦ elim (cases_Bool (nat_eq (parts g r) 1)) [ inl one ↦ kept_one w k one | inr several ↦ absurd (true≢false (sym (over w k several) ∙ lives)) ]
    ]
  ]
    where
      kept_one : must_wait g r ≡ false → cleans g r ≡ true → nat_eq (parts g r) 1 ≡ true → Keeps
      kept_one w k one c held =
          let s = section_of g.grid c in
          let o = rb.cleaned_owner g r rules ok ticks tick owed recorded f bags w k s in
          let m : in_margin g s ≡ true = margin_from g r rules ok ticks w c s held (omega (arith, self_distance s)) in
          elim (cases_Bool (nat_eq (joined_owner g r s) r)) [
            | inl x ↦
                let e : after.owner s ≡ r = o ∙ rw (x, m, one) refl in
                ((λ y. eqb-true (joined_owner g r s) r x), (λ y. e))
            | inr x ↦
                let e : after.owner s ≡ g.owner s = o ∙ rw x refl in
                let off : joined_owner g r s ≢ r = eqb-false (joined_owner g r s) r x in
                ((λ y. absurd (off (part_joins s (inl (sym e ∙ y))))), (λ y. absurd (off y)))
          ]

      over : must_wait g r ≡ false → cleans g r ≡ true → nat_eq (parts g r) 1 ≡ false → is_dead (after.state r) ≡ true
      over w k several =
          let z : nat_eq r r ≡ true = eq-eqb r r refl in
          let no_part = rb.old_no_part g r rules ok ticks r (rb.r_below g r rules ok ticks) in
          let x : after.state r ≡ Dead = rb.cleaned_state g r rules ok ticks tick owed recorded f bags w k r ∙ rw (no_part, z, several) refl in
          rw x refl

  -- ---- b: the bag of r as it came back
  module _ (b : Bag) (is : IsReturned g r (tick r) (owed r) b) where
    abbrev back : ℕ → Bag
    back = at_id f r b

    back_here : back r ≡ b
    back_here = at_here f r b

    back_other : (q : ℕ) → q ≢ r → back q ≡ f q
    back_other q d = at_other f r b q d

    back_base : (q : ℕ) → q ≢ r → back q ≡ base q
    back_base q d = back_other q d ∙ sym (at_other f r (returned_bag (tick r) (owed r) (f r)) q d)

    -- the chunks of the regions that unite are those that are loaded in them
    back_is : (q : ℕ) → IsPart r us q → (back q).listed ≡ true → (back q).chunks ≡ filter (is_chunk_of g q) all_chunks
    back_is q (inl e) w =
        let P : ℕ → Type 0 = λ n. (back n).listed ≡ true → (back n).chunks ≡ filter (is_chunk_of g n) all_chunks in
        subst P (sym e) (λ x. ap (λ (b : Bag). b.chunks) back_here ∙ is.listed (sym (ap (λ (b : Bag). b.listed) back_here) ∙ x)) w
    back_is q (inr m) w =
        let waits : g.waits q r ≡ true = sym (rb.among_us g r rules ok ticks q) ∙ m in
        let same : back q ≡ f q = back_other q (rb.waits_other g r rules ok ticks q waits) in
        let state : g.state q ≡ Transient = rules.waiting q r waits in
        ap (λ (b : Bag). b.chunks) same
        ∙ exact_bag g tick owed recorded q (f q) (bags q) (λ d. let z : Transient ≡ Dead = sym state ∙ d in absurd (cc)) (rw state refl) (sym (ap (λ (b : Bag). b.listed) same) ∙ w)

    pub back_order : AreInOrder back
    back_order q = elim (cases_eq q r) [
      | inl e ↦ λ x w.
          let P : ℕ → Type 0 = λ n. (back n).listed ≡ true → IsStrictlySortedBy chunk_cmp (back n).chunks in
          subst P (sym e) (λ y. subst (IsStrictlySortedBy chunk_cmp) (sym (back_is r (inl refl) y)) (kept_sorted (is_chunk_of g r))) w
      | inr d ↦ let P : Bag → Type 0 = λ b. b.here ≡ true → IsInOrder b in subst P (sym (back_other q d)) (are_in_order g tick owed recorded f bags q)
    ]

    -- the same regions can join as where the bag is gathered anew
    pub back_joins : (ms : List MergePair) → CanJoin ms base → CanJoin ms back
    back_joins ms = can_join_alike ms base back (λ q. elim (cases_eq q r) [
      | inl e ↦ let P : ℕ → Type 0 = λ n. (back n).here ≡ (base n).here in
          subst P (sym e) (ap (λ (x : Bag). x.here) back_here ∙ is.here ∙ sym (ap (λ (x : Bag). x.here) base_here))
      | inr d ↦ ap (λ (x : Bag). x.here) (back_base q d)
    ])

    same_owed : (q : ℕ) → (back q).owed ≡ (base q).owed
    same_owed q = elim (cases_eq q r) [
      | inl e ↦ let P : ℕ → Type 0 = λ n. (back n).owed ≡ (base n).owed in
          subst P (sym e) (ap (λ (x : Bag). x.owed) back_here ∙ is.owes ∙ sym (ap (λ (x : Bag). x.owed) base_here))
      | inr d ↦ ap (λ (x : Bag). x.owed) (back_base q d)
    ]

    -- ---- h: the bags once the others joined
    module _ (h : ℕ → Bag) (joins : Joins (into r us) back h) where
      u : UnitedInto r us back h
      u = united_into r us back h (ap (λ (x : Bag). x.taken) back_here ∙ is.taken) (ap (λ (x : Bag). x.since) back_here ∙ is.since) (rb.r_not_among g r rules ok ticks) (rb.us_apart g r rules ok ticks) joins

      j : JoinedInto r us base all
      j = joined_into r us base (rb.r_not_among g r rules ok ticks) (rb.us_apart g r rules ok ticks)

      r_here : (h r).here ≡ true
      r_here = u.here ∙ ap (λ (x : Bag). x.here) back_here ∙ is.here

      same_off : (q : ℕ) → q ≢ r → all q ≡ h q
      same_off q d = elim (cases_Bool (among q us)) [ inl m ↦ j.gone q d m ∙ sym (u.gone q d m) | inr m ↦ j.others q d m ∙ sym (back_base q d) ∙ sym (u.others q d m) ]

      all_home : (all r).taken ≡ false
      all_home = j.taken ∙ ap (λ (x : Bag). x.taken) base_here

      alike_r : Alike (all r) (h r)
      alike_r = record {
        here = r_here ∙ sym (j.here ∙ ap (λ (x : Bag). x.here) base_here);
        taken = u.taken ∙ ap (λ (x : Bag). x.taken) back_here ∙ is.taken ∙ sym all_home;
        counter = u.counter ∙ ap (λ (x : Bag). x.tick) back_here ∙ is.counter ∙ sym (j.counter ∙ ap (λ (x : Bag). x.tick) base_here);
        owes = u.owes ∙ all_owed (into r us) base back same_owed r;
        since = λ x. u.since (ap (λ (x : Bag). x.taken) back_here ∙ is.taken) ∙ ap (λ (x : Bag). x.since) back_here ∙ is.since ∙ sym (j.since ∙ ap (λ (x : Bag). x.since) base_here);
        out = λ x. absurd (true≢false (sym x ∙ all_home));
      }

      chunk_is : (q : ℕ) (c : ChunkPos) → is_chunk_of after q c ≡ (nat_lt 0 (g.holds c) && nat_eq (after.owner (section_of g.grid c)) q)
      chunk_is q c = rw (grid_release g r, holds_release g r) refl

      -- the loaded chunks of all that united
      abbrev was_chunk : ChunkPos → Bool
      was_chunk c = nat_lt 0 (g.holds c) && nat_eq (joined_owner g r (section_of g.grid c)) r

      united_list : (h r).listed ≡ true → (h r).chunks ≡ filter was_chunk all_chunks
      united_list w = union_list g r us back h u back_is w (joins_order (into r us) back h back_order joins r r_here) was_chunk
          (λ c e.
          let p = and_parts (nat_lt 0 (g.holds c)) (nat_eq (joined_owner g r (section_of g.grid c)) r) e in
          let x = eqb-true (joined_owner g r (section_of g.grid c)) r p.1 in
          (g.owner (section_of g.grid c), was_part (section_of g.grid c) x, and_from (nat_lt 0 (g.holds c)) (nat_eq (g.owner (section_of g.grid c)) (g.owner (section_of g.grid c))) p.0 (eq-eqb _ _ refl)))
          (λ c q p e.
          let b = and_parts (nat_lt 0 (g.holds c)) (nat_eq (g.owner (section_of g.grid c)) q) e in
          let o : g.owner (section_of g.grid c) ≡ q = eqb-true (g.owner (section_of g.grid c)) q b.1 in
          let x = part_joins (section_of g.grid c) (subst (IsPart r us) (sym o) p) in
          and_from (nat_lt 0 (g.holds c)) (nat_eq (joined_owner g r (section_of g.grid c)) r) b.0 (eq-eqb (joined_owner g r (section_of g.grid c)) r x))

      whole : Keeps → (h r).listed ≡ true → (h r).chunks ≡ filter (is_chunk_of after r) all_chunks
      whole keep w = united_list w ∙ same_filter was_chunk (is_chunk_of after r) all_chunks (λ c. same_answer (was_chunk c) (is_chunk_of after r c)
          (λ e.
          let p = and_parts (nat_lt 0 (g.holds c)) (nat_eq (joined_owner g r (section_of g.grid c)) r) e in
          let x = (keep c (ltb-true 0 (g.holds c) p.0)).1 (eqb-true (joined_owner g r (section_of g.grid c)) r p.1) in
          chunk_is r c ∙ and_from (nat_lt 0 (g.holds c)) (nat_eq (after.owner (section_of g.grid c)) r) p.0 (eq-eqb (after.owner (section_of g.grid c)) r x))
          (λ e.
          let p = and_parts (nat_lt 0 (g.holds c)) (nat_eq (after.owner (section_of g.grid c)) r) (sym (chunk_is r c) ∙ e) in
          let x = (keep c (ltb-true 0 (g.holds c) p.0)).0 (eqb-true (after.owner (section_of g.grid c)) r p.1) in
          and_from (nat_lt 0 (g.holds c)) (nat_eq (joined_owner g r (section_of g.grid c)) r) p.0 (eq-eqb (joined_owner g r (section_of g.grid c)) r x)))

      among_is : (ids : List ℕ) (c : ChunkPos) → is_chunk_among after ids c ≡ (nat_lt 0 (g.holds c) && among (after.owner (section_of g.grid c)) ids)
      among_is ids c = rw (grid_release g r, holds_release g r) refl

      -- where the region is over, these are the loaded chunks of its parts
      parts_list : must_wait g r ≡ false → cleans g r ≡ true → nat_eq (parts g r) 1 ≡ false → (h r).listed ≡ true → (h r).chunks ≡ filter (is_chunk_among after (part_ids g r)) all_chunks
      parts_list free cleaning several w = united_list w ∙ same_filter was_chunk (is_chunk_among after (part_ids g r)) all_chunks (λ c. same_answer (was_chunk c) (is_chunk_among after (part_ids g r) c)
          (λ e.
          let p = and_parts (nat_lt 0 (g.holds c)) (nat_eq (joined_owner g r (section_of g.grid c)) r) e in
          let x = rb.loaded_part g r rules ok ticks tick owed recorded f bags free cleaning several c (ltb-true 0 (g.holds c) p.0) (eqb-true (joined_owner g r (section_of g.grid c)) r p.1) in
          among_is (part_ids g r) c ∙ and_from (nat_lt 0 (g.holds c)) (among (after.owner (section_of g.grid c)) (part_ids g r)) p.0
          (rb.among_ids g r rules ok ticks tick owed recorded f bags free cleaning several (after.owner (section_of g.grid c)) ∙ x))
          (λ e.
          let p = and_parts (nat_lt 0 (g.holds c)) (among (after.owner (section_of g.grid c)) (part_ids g r)) (sym (among_is (part_ids g r) c) ∙ e) in
          let k = sym (rb.among_ids g r rules ok ticks tick owed recorded f bags free cleaning several (after.owner (section_of g.grid c))) ∙ p.1 in
          let x = rb.part_joined g r rules ok ticks tick owed recorded f bags free cleaning (after.owner (section_of g.grid c)) k (section_of g.grid c) refl in
          and_from (nat_lt 0 (g.holds c)) (nat_eq (joined_owner g r (section_of g.grid c)) r) p.0 (eq-eqb (joined_owner g r (section_of g.grid c)) r x)))

      -- where it is over, it is cleaned, and has not one part
      all_listed : is_dead (after.state r) ≡ true → (h r).listed ≡ true → (h r).chunks ≡ filter (is_chunk_among after (release_change g r).parts) all_chunks
      all_listed dead w = elim (cases_Bool (must_wait g r)) [
        | inl k ↦ let t : after.state r ≡ Transient = rb.held_state g r rules ok ticks tick owed recorded f bags k r ∙ rw itself refl in absurd (lives Transient t refl)
        | inr k ↦ elim (cases_Bool (cleans g r)) [
          | inr l ↦ let t : after.state r ≡ Ready = rb.rested_state g r rules ok ticks tick owed recorded f bags k l r ∙ rw itself refl in absurd (lives Ready t refl)
          | inl l ↦ elim (cases_Bool (nat_eq (parts g r) 1)) [
            | inl one ↦
                let no_part = rb.old_no_part g r rules ok ticks r (rb.r_below g r rules ok ticks) in
                let t : after.state r ≡ Ready = rb.cleaned_state g r rules ok ticks tick owed recorded f bags k l r ∙ rw (no_part, itself, one) refl in
                absurd (lives Ready t refl)
            | inr several ↦ subst (λ (ids : List ℕ). (h r).chunks ≡ filter (is_chunk_among after ids) all_chunks) (sym (parts_are g r k l)) (parts_list k l several w)
          ]
        ]
      ]
        where
          itself : nat_eq r r ≡ true
          itself = eq-eqb r r refl

          lives : (s : State) → after.state r ≡ s → is_dead s ≡ false → ⊥
          lives s e alive = true≢false (sym dead ∙ ap is_dead e ∙ alive)

      has_all : is_dead (after.state r) ≡ true → HasChunksOfAll after (release_change g r).parts (h r)
      has_all dead = record {
        home = alike_r.taken ∙ all_home;
        since = alike_r.since all_home ∙ j.since ∙ ap (λ (x : Bag). x.since) base_here;
        listed = all_listed dead;
      }

      settle_live : is_dead (after.state r) ≡ false → Settle after all h
      settle_live lives q = elim (cases_eq q r) [
        | inl e ↦ let P : ℕ → Type 0 = λ n. Gathered after n (all n) (h n) in subst P (sym e) (gathered_alike after r (all r) (h r) alike_r (whole (keeps lives)))
        | inr d ↦ subst (Gathered after q (all q)) (same_off q d) (gathered_self after q (all q))
      ]

      parted_same : (ids : List ℕ) → parted ids r h ≡ parted ids r all
      parted_same ids =
          let bare : at_id h r no_bag ≡ at_id all r no_bag = fun_ext (λ q. elim (cases_Bool (nat_eq r q)) [
            | inl e ↦ rw e refl
            | inr e ↦ rw e (sym (same_off q (λ x. true≢false (sym (eq-eqb r q (sym x)) ∙ e))))
          ]) in
          ap (λ n. opened_parts n (h r).owed ids (at_id h r no_bag)) alike_r.counter
          ∙ ap (λ n. opened_parts (all r).tick n ids (at_id h r no_bag)) alike_r.owes
          ∙ ap (opened_parts (all r).tick (all r).owed ids) bare

      settled : Settle after (parted_in after (release_change g r) r all) (parted_in after (release_change g r) r h)
      settled = elim (cases_Bool (is_dead (after.state r))) [
        | inl d ↦ rw d (settle_same after (parted (release_change g r).parts r all) (parted (release_change g r).parts r h) (parted_same (release_change g r).parts))
        | inr d ↦ rw d (settle_live d)
      ]

    pub returned_settle : (h : ℕ → Bag) → Joins (release_change g r).merges back h
        → ((h r).here ≡ true) × Settle after (released_bags after (release_change g r) r (tick r) (owed r) f) (parted_in after (release_change g r) r h)
    returned_settle h joins =
        let P : List MergePair → Type 0 = λ ms. Joins ms back h → ((h r).here ≡ true) × Settle after (parted_in after (release_change g r) r (joined_bags ms base)) (parted_in after (release_change g r) r h) in
        subst P (sym merges_are) (λ k. (r_here h k, settled h k)) joins

    pub returned_lists : (h : ℕ → Bag) → Joins (release_change g r).merges back h → is_dead (after.state r) ≡ true → HasChunksOfAll after (release_change g r).parts (h r)
    returned_lists h joins dead =
        let P : List MergePair → Type 0 = λ ms. Joins ms back h → HasChunksOfAll after (release_change g r).parts (h r) in
        subst P (sym merges_are) (λ k. has_all h k dead) joins
