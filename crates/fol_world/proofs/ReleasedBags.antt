-- The bags after a release.
use Rattle.std.proofs.Common.{◌≡◌, ◌≢◌, ℕ, ◌+◌, ◌≤◌, ◌<◌, le_antisymm, refl, sym, ◌∙◌, ap, subst, arith, true, false, inl, inr, List, [], ◌&&◌, not, filter}
use Rattle.std.specs.Prelude.{nat_eq, nat_lt, nat_le, if◌then◌else◌, ◌↔◌}
use Rattle.std.proofs.lemmas.Bool.{cases_Bool, cases_eq, eqb-true, eq-eqb, ne_eqb, leb-true, ltb-true, le-leb, lt-ltb, and_parts, and_from, and_right, or_cases, or_left, or_right, true≢false, false_from_ne_true}
use Rattle.std.proofs.lemmas.List.Kept.{IsStrictlySortedBy-filter}
use Rattle.std.specs.Ordering.{nat_cmp}
use Rattle.fol_model.specs.declared.places.ChunkPos.{ChunkPos}
use Rattle.fol_model.specs.declared.places.SectionPos.{SectionPos}
use Rattle.fol_model.specs.declared.regions.State.{State}
use Rattle.fol_model.specs.declared.regions.State.TheVariants.{Transient, Ready, Ticking, Dead}
use Rattle.fol_model.specs.Geometry.{section_of}
use Rattle.fol_model.specs.GridNumbers.{IsGrid}
use Rattle.fol_model.specs.Universe.{all_chunks, numbers_below}
use Rattle.fol_model.specs.Counting.{greatest_below, some_below}
use Rattle.fol_model.specs.Counters.{joins, owed_after_release, tick_after_release}
use Rattle.fol_model.specs.GridState.{GridState, in_margin, is_dead, is_ticking}
use Rattle.fol_model.specs.Release.{release, must_wait, cleans, is_new_part, is_part_id, joined_owner, part_id, part_of, parts}
use Rattle.fol_model.specs.ActionStep.{Recorded, at_id}
use Rattle.fol_model.specs.Outputs.{is_chunk_of}
use Rattle.fol_model.specs.Rules.{Rules}
use Rattle.fol_laws.proofs.AddTarget.{is_ticking-true}
use Rattle.fol_laws.proofs.CleanedGrid.{margin_from, part_cases}
use Rattle.fol_laws.proofs.Distances.{self_distance}
use Rattle.fol_laws.proofs.FunctionsChanged.{at_here, at_other}
use Rattle.fol_laws.proofs.GreatestBelow.{greatest-at_least, greatest-at_most}
use Rattle.fol_laws.proofs.NumbersBelow.{some_below-is}
use Rattle.fol_laws.proofs.NumberOrder.{in_numbers, numbers_sorted}
use Rattle.fol_laws.proofs.ReleaseKeeps.{grid_release, holds_release}
use Rattle.fol_laws.proofs.Tests.{same_answer}
use Rattle.fol_regions.specs.Changes.{into, waiting_for, part_ids}
use Rattle.fol_store.specs.Bag.{Bag, no_bag}
use Rattle.fol_world.specs.Hands.{rests}
use Rattle.fol_world.specs.Bags.{AreBut, CanJoin, IsBagOf, joined_bags}
use Rattle.fol_world.specs.Released.{part_bag, parted, returned_bag}
use Rattle.fol_world.proofs.AddBags.{filter_none, same_filter}
use Rattle.fol_world.proofs.JoinedBags.{Apart, JoinedInto, among, can_join, in_filter, joined_into, sorted_apart}
use Rattle.fol_world.proofs.OpenedBags.{opened_off, opened_new}

pub dead_is : (s : State) → is_dead s ≡ true → s ≡ Dead
dead_is Dead h = refl
dead_is Transient h = absurd (true≢false (sym h))
dead_is Ready h = absurd (true≢false (sym h))
dead_is Ticking h = absurd (true≢false (sym h))

-- ---- the bag of a region that the release leaves alone, and of one that is over
module _ (g h : GridState) (tick owed later left : ℕ → ℕ) (recorded : ℕ → Recorded) (q : ℕ) where
  pub bag_stays : (b : Bag) → h.state q ≡ g.state q → later q ≡ tick q → left q ≡ owed q
      → (g.state q ≢ Dead → filter (is_chunk_of h q) all_chunks ≡ filter (is_chunk_of g q) all_chunks)
      → IsBagOf g tick owed recorded q b → IsBagOf h later left recorded q b
  bag_stays b s t o chunks is = record {
    here = is.here ∙ rw s refl;
    taken = is.taken ∙ rw s refl;
    counter = λ k. let k : rests g q ≡ true = rw (sym s) k in is.counter k ∙ sym t;
    owes = λ k. let k : rests g q ≡ true = rw (sym s) k in is.owes k ∙ sym o;
    listed = λ d w. let d : g.state q ≢ Dead = λ e. d (s ∙ e) in subst (AreBut b.since b.chunks) (sym (chunks d)) (is.listed d w);
    since = λ k. let k : rests g q ≡ true = rw (sym s) k in is.since k;
    out = λ k. is.out (sym s ∙ k);
  }

  pub bag_gone : (b : Bag) → b ≡ no_bag → h.state q ≡ Dead → IsBagOf h later left recorded q b
  bag_gone b e s = record {
    here = ap (λ (x : Bag). x.here) e ∙ rw s refl;
    taken = ap (λ (x : Bag). x.taken) e ∙ rw s refl;
    counter = λ k. let x : false ≡ true = rw s at k in absurd (true≢false (sym x));
    owes = λ k. let x : false ≡ true = rw s at k in absurd (true≢false (sym x));
    listed = λ d. absurd (d s);
    since = λ k. ap (λ (x : Bag). x.since) e;
    out = λ k. let x : Dead ≡ Ticking = sym s ∙ k in absurd (cc);
  }

  -- of a region that is at rest, with numbers that are known, that has to be gathered anew
  pub bag_rests : (b : Bag) → rests h q ≡ true → h.state q ≢ Ticking → b.here ≡ true → b.taken ≡ false → b.tick ≡ later q → b.owed ≡ left q
      → (b.listed ≡ false) → b.since ≡ [] → IsBagOf h later left recorded q b
  bag_rests b r n here taken t o listed since = record {
    here = here ∙ sym r;
    taken = taken ∙ sym (false_from_ne_true (is_ticking (h.state q)) (λ e. n (is_ticking-true (h.state q) e)));
    counter = λ k. t;
    owes = λ k. o;
    listed = λ d w. absurd (true≢false (sym w ∙ listed));
    since = λ k. since;
    out = λ k. absurd (n k);
  }

module _ (g : GridState) (r : ℕ) (rules : Rules g) (ok : IsGrid g.grid) (ticks : g.state r ≡ Ticking) where
  abbrev after : GridState
  after = release g r

  abbrev us : List ℕ
  us = waiting_for g r

  -- ---- who waits for r
  waits_below : (q : ℕ) → g.waits q r ≡ true → q < g.next
  waits_below q w = rules.below_next q (λ d. let x = rules.waiting q r w in absurd (cc))

  pub among_us : (q : ℕ) → among q us ≡ g.waits q r
  among_us q = in_filter (λ u. g.waits u r) (numbers_below g.next) q ∙ same_answer (g.waits q r && among q (numbers_below g.next)) (g.waits q r)
      (λ h. (and_parts (g.waits q r) (among q (numbers_below g.next)) h).0)
      (λ h. and_from (g.waits q r) (among q (numbers_below g.next)) h (in_numbers g.next q (waits_below q h)))

  pub not_self : g.waits r r ≡ false
  not_self = false_from_ne_true (g.waits r r) (λ h. let x = rules.waiting r r h in absurd (cc))

  pub r_not_among : among r us ≡ false
  r_not_among = among_us r ∙ not_self

  pub us_apart : Apart us
  us_apart = sorted_apart us (IsStrictlySortedBy-filter nat_cmp (λ u. g.waits u r) (numbers_below g.next) (numbers_sorted g.next))

  pub waits_other : (q : ℕ) → g.waits q r ≡ true → q ≢ r
  waits_other q w e = let x : g.waits r r ≡ true = rw e at w in true≢false (sym x ∙ not_self)

  pub r_below : r < g.next
  r_below = rules.below_next r (λ d. absurd (cc))

  -- ---- the ids of parts
  part_above : (q : ℕ) → is_part_id g r q ≡ true → g.next ≤ q
  part_above q h =
      let a = and_parts (nat_le 2 (parts g r)) (nat_le g.next q && nat_lt q (g.next + parts g r)) h in
      leb-true _ _ (and_parts (nat_le g.next q) (nat_lt q (g.next + parts g r)) a.1).0

  pub old_no_part : (q : ℕ) → q < g.next → is_part_id g r q ≡ false
  old_no_part q l = false_from_ne_true (is_part_id g r q) (λ h. let a = part_above q h in absurd (omega arith))

  old_no_new : (q : ℕ) → q < g.next → is_new_part g r q ≡ false
  old_no_new q l = and_right (not (must_wait g r) && cleans g r) (is_part_id g r q) (old_no_part q l)

  -- ---- the bags as they are joined
  module _ (tick owed : ℕ → ℕ) (recorded : ℕ → Recorded) (f : ℕ → Bag) (bags : (q : ℕ) → IsBagOf g tick owed recorded q (f q)) where
    abbrev back : ℕ → Bag
    back = at_id f r (returned_bag (tick r) (owed r) (f r))

    abbrev later : ℕ → ℕ
    later = tick_after_release g r tick

    abbrev left : ℕ → ℕ
    left = owed_after_release g r owed

    abbrev all : ℕ → Bag
    all = joined_bags (into r us) back

    back_here : back r ≡ returned_bag (tick r) (owed r) (f r)
    back_here = at_here f r (returned_bag (tick r) (owed r) (f r))

    back_other : (q : ℕ) → q ≢ r → back q ≡ f q
    back_other q d = at_other f r (returned_bag (tick r) (owed r) (f r)) q d

    joined : JoinedInto r us back all
    joined = joined_into r us back r_not_among us_apart

    pub waiting_rests : (u : ℕ) → g.waits u r ≡ true → rests g u ≡ true
    waiting_rests u w = rw (rules.waiting u r w) refl

    pub all_can_join : CanJoin (into r us) back
    all_can_join = can_join r us back r_not_among us_apart (ap (λ (b : Bag). b.here) back_here) (λ u m.
        let w : g.waits u r ≡ true = sym (among_us u) ∙ m in
        ap (λ (b : Bag). b.here) (back_other u (waits_other u w)) ∙ (bags u).here ∙ waiting_rests u w)

    -- what r owes then
    all_owes : (all r).owed ≡ greatest_below (joins g r) owed g.next
    all_owes =
        let own : (back r).owed ≡ owed r = ap (λ (b : Bag). b.owed) back_here in
        let theirs : (u : ℕ) → g.waits u r ≡ true → (back u).owed ≡ owed u = λ u w. ap (λ (b : Bag). b.owed) (back_other u (waits_other u w)) ∙ (bags u).owes (waiting_rests u w) in
        let self : joins g r r ≡ true = let z : nat_eq r r ≡ true = eq-eqb r r refl in rw z refl in
        let low : (all r).owed ≤ greatest_below (joins g r) owed g.next = elim joined.some [
          | inl e ↦ let x = greatest-at_least (joins g r) owed g.next r r_below self in omega arith
          | inr x ↦
              let w : g.waits x.0 r ≡ true = sym (among_us x.0) ∙ x.1 in
              let y = greatest-at_least (joins g r) owed g.next x.0 (waits_below x.0 w) (or_right (nat_eq x.0 r) (g.waits x.0 r) w) in
              let z = theirs x.0 w in let k = x.2 in omega arith
        ] in
        let high : greatest_below (joins g r) owed g.next ≤ (all r).owed = greatest-at_most (joins g r) owed g.next _ (λ k s h. elim (or_cases (nat_eq k r) (g.waits k r) h) [
          | inl e ↦ let same : owed k ≡ owed r = ap owed (eqb-true k r e) in let x = joined.own in omega arith
          | inr w ↦ let x = joined.theirs k (among_us k ∙ w) in let z = theirs k w in omega arith
        ]) in
        le_antisymm low high

    left_r : left r ≡ greatest_below (joins g r) owed g.next
    unfolding owed_after_release
    left_r = let z : nat_eq r r ≡ true = eq-eqb r r refl in rw z refl

    left_part : (q : ℕ) → is_new_part g r q ≡ true → left q ≡ greatest_below (joins g r) owed g.next
    unfolding owed_after_release
    left_part q p = elim (cases_Bool (nat_eq q r)) [ inl e ↦ rw e refl | inr e ↦ rw (e, p) refl ]

    left_other : (q : ℕ) → q ≢ r → is_new_part g r q ≡ false → left q ≡ owed q
    unfolding owed_after_release
    left_other q d p = let n : nat_eq q r ≡ false = ne_eqb q r d in rw (n, p) refl

    later_part : (q : ℕ) → is_new_part g r q ≡ true → later q ≡ tick r
    unfolding tick_after_release
    later_part q p = rw p refl

    later_other : (q : ℕ) → is_new_part g r q ≡ false → later q ≡ tick q
    unfolding tick_after_release
    later_other q p = rw p refl

    all_tick : (all r).tick ≡ tick r
    all_tick = joined.counter ∙ ap (λ (b : Bag). b.tick) back_here

    pub all_here : (all r).here ≡ true
    all_here = joined.here ∙ ap (λ (b : Bag). b.here) back_here

    all_taken : (all r).taken ≡ false
    all_taken = joined.taken ∙ ap (λ (b : Bag). b.taken) back_here

    all_unlisted : (all r).listed ≡ false
    all_unlisted = false_from_ne_true (all r).listed (λ h. true≢false (sym (joined.listed h).1 ∙ ap (λ (b : Bag). b.listed) back_here))

    all_since : (all r).since ≡ []
    all_since = joined.since ∙ ap (λ (b : Bag). b.since) back_here

    all_gone : (q : ℕ) → g.waits q r ≡ true → all q ≡ no_bag
    all_gone q w = joined.gone q (waits_other q w) (among_us q ∙ w)

    pub all_off : (q : ℕ) → q ≢ r → g.waits q r ≡ false → all q ≡ f q
    all_off q d w = joined.others q d (among_us q ∙ w) ∙ back_other q d

    chunk_same : (q : ℕ) → ((s : SectionPos) → (after.owner s ≡ q) ↔ (g.owner s ≡ q)) → (c : ChunkPos) → is_chunk_of after q c ≡ is_chunk_of g q c
    chunk_same q same c =
        let o : nat_eq (after.owner (section_of g.grid c)) q ≡ nat_eq (g.owner (section_of g.grid c)) q
        = same_answer _ _ (λ e. eq-eqb _ _ ((same (section_of g.grid c)).0 (eqb-true _ _ e))) (λ e. eq-eqb _ _ ((same (section_of g.grid c)).1 (eqb-true _ _ e))) in
        rw (grid_release g r, holds_release g r, o) refl

    same_chunks : (q : ℕ) → ((s : SectionPos) → (after.owner s ≡ q) ↔ (g.owner s ≡ q)) → filter (is_chunk_of after q) all_chunks ≡ filter (is_chunk_of g q) all_chunks
    same_chunks q same = same_filter (is_chunk_of after q) (is_chunk_of g q) all_chunks (chunk_same q same)

    joined_other : (s : SectionPos) (q : ℕ) → g.waits q r ≡ false → g.owner s ≡ q → joined_owner g r s ≡ q
    joined_other s q w e = let x : g.waits (g.owner s) r ≡ false = rw e w in rw x e

    -- ---- r waits itself now
    module _ (waits : must_wait g r ≡ true) where
      pub held_state : (q : ℕ) → after.state q ≡ (if nat_eq q r then Transient else (if g.waits q r then Dead else g.state q))
      unfolding release
      held_state q = rw waits refl

      pub held_owner : (s : SectionPos) → after.owner s ≡ joined_owner g r s
      unfolding release
      held_owner s = rw waits refl

      held_no_part : (q : ℕ) → is_new_part g r q ≡ false
      held_no_part q = rw waits refl

      held_owned : (q : ℕ) → q ≢ r → g.waits q r ≡ false → (s : SectionPos) → (after.owner s ≡ q) ↔ (g.owner s ≡ q)
      held_owned q d w s = (
        (λ e. elim (cases_Bool (g.waits (g.owner s) r)) [
          | inl k ↦ let x : after.owner s ≡ r = held_owner s ∙ rw k refl in absurd (d (sym e ∙ x))
          | inr k ↦ let x : after.owner s ≡ g.owner s = held_owner s ∙ rw k refl in sym x ∙ e
        ]),
        (λ e. held_owner s ∙ joined_other s q w e),
      )

      pub bags_held : (q : ℕ) → IsBagOf after later left recorded q (all q)
      bags_held q = elim (cases_eq q r) [
        | inl e ↦
            let z : nat_eq r r ≡ true = eq-eqb r r refl in
            let t : after.state r ≡ Transient = held_state r ∙ rw z refl in
            let ready : rests after r ≡ true = rw t refl in
            rw e (bag_rests g after tick owed later left recorded r (all r) ready (λ k. let x : Transient ≡ Ticking = sym t ∙ k in absurd (cc)) all_here all_taken
            (all_tick ∙ sym (later_other r (held_no_part r))) (all_owes ∙ sym left_r) all_unlisted all_since)
        | inr d ↦
            let n : nat_eq q r ≡ false = ne_eqb q r d in
            elim (cases_Bool (g.waits q r)) [
              | inl w ↦ bag_gone g after tick owed later left recorded q (all q) (all_gone q w) (held_state q ∙ rw (n, w) refl)
              | inr w ↦ rw (all_off q d w) (bag_stays g after tick owed later left recorded q (f q) (held_state q ∙ rw (n, w) refl)
                  (later_other q (held_no_part q)) (left_other q d (held_no_part q)) (λ live. same_chunks q (held_owned q d w)) (bags q))
            ]
      ]

    -- ---- r rests
    module _ (free : must_wait g r ≡ false) (stays : cleans g r ≡ false) where
      pub rested_state : (q : ℕ) → after.state q ≡ (if nat_eq q r then Ready else g.state q)
      unfolding release
      rested_state q = rw (free, stays) refl

      pub rested_owner : (s : SectionPos) → after.owner s ≡ g.owner s
      unfolding release
      rested_owner s = rw (free, stays) refl

      rested_no_part : (q : ℕ) → is_new_part g r q ≡ false
      rested_no_part q = rw (free, stays) refl

      pub none_waits : (q : ℕ) → g.waits q r ≡ false
      unfolding cleans
      none_waits q = false_from_ne_true (g.waits q r) (λ w.
          let x = some_below-is (λ u. g.waits u r) g.next q (waits_below q w) w in
          let y : cleans g r ≡ true = or_left (some_below (λ u. g.waits u r) g.next) _ x in
          true≢false (sym y ∙ stays))

      pub none_joins : us ≡ []
      none_joins = filter_none (λ u. g.waits u r) (numbers_below g.next) none_waits

      pub bags_rested : (q : ℕ) → IsBagOf after later left recorded q (all q)
      bags_rested q = elim (cases_eq q r) [
        | inl e ↦
            let z : nat_eq r r ≡ true = eq-eqb r r refl in
            let t : after.state r ≡ Ready = rested_state r ∙ rw z refl in
            let ready : rests after r ≡ true = rw t refl in
            rw e (bag_rests g after tick owed later left recorded r (all r) ready (λ k. let x : Ready ≡ Ticking = sym t ∙ k in absurd (cc)) all_here all_taken
            (all_tick ∙ sym (later_other r (rested_no_part r))) (all_owes ∙ sym left_r) all_unlisted all_since)
        | inr d ↦
            let n : nat_eq q r ≡ false = ne_eqb q r d in
            rw (all_off q d (none_waits q)) (bag_stays g after tick owed later left recorded q (f q) (rested_state q ∙ rw n refl)
            (later_other q (rested_no_part q)) (left_other q d (rested_no_part q)) (λ live. same_chunks q (λ s. ((λ e. sym (rested_owner s) ∙ e), (λ e. rested_owner s ∙ e)))) (bags q))
      ]

    -- ---- r is cleaned
    module _ (free : must_wait g r ≡ false) (cleaning : cleans g r ≡ true) where
      pub cleaned_state : (q : ℕ) → after.state q ≡ (if is_part_id g r q then Ready else (if nat_eq q r then (if nat_eq (parts g r) 1 then Ready else Dead) else (if g.waits q r then Dead else g.state q)))
      unfolding release
      cleaned_state q = rw (free, cleaning) refl

      pub cleaned_owner : (s : SectionPos) → after.owner s ≡ (if nat_eq (joined_owner g r s) r then (if in_margin g s then part_id g r s else 0) else g.owner s)
      unfolding release
      cleaned_owner s = rw (free, cleaning) refl

      -- a section of a part is one of the region, once the others joined
      pub part_joined : (q : ℕ) → is_part_id g r q ≡ true → (s : SectionPos) → after.owner s ≡ q → joined_owner g r s ≡ r
      part_joined q p s e = elim (cases_Bool (nat_eq (joined_owner g r s) r)) [
        | inl k ↦ eqb-true (joined_owner g r s) r k
        | inr k ↦
            let x : after.owner s ≡ g.owner s = cleaned_owner s ∙ rw k refl in
            let o : g.owner s ≡ q = sym x ∙ e in
            let a = part_above q p in
            let n = rules.next_id in
            let b = rules.below_next (g.owner s) (rules.owner_lives s (omega arith)) in
            absurd (omega arith)
      ]

      new_part : (q : ℕ) → is_new_part g r q ≡ is_part_id g r q
      new_part q = rw (free, cleaning) refl

      cleaned_owned : (q : ℕ) → q ≢ r → g.waits q r ≡ false → g.state q ≢ Dead → (s : SectionPos) → (after.owner s ≡ q) ↔ (g.owner s ≡ q)
      cleaned_owned q d w live s = (
        (λ e. elim (cases_Bool (nat_eq (joined_owner g r s) r)) [
          | inl k ↦ elim (cases_Bool (in_margin g s)) [
            | inl m ↦ elim (cases_Bool (nat_eq (parts g r) 1)) [
              | inl one ↦ let x : after.owner s ≡ r = cleaned_owner s ∙ rw (k, m, one) refl in absurd (d (sym e ∙ x))
              | inr one ↦ let x : after.owner s ≡ g.next + part_of g r s = cleaned_owner s ∙ rw (k, m, one) refl in let l = rules.below_next q live in absurd (omega arith)
            ]
            | inr m ↦ let x : after.owner s ≡ 0 = cleaned_owner s ∙ rw (k, m) refl in let p = rules.given q live in absurd (omega arith)
          ]
          | inr k ↦ let x : after.owner s ≡ g.owner s = cleaned_owner s ∙ rw k refl in sym x ∙ e
        ]),
        (λ e. let j = joined_other s q w e in let k : nat_eq (joined_owner g r s) r ≡ false = ne_eqb _ _ (λ x. d (sym j ∙ x)) in cleaned_owner s ∙ rw k e),
      )

      -- a region that is neither r nor joins it, and is no part
      other_stays : (q : ℕ) → q ≢ r → g.waits q r ≡ false → is_part_id g r q ≡ false → IsBagOf after later left recorded q (f q)
      other_stays q d w p =
          let n : nat_eq q r ≡ false = ne_eqb q r d in
          bag_stays g after tick owed later left recorded q (f q) (cleaned_state q ∙ rw (p, n, w) refl)
          (later_other q (new_part q ∙ p)) (left_other q d (new_part q ∙ p)) (λ live. same_chunks q (cleaned_owned q d w live)) (bags q)

      -- one part keeps the id
      module _ (one : nat_eq (parts g r) 1 ≡ true) where
        pub no_part_id : (q : ℕ) → is_part_id g r q ≡ false
        no_part_id q = let e : parts g r ≡ 1 = eqb-true _ _ one in rw e refl

        pub bags_one : (q : ℕ) → IsBagOf after later left recorded q (all q)
        bags_one q = elim (cases_eq q r) [
          | inl e ↦
              let z : nat_eq r r ≡ true = eq-eqb r r refl in
              let t : after.state r ≡ Ready = cleaned_state r ∙ rw (no_part_id r, z, one) refl in
              let ready : rests after r ≡ true = rw t refl in
              rw e (bag_rests g after tick owed later left recorded r (all r) ready (λ k. let x : Ready ≡ Ticking = sym t ∙ k in absurd (cc)) all_here all_taken
              (all_tick ∙ sym (later_other r (new_part r ∙ no_part_id r))) (all_owes ∙ sym left_r) all_unlisted all_since)
          | inr d ↦
              let n : nat_eq q r ≡ false = ne_eqb q r d in
              elim (cases_Bool (g.waits q r)) [
                | inl w ↦ bag_gone g after tick owed later left recorded q (all q) (all_gone q w) (cleaned_state q ∙ rw (no_part_id q, n, w) refl)
                | inr w ↦ rw (all_off q d w) (other_stays q d w (no_part_id q))
              ]
        ]

      -- r is over
      module _ (several : nat_eq (parts g r) 1 ≡ false) where
        abbrev ids : List ℕ
        ids = part_ids g r

        abbrev bare : ℕ → Bag
        bare = at_id all r no_bag

        pub among_ids : (q : ℕ) → among q ids ≡ is_part_id g r q
        among_ids q = in_filter (is_part_id g r) (numbers_below (g.next + parts g r)) q ∙ same_answer (is_part_id g r q && among q (numbers_below (g.next + parts g r))) (is_part_id g r q)
            (λ h. (and_parts (is_part_id g r q) (among q (numbers_below (g.next + parts g r))) h).0)
            (λ h. and_from (is_part_id g r q) (among q (numbers_below (g.next + parts g r))) h (in_numbers (g.next + parts g r) q
            (ltb-true _ _ (and_parts (nat_le g.next q) (nat_lt q (g.next + parts g r)) (and_parts (nat_le 2 (parts g r)) (nat_le g.next q && nat_lt q (g.next + parts g r)) h).1).1)))

        -- the section of a loaded chunk of the region, once the others joined, is in a part
        pub loaded_part : (c : ChunkPos) → 0 < g.holds c → joined_owner g r (section_of g.grid c) ≡ r → is_part_id g r (after.owner (section_of g.grid c)) ≡ true
        loaded_part c held x =
            let s = section_of g.grid c in
            let m : in_margin g s ≡ true = margin_from g r rules ok ticks free c s held (omega (arith, self_distance s)) in
            let j : nat_eq (joined_owner g r s) r ≡ true = eq-eqb _ _ x in
            let o : after.owner s ≡ part_id g r s = cleaned_owner s ∙ rw (j, m) refl in
            elim (part_cases g r rules ok ticks free s (and_from (nat_eq (joined_owner g r s) r) (in_margin g s) j m)) [
              | inl k ↦ absurd (true≢false (sym (eq-eqb _ _ k.0) ∙ several))
              | inr k ↦
                  let e = o ∙ k.1 in
                  let p : is_part_id g r (g.next + part_of g r s) ≡ true = and_from _ _ (le-leb _ _ k.0) (and_from _ _ (le-leb g.next (g.next + part_of g r s) (omega arith)) (lt-ltb _ _ (omega (arith, k.2)))) in
                  rw e p
            ]

        parted_off : (q : ℕ) → is_part_id g r q ≡ false → parted ids r all q ≡ bare q
        parted_off q p = opened_off (all r).tick (all r).owed ids bare q (among_ids q ∙ p)

        parted_new : (q : ℕ) → is_part_id g r q ≡ true → parted ids r all q ≡ part_bag (all r).tick (all r).owed
        parted_new q p = opened_new (all r).tick (all r).owed ids bare q (among_ids q ∙ p)

        part_other : (q : ℕ) → is_part_id g r q ≡ true → q ≢ r
        part_other q p e = let a = part_above q p in let b = r_below in omega arith

        pub parted_other : (q : ℕ) → is_part_id g r q ≡ false → q ≢ r → g.waits q r ≡ false → parted ids r all q ≡ f q
        parted_other q p d w = parted_off q p ∙ at_other all r no_bag q d ∙ all_off q d w

        pub bags_parted : (q : ℕ) → IsBagOf after later left recorded q (parted ids r all q)
        bags_parted q = elim (cases_Bool (is_part_id g r q)) [
          | inl p ↦
              let t : after.state q ≡ Ready = cleaned_state q ∙ rw p refl in
              let ready : rests after q ≡ true = rw t refl in
              rw (parted_new q p) (bag_rests g after tick owed later left recorded q (part_bag (all r).tick (all r).owed) ready
              (λ k. let x : Ready ≡ Ticking = sym t ∙ k in absurd (cc)) refl refl
              (all_tick ∙ sym (later_part q (new_part q ∙ p))) (all_owes ∙ sym (left_part q (new_part q ∙ p))) refl refl)
          | inr p ↦ rw (parted_off q p) (elim (cases_eq q r) [
            | inl e ↦
                let z : nat_eq r r ≡ true = eq-eqb r r refl in
                let np : is_part_id g r r ≡ false = old_no_part r r_below in
                rw e (bag_gone g after tick owed later left recorded r (bare r) (at_here all r no_bag) (cleaned_state r ∙ rw (np, z, several) refl))
            | inr d ↦
                let n : nat_eq q r ≡ false = ne_eqb q r d in
                rw (at_other all r no_bag q d) (elim (cases_Bool (g.waits q r)) [
                  | inl w ↦ bag_gone g after tick owed later left recorded q (all q) (all_gone q w) (cleaned_state q ∙ rw (p, n, w) refl)
                  | inr w ↦ rw (all_off q d w) (other_stays q d w p)
                ])
          ])
        ]
