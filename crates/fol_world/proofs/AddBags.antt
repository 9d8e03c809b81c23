-- The bags after an added hold.
use Rattle.std.proofs.Common.{◌≡◌, ◌≢◌, ℕ, ◌+◌, ◌≤◌, ◌<◌, le_antisymm, refl, sym, ◌∙◌, ap, subst, arith, Bool, true, false, inl, inr, List, [], ◌∷◌, ◌&&◌, not, filter}
use Rattle.std.specs.Prelude.{nat_eq, nat_lt}
use Rattle.std.proofs.Math.Path.{fun_ext}
use Rattle.std.proofs.lemmas.Bool.{cases_Bool, cases_eq, eqb-true, eqb-false, eq-eqb, ne_eqb, ltb-true, lt-ltb, and_parts, and_from, not-true, true≢false, false_from_ne_true}
use Rattle.std.proofs.lemmas.List.Kept.{IsStrictlySortedBy-filter}
use Rattle.std.specs.Ordering.{nat_cmp}
use Rattle.fol_model.specs.declared.places.ChunkPos.{ChunkPos}
use Rattle.fol_model.specs.declared.places.SectionPos.{SectionPos}
use Rattle.fol_model.specs.declared.regions.State.{State}
use Rattle.fol_model.specs.declared.regions.State.TheVariants.{Transient, Ready, Ticking, Dead}
use Rattle.fol_model.specs.Geometry.{is_chunk, same_chunk, section_of}
use Rattle.fol_model.specs.GridNumbers.{IsGrid}
use Rattle.fol_model.specs.Universe.{all_chunks, numbers_below}
use Rattle.fol_model.specs.GridState.{GridState, is_dead, is_ticking}
use Rattle.fol_model.specs.Counting.{greatest_below, some_below}
use Rattle.fol_model.specs.Add.{extended, is_near, is_near_calm, is_wanted, target, target_state, target_waits}
use Rattle.fol_model.specs.ActionStep.{Recorded, at_id}
use Rattle.fol_model.specs.Outputs.{is_chunk_of}
use Rattle.fol_model.specs.Rules.{Rules}
use Rattle.fol_laws.proofs.AddEffect.{Stays, owner_after, state_stays, state_target, stays_owner}
use Rattle.fol_laws.proofs.AddTarget.{calm_below, near_lives}
use Rattle.fol_laws.proofs.Distances.{self_distance}
use Rattle.fol_laws.proofs.FunctionsChanged.{at_here, at_other}
use Rattle.fol_laws.proofs.GreatestBelow.{greatest_none, greatest-at_least, greatest-at_most}
use Rattle.fol_laws.proofs.NumberOrder.{in_numbers, numbers_sorted}
use Rattle.fol_laws.proofs.SamePlaces.{same_chunk-true}
use Rattle.fol_laws.proofs.Tests.{same_answer}
use Rattle.fol_regions.specs.Changes.{drawn_in, into}
use Rattle.fol_store.specs.Bag.{Bag, new_bag, no_bag}
use Rattle.fol_world.specs.Hands.{rests}
use Rattle.fol_world.specs.Bags.{AreBut, CanJoin, IsBagOf, joined_bags}
use Rattle.fol_world.proofs.JoinedBags.{Apart, among, can_join, in_filter, joined_into, sorted_apart}
use Rattle.fol_world.proofs.KeptUp.{exact, keeps_exact}
use Rattle.fol_world.proofs.UnsettledBags.{IsBagBut, not_dead, rests_home}

pub filter_none : {X : Type 0} (p : X → Bool) (xs : List X) → ((x : X) → p x ≡ false) → filter p xs ≡ []
filter_none p [] h = refl
filter_none p (x ∷ xs) h = let e = h x in rw e (filter_none p xs h)

pub same_filter : {X : Type 0} (p q : X → Bool) (xs : List X) → ((x : X) → p x ≡ q x) → filter p xs ≡ filter q xs
same_filter p q xs h = ap (λ r. filter r xs) (fun_ext h)

not_ticking : (s : State) → s ≢ Ticking → is_ticking s ≡ false
not_ticking Transient d = refl
not_ticking Ready d = refl
not_ticking Ticking d = absurd (d refl)
not_ticking Dead d = refl

resting : (s : State) → s ≢ Dead → s ≢ Ticking → (not (is_dead s) && not (is_ticking s)) ≡ true
resting s d n = and_from (not (is_dead s)) (not (is_ticking s)) (not_dead s d) (rw (not_ticking s n) refl)

dead_ticks : Dead ≢ Ticking
dead_ticks e = absurd (cc)

module _ (g : GridState) (c : ChunkPos) (rules : Rules g) (ok : IsGrid g.grid) (limits : is_chunk c ≡ true) where
  abbrev home : SectionPos
  home = section_of g.grid c

  abbrev ext : GridState
  ext = extended g c

  abbrev t : ℕ
  t = target g c

  -- a chunk that was loaded lies in a section that was present
  pub loaded_present : (q : ChunkPos) → 0 < g.holds q → 0 < g.owner (section_of g.grid q)
  loaded_present q h = rules.margin q (section_of g.grid q) h (omega (arith, self_distance (section_of g.grid q)))

  pub loaded_before : (q : ChunkPos) → q ≢ c → nat_lt 0 (ext.holds q) ≡ true → 0 < g.holds q
  loaded_before q d h = elim (cases_Bool (same_chunk c q)) [
    | inl s ↦ absurd (d (sym (same_chunk-true c q s)))
    | inr s ↦ ltb-true 0 (g.holds q) (rw s at h)
  ]

  pub loaded_after : (q : ChunkPos) → 0 < g.holds q → nat_lt 0 (ext.holds q) ≡ true
  loaded_after q h = elim (cases_Bool (same_chunk c q)) [
    | inl s ↦ rw s (lt-ltb 0 (g.holds c + 1) (omega arith))
    | inr s ↦ rw s (lt-ltb 0 (g.holds q) h)
  ]

  -- a chunk of a region whose present sections stay, where it is not c
  chunk_stays : (r : ℕ) → ((s : SectionPos) → 0 < g.owner s → ext.owner s ≡ r → g.owner s ≡ r) → ((s : SectionPos) → 0 < g.owner s → g.owner s ≡ r → ext.owner s ≡ r)
      → (q : ChunkPos) → (ext.owner (section_of g.grid q) ≡ r → q ≢ c) → is_chunk_of ext r q ≡ is_chunk_of g r q
  chunk_stays r back forth q away = same_answer (is_chunk_of ext r q) (is_chunk_of g r q)
      (λ h. let p = and_parts (nat_lt 0 (ext.holds q)) (nat_eq (ext.owner (section_of g.grid q)) r) h in
      let o : ext.owner (section_of g.grid q) ≡ r = eqb-true _ r p.1 in
      let held = loaded_before q (away o) p.0 in
      and_from (nat_lt 0 (g.holds q)) (nat_eq (g.owner (section_of g.grid q)) r) (lt-ltb 0 (g.holds q) held) (eq-eqb _ r (back (section_of g.grid q) (loaded_present q held) o)))
      (λ h. let p = and_parts (nat_lt 0 (g.holds q)) (nat_eq (g.owner (section_of g.grid q)) r) h in
      let o : g.owner (section_of g.grid q) ≡ r = eqb-true _ r p.1 in
      let held = ltb-true 0 (g.holds q) p.0 in
      and_from (nat_lt 0 (ext.holds q)) (nat_eq (ext.owner (section_of g.grid q)) r) (loaded_after q held) (eq-eqb _ r (forth (section_of g.grid q) (loaded_present q held) o)))

  -- the chunks of a region whose present sections stay, and which does not have c
  chunks_stay : (r : ℕ) → ((s : SectionPos) → 0 < g.owner s → ext.owner s ≡ r → g.owner s ≡ r) → ((s : SectionPos) → 0 < g.owner s → g.owner s ≡ r → ext.owner s ≡ r) → ext.owner home ≢ r
      → (q : ChunkPos) → is_chunk_of ext r q ≡ is_chunk_of g r q
  chunks_stay r back forth away q = chunk_stays r back forth q (λ o e. away (rw e at o))

  -- a present section goes to the target where its region is near and calm, else it stays
  pub present_stays : (s : SectionPos) → 0 < g.owner s → is_near_calm g c (g.owner s) ≡ false → ext.owner s ≡ g.owner s
  present_stays s p k = let w : nat_lt 0 (g.owner s) ≡ true = lt-ltb 0 (g.owner s) p in rw (w, k) refl

  pub present_joins : (s : SectionPos) → is_near_calm g c (g.owner s) ≡ true → ext.owner s ≡ t
  present_joins s k = elim (cases_Bool (is_wanted g c s)) [ inl w ↦ rw w refl | inr w ↦ rw (w, k) refl ]

  live : (r : ℕ) → g.state r ≢ Dead → 0 < r
  live r d = rules.given r d

  -- a region that is neither the target nor joins it keeps its chunks, but that it may have c
  pub other_chunk : (r : ℕ) → g.state r ≢ Dead → Stays g c rules ok limits r → (q : ChunkPos) → (ext.owner (section_of g.grid q) ≡ r → q ≢ c) → is_chunk_of ext r q ≡ is_chunk_of g r q
  other_chunk r d stays = chunk_stays r
      (λ s p e. let pos : 0 < ext.owner s = rw e (live r d) in elim (owner_after g c rules ok limits s pos) [ inl x ↦ absurd (stays.apart (sym e ∙ x)) | inr x ↦ sym x.same ∙ e ])
      (λ s p e. stays_owner g c rules ok limits s r e (live r d) stays)

  other_chunks : (r : ℕ) → g.state r ≢ Dead → Stays g c rules ok limits r → ext.owner home ≢ r → (q : ChunkPos) → is_chunk_of ext r q ≡ is_chunk_of g r q
  other_chunks r d stays away q = other_chunk r d stays q (λ o e. away (rw e at o))

  abbrev drawn : List ℕ
  drawn = drawn_in g c

  pub among_drawn : (r : ℕ) → r ≢ t → is_near_calm g c r ≡ true → among r drawn ≡ true
  among_drawn r d k = let n : nat_eq t r ≡ false = ne_eqb t r (λ e. d (sym e)) in
      in_filter (λ r. is_near_calm g c r && not (nat_eq t r)) (numbers_below g.next) r ∙ rw (k, n) (in_numbers g.next r (calm_below g c rules ok limits r k))

  pub drawn_calm : (r : ℕ) → among r drawn ≡ true → (is_near_calm g c r ≡ true) × (r ≢ t)
  drawn_calm r m =
      let a = and_parts (is_near_calm g c r && not (nat_eq t r)) (among r (numbers_below g.next)) (sym (in_filter (λ r. is_near_calm g c r && not (nat_eq t r)) (numbers_below g.next) r) ∙ m) in
      let b = and_parts (is_near_calm g c r) (not (nat_eq t r)) a.0 in
      (b.0, λ e. eqb-false t r (not-true _ b.1) (sym e))

  pub t_not_drawn : among t drawn ≡ false
  t_not_drawn = false_from_ne_true (among t drawn) (λ m. (drawn_calm t m).1 refl)

  pub drawn_apart : Apart drawn
  drawn_apart = sorted_apart drawn (IsStrictlySortedBy-filter nat_cmp (λ r. is_near_calm g c r && not (nat_eq t r)) (numbers_below g.next) (numbers_sorted g.next))

  -- what the bags are after regions came and joined
  pub record ChangedTo (owed : ℕ → ℕ) (tick : ℕ → ℕ) (f h : ℕ → Bag) : Type 0 where
    pub others : (r : ℕ) → r ≢ t → is_near_calm g c r ≡ false → h r ≡ f r
    pub gone : (r : ℕ) → r ≢ t → is_near_calm g c r ≡ true → h r ≡ no_bag
    pub here : (h t).here ≡ true
    pub taken : (h t).taken ≡ false
    pub counter : (h t).tick ≡ tick t
    pub owes : (h t).owed ≡ greatest_below (is_near_calm g c) owed g.next
    pub listed : ext.owner home ≢ t → (h t).listed ≡ true → (h t).chunks ≡ filter (is_chunk_of ext t) all_chunks
    pub since : (h t).since ≡ []

  target_rests : (target_state g c ≢ Ticking) × (target_state g c ≢ Dead)
  target_rests = elim (cases_Bool (some_below (target_waits g c) g.next)) [ inl w ↦ rw w ((λ e. absurd (cc)), (λ e. absurd (cc))) | inr w ↦ rw w ((λ e. absurd (cc)), (λ e. absurd (cc))) ]

  -- no region is near and calm: a new one comes
  pub changed_new : (owed tick : ℕ → ℕ) (f : ℕ → Bag) → ((r : ℕ) → g.next ≤ r → tick r ≡ 0) → t ≡ g.next → ((r : ℕ) → is_near_calm g c r ≡ false) → ChangedTo owed tick f (at_id f t (new_bag 0 0))
  changed_new owed tick f zero e none = let at : at_id f t (new_bag 0 0) t ≡ new_bag 0 0 = at_here f t (new_bag 0 0) in record {
    others = λ r d k. at_other f t (new_bag 0 0) r d;
    gone = λ r d k. absurd (true≢false (sym k ∙ none r));
    here = ap (λ (b : Bag). b.here) at;
    taken = ap (λ (b : Bag). b.taken) at;
    counter = ap (λ (b : Bag). b.tick) at ∙ sym (zero t (omega arith));
    owes = ap (λ (b : Bag). b.owed) at ∙ sym (greatest_none (is_near_calm g c) owed g.next (λ k m. absurd (true≢false (sym m ∙ none k))));
    listed = λ away w. ap (λ (b : Bag). b.chunks) at ∙ sym (filter_none (is_chunk_of ext t) all_chunks (λ q. false_from_ne_true (is_chunk_of ext t q) (λ h.
        let p = and_parts (nat_lt 0 (ext.holds q)) (nat_eq (ext.owner (section_of g.grid q)) t) h in
        let o : ext.owner (section_of g.grid q) ≡ t = eqb-true _ t p.1 in
        let held = loaded_before q (λ x. away (rw x at o)) p.0 in
        let here = loaded_present q held in
        let same = present_stays (section_of g.grid q) here (none (g.owner (section_of g.grid q))) in
        let below : g.owner (section_of g.grid q) < g.next = rules.below_next (g.owner (section_of g.grid q)) (rules.owner_lives (section_of g.grid q) here) in
        omega arith)));
    since = ap (λ (b : Bag). b.since) at;
  }

  module _ (owed tick : ℕ → ℕ) (recorded : ℕ → Recorded) (f : ℕ → Bag) (bags : (r : ℕ) → IsBagOf g tick owed recorded r (f r)) where
    pub calm_rests : (r : ℕ) → is_near_calm g c r ≡ true → rests g r ≡ true
    calm_rests r k = let p = and_parts (is_near g c r) (not (is_ticking (g.state r))) k in and_from (not (is_dead (g.state r))) (not (is_ticking (g.state r))) (not_dead (g.state r) (near_lives g c rules ok limits r p.0)) p.1

    pub calm_here : (r : ℕ) → is_near_calm g c r ≡ true → (f r).here ≡ true
    calm_here r k = (bags r).here ∙ calm_rests r k

    pub calm_home : (r : ℕ) → is_near_calm g c r ≡ true → (f r).taken ≡ false
    calm_home r k = (bags r).taken ∙ rests_home (g.state r) (calm_rests r k)

    pub calm_none : (r : ℕ) → is_near_calm g c r ≡ true → (f r).since ≡ []
    calm_none r k = (bags r).since (calm_rests r k)

    -- the target is near and calm: others join it
    pub changed_old : is_near_calm g c t ≡ true → ChangedTo owed tick f (joined_bags (into t drawn) f)
    changed_old k =
        let j = joined_into t drawn f t_not_drawn drawn_apart in
        let h : ℕ → Bag = joined_bags (into t drawn) f in
        let here = calm_rests t k in
        let own : (f t).owed ≡ owed t = (bags t).owes here in
        let theirs : (r : ℕ) → is_near_calm g c r ≡ true → (f r).owed ≡ owed r = λ r m. (bags r).owes (calm_rests r m) in
        let below = calm_below g c rules ok limits t k in
        let low : greatest_below (is_near_calm g c) owed g.next ≤ (h t).owed = greatest-at_most (is_near_calm g c) owed g.next (h t).owed (λ r l m. elim (cases_eq r t) [
          | inl e ↦ let x : owed r ≡ owed t = ap owed e in omega (arith, j.own)
          | inr d ↦ omega (arith, j.theirs r (among_drawn r d m), theirs r m)
        ]) in
        let high : (h t).owed ≤ greatest_below (is_near_calm g c) owed g.next = elim j.some [
          | inl e ↦ omega (arith, greatest-at_least (is_near_calm g c) owed g.next t below k)
          | inr x ↦ let m = (drawn_calm x.0 x.1).0 in omega (arith, x.2, theirs x.0 m, greatest-at_least (is_near_calm g c) owed g.next x.0 (calm_below g c rules ok limits x.0 m) m)
        ] in
        record {
          others = λ r d m. j.others r d (false_from_ne_true (among r drawn) (λ a. true≢false (sym (drawn_calm r a).0 ∙ m)));
          gone = λ r d m. j.gone r d (among_drawn r d m);
          here = j.here ∙ calm_here t k;
          taken = j.taken ∙ (bags t).taken ∙ not-true (is_ticking (g.state t)) (and_parts (is_near g c t) (not (is_ticking (g.state t))) k).1;
          counter = j.counter ∙ (bags t).counter here;
          owes = le_antisymm high low;
          listed = λ away w. let z = j.listed w in
              let only : (r : ℕ) → is_near_calm g c r ≡ true → r ≡ t = λ r m. elim (cases_eq r t) [
                | inl e ↦ e
                | inr d ↦ absurd (true≢false (sym (among_drawn r d m) ∙ ap (among r) z.0))
              ] in
              j.chunks ∙ exact (f t).since (f t).chunks (is_chunk_of g t) ((bags t).listed (near_lives g c rules ok limits t (and_parts (is_near g c t) (not (is_ticking (g.state t))) k).0) z.1) ((bags t).since here) ∙ sym (same_filter (is_chunk_of ext t) (is_chunk_of g t) all_chunks (chunks_stay t
              (λ s p e. elim (cases_Bool (is_near_calm g c (g.owner s))) [ inl m ↦ only (g.owner s) m | inr m ↦ sym (present_stays s p m) ∙ e ])
              (λ s p e. present_joins s (ap (is_near_calm g c) e ∙ k))
              away));
          since = j.since ∙ (bags t).since here;
        }

    -- each region has its bag after them
    pub changed_bag : (owed' : ℕ → ℕ) (h : ℕ → Bag) → ((r : ℕ) → r ≢ t → owed' r ≡ owed r) → owed' t ≡ greatest_below (is_near_calm g c) owed g.next → ChangedTo owed tick f h
        → (r : ℕ) → IsBagBut ext tick owed' recorded (ext.owner home) r (h r)
    changed_bag owed' h same most ch r = elim (cases_eq r t) [
      | inl e ↦ let target : ext.state t ≡ target_state g c = state_target g c rules ok limits in
          let quiet = target_rests in
          let rest : rests ext t ≡ true = rw target (resting (target_state g c) quiet.1 quiet.0) in
          let still : is_ticking (ext.state t) ≡ false = rw target (not_ticking (target_state g c) quiet.0) in
          rw e (record {
            here = ch.here ∙ sym rest;
            taken = ch.taken ∙ sym still;
            counter = λ x. ch.counter;
            owes = λ x. ch.owes ∙ sym most;
            listed = λ d away w. keeps_exact (h t).since (h t).chunks (is_chunk_of ext t) (ch.listed away w);
            since = λ x. ch.since;
            out = λ x. absurd (quiet.0 (sym target ∙ x));
          })
      | inr d ↦ elim (cases_Bool (is_near_calm g c r)) [
        | inl k ↦ let n : nat_eq t r ≡ false = ne_eqb t r (λ x. d (sym x)) in
            let dead : ext.state r ≡ Dead = rw (n, k) refl in
            let none = ch.gone r d k in
            record {
              here = ap (λ (b : Bag). b.here) none ∙ rw dead refl;
              taken = ap (λ (b : Bag). b.taken) none ∙ rw dead refl;
              counter = λ x. absurd (true≢false (sym x ∙ rw dead refl));
              owes = λ x. absurd (true≢false (sym x ∙ rw dead refl));
              listed = λ x. absurd (x dead);
              since = λ x. ap (λ (b : Bag). b.since) none;
              out = λ x. absurd (dead_ticks (sym dead ∙ x));
            }
        | inr k ↦ let stays : Stays g c rules ok limits r = record { apart = d; calm = k } in
            let state : ext.state r ≡ g.state r = state_stays g c rules ok limits r stays in
            let was = ch.others r d k in
            let b = bags r in
            rw was (record {
              here = b.here ∙ rw state refl;
              taken = b.taken ∙ rw state refl;
              counter = λ x. b.counter (rw state at x);
              owes = λ x. b.owes (rw state at x) ∙ sym (same r d);
              listed = λ l away w. let l' : g.state r ≢ Dead = λ x. l (state ∙ x) in subst (AreBut (f r).since (f r).chunks) (sym (same_filter (is_chunk_of ext r) (is_chunk_of g r) all_chunks (other_chunks r l' stays away))) (b.listed l' w);
              since = λ x. b.since (rw state at x);
              out = λ x. b.out (sym state ∙ x);
            })
      ]
    ]

    -- the regions that join have their bags here
    pub drawn_join : is_near_calm g c t ≡ true → CanJoin (into t drawn) f
    drawn_join k = can_join t drawn f t_not_drawn drawn_apart (calm_here t k) (λ r m. calm_here r (drawn_calm r m).0)
