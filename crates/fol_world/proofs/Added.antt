-- An added hold: bags, counters and stack after it.
use Rattle.std.proofs.Common.{◌≡◌, ◌≢◌, ℕ, ◌+◌, ◌≤◌, ◌<◌, refl, sym, ◌∙◌, ap, subst, arith, true, false, inl, inr, ◌⊎◌, List, [], ◌∷◌, ◌++◌, length, ◌&&◌, not}
use Rattle.std.specs.Prelude.{nat_eq, nat_lt}
use Rattle.std.proofs.lemmas.Bool.{cases_Bool, cases_eq, eqb-true, eq-eqb, ne_eqb, lt-ltb, and_parts, and_from, and_right, or_right, true≢false}
use Rattle.fol_model.specs.declared.places.ChunkPos.{ChunkPos}
use Rattle.fol_model.specs.declared.regions.State.{State}
use Rattle.fol_model.specs.declared.regions.State.TheVariants.{Transient, Ready, Ticking, Dead}
use Rattle.fol_model.specs.Geometry.{is_chunk, same_chunk, section_of}
use Rattle.fol_model.specs.GridNumbers.{IsGrid}
use Rattle.fol_model.specs.Universe.{all_chunks, numbers_below}
use Rattle.fol_model.specs.GridState.{GridState, is_loaded, is_ready, is_ticking}
use Rattle.fol_model.specs.Counting.{greatest_below, some_below}
use Rattle.fol_model.specs.Counters.{owed_after_add}
use Rattle.fol_model.specs.Add.{add, counted, extended, is_full, is_near, is_near_calm, is_near_ticking, target, target_state, target_waits, wanted}
use Rattle.fol_model.specs.ActionStep.{Recorded, at_id}
use Rattle.fol_model.specs.Outputs.{is_chunk_of}
use Rattle.fol_model.specs.Rules.{Rules}
use Rattle.fol_laws.proofs.AddEffect.{state_stays, state_target, target_transient}
use Rattle.fol_laws.proofs.AddTarget.{calm_below, near_lives, target_is}
use Rattle.fol_laws.proofs.FunctionsChanged.{at_here}
use Rattle.fol_laws.proofs.NumbersBelow.{some_below-is, some_below-gives}
use Rattle.fol_laws.proofs.SamePlaces.{same_chunk-true}
use Rattle.fol_regions.specs.Changes.{Changes, add_change, drawn_in, into, nothing}
use Rattle.fol_regions.proofs.AddAgain.{none_wanted}
use Rattle.fol_store.specs.Bag.{Bag, new_bag}
use Rattle.fol_world.specs.Bags.{AreBut, CanJoin, IsBagOf, Follow, joined_bags, opened_bags, unsettled_at}
use Rattle.fol_world.specs.Agenda.{Covers, owes}
use Rattle.fol_world.specs.Follows.{changed_bags, followed, gaining, target_in}
use Rattle.fol_world.proofs.JoinedBags.{among, behind, in_front, joined_into}
use Rattle.fol_world.proofs.AddBags as parts
use Rattle.fol_world.proofs.AddBags.{filter_none, same_filter}
use Rattle.fol_world.proofs.UnsettledBags.{IsBagBut, bag_but, unsettled_bag}

among_last : (r t : ℕ) (xs : List ℕ) → r ≡ t → among r (xs ++ t ∷ []) ≡ true
among_last r t xs e = behind r xs (t ∷ []) (let z : nat_eq r t ≡ true = eq-eqb r t e in rw z refl)

owes_parts : (g : GridState) (f : ℕ → Bag) (r : ℕ) → owes g f r ≡ true → (is_ready (g.state r) ≡ true) × (nat_lt 0 (f r).owed ≡ true)
owes_parts g f r h = and_parts (is_ready (g.state r)) (nat_lt 0 (f r).owed) h

owes_from : (g : GridState) (f : ℕ → Bag) (r : ℕ) → is_ready (g.state r) ≡ true → nat_lt 0 (f r).owed ≡ true → owes g f r ≡ true
owes_from g f r a b = and_from (is_ready (g.state r)) (nat_lt 0 (f r).owed) a b

-- a bag that is gathered anew owes as much
pub off_owed : (n : ℕ) (h : ℕ → Bag) (r : ℕ) → (unsettled_at n h r).owed ≡ (h r).owed
off_owed n h r = elim (cases_Bool (nat_lt 0 n)) [
  | inl l ↦ elim (cases_Bool (nat_eq n r)) [
    | inl e ↦ let same : n ≡ r = eqb-true n r e in rw (l, e) (ap (λ k. (h k).owed) same)
    | inr e ↦ rw (l, e) refl
  ]
  | inr l ↦ rw l refl
]

ready_of : (s : State) → not (is_ticking s) ≡ true → s ≢ Dead → s ≢ Transient → is_ready s ≡ true
ready_of Ready a b e = refl
ready_of Transient a b e = absurd (e refl)
ready_of Ticking a b e = absurd (true≢false (sym a))
ready_of Dead a b e = absurd (b refl)

-- all of it, for the grid h and the change ch of an added hold
pub record AddedBags (g h : GridState) (c : ChunkPos) (ch : Changes) (owed owed' tick : ℕ → ℕ) (recorded : ℕ → Recorded) (f : ℕ → Bag) : Type 0 where
  pub bags : (r : ℕ) → IsBagBut h tick owed' recorded (h.owner (section_of g.grid c)) r (changed_bags ch f r)
  -- a chunk that was held already is no chunk more
  pub held : is_loaded g c ≡ true → (r : ℕ) → IsBagOf h tick owed' recorded r (changed_bags ch f r)
  pub follow : Follow g.next ch.created
  pub few : length ch.created ≤ 1
  pub joins : CanJoin ch.merges (opened_bags 0 0 ch.created f)
  pub covers : (xs : List ℕ) → Covers xs g f → Covers (xs ++ target_in ch.merges) h (changed_bags ch f)
  pub next : h.next ≡ g.next + length ch.created

-- the bags after an added hold, where the region that has a chunk more has to be gathered anew
pub gained_bags : (g h : GridState) (c : ChunkPos) (ch : Changes) (owed owed' tick : ℕ → ℕ) (recorded : ℕ → Recorded) (f : ℕ → Bag) → h ≡ add g c → AddedBags g h c ch owed owed' tick recorded f
    → ((r : ℕ) → h.state r ≢ Dead → 0 < r) → (r : ℕ) → IsBagOf h tick owed' recorded r (followed (gaining g.grid g c) ch f r)
unfolding gaining
gained_bags g h c ch owed owed' tick recorded f e added given r = elim (cases_Bool (is_loaded g c)) [
  | inl l ↦ rw l (added.held l r)
  | inr l ↦ rw (l, ← e) (unsettled_bag h tick owed' recorded (h.owner (section_of g.grid c)) (changed_bags ch f) given added.bags r)
]

-- an added hold of a chunk that was held changes no region
pub held_changes_none : (g : GridState) (c : ChunkPos) → Rules g → is_loaded g c ≡ true → add_change g c ≡ nothing
unfolding add_change
held_changes_none g c rules l =
    let none = none_wanted g c rules l in
    elim (cases_Bool (is_full g c)) [ inl f ↦ rw f refl | inr f ↦ rw (f, none) refl ]

module _ (g : GridState) (c : ChunkPos) (rules : Rules g) (ok : IsGrid g.grid) (limits : is_chunk c ≡ true) where
  abbrev t : ℕ
  t = target g c

  abbrev drawn : List ℕ
  drawn = drawn_in g c

  abbrev ext : GridState
  ext = extended g c

  -- what the event changes where a region grows
  abbrev ext_change : List ℕ → Changes
  ext_change created = record { created = created; dead = drawn; merges = into t drawn; parts = [] }

  pub add_full : is_full g c ≡ true → add g c ≡ g
  unfolding add
  add_full f = rw f refl

  pub add_counted : is_full g c ≡ false → nat_eq (wanted g c) 0 ≡ true → add g c ≡ counted g c
  unfolding add
  add_counted f w = rw (f, w) refl

  pub add_ext : is_full g c ≡ false → nat_eq (wanted g c) 0 ≡ false → add g c ≡ ext
  unfolding add
  add_ext f w = rw (f, w) refl

  pub change_full : is_full g c ≡ true → add_change g c ≡ nothing
  unfolding add_change
  change_full f = rw f refl

  pub change_counted : is_full g c ≡ false → nat_eq (wanted g c) 0 ≡ true → add_change g c ≡ nothing
  unfolding add_change
  change_counted f w = rw (f, w) refl

  pub change_old : is_full g c ≡ false → nat_eq (wanted g c) 0 ≡ false → nat_eq t g.next ≡ false → add_change g c ≡ ext_change []
  unfolding add_change
  change_old f w n = rw (f, w, n) refl

  pub change_new : is_full g c ≡ false → nat_eq (wanted g c) 0 ≡ false → nat_eq t g.next ≡ true → add_change g c ≡ ext_change (g.next ∷ [])
  unfolding add_change
  change_new f w n = rw (f, w, n) refl

  module _ (owed tick : ℕ → ℕ) (recorded : ℕ → Recorded) (f : ℕ → Bag) (bags : (r : ℕ) → IsBagOf g tick owed recorded r (f r)) (zero : (r : ℕ) → g.next ≤ r → tick r ≡ 0) where
    -- a region that owes what it owed
    owes_same : (owed' : ℕ → ℕ) → ((r : ℕ) → owed' r ≡ owed r) → (r : ℕ) → IsBagOf g tick owed' recorded r (f r)
    owes_same owed' same r = let b = bags r in record { here = b.here; taken = b.taken; counter = b.counter; owes = λ x. b.owes x ∙ sym (same r); listed = b.listed; since = b.since; out = b.out }

    full_bags : (owed' : ℕ → ℕ) → ((r : ℕ) → owed' r ≡ owed r) → AddedBags g g c nothing owed owed' tick recorded f
    full_bags owed' same = record {
      bags = λ r. bag_but g tick owed' recorded (g.owner (section_of g.grid c)) r (f r) (owes_same owed' same r);
      held = λ l r. owes_same owed' same r;
      follow = tt;
      few = omega arith;
      joins = tt;
      covers = λ xs h r o. in_front r xs [] (h r o);
      next = omega arith;
    }

    -- only the chunk's own region may have a chunk more
    counted_chunks : (r : ℕ) → g.owner (section_of g.grid c) ≢ r → (q : ChunkPos) → is_chunk_of (counted g c) r q ≡ is_chunk_of g r q
    counted_chunks r away q = elim (cases_Bool (same_chunk c q)) [
      | inl s ↦ let e : c ≡ q = same_chunk-true c q s in
          let n : nat_eq (g.owner (section_of g.grid q)) r ≡ false = ne_eqb _ r (rw e at away) in
          rw (s, n) (and_right (nat_lt 0 (g.holds c + 1)) false refl ∙ sym (and_right (nat_lt 0 (g.holds q)) false refl))
      | inr s ↦ rw s refl
    ]

    -- an added hold of a chunk that was held gives no region a chunk more
    same_chunks : is_loaded g c ≡ true → (r : ℕ) (q : ChunkPos) → is_chunk_of (counted g c) r q ≡ is_chunk_of g r q
    same_chunks l r q = elim (cases_Bool (same_chunk c q)) [
      | inl s ↦ let e : c ≡ q = same_chunk-true c q s in
          let a : is_loaded g q ≡ true = sym (ap (is_loaded g) e) ∙ l in
          let b : nat_lt 0 (g.holds c + 1) ≡ true = lt-ltb 0 (g.holds c + 1) (omega arith) in
          rw (s, a, b) refl
      | inr s ↦ rw s refl
    ]

    -- so it is none that makes a region grow
    not_grown : {P : Type 0} → nat_eq (wanted g c) 0 ≡ false → is_loaded g c ≡ true → P
    not_grown w l = absurd (true≢false (sym (none_wanted g c rules l) ∙ w))

    counted_bags : (owed' : ℕ → ℕ) → ((r : ℕ) → owed' r ≡ owed r) → AddedBags g (counted g c) c nothing owed owed' tick recorded f
    counted_bags owed' same = record {
      bags = λ r. let b = owes_same owed' same r in record {
        here = b.here;
        taken = b.taken;
        counter = b.counter;
        owes = b.owes;
        listed = λ d away w. subst (AreBut (f r).since (f r).chunks) (sym (same_filter (is_chunk_of (counted g c) r) (is_chunk_of g r) all_chunks (counted_chunks r away))) (b.listed d w);
        since = b.since;
        out = b.out;
      };
      held = λ l r. let b = owes_same owed' same r in record {
        here = b.here;
        taken = b.taken;
        counter = b.counter;
        owes = b.owes;
        listed = λ d w. subst (AreBut (f r).since (f r).chunks) (sym (same_filter (is_chunk_of (counted g c) r) (is_chunk_of g r) all_chunks (same_chunks l r))) (b.listed d w);
        since = b.since;
        out = b.out;
      };
      follow = tt;
      few = omega arith;
      joins = tt;
      covers = λ xs h r o. in_front r xs [] (h r o);
      next = omega arith;
    }

    passes_on : (v : ℕ) → is_near_calm g c t ≡ true → g.waits t v ≡ true → target_waits g c v ≡ true
    unfolding target_waits
    passes_on v k h = or_right (is_near_ticking g c v) (some_below (λ u. is_near_calm g c u && g.waits u v) g.next)
        (some_below-is (λ u. is_near_calm g c u && g.waits u v) g.next t (calm_below g c rules ok limits t k) (and_from (is_near_calm g c t) (g.waits t v) k h))

    -- a target that is Ready was Ready
    was_ready : is_near_calm g c t ≡ true → is_ready (target_state g c) ≡ true → is_ready (g.state t) ≡ true
    was_ready k h = let p = and_parts (is_near g c t) (not (is_ticking (g.state t))) k in ready_of (g.state t) p.1 (near_lives g c rules ok limits t p.0) (λ e.
        let v = some_below-gives (g.waits t) g.next (rules.has_pair t e) in
        let z = target_transient g c rules ok limits v.0 (passes_on v.0 k v.2) in
        true≢false (sym h ∙ ap is_ready z))

    -- a region other than the target owes a tick after it only where it did before
    other_owes : (h : ℕ → Bag) → parts.ChangedTo g c rules ok limits owed tick f h → (r : ℕ) → r ≢ t → owes ext h r ≡ true → owes g f r ≡ true
    other_owes h ch r d o = let p = owes_parts ext h r o in elim (cases_Bool (is_near_calm g c r)) [
      | inl k ↦ let n : nat_eq t r ≡ false = ne_eqb t r (λ x. d (sym x)) in
          let dead : ext.state r ≡ Dead = rw (n, k) refl in absurd (true≢false (sym p.0 ∙ ap is_ready dead))
      | inr k ↦ let state : ext.state r ≡ g.state r = state_stays g c rules ok limits r (record { apart = d; calm = k }) in
          owes_from g f r (sym (ap is_ready state) ∙ p.0) (sym (ap (λ (b : Bag). nat_lt 0 b.owed) (ch.others r d k)) ∙ p.1)
    ]

    module _ (grows : nat_eq (wanted g c) 0 ≡ false) (owed' : ℕ → ℕ) (same : (r : ℕ) → r ≢ t → owed' r ≡ owed r) (most : owed' t ≡ greatest_below (is_near_calm g c) owed g.next) where
      extended_old : is_near_calm g c t ≡ true → AddedBags g ext c (ext_change []) owed owed' tick recorded f
      extended_old k =
          let h : ℕ → Bag = joined_bags (into t drawn) f in
          let ch = parts.changed_old g c rules ok limits owed tick recorded f bags k in
          let j = joined_into t drawn f (parts.t_not_drawn g c rules ok limits) (parts.drawn_apart g c rules ok limits) in
          let below : t < g.next = calm_below g c rules ok limits t k in
          let n : nat_eq t g.next ≡ false = ne_eqb t g.next (λ e. omega arith) in
          record {
            bags = parts.changed_bag g c rules ok limits owed tick recorded f bags owed' h same most ch;
            held = λ l. not_grown grows l;
            follow = tt;
            few = omega arith;
            joins = parts.drawn_join g c rules ok limits owed tick recorded f bags k;
            covers = λ xs cov r o. elim (cases_eq r t) [
              | inr d ↦ in_front r xs (target_in (into t drawn)) (cov r (other_owes h ch r d o))
              | inl e ↦ elim (joins_or drawn) [
                | inr m ↦ rw e (m xs)
                | inl none ↦ let p = owes_parts ext h r o in
                    let ready : is_ready (target_state g c) ≡ true = sym (ap is_ready (ap ext.state e ∙ state_target g c rules ok limits)) ∙ p.0 in
                    let mine : (h t).owed ≡ (f t).owed = elim j.some [ inl x ↦ x | inr x ↦ absurd (true≢false (sym x.1 ∙ ap (among x.0) none)) ] in
                    let positive : nat_lt 0 (f t).owed ≡ true = sym (ap (nat_lt 0) mine) ∙ ap (λ q. nat_lt 0 (h q).owed) (sym e) ∙ p.1 in
                    in_front r xs (target_in (into t drawn)) (cov r (rw e (owes_from g f t (was_ready k ready) positive)))
              ]
            ];
            next = rw n (omega arith);
          }
        where
          joins_or : (us : List ℕ) → (us ≡ []) ⊎ ((xs : List ℕ) → among t (xs ++ target_in (into t us)) ≡ true)
          joins_or [] = inl refl
          joins_or (u ∷ us) = inr (λ xs. among_last t t xs refl)

      extended_new : t ≡ g.next → ((r : ℕ) → is_near_calm g c r ≡ false) → AddedBags g ext c (ext_change (g.next ∷ [])) owed owed' tick recorded f
      extended_new e none =
          let empty : drawn ≡ [] = filter_none (λ r. is_near_calm g c r && not (nat_eq t r)) (numbers_below g.next) (λ r. let x = none r in rw x refl) in
          let h : ℕ → Bag = at_id f t (new_bag 0 0) in
          let ch = parts.changed_new g c rules ok limits owed tick f zero e none in
          let n : nat_eq t g.next ≡ true = eq-eqb t g.next e in
          let changed : changed_bags (ext_change (g.next ∷ [])) f ≡ h = rw (empty, e) refl in
          record {
            bags = λ r. rw changed (parts.changed_bag g c rules ok limits owed tick recorded f bags owed' h same most ch r);
            held = λ l. not_grown grows l;
            follow = (refl, tt);
            few = omega arith;
            joins = rw empty tt;
            covers = λ xs cov r o. elim (cases_eq r t) [
              | inr d ↦ in_front r xs (target_in (into t drawn)) (cov r (other_owes h ch r d (rw changed at o)))
              | inl x ↦ let p = owes_parts ext h r (rw changed at o) in
                  let z : (h r).owed ≡ 0 = ap (λ q. (h q).owed) x ∙ ap (λ (b : Bag). b.owed) (at_here f t (new_bag 0 0)) in
                  absurd (true≢false (sym p.1 ∙ ap (nat_lt 0) z))
            ];
            next = rw n (omega arith);
          }

    owed_full : is_full g c ≡ true → (r : ℕ) → owed_after_add g c owed r ≡ owed r
    unfolding owed_after_add
    owed_full f r = rw f refl

    owed_counted : is_full g c ≡ false → nat_eq (wanted g c) 0 ≡ true → (r : ℕ) → owed_after_add g c owed r ≡ owed r
    unfolding owed_after_add
    owed_counted f w r = rw (f, w) refl

    owed_other : is_full g c ≡ false → nat_eq (wanted g c) 0 ≡ false → (r : ℕ) → r ≢ t → owed_after_add g c owed r ≡ owed r
    unfolding owed_after_add
    owed_other f w r d = let n : nat_eq r t ≡ false = ne_eqb r t d in rw (f, w, n) refl

    owed_target : is_full g c ≡ false → nat_eq (wanted g c) 0 ≡ false → owed_after_add g c owed t ≡ greatest_below (is_near_calm g c) owed g.next
    unfolding owed_after_add
    owed_target f w = let n : nat_eq t t ≡ true = eq-eqb t t refl in rw (f, w, n) refl

    small_bags : (is_full g c ≡ true) ⊎ (nat_eq (wanted g c) 0 ≡ true) → AddedBags g (add g c) c (add_change g c) owed (owed_after_add g c owed) tick recorded f
    unfolding add add_change
    small_bags (inl full) = let same = owed_full full in rw full (full_bags (owed_after_add g c owed) same)
    small_bags (inr w) = elim (cases_Bool (is_full g c)) [
      | inl full ↦ let same = owed_full full in rw full (full_bags (owed_after_add g c owed) same)
      | inr room ↦ let same = owed_counted room w in rw (room, w) (counted_bags (owed_after_add g c owed) same)
    ]

    -- what an added hold does to bags and stack
    pub added_bags : AddedBags g (add g c) c (add_change g c) owed (owed_after_add g c owed) tick recorded f
    added_bags = elim (cases_Bool (is_full g c)) [
      | inl full ↦ small_bags (inl full)
      | inr room ↦ elim (cases_Bool (nat_eq (wanted g c) 0)) [
        | inl w ↦ small_bags (inr w)
        | inr w ↦ let other = owed_other room w in let most = owed_target room w in let e = add_ext room w in elim (target_is g c rules ok limits) [
          | inl k ↦ let below : t < g.next = calm_below g c rules ok limits t k in
              let n : nat_eq t g.next ≡ false = ne_eqb t g.next (λ e. omega arith) in
              let ch = change_old room w n in
              rw (e, ch) (extended_old w (owed_after_add g c owed) other most k)
          | inr new ↦ let n : nat_eq t g.next ≡ true = eq-eqb t g.next new.0 in
              let ch = change_new room w n in
              rw (e, ch) (extended_new w (owed_after_add g c owed) other most new.0 new.1)
        ]
      ]
    ]
