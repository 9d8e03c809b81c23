-- The bags after an added hold, once regions came and joined.
use Rattle.std.proofs.Common.{◌≡◌, ◌≢◌, ℕ, ◌+◌, ◌<◌, refl, sym, ◌∙◌, ap, subst, arith, Bool, true, false, inl, inr, ◌&&◌, ◌||◌, not, List, [], ◌∷◌, filter}
use Rattle.std.specs.Prelude.{nat_eq, nat_lt}
use Rattle.std.proofs.lemmas.Bool.{cases_Bool, cases_eq, and_from, and_parts, eq-eqb, eqb-true, false_from_ne_true, lt-ltb, ltb-true, ne_eqb, or_right, true≢false}
use Rattle.fol_model.specs.declared.places.ChunkPos.{ChunkPos}
use Rattle.fol_model.specs.declared.places.SectionPos.{SectionPos}
use Rattle.fol_model.specs.declared.regions.State.TheVariants.{Dead}
use Rattle.fol_model.specs.Geometry.{is_chunk, same_chunk, section_of}
use Rattle.fol_model.specs.GridNumbers.{IsGrid}
use Rattle.fol_model.specs.Universe.{all_chunks}
use Rattle.fol_model.specs.GridState.{GridState, is_loaded, is_ticking, present_count}
use Rattle.fol_model.specs.Add.{add, counted, extended, is_full, is_near, is_near_calm, target, wanted}
use Rattle.fol_model.specs.ActionStep.{at_id}
use Rattle.fol_model.specs.Outputs.{is_chunk_of}
use Rattle.fol_model.specs.Rules.{Rules}
use Rattle.fol_laws.proofs.AddEffect.{Stays, owner_after}
use Rattle.fol_laws.proofs.AddTarget.{calm_below, near_lives, target_is, target_pos}
use Rattle.fol_laws.proofs.FunctionsChanged.{at_here, at_other}
use Rattle.fol_laws.proofs.SamePlaces.{same_chunk-self, same_chunk-true}
use Rattle.fol_regions.specs.declared.answers.AddAnswer.{AddAnswer}
use Rattle.fol_regions.specs.declared.answers.AddAnswer.TheVariants.{Changed, Counted, Full}
use Rattle.fol_regions.specs.Answers.{add_answer}
use Rattle.fol_regions.specs.Changes.{Changes, add_change, drawn_in, into, nothing}
use Rattle.fol_regions.proofs.AddAgain.{none_wanted}
use Rattle.fol_chunks.specs.Contents.{is_recorded}
use Rattle.fol_store.specs.Bag.{Bag, new_bag}
use Rattle.fol_store.specs.Relisted.{IsInOrder}
use Rattle.fol_world.specs.Bags.{Alike, AreInOrder, KeepsUp, joined_bags, unsettled_at}
use Rattle.fol_world.specs.Begun.{Gathered}
use Rattle.fol_world.specs.Follows.{CanGain, CanSettle, ChangesTo, IsKnown, Settle, Widens, changed_bags}
use Rattle.fol_world.proofs.AddBags as parts
use Rattle.fol_world.proofs.AddBags.{filter_none}
use Rattle.fol_world.proofs.Added.{add_counted, add_ext, add_full, change_counted, change_full, change_new, change_old}
use Rattle.fol_world.proofs.ChunkLists.{in_all, listed}
use Rattle.fol_world.proofs.JoinedBags.{JoinedInto, among, joined_into}
use Rattle.fol_world.proofs.KeptUp.{exact}
use Rattle.fol_world.proofs.SettledBags.{gathered_self, widens, widens_alone}
use Rattle.fol_world.proofs.UnitedBags.{IsPart, UnitedInto, alike_self, gathered_alike, gathered_then, joins_order, opened_order, union, union_list, united_into}

-- where the region n, if it is one, had other chunks before
pub settled_on : (g : GridState) (n : ℕ) (f h k : ℕ → Bag) → ((u : ℕ) → (0 < n → u ≢ n) → Gathered g u (f u) (h u)) → Alike (f n) (h n) → Settle g (unsettled_at n h) k → Settle g (unsettled_at n f) k
settled_on g n f h k others own s r = elim (cases_Bool (nat_lt 0 n)) [
  | inr l ↦ let x : Gathered g r (h r) (k r) = rw l at (s r) in rw l (gathered_then g r (f r) (h r) (k r) (others r (λ p. absurd (true≢false (sym (lt-ltb 0 n p) ∙ l)))) x)
  | inl l ↦ elim (cases_Bool (nat_eq n r)) [
    | inr e ↦ let x : Gathered g r (h r) (k r) = rw (l, e) at (s r) in rw (l, e) (gathered_then g r (f r) (h r) (k r) (others r (λ p y. true≢false (sym (eq-eqb n r (sym y)) ∙ e))) x)
    | inl e ↦
        let x : Gathered g r (record (h n) { listed = false }) (k r) = rw (l, e) at (s r) in
        rw (l, e) (record {
          here = x.here ∙ own.here;
          taken = x.taken ∙ own.taken;
          counter = x.counter ∙ own.counter;
          owes = x.owes ∙ own.owes;
          listed = λ w. elim (x.listed w) [ inl y ↦ absurd (true≢false (sym y.0)) | inr y ↦ inr y ];
          since = λ t. x.since (own.taken ∙ t) ∙ own.since t;
          out = λ t. x.out (own.taken ∙ t) ∙ own.out t;
        })
  ]
]

module _ (g : GridState) (c : ChunkPos) (rules : Rules g) (ok : IsGrid g.grid) (limits : is_chunk c ≡ true) where
  abbrev ext : GridState
  ext = extended g c

  abbrev t : ℕ
  t = target g c

  abbrev drawn : List ℕ
  drawn = drawn_in g c

  abbrev home : ℕ
  home = ext.owner (section_of g.grid c)

  -- ---- regions come and join: k before the joins, h after them
  module _ (grows : nat_eq (wanted g c) 0 ≡ false) (k h : ℕ → Bag)
      (is : (r : ℕ) → r ≢ t → (k r).listed ≡ true → g.state r ≢ Dead → KeepsUp (k r) (filter (is_chunk_of g r) all_chunks))
      (none_noted : (r : ℕ) → r ≢ t → is_near_calm g c r ≡ true → (k r).since ≡ [])
      (own : (k t).listed ≡ true → (k t).chunks ≡ filter (is_chunk_of g t) all_chunks)
      (u : UnitedInto t drawn k h) (order : IsInOrder (h t)) where
    abbrev base : ℕ → Bag
    base = joined_bags (into t drawn) k

    fresh : is_loaded g c ≡ false
    fresh = false_from_ne_true (is_loaded g c) (λ l. true≢false (sym (none_wanted g c rules l) ∙ grows))

    is_part : (r : ℕ) → IsPart t drawn r → (k r).listed ≡ true → (k r).chunks ≡ filter (is_chunk_of g r) all_chunks
    is_part r (inl e) w = let P : ℕ → Type 0 = λ n. (k n).listed ≡ true → (k n).chunks ≡ filter (is_chunk_of g n) all_chunks in subst P (sym e) own w
    is_part r (inr m) w =
        let x = parts.drawn_calm g c rules ok limits r m in
        exact (k r).since (k r).chunks (is_chunk_of g r) (is r x.1 w (near_lives g c rules ok limits r (and_parts (is_near g c r) (not (is_ticking (g.state r))) x.0).0)) (none_noted r x.1 x.0)

    joins_t : (s : SectionPos) → 0 < g.owner s → IsPart t drawn (g.owner s) → ext.owner s ≡ t
    joins_t s p (inl e) = elim (target_is g c rules ok limits) [
      | inl m ↦ parts.present_joins g c rules ok limits s (ap (is_near_calm g c) e ∙ m)
      | inr n ↦ let l = rules.below_next (g.owner s) (rules.owner_lives s p) in let z : t ≡ g.next = n.0 in absurd (omega arith)
    ]
    joins_t s p (inr m) = parts.present_joins g c rules ok limits s (parts.drawn_calm g c rules ok limits (g.owner s) m).0

    was_part : (s : SectionPos) → 0 < g.owner s → ext.owner s ≡ t → IsPart t drawn (g.owner s)
    was_part s p e = elim (cases_Bool (is_near_calm g c (g.owner s))) [
      | inl m ↦ elim (cases_eq (g.owner s) t) [ inl x ↦ inl x | inr d ↦ inr (parts.among_drawn g c rules ok limits (g.owner s) d m) ]
      | inr m ↦ inl (sym (parts.present_stays g c rules ok limits s p m) ∙ e)
    ]

    other_place : (q : ChunkPos) → same_chunk c q ≡ false → q ≢ c
    other_place q s x = true≢false (sym (ap (same_chunk c) x ∙ same_chunk-self c) ∙ s)

    -- the chunks of the target, but for c
    abbrev most : ChunkPos → Bool
    most q = is_chunk_of ext t q && not (same_chunk c q)

    most_were : (q : ChunkPos) → q ≢ c → is_chunk_of ext t q ≡ true → (r : ℕ) × IsPart t drawn r × (is_chunk_of g r q ≡ true)
    most_were q d e =
        let b = and_parts (nat_lt 0 (ext.holds q)) (nat_eq (ext.owner (section_of g.grid q)) t) e in
        let held = parts.loaded_before g c rules ok limits q d b.0 in
        let here = parts.loaded_present g c rules ok limits q held in (
          g.owner (section_of g.grid q),
          was_part (section_of g.grid q) here (eqb-true (ext.owner (section_of g.grid q)) t b.1),
          and_from (nat_lt 0 (g.holds q)) (nat_eq (g.owner (section_of g.grid q)) (g.owner (section_of g.grid q))) (lt-ltb 0 (g.holds q) held) (eq-eqb _ _ refl),
        )

    most_back : (q : ChunkPos) → most q ≡ true → (r : ℕ) × IsPart t drawn r × (is_chunk_of g r q ≡ true)
    most_back q e =
        let a = and_parts (is_chunk_of ext t q) (not (same_chunk c q)) e in
        most_were q (λ x. let s : same_chunk c q ≡ true = ap (same_chunk c) x ∙ same_chunk-self c in let y : false ≡ true = rw s at a.1 in true≢false (sym y)) a.0

    part_there : (q : ChunkPos) (r : ℕ) → IsPart t drawn r → is_chunk_of g r q ≡ true → is_chunk_of ext t q ≡ true
    part_there q r p e =
        let b = and_parts (nat_lt 0 (g.holds q)) (nat_eq (g.owner (section_of g.grid q)) r) e in
        let o : g.owner (section_of g.grid q) ≡ r = eqb-true (g.owner (section_of g.grid q)) r b.1 in
        let held : 0 < g.holds q = ltb-true 0 (g.holds q) b.0 in
        let x : ext.owner (section_of g.grid q) ≡ t = joins_t (section_of g.grid q) (parts.loaded_present g c rules ok limits q held) (subst (IsPart t drawn) (sym o) p) in
        and_from (nat_lt 0 (ext.holds q)) (nat_eq (ext.owner (section_of g.grid q)) t) (parts.loaded_after g c rules ok limits q held) (eq-eqb _ t x)

    most_there : (q : ChunkPos) (r : ℕ) → IsPart t drawn r → is_chunk_of g r q ≡ true → most q ≡ true
    most_there q r p e = and_from (is_chunk_of ext t q) (not (same_chunk c q)) (part_there q r p e) (elim (cases_Bool (same_chunk c q)) [
      | inr s ↦ rw s refl
      | inl s ↦
          let l : is_loaded g q ≡ true = (and_parts (nat_lt 0 (g.holds q)) (nat_eq (g.owner (section_of g.grid q)) r) e).0 in
          absurd (true≢false (sym (ap (is_loaded g) (same_chunk-true c q s) ∙ l) ∙ fresh))
    ])

    j : JoinedInto t drawn k base
    j = joined_into t drawn k (parts.t_not_drawn g c rules ok limits) (parts.drawn_apart g c rules ok limits)

    same_off : (r : ℕ) → r ≢ t → base r ≡ h r
    same_off r d = elim (cases_Bool (among r drawn)) [ inl m ↦ j.gone r d m ∙ sym (u.gone r d m) | inr m ↦ j.others r d m ∙ sym (u.others r d m) ]

    alike_t : Alike (base t) (h t)
    alike_t = record {
      here = u.here ∙ sym j.here;
      taken = u.taken ∙ sym j.taken;
      counter = u.counter ∙ sym j.counter;
      owes = u.owes;
      since = λ x. u.since (sym j.taken ∙ x) ∙ sym j.since;
      out = λ x. u.out (sym j.taken ∙ x) ∙ sym j.chunks;
    }

    alike : (r : ℕ) → Alike (base r) (h r)
    alike r = elim (cases_eq r t) [
      | inl e ↦ let P : ℕ → Type 0 = λ n. Alike (base n) (h n) in subst P (sym e) alike_t
      | inr d ↦ subst (Alike (base r)) (same_off r d) (alike_self (base r))
    ]

    -- a target that does not get c
    whole_t : home ≢ t → (h t).listed ≡ true → (h t).chunks ≡ filter (is_chunk_of ext t) all_chunks
    whole_t away w = union_list g t drawn k h u is_part w order (is_chunk_of ext t)
        (λ q e. most_were q (λ x. away (
        let o : ext.owner (section_of g.grid q) ≡ t = eqb-true _ t (and_parts (nat_lt 0 (ext.holds q)) (nat_eq (ext.owner (section_of g.grid q)) t) e).1 in
        rw x at o)) e)
        part_there

    gathered_others : (r : ℕ) → (0 < home → r ≢ home) → Gathered ext r (base r) (h r)
    gathered_others r away = elim (cases_eq r t) [
      | inl e ↦
          let P : ℕ → Type 0 = λ n. Gathered ext n (base n) (h n) in
          let apart : home ≢ t = λ x. away (rw x (target_pos g c rules ok limits)) (e ∙ sym x) in
          subst P (sym e) (gathered_alike ext t (base t) (h t) alike_t (whole_t apart))
      | inr d ↦ subst (Gathered ext r (base r)) (same_off r d) (gathered_self ext r (base r))
    ]

    c_there : is_chunk_of ext home c ≡ true
    c_there =
        let s : same_chunk c c ≡ true = same_chunk-self c in
        let held : nat_lt 0 (g.holds c + 1) ≡ true = lt-ltb 0 (g.holds c + 1) (omega arith) in
        let mine : nat_eq home home ≡ true = eq-eqb home home refl in
        rw s (and_from (nat_lt 0 (g.holds c + 1)) (nat_eq home home) held mine)

    widens_t : home ≡ t → Widens ext c t (h t)
    widens_t e w = (
      order w,
      λ q n.
          ap (λ z. z || same_chunk c q) (union g t drawn k h u is_part w most most_back most_there q ∙ listed most all_chunks q)
          ∙ come q
          ∙ sym (listed (is_chunk_of ext t) all_chunks q),
    )
      where
        come : (q : ChunkPos) → (((is_chunk_of ext t q && not (same_chunk c q)) && is_recorded all_chunks q) || same_chunk c q) ≡ (is_chunk_of ext t q && is_recorded all_chunks q)
        come q = elim (cases_Bool (same_chunk c q)) [
          | inl s ↦
              let same : c ≡ q = same_chunk-true c q s in
              let there : is_recorded all_chunks q ≡ true = ap (is_recorded all_chunks) (sym same) ∙ in_all c limits in
              let mine : is_chunk_of ext t q ≡ true = ap (is_chunk_of ext t) (sym same) ∙ ap (λ n. is_chunk_of ext n c) (sym e) ∙ c_there in
              or_right ((is_chunk_of ext t q && not (same_chunk c q)) && is_recorded all_chunks q) (same_chunk c q) s ∙ sym (and_from (is_chunk_of ext t q) (is_recorded all_chunks q) mine there)
          | inr s ↦ none (is_chunk_of ext t q) (is_recorded all_chunks q) (same_chunk c q) s
        ]
          where
            none : (x y z : Bool) → z ≡ false → (((x && not z) && y) || z) ≡ (x && y)
            none x y true e = absurd (true≢false e)
            none true true false e = refl
            none true false false e = refl
            none false y false e = refl

    -- another region that gets c
    widens_other : home ≢ t → 0 < home → Widens ext c home (h home)
    widens_other d p = elim (owner_after g c rules ok limits (section_of g.grid c) p) [
      | inl x ↦ absurd (d x)
      | inr x ↦
          let same : home ≡ g.owner (section_of g.grid c) = x.same in
          let stays = subst (λ n. Stays g c rules ok limits n) (sym same) x.region in
          let lives : g.state home ≢ Dead = subst (λ n. g.state n ≢ Dead) (sym same) (rules.owner_lives (section_of g.grid c) x.present) in
          let off : among home drawn ≡ false = false_from_ne_true (among home drawn) (λ m. true≢false (sym (parts.drawn_calm g c rules ok limits home m).0 ∙ stays.calm)) in
          let kept : h home ≡ k home = u.others home d off in
          subst (Widens ext c home) (sym kept) (widens g ext c home (k home) limits c_there
          (λ q away. parts.other_chunk g c rules ok limits home lives stays q (λ o. away))
          (λ w. is home d w lives))
    ]

    gains : 0 < home → Widens ext c home (h home)
    gains p = elim (cases_eq home t) [
      | inl e ↦ let P : ℕ → Type 0 = λ n. Widens ext c n (h n) in subst P (sym e) (widens_t e)
      | inr d ↦ widens_other d p
    ]

    grown_settles : IsKnown base home → CanSettle (is_loaded g c) Changed ext c home base h
    grown_settles known = record {
      known = λ p. let a = alike home in let x = known p in rw (a.here, a.taken) x;
      others = λ r e. elim e [ inl l ↦ absurd (true≢false (sym l ∙ fresh)) | inr away ↦ gathered_others r away ];
      own = alike home;
      near = λ e. gains;
    }

  -- ---- all of it, where f is before the change
  module _ (f : ℕ → Bag) (is : (r : ℕ) → (f r).listed ≡ true → g.state r ≢ Dead → KeepsUp (f r) (filter (is_chunk_of g r) all_chunks)) (here : (r : ℕ) → is_near_calm g c r ≡ true → (f r).here ≡ true)
      (home_calm : (r : ℕ) → is_near_calm g c r ≡ true → (f r).taken ≡ false) (none_noted : (r : ℕ) → is_near_calm g c r ≡ true → (f r).since ≡ []) (order : AreInOrder f) where
    abbrev Goal : GridState → Changes → AddAnswer → Type 0
    Goal i ch a = IsKnown (changed_bags ch f) (i.owner (section_of g.grid c)) → (h : ℕ → Bag) → ChangesTo ch f h → CanSettle (is_loaded g c) a i c (i.owner (section_of g.grid c)) (changed_bags ch f) h

    -- the regions stay
    still : (i : GridState) (a : AddAnswer) → CanGain a i c (i.owner (section_of g.grid c)) (f (i.owner (section_of g.grid c))) → Goal i nothing a
    still i a gain known h e =
        let P : (ℕ → Bag) → Type 0 = λ x. CanSettle (is_loaded g c) a i c (i.owner (section_of g.grid c)) f x in
        subst P (sym e) (record {
          known = known;
          others = λ r z. gathered_self i r (f r);
          own = alike_self (f (i.owner (section_of g.grid c)));
          near = λ z. gain;
        })

    full : is_full g c ≡ true → Goal g nothing (Full (present_count g) (wanted g c))
    full e = still g (Full (present_count g) (wanted g c)) (λ p w. is (g.owner (section_of g.grid c)) w (rules.owner_lives (section_of g.grid c) p))

    alone : Goal (counted g c) nothing Counted
    alone = still (counted g c) Counted (λ p. widens_alone g c f limits is (rules.owner_lives (section_of g.grid c) p))

    grown_old : nat_eq (wanted g c) 0 ≡ false → is_near_calm g c t ≡ true → Goal ext (record { created = []; dead = drawn; merges = into t drawn; parts = [] }) Changed
    grown_old grows m known h j =
        let u = united_into t drawn f h (home_calm t m) (none_noted t m) (parts.t_not_drawn g c rules ok limits) (parts.drawn_apart g c rules ok limits) j in
        grown_settles grows f h (λ r d. is r) (λ r d. none_noted r)
        (λ w. exact (f t).since (f t).chunks (is_chunk_of g t) (is t w (near_lives g c rules ok limits t (and_parts (is_near g c t) (not (is_ticking (g.state t))) m).0)) (none_noted t m))
        u (joins_order (into t drawn) f h order j t (u.here ∙ here t m)) known

    grown_new : nat_eq (wanted g c) 0 ≡ false → t ≡ g.next → Goal ext (record { created = g.next ∷ []; dead = drawn; merges = into t drawn; parts = [] }) Changed
    grown_new grows e known h j = grown_settles grows k h old old_none (λ w. own) u (joins_order (into t drawn) k h (opened_order 0 0 (g.next ∷ []) f order) j t (u.here ∙ ap (λ (b : Bag). b.here) at)) known
      where
        k : ℕ → Bag
        k = at_id f g.next (new_bag 0 0)

        at : k t ≡ new_bag 0 0
        at = ap k e ∙ at_here f g.next (new_bag 0 0)

        u : UnitedInto t drawn k h
        u = united_into t drawn k h (ap (λ (b : Bag). b.taken) at) (ap (λ (b : Bag). b.since) at) (parts.t_not_drawn g c rules ok limits) (parts.drawn_apart g c rules ok limits) j

        old_none : (r : ℕ) → r ≢ t → is_near_calm g c r ≡ true → (k r).since ≡ []
        old_none r d m = ap (λ (b : Bag). b.since) (at_other f g.next (new_bag 0 0) r (λ x. d (x ∙ sym e))) ∙ none_noted r m

        old : (r : ℕ) → r ≢ t → (k r).listed ≡ true → g.state r ≢ Dead → KeepsUp (k r) (filter (is_chunk_of g r) all_chunks)
        old r d = let P : Bag → Type 0 = λ b. b.listed ≡ true → g.state r ≢ Dead → KeepsUp b (filter (is_chunk_of g r) all_chunks) in
            subst P (sym (at_other f g.next (new_bag 0 0) r (λ x. d (x ∙ sym e)))) (is r)

        own : (k t).chunks ≡ filter (is_chunk_of g t) all_chunks
        own = ap (λ (b : Bag). b.chunks) at ∙ sym (filter_none (is_chunk_of g t) all_chunks (λ q. false_from_ne_true (is_chunk_of g t q) (λ x.
            let b = and_parts (nat_lt 0 (g.holds q)) (nat_eq (g.owner (section_of g.grid q)) t) x in
            let o : g.owner (section_of g.grid q) ≡ t = eqb-true (g.owner (section_of g.grid q)) t b.1 in
            let p = parts.loaded_present g c rules ok limits q (ltb-true 0 (g.holds q) b.0) in
            let l = rules.below_next (g.owner (section_of g.grid q)) (rules.owner_lives (section_of g.grid q) p) in
            absurd (omega arith))))

    from_goal : (i : GridState) (ch : Changes) (a : AddAnswer) → add g c ≡ i → add_change g c ≡ ch → add_answer g c ≡ a → Goal i ch a → Goal (add g c) (add_change g c) (add_answer g c)
    from_goal i ch a x y z goal =
        subst (λ n. Goal (add g c) (add_change g c) n) (sym z) (subst (λ n. Goal (add g c) n a) (sym y) (subst (λ n. Goal n ch a) (sym x) goal))

    pub can_settle : Goal (add g c) (add_change g c) (add_answer g c)
    can_settle = elim (cases_Bool (is_full g c)) [
      | inl e ↦ from_goal g nothing (Full (present_count g) (wanted g c)) (add_full g c rules ok limits e) (change_full g c rules ok limits e) (rw e refl) (full e)
      | inr e ↦ elim (cases_Bool (nat_eq (wanted g c) 0)) [
        | inl w ↦ from_goal (counted g c) nothing Counted (add_counted g c rules ok limits e w) (change_counted g c rules ok limits e w) (rw (e, w) refl) alone
        | inr w ↦ elim (target_is g c rules ok limits) [
          | inl m ↦
              let below : t < g.next = calm_below g c rules ok limits t m in
              from_goal ext _ Changed (add_ext g c rules ok limits e w) (change_old g c rules ok limits e w (ne_eqb t g.next (λ x. omega arith))) (rw (e, w) refl) (grown_old w m)
          | inr n ↦ from_goal ext _ Changed (add_ext g c rules ok limits e w) (change_new g c rules ok limits e w (eq-eqb t g.next n.0)) (rw (e, w) refl) (grown_new w n.0)
        ]
      ]
    ]
