-- The bags of the parts of a region.
use Rattle.std.proofs.Common.{◌≡◌, ◌≢◌, ℕ, ◌+◌, ◌≤◌, ◌<◌, refl, sym, ◌∙◌, ap, subst, arith, true, false, not, inl, inr, List, length, get_or, filter}
use Rattle.std.specs.Prelude.{nat_eq}
use Rattle.std.specs.List.Sorted.{IsStrictlySortedBy}
use Rattle.std.proofs.lemmas.List.Folds.{list_any_at}
use Rattle.std.proofs.lemmas.Bool.{cases_Bool, cases_eq, eq-eqb, true≢false}
use Rattle.fol_model.specs.declared.places.ChunkPos.{ChunkPos}
use Rattle.fol_model.specs.ActionStep.{at_id}
use Rattle.fol_model.specs.GridState.{GridState}
use Rattle.fol_model.specs.Outputs.{is_chunk_of}
use Rattle.fol_model.specs.Universe.{all_chunks}
use Rattle.fol_chunks.specs.Order.{chunk_cmp}
use Rattle.fol_laws.proofs.FunctionsChanged.{at_here, at_other}
use Rattle.fol_store.specs.Bag.{Bag, no_bag}
use Rattle.fol_store.specs.Relisted.{IsInOrder, IsUngathered, Stays}
use Rattle.fol_world.specs.Bags.{Follow}
use Rattle.fol_world.specs.Begun.{Gathered}
use Rattle.fol_world.specs.Follows.{Settle}
use Rattle.fol_world.specs.Parts.{IsFreshPart, Leaves, SharesBelow, is_left}
use Rattle.fol_world.specs.Released.{AreFresh, HasChunksOf, HasChunksOfAll, opened_parts, part_bag, parted}
use Rattle.fol_world.proofs.ChunkLists.{kept_sorted}
use Rattle.fol_world.proofs.FollowedIds.{among_above, below_not_among}
use Rattle.fol_world.proofs.JoinedBags.{among}
use Rattle.fol_world.proofs.LeftChunks.{all_left, heir_left, left_has, left_heir, left_next}
use Rattle.fol_world.proofs.OpenedBags.{opened_new, opened_off}
use Rattle.fol_world.proofs.SettledBags.{gathered_self}
use Rattle.fol_world.proofs.UnitedBags.{gathered_alike, gathered_then}

-- the bag of a part is listed for its loaded chunks, if for any
pub part_gathered : (g : GridState) (id tick owed : ℕ) (b c : Bag) (chunks : List ChunkPos) → b ≡ part_bag tick owed → Stays b c → (c.listed ≡ true → c.chunks ≡ chunks)
    → chunks ≡ filter (is_chunk_of g id) all_chunks → Gathered g id b c
part_gathered g id tick owed b c chunks e s is all = gathered_alike g id b c (record {
  here = ap (λ (x : Bag). x.here) s;
  taken = ap (λ (x : Bag). x.taken) s;
  counter = ap (λ (x : Bag). x.tick) s;
  owes = ap (λ (x : Bag). x.owed) s;
  since = λ o. ap (λ (x : Bag). x.since) s;
  out = λ o. absurd (true≢false (sym o ∙ ap (λ (x : Bag). x.taken) e));
}) (λ w. is w ∙ all)

-- a bag that only has to be gathered anew stays
pub unlisted_stays : (a b : Bag) → b ≡ (let r : Bag = record a { listed = false } in r) → Stays a b
unlisted_stays a b e = let P : Bag → Type 0 = λ (z : Bag). Stays a z in subst P (sym e) refl

-- ---- a part for which nothing was gathered
module _ (r : ℕ) (f : ℕ → Bag) (id : ℕ) (p : IsFreshPart r f id) where
  pub fresh_ungathered : IsUngathered (f id)
  fresh_ungathered = rw p.fresh (record { here = refl; chunks = refl; listed = refl })

  pub fresh_apart : r ≢ id
  fresh_apart e = let l : r < id = p.below in absurd (omega arith)

  pub fresh_tick : (f r).tick ≡ (f id).tick
  fresh_tick = sym (ap (λ (b : Bag). b.tick) p.fresh)

  pub fresh_owed : (f r).owed ≡ (f id).owed
  fresh_owed = sym (ap (λ (b : Bag). b.owed) p.fresh)

-- ---- the bags while a region shares out
module _ (g : GridState) (r heir : ℕ) (ids : List ℕ) (f : ℕ → Bag) where
  pub shares_none : (n : ℕ) → Follow n ids → among heir ids ≡ true → HasChunksOfAll g ids (f r) → SharesBelow g r heir ids n f f
  shares_none n follow m has = record {
    rest = refl;
    left = λ w. has.listed w ∙ all_left g heir ids n follow m;
    own = λ u d. gathered_self g u (f u);
    waits = refl;
    later = λ u l. refl;
  }

  module _ (h : ℕ → Bag) where
    still_fresh : (id : ℕ) → h id ≡ f id → Stays (f r) (h r) → IsFreshPart r f id → IsFreshPart r h id
    still_fresh id same rest p = record {
      below = p.below;
      fresh = same ∙ p.fresh ∙ ap (λ n. part_bag n (f r).owed) (sym (ap (λ (b : Bag). b.tick) rest)) ∙ ap (part_bag (h r).tick) (sym (ap (λ (b : Bag). b.owed) rest));
    }

    -- the part of the id n has got nothing
    pub next_fresh : (n : ℕ) → SharesBelow g r heir ids n f h → IsFreshPart r f n → IsFreshPart r h n
    next_fresh n s p = still_fresh n (s.later n (omega arith)) s.rest p

    pub heir_fresh : (n : ℕ) → SharesBelow g r heir ids n f h → IsFreshPart r f heir → IsFreshPart r h heir
    heir_fresh n s p = still_fresh heir s.waits s.rest p

    pub left_order : (n : ℕ) → SharesBelow g r heir ids n f h → IsInOrder (h r)
    left_order n s w = subst (IsStrictlySortedBy chunk_cmp) (sym (s.left w)) (kept_sorted (is_left g heir ids n))

    pub left_part : (n : ℕ) → SharesBelow g r heir ids n f h → among n ids ≡ true → (h r).listed ≡ true → HasChunksOf g (h r).chunks n
    left_part n s m w = let P : List ChunkPos → Type 0 = λ xs. HasChunksOf g xs n in subst P (sym (s.left w)) (left_has g heir ids n m)

    -- the heir takes nothing out
    pub shares_heir : (n : ℕ) → n ≡ heir → SharesBelow g r heir ids n f h → SharesBelow g r heir ids (n + 1) f h
    shares_heir n e s = record {
      rest = s.rest;
      left = λ w. s.left w ∙ left_heir g heir ids n e;
      own = s.own;
      waits = s.waits;
      later = λ u l. s.later u (omega arith);
    }

    module _ (k : ℕ → Bag) where
      stays_trans : (a b c : Bag) → Stays a b → Stays b c → Stays a c
      stays_trans a b c x y = y ∙ ap (λ (z : Bag). let w : Bag = record z { listed = c.listed; calm = c.calm; chunks = c.chunks } in w) x

      -- the part of the id n takes its own
      pub shares_next : (n : ℕ) → n ≢ heir → r < n → r < heir → SharesBelow g r heir ids n f h → Stays (h r) (k r) → Leaves (is_chunk_of g n) (h r) (k r) → Gathered g n (h n) (k n)
          → ((u : ℕ) → u ≢ r → u ≢ n → k u ≡ h u) → SharesBelow g r heir ids (n + 1) f k
      shares_next n d above heir_above s rest leaves own others = record {
        rest = stays_trans (f r) (h r) (k r) s.rest rest;
        left = λ w. let l = leaves w in l.1 ∙ ap (filter (λ c. not (is_chunk_of g n c))) (s.left l.0) ∙ left_next g heir ids n d;
        own = λ u e. gathered_then g u (f u) (h u) (k u) (s.own u e) (elim (cases_eq u n) [
          | inl z ↦ let P : ℕ → Type 0 = λ v. Gathered g v (h v) (k v) in subst P (sym z) own
          | inr z ↦ subst (Gathered g u (h u)) (sym (others u e z)) (gathered_self g u (h u))
        ]);
        waits = others heir (λ e. absurd (omega arith)) (λ e. d (sym e)) ∙ s.waits;
        later = λ u l. others u (λ e. absurd (omega arith)) (λ e. absurd (omega arith)) ∙ s.later u (omega arith);
      }

      -- the heir takes over what is left
      pub shared_out : (n : ℕ) → Follow n ids → IsFreshPart r f heir → HasChunksOfAll g ids (f r) → (f r).here ≡ true → SharesBelow g r heir ids (n + length ids) f h → k r ≡ no_bag → k heir ≡ h r
          → ((u : ℕ) → u ≢ r → u ≢ heir → k u ≡ h u) → Settle g (at_id f r no_bag) k
      shared_out n follow p has here s gone own others u = elim (cases_eq u r) [
        | inl e ↦
            let P : ℕ → Type 0 = λ v. Gathered g v (at_id f r no_bag v) (k v) in
            subst P (sym e) (rw (at_here f r no_bag, gone) (gathered_self g r no_bag))
        | inr d ↦ rw (at_other f r no_bag u d) (elim (cases_eq u heir) [
          | inl e ↦ let P : ℕ → Type 0 = λ v. Gathered g v (f v) (k v) in subst P (sym e) (subst (Gathered g heir (f heir)) (sym own) inherited)
          | inr e ↦ subst (Gathered g u (f u)) (sym (others u d e)) (s.own u d)
        ])
      ]
        where
          inherited : Gathered g heir (f heir) (h r)
          inherited = gathered_alike g heir (f heir) (h r) (record {
            here = ap (λ (b : Bag). b.here) s.rest ∙ here ∙ sym (ap (λ (b : Bag). b.here) p.fresh);
            taken = ap (λ (b : Bag). b.taken) s.rest ∙ has.home ∙ sym (ap (λ (b : Bag). b.taken) p.fresh);
            counter = ap (λ (b : Bag). b.tick) s.rest ∙ sym (ap (λ (b : Bag). b.tick) p.fresh);
            owes = ap (λ (b : Bag). b.owed) s.rest ∙ sym (ap (λ (b : Bag). b.owed) p.fresh);
            since = λ o. ap (λ (b : Bag). b.since) s.rest ∙ has.since ∙ sym (ap (λ (b : Bag). b.since) p.fresh);
            out = λ o. absurd (true≢false (sym o ∙ ap (λ (b : Bag). b.taken) p.fresh));
          }) (λ w. s.left w ∙ heir_left g heir ids n follow)

-- there is no part
pub none_settle : (g : GridState) (r : ℕ) (f : ℕ → Bag) → Settle g (at_id f r no_bag) (at_id f r no_bag)
none_settle g r f u = gathered_self g u (at_id f r no_bag u)

-- ---- the bags of the parts, once they were opened beside that of the region
module _ (n : ℕ) (ids : List ℕ) (r : ℕ) (f : ℕ → Bag) (here : (f r).here ≡ true) (follow : Follow n ids) (below : r < n) where
  abbrev opened : ℕ → Bag
  opened = opened_parts (f r).tick (f r).owed ids f

  not_part : among r ids ≡ false
  not_part = below_not_among n ids r follow below

  pub same_r : opened r ≡ f r
  same_r = opened_off (f r).tick (f r).owed ids f r not_part

  pub are_fresh : AreFresh r ids opened
  are_fresh = record {
    here = ap (λ (b : Bag). b.here) same_r ∙ here;
    first = n;
    follow = follow;
    below = below;
    fresh = λ q m. opened_new (f r).tick (f r).owed ids f q m ∙ ap (λ (b : Bag). part_bag b.tick b.owed) (sym same_r);
  }

  -- it is the same to close the region's bag before and after
  closed_after : (q : ℕ) → at_id opened r no_bag q ≡ parted ids r f q
  closed_after q = elim (cases_eq q r) [
    | inl e ↦
        let P : ℕ → Type 0 = λ v. at_id opened r no_bag v ≡ parted ids r f v in
        subst P (sym e) (at_here opened r no_bag ∙ sym (opened_off (f r).tick (f r).owed ids (at_id f r no_bag) r not_part ∙ at_here f r no_bag))
    | inr d ↦ at_other opened r no_bag q d ∙ elim (cases_Bool (among q ids)) [
      | inl m ↦ opened_new (f r).tick (f r).owed ids f q m ∙ sym (opened_new (f r).tick (f r).owed ids (at_id f r no_bag) q m)
      | inr m ↦ opened_off (f r).tick (f r).owed ids f q m ∙ sym (opened_off (f r).tick (f r).owed ids (at_id f r no_bag) q m ∙ at_other f r no_bag q d)
    ]
  ]

  pub parted_settles : (g : GridState) (k : ℕ → Bag) → Settle g (at_id opened r no_bag) k → Settle g (parted ids r f) k
  parted_settles g k s q = let P : Bag → Type 0 = λ b. Gathered g q b (k q) in subst P (closed_after q) (s q)

-- ---- the parts of a region that shares out
pub fresh_among : (r : ℕ) (ids : List ℕ) (f : ℕ → Bag) (fresh : AreFresh r ids f) (q : ℕ) → among q ids ≡ true → IsFreshPart r f q
fresh_among r ids f fresh q m =
    let a : fresh.first ≤ q = among_above fresh.first ids q fresh.follow m in
    let b : r < fresh.first = fresh.below in
    record { below = omega arith; fresh = fresh.fresh q m }

pub among_at : (ids : List ℕ) (i : ℕ) → i < length ids → among (get_or ids i 0) ids ≡ true
among_at ids i l = list_any_at (nat_eq (get_or ids i 0)) ids i 0 l (eq-eqb (get_or ids i 0) (get_or ids i 0) refl)
