-- The bag of a region is exchanged with a fresh one.
use Rattle.std.proofs.Common.{◌≡◌, ◌≢◌, ℕ, ◌<◌, ◌≤◌, true, false, not, ◌||◌, List, refl, sym, ◌∙◌, ap, subst, inl, inr, Option, Some, None}
use Rattle.std.specs.Prelude.{nat_eq, if◌then◌else◌, length}
use Rattle.std.specs.Option.{option_or}
use Rattle.std.proofs.lemmas.Bool.{cases_Bool, eqb-true, true≢false}
use Rattle.fol_queues.specs.Waiting.{option_filter}
use Rattle.fol_model.specs.declared.places.ChunkPos.{ChunkPos}
use Rattle.fol_chunks.specs.Contents.{is_recorded}
use Rattle.fol_queues.proofs.Numbers.{nat_self}
use Rattle.fol_bags.specs.declared.slot.Slot.{Slot}
use Rattle.fol_bags.specs.Moves.{Loses, Gains}
use Rattle.fol_bags.specs.declared.places.Place.{Place}
use Rattle.fol_bags.specs.Places.{PlaceRows, exchanged, rehomed}
use Rattle.fol_bags.specs.Things.{Key, Thing, things, chunk_at}
use Rattle.fol_store.specs.Stock.{Stock, Where, arriving, in_spot, in_bag, slot, place, column, bag_of, shown}
use Rattle.fol_store.specs.Sound.{Near, IsBag, IsSound}
use Rattle.fol_store.specs.Steps.{SameWorld}
use Rattle.fol_store.proofs.Columns.{Stayed, filter_no, filter_yes, moves_back}
use Rattle.fol_store.proofs.Totals.{where_cases}
use Rattle.fol_store.proofs.Drawing.{with_parts, Pours, at_source, at_target, apart_bags, moves_over, home_moves, home_cases}
use Rattle.fol_store.proofs.GoingOver.{Pair, WentOver, went_over}
use Rattle.fol_store.proofs.Stepping.{here_not_taken}

never : {P : Type 0} → false ≡ true → P
never e = absurd (true≢false (sym e))

-- two bags have the same numbers
pub record SameNumbers (s : Stock) (u id : ℕ) : Type 0 where
  pub tick : (slot s id).body.tick ≡ (slot s u).body.tick
  pub owed : (slot s id).body.owed ≡ (slot s u).body.owed

pub same_numbers : (s v : Stock) (u id : ℕ) → s ≡ v → Pair s u id → (bag_of v u).tick ≡ (bag_of v id).tick → (bag_of v u).owed ≡ (bag_of v id).owed → SameNumbers s u id
unfolding bag_of
same_numbers s v u id e pair tick owed = record {
  tick = let f : (bag_of s u).tick ≡ (bag_of s id).tick = rw e tick in sym (rw (pair.here, pair.id_here) at f);
  owed = let f : (bag_of s u).owed ≡ (bag_of s id).owed = rw e owed in sym (rw (pair.here, pair.id_here) at f);
}

-- ---- all that lies in the first bag lies on the chunks, and nothing lies in the second
module _ (s : Stock) (u id : ℕ) (chunks : List ChunkPos) (h : IsSound s) (pair : Pair s u id) (numbers : SameNumbers s u id)
    (all : (q : ChunkPos) → (place s q).bag ≡ Some u → is_recorded chunks q ≡ true) where
  none_lies : (k : Key) → things (slot s id).body k ≡ None
  none_lies k = go (things (slot s id).body k) refl
    where
      go : (o : Option (Thing k)) → things (slot s id).body k ≡ o → things (slot s id).body k ≡ None
      go None e = e
      go (Some x) e = never (sym (ap (λ l. is_recorded l (chunk_at k x)) pair.bare) ∙ (h.bags id).claims (rw pair.id_here refl) (chunk_at k x) (h.lies k (in_bag id) x e))

  recorded_all : (k : Key) (x : Thing k) → things (slot s u).body k ≡ Some x → is_recorded chunks (chunk_at k x) ≡ true
  recorded_all k x e = all (chunk_at k x) (h.lies k (in_bag u) x e)

  pub swap_loses : Loses chunks (slot s u).body (slot s id).body
  swap_loses = record { things = λ k. none_lies k ∙ sym (none_left k (things (slot s u).body k) refl); tick = numbers.tick; owed = numbers.owed }
    where
      none_left : (k : Key) (o : Option (Thing k)) → things (slot s u).body k ≡ o → option_filter (λ x. not (is_recorded chunks (chunk_at k x))) (things (slot s u).body k) ≡ None
      none_left k None e = rw e refl
      none_left k (Some x) e = filter_no (λ y. not (is_recorded chunks (chunk_at k y))) (things (slot s u).body k) x e (ap not (recorded_all k x e))

  pub swap_gains : Gains chunks (slot s u).body (slot s id).body (slot s u).body
  swap_gains = record {
    things = λ k. sym (ap (λ o. option_or o (option_filter (λ x. is_recorded chunks (chunk_at k x)) (things (slot s u).body k))) (none_lies k) ∙ all_come k (things (slot s u).body k) refl);
    tick = sym numbers.tick;
    owed = sym numbers.owed;
  }
    where
      all_come : (k : Key) (o : Option (Thing k)) → things (slot s u).body k ≡ o → option_filter (λ x. is_recorded chunks (chunk_at k x)) (things (slot s u).body k) ≡ things (slot s u).body k
      all_come k None e = rw e refl
      all_come k (Some x) e = filter_yes (λ y. is_recorded chunks (chunk_at k y)) (things (slot s u).body k) x e (recorded_all k x e) ∙ sym e

-- where no chunk names the second bag, and those that name the first are these, an exchange is a renaming of these
pub exchanged-rehomed : (chunks : List ChunkPos) (u id : ℕ) (c : ChunkPos) (p : Place) → p.bag ≢ Some id → (p.bag ≡ Some u → is_recorded chunks c ≡ true) → exchanged u id p ≡ rehomed chunks u id c p
exchanged-rehomed chunks u id c p never_second first_listed = go p.spot p.bag never_second first_listed
  where
    differ : (n m : ℕ) → n ≢ m → nat_eq n m ≡ false
    differ n m h = elim (cases_Bool (nat_eq n m)) [ inl e ↦ absurd (h (eqb-true n m e)) | inr e ↦ e ]

    go : (spot o : Option ℕ) → o ≢ Some id → (o ≡ Some u → is_recorded chunks c ≡ true)
        → exchanged u id (record { spot = spot; bag = o }) ≡ rehomed chunks u id c (record { spot = spot; bag = o })
    go spot None a b = elim (cases_Bool (is_recorded chunks c)) [ inl e ↦ rw e refl | inr e ↦ rw e refl ]
    go spot (Some n) a b = elim (cases_Bool (nat_eq u n)) [
      | inl e ↦
          let g : u ≡ n = eqb-true u n e in
          let f : nat_eq n u ≡ true = ap (nat_eq n) g ∙ nat_self n in
          let r : is_recorded chunks c ≡ true = b (ap (λ (m : ℕ). Some m) (sym g)) in
          rw (e, f, r) refl
      | inr e ↦
          let f : nat_eq n u ≡ false = differ n u (λ g. true≢false (sym (nat_self u) ∙ ap (nat_eq u) (sym g) ∙ e)) in
          let k : nat_eq n id ≡ false = differ n id (λ g. a (ap (λ (m : ℕ). Some m) g)) in
          elim (cases_Bool (is_recorded chunks c)) [ inl r ↦ rw (e, f, k, r) refl | inr r ↦ rw (e, f, k, r) refl ]
    ]

-- ---- the bags are exchanged, and so are their names at the chunks
module _ (s : Stock) (bags : List Slot) (places : PlaceRows) (spare slots u id : ℕ) where
  abbrev t : Stock
  t = with_parts s s.spots bags places spare slots

  abbrev list : List ChunkPos
  list = (slot s u).chunks

  pub record Exchanges : Type 0 where
    pub each : (n : ℕ) → slot t n ≡ (if nat_eq u n then slot s id else (if nat_eq id n then slot s u else slot s n))
    pub homes : (q : ChunkPos) → place t q ≡ exchanged u id (place s q)
    pub pair : Pair s u id
    pub numbers : SameNumbers s u id
    pub long : length bags ≡ length s.bags
    pub there : id < length s.bags
    pub more_spare : s.spare ≤ spare
    pub more_slots : s.slots ≤ slots

  pub record Exchanged : Type 0 where
    pub sound : IsSound t
    pub «from» : bag_of t u ≡ bag_of s id
    pub to : bag_of t id ≡ bag_of s u
    pub others : (n : ℕ) → n ≢ u → n ≢ id → bag_of t n ≡ bag_of s n
    pub same : SameWorld s t

  module _ (d : Exchanges) (h : IsSound s) where
    u_home : (slot s u).taken ≡ false
    u_home = here_not_taken u s h d.pair.here

    id_home : (slot s id).taken ≡ false
    id_home = here_not_taken id s h d.pair.id_here

    all : (q : ChunkPos) → (place s q).bag ≡ Some u → is_recorded list q ≡ true
    all q e = (h.bags u).claims (rw d.pair.here refl) q e

    -- no chunk names a bag that has none
    none : (q : ChunkPos) → (place s q).bag ≢ Some id
    none q e = true≢false (sym ((h.bags id).claims (rw d.pair.id_here refl) q e) ∙ ap (λ l. is_recorded l q) d.pair.bare)

    pours : Pours s bags places spare slots u id list (slot s id) (slot s u)
    pours = record {
      each = d.each;
      loses = swap_loses s u id list h d.pair d.numbers all;
      gains = swap_gains s u id list h d.pair d.numbers all;
      homes = λ q. d.homes q ∙ exchanged-rehomed list u id q (place s q) (none q) (all q);
      apart = d.pair.apart;
      long = d.long;
      there = d.there;
      timely = h.bag_times id;
      to_timely = h.bag_times u;
    }

    first_bag : IsBag t u (slot s id)
    first_bag = record {
      claims = λ o c q. elim (home_cases s bags places spare slots u id list (slot s id) (slot s u) pours c u q) [
        | inl z ↦ absurd (d.pair.apart z.here)
        | inr z ↦
            let e : Some u ≡ Some id = sym q ∙ home_moves s bags places spare slots u id list (slot s id) (slot s u) pours c (all c z) z in
            let f : u ≡ id = cc in absurd (d.pair.apart f)
      ];
      held = λ o c r. never (sym (shut o));
      near = λ o k w x q r. never (sym d.pair.id_unlisted ∙ o);
      untouched = λ o p. never (sym d.pair.id_unlisted ∙ o);
      opened = λ o. never (sym d.pair.id_unlisted ∙ o);
      one = (h.bags id).one;
      out = λ o k x q. never (sym id_home ∙ o);
      list = (h.bags id).list;
    }
      where
        shut : ((slot s id).listed || (slot s id).taken) ≡ true → true ≡ false
        shut o = sym o ∙ rw (d.pair.id_unlisted, id_home) refl

    second_bag : IsBag t id (slot s u)
    second_bag = record {
      claims = λ o c q. elim (home_cases s bags places spare slots u id list (slot s id) (slot s u) pours c id q) [
        | inl z ↦ z.listed
        | inr z ↦ absurd (none c z)
      ];
      held = λ o c r. home_moves s bags places spare slots u id list (slot s id) (slot s u) pours c r ((h.bags u).held o c r);
      near = λ o k w x q r. elim (moves_back where_cases (column s k) (column t k) (in_bag u) (in_bag id) (λ y. is_recorded list (chunk_at k y))
          (apart_bags s bags places spare slots u id list (slot s id) (slot s u) pours)
          (moves_over s bags places spare slots u id list (slot s id) (slot s u) pours k) w x q) [
            | inl z ↦ subst (Near id (slot s u) (chunk_at k x)) (sym z.there) refl
            | inr z ↦ close k w x z r ((h.bags u).near o k w x z.had r)
          ];
      untouched = (h.bags u).untouched;
      opened = (h.bags u).opened;
      one = (h.bags u).one;
      out = λ o k x q. never (sym u_home ∙ o);
      list = (h.bags u).list;
    }
      where
        close : (k : Key) (w : Where) (x : Thing k) → Stayed where_cases (column s k) (column t k) (in_bag u) w (λ y. is_recorded list (chunk_at k y)) x
            → is_recorded (slot s u).chunks (chunk_at k x) ≡ true → Near u (slot s u) (chunk_at k x) w → Near id (slot s u) (chunk_at k x) w
        close k arriving x z r n = n
        close k (in_spot i) x z r n = n
        close k (in_bag v) x z r n = never (sym (z.fails (ap (λ m. in_bag m) n)) ∙ r)

    over : WentOver s bags places spare slots u id list (slot s id) (slot s u)
    over = went_over s bags places spare slots u id list (slot s id) (slot s u) (record {
      pours = pours;
      first = first_bag;
      second = second_bag;
      more_spare = d.more_spare;
      more_slots = d.more_slots;
    }) h

    pub bags_exchanged : Exchanged
    unfolding bag_of
    bags_exchanged = record {
      sound = over.sound;
      «from» = ap shown (at_source s bags places spare slots u id list (slot s id) (slot s u) pours);
      to = ap shown (at_target s bags places spare slots u id list (slot s id) (slot s u) pours);
      others = over.others;
      same = over.same;
    }
