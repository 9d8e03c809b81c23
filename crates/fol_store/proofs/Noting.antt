-- What is noted of the spots where tasks may lie, and a listed bag for which they are drawn.
use Rattle.std.proofs.Common.{◌≡◌, ◌≢◌, ℕ, ◌≤◌, Bool, true, false, not, ◌||◌, ◌&&◌, List, [], length, refl, sym, ◌∙◌, ap, subst, inl, inr, arith, Some, None}
use Rattle.std.specs.Prelude.{nat_eq, if◌then◌else◌}
use Rattle.std.proofs.lemmas.Bool.{cases_Bool, cases_eq, eqb-true}
use Rattle.std.proofs.Math.Path.{fun_ext}
use Rattle.fol_model.specs.declared.places.ChunkPos.{ChunkPos}
use Rattle.fol_chunks.specs.Contents.{is_recorded}
use Rattle.fol_keyed.proofs.Places.{same_chunk-true}
use Rattle.fol_bags.specs.declared.slot.Slot.{Slot}
use Rattle.fol_store.specs.Bag.{Bag}
use Rattle.fol_store.specs.Gathered.{Spared, IsClear, Touched}
use Rattle.fol_bags.specs.Things.{Key, Thing, chunk_at}
use Rattle.fol_store.specs.Stock.{Stock, Where, arriving, in_spot, in_bag, slot, place, column, bag_of, shown}
use Rattle.fol_store.specs.Sound.{Near, IsBag, IsSound}
use Rattle.fol_store.specs.Steps.{IsNoted, IsReopened}
use Rattle.fol_store.proofs.Resound.{SameColumns}
use Rattle.fol_store.proofs.BagSteps.{with_bags, one_sound, one_columns, one_found, one_step, bag_slot, slot_here, slot_other}
use Rattle.fol_store.proofs.Spotting.{Spotted, none_arrives}
use Rattle.fol_store.proofs.Settling.{Settled}
use Rattle.fol_store.proofs.Stepping.{here_not_taken}

-- a bag that is spared and had none of the chunks where it was listed is the same
pub spared_clear : (chunks : List ChunkPos) (a b : Bag) → Spared chunks a b → (a.listed ≡ true → IsClear chunks a) → b ≡ a
spared_clear chunks a b s clear = s.same ∙ ap (λ (l : Bool). let r : Bag = record a { listed = l } in r) same
  where
    go : (p q : Bool) → (p ≡ true → q ≡ true) → (q ≡ true → p ≡ true) → q ≡ p
    go true q f g = f refl
    go false true f g = sym (g refl)
    go false false f g = refl

    same : b.listed ≡ a.listed
    same = go a.listed b.listed (λ o. s.kept o (clear o)) s.lost

-- a bag that stays, and one that is listed no more
pub touched_same : (a b : Bag) → b ≡ a → Touched a b
touched_same a b e = record { same = e ∙ sym (ap (λ (z : Bag). let r : Bag = record a { listed = z.listed; chunks = z.chunks } in r) e); listed = λ o. e }

pub touched_unlisted : (a b : Bag) → b ≡ (let r : Bag = record a { listed = false } in r) → Touched a b
touched_unlisted a b e = record {
  same = e ∙ sym (ap (λ (z : Bag). let r : Bag = record a { listed = z.listed; chunks = z.chunks } in r) e);
  listed = λ o. (let z : true ≡ false = sym o ∙ ap (λ (x : Bag). x.listed) e in cc);
}

-- where the bag of the chunk is calm or not listed, nothing has to be noted
pub unstirred_is : (s : Stock) (id : ℕ) (c : ChunkPos) → (place s c).bag ≡ Some id → ((slot s id).listed && not (slot s id).calm) ≡ false → IsNoted s c
unstirred_is s id c home e n q l m =
    let f : Some id ≡ Some n = sym home ∙ q in
    let g : id ≡ n = cc in
    let P : ℕ → Type 0 = λ v. ((slot s v).listed && not (slot s v).calm) ≡ false in
    let r : ((slot s n).listed && not (slot s n).calm) ≡ false = subst P g e in
    let z : true ≡ false = rw (l, m) at r in cc

module _ (s : Stock) (bags : List Slot) (spare slots id : ℕ) where
  abbrev t : Stock
  t = with_bags s bags spare slots

  module _ (list : List ChunkPos) where
    abbrev marked : Slot
    marked = record (slot s id) { touched = list }

    pub marked_step : ((u : ℕ) → slot t u ≡ (if nat_eq id u then marked else slot s u)) → ((q : ChunkPos) → is_recorded (slot s id).touched q ≡ true → is_recorded list q ≡ true) → ((slot s id).listed ≡ true → (slot s id).calm ≡ true → list ≡ [])
        → length bags ≡ length s.bags → s.spare ≤ spare → s.slots ≤ slots → IsSound s → Spotted s t
    unfolding bag_of
    marked_step e more none long more_spare more_slots h = record {
      sound = one_sound s bags spare slots id marked e h (λ k. refl) (omega arith) (h.bag_times id) bag;
      same = record { found = one_found s bags spare slots id marked e h (λ k. refl); bags = long; spare = more_spare; slots = more_slots };
      bags = fun_ext (λ u. ap shown (e u) ∙ elim (cases_Bool (nat_eq id u)) [
        | inl q ↦ rw q (ap (λ v. shown (slot s v)) (eqb-true id u q))
        | inr q ↦ rw q refl
      ]);
    }
      where
        near_more : (c : ChunkPos) (w : Where) → Near id (slot s id) c w → Near id marked c w
        near_more c arriving n = n
        near_more c (in_spot i) n = more c n
        near_more c (in_bag u) n = n

        bag : SameColumns s t → IsBag t id marked
        bag columns = record {
          claims = λ o c q. (h.bags id).claims o c q;
          held = λ o c q. (h.bags id).held o c q;
          near = λ o k w x q r. near_more (chunk_at k x) w ((h.bags id).near o k w x (sym (columns k w) ∙ q) r);
          untouched = none;
          opened = λ o. (h.bags id).opened o;
          one = (h.bags id).one;
          out = λ o k x q. (h.bags id).out o k x (sym (columns k (in_bag id)) ∙ q);
          list = λ o. (h.bags id).list o;
        }

    pub marked_is : ((u : ℕ) → slot t u ≡ (if nat_eq id u then marked else slot s u)) → (c : ChunkPos) → (place s c).bag ≡ Some id → is_recorded list c ≡ true → IsNoted t c
    marked_is e c home r n q l m =
        let f : Some id ≡ Some n = sym home ∙ q in
        let g : id ≡ n = cc in
        let P : ℕ → Type 0 = λ v. is_recorded (slot t v).touched c ≡ true in
        subst P g (ap (λ (b : Slot). is_recorded b.touched c) (slot_here s bags spare slots id marked e) ∙ r)

  abbrev taken_from : Slot
  taken_from = record (slot s id) { listed = false; touched = [] }

  module _ (e : (u : ℕ) → slot t u ≡ (if nat_eq id u then taken_from else slot s u)) (here : (slot s id).here ≡ true) (listed : (slot s id).listed ≡ true) (h : IsSound s) where
    no : {P : Type 0} → false ≡ true → P
    no z = absurd (let f : ⊥ = cc in f)

    not_taken : (slot s id).taken ≡ false
    not_taken = here_not_taken id s h here

    pub reopened_step : length bags ≡ length s.bags → s.spare ≤ spare → s.slots ≤ slots → Settled s t id (let b : Bag = record (bag_of s id) { listed = false } in b)
    reopened_step long more_spare more_slots =
        let step = one_step s bags spare slots id taken_from e (let b : Bag = record (bag_of s id) { listed = false } in b) h (λ k. refl) long (h.bag_times id) bag (ap (λ (b : Bag). let r : Bag = record b { listed = false } in r) (sym (bag_slot s id))) in
        record {
          sound = step.sound;
          bags = step.bags;
          same = record { found = one_found s bags spare slots id taken_from e h (λ k. refl); bags = long; spare = more_spare; slots = more_slots };
        }
      where
        bag : SameColumns s t → IsBag t id taken_from
        bag columns = record {
          claims = λ o c q. (h.bags id).claims o c q;
          held = λ o c q. no (sym not_taken ∙ o);
          near = λ o k w x q r. no o;
          untouched = λ o p. no o;
          opened = λ o. no o;
          one = (h.bags id).one;
          out = λ o k x q. no (sym not_taken ∙ o);
          list = λ o. (h.bags id).list o;
        }

    home : (c : ChunkPos) → is_recorded (slot s id).chunks c ≡ true → (place s c).bag ≡ Some id
    home c r = (h.bags id).held (rw listed refl) c r

    -- another bag that has its chunks has none of these
    apart : (u : ℕ) → u ≢ id → ((slot s u).listed || (slot s u).taken) ≡ true → (c : ChunkPos) → is_recorded (slot s id).chunks c ≡ true → is_recorded (slot s u).chunks c ≡ false
    apart u n o c r = elim (cases_Bool (is_recorded (slot s u).chunks c)) [
      | inl z ↦
          let f : Some u ≡ Some id = sym ((h.bags u).held o c z) ∙ home c r in
          let g : u ≡ id = cc in absurd (n g)
      | inr z ↦ z
    ]

    or_taken : (a b : Bool) → b ≡ true → (a || b) ≡ true
    or_taken true b z = refl
    or_taken false b z = z

    other : (u : ℕ) → u ≢ id → slot t u ≡ slot s u
    other u n = slot_other s bags spare slots id taken_from e u (λ z. n (sym z))

    pub reopened_is : s.arrivals ≡ [] → IsReopened id (slot s id).chunks (slot s id).touched t
    unfolding bag_of
    reopened_is none = record {
      target = record {
        here = ap (λ (b : Slot). b.here) own ∙ here;
        not_listed = ap (λ (b : Slot). b.listed) own;
        chunks_are = ap (λ (b : Slot). b.chunks) own;
        empty = none;
        free = λ u o c r. elim (cases_eq u id) [
          | inl q ↦
              let P : ℕ → Type 0 = λ v. (slot t v).taken ≡ true in
              let p : (slot t id).taken ≡ true = subst P q o in
              no (sym (ap (λ (b : Slot). b.taken) own ∙ not_taken) ∙ p)
          | inr n ↦ ap (λ (b : Slot). is_recorded b.chunks c) (other u n) ∙ apart u n (or_taken (slot s u).listed (slot s u).taken (sym (ap (λ (b : Slot). b.taken) (other u n)) ∙ o)) c r
        ];
      };
      homes = home;
      rest = λ c r m. record { place = home c r; alone = λ k w x a b. only c r m k w x (sym (columns k w) ∙ a) (same_chunk-true c (chunk_at k x) b) };
      others = λ u n o c r. ap (λ (b : Slot). is_recorded b.chunks c) (other u n) ∙ apart u n (rw (sym (ap (λ (b : Slot). b.listed) (other u n)) ∙ o) refl) c r;
    }
      where
        own : slot t id ≡ taken_from
        own = slot_here s bags spare slots id taken_from e

        columns : SameColumns s t
        columns = one_columns s bags spare slots id taken_from e (λ k. refl)

        only : (c : ChunkPos) → is_recorded (slot s id).chunks c ≡ true → is_recorded (slot s id).touched c ≡ false → (k : Key) (w : Where) (x : Thing k) → column s k w ≡ Some x → c ≡ chunk_at k x → w ≡ in_bag id
        only c r m k w x a b = go w a ((h.bags id).near listed k w x a (ap (λ z. is_recorded (slot s id).chunks z) (sym b) ∙ r))
          where
            go : (v : Where) → column s k v ≡ Some x → Near id (slot s id) (chunk_at k x) v → v ≡ in_bag id
            go arriving y n = (let z : None ≡ Some x = sym (none_arrives s k none) ∙ y in cc)
            go (in_spot i) y n = (let z : false ≡ true = sym m ∙ ap (λ q. is_recorded (slot s id).touched q) b ∙ n in cc)
            go (in_bag u) y n = ap (λ v. in_bag v) n
