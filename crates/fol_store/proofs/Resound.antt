-- A store stays sound.
use Rattle.std.proofs.Common.{◌≡◌, ◌≢◌, ℕ, ◌<◌, Bool, true, false, ◌||◌, length, refl, sym, ◌∙◌, ap, subst, ◌⊎◌, inl, inr, Some}
use Rattle.std.specs.Prelude.{All}
use Rattle.fol_model.specs.declared.places.ChunkPos.{ChunkPos}
use Rattle.fol_chunks.specs.Contents.{is_recorded}
use Rattle.fol_queues.specs.Distinct.{Distinct}
use Rattle.fol_data.specs.Rests.{IsInTime}
use Rattle.std.proofs.lemmas.Bool.{cases_Bool}
use Rattle.fol_bags.specs.declared.slot.Slot.{Slot}
use Rattle.fol_bags.specs.Things.{Key, Thing, chunk_at, IsTimely}
use Rattle.fol_store.specs.Stock.{Stock, Where, arriving, in_spot, in_bag, slot, spot, place, column, found}
use Rattle.fol_store.specs.Sound.{Allows, Near, IsBag, IsSound}
use Rattle.fol_bags.specs.Slots.{is_open}
use Rattle.fol_store.proofs.Columns.{Moves, Came, Stayed, moves_back, moves_forth, moves_one}
use Rattle.fol_store.proofs.Totals.{where_cases, IsUnique, found_from}

-- the bag is the same but for its things, and perhaps listed or calm no more
pub record Kept (b d : Slot) : Type 0 where
  pub here : d.here ≡ b.here
  pub taken : d.taken ≡ b.taken
  pub chunks : d.chunks ≡ b.chunks
  pub list : d.list ≡ b.list
  pub touched : d.touched ≡ b.touched
  pub listed : d.listed ≡ true → b.listed ≡ true
  pub calm : d.calm ≡ true → b.calm ≡ true

-- where a thing may lie it still may
pub near_kept : (id : ℕ) (b d : Slot) → Kept b d → (c : ChunkPos) (w : Where) → Near id b c w → Near id d c w
near_kept id b d kept c arriving n = λ o. n (kept.calm o)
near_kept id b d kept c (in_spot i) n = ap (λ l. is_recorded l c) kept.touched ∙ n
near_kept id b d kept c (in_bag u) n = n

-- what lies on the chunks of a whole bag lies in it
pub whole_alone : (s : Stock) (id : ℕ) (b : Slot) → IsBag s id b → b.listed ≡ true → b.calm ≡ true → (k : Key) (w : Where) (x : Thing k) → column s k w ≡ Some x → is_recorded b.chunks (chunk_at k x) ≡ true → w ≡ in_bag id
whole_alone s id b h listed calm k w x q r = only w (h.near listed k w x q r)
  where
    only : (w : Where) → Near id b (chunk_at k x) w → w ≡ in_bag id
    only arriving n = absurd (n calm)
    only (in_spot i) n = let z : false ≡ true = sym (ap (λ l. is_recorded l (chunk_at k x)) (h.untouched listed calm)) ∙ n in cc
    only (in_bag u) n = ap (λ v. in_bag v) n

-- from «or» to «or»
pub or_first : (a b c : Bool) → (a ≡ true → b ≡ true) → (a || c) ≡ true → (b || c) ≡ true
or_first true b c f h = ap (λ z. z || c) (f refl)
or_first false true c f h = refl
or_first false false c f h = h

-- a bag that is kept, from what lies on its chunks afterwards
pub kept_bag : (s t : Stock) (id : ℕ) (b d : Slot) → Kept b d
    → ((c : ChunkPos) → (place t c).bag ≡ Some id → ((place s c).bag ≡ Some id) ⊎ (is_recorded b.chunks c ≡ true))
    → ((d.listed || d.taken) ≡ true → (c : ChunkPos) → (place s c).bag ≡ Some id → (place t c).bag ≡ Some id)
    → (d.listed ≡ true → (k : Key) (w : Where) (x : Thing k) → column t k w ≡ Some x → is_recorded b.chunks (chunk_at k x) ≡ true → Near id d (chunk_at k x) w)
    → (d.taken ≡ true → (k : Key) (x : Thing k) → column t k (in_bag id) ≡ Some x → ⊥)
    → IsBag s id b → IsBag t id d
kept_bag s t id b d kept fewer more near out h =
    let opens : is_open d ≡ is_open b = ap2or kept.here kept.taken in
    record {
      claims = λ o c q. rw kept.chunks (elim (fewer c q) [ inl z ↦ h.claims (sym opens ∙ o) c z | inr z ↦ z ]);
      held = λ o c q. more o c (h.held (held_before o) c (sym (ap (λ l. is_recorded l c) kept.chunks) ∙ q));
      near = λ o k w x q r. near o k w x q (sym (ap (λ l. is_recorded l (chunk_at k x)) kept.chunks) ∙ r);
      untouched = λ o p. kept.touched ∙ h.untouched (kept.listed o) (kept.calm p);
      opened = λ o. opens ∙ h.opened (kept.listed o);
      one = rw (kept.here, kept.taken) h.one;
      out = out;
      list = λ o. rw (kept.list, kept.chunks) (h.list (sym kept.taken ∙ o));
    }
  where
    ap2or : d.here ≡ b.here → d.taken ≡ b.taken → (d.here || d.taken) ≡ (b.here || b.taken)
    ap2or g f = rw (g, f) refl

    held_before : (d.listed || d.taken) ≡ true → (b.listed || b.taken) ≡ true
    held_before o = or_first d.listed b.listed b.taken kept.listed (sym (ap (λ z. d.listed || z) kept.taken) ∙ o)

pub kept_self : (b : Slot) → Kept b b
kept_self b = record { here = refl; taken = refl; chunks = refl; list = refl; touched = refl; listed = λ o. o; calm = λ o. o }

module _ (s t : Stock) where
  -- no part changes
  abbrev pub SameColumns : Type 0
  SameColumns = (k : Key) (w : Where) → column t k w ≡ column s k w

  pub same_unique : SameColumns → IsUnique s → IsUnique t
  same_unique e one k v w x y g h = one k v w x y (sym (e k v) ∙ g) (sym (e k w) ∙ h)

  pub same_found : SameColumns → IsUnique s → (k : Key) → found t k ≡ found s k
  same_found e one k = found_from s t one (same_unique e one) k (λ w x h. (w, e k w ∙ h)) (λ w x h. (w, sym (e k w) ∙ h))

  -- a bag that is the same, where no part and no place changes in what matters to it
  pub same_bag : (id : ℕ) (b d : Slot) → Kept b d → SameColumns
      → ((c : ChunkPos) → (place t c).bag ≡ Some id → ((place s c).bag ≡ Some id) ⊎ (is_recorded b.chunks c ≡ true))
      → ((d.listed || d.taken) ≡ true → (c : ChunkPos) → (place s c).bag ≡ Some id → (place t c).bag ≡ Some id)
      → IsBag s id b → IsBag t id d
  same_bag id b d kept e fewer more h =
      let opens : is_open d ≡ is_open b = ap2or kept.here kept.taken in
      record {
        claims = λ o c q. rw kept.chunks (elim (fewer c q) [ inl z ↦ h.claims (sym opens ∙ o) c z | inr z ↦ z ]);
        held = λ o c q. more o c (h.held (held_before o) c (sym (ap (λ l. is_recorded l c) kept.chunks) ∙ q));
        near = λ o k w x q r. near_kept id b d kept (chunk_at k x) w (h.near (kept.listed o) k w x (sym (e k w) ∙ q) (sym (ap (λ l. is_recorded l (chunk_at k x)) kept.chunks) ∙ r));
        untouched = λ o p. kept.touched ∙ h.untouched (kept.listed o) (kept.calm p);
        opened = λ o. opens ∙ h.opened (kept.listed o);
        one = rw (kept.here, kept.taken) h.one;
        out = λ o k x q. h.out (sym kept.taken ∙ o) k x (sym (e k (in_bag id)) ∙ q);
        list = λ o. rw (kept.list, kept.chunks) (h.list (sym kept.taken ∙ o));
      }
    where
      ap2or : d.here ≡ b.here → d.taken ≡ b.taken → (d.here || d.taken) ≡ (b.here || b.taken)
      ap2or g f = rw (g, f) refl

      held_before : (d.listed || d.taken) ≡ true → (b.listed || b.taken) ≡ true
      held_before o = or_first d.listed b.listed b.taken kept.listed (sym (ap (λ z. d.listed || z) kept.taken) ∙ o)

-- some things go from one part to another
module _ (s t : Stock) («from» to : Where) (p : (k : Key) → Thing k → Bool) (apart : «from» ≢ to) (m : (k : Key) → Moves where_cases (column s k) (column t k) «from» to (p k)) where
  abbrev back : (k : Key) (u : Where) (x : Thing k) → column t k u ≡ Some x → Came where_cases (column s k) (column t k) «from» to u (p k) x ⊎ Stayed where_cases (column s k) (column t k) «from» u (p k) x
  back k u x h = moves_back where_cases (column s k) (column t k) «from» to (p k) apart (m k) u x h

  pub moved_unique : IsUnique s → IsUnique t
  moved_unique one k v w x y g h = moves_one where_cases (column s k) (column t k) «from» to (p k) apart (m k) (one k) v w x y g h

  pub moved_found : IsUnique s → (k : Key) → found t k ≡ found s k
  moved_found one k = found_from s t one (moved_unique one) k
      (λ w x h. moves_forth where_cases (column s k) (column t k) «from» to (p k) apart (m k) (one k) w x h)
      (λ w x h. elim (back k w x h) [ inl c ↦ («from», c.had) | inr c ↦ (w, c.had) ])

  pub moved_lies : ((k : Key) (x : Thing k) → column s k «from» ≡ Some x → p k x ≡ true → Allows (place t (chunk_at k x)) to)
      → ((k : Key) (u : Where) (x : Thing k) → column s k u ≡ Some x → (u ≡ «from» → p k x ≡ false) → Allows (place t (chunk_at k x)) u)
      → (k : Key) (w : Where) (x : Thing k) → column t k w ≡ Some x → Allows (place t (chunk_at k x)) w
  moved_lies f g k w x h =
      elim (back k w x h) [
        | inl c ↦ let P : Where → Type 0 = λ v. Allows (place t (chunk_at k x)) v in subst P (sym c.there) (f k x c.had c.passes)
        | inr c ↦ g k w x c.had c.fails
      ]

  -- a bag where what goes may lie there while the bag stays listed, and to which nothing goes where a worker has it
  pub moved_bag : (id : ℕ) (b d : Slot) → Kept b d
      → ((c : ChunkPos) → (place t c).bag ≡ Some id → ((place s c).bag ≡ Some id) ⊎ (is_recorded b.chunks c ≡ true))
      → ((d.listed || d.taken) ≡ true → (c : ChunkPos) → (place s c).bag ≡ Some id → (place t c).bag ≡ Some id)
      → (d.listed ≡ true → (k : Key) (x : Thing k) → column s k «from» ≡ Some x → p k x ≡ true → is_recorded b.chunks (chunk_at k x) ≡ true → Near id d (chunk_at k x) to)
      → (d.taken ≡ true → to ≢ in_bag id)
      → IsBag s id b → IsBag t id d
  moved_bag id b d kept fewer more lands none_come h =
      let opens : is_open d ≡ is_open b = ap2or kept.here kept.taken in
      record {
        claims = λ o c q. rw kept.chunks (elim (fewer c q) [ inl z ↦ h.claims (sym opens ∙ o) c z | inr z ↦ z ]);
        held = λ o c q. more o c (h.held (held_before o) c (sym (ap (λ l. is_recorded l c) kept.chunks) ∙ q));
        near = λ o k w x q r.
            let here : is_recorded b.chunks (chunk_at k x) ≡ true = sym (ap (λ l. is_recorded l (chunk_at k x)) kept.chunks) ∙ r in
            elim (back k w x q) [
              | inl c ↦ let P : Where → Type 0 = λ v. Near id d (chunk_at k x) v in subst P (sym c.there) (lands o k x c.had c.passes here)
              | inr c ↦ near_kept id b d kept (chunk_at k x) w (h.near (kept.listed o) k w x c.had here)
            ];
        untouched = λ o p. kept.touched ∙ h.untouched (kept.listed o) (kept.calm p);
        opened = λ o. opens ∙ h.opened (kept.listed o);
        one = rw (kept.here, kept.taken) h.one;
        out = λ o k x q.
            elim (back k (in_bag id) x q) [
              | inl c ↦ none_come o (sym c.there)
              | inr c ↦ h.out (sym kept.taken ∙ o) k x c.had
            ];
        list = λ o. rw (kept.list, kept.chunks) (h.list (sym kept.taken ∙ o));
      }
    where
      ap2or : d.here ≡ b.here → d.taken ≡ b.taken → (d.here || d.taken) ≡ (b.here || b.taken)
      ap2or g f = rw (g, f) refl

      held_before : (d.listed || d.taken) ≡ true → (b.listed || b.taken) ≡ true
      held_before o = or_first d.listed b.listed b.taken kept.listed (sym (ap (λ z. d.listed || z) kept.taken) ∙ o)

-- some things go from one part to another, and the store stays sound
module _ (s t : Stock) («from» to : Where) (p : (k : Key) → Thing k → Bool) (apart : «from» ≢ to) (m : (k : Key) → Moves where_cases (column s k) (column t k) «from» to (p k)) where
  pub record MovesSoundly : Type 0 where
    pub come : (k : Key) (x : Thing k) → column s k «from» ≡ Some x → p k x ≡ true → Allows (place t (chunk_at k x)) to
    pub stay : (k : Key) (u : Where) (x : Thing k) → column s k u ≡ Some x → (u ≡ «from» → p k x ≡ false) → Allows (place t (chunk_at k x)) u
    pub spot_range : (c : ChunkPos) (i : ℕ) → (place t c).spot ≡ Some i → i < length t.spots
    pub bag_range : (c : ChunkPos) (id : ℕ) → (place t c).bag ≡ Some id → id < length t.bags
    pub kept : (id : ℕ) → Kept (slot s id) (slot t id)
    pub fewer : (id : ℕ) → is_open (slot s id) ≡ true → (c : ChunkPos) → (place t c).bag ≡ Some id → ((place s c).bag ≡ Some id) ⊎ (is_recorded (slot s id).chunks c ≡ true)
    pub more : (id : ℕ) → ((slot t id).listed || (slot t id).taken) ≡ true → (c : ChunkPos) → (place s c).bag ≡ Some id → (place t c).bag ≡ Some id
    pub lands : (id : ℕ) → (slot t id).listed ≡ true → (k : Key) (x : Thing k) → column s k «from» ≡ Some x → p k x ≡ true → is_recorded (slot s id).chunks (chunk_at k x) ≡ true → Near id (slot t id) (chunk_at k x) to
    pub none_come : (id : ℕ) → (slot t id).taken ≡ true → to ≢ in_bag id
    pub spot_times : (i : ℕ) → IsTimely (spot t i)
    pub bag_times : (id : ℕ) → IsTimely (slot t id).body
    pub arrival_times : All (IsInTime 0) t.arrivals
    pub arrivals_differ : Distinct t.arrivals

  pub moved_sound : MovesSoundly → IsSound s → IsSound t
  moved_sound r h = record {
    unique = moved_unique s t «from» to p apart m h.unique;
    lies = moved_lies s t «from» to p apart m r.come r.stay;
    spot_range = r.spot_range;
    bag_range = r.bag_range;
    bags = λ id. open_bag id;
    spot_times = r.spot_times;
    bag_times = r.bag_times;
    arrival_times = r.arrival_times;
    arrivals_differ = r.arrivals_differ;
  }
    where
      open_bag : (id : ℕ) → IsBag t id (slot t id)
      open_bag id =
          elim (cases_Bool (is_open (slot s id))) [
            | inl o ↦ moved_bag s t «from» to p apart m id (slot s id) (slot t id) (r.kept id) (r.fewer id o) (r.more id) (r.lands id) (r.none_come id) (h.bags id)
            | inr z ↦ shut id z
          ]
        where
          shut : (id : ℕ) → is_open (slot s id) ≡ false → IsBag t id (slot t id)
          shut id z =
              let here : (slot s id).here ≡ false = or_left (slot s id).here (slot s id).taken z in
              let taken : (slot s id).taken ≡ false = or_right (slot s id).here (slot s id).taken z in
              closed t id (slot t id) ((r.kept id).here ∙ here) ((r.kept id).taken ∙ taken)
              (not_listed id (slot t id).listed refl z)
              (rw ((r.kept id).list, (r.kept id).chunks) ((h.bags id).list taken))
            where
              or_left : (a b : Bool) → (a || b) ≡ false → a ≡ false
              or_left true b e = e
              or_left false b e = refl

              or_right : (a b : Bool) → (a || b) ≡ false → b ≡ false
              or_right true b e = (let f : true ≡ false = e in cc)
              or_right false b e = e

              not_listed : (id : ℕ) (w : Bool) → (slot t id).listed ≡ w → is_open (slot s id) ≡ false → (slot t id).listed ≡ false
              not_listed id false e z = e
              not_listed id true e z = (let f : true ≡ false = sym ((h.bags id).opened ((r.kept id).listed e)) ∙ z in cc)

              clash : {P : Type 0} → true ≡ false → P
              clash e = absurd (let z : ⊥ = cc in z)

              closed : (t : Stock) (id : ℕ) (b : Slot) → b.here ≡ false → b.taken ≡ false → b.listed ≡ false → b.list ≡ b.chunks → IsBag t id b
              closed t id b here taken listed list =
                  let f : (b.here || b.taken) ≡ false = rw (here, taken) refl in
                  record {
                    claims = λ o c q. clash (sym o ∙ f);
                    held = λ o c q. clash (sym o ∙ (rw (listed, taken) refl));
                    near = λ o k w x q r. clash (sym o ∙ listed);
                    untouched = λ o p. clash (sym o ∙ listed);
                    opened = λ o. clash (sym o ∙ listed);
                    one = rw here refl;
                    out = λ o k x q. clash (sym o ∙ taken);
                    list = λ o. list;
                  }
