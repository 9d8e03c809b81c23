-- Which slot a region has, and what changes it.
use Rattle.std.proofs.Common.{zero, suc, [], ◌∷◌, length, set, ◌≡◌, ℕ, ◌<◌, ◌≤◌, refl, sym, ◌∙◌, ap, arith, Bool, true, false, cond, inl, inr}
use Rattle.std.specs.Prelude.{◌≢◌, nat_eq, Option, Some, None, List, is_some}
use Rattle.std.specs.List.{slice_index_or}
use Rattle.std.proofs.lemmas.List.{get_or-set_same, get_or-set_other}
use Rattle.std.proofs.Math.Path.{fun_ext}
use Rattle.std.proofs.lemmas.Bool.{cases_Bool, cases_eq, cases_lt, true≢false, eqb-true, eq-eqb, ne_eqb}
use Rattle.fol_model.specs.declared.regions.State.{State}
use Rattle.fol_model.specs.declared.regions.State.TheVariants.{Dead}
use Rattle.fol_model.specs.Counting.{least}
use Rattle.fol_model.specs.declared.places.TheConstants.{MOST_SECTIONS}
use Rattle.fol_model.specs.GridState.{with_state}
use Rattle.fol_laws.proofs.NumbersBelow.{least-le, least-below, least-passes}
use Rattle.fol_region_tables.specs.declared.slots.Region.{Region}
use Rattle.fol_region_tables.specs.Slots.{SlotTable, region_at, has_id, state_in, slot_of, slot_state}
use Rattle.fol_region_tables.specs.declared.slots.TheConstants.{UNKNOWN}
use Rattle.fol_region_tables.specs.SlotKeys.{AreKeys, key_at}

pub least-none : (p : ℕ → Bool) (n : ℕ) → ((k : ℕ) → k < n → p k ≡ false) → least p n ≡ n
least-none p n h = elim (cases_lt (least p n) n) [
  | inl l ↦ absurd (true≢false (sym (least-passes p n l) ∙ h (least p n) l))
  | inr l ↦ omega (arith, least-le p n)
]

pub least-one : (p : ℕ → Bool) (n k : ℕ) → k < n → p k ≡ true → ((m : ℕ) → m < n → p m ≡ true → m ≡ k) → least p n ≡ k
least-one p n k l h only = let b = least-below p n k l h in let m : least p n < n = omega arith in only (least p n) m (least-passes p n m)

pub has-some : (id : ℕ) (o : Option Region) → has_id id o ≡ true → (r : Region) × (o ≡ Some r) × (r.id ≡ id)
has-some id None h = absurd (true≢false (sym h))
has-some id (Some r) h = (r, refl, eqb-true r.id id h)

module _ (v : SlotTable) where
  pub slot-le : (id : ℕ) → slot_of v id ≤ v.room
  unfolding slot_of
  slot-le id = least-le (λ k. has_id id (region_at v k)) v.room

  -- what a slot has
  pub slot_has : (id : ℕ) → slot_of v id < v.room → (r : Region) × (region_at v (slot_of v id) ≡ Some r) × (r.id ≡ id)
  unfolding slot_of
  slot_has id l = has-some id (region_at v (slot_of v id)) (least-passes (λ k. has_id id (region_at v k)) v.room l)

  -- no slot has a region that has none
  pub none_has : (id k : ℕ) → slot_of v id ≡ v.room → k < v.room → has_id id (region_at v k) ≡ false
  unfolding slot_of
  none_has id k e l = elim (cases_Bool (has_id id (region_at v k))) [
    | inl h ↦ let b = least-below (λ k. has_id id (region_at v k)) v.room k l h in absurd (omega arith)
    | inr h ↦ h
  ]

  -- no slot has the region
  pub slot_none : (id n : ℕ) → n ≡ v.room → ((k : ℕ) → k < n → has_id id (region_at v k) ≡ false) → n ≡ slot_of v id
  unfolding slot_of
  slot_none id n e none = e ∙ sym (least-none (λ k. has_id id (region_at v k)) v.room (λ k l. none k (omega arith)))

  -- a slot tells its region
  pub slot_tells : (a b : ℕ) → slot_of v a < v.room → slot_of v a ≡ slot_of v b → a ≡ b
  slot_tells a b l e =
      let x = slot_has a l in
      let y = slot_has b (omega arith) in
      let same : Some x.0 ≡ Some y.0 = sym x.1 ∙ ap (region_at v) e ∙ y.1 in
      let inner : x.0 ≡ y.0 = cc in
      sym x.2 ∙ ap (λ (r : Region). r.id) inner ∙ y.2

  module _ (keys : List ℕ) (kept : AreKeys v.regions v.room keys) where
    pub at_within : (k : ℕ) (r : Region) → region_at v k ≡ Some r → k < v.room
    at_within k r e = elim (cases_lt k v.room) [
      | inl l ↦ l
      | inr l ↦ let past : region_at v k ≡ None = kept.within k l in let x : None ≡ Some r = sym past ∙ e in absurd (cc)
    ]

    pub slot_is : (k : ℕ) (r : Region) → region_at v k ≡ Some r → slot_of v r.id ≡ k
    unfolding slot_of
    slot_is k r e = least-one (λ m. has_id r.id (region_at v m)) v.room k (at_within k r e) (ap (has_id r.id) e ∙ eq-eqb r.id r.id refl)
        (λ m l h. let x = has-some r.id (region_at v m) h in kept.one m k x.0 r x.1 e x.2)

    -- the slot that has the id
    pub slot_at : (id k : ℕ) → has_id id (region_at v k) ≡ true → k ≡ slot_of v id
    slot_at id k h = let x = has-some id (region_at v k) h in sym (slot_is k x.0 x.1) ∙ ap (slot_of v) x.2

    -- a region whose key leads to another region, or to none, has no slot
    pub slot_stale : (id : ℕ) → key_at keys id ≢ UNKNOWN → has_id id (region_at v (key_at keys id)) ≡ false → slot_of v id ≡ v.room
    unfolding slot_of
    slot_stale id known n = least-none (λ m. has_id id (region_at v m)) v.room (λ m l. elim (cases_Bool (has_id id (region_at v m))) [
      | inl h ↦ let x = has-some id (region_at v m) h in
          let y : key_at keys id ≡ m = rw x.2 at (kept.found m x.0 x.1) known in
          absurd (true≢false (sym h ∙ ap (λ (j : ℕ). has_id id (region_at v j)) (sym y) ∙ n))
      | inr h ↦ h
    ])

module _ (v w : SlotTable) (same : w.room ≡ v.room) where
  slot-like : (id : ℕ) → ((k : ℕ) → has_id id (region_at w k) ≡ has_id id (region_at v k)) → slot_of w id ≡ slot_of v id
  unfolding slot_of
  slot-like id h = λ i. least (λ k. h k i) (same i)

  module _ (at : ℕ) (others : (k : ℕ) → k ≢ at → region_at w k ≡ region_at v k) where
    has-like : (id : ℕ) → has_id id (region_at w at) ≡ has_id id (region_at v at) → (k : ℕ) → has_id id (region_at w k) ≡ has_id id (region_at v k)
    has-like id h k = elim (cases_eq k at) [
      | inl e ↦ ap (λ (j : ℕ). has_id id (region_at w j)) e ∙ h ∙ ap (λ (j : ℕ). has_id id (region_at v j)) (sym e)
      | inr n ↦ ap (has_id id) (others k n)
    ]

    -- ---- a region comes into a free slot
    module _ (r : Region) (changed : region_at w at ≡ Some r) (was : region_at v at ≡ None) (l : at < v.room) (absent : slot_of v r.id ≡ v.room) where
      free : (q : ℕ) → slot_of v q ≢ at
      free q e =
          let x = slot_has v q (omega arith) in
          let y : None ≡ Some x.0 = sym was ∙ ap (region_at v) (sym e) ∙ x.1 in absurd (cc)

      pub free_slot : (q : ℕ) → slot_of v q ≢ at
      free_slot q = free q

      here : (q : ℕ) → r.id ≡ q → slot_of w q ≡ at
      unfolding slot_of
      here q e = least-one (λ k. has_id q (region_at w k)) w.room at (omega arith) (ap (has_id q) changed ∙ eq-eqb r.id q e) (λ m k h. elim (cases_eq m at) [
        | inl x ↦ x
        | inr x ↦ absurd (true≢false (sym h ∙ ap (has_id q) (others m x) ∙ ap (λ (j : ℕ). has_id j (region_at v m)) (sym e) ∙ none_has v r.id m absent (omega arith)))
      ])

      pub slots-come : slot_of w ≡ (λ q. cond (nat_eq r.id q) at (slot_of v q))
      slots-come = fun_ext (λ q. elim (cases_eq r.id q) [
        | inl e ↦ let t : nat_eq r.id q ≡ true = eq-eqb _ _ e in rw t (here q e)
        | inr n ↦ let t : nat_eq r.id q ≡ false = ne_eqb _ _ n in rw t (slot-like q (has-like q (ap (has_id q) changed ∙ t ∙ sym (ap (has_id q) was))))
      ])

      pub states-come : slot_state w ≡ with_state (slot_state v) r.id r.state
      unfolding slot_state
      states-come = fun_ext (λ q. elim (cases_eq r.id q) [
        | inl e ↦ let t : nat_eq r.id q ≡ true = eq-eqb _ _ e in
            let s : slot_of w q ≡ at = ap (λ (f : ℕ → ℕ). f q) slots-come ∙ ap (λ b. cond b at (slot_of v q)) t in
            rw t (ap (λ (k : ℕ). state_in (region_at w k)) s ∙ ap state_in changed)
        | inr n ↦ let t : nat_eq r.id q ≡ false = ne_eqb _ _ n in
            let s : slot_of w q ≡ slot_of v q = ap (λ (f : ℕ → ℕ). f q) slots-come ∙ ap (λ b. cond b at (slot_of v q)) t in
            rw t (ap (λ (k : ℕ). state_in (region_at w k)) s ∙ ap state_in (others (slot_of v q) (free q)))
      ])

    -- ---- a region gets another state
    module _ (r old : Region) (changed : region_at w at ≡ Some r) (was : region_at v at ≡ Some old) (id : old.id ≡ r.id) (l : at < v.room) (here : slot_of v r.id ≡ at) where
      pub slots-stay : slot_of w ≡ slot_of v
      slots-stay = fun_ext (λ q. slot-like q (has-like q (ap (has_id q) changed ∙ ap (λ (k : ℕ). nat_eq k q) (sym id) ∙ sym (ap (has_id q) was))))

      pub states-change : slot_state w ≡ with_state (slot_state v) r.id r.state
      unfolding slot_state
      states-change = fun_ext (λ q. ap (λ (f : ℕ → ℕ). state_in (region_at w (f q))) slots-stay ∙ elim (cases_eq r.id q) [
        | inl e ↦ let t : nat_eq r.id q ≡ true = eq-eqb _ _ e in
            rw t (ap (λ (k : ℕ). state_in (region_at w k)) (ap (slot_of v) (sym e) ∙ here) ∙ ap state_in changed)
        | inr n ↦ let t : nat_eq r.id q ≡ false = ne_eqb _ _ n in
            rw t (ap state_in (others (slot_of v q) (λ e. n (slot_tells v r.id q (omega arith) (here ∙ sym e)))))
      ])

    -- ---- a region goes
    module _ (old : Region) (changed : region_at w at ≡ None) (was : region_at v at ≡ Some old) (l : at < v.room) (end : (k : ℕ) → v.room ≤ k → region_at w k ≡ None) (one : (k : ℕ) (q : Region) → region_at v k ≡ Some q → q.id ≡ old.id → k ≡ at) where
      gone : (q : ℕ) → old.id ≡ q → slot_of w q ≡ v.room
      unfolding slot_of
      gone q e = least-none (λ k. has_id q (region_at w k)) w.room (λ m k. elim (cases_Bool (has_id q (region_at w m))) [
        | inr h ↦ h
        | inl h ↦ elim (cases_eq m at) [
          | inl x ↦ ap (λ (j : ℕ). has_id q (region_at w j)) x ∙ ap (has_id q) changed
          | inr x ↦ let y = has-some q (region_at v m) (ap (has_id q) (sym (others m x)) ∙ h) in absurd (x (one m y.0 y.1 (y.2 ∙ sym e)))
        ]
      ]) ∙ same

      pub slots-go : slot_of w ≡ (λ q. cond (nat_eq old.id q) v.room (slot_of v q))
      slots-go = fun_ext (λ q. elim (cases_eq old.id q) [
        | inl e ↦ let t : nat_eq old.id q ≡ true = eq-eqb _ _ e in rw t (gone q e)
        | inr n ↦ let t : nat_eq old.id q ≡ false = ne_eqb _ _ n in rw t (slot-like q (has-like q (ap (has_id q) changed ∙ sym t ∙ sym (ap (has_id q) was))))
      ])

      dead : (q : ℕ) → old.id ≡ q → state_in (region_at w (slot_of w q)) ≡ Dead
      dead q e = elim (cases_lt (slot_of w q) w.room) [
        | inr m ↦ ap state_in (end (slot_of w q) (omega arith))
        | inl m ↦ let s : slot_of w q ≡ v.room = ap (λ (f : ℕ → ℕ). f q) slots-go ∙ ap (λ b. cond b v.room (slot_of v q)) (eq-eqb _ _ e) in absurd (omega arith)
      ]

      pub states-go : slot_state w ≡ with_state (slot_state v) old.id Dead
      unfolding slot_state
      states-go = fun_ext (λ q. elim (cases_eq old.id q) [
        | inl e ↦ let t : nat_eq old.id q ≡ true = eq-eqb _ _ e in rw t (dead q e)
        | inr n ↦ let t : nat_eq old.id q ≡ false = ne_eqb _ _ n in
            let s : slot_of w q ≡ slot_of v q = ap (λ (f : ℕ → ℕ). f q) slots-go ∙ ap (λ b. cond b v.room (slot_of v q)) t in
            rw t (ap (λ (k : ℕ). state_in (region_at w k)) s ∙ elim (cases_eq (slot_of v q) at) [
              | inr x ↦ ap state_in (others (slot_of v q) x)
              | inl x ↦ let y = slot_has v q (omega arith) in let z : Some old ≡ Some y.0 = sym was ∙ ap (region_at v) (sym x) ∙ y.1 in
                  let i : old ≡ y.0 = cc in absurd (n (ap (λ (r : Region). r.id) i ∙ y.2))
            ])
      ])

-- a slot that has a region is a slot
pub slot_held : (v : SlotTable) (keys : List ℕ) → AreKeys v.regions v.room keys → (id at : ℕ) → at ≡ slot_of v id → is_some (region_at v at) ≡ true → slot_of v id < v.room
slot_held v keys kept id at is held = elim (cases_lt (slot_of v id) v.room) [
  | inl l ↦ l
  | inr l ↦ absurd (true≢false (sym held ∙ ap is_some (kept.within at (omega arith))))
]

-- ---- the keys
-- no region is there
pub keys_none : (regions : List (Option Region)) (room : ℕ) (keys : List ℕ) → regions ≡ [] → MOST_SECTIONS ≤ room → AreKeys regions room keys
keys_none regions room keys empty most = record {
  one = λ j k q r e f i. absurd (nobody j q e);
  found = λ k r e. absurd (nobody k r e);
  within = λ k l. ap (λ rs. slice_index_or rs k None) empty;
  most = most;
}
  where
    nobody : (k : ℕ) (r : Region) → slice_index_or regions k None ≡ Some r → ⊥
    nobody k r e = let x : None ≡ Some r = sym (ap (λ rs. slice_index_or rs k None) empty) ∙ e in absurd (cc)

-- a region leaves its slot
pub keys_go : (v w : SlotTable) (keys : List ℕ) → AreKeys v.regions v.room keys → w.room ≡ v.room → (at : ℕ) → region_at w at ≡ None → ((k : ℕ) → k ≢ at → region_at w k ≡ region_at v k) → AreKeys w.regions w.room keys
keys_go v w keys kept same at changed others = record {
  one = λ j k q r e f i. kept.one j k q r (before j q e) (before k r f) i;
  found = λ k r e. kept.found k r (before k r e);
  within = λ k l. elim (cases_eq k at) [
    | inl x ↦ ap (region_at w) x ∙ changed
    | inr x ↦ others k x ∙ kept.within k (omega arith)
  ];
  most = omega (arith, kept.most);
}
  where
    before : (k : ℕ) (r : Region) → region_at w k ≡ Some r → region_at v k ≡ Some r
    before k r e = elim (cases_eq k at) [
      | inl x ↦ let y : None ≡ Some r = sym changed ∙ ap (region_at w) (sym x) ∙ e in absurd (cc)
      | inr x ↦ sym (others k x) ∙ e
    ]

-- a region comes into a free slot, and its key leads there
pub keys_come : (v w : SlotTable) (keys keys' : List ℕ) (at : ℕ) (q : Region) → AreKeys v.regions v.room keys → w.room ≡ v.room → at < v.room → slot_of v q.id ≡ v.room → region_at w at ≡ Some q
    → ((k : ℕ) → k ≢ at → region_at w k ≡ region_at v k) → (key_at keys' q.id ≢ UNKNOWN → key_at keys' q.id ≡ at) → ((m : ℕ) → m ≢ q.id → key_at keys' m ≡ key_at keys m) → AreKeys w.regions w.room keys'
keys_come v w keys keys' at q kept same l absent changed others here put = record {
  one = λ j k x y e f i. elim (cases_eq j at) [
    | inl a ↦ elim (cases_eq k at) [
      | inl b ↦ a ∙ sym b
      | inr b ↦ absurd (differs k y (sym (others k b) ∙ f) (sym i ∙ sym (ap (λ (s : Region). s.id) (here_is j x a e))))
    ]
    | inr a ↦ elim (cases_eq k at) [
      | inl b ↦ absurd (differs j x (sym (others j a) ∙ e) (i ∙ sym (ap (λ (s : Region). s.id) (here_is k y b f))))
      | inr b ↦ kept.one j k x y (sym (others j a) ∙ e) (sym (others k b) ∙ f) i
    ]
  ];
  found = λ k r e known. elim (cases_eq k at) [
    | inl x ↦ let z : q.id ≡ r.id = ap (λ (s : Region). s.id) (here_is k r x e) in let there = rw z at here in there known ∙ sym x
    | inr x ↦
        let was : region_at v k ≡ Some r = sym (others k x) ∙ e in
        let key = put r.id (differs k r was) in
        key ∙ kept.found k r was (λ u. known (key ∙ u))
  ];
  within = λ k m. others k (λ e. absurd (omega arith)) ∙ kept.within k (omega arith);
  most = omega (arith, kept.most);
}
  where
    here_is : (k : ℕ) (r : Region) → k ≡ at → region_at w k ≡ Some r → q ≡ r
    here_is k r x e = let y : Some q ≡ Some r = sym changed ∙ ap (region_at w) (sym x) ∙ e in cc

    differs : (k : ℕ) (r : Region) → region_at v k ≡ Some r → r.id ≢ q.id
    differs k r was id = true≢false (sym (ap (has_id q.id) was ∙ eq-eqb r.id q.id id) ∙ none_has v q.id k absent (at_within v keys kept k r was))

-- a slot is taken back
module _ (v w : SlotTable) (same : w.room ≡ v.room) (keys : List ℕ) (kept : AreKeys v.regions v.room keys) (id at : ℕ) (is : at ≡ slot_of v id)
    (changed : region_at w at ≡ None) (others : (k : ℕ) → k ≢ at → region_at w k ≡ region_at v k) where
  end : (k : ℕ) → v.room ≤ k → region_at w k ≡ None
  end k l = elim (cases_eq k at) [
    | inl e ↦ ap (region_at w) e ∙ changed
    | inr e ↦ others k e ∙ kept.within k l
  ]

  alike : v.room ≤ at → (k : ℕ) → region_at w k ≡ region_at v k
  alike l k = elim (cases_eq k at) [
    | inl e ↦ ap (region_at w) e ∙ changed ∙ sym (ap (region_at v) e ∙ kept.within at l)
    | inr e ↦ others k e
  ]

  pub removed_slots : slot_of w ≡ (λ q. cond (nat_eq id q) v.room (slot_of v q))
  removed_slots = elim (cases_lt (slot_of v id) v.room) [
    | inl l ↦ let x = slot_has v id l in
        let was : region_at v at ≡ Some x.0 = ap (region_at v) is ∙ x.1 in
        slots-go v w same at others x.0 changed was (omega arith) end (λ k q e f. kept.one k at q x.0 e was f) ∙ ap {B = ℕ → ℕ} (λ (j : ℕ). λ q. cond (nat_eq j q) v.room (slot_of v q)) x.2
    | inr l ↦ fun_ext (λ q. slot-like v w same q (λ k. ap (has_id q) (alike (omega arith) k)) ∙ elim (cases_eq id q) [
      | inl e ↦ let t : nat_eq id q ≡ true = eq-eqb _ _ e in rw t (ap (slot_of v) (sym e) ∙ omega (arith, slot-le v id))
      | inr e ↦ let t : nat_eq id q ≡ false = ne_eqb _ _ e in rw t refl
    ])
  ]

  pub removed_states : slot_state w ≡ with_state (slot_state v) id Dead
  unfolding slot_state
  removed_states = elim (cases_lt (slot_of v id) v.room) [
    | inl l ↦ let x = slot_has v id l in
        let was : region_at v at ≡ Some x.0 = ap (region_at v) is ∙ x.1 in
        states-go v w same at others x.0 changed was (omega arith) end (λ k q e f. kept.one k at q x.0 e was f) ∙ ap {B = ℕ → State} (λ (j : ℕ). with_state (slot_state v) j Dead) x.2
    | inr l ↦ fun_ext (λ q. let s = slot-like v w same q (λ k. ap (has_id q) (alike (omega arith) k)) in
        ap (λ (k : ℕ). state_in (region_at w k)) s ∙ ap state_in (alike (omega arith) (slot_of v q)) ∙ elim (cases_eq id q) [
          | inl e ↦ let t : nat_eq id q ≡ true = eq-eqb _ _ e in rw t (ap state_in (kept.within (slot_of v q) (omega (arith, ap (slot_of v) e))))
          | inr e ↦ let t : nat_eq id q ≡ false = ne_eqb _ _ e in rw t refl
        ])
  ]

-- another state in a slot
module _ (regions : List (Option Region)) (room at : ℕ) (old : Region) (state : State) (was : slice_index_or regions at None ≡ Some old) where
  bounds : (xs : List (Option Region)) (k : ℕ) → slice_index_or xs k None ≡ Some old → k < length xs
  bounds [] k e = absurd (cc)
  bounds (x ∷ xs) zero e = omega arith
  bounds (x ∷ xs) (suc k) e = omega (arith, bounds xs k e)

  abbrev v : SlotTable
  v = record { regions = regions; room = room }

  abbrev w : SlotTable
  w = record { regions = set regions at (Some (record { id = old.id; state = state })); room = room }

  pub set_slots : at < room → slot_of v old.id ≡ at → slot_of w ≡ slot_of v
  set_slots l here = slots-stay v w refl at (λ k n. get_or-set_other regions at k _ None n) (record { id = old.id; state = state }) old (get_or-set_same regions at _ None (bounds regions at was)) was refl l here

  pub set_states : at < room → slot_of v old.id ≡ at → slot_state w ≡ with_state (slot_state v) old.id state
  set_states l here = states-change v w refl at (λ k n. get_or-set_other regions at k _ None n) (record { id = old.id; state = state }) old (get_or-set_same regions at _ None (bounds regions at was)) was refl l here

  before : (k : ℕ) (r : Region) → region_at w k ≡ Some r → (q : Region) × (region_at v k ≡ Some q) × (q.id ≡ r.id)
  before k r e = elim (cases_eq k at) [
    | inl x ↦
        let y : Some (record { id = old.id; state = state }) ≡ Some r = sym (get_or-set_same regions at (Some (record { id = old.id; state = state })) None (bounds regions at was)) ∙ ap (region_at w) (sym x) ∙ e in
        let z : record { id = old.id; state = state } ≡ r = cc in
        (old, ap (region_at v) x ∙ was, ap (λ (s : Region). s.id) z)
    | inr x ↦ (r, sym (get_or-set_other regions at k (Some (record { id = old.id; state = state })) None x) ∙ e, refl)
  ]

  pub set_keys : (keys : List ℕ) → AreKeys regions room keys → AreKeys w.regions room keys
  set_keys keys kept = record {
    one = λ j k q r e f i. let x = before j q e in let y = before k r f in kept.one j k x.0 y.0 x.1 y.1 (x.2 ∙ i ∙ sym y.2);
    found = λ k r e. let x = before k r e in rw x.2 at (kept.found k x.0 x.1);
    within = λ k m. elim (cases_eq k at) [
      | inl x ↦ let y : None ≡ Some old = sym (kept.within at (omega arith)) ∙ was in absurd (cc)
      | inr x ↦ get_or-set_other regions at k (Some (record { id = old.id; state = state })) None x ∙ kept.within k m
    ];
    most = kept.most;
  }
