-- Bags that may be listed for the chunks of all regions that joined.
use Rattle.std.proofs.Common.{◌≡◌, ◌≢◌, ℕ, refl, sym, ◌∙◌, ap, subst, Bool, true, false, inl, inr, ◌⊎◌, ◌&&◌, ◌||◌, List, [], ◌∷◌, filter}
use Rattle.std.specs.Prelude.{nat_eq}
use Rattle.std.specs.List.Sorted.{IsStrictlySortedBy}
use Rattle.std.proofs.lemmas.Bool.{cases_Bool, cases_eq, and_from, and_parts, eqb-false, eqb-true, or_cases, or_left, or_parts, or_right, true≢false}
use Rattle.fol_model.specs.declared.places.ChunkPos.{ChunkPos}
use Rattle.fol_model.specs.Universe.{all_chunks}
use Rattle.fol_model.specs.declared.regions.State.TheVariants.{Dead}
use Rattle.fol_model.specs.GridState.{GridState}
use Rattle.fol_model.specs.ActionStep.{Recorded, at_id}
use Rattle.fol_model.specs.Outputs.{is_chunk_of}
use Rattle.fol_laws.proofs.Tests.{same_answer}
use Rattle.fol_regions.specs.Changes.{into}
use Rattle.fol_regions.specs.declared.change.MergePair.{MergePair}
use Rattle.fol_chunks.specs.Contents.{is_recorded}
use Rattle.fol_chunks.specs.Order.{chunk_cmp}
use Rattle.fol_store.specs.Bag.{Bag, new_bag, no_bag}
use Rattle.fol_store.specs.Relisted.{IsInOrder}
use Rattle.fol_world.specs.Bags.{Alike, AreInOrder, CanJoin, IsBagOf, Joins, JoinsOne, joined_bag, joined_bags, opened_bags}
use Rattle.fol_world.specs.Begun.{Gathered}
use Rattle.fol_world.proofs.ChunkLists.{kept_sorted, listed}
use Rattle.fol_world.proofs.JoinedBags.{Apart, among}
use Rattle.fol_store.proofs.SameLists.{same_list}
use Rattle.fol_world.proofs.KeptUp.{keeps_exact, keeps_like}

empty_order : IsStrictlySortedBy chunk_cmp []
unfolding IsStrictlySortedBy
empty_order = tt

-- ---- one after another
pub joins_one_order : (m : MergePair) (f h : ℕ → Bag) → AreInOrder f → JoinsOne m f h → AreInOrder h
joins_one_order m f h order one r = elim (cases_eq r m.into) [
  | inl e ↦ λ x w. let P : ℕ → Type 0 = λ n. IsInOrder (h n) in (subst P (sym e) one.own.relisted.order) w
  | inr d ↦ elim (cases_eq r m.from) [
    | inl e ↦ λ x. absurd (true≢false (sym x ∙ ap (λ n. (h n).here) e ∙ ap (λ (b : Bag). b.here) one.gone))
    | inr n ↦ let P : Bag → Type 0 = λ b. b.here ≡ true → IsInOrder b in subst P (sym (one.others r n d)) (order r)
  ]
]

pub joins_order : (ms : List MergePair) (f h : ℕ → Bag) → AreInOrder f → Joins ms f h → AreInOrder h
joins_order [] f h order e = subst AreInOrder (sym e) order
joins_order (m ∷ ms) f h order j = joins_order ms j.0 h (joins_one_order m f j.0 order j.1) j.2

-- bags that are listed for the loaded chunks of their regions are in order
pub are_in_order : (g : GridState) (tick owed : ℕ → ℕ) (recorded : ℕ → Recorded) (f : ℕ → Bag) → ((r : ℕ) → IsBagOf g tick owed recorded r (f r)) → AreInOrder f
are_in_order g tick owed recorded f bags r here w =
    let lives : g.state r ≢ Dead = λ d. let x : false ≡ true = rw d at (sym (bags r).here ∙ here) in true≢false (sym x) in
    ((bags r).listed lives w).order

-- new bags are in order
pub opened_order : (tick owed : ℕ) (ids : List ℕ) (f : ℕ → Bag) → AreInOrder f → AreInOrder (opened_bags tick owed ids f)
opened_order tick owed [] f order = order
opened_order tick owed (x ∷ xs) f order = opened_order tick owed xs (at_id f x (new_bag tick owed)) (one_opened tick owed x f order)
  where
    one_opened : (tick owed x : ℕ) (f : ℕ → Bag) → AreInOrder f → AreInOrder (at_id f x (new_bag tick owed))
    one_opened tick owed x f order r = elim (cases_Bool (nat_eq x r)) [ inl e ↦ rw e (λ h w. empty_order) | inr e ↦ rw e (order r) ]

-- whether the bags are here is all that a join needs of them
abbrev pub AreHere : (ℕ → Bag) → (ℕ → Bag) → Type 0
AreHere f g = (r : ℕ) → (g r).here ≡ (f r).here

joined_here : (m : MergePair) (f g : ℕ → Bag) → AreHere f g → AreHere (joined_bag m f) (joined_bag m g)
joined_here m f g same r = elim (cases_Bool (nat_eq m.into r)) [
  | inl e ↦ rw e (same m.into)
  | inr e ↦ elim (cases_Bool (nat_eq m.from r)) [ inl x ↦ rw (e, x) refl | inr x ↦ rw (e, x) (same r) ]
]

pub can_join_alike : (ms : List MergePair) (f g : ℕ → Bag) → AreHere f g → CanJoin ms f → CanJoin ms g
can_join_alike [] f g same can = tt
can_join_alike (m ∷ ms) f g same can = (
  same m.from ∙ can.0,
  same m.into ∙ can.1,
  can.2,
  can_join_alike ms (joined_bag m f) (joined_bag m g) (joined_here m f g same) can.3,
)

one_here : (m : MergePair) (f h : ℕ → Bag) → m.from ≢ m.into → JoinsOne m f h → AreHere (joined_bag m f) h
one_here m f h differ one r = elim (cases_Bool (nat_eq m.into r)) [
  | inl e ↦ let s : m.into ≡ r = eqb-true m.into r e in rw e (ap (λ n. (h n).here) (sym s) ∙ ap (λ (b : Bag). b.here) one.own.relisted.same)
  | inr e ↦ elim (cases_Bool (nat_eq m.from r)) [
    | inl x ↦ let s : m.from ≡ r = eqb-true m.from r x in rw (e, x) (ap (λ n. (h n).here) (sym s) ∙ ap (λ (b : Bag). b.here) one.gone)
    | inr x ↦ rw (e, x) (ap (λ (b : Bag). b.here) (one.others r (λ y. eqb-false m.from r x (sym y)) (λ y. eqb-false m.into r e (sym y))))
  ]
]

-- after the first join the others can follow
pub can_join_next : (m : MergePair) (ms : List MergePair) (f h : ℕ → Bag) → CanJoin (m ∷ ms) f → JoinsOne m f h → CanJoin ms h
can_join_next m ms f h can one = can_join_alike ms (joined_bag m f) h (one_here m f h can.2 one) can.3

-- ---- what they owe
abbrev pub OweSame : (ℕ → Bag) → (ℕ → Bag) → Type 0
OweSame f g = (r : ℕ) → (g r).owed ≡ (f r).owed

joined_owed : (m : MergePair) (f g : ℕ → Bag) → OweSame f g → OweSame (joined_bag m f) (joined_bag m g)
joined_owed m f g same r = elim (cases_Bool (nat_eq m.into r)) [
  | inl e ↦ let a = same m.into in let b = same m.from in rw (e, a, b) refl
  | inr e ↦ elim (cases_Bool (nat_eq m.from r)) [ inl x ↦ rw (e, x) refl | inr x ↦ rw (e, x) (same r) ]
]

pub all_owed : (ms : List MergePair) (f g : ℕ → Bag) → OweSame f g → OweSame (joined_bags ms f) (joined_bags ms g)
all_owed [] f g same = same
all_owed (m ∷ ms) f g same = all_owed ms (joined_bag m f) (joined_bag m g) (joined_owed m f g same)

one_owed : (m : MergePair) (f h : ℕ → Bag) → JoinsOne m f h → OweSame (joined_bag m f) h
one_owed m f h one r = elim (cases_Bool (nat_eq m.into r)) [
  | inl e ↦ let s : m.into ≡ r = eqb-true m.into r e in rw e (ap (λ n. (h n).owed) (sym s) ∙ ap (λ (b : Bag). b.owed) one.own.relisted.same)
  | inr e ↦ elim (cases_Bool (nat_eq m.from r)) [
    | inl x ↦ let s : m.from ≡ r = eqb-true m.from r x in rw (e, x) (ap (λ n. (h n).owed) (sym s) ∙ ap (λ (b : Bag). b.owed) one.gone)
    | inr x ↦ rw (e, x) (ap (λ (b : Bag). b.owed) (one.others r (λ y. eqb-false m.from r x (sym y)) (λ y. eqb-false m.into r e (sym y))))
  ]
]

-- ---- several regions join one
-- r is the region that others joined, or one of these
abbrev pub IsPart : ℕ → List ℕ → ℕ → Type 0
IsPart t us r = (r ≡ t) ⊎ (among r us ≡ true)

-- the regions us became part of t, whose bag may be listed for the chunks of all
pub record UnitedInto (t : ℕ) (us : List ℕ) (f h : ℕ → Bag) : Type 0 where
  pub others : (r : ℕ) → r ≢ t → among r us ≡ false → h r ≡ f r
  pub gone : (r : ℕ) → r ≢ t → among r us ≡ true → h r ≡ no_bag
  pub here : (h t).here ≡ (f t).here
  pub taken : (h t).taken ≡ (f t).taken
  pub counter : (h t).tick ≡ (f t).tick
  pub owes : (h t).owed ≡ (joined_bags (into t us) f t).owed
  pub since : (f t).taken ≡ false → (h t).since ≡ (f t).since
  pub out : (f t).taken ≡ true → (h t).chunks ≡ (f t).chunks
  pub were : (h t).listed ≡ true → (r : ℕ) → IsPart t us r → (f r).listed ≡ true
  pub all : (h t).listed ≡ true → (r : ℕ) → IsPart t us r → (c : ChunkPos) → is_recorded (f r).chunks c ≡ true → is_recorded (h t).chunks c ≡ true
  pub each : (h t).listed ≡ true → (c : ChunkPos) → is_recorded (h t).chunks c ≡ true → (r : ℕ) × IsPart t us r × (is_recorded (f r).chunks c ≡ true)

module _ (t : ℕ) where
  -- no region joins
  united_none : (f h : ℕ → Bag) → h ≡ f → UnitedInto t [] f h
  united_none f h e = let P : (ℕ → Bag) → Type 0 = λ k. UnitedInto t [] f k in subst P (sym e) (record {
    others = λ r n m. refl;
    gone = λ r n m. absurd (true≢false (sym m));
    here = refl;
    taken = refl;
    counter = refl;
    owes = refl;
    since = λ x. refl;
    out = λ x. refl;
    were = λ w r p. elim p [ inl s ↦ ap (λ n. (f n).listed) s ∙ w | inr m ↦ absurd (true≢false (sym m)) ];
    all = λ w r p c k. elim p [ inl s ↦ ap (λ n. is_recorded (f n).chunks c) (sym s) ∙ k | inr m ↦ absurd (true≢false (sym m)) ];
    each = λ w c k. (t, inl refl, k);
  })

  -- one more joins, before the others
  module _ (u : ℕ) (us : List ℕ) (f k h : ℕ → Bag) (home : (f t).taken ≡ false) (none : (f t).since ≡ []) (ut : u ≢ t) (not_t : among t us ≡ false) (not_u : among u us ≡ false)
      (one : JoinsOne (record { «from» = u; into = t }) f k) (rest : UnitedInto t us k h) where
    same : (r : ℕ) → among r us ≡ true → k r ≡ f r
    same r m = one.others r (λ e. true≢false (sym m ∙ ap (λ n. among n us) e ∙ not_u)) (λ e. true≢false (sym m ∙ ap (λ n. among n us) e ∙ not_t))

    in_two : (c : ChunkPos) (w : (k t).listed ≡ true) → is_recorded (k t).chunks c ≡ (is_recorded (f t).chunks c || is_recorded (f u).chunks c)
    in_two c w = one.own.relisted.chunks w c (ap (λ (xs : List ChunkPos). is_recorded xs c) (one.own.relisted.here home ∙ none))

    among_u : among u (u ∷ us) ≡ true
    among_u = or_left (nat_eq u u) (among u us) (self u)
      where
        self : (n : ℕ) → nat_eq n n ≡ true
        self n = elim (cases_Bool (nat_eq n n)) [ inl e ↦ e | inr e ↦ absurd (eqb-false n n e refl) ]

    united_more : UnitedInto t (u ∷ us) f h
    united_more = record {
      others = λ r n m. let p = or_parts (nat_eq r u) (among r us) m in rest.others r n p.1 ∙ one.others r (eqb-false r u p.0) n;
      gone = λ r n m. elim (or_cases (nat_eq r u) (among r us) m) [
        | inl e ↦ let s : r ≡ u = eqb-true r u e in ap h s ∙ rest.others u ut not_u ∙ one.gone
        | inr e ↦ rest.gone r n e
      ];
      here = rest.here ∙ ap (λ (b : Bag). b.here) one.own.relisted.same;
      taken = rest.taken ∙ ap (λ (b : Bag). b.taken) one.own.relisted.same;
      counter = rest.counter ∙ ap (λ (b : Bag). b.tick) one.own.relisted.same;
      owes = rest.owes ∙ all_owed (into t us) (joined_bag (record { «from» = u; into = t }) f) k (one_owed (record { «from» = u; into = t }) f k one) t;
      since = λ x. rest.since (ap (λ (b : Bag). b.taken) one.own.relisted.same ∙ x) ∙ one.own.relisted.here x;
      out = λ x. rest.out (ap (λ (b : Bag). b.taken) one.own.relisted.same ∙ x) ∙ one.own.relisted.out x;
      were = λ w r p. were w r p;
      all = λ w r p c x. all w r p c x;
      each = λ w c x. each w c x;
    }
      where
        kept : (w : (h t).listed ≡ true) → (k t).listed ≡ true
        kept w = rest.were w t (inl refl)

        were : (w : (h t).listed ≡ true) (r : ℕ) → IsPart t (u ∷ us) r → (f r).listed ≡ true
        were w r (inl e) = ap (λ n. (f n).listed) e ∙ one.own.relisted.before (kept w)
        were w r (inr m) = elim (or_cases (nat_eq r u) (among r us) m) [
          | inl e ↦ let s : r ≡ u = eqb-true r u e in ap (λ n. (f n).listed) s ∙ one.own.both (kept w)
          | inr e ↦ sym (ap (λ (b : Bag). b.listed) (same r e)) ∙ rest.were w r (inr e)
        ]

        all : (w : (h t).listed ≡ true) (r : ℕ) → IsPart t (u ∷ us) r → (c : ChunkPos) → is_recorded (f r).chunks c ≡ true → is_recorded (h t).chunks c ≡ true
        all w r (inl e) c x = rest.all w t (inl refl) c (in_two c (kept w) ∙ or_left (is_recorded (f t).chunks c) (is_recorded (f u).chunks c) (ap (λ n. is_recorded (f n).chunks c) (sym e) ∙ x))
        all w r (inr m) c x = elim (or_cases (nat_eq r u) (among r us) m) [
          | inl e ↦ let s : r ≡ u = eqb-true r u e in
              rest.all w t (inl refl) c (in_two c (kept w) ∙ or_right (is_recorded (f t).chunks c) (is_recorded (f u).chunks c) (ap (λ n. is_recorded (f n).chunks c) (sym s) ∙ x))
          | inr e ↦ rest.all w r (inr e) c (ap (λ (b : Bag). is_recorded b.chunks c) (same r e) ∙ x)
        ]

        each : (w : (h t).listed ≡ true) (c : ChunkPos) → is_recorded (h t).chunks c ≡ true → (r : ℕ) × IsPart t (u ∷ us) r × (is_recorded (f r).chunks c ≡ true)
        each w c x = let y = rest.each w c x in elim y.1 [
          | inl e ↦ elim (or_cases (is_recorded (f t).chunks c) (is_recorded (f u).chunks c) (sym (in_two c (kept w)) ∙ ap (λ n. is_recorded (k n).chunks c) (sym e) ∙ y.2)) [
            | inl a ↦ (t, inl refl, a)
            | inr a ↦ (u, inr among_u, a)
          ]
          | inr e ↦ (y.0, inr (or_right (nat_eq y.0 u) (among y.0 us) e), sym (ap (λ (b : Bag). is_recorded b.chunks c) (same y.0 e)) ∙ y.2)
        ]

  pub united_into : (us : List ℕ) (f h : ℕ → Bag) → (f t).taken ≡ false → (f t).since ≡ [] → among t us ≡ false → Apart us → Joins (into t us) f h → UnitedInto t us f h
  united_into [] f h home none n a j = united_none f h j
  united_into (u ∷ us) f h home none n a j =
      let p = or_parts (nat_eq t u) (among t us) n in
      united_more u us f j.0 h home none (λ e. eqb-false t u p.0 (sym e)) p.1 a.0 j.1
      (united_into us j.0 h (ap (λ (b : Bag). b.taken) j.1.own.relisted.same ∙ home) (j.1.own.relisted.here home ∙ none) p.1 a.1 j.2)

-- a listed bag that the regions united in has the chunks of all of them
module _ (g : GridState) (t : ℕ) (us : List ℕ) (f h : ℕ → Bag) (u : UnitedInto t us f h)
    (is : (r : ℕ) → IsPart t us r → (f r).listed ≡ true → (f r).chunks ≡ filter (is_chunk_of g r) all_chunks) (w : (h t).listed ≡ true) where
  has : (r : ℕ) → IsPart t us r → (c : ChunkPos) → is_recorded (f r).chunks c ≡ (is_chunk_of g r c && is_recorded all_chunks c)
  has r p c = ap (λ xs. is_recorded xs c) (is r p (u.were w r p)) ∙ listed (is_chunk_of g r) all_chunks c

  pub union : (q : ChunkPos → Bool) → ((c : ChunkPos) → q c ≡ true → (r : ℕ) × IsPart t us r × (is_chunk_of g r c ≡ true)) → ((c : ChunkPos) (r : ℕ) → IsPart t us r → is_chunk_of g r c ≡ true → q c ≡ true)
      → (c : ChunkPos) → is_recorded (h t).chunks c ≡ is_recorded (filter q all_chunks) c
  union q back forth c = same_answer (is_recorded (h t).chunks c) (q c && is_recorded all_chunks c)
      (λ e.
      let x = u.each w c e in
      let y = and_parts (is_chunk_of g x.0 c) (is_recorded all_chunks c) (sym (has x.0 x.1 c) ∙ x.2) in
      and_from (q c) (is_recorded all_chunks c) (forth c x.0 x.1 y.0) y.1)
      (λ e.
      let y = and_parts (q c) (is_recorded all_chunks c) e in
      let x = back c y.0 in
      u.all w x.0 x.1 c (has x.0 x.1 c ∙ and_from (is_chunk_of g x.0 c) (is_recorded all_chunks c) x.2 y.1))
      ∙ sym (listed q all_chunks c)

  pub union_list : IsInOrder (h t) → (q : ChunkPos → Bool) → ((c : ChunkPos) → q c ≡ true → (r : ℕ) × IsPart t us r × (is_chunk_of g r c ≡ true)) → ((c : ChunkPos) (r : ℕ) → IsPart t us r → is_chunk_of g r c ≡ true → q c ≡ true)
      → (h t).chunks ≡ filter q all_chunks
  union_list order q back forth = same_list (h t).chunks (filter q all_chunks) (order w) (kept_sorted q) (union q back forth)

-- ---- bags that stand for others
pub alike_self : (b : Bag) → Alike b b
alike_self b = record { here = refl; taken = refl; counter = refl; owes = refl; since = λ x. refl; out = λ x. refl }

pub gathered_alike : (g : GridState) (r : ℕ) (a b : Bag) → Alike a b → (b.listed ≡ true → b.chunks ≡ filter (is_chunk_of g r) all_chunks) → Gathered g r a b
gathered_alike g r a b s is = record { here = s.here; taken = s.taken; counter = s.counter; owes = s.owes; listed = λ w. inr (keeps_exact b.since b.chunks (is_chunk_of g r) (is w)); since = s.since; out = s.out }

-- what stands for a bag that stands for another stands for that one
pub gathered_then : (g : GridState) (r : ℕ) (a b c : Bag) → Gathered g r a b → Gathered g r b c → Gathered g r a c
gathered_then g r a b c x y = record {
  here = y.here ∙ x.here;
  taken = y.taken ∙ x.taken;
  counter = y.counter ∙ x.counter;
  owes = y.owes ∙ x.owes;
  listed = λ w. elim (y.listed w) [
    | inl l ↦ elim (x.listed l.0) [ inl k ↦ inl (k.0, l.1 ∙ k.1, l.2 ∙ k.2) | inr k ↦ inr (keeps_like b.since c.since b.chunks c.chunks (filter (is_chunk_of g r) all_chunks) l.2 l.1 k) ]
    | inr l ↦ inr l
  ];
  since = λ t. y.since (x.taken ∙ t) ∙ x.since t;
  out = λ t. y.out (x.taken ∙ t) ∙ x.out t;
}
