-- Bags that may be listed for the loaded chunks of their regions.
use Rattle.std.proofs.Common.{◌≡◌, ◌≢◌, ℕ, ◌+◌, ◌<◌, refl, sym, ◌∙◌, ap, subst, arith, Bool, true, false, not, ◌&&◌, ◌||◌, inl, inr, List, filter, Some, None}
use Rattle.std.specs.Prelude.{nat_eq, nat_lt}
use Rattle.std.proofs.lemmas.Bool.{cases_Bool, cases_eq, eqb-true, eq-eqb, ne_eqb, lt-ltb, ltb-true, true≢false, and_from, and_right, or_right}
use Rattle.fol_model.specs.declared.places.ChunkPos.{ChunkPos}
use Rattle.fol_model.specs.Geometry.{is_chunk, same_chunk, section_of}
use Rattle.fol_model.specs.Universe.{all_chunks}
use Rattle.fol_model.specs.declared.regions.State.TheVariants.{Dead}
use Rattle.fol_model.specs.GridState.{GridState}
use Rattle.fol_model.specs.Add.{counted}
use Rattle.fol_model.specs.ActionStep.{Recorded}
use Rattle.fol_model.specs.Outputs.{is_chunk_of}
use Rattle.fol_model.specs.Drop.{drop_hold}
use Rattle.fol_laws.proofs.SamePlaces.{same_chunk-true, same_chunk-self}
use Rattle.fol_laws.proofs.Listed.{own}
use Rattle.fol_regions.specs.Answers.{some_id}
use Rattle.fol_chunks.specs.Contents.{is_recorded}
use Rattle.fol_store.specs.Bag.{Bag, Stirred}
use Rattle.fol_store.specs.Relisted.{IsInOrder, Narrowed, Relisted, Widened}
use Rattle.fol_world.specs.Agenda.{Covers, HaveBags}
use Rattle.fol_world.specs.Bags.{IsBagOf, KeepsUp, unsettled_at}
use Rattle.fol_world.specs.Begun.{Gathered}
use Rattle.fol_world.specs.Follows.{IsKnown, Narrows, Settle, Widens}
use Rattle.fol_world.proofs.ChunkLists.{in_all, listed}
use Rattle.fol_world.proofs.GatheredBags.{gathered_bag}

pub gathered_self : (g : GridState) (r : ℕ) (b : Bag) → Gathered g r b b
gathered_self g r b = record { here = refl; taken = refl; counter = refl; owes = refl; listed = λ w. inl (w, refl, refl); since = λ x. refl; out = λ x. refl }

pub settle_same : (g : GridState) (f k : ℕ → Bag) → k ≡ f → Settle g f k
settle_same g f k e r = let P : Bag → Type 0 = λ b. Gathered g r (f r) b in subst P (ap (λ (x : ℕ → Bag). x r) (sym e)) (gathered_self g r (f r))

-- the bag of a region gets other chunks, which are the region's
pub relisted_all : (g : GridState) (id : ℕ) (p : ChunkPos → Bool) (f k : ℕ → Bag) → 0 < id → ((f id).listed ≡ true → (q : ChunkPos) → is_recorded (f id).since q ≡ false → p q ≡ is_recorded (filter (is_chunk_of g id) all_chunks) q)
    → Relisted p (f id) (k id) → ((u : ℕ) → u ≢ id → k u ≡ f u) → Settle g (unsettled_at id f) k
relisted_all g id p f k l same own others r = elim (cases_eq id r) [
  | inl e ↦ let P : ℕ → Type 0 = λ n. Gathered g n (unsettled_at id f n) (k n) in subst P e mine
  | inr n ↦
      let a : nat_lt 0 id ≡ true = lt-ltb 0 id l in
      let b : nat_eq id r ≡ false = ne_eqb id r n in
      let P : Bag → Type 0 = λ x. Gathered g r (f r) x in
      rw (a, b) (subst P (sym (others r (λ e. n (sym e)))) (gathered_self g r (f r)))
]
  where
    mine : Gathered g id (unsettled_at id f id) (k id)
    mine =
        let a : nat_lt 0 id ≡ true = lt-ltb 0 id l in
        let b : nat_eq id id ≡ true = eq-eqb id id refl in
        rw (a, b) (record {
          here = ap (λ (z : Bag). z.here) own.same;
          taken = ap (λ (z : Bag). z.taken) own.same;
          counter = ap (λ (z : Bag). z.tick) own.same;
          owes = ap (λ (z : Bag). z.owed) own.same;
          listed = λ w. inr (record { order = own.order w; same = λ q n. own.chunks w q n ∙ same (own.before w) q (own.noted w q n) });
          since = own.here;
          out = own.out;
        })

and_true : (x : Bool) → x ≡ (x && true)
and_true true = refl
and_true false = refl

turned : (x y z : Bool) → ((x && y) && z) ≡ ((x && z) && y)
turned true true z = elim z as (λ z. z ≡ (z && true)) [ true ↦ refl | false ↦ refl ]
turned true false z = elim z as (λ z. false ≡ (z && false)) [ true ↦ refl | false ↦ refl ]
turned false y z = refl

-- the chunks of a region after the last hold of c
left : (g : GridState) (c : ChunkPos) (r : ℕ) → nat_eq (g.holds c) 1 ≡ true → (q : ChunkPos) → is_chunk_of (drop_hold g c) r q ≡ (is_chunk_of g r q && not (same_chunk c q))
unfolding drop_hold
left g c r one q = elim (cases_Bool (same_chunk c q)) [
  | inl s ↦
      let o : g.holds c ≡ 1 = eqb-true (g.holds c) 1 one in
      rw (s, o) (sym (and_right (is_chunk_of g r q) false refl))
  | inr s ↦ rw s (and_true (is_chunk_of g r q))
]

-- after the last hold of c
pub narrows : (g : GridState) (c : ChunkPos) (r : ℕ) (b : Bag) → nat_eq (g.holds c) 1 ≡ true → (b.listed ≡ true → KeepsUp b (filter (is_chunk_of g r) all_chunks)) → Narrows (drop_hold g c) c r b
narrows g c r b one is w =
    let k = is w in (
      k.order,
      λ q n.
          ap (λ z. z && not (same_chunk c q)) (k.same q n ∙ listed (is_chunk_of g r) all_chunks q)
          ∙ turned (is_chunk_of g r q) (is_recorded all_chunks q) (not (same_chunk c q))
          ∙ ap (λ z. z && is_recorded all_chunks q) (sym (left g c r one q))
          ∙ sym (listed (is_chunk_of (drop_hold g c) r) all_chunks q),
    )

-- a chunk comes to a region
pub widens : (g h : GridState) (c : ChunkPos) (r : ℕ) (b : Bag) → is_chunk c ≡ true → is_chunk_of h r c ≡ true → ((q : ChunkPos) → q ≢ c → is_chunk_of h r q ≡ is_chunk_of g r q)
    → (b.listed ≡ true → KeepsUp b (filter (is_chunk_of g r) all_chunks)) → Widens h c r b
widens g h c r b limits mine others is w =
    let k = is w in (
      k.order,
      λ q n.
          ap (λ z. z || same_chunk c q) (k.same q n ∙ listed (is_chunk_of g r) all_chunks q)
          ∙ come q
          ∙ sym (listed (is_chunk_of h r) all_chunks q),
    )
  where
    come : (q : ChunkPos) → ((is_chunk_of g r q && is_recorded all_chunks q) || same_chunk c q) ≡ (is_chunk_of h r q && is_recorded all_chunks q)
    come q = elim (cases_Bool (same_chunk c q)) [
      | inl s ↦
          let same : c ≡ q = same_chunk-true c q s in
          let there : is_recorded all_chunks q ≡ true = ap (is_recorded all_chunks) (sym same) ∙ in_all c limits in
          let own : is_chunk_of h r q ≡ true = ap (is_chunk_of h r) (sym same) ∙ mine in
          or_right (is_chunk_of g r q && is_recorded all_chunks q) (same_chunk c q) s ∙ sym (and_from (is_chunk_of h r q) (is_recorded all_chunks q) own there)
      | inr s ↦
          let d : q ≢ c = λ x. true≢false (sym (ap (same_chunk c) x ∙ same_chunk-self c) ∙ s) in
          rw s (none (is_chunk_of g r q && is_recorded all_chunks q)) ∙ ap (λ z. z && is_recorded all_chunks q) (sym (others q d))
    ]
      where
        none : (x : Bool) → (x || false) ≡ x
        none true = refl
        none false = refl

-- a chunk comes alone, to the region that has its section
pub widens_alone : (g : GridState) (c : ChunkPos) (f : ℕ → Bag) → is_chunk c ≡ true → ((r : ℕ) → (f r).listed ≡ true → g.state r ≢ Dead → KeepsUp (f r) (filter (is_chunk_of g r) all_chunks))
    → g.state (g.owner (section_of g.grid c)) ≢ Dead → Widens (counted g c) c (g.owner (section_of g.grid c)) (f (g.owner (section_of g.grid c)))
widens_alone g c f limits is lives = widens g (counted g c) c r (f r) limits mine others (λ w. is r w lives)
  where
    r : ℕ
    r = g.owner (section_of g.grid c)

    mine : is_chunk_of (counted g c) r c ≡ true
    mine =
        let s : same_chunk c c ≡ true = same_chunk-self c in
        let held : nat_lt 0 (g.holds c + 1) ≡ true = lt-ltb 0 (g.holds c + 1) (omega arith) in
        let own : nat_eq r r ≡ true = eq-eqb r r refl in
        rw (s, held, own) refl

    others : (q : ChunkPos) → q ≢ c → is_chunk_of (counted g c) r q ≡ is_chunk_of g r q
    others q d = elim (cases_Bool (same_chunk c q)) [ inl s ↦ absurd (d (sym (same_chunk-true c q s))) | inr s ↦ rw s refl ]

pub settled_bags : (g : GridState) (tick owed : ℕ → ℕ) (recorded : ℕ → Recorded) (f k : ℕ → Bag) → ((r : ℕ) → IsBagOf g tick owed recorded r (f r)) → Settle g f k → (r : ℕ) → IsBagOf g tick owed recorded r (k r)
settled_bags g tick owed recorded f k is s r = gathered_bag g tick owed recorded r (f r) (k r) (is r) (s r)

pub settled_have : (g : GridState) (f k : ℕ → Bag) → HaveBags g f → Settle g f k → HaveBags g k
settled_have g f k have s r h = (s r).here ∙ have r h

pub settled_covers : (xs : List ℕ) (g : GridState) (f k : ℕ → Bag) → Covers xs g f → Settle g f k → Covers xs g k
settled_covers xs g f k cov s r x = cov r (let e = (s r).owes in rw e at x)

pub settled_stirred : (g : GridState) (c : ChunkPos) (f k m : ℕ → Bag) → Settle g f k → ((r : ℕ) → Stirred c (k r) (m r)) → Settle g f m
settled_stirred g c f k m s e r =
    let x = s r in
    let P : Bag → Type 0 = λ b. Gathered g r (f r) b in
    subst P (sym (e r).same) (record { here = x.here; taken = x.taken; counter = x.counter; owes = x.owes; listed = x.listed; since = x.since; out = x.out })

-- the id of a region, if it is one
pub id_of : (n id : ℕ) → some_id n ≡ Some id → (n ≡ id) × (0 < n)
id_of n id e = elim (cases_Bool (nat_lt 0 n)) [
  | inl l ↦ let x : Some n ≡ Some id = rw l at e in let y : n ≡ id = cc in (y, ltb-true 0 n l)
  | inr l ↦ let x : None ≡ Some id = rw l at e in absurd (cc)
]

pub id_none : (n : ℕ) → some_id n ≡ None → nat_lt 0 n ≡ false
id_none n e = elim (cases_Bool (nat_lt 0 n)) [
  | inl l ↦ let x : Some n ≡ None = rw l at e in absurd (cc)
  | inr l ↦ l
]

pub none_all : (g : GridState) (n : ℕ) (f : ℕ → Bag) → some_id n ≡ None → Settle g (unsettled_at n f) f
none_all g n f e r = let l = id_none n e in rw l (gathered_self g r (f r))

-- a bag that is listed for the chunks of its region, if for any, may stay
pub stays_all : (g : GridState) (n : ℕ) (f : ℕ → Bag) → (0 < n → (f n).listed ≡ true → KeepsUp (f n) (filter (is_chunk_of g n) all_chunks)) → Settle g (unsettled_at n f) f
stays_all g n f is r = elim (cases_Bool (nat_lt 0 n)) [
  | inr l ↦ rw l (gathered_self g r (f r))
  | inl l ↦ elim (cases_eq n r) [
    | inl e ↦ let P : ℕ → Type 0 = λ m. Gathered g m (unsettled_at n f m) (f m) in subst P e (mine l)
    | inr d ↦ let b : nat_eq n r ≡ false = ne_eqb n r d in rw (l, b) (gathered_self g r (f r))
  ]
]
  where
    mine : nat_lt 0 n ≡ true → Gathered g n (unsettled_at n f n) (f n)
    mine l =
        let b : nat_eq n n ≡ true = eq-eqb n n refl in
        rw (l, b) (record { here = refl; taken = refl; counter = refl; owes = refl; listed = λ w. inr (is (ltb-true 0 n l) w); since = λ x. refl; out = λ x. refl })

module _ (g : GridState) (n id : ℕ) (c : ChunkPos) (f : ℕ → Bag) (e : some_id n ≡ Some id) where
  pub known_some : IsKnown f n → ((f id).here || (f id).taken) ≡ true
  known_some h = let x = id_of n id e in let P : ℕ → Type 0 = λ m. ((f m).here || (f m).taken) ≡ true in subst P x.0 (h x.1)

  pub order_lost : (0 < n → Narrows g c n (f n)) → IsInOrder (f id)
  order_lost h = let x = id_of n id e in let P : ℕ → Type 0 = λ m. IsInOrder (f m) in subst P x.0 (λ w. (h x.1 w).0)

  pub order_gained : (0 < n → Widens g c n (f n)) → IsInOrder (f id)
  order_gained h = let x = id_of n id e in let P : ℕ → Type 0 = λ m. IsInOrder (f m) in subst P x.0 (λ w. (h x.1 w).0)

  pub lost_all : (k : ℕ → Bag) → (0 < n → Narrows g c n (f n)) → Narrowed c (f id) (k id) → ((u : ℕ) → u ≢ id → k u ≡ f u) → Settle g (unsettled_at n f) k
  lost_all k h own others =
      let x = id_of n id e in
      let P : ℕ → Type 0 = λ m. Narrowed c (f m) (k m) → ((u : ℕ) → u ≢ m → k u ≡ f u) → Settle g (unsettled_at n f) k in
      subst P x.0 (λ o p. relisted_all g n (λ q. is_recorded (f n).chunks q && not (same_chunk c q)) f k x.1 (λ w q n. (h x.1 w).1 q n) o p) own others

  pub gained_all : (k : ℕ → Bag) → (0 < n → Widens g c n (f n)) → Widened c (f id) (k id) → ((u : ℕ) → u ≢ id → k u ≡ f u) → Settle g (unsettled_at n f) k
  gained_all k h own others =
      let x = id_of n id e in
      let P : ℕ → Type 0 = λ m. Widened c (f m) (k m) → ((u : ℕ) → u ≢ m → k u ≡ f u) → Settle g (unsettled_at n f) k in
      subst P x.0 (λ o p. relisted_all g n (λ q. is_recorded (f n).chunks q || same_chunk c q) f k x.1 (λ w q n. (h x.1 w).1 q n) o p) own others
