-- The bag of a region that has a chunk more or a chunk less, where none comes into it and none leaves it.
use Rattle.std.proofs.Common.{◌≡◌, Bool, true, false, not, ◌&&◌, ◌||◌, [], ◌∷◌, ◌++◌, List, ℕ, refl, sym, ◌∙◌, ap, inl, inr}
use Rattle.std.proofs.Math.Bool.{or-false, and-true}
use Rattle.std.proofs.lemmas.Bool.{cases_Bool, and_parts}
use Rattle.fol_model.specs.declared.places.ChunkPos.{ChunkPos}
use Rattle.fol_model.specs.Geometry.{same_chunk}
use Rattle.fol_chunks.specs.Contents.{is_recorded}
use Rattle.fol_keyed.proofs.Places.{same_chunk-true}
use Rattle.fol_store.specs.Bag.{Bag}
use Rattle.fol_bags.specs.Places.{is_bag}
use Rattle.fol_store.specs.Relisted.{Relisted, IsInOrder}
use Rattle.fol_store.specs.Stock.{Stock, slot, place}
use Rattle.fol_store.specs.Sound.{IsSound}
use Rattle.fol_bags.proofs.PlaceSteps.{is_bag-some, bag-from_is}
use Rattle.fol_keyed.proofs.Recorded.{recorded_front, recorded_last}

no : {P : Type 0} → false ≡ true → P
no e = absurd (let z : ⊥ = cc in z)

-- what is not recorded in a longer list is neither in the list nor its last
not_front : (xs : List ChunkPos) (c q : ChunkPos) → is_recorded (xs ++ c ∷ []) q ≡ false → is_recorded xs q ≡ false
not_front xs c q n = elim (cases_Bool (is_recorded xs q)) [
  | inl e ↦ no (sym n ∙ recorded_front xs (c ∷ []) q e)
  | inr e ↦ e
]

not_last : (xs : List ChunkPos) (c q : ChunkPos) → is_recorded (xs ++ c ∷ []) q ≡ false → same_chunk c q ≡ false
not_last xs c q n = elim (cases_Bool (same_chunk c q)) [
  | inl e ↦ no (sym n ∙ ap (is_recorded (xs ++ c ∷ [])) (sym (same_chunk-true c q e)) ∙ recorded_last xs c)
  | inr e ↦ e
]

-- the bag noted the chunk, or has to be gathered anew
pub noted_bag : (p : ChunkPos → Bool) (c : ChunkPos) (a b : Bag) → b ≡ (let r : Bag = record a { listed = b.listed; since = b.since } in r)
    → (b.listed ≡ true → (a.listed ≡ true) × (b.since ≡ a.since ++ c ∷ [])) → (a.taken ≡ false → b.since ≡ a.since) → IsInOrder a
    → ((q : ChunkPos) → same_chunk c q ≡ false → is_recorded a.chunks q ≡ p q) → Relisted p a b
noted_bag p c a b e noted stays order passes = record {
  same = e ∙ sym (ap (λ (z : Bag). let r : Bag = record a { listed = b.listed; calm = z.calm; chunks = z.chunks; since = b.since } in r) e);
  before = λ o. (noted o).0;
  order = λ o. rw e (order (noted o).0);
  chunks = λ o q n. ap (λ (z : Bag). is_recorded z.chunks q) e ∙ passes q (not_last a.since c q (sym (ap (λ l. is_recorded l q) (noted o).1) ∙ n));
  noted = λ o q n. not_front a.since c q (sym (ap (λ l. is_recorded l q) (noted o).1) ∙ n);
  here = stays;
  out = λ o. ap (λ (z : Bag). z.chunks) e;
}

-- the chunks stay
pub same_chunks : (p : ChunkPos → Bool) (a : Bag) → IsInOrder a → ((q : ChunkPos) → is_recorded a.chunks q ≡ p q) → Relisted p a a
same_chunks p a order passes = record {
  same = refl;
  before = λ o. o;
  order = order;
  chunks = λ o q n. passes q;
  noted = λ o q n. n;
  here = λ o. refl;
  out = λ o. refl;
}

-- a bag that is neither here and listed nor out is not listed
pub away_unlisted : (s : Stock) (id : ℕ) → IsSound s → ((slot s id).here && (slot s id).listed) ≡ false → (slot s id).taken ≡ false → (slot s id).listed ≡ false
away_unlisted s id h away free = elim (cases_Bool (slot s id).listed) [
  | inl l ↦
      let o : ((slot s id).here || (slot s id).taken) ≡ true = (h.bags id).opened l in
      no (sym away ∙ both (slot s id).here (slot s id).taken (slot s id).listed o free l)
  | inr l ↦ l
]
  where
    both : (a b c : Bool) → (a || b) ≡ true → b ≡ false → c ≡ true → (a && c) ≡ true
    both true b c o f l = l
    both false b c o f l = no (sym f ∙ o)

-- the chunk of a listed bag that is here, and one that it has not
pub has_chunk : (s : Stock) (id : ℕ) (c : ChunkPos) → IsSound s → ((slot s id).here && (slot s id).listed) ≡ true → is_bag id (place s c) ≡ true → is_recorded (slot s id).chunks c ≡ true
has_chunk s id c h ready home =
    let here : (slot s id).here ≡ true = (and_parts (slot s id).here (slot s id).listed ready).0 in
    (h.bags id).claims (rw here refl) c (bag-from_is (place s c) id home)

pub lacks_chunk : (s : Stock) (id : ℕ) (c : ChunkPos) → IsSound s → ((slot s id).here && (slot s id).listed) ≡ true → is_bag id (place s c) ≡ false → is_recorded (slot s id).chunks c ≡ false
lacks_chunk s id c h ready home = elim (cases_Bool (is_recorded (slot s id).chunks c)) [
  | inl r ↦
      let listed : (slot s id).listed ≡ true = (and_parts (slot s id).here (slot s id).listed ready).1 in
      no (sym home ∙ is_bag-some (place s c) id ((h.bags id).held (rw listed refl) c r))
  | inr r ↦ r
]

-- what the bag has of other chunks
pub more_elsewhere : (a b : Bool) → b ≡ false → a ≡ (a || b)
more_elsewhere a b e = rw (e, or-false a) refl

pub less_elsewhere : (a b : Bool) → b ≡ false → a ≡ (a && not b)
less_elsewhere a b e = rw (e, and-true a) refl
