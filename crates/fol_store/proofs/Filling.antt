-- Bags by id after one of them changed.
use Rattle.std.proofs.Common.{◌≡◌, ◌≢◌, ℕ, true, false, List, [], refl, sym, ◌∙◌, ap, subst, inl, inr}
use Rattle.std.specs.Prelude.{nat_eq}
use Rattle.std.proofs.lemmas.Bool.{cases_Bool, cases_eq, eqb-true}
use Rattle.fol_model.specs.declared.places.ChunkPos.{ChunkPos}
use Rattle.fol_model.specs.ActionStep.{at_id}
use Rattle.fol_chunks.specs.Contents.{is_recorded}
use Rattle.fol_queues.proofs.Numbers.{nat_self}
use Rattle.fol_store.specs.Bag.{Bag}
use Rattle.fol_store.specs.Gathered.{AreFree, OthersSpared, Touched}
use Rattle.fol_store.specs.Stock.{Stock, bag_of}
use Rattle.fol_store.specs.Steps.{IsTarget}
use Rattle.fol_store.proofs.Stepping.{spared_same}

pub at_own : (f : ℕ → Bag) (id : ℕ) (b : Bag) → at_id f id b id ≡ b
at_own f id b = rw (nat_self id) refl

pub at_other : (f : ℕ → Bag) (id : ℕ) (b : Bag) (u : ℕ) → u ≢ id → at_id f id b u ≡ f u
at_other f id b u n = elim (cases_Bool (nat_eq id u)) [ inl e ↦ absurd (n (sym (eqb-true id u e))) | inr e ↦ rw e refl ]

module _ (id : ℕ) (chunks : List ChunkPos) where
  -- only the one bag changes
  pub others_at : (f g : ℕ → Bag) (b : Bag) → g ≡ at_id f id b → OthersSpared id chunks f g
  others_at f g b e u n = spared_same chunks (f u) (g u) (ap (λ (h : ℕ → Bag). h u) e ∙ at_other f id b u n)

  pub own_at : (f g : ℕ → Bag) (b : Bag) → g ≡ at_id f id b → g id ≡ b
  own_at f g b e = ap (λ (h : ℕ → Bag). h id) e ∙ at_own f id b

  -- the bag that gets the chunks is the target
  pub is_target : (s t : Stock) → bag_of t ≡ at_id (bag_of s) id (let b : Bag = record (bag_of s id) { chunks = chunks } in b) → t.arrivals ≡ [] → (bag_of s id).here ≡ true → (bag_of s id).taken ≡ false → (bag_of s id).listed ≡ false → AreFree (bag_of s) chunks → IsTarget id chunks t
  is_target s t e none here taken listed free =
      let own : bag_of t id ≡ (let b : Bag = record (bag_of s id) { chunks = chunks } in b) = own_at (bag_of s) (bag_of t) (let b : Bag = record (bag_of s id) { chunks = chunks } in b) e in
      record {
        here = ap (λ (b : Bag). b.here) own ∙ here;
        not_listed = ap (λ (b : Bag). b.listed) own ∙ listed;
        chunks_are = ap (λ (b : Bag). b.chunks) own;
        empty = none;
        free = λ u o c r. elim (cases_eq id u) [
          | inl q ↦
              let P : ℕ → Type 0 = λ v. (bag_of t v).taken ≡ true in
              let p : (bag_of t id).taken ≡ true = subst P (sym q) o in
              let z : true ≡ false = sym p ∙ ap (λ (b : Bag). b.taken) own ∙ taken in cc
          | inr n ↦
              let same : bag_of t u ≡ bag_of s u = ap (λ (h : ℕ → Bag). h u) e ∙ at_other (bag_of s) id (let b : Bag = record (bag_of s id) { chunks = chunks } in b) u (λ m. n (sym m)) in
              ap (λ (b : Bag). is_recorded b.chunks c) same ∙ free u (sym (ap (λ (b : Bag). b.taken) same) ∙ o) c r
        ];
      }

-- a bag that is not listed afterwards and has the same numbers was touched
pub touched : (a b : Bag) (list : List ChunkPos) → b ≡ (let r : Bag = record a { chunks = list } in r) → a.listed ≡ false → Touched a b
touched a b list e w = record {
  same = e ∙ sym (ap (λ (z : Bag). let r : Bag = record a { listed = z.listed; chunks = z.chunks } in r) e);
  listed = λ o. (let z : true ≡ false = sym o ∙ ap (λ (x : Bag). x.listed) e ∙ w in cc);
}
