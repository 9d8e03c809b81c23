-- A bag that came back follows the chunks that it noted.
use Rattle.std.proofs.Common.{◌≡◌, ◌≢◌, ℕ, refl, sym, ◌∙◌, ap, subst, Bool, true, false, not, inl, inr, ◌&&◌, ◌||◌, List, [], ◌∷◌, ◌++◌}
use Rattle.std.specs.Prelude.{nat_eq}
use Rattle.std.specs.List.Sorted.{IsStrictlySortedBy}
use Rattle.std.proofs.Math.Path.{fun_ext}
use Rattle.std.proofs.lemmas.Bool.{cases_Bool, eqb-true, eq-eqb, true≢false}
use Rattle.std.proofs.lemmas.List.Folds.{list_any-append}
use Rattle.fol_model.specs.declared.places.ChunkPos.{ChunkPos}
use Rattle.fol_model.specs.Geometry.{same_chunk}
use Rattle.fol_model.specs.ActionStep.{at_id}
use Rattle.fol_laws.proofs.FunctionsChanged.{at_other}
use Rattle.fol_laws.proofs.SamePlaces.{same_chunk-true, same_chunk-self}
use Rattle.fol_chunks.specs.Contents.{is_recorded}
use Rattle.fol_chunks.specs.Order.{chunk_cmp}
use Rattle.fol_store.specs.Bag.{Bag}
use Rattle.fol_store.specs.Relisted.{Narrowed, Relisted, Widened}
use Rattle.fol_world.specs.Bags.{KeepsUp}
use Rattle.fol_world.specs.CatchingUp.{CatchesUp, KeepsUpBut}

-- a bag put in its own place
pub own_place : (f k : ℕ → Bag) (r : ℕ) → ((u : ℕ) → u ≢ r → k u ≡ f u) → k ≡ at_id f r (k r)
own_place f k r others = fun_ext (λ q. elim (cases_Bool (nat_eq r q)) [
  | inl e ↦ let s : r ≡ q = eqb-true r q e in rw e (ap k (sym s))
  | inr e ↦ rw e (others q (λ x. true≢false (sym (eq-eqb r q (sym x)) ∙ e)))
])

-- a chunk that is neither c nor among the others
pub but_last : (xs : List ChunkPos) (c q : ChunkPos) → same_chunk c q ≡ false → is_recorded xs q ≡ false → is_recorded (xs ++ c ∷ []) q ≡ false
but_last xs c q other none =
    let a : same_chunk q c ≡ false = elim (cases_Bool (same_chunk q c)) [
      | inl s ↦ absurd (true≢false (sym (ap (same_chunk c) (same_chunk-true q c s) ∙ same_chunk-self c) ∙ other))
      | inr s ↦ s
    ] in
    list_any-append (same_chunk q) xs (c ∷ []) ∙ rw (none, a) refl

-- one bag is put in its place after another
pub place_twice : (f k m : ℕ → Bag) (r : ℕ) → k ≡ at_id f r (k r) → m ≡ at_id k r (m r) → m ≡ at_id f r (m r)
place_twice f k m r a b = own_place f m r (λ u d. ap (λ (x : ℕ → Bag). x u) b ∙ at_other k r (m r) u d ∙ ap (λ (x : ℕ → Bag). x u) a ∙ at_other f r (k r) u d)

-- a bag of which a noted chunk was taken
pub popped : (b d : Bag) (c : ChunkPos) (xs : List ChunkPos) → d ≡ (let r : Bag = record b { since = d.since } in r) → b.since ≡ d.since ++ c ∷ [] → (b.listed ≡ true → KeepsUp b xs) → d.listed ≡ true → KeepsUpBut c d xs
popped b d c xs e s keeps w =
    let k = keeps (sym (ap (λ (x : Bag). x.listed) e) ∙ w) in
    record {
      order = subst (IsStrictlySortedBy chunk_cmp) (sym (ap (λ (x : Bag). x.chunks) e)) k.order;
      same = λ q other none. ap (λ (x : Bag). is_recorded x.chunks q) e ∙ k.same q (ap (λ (ys : List ChunkPos). is_recorded ys q) s ∙ but_last d.since c q other none);
    }

-- the chunks of a bag that got c, or lost it
module _ (c : ChunkPos) (xs : List ChunkPos) (old new : Bag) (p : ChunkPos → Bool) (home : old.taken ≡ false) (own : Relisted p old new)
    (follows : old.listed ≡ true → KeepsUpBut c old xs) (here : p c ≡ is_recorded xs c) (others : (q : ChunkPos) → same_chunk c q ≡ false → p q ≡ is_recorded old.chunks q) where
  pub caught : CatchesUp xs old new
  caught = record {
    same = own.same ∙ ap (λ (ys : List ChunkPos). record old { listed = new.listed; calm = new.calm; chunks = new.chunks; since = ys }) (own.here home);
    before = own.before;
    listed = λ w. record {
      order = own.order w;
      same = λ q n. own.chunks w q n ∙ elim (cases_Bool (same_chunk c q)) [
        | inl s ↦ let P : ChunkPos → Type 0 = λ d. p d ≡ is_recorded xs d in subst P (same_chunk-true c q s) here
        | inr s ↦ others q s ∙ (follows (own.before w)).same q s (own.noted w q n)
      ];
    };
  }

module _ (c : ChunkPos) (xs : List ChunkPos) (old new : Bag) (home : old.taken ≡ false) (follows : old.listed ≡ true → KeepsUpBut c old xs) where
  pub caught_gain : Widened c old new → is_recorded xs c ≡ true → CatchesUp xs old new
  caught_gain own there = caught c xs old new (λ q. is_recorded old.chunks q || same_chunk c q) home own follows
      (let s = same_chunk-self c in rw s (last (is_recorded old.chunks c) ∙ sym there)) (λ q s. rw s (none (is_recorded old.chunks q)))
    where
      last : (x : Bool) → (x || true) ≡ true
      last true = refl
      last false = refl

      none : (x : Bool) → (x || false) ≡ x
      none true = refl
      none false = refl

  pub caught_lose : Narrowed c old new → is_recorded xs c ≡ false → CatchesUp xs old new
  caught_lose own there = caught c xs old new (λ q. is_recorded old.chunks q && not (same_chunk c q)) home own follows
      (let s = same_chunk-self c in rw s (last (is_recorded old.chunks c) ∙ sym there)) (λ q s. rw s (all (is_recorded old.chunks q)))
    where
      last : (x : Bool) → (x && false) ≡ false
      last true = refl
      last false = refl

      all : (x : Bool) → (x && true) ≡ x
      all true = refl
      all false = refl

-- a bag that has to be gathered anew
pub caught_none : (xs : List ChunkPos) (old new : Bag) → new ≡ (let r : Bag = record old { listed = false } in r) → CatchesUp xs old new
caught_none xs old new e =
    let w : new.listed ≡ false = ap (λ (b : Bag). b.listed) e in
    record {
      same = e ∙ sym (ap (λ (b : Bag). let r : Bag = record old { listed = b.listed; calm = b.calm; chunks = b.chunks } in r) e);
      before = λ t. absurd (true≢false (sym t ∙ w));
      listed = λ t. absurd (true≢false (sym t ∙ w));
    }
