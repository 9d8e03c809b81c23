-- Where nothing is counted on a chunk, nothing lies there.
use Rattle.std.proofs.Common.{◌≡◌, ℕ, ◌+◌, Bool, true, false, List, [], ◌∷◌, refl, sym, ◌∙◌, ap, inl, inr, arith, Some, None}
use Rattle.std.specs.Prelude.{nat_eq, if◌then◌else◌, count_by}
use Rattle.std.proofs.lemmas.Bool.{cases_Bool}
use Rattle.std.proofs.lemmas.List.Sums.{sum_by-cons}
use Rattle.fol_keyed.proofs.Places.{same_block-true, same_chunk-true}
use Rattle.fol_model.specs.declared.places.ChunkPos.{ChunkPos}
use Rattle.fol_model.specs.declared.places.BlockPos.{BlockPos}
use Rattle.fol_model.specs.declared.openings.BlockAt.{BlockAt}
use Rattle.fol_model.specs.declared.entities.Entity.{Entity}
use Rattle.fol_model.specs.Geometry.{same_chunk, same_block, chunk_of}
use Rattle.fol_model.specs.ActionStep.{Standing, standing_of}
use Rattle.fol_model.specs.Job.{is_on}
use Rattle.fol_model.specs.World.{block_in, standing_in}
use Rattle.fol_chunks.specs.Contents.{is_recorded, size_within}
use Rattle.fol_data.specs.Rests.{rests_of}
use Rattle.fol_data.specs.declared.region_data.RegionData.{RegionData}
use Rattle.fol_bags.specs.Things.{Key, of_block, of_entity, of_task, Thing, things, some_number, chunk_at}
use Rattle.fol_bags.specs.Clear.{HasNoTask, IsClearOf}
use Rattle.fol_keyed.proofs.Recorded.{single-self, same_chunk-swap}

-- the first is not counted, and none of the others is
none_counted : {X : Type 0} (p : X → Bool) (x : X) (xs : List X) → count_by p (x ∷ xs) ≡ 0 → (p x ≡ false) × (count_by p xs ≡ 0)
none_counted p x xs e = go (p x) refl (sym (sum_by-cons (λ y. if p y then 1 else 0) x xs) ∙ e)
  where
    go : (b : Bool) → p x ≡ b → (if p x then 1 else 0) + count_by p xs ≡ 0 → (p x ≡ false) × (count_by p xs ≡ 0)
    go false n f = (n, (let g : 0 + count_by p xs ≡ 0 = rw n at f in omega (arith, g)))
    go true t f =
        let g : 1 + count_by p xs ≡ 0 = rw t at f in
        let z : ⊥ = omega (arith, g) in absurd z

module _ (p : ChunkPos → Bool) where
  no_block : (xs : List BlockAt) (b : BlockPos) (n : ℕ) → count_by (λ (x : BlockAt). p (chunk_of x.at)) xs ≡ 0 → some_number (block_in xs b) ≡ Some n → p (chunk_of b) ≡ false
  no_block [] b n e f = (let z : None ≡ Some n = f in cc)
  no_block (x ∷ xs) b n e f =
      let two = none_counted (λ (y : BlockAt). p (chunk_of y.at)) x xs e in
      elim (cases_Bool (same_block x.at b)) [
        | inl t ↦ ap (λ (q : BlockPos). p (chunk_of q)) (sym (same_block-true x.at b t)) ∙ two.0
        | inr m ↦ no_block xs b n two.1 (rw m at f)
      ]

  no_entity : (es : List Entity) (id : ℕ) (s : Standing) → count_by (λ (e : Entity). p (chunk_of e.at)) es ≡ 0 → standing_in es id ≡ Some s → p (chunk_of s.at) ≡ false
  no_entity [] id s e f = cc
  no_entity (x ∷ xs) id s e f =
      let two = none_counted (λ (y : Entity). p (chunk_of y.at)) x xs e in
      elim (cases_Bool (nat_eq x.id id)) [
        | inl t ↦
            let g : Some (standing_of x) ≡ Some s = rw t at f in
            let h : standing_of x ≡ s = cc in
            ap (λ (y : Standing). p (chunk_of y.at)) (sym h) ∙ two.0
        | inr m ↦ no_entity xs id s two.1 (rw m at f)
      ]

-- no task lies on the chunk, and nothing else is counted there
pub clear_of : (c : ChunkPos) (r : RegionData) → HasNoTask c (rests_of r) → size_within (is_recorded (c ∷ [])) r.chunks ≡ 0 → IsClearOf c r
clear_of c r none contents = lies
  where
    off : (p : ChunkPos) → is_recorded (c ∷ []) p ≡ false → same_chunk c p ≡ false
    off p e = elim (cases_Bool (same_chunk c p)) [
      | inl t ↦ let f : true ≡ false = sym (single-self c p (same_chunk-true c p t)) ∙ e in cc
      | inr t ↦ t
    ]

    lies : (k : Key) (x : Thing k) → things r k ≡ Some x → same_chunk c (chunk_at k x) ≡ false
    lies (of_block b) x q = off (chunk_of b) (no_block (is_recorded (c ∷ [])) r.chunks.blocks b x (omega arith) q)
    lies (of_entity id) x q = off (chunk_of x.at) (no_entity (is_recorded (c ∷ [])) r.chunks.entities id x (omega arith) q)
    lies (of_task n) x q = same_chunk-swap c x.chunk ∙ ap (is_on c) (sym q) ∙ none n
