use Rattle.std.proofs.Common.{◌≡◌, ℕ, ◌||◌, Bool, true, false, List, [], ◌∷◌, refl, sym, ◌∙◌, ap, inl, inr, pos}
use Rattle.std.specs.Prelude.{nat_eq, if◌then◌else◌}
use Rattle.std.specs.List.Sorted.{IsStrictlySortedBy}
use Rattle.std.proofs.lemmas.Bool.{cases_Bool}
use Rattle.fol_model.specs.declared.places.BlockPos.{BlockPos}
use Rattle.fol_model.specs.declared.places.ChunkPos.{ChunkPos}
use Rattle.fol_model.specs.ActionStep.{at_block}
use Rattle.fol_model.specs.Geometry.{chunk_of, same_block}
use Rattle.fol_model.specs.Universe.{chunk_cmp}
use Rattle.fol_keyed.proofs.Places.{same_block-true}
use Rattle.fol_chunks.specs.Contents.{flat_of, is_listed}
use Rattle.fol_data_tests.proofs.chunks.blocks_meet_in_their_chunks.Goals as goal

abbrev pair : BlockPos → BlockPos → BlockPos → ℕ
pair first second = at_block (at_block (λ b. 0) first 9) second 9

-- two pairs of blocks that differ have no block in common
none_in_both : (a b c d : BlockPos) → same_block a c ≡ false → same_block b c ≡ false → same_block a d ≡ false → same_block b d ≡ false → (p : Bool) (q : BlockPos) → (nat_eq (pair c d q) 0 || nat_eq (if p then pair a b q else 0) 0) ≡ true
none_in_both a b c d ac bc ad bd p q =
    elim (cases_Bool (same_block d q)) [
      | inl e ↦
          let s : d ≡ q = same_block-true d q e in
          let x : same_block a q ≡ false = ap (same_block a) (sym s) ∙ ad in
          let y : same_block b q ≡ false = ap (same_block b) (sym s) ∙ bd in
          rw (e, x, y) (nothing p)
      | inr e ↦
          elim (cases_Bool (same_block c q)) [
            | inl f ↦
                let s : c ≡ q = same_block-true c q f in
                let x : same_block a q ≡ false = ap (same_block a) (sym s) ∙ ac in
                let y : same_block b q ≡ false = ap (same_block b) (sym s) ∙ bc in
                rw (e, f, x, y) (nothing p)
            | inr f ↦ rw (e, f) refl
          ]
    ]
  where
    nothing : (p : Bool) → (false || nat_eq (if p then 0 else 0) 0) ≡ true
    nothing true = refl
    nothing false = refl

place : ℕ → BlockPos
place x = record { x = pos x; y = pos 64; z = pos 0 }

-- the two chunks
chunks : List ChunkPos
chunks = record { x = pos 0; z = pos 0 } ∷ record { x = pos 1; z = pos 0 } ∷ []

pub move_listed-requires-clause-order : goal.move_listed-requires-clause-order
unfolding IsStrictlySortedBy chunk_cmp
move_listed-requires-clause-order g c = ((refl, tt), (tt, tt))

places_apart : (q : BlockPos) → (nat_eq (pair (place 22) (place 6) q) 0 || nat_eq (if is_listed chunks (chunk_of q) then pair (place 20) (place 5) q else 0) 0) ≡ true
unfolding same_block place
places_apart q = none_in_both (place 20) (place 5) (place 22) (place 6) refl refl refl refl (is_listed chunks (chunk_of q)) q

pub move_listed-requires-clause-apart : goal.move_listed-requires-clause-apart
unfolding chunks place
move_listed-requires-clause-apart g c =
    let there : (flat_of c.in_ok-into.into).blocks ≡ pair (place 22) (place 6) = rw (c.block-3.ensures, c.block-4.ensures) at c.in_ok-into.ensures.blocks in
    let here : (flat_of c.in_ok-chunks.chunks).blocks ≡ pair (place 20) (place 5) = rw (c.block.ensures, c.block-2.ensures) at c.in_ok-chunks.ensures.blocks in
    record {
      blocks = λ q. rw (there, here) (places_apart q);
      standing = λ id. rw c.in_ok-into.ensures.standing refl;
    }
