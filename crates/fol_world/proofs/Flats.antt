-- Flat worlds: what lies in some chunks and what lies outside them.
use Rattle.std.proofs.Common.{◌≡◌, ℕ, refl, ◌∙◌, ap, true, false, inl, inr, not, ◌&&◌}
use Rattle.std.specs.Prelude.{nat_eq, Option, Some, None}
use Rattle.std.specs.Option.{option_or}
use Rattle.std.proofs.Math.Path.{fun_ext}
use Rattle.std.proofs.lemmas.Bool.{cases_Bool, eqb-true}
use Rattle.fol_model.specs.declared.places.BlockPos.{BlockPos}
use Rattle.fol_model.specs.declared.places.ChunkPos.{ChunkPos}
use Rattle.fol_model.specs.Geometry.{chunk_of}
use Rattle.fol_model.specs.ActionStep.{Flat, Recorded, Standing}
use Rattle.fol_chunks.specs.Contents.{joined, outside, option_filter, within}

pub flat_ext : (f g : Flat) → ((b : BlockPos) → f.blocks b ≡ g.blocks b) → ((id : ℕ) → f.standing id ≡ g.standing id) → f ≡ g
flat_ext f g hb hs =
    ap (λ (p : BlockPos → ℕ). let r : Flat = record { blocks = p; standing = f.standing } in r) (fun_ext hb)
    ∙ ap (λ (q : ℕ → Option Standing). let r : Flat = record { blocks = g.blocks; standing = q } in r) (fun_ext hs)

all_pass : (rec : Recorded) (o : Option Standing) → ((c : ChunkPos) → rec c ≡ false) → option_filter (λ (s : Standing). not (rec (chunk_of s.at))) o ≡ o
all_pass rec None h = refl
all_pass rec (Some s) h = let e = h (chunk_of s.at) in rw e refl

-- all lies outside no chunk
pub outside_none : (rec : Recorded) (f : Flat) → ((c : ChunkPos) → rec c ≡ false) → outside rec f ≡ f
outside_none rec f h = flat_ext (outside rec f) f
    (λ b. let e = h (chunk_of b) in rw e refl)
    (λ id. all_pass rec (f.standing id) h)

-- what lies within q, which is a part of a, is back, and all else stays outside
module _ (a b q : Recorded) (left : (c : ChunkPos) → b c ≡ (a c && not (q c))) (there : (c : ChunkPos) → q c ≡ true → a c ≡ true) where
  blocks_back : (f : Flat) (at : BlockPos) → (joined (outside a f) (within q f)).blocks at ≡ (outside b f).blocks at
  blocks_back f at = let e = left (chunk_of at) in elim (cases_Bool (q (chunk_of at))) [
    | inl k ↦ let i = there (chunk_of at) k in rw (e, i, k) refl
    | inr k ↦ elim (cases_Bool (a (chunk_of at))) [
      | inl i ↦ rw (e, i, k) refl
      | inr i ↦ elim (cases_Bool (nat_eq (f.blocks at) 0)) [
        | inl z ↦ let n : f.blocks at ≡ 0 = eqb-true _ _ z in rw (e, i, k, n) refl
        | inr z ↦ rw (e, i, k, z) refl
      ]
    ]
  ]

  stands_back : (o : Option Standing) → option_or (option_filter (λ (s : Standing). not (a (chunk_of s.at))) o) (option_filter (λ (s : Standing). q (chunk_of s.at)) o)
      ≡ option_filter (λ (s : Standing). not (b (chunk_of s.at))) o
  stands_back None = refl
  stands_back (Some s) = let e = left (chunk_of s.at) in elim (cases_Bool (q (chunk_of s.at))) [
    | inl k ↦ let i = there (chunk_of s.at) k in rw (e, i, k) refl
    | inr k ↦ elim (cases_Bool (a (chunk_of s.at))) [ inl i ↦ rw (e, i, k) refl | inr i ↦ rw (e, i) refl ]
  ]

  pub joined_back : (f : Flat) → joined (outside a f) (within q f) ≡ outside b f
  joined_back f = flat_ext _ _ (blocks_back f) (λ id. stands_back (f.standing id))
