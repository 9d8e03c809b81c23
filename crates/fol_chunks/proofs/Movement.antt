-- The movement of entities.
use Rattle.std.proofs.Common.{◌≡◌, ℕ, ◌<◌, ◌≤◌, true, false, ◌&&◌, List, [], ◌∷◌, get_or, refl, sym, ◌∙◌, ap, inl, inr, arith, IsTrue, IsNone, Option, Some, None, rules, div-add-mod', mod-lt}
use Rattle.std.specs.Prelude.{ℤ, pos, negsuc, nat_abs, nat_le, nat_eq, All, map, FitsSigned}
use Rattle.std.specs.Int.{int_div_euclid, w32}
use Rattle.std.specs.List.{AllByRecursion}
use Rattle.std.specs.List.Sorted.{IsStrictlySortedBy}
use Rattle.std.specs.Option.{is_none}
use Rattle.std.specs.Ordering.{int_eq, nat_cmp}
use Rattle.std.specs.declared.cmp.Ordering.TheVariants.{Less}
use Rattle.std.proofs.lemmas.Bool.{cases_Bool, and_parts, leb-true}
use Rattle.std.proofs.lemmas.Bool.Decides.{Decides-int_eq}
use Rattle.std.proofs.lemmas.List.Folds.{list_any_none}
use Rattle.std.proofs.Math.IntN.{+ℤ_idr}
use Rattle.std.proofs.Math.Path.{fun_ext}
use Rattle.fol_model.specs.declared.places.ChunkPos.{ChunkPos}
use Rattle.fol_model.specs.declared.places.BlockPos.{BlockPos}
use Rattle.fol_model.specs.declared.entities.Entity.{Entity}
use Rattle.fol_model.specs.Geometry.{same_chunk, chunk_of, is_chunk}
use Rattle.fol_model.specs.ActionStep.{Recorded, Standing}
use Rattle.fol_model.specs.FlatTick.{ahead, walked}
use Rattle.fol_model.specs.World.{standing_in}
use Rattle.fol_chunks.specs.Contents.{is_recorded}
use Rattle.fol_keyed.specs.Options.{option_filter}
use Rattle.fol_chunks.specs.Crowds.{is_still, walks}
use Rattle.fol_chunks.specs.Rows.{stepped, by_id}
use Rattle.fol_keyed.proofs.Places.{same_chunk-true}

-- a chunk that is not within the limits is not recorded
pub outside_limits : (chunks : List ChunkPos) (c : ChunkPos) → All (λ q. IsTrue (is_chunk q)) chunks → is_chunk c ≡ false → is_recorded chunks c ≡ false
outside_limits chunks c h f = list_any_none (same_chunk c) chunks (λ k d l.
    elim (cases_Bool (same_chunk c (get_or chunks k d))) [
      | inl e ↦ let w : is_chunk c ≡ true = ap is_chunk (same_chunk-true c (get_or chunks k d) e) ∙ h k d l in let v : true ≡ false = sym w ∙ f in cc
      | inr e ↦ e
    ])

fits_chunk : (x : ℤ) → nat_abs (int_div_euclid x (pos 16)) ≤ 1000000 → FitsSigned w32 x
fits_chunk (pos a) h = let d = div-add-mod' a 16 in let s : 0 < 16 = omega arith in let m = mod-lt a s in search rules
fits_chunk (negsuc a) h = let d = div-add-mod' a 16 in let s : 0 < 16 = omega arith in let m = mod-lt a s in search rules

pub chunk_fits : (b : BlockPos) → is_chunk (chunk_of b) ≡ true → FitsSigned w32 b.x × FitsSigned w32 b.z
unfolding is_chunk chunk_of
chunk_fits b h =
    let p = and_parts (nat_le (nat_abs (int_div_euclid b.x (pos 16))) 1000000) (nat_le (nat_abs (int_div_euclid b.z (pos 16))) 1000000) h in
    (fits_chunk b.x (leb-true _ _ p.0), fits_chunk b.z (leb-true _ _ p.1))

-- what does not fit is in no recorded chunk
pub misfit_stays : (chunks : List ChunkPos) (b : BlockPos) → All (λ q. IsTrue (is_chunk q)) chunks → ((FitsSigned w32 b.x × FitsSigned w32 b.z) → ⊥) → is_recorded chunks (chunk_of b) ≡ false
misfit_stays chunks b h n =
    elim (cases_Bool (is_chunk (chunk_of b))) [
      | inl e ↦ absurd (n (chunk_fits b e))
      | inr e ↦ outside_limits chunks (chunk_of b) h e
    ]

pub step_stays : (rec : Recorded) (e : Entity) → rec (chunk_of (ahead e.vx e.vz e.at)) ≡ false → e ≡ stepped rec e
step_stays rec e h = elim (cases_Bool (rec (chunk_of e.at))) [ inl t ↦ rw (t, h) refl | inr t ↦ rw t refl ]

-- ---- what the movement makes of a look-up
module _ (rec : Recorded) where
  pub walked_none : (o : Option Standing) → is_none (walked rec o) ≡ is_none o
  walked_none None = refl
  walked_none (Some s) = elim (cases_Bool (rec (chunk_of s.at) && rec (chunk_of (ahead s.vx s.vz s.at)))) [ inl t ↦ rw t refl | inr t ↦ rw t refl ]

  -- the speed stays
  pub walked_kept : (o : Option Standing) → IsNone (option_filter is_still o) → IsNone (option_filter is_still (walked rec o))
  walked_kept None h = refl
  walked_kept (Some s) h =
      elim (cases_Bool (is_still s)) [
        | inl e ↦ let w : true ≡ false = rw e at h in absurd cc
        | inr e ↦ elim (cases_Bool (rec (chunk_of s.at) && rec (chunk_of (ahead s.vx s.vz s.at)))) [ inl t ↦ rw (t, e) refl | inr t ↦ rw (t, e) refl ]
      ]

  -- what has no speed stays
  pub walked_still : (o : Option Standing) → IsNone (option_filter walks o) → o ≡ walked rec o
  walked_still None h = refl
  walked_still (Some s) h =
      elim (cases_Bool (is_still s)) [
        | inl t ↦
            let p = and_parts (int_eq s.vx (pos 0)) (int_eq s.vz (pos 0)) t in
            stands s ((Decides-int_eq s.vx (pos 0)).0 p.0) ((Decides-int_eq s.vz (pos 0)).0 p.1)
        | inr t ↦ let w : true ≡ false = rw t at h in absurd cc
      ]
    where
      stands : (s : Standing) → s.vx ≡ pos 0 → s.vz ≡ pos 0 → Some s ≡ walked rec (Some s)
      stands s p q =
          rw (p, q, +ℤ_idr s.at.x, +ℤ_idr s.at.z) (elim (cases_Bool (rec (chunk_of s.at))) [ inl t ↦ rw t refl | inr t ↦ rw t refl ])

stepped_id : (rec : Recorded) (e : Entity) → (stepped rec e).id ≡ e.id
stepped_id rec e = elim (cases_Bool (rec (chunk_of e.at) && rec (chunk_of (ahead e.vx e.vz e.at)))) [ inl t ↦ rw t refl | inr t ↦ rw t refl ]

pub standing_stepped : (rec : Recorded) (es : List Entity) → standing_in (map (stepped rec) es) ≡ λ id. walked rec (standing_in es id)
standing_stepped rec es = fun_ext (one rec es)
  where
    one : (rec : Recorded) (es : List Entity) (id : ℕ) → standing_in (map (stepped rec) es) id ≡ walked rec (standing_in es id)
    one rec [] id = refl
    one rec (e ∷ es) id =
        elim (cases_Bool (nat_eq e.id id)) [
          | inl t ↦
              let s : nat_eq (stepped rec e).id id ≡ true = ap (λ k. nat_eq k id) (stepped_id rec e) ∙ t in
              rw (s, t) (elim (cases_Bool (rec (chunk_of e.at) && rec (chunk_of (ahead e.vx e.vz e.at)))) [ inl m ↦ rw m refl | inr m ↦ rw m refl ])
          | inr t ↦ let s : nat_eq (stepped rec e).id id ≡ false = ap (λ k. nat_eq k id) (stepped_id rec e) ∙ t in rw (s, t) (one rec es id)
        ]

pub order_stepped : (rec : Recorded) (es : List Entity) → IsStrictlySortedBy by_id es → IsStrictlySortedBy by_id (map (stepped rec) es)
unfolding IsStrictlySortedBy
order_stepped rec [] s = tt
order_stepped rec (e ∷ es) s = (all rec e es s.0, order_stepped rec es s.1)
  where
    all : (rec : Recorded) (e : Entity) (es : List Entity) → AllByRecursion (λ f. by_id e f ≡ Less) es → AllByRecursion (λ f. by_id (stepped rec e) f ≡ Less) (map (stepped rec) es)
    all rec e [] h = tt
    all rec e (f ∷ fs) h = (ap (λ k. nat_cmp k (stepped rec f).id) (stepped_id rec e) ∙ ap (λ k. nat_cmp e.id k) (stepped_id rec f) ∙ h.0, all rec e fs h.1)
