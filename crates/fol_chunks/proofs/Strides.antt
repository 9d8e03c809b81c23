-- Many steps at once.
use Rattle.std.proofs.Common.{◌≡◌, ℕ, zero, suc, ◌+◌, ◌*◌, ◌/◌, ◌<◌, ◌≤◌, true, false, refl, sym, ◌∙◌, ap, inl, inr, ◌⊎◌, arith, add-one, w32, w64, to_z, of_z, div-add-mod', mod-lt, mul-le-mul_right}
use Rattle.std.specs.Prelude.{ℤ, pos, negsuc, ◌+ℤ◌, ◌-ℤ◌, ◌*ℤ◌, ◌≤ℤ◌, ◌<ℤ◌, int_le, unsigned_abs, ◌^◌, FitsSigned}
use Rattle.std.specs.Fn.{iterate}
use Rattle.std.proofs.Math.Nat.{div-mul-le_self, eq-or-lt_of_le, suc-mul}
use Rattle.std.proofs.Math.IntN.{suc_ℤ-*ℤ, zero-*ℤ, +ℤ_idr}
use Rattle.std.proofs.lemmas.Bool.{cases_Bool, and_parts}
use Rattle.std.proofs.lemmas.Int.{ints}
use Rattle.fol_model.specs.declared.entities.Entity.{Entity}
use Rattle.fol_keyed.proofs.Rectangles.{le_z_true, true_le_z}
use Rattle.fol_chunks.specs.declared.area.Area.{Area}
use Rattle.fol_chunks.specs.Areas.{is_from_to, is_inside, place_after, stepped_in}

-- a walk that goes on for m steps, and then stays
pub iterate_path : {A : Type 0} (f : A → A) (n m : ℕ) (p : ℕ → A) → m ≤ n → ((k : ℕ) → k < m → f (p k) ≡ p (suc k)) → (m < n → f (p m) ≡ p m) → iterate f n (p 0) ≡ p m
iterate_path f zero zero p l g h = refl
iterate_path f zero (suc m) p l g h = absurd (omega (arith, l))
iterate_path f (suc n) zero p l g h =
    let stays : f (p 0) ≡ p 0 = h (omega arith) in
    ap (iterate f n) stays ∙ iterate_path f n zero p (omega arith) (λ k b. absurd (omega (arith, b))) (λ b. stays)
iterate_path f (suc n) (suc m) p l g h =
    ap (iterate f n) (g 0 (omega arith))
    ∙ iterate_path f n m (λ k. p (suc k)) (omega (arith, l)) (λ k b. g (suc k) (omega (arith, b))) (λ b. h (omega (arith, b)))

-- ---- one coordinate
pub place_first : (at speed : ℤ) → place_after at speed 0 ≡ at
place_first at speed = rw (zero-*ℤ speed) (+ℤ_idr at)

pub place_next : (at speed : ℤ) (k : ℕ) → place_after at speed (suc k) ≡ place_after at speed k +ℤ speed
place_next at speed k = let more : pos (suc k) *ℤ speed ≡ pos k *ℤ speed +ℤ speed = suc_ℤ-*ℤ (pos k) speed in omega (arith, ints, more)

within_steps : (k d s : ℕ) → k ≤ d / s → k * s ≤ d
within_steps k d s l = omega (arith, mul-le-mul_right s l, div-mul-le_self d s)

beyond_steps : (d s : ℕ) → 0 < s → d < (d / s + 1) * s
beyond_steps d s l = omega (arith, suc-mul (d / s) s, div-add-mod' d s, mod-lt d l)

from_to : (low high x : ℤ) → low ≤ℤ x → x ≤ℤ high → is_from_to low high x ≡ true
from_to low high x l h = rw (true_le_z low x l, true_le_z x high h) refl

pub from_to_parts : (low high x : ℤ) → is_from_to low high x ≡ true → (low ≤ℤ x) × (x ≤ℤ high)
from_to_parts low high x h = let p = and_parts (int_le low x) (int_le x high) h in (le_z_true low x p.0, le_z_true x high p.1)

not_from_to : (low high x : ℤ) → ((low ≤ℤ x) → (x ≤ℤ high) → ⊥) → is_from_to low high x ≡ false
not_from_to low high x h =
    elim (cases_Bool (is_from_to low high x)) [
      | inl t ↦ let p = from_to_parts low high x t in absurd (h p.0 p.1)
      | inr e ↦ e
    ]

module _ (at low high : ℤ) (here : is_from_to low high at ≡ true) where
  pub ahead_inside : (speed : ℤ) (k : ℕ) → pos 0 ≤ℤ speed → k ≤ unsigned_abs (high -ℤ at) / unsigned_abs speed → is_from_to low high (place_after at speed k) ≡ true
  ahead_inside (pos s) k h l =
      let p = from_to_parts low high at here in
      let w = within_steps k (unsigned_abs (high -ℤ at)) s l in
      from_to low high (at +ℤ pos (k * s)) (omega (arith, ints, p.0)) (omega (arith, ints, p.1, w))
  ahead_inside (negsuc s) k h l = absurd (omega (arith, ints, h))

  pub ahead_outside : (speed : ℤ) → pos 0 <ℤ speed → is_from_to low high (place_after at speed (unsigned_abs (high -ℤ at) / unsigned_abs speed + 1)) ≡ false
  ahead_outside (pos s) h =
      let p = from_to_parts low high at here in
      let w = beyond_steps (unsigned_abs (high -ℤ at)) s (omega (arith, ints, h)) in
      not_from_to low high (at +ℤ pos ((unsigned_abs (high -ℤ at) / s + 1) * s)) (λ l b. omega (arith, ints, p.1, w, b))
  ahead_outside (negsuc s) h = absurd (omega (arith, ints, h))

  pub back_inside : (speed : ℤ) (k : ℕ) → speed <ℤ pos 0 → k ≤ unsigned_abs (low -ℤ at) / unsigned_abs speed → is_from_to low high (place_after at speed k) ≡ true
  back_inside (pos s) k h l = absurd (omega (arith, ints, h))
  back_inside (negsuc s) k h l =
      let p = from_to_parts low high at here in
      let w = within_steps k (unsigned_abs (low -ℤ at)) (suc s) l in
      from_to low high (place_after at (negsuc s) k) (omega (arith, ints, p.0, w)) (omega (arith, ints, p.1))

  pub back_outside : (speed : ℤ) → speed <ℤ pos 0 → is_from_to low high (place_after at speed (unsigned_abs (low -ℤ at) / unsigned_abs speed + 1)) ≡ false
  back_outside (pos s) h = absurd (omega (arith, ints, h))
  back_outside (negsuc s) h =
      let p = from_to_parts low high at here in
      let w = beyond_steps (unsigned_abs (low -ℤ at)) (suc s) (omega arith) in
      not_from_to low high (place_after at (negsuc s) (unsigned_abs (low -ℤ at) / suc s + 1)) (λ l b. omega (arith, ints, p.0, w, l))

-- the sum as the code has it, in a wider type
widened : (a : ℤ) → FitsSigned w32 a → to_z w64 (of_z w64 (to_z w32 (of_z w32 a))) ≡ a
widened a f = omega (arith, ints)

counted : (n : ℕ) → n < 2 ^ 32 → to_z w64 n ≡ pos n
counted n l = omega (arith, ints)

wide_sum : (a t : ℤ) → FitsSigned w32 a → FitsSigned w32 (a +ℤ t) → to_z w64 (of_z w64 (a +ℤ to_z w64 (of_z w64 t))) ≡ a +ℤ t
wide_sum a t f g = omega (arith, ints)

pub far : (at speed : ℤ) (steps : ℕ) → FitsSigned w32 at → FitsSigned w32 speed → steps < 2 ^ 32 → FitsSigned w32 (place_after at speed steps)
    → to_z w64 (of_z w64 (to_z w64 (of_z w64 (to_z w32 (of_z w32 at))) +ℤ to_z w64 (of_z w64 (to_z w64 steps *ℤ to_z w64 (of_z w64 (to_z w32 (of_z w32 speed))))))) ≡ place_after at speed steps
far at speed steps f g l h = rw (widened at f, widened speed g, counted steps l) (wide_sum at (pos steps *ℤ speed) f h)

-- ---- an entity
abbrev pub after_steps : Entity → ℕ → Entity
after_steps e k = record e { at = record { x = place_after e.at.x e.vx k; y = e.at.y; z = place_after e.at.z e.vz k } }

module _ (area : Area) (e : Entity) where
  goes_on : (k : ℕ) → is_inside area (place_after e.at.x e.vx k) (place_after e.at.z e.vz k) ≡ true → is_inside area (place_after e.at.x e.vx (suc k)) (place_after e.at.z e.vz (suc k)) ≡ true
      → stepped_in area (after_steps e k) ≡ after_steps e (suc k)
  goes_on k here there =
      let next = rw (place_next e.at.x e.vx k, place_next e.at.z e.vz k) at there in
      rw (place_next e.at.x e.vx k, place_next e.at.z e.vz k, here, next) refl

  stays_there : (k : ℕ) → is_inside area (place_after e.at.x e.vx (suc k)) (place_after e.at.z e.vz (suc k)) ≡ false → stepped_in area (after_steps e k) ≡ after_steps e k
  stays_there k there =
      let next = rw (place_next e.at.x e.vx k, place_next e.at.z e.vz k) at there in
      elim (cases_Bool (is_inside area (place_after e.at.x e.vx k) (place_after e.at.z e.vz k))) [ inl t ↦ rw (t, next) refl | inr t ↦ rw t refl ]

  -- it goes on inside for m steps, and then stays
  pub walks_on : (n m : ℕ) → m ≤ n → ((k : ℕ) → k ≤ m → is_inside area (place_after e.at.x e.vx k) (place_after e.at.z e.vz k) ≡ true)
      → (m < n → is_inside area (place_after e.at.x e.vx (suc m)) (place_after e.at.z e.vz (suc m)) ≡ false) → after_steps e m ≡ iterate (stepped_in area) n e
  walks_on n m l inside end =
      let first : after_steps e 0 ≡ e = rw (place_first e.at.x e.vx, place_first e.at.z e.vz) refl in
      sym (iterate_path (stepped_in area) n m (after_steps e) l (λ k b. goes_on k (inside k (omega (arith, b))) (inside (suc k) (omega (arith, b)))) (λ b. stays_there m (end b)))
      ∙ ap (iterate (stepped_in area) n) first

  -- it is outside, and stays there
  pub stays_outside : (n : ℕ) → is_inside area e.at.x e.at.z ≡ false → e ≡ iterate (stepped_in area) n e
  stays_outside n h =
      let stays : stepped_in area e ≡ e = rw h refl in
      sym (iterate_path (stepped_in area) n 0 (λ k. e) (omega arith) (λ k b. absurd (omega (arith, b))) (λ b. stays))

-- a place between two numbers that fit
pub fits_between : (low high x : ℤ) → FitsSigned w32 low → FitsSigned w32 high → is_from_to low high x ≡ true → FitsSigned w32 x
fits_between low high x f g h = let p = from_to_parts low high x h in omega (arith, ints, p.0, p.1)

-- it goes on as long as both coordinates allow
module _ (area : Area) (e : Entity) where
  pub walks_both : (n k m : ℕ) → k ≤ n → m ≤ k
      → ((i : ℕ) → i ≤ k → is_from_to area.west area.east (place_after e.at.x e.vx i) ≡ true) → (k < n → is_from_to area.west area.east (place_after e.at.x e.vx (k + 1)) ≡ false)
      → ((i : ℕ) → i ≤ m → is_from_to area.north area.south (place_after e.at.z e.vz i) ≡ true) → (m < k → is_from_to area.north area.south (place_after e.at.z e.vz (m + 1)) ≡ false)
      → after_steps e m ≡ iterate (stepped_in area) n e
  walks_both n k m l b columns columns_end rows rows_end = walks_on area e n m (omega (arith, l, b)) (λ i j. rw (columns i (omega (arith, j, b)), rows i j) refl) (λ j. end (eq-or-lt_of_le b) j)
    where
      end : (m ≡ k) ⊎ (m < k) → m < n → is_inside area (place_after e.at.x e.vx (suc m)) (place_after e.at.z e.vz (suc m)) ≡ false
      end (inl same) j =
          let out : is_from_to area.west area.east (place_after e.at.x e.vx (suc m)) ≡ false =
          ap (λ i. is_from_to area.west area.east (place_after e.at.x e.vx i)) (sym (add-one m)) ∙ ap (λ i. is_from_to area.west area.east (place_after e.at.x e.vx (i + 1))) same ∙ columns_end (omega (arith, same, j)) in
          rw out refl
      end (inr less) j =
          let out : is_from_to area.north area.south (place_after e.at.z e.vz (suc m)) ≡ false = ap (λ i. is_from_to area.north area.south (place_after e.at.z e.vz i)) (sym (add-one m)) ∙ rows_end less in
          elim (cases_Bool (is_from_to area.west area.east (place_after e.at.x e.vx (suc m)))) [ inl t ↦ rw (t, out) refl | inr t ↦ rw t refl ]
