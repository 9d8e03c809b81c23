-- Chunks that stand row by row fill the rectangle between the first and the last of them.
use Rattle.std.proofs.Common.{◌≡◌, ℕ, ◌+◌, ◌-◌, ◌<◌, ◌≤◌, Bool, true, false, ◌&&◌, List, length, get_or, refl, sym, ◌∙◌, ap, subst, ◌⊎◌, inl, inr, arith}
use Rattle.std.specs.Prelude.{nat_lt, ℤ, pos, ◌+ℤ◌, ◌≤ℤ◌, ◌<ℤ◌, int_le, int_lt}
use Rattle.std.specs.List.{list_any}
use Rattle.std.proofs.lemmas.Bool.{cases_Bool, and_parts, ltb-true, ltb-false}
use Rattle.std.proofs.lemmas.Int.{ints, by_lt_z}
use Rattle.std.proofs.lemmas.List.{get_or_default}
use Rattle.std.proofs.lemmas.List.Folds.{list_any_at, list_any_none}
use Rattle.fol_model.specs.declared.places.ChunkPos.{ChunkPos}
use Rattle.fol_model.specs.Geometry.{same_chunk}
use Rattle.fol_keyed.specs.Rectangles.{is_between, Follows}
use Rattle.fol_keyed.proofs.Places.{same_chunk-true, same_chunk-self}

-- between the corners, and not behind p, row by row
pub record UpTo (first last p c : ChunkPos) : Type 0 where
  pub west : first.x ≤ℤ c.x
  pub east : c.x ≤ℤ last.x
  pub north : first.z ≤ℤ c.z
  pub before : (c.z <ℤ p.z) ⊎ ((c.z ≡ p.z) × (c.x ≤ℤ p.x))

-- the first chunks are those up to the last of them
pub record IsFilled (first last : ChunkPos) (xs : List ChunkPos) (i : ℕ) : Type 0 where
  pub some : 0 < i
  pub fits : i ≤ length xs
  pub only : (k : ℕ) (d : ChunkPos) → k < i → UpTo first last (get_or xs (i - 1) d) (get_or xs k d)
  pub all : (c : ChunkPos) → UpTo first last (get_or xs (i - 1) c) c → (k : ℕ) × (k < i) × ((d : ChunkPos) → get_or xs k d ≡ c)

pub le_z_true : (a b : ℤ) → int_le a b ≡ true → a ≤ℤ b
le_z_true a b h = grind (arith, ints)

pub true_le_z : (a b : ℤ) → a ≤ℤ b → int_le a b ≡ true
true_le_z a b h = grind (arith, ints)

same_place : (a b : ChunkPos) → a.x ≡ b.x → a.z ≡ b.z → a ≡ b
same_place a b p q = λ i. record { x = p i; z = q i }

stays_up_to : (f l p q c : ChunkPos) → Follows f.x l.x p q → UpTo f l p c → UpTo f l q c
stays_up_to f l p q c s u = record { west = u.west; east = u.east; north = u.north; before = later s u.before }
  where
    later : Follows f.x l.x p q → (c.z <ℤ p.z) ⊎ ((c.z ≡ p.z) × (c.x ≤ℤ p.x)) → (c.z <ℤ q.z) ⊎ ((c.z ≡ q.z) × (c.x ≤ℤ q.x))
    later (inl s) (inl b) = inl (omega (arith, ints))
    later (inl s) (inr b) = inr (b.0 ∙ sym s.2, omega (arith, ints))
    later (inr s) (inl b) = inl (omega (arith, ints))
    later (inr s) (inr b) = inl (omega (arith, ints))

up_to_itself : (f l p q : ChunkPos) → f.x ≤ℤ l.x → Follows f.x l.x p q → UpTo f l p p → UpTo f l q q
up_to_itself f l p q w (inl s) u = record { west = omega (arith, ints, u.west); east = omega (arith, ints); north = omega (arith, ints, u.north); before = inr (refl, omega (arith, ints)) }
up_to_itself f l p q w (inr s) u = record { west = omega (arith, ints); east = omega (arith, ints); north = omega (arith, ints, u.north); before = inr (refl, omega (arith, ints)) }

-- up to the next number is up to the number, or the next one
at_most_next : (a b p : ℤ) → b ≡ p +ℤ pos 1 → a ≤ℤ b → (a ≤ℤ p) ⊎ (b ≡ a)
at_most_next a b p e h = by_lt_z p a (λ l. inr (omega (arith, ints))) (λ l. inl l)

-- a row before the next one is before this one or is this one
row_before : (a b p x y : ℤ) → b ≡ p +ℤ pos 1 → a <ℤ b → x ≤ℤ y → (a <ℤ p) ⊎ ((a ≡ p) × (x ≤ℤ y))
row_before a b p x y e h l = by_lt_z a p (λ m. inl m) (λ m. inr (omega (arith, ints), l))

back_to : (f l p q c : ChunkPos) → Follows f.x l.x p q → UpTo f l q c → UpTo f l p c ⊎ (q ≡ c)
back_to f l p q c s u = earlier s u.before
  where
    same_row : q.x ≡ p.x +ℤ pos 1 → q.z ≡ p.z → (c.z ≡ q.z) → (c.x ≤ℤ q.x) → (c.x ≤ℤ p.x) ⊎ (q.x ≡ c.x) → UpTo f l p c ⊎ (q ≡ c)
    same_row a b e h (inl n) = inl (record { west = u.west; east = u.east; north = u.north; before = inr (e ∙ b, n) })
    same_row a b e h (inr n) = inr (same_place q c n (sym e))

    earlier : Follows f.x l.x p q → (c.z <ℤ q.z) ⊎ ((c.z ≡ q.z) × (c.x ≤ℤ q.x)) → UpTo f l p c ⊎ (q ≡ c)
    earlier (inl s) (inl b) = inl (record { west = u.west; east = u.east; north = u.north; before = inl (omega (arith, ints)) })
    earlier (inl s) (inr b) = same_row s.1 s.2 b.0 b.1 (at_most_next c.x q.x p.x s.1 b.1)
    earlier (inr s) (inl b) = inl (record { west = u.west; east = u.east; north = u.north; before = row_before c.z q.z p.z c.x p.x s.2 b (omega (arith, ints, u.east)) })
    earlier (inr s) (inr b) = inr (same_place q c (omega (arith, ints, u.west)) (sym b.0))

module _ (f l : ChunkPos) (xs : List ChunkPos) where
  pub filled_first : (d : ChunkPos) → 0 < length xs → get_or xs 0 d ≡ f → f.x ≤ℤ l.x → IsFilled f l xs 1
  filled_first d n e w = record { some = omega arith; fits = omega arith; only = only; all = all }
    where
      here : (k : ℕ) (c : ChunkPos) → k ≡ 0 → get_or xs k c ≡ f
      here k c z = ap (λ (j : ℕ). get_or xs j c) z ∙ get_or_default xs 0 c d n ∙ e

      itself : UpTo f l f f
      itself = record { west = omega (arith, ints); east = w; north = omega (arith, ints); before = inr (refl, omega (arith, ints)) }

      only : (k : ℕ) (c : ChunkPos) → k < 1 → UpTo f l (get_or xs (1 - 1) c) (get_or xs k c)
      only k c m = rw (here (1 - 1) c (omega arith), here k c (omega arith)) itself

      alone : (c : ChunkPos) → UpTo f l f c → f ≡ c
      alone c u = elim u.before [
        | inl b ↦ absurd (omega (arith, ints, u.north, b))
        | inr b ↦ same_place f c (omega (arith, ints, u.west, b.1)) (sym b.0)
      ]

      all : (c : ChunkPos) → UpTo f l (get_or xs (1 - 1) c) c → (k : ℕ) × (k < 1) × ((d : ChunkPos) → get_or xs k d ≡ c)
      all c u = (0, omega arith, λ d. here 0 d refl ∙ alone c (let P : ChunkPos → Type 0 = λ p. UpTo f l p c in subst P (here (1 - 1) c (omega arith)) u))

  pub filled_more : (i : ℕ) (p q : ChunkPos) → f.x ≤ℤ l.x → IsFilled f l xs i → i < length xs → ((d : ChunkPos) → get_or xs (i - 1) d ≡ p) → ((d : ChunkPos) → get_or xs i d ≡ q) → Follows f.x l.x p q → IsFilled f l xs (i + 1)
  filled_more i p q w h n is_p is_q s = record { some = omega arith; fits = omega arith; only = only; all = all }
    where
      last : (i + 1) - 1 ≡ i
      last = omega arith

      mine : UpTo f l p p
      mine = rw (is_p f) at (h.only (i - 1) f (omega (arith, h.some)))

      only : (k : ℕ) (c : ChunkPos) → k < i + 1 → UpTo f l (get_or xs ((i + 1) - 1) c) (get_or xs k c)
      only k c m =
          rw (last, is_q c)
          (elim (cases_Bool (nat_lt k i)) [
            | inl t ↦ stays_up_to f l p q (get_or xs k c) s (rw (is_p c) at (h.only k c (ltb-true k i t)))
            | inr t ↦ let e : k ≡ i = omega (arith, ltb-false k i t) in rw (e, is_q c) (up_to_itself f l p q w s mine)
          ])

      all : (c : ChunkPos) → UpTo f l (get_or xs ((i + 1) - 1) c) c → (k : ℕ) × (k < i + 1) × ((d : ChunkPos) → get_or xs k d ≡ c)
      all c u =
          let here : UpTo f l q c = rw (last, is_q c) at u in
          elim (back_to f l p q c s here) [
            | inl v ↦ let r : (k : ℕ) × (k < i) × ((d : ChunkPos) → get_or xs k d ≡ c) = h.all c (rw (is_p c) v) in (r.0, omega (arith, r.1), r.2)
            | inr e ↦ (i, omega arith, λ d. is_q d ∙ e)
          ]

  -- a list that is filled to its end has just the chunks between the corners
  pub filled_whole : (i : ℕ) → i ≡ length xs → IsFilled f l xs i → ((d : ChunkPos) → get_or xs (i - 1) d ≡ l) → (c : ChunkPos) → list_any (same_chunk c) xs ≡ is_between f l c
  filled_whole i n h is_l c = at_test (is_between f l c) refl
    where
      inside : is_between f l c ≡ true → UpTo f l l c
      inside t =
          let both = and_parts (int_le f.x c.x && int_le c.x l.x) (int_le f.z c.z && int_le c.z l.z) t in
          let xs = and_parts (int_le f.x c.x) (int_le c.x l.x) both.0 in
          let zs = and_parts (int_le f.z c.z) (int_le c.z l.z) both.1 in
          let z : c.z ≤ℤ l.z = le_z_true c.z l.z zs.1 in
          let x : c.x ≤ℤ l.x = le_z_true c.x l.x xs.1 in
          record {
            west = le_z_true f.x c.x xs.0;
            east = x;
            north = le_z_true f.z c.z zs.0;
            before = by_lt_z c.z l.z (λ m. inl m) (λ m. inr (omega (arith, ints), x));
          }

      within : UpTo f l l c → is_between f l c ≡ true
      within u =
          let z : c.z ≤ℤ l.z = elim u.before [ inl b ↦ omega (arith, ints, b) | inr b ↦ omega (arith, ints, b.0) ] in
          rw (true_le_z f.x c.x u.west, true_le_z c.x l.x u.east, true_le_z f.z c.z u.north, true_le_z c.z l.z z) refl

      at_test : (b : Bool) → is_between f l c ≡ b → list_any (same_chunk c) xs ≡ b
      at_test true t =
          let r : (k : ℕ) × (k < i) × ((d : ChunkPos) → get_or xs k d ≡ c) = h.all c (rw (is_l c) (inside t)) in
          list_any_at (same_chunk c) xs r.0 c (omega (arith, r.1)) (ap (λ q. same_chunk c q) (r.2 c) ∙ same_chunk-self c)
      at_test false t =
          list_any_none (same_chunk c) xs (λ k d m.
          elim (cases_Bool (same_chunk c (get_or xs k d))) [
            | inl e ↦
                let is : c ≡ get_or xs k d = same_chunk-true c (get_or xs k d) e in
                let u : UpTo f l l (get_or xs k d) = rw (is_l d) at (h.only k d (omega arith)) in
                let v : UpTo f l l c = let P : ChunkPos → Type 0 = λ q. UpTo f l l q in subst P (sym is) u in
                let w : true ≡ false = sym (within v) ∙ t in
                cc
            | inr e ↦ e
          ])

-- what the test of the corners leaves
pub not_right : (a b : ℤ) → int_lt b a ≡ false → a ≤ℤ b
not_right a b h = grind (arith, ints)
