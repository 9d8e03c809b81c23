-- What the table stands for, as asks are added and visits counted.
use Rattle.std.proofs.Common.{◌≡◌, ◌≢◌, ℕ, zero, suc, ◌+◌, ◌-◌, ◌<◌, ◌≤◌, ◌&&◌, Bool, true, false, refl, sym, ◌∙◌, ap, inl, inr, arith, List, [], ◌∷◌, ◌++◌, length, length-append}
use Rattle.std.specs.Prelude.{nat_eq, nat_le, if◌then◌else◌, slice_get, Option, Some, None}
use Rattle.std.specs.Option.{unwrap_or, is_some}
use Rattle.std.proofs.Math.Path.{fun_ext}
use Rattle.std.proofs.lemmas.Bool.{cases_Bool, eqb-true, eqb-false, eq-eqb, ne_eqb, leb-true, leb-false, le-leb, lt-leb}
use Rattle.std.proofs.lemmas.Option.{slice_get_past, slice_get_within}
use Rattle.fol_model.specs.ActionStep.{at_id}
use Rattle.fol_follow.specs.declared.asks.Row.{Row}
use Rattle.fol_follow.specs.declared.entries.EntityAt.{EntityAt}
use Rattle.fol_follow.specs.Here.{place_in}
use Rattle.fol_follow.specs.Visits.{Pending, lowered}
use Rattle.fol_follow.specs.Table.{pending_at, pending_by, pending_row}
use Rattle.fol_follow.proofs.Numbers.{nat_self}

-- ---- lists with one element more

module _ {X : Type 0} where
  pub get_before : (xs : List X) (y : X) (k : ℕ) → k < length xs → slice_get (xs ++ y ∷ []) k ≡ slice_get xs k
  get_before [] y k l = absurd (omega arith)
  get_before (x ∷ xs) y zero l = refl
  get_before (x ∷ xs) y (suc k) l = get_before xs y k (omega arith)

  pub get_here : (xs : List X) (y : X) → slice_get (xs ++ y ∷ []) (length xs) ≡ Some y
  get_here [] y = refl
  get_here (x ∷ xs) y = get_here xs y

  pub get_behind : (xs : List X) (y : X) (k : ℕ) → length xs < k → slice_get (xs ++ y ∷ []) k ≡ None
  get_behind xs y k l = slice_get_past (xs ++ y ∷ []) k (omega (arith, length-append xs (y ∷ [])))

-- ---- an ask is added

ahead : (count due delay entity before : ℕ) → due ≡ count + delay → 0 < delay
    → pending_at count (record { entity = entity; due = due; before = before }) ≡ Some (record { entity = entity; rest = delay })
ahead count due delay entity before e l =
    let t : nat_le due count ≡ false = lt-leb due count (omega arith) in
    let r : due - count ≡ delay = omega arith in
    rw (t, r) refl

module _ (count : ℕ → ℕ) (rows : List Row) (entity due delay before : ℕ) (is : due ≡ count entity + delay) (some : 0 < delay) where
  abbrev row : Row
  row = record { entity = entity; due = due; before = before }

  at_row : (k : ℕ) → pending_row count (slice_get (rows ++ row ∷ []) k) ≡ at_id (pending_by count rows) (length rows + 1) (Some (record { entity = entity; rest = delay })) (suc k)
  at_row k = elim (cases_Bool (nat_eq (length rows + 1) (suc k))) [
    | inl e ↦
        let s : length rows + 1 ≡ suc k = eqb-true (length rows + 1) (suc k) e in
        let t : k ≡ length rows = omega arith in
        rw (e, t, get_here rows row) (ahead (count entity) due delay entity before is some)
    | inr e ↦
        let n : length rows + 1 ≢ suc k = eqb-false (length rows + 1) (suc k) e in
        rw e (elim (cases_Bool (nat_le (length rows) k)) [
          | inl f ↦
              let l : length rows ≤ k = leb-true (length rows) k f in
              let m : length rows < k = omega arith in
              rw (get_behind rows row k m, slice_get_past rows k l) refl
          | inr f ↦
              let l : k < length rows = leb-false (length rows) k f in
              rw (get_before rows row k l) refl
        ])
  ]

  pub added_pending : pending_by count (rows ++ row ∷ []) ≡ at_id (pending_by count rows) (length rows + 1) (Some (record { entity = entity; rest = delay }))
  added_pending = fun_ext (λ n. at_number n)
    where
      at_number : (n : ℕ) → pending_by count (rows ++ row ∷ []) n ≡ at_id (pending_by count rows) (length rows + 1) (Some (record { entity = entity; rest = delay })) n
      at_number zero = let t : nat_eq (length rows + 1) 0 ≡ false = ne_eqb (length rows + 1) 0 (omega arith) in rw t refl
      at_number (suc k) = at_row k

-- ---- a visit is counted

-- the counts of the entities that are there have risen by one
pub record AreRaised (here : List EntityAt) (old new : ℕ → Option ℕ) : Type 0 where
  pub raised : (id : ℕ) → is_some (place_in here id) ≡ true → unwrap_or (new id) 0 ≡ unwrap_or (old id) 0 + 1
  pub kept : (id : ℕ) → is_some (place_in here id) ≡ false → unwrap_or (new id) 0 ≡ unwrap_or (old id) 0
  pub known : (id : ℕ) → is_some (new id) ≡ is_some (old id)

module _ (here : List EntityAt) where
  -- an ask whose entity is there, before the visit and after it
  nearer : (count : ℕ) (r : Row) → is_some (place_in here r.entity) ≡ true → pending_at (count + 1) r ≡ lowered here (pending_at count r)
  nearer count r e = elim (cases_Bool (nat_le r.due count)) [
    | inl f ↦
        let l : r.due ≤ count = leb-true r.due count f in
        let g : nat_le r.due (count + 1) ≡ true = le-leb r.due (count + 1) (omega arith) in
        rw (f, g) refl
    | inr f ↦
        let l : count < r.due = leb-false r.due count f in
        elim (cases_Bool (nat_eq (r.due - count - 1) 0)) [
          | inl z ↦
              let y : r.due - count - 1 ≡ 0 = eqb-true (r.due - count - 1) 0 z in
              let g : nat_le r.due (count + 1) ≡ true = le-leb r.due (count + 1) (omega arith) in
              rw (f, g, e, z) refl
          | inr z ↦
              let y : r.due - count - 1 ≢ 0 = eqb-false (r.due - count - 1) 0 z in
              let g : nat_le r.due (count + 1) ≡ false = lt-leb r.due (count + 1) (omega arith) in
              let d : r.due - (count + 1) ≡ r.due - count - 1 = omega arith in
              rw (f, g, e, z, d) refl
        ]
  ]

  as_far : (count : ℕ) (r : Row) → is_some (place_in here r.entity) ≡ false → pending_at count r ≡ lowered here (pending_at count r)
  as_far count r e = elim (cases_Bool (nat_le r.due count)) [ inl f ↦ rw f refl | inr f ↦ rw (f, e) refl ]

  module _ (old new : ℕ → Option ℕ) (rows : List Row) (raised : AreRaised here old new) where
    abbrev before : ℕ → ℕ
    before id = unwrap_or (old id) 0

    abbrev behind : ℕ → ℕ
    behind id = unwrap_or (new id) 0

    at_ask : (o : Option Row) → pending_row behind o ≡ lowered here (pending_row before o)
    at_ask None = refl
    at_ask (Some r) = elim (cases_Bool (is_some (place_in here r.entity))) [
      | inl e ↦ ap (λ (n : ℕ). pending_at n r) (raised.raised r.entity e) ∙ nearer (before r.entity) r e
      | inr e ↦ ap (λ (n : ℕ). pending_at n r) (raised.kept r.entity e) ∙ as_far (before r.entity) r e
    ]

    pub lowered_pending : pending_by behind rows ≡ λ n. lowered here (pending_by before rows n)
    lowered_pending = fun_ext (λ n. at_number n)
      where
        at_number : (n : ℕ) → pending_by behind rows n ≡ lowered here (pending_by before rows n)
        at_number zero = refl
        at_number (suc k) = at_ask (slice_get rows k)
