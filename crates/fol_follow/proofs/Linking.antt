-- How the asks of one entity stay linked.
use Rattle.std.proofs.Common.{◌≡◌, ◌≢◌, ℕ, zero, suc, ◌+◌, ◌-◌, ◌<◌, ◌≤◌, ◌&&◌, Bool, true, false, refl, sym, ◌∙◌, ap, subst, inl, inr, arith, List, [], ◌∷◌, ◌++◌, length, length-append}
use Rattle.std.specs.Prelude.{nat_eq, cond, slice_get, Option, Some, None}
use Rattle.std.specs.Option.{unwrap_or, is_some, IsSome}
use Rattle.std.proofs.lemmas.Bool.{cases_Bool, eqb-true, eqb-false, eq-eqb, ne_eqb, and_parts, and_from, and_cases}
use Rattle.std.proofs.lemmas.Option.{slice_get_past, slice_get_within}
use Rattle.fol_follow.specs.declared.asks.Row.{Row}
use Rattle.fol_follow.specs.Table.{AreLinked, IsLast, waits_for}
use Rattle.fol_follow.proofs.Numbers.{nat_self}
use Rattle.fol_follow.proofs.Pendings.{get_before, get_here}

-- what a row waits for
pub waits_own : (r : Row) → waits_for r.entity r.due (Some r) ≡ true
waits_own r = and_from (nat_eq r.entity r.entity) (nat_eq r.due r.due) (nat_self r.entity) (nat_self r.due)

pub waits_same : (entity due : ℕ) (r : Row) → waits_for entity due (Some r) ≡ true → (r.entity ≡ entity) × (r.due ≡ due)
waits_same entity due r h =
    let p = and_parts (nat_eq r.entity entity) (nat_eq r.due due) h in
    (eqb-true r.entity entity p.0, eqb-true r.due due p.1)

-- no ask stands behind the rows
pub none_past : (rows : List Row) (entity due k : ℕ) → length rows ≤ k → waits_for entity due (slice_get rows k) ≡ false
none_past rows entity due k l = let e = slice_get_past rows k l in rw e refl

some_row : (o : Option Row) (entity due : ℕ) → waits_for entity due o ≡ true → (r : Row) × (o ≡ Some r)
some_row None entity due h = absurd (cc)
some_row (Some r) entity due h = (r, refl)

-- ---- an ask is added

module _ (rows : List Row) (row : Row) where
  abbrev more : List Row
  more = rows ++ row ∷ []

  -- among the asks that were there nothing changes
  pub last_stays : (entity due m n : ℕ) → m ≤ length rows → IsLast rows entity due m n → IsLast more entity due m n
  last_stays entity due m n l h = record {
    low = h.low;
    there = λ k e. let w = h.there k e in let low = h.low in rw (get_before rows row k (omega arith)) w;
    none = λ k a b. rw (get_before rows row k (omega arith)) (h.none k a b);
  }

  -- the new ask waits for something else
  pub last_passes : (entity due n : ℕ) → waits_for entity due (Some row) ≡ false → IsLast rows entity due (length rows) n → IsLast more entity due (length more) n
  last_passes entity due n w h =
      let many = length-append rows (row ∷ []) in
      record {
        low = let low = h.low in omega arith;
        there = λ k e. let t = h.there k e in let low = h.low in rw (get_before rows row k (omega arith)) t;
        none = λ k a b. at_place k a b;
      }
    where
      at_place : (k : ℕ) → n ≤ k → k < length more → waits_for entity due (slice_get more k) ≡ false
      at_place k a b =
          let many = length-append rows (row ∷ []) in
          elim (cases_Bool (nat_eq k (length rows))) [
            | inl e ↦ let s : k ≡ length rows = eqb-true k (length rows) e in rw (s, get_here rows row) w
            | inr e ↦ let s : k ≢ length rows = eqb-false k (length rows) e in let l : k < length rows = omega arith in rw (get_before rows row k l) (h.none k a l)
          ]

  -- the new ask is the last one that waits for what it waits for
  pub last_new : IsLast more row.entity row.due (length more) (length rows + 1)
  last_new =
      let many = length-append rows (row ∷ []) in
      record {
        low = omega arith;
        there = λ k e. (let s : k ≡ length rows = omega arith in rw (s, get_here rows row) (waits_own row));
        none = λ k a b. absurd (omega arith);
      }

module _ (counts : ℕ → Option ℕ) (head heads : ℕ × ℕ → Option ℕ) (rows : List Row) (row : Row) (linked : AreLinked counts head rows) where
  -- the table with one ask more
  pub linked_added : IsSome (counts row.entity) → row.due ≤ unwrap_or (counts row.entity) 0 + 1000000 → IsLast rows row.entity row.due (length rows) row.before
      → ((entity due : ℕ) → heads (entity, due) ≡ cond (nat_eq row.entity entity && nat_eq row.due due) (Some (length rows + 1)) (head (entity, due)))
      → AreLinked counts heads (rows ++ row ∷ [])
  linked_added known near before put = record {
    before = λ k r e. each (λ (r : Row) (k : ℕ). IsLast (rows ++ row ∷ []) r.entity r.due k r.before)
        (λ r k l e. last_stays rows row r.entity r.due k r.before (omega arith) (linked.before k r e))
        (last_stays rows row row.entity row.due (length rows) row.before (omega arith) before) k r e;
    last = λ entity due ahead. top entity due ahead;
    known = λ k r e. each (λ (r : Row) (k : ℕ). IsSome (counts r.entity)) (λ r k l e. linked.known k r e) known k r e;
    near = λ k r e. each (λ (r : Row) (k : ℕ). r.due ≤ unwrap_or (counts r.entity) 0 + 1000000) (λ r k l e. linked.near k r e) near k r e;
  }
    where
      -- what holds of each row that was there and of the new one
      each : (P : Row → ℕ → Type 0) → ((r : Row) (k : ℕ) → k < length rows → slice_get rows k ≡ Some r → P r k) → P row (length rows) → (k : ℕ) (r : Row) → slice_get (rows ++ row ∷ []) k ≡ Some r → P r k
      each P old new k r e =
          let l = slice_get_within (rows ++ row ∷ []) k r e in
          let many = length-append rows (row ∷ []) in
          elim (cases_Bool (nat_eq k (length rows))) [
            | inl t ↦
                let s : k ≡ length rows = eqb-true k (length rows) t in
                let f : Some row ≡ Some r = sym (get_here rows row) ∙ ap (slice_get (rows ++ row ∷ [])) (sym s) ∙ e in
                let same : row ≡ r = cc in
                let Q : Row → Type 0 = λ x. P x k in
                let R : ℕ → Type 0 = λ x. P row x in
                subst Q same (subst R (sym s) new)
            | inr t ↦
                let s : k ≢ length rows = eqb-false k (length rows) t in
                let m : k < length rows = omega arith in
                old r k m (sym (get_before rows row k m) ∙ e)
          ]

      top : (entity due : ℕ) → unwrap_or (counts entity) 0 < due → IsLast (rows ++ row ∷ []) entity due (length (rows ++ row ∷ [])) (unwrap_or (heads (entity, due)) 0)
      top entity due ahead =
          let p = put entity due in
          elim (cases_Bool (nat_eq row.entity entity && nat_eq row.due due)) [
            | inl t ↦
                let parts = and_parts (nat_eq row.entity entity) (nat_eq row.due due) t in
                let s : row.entity ≡ entity = eqb-true row.entity entity parts.0 in
                let d : row.due ≡ due = eqb-true row.due due parts.1 in
                let L : ℕ → ℕ → Type 0 = λ x y. IsLast (rows ++ row ∷ []) x y (length (rows ++ row ∷ [])) (length rows + 1) in
                let found : IsLast (rows ++ row ∷ []) entity due (length (rows ++ row ∷ [])) (length rows + 1) = subst (λ (y : ℕ). L entity y) d (subst (λ (x : ℕ). L x row.due) s (last_new rows row)) in
                rw (p, t) found
            | inr t ↦ rw (p, t) (last_passes rows row entity due (unwrap_or (head (entity, due)) 0) t (linked.last entity due ahead))
          ]

-- ---- one more visit of an entity is counted
module _ (counts more : ℕ → Option ℕ) (head heads : ℕ × ℕ → Option ℕ) (rows : List Row) (id count : ℕ) (linked : AreLinked counts head rows) (is : count ≡ unwrap_or (counts id) 0 + 1)
    (put : (e : ℕ) → more e ≡ cond (nat_eq id e) (Some count) (counts e)) (took : (e due : ℕ) → heads (e, due) ≡ cond (nat_eq id e && nat_eq count due) None (head (e, due))) where
  raised_one : (e : ℕ) → (unwrap_or (counts e) 0 ≤ unwrap_or (more e) 0) × (nat_eq id e ≡ true → unwrap_or (more e) 0 ≡ count)
  raised_one e =
      let p = put e in
      elim (cases_Bool (nat_eq id e)) [
        | inl t ↦
            let s : id ≡ e = eqb-true id e t in
            let c : count ≡ unwrap_or (counts e) 0 + 1 = is ∙ ap (λ (x : ℕ). unwrap_or (counts x) 0 + 1) s in
            rw (p, t) (omega arith, λ h. refl)
        | inr t ↦ rw (p, t) (omega arith, λ h. absurd (let x : true ≡ false = sym h in cc))
      ]

  pub linked_counted : AreLinked more heads rows
  linked_counted = record {
    before = linked.before;
    last = λ e due ahead.
        let up = raised_one e in
        let low : unwrap_or (counts e) 0 < due = omega (arith, up.0) in
        let kept : heads (e, due) ≡ head (e, due) = still e due ahead in
        rw kept (linked.last e due low);
    known = λ k r h. known_still r (linked.known k r h);
    near = λ k r h. let up = raised_one r.entity in let n = linked.near k r h in omega (arith, up.0, n);
  }
    where
      still : (e due : ℕ) → unwrap_or (more e) 0 < due → heads (e, due) ≡ head (e, due)
      still e due ahead =
          let t = took e due in
          elim (cases_Bool (nat_eq id e && nat_eq count due)) [
            | inl h ↦
                let parts = and_parts (nat_eq id e) (nat_eq count due) h in
                let d : count ≡ due = eqb-true count due parts.1 in
                let m : unwrap_or (more e) 0 ≡ count = (raised_one e).1 parts.0 in
                absurd (omega arith)
            | inr h ↦ rw (t, h) refl
          ]

      known_still : (r : Row) → IsSome (counts r.entity) → IsSome (more r.entity)
      known_still r h = let p = put r.entity in elim (cases_Bool (nat_eq id r.entity)) [ inl t ↦ rw (p, t) refl | inr t ↦ rw (p, t) h ]
