-- Visits of entities are counted, and asks are left.
use Rattle.std.proofs.Common.{◌≡◌, ◌≢◌, ℕ, zero, suc, ◌+◌, ◌-◌, ◌<◌, ◌≤◌, ◌&&◌, ◌||◌, Bool, true, false, cond, refl, sym, ◌∙◌, ap, subst, inl, inr, arith, List, [], ◌∷◌, ◌++◌, length, take, get_or}
use Rattle.std.specs.Prelude.{nat_eq, nat_le, nat_lt, if◌then◌else◌, slice_get, Option, Some, None, All}
use Rattle.std.specs.Option.{option_map, is_some, unwrap_or}
use Rattle.std.specs.List.{find, list_any, IsDistinct, AllByRecursion}
use Rattle.std.specs.List.Sorted.{IsStrictlySortedBy}
use Rattle.std.specs.Ordering.{nat_cmp, is_eq}
use Rattle.std.specs.Cmp.{nat_cmp_is}
use Rattle.std.specs.declared.cmp.Ordering.{Ordering}
use Rattle.std.specs.declared.cmp.Ordering.TheVariants.{Less}
use Rattle.std.proofs.lemmas.Bool.{cases_Bool, eqb-true, eqb-false, eq-eqb, ne_eqb, leb-true, leb-false, ltb-true, ltb-false, lt-ltb, le-ltb}
use Rattle.std.proofs.lemmas.List.{take_more, take_all}
use Rattle.std.proofs.lemmas.List.Folds.{list_any-append}
use Rattle.fol_keyed.proofs.Keyed.{find_push}
use Rattle.fol_model.specs.declared.entities.Entity.{Entity}
use Rattle.fol_model.specs.World.{standing_in}
use Rattle.fol_follow.specs.declared.asks.Row.{Row}
use Rattle.fol_follow.specs.declared.entries.EntityAt.{EntityAt}
use Rattle.fol_follow.specs.declared.entries.Waiting.{Waiting}
use Rattle.fol_follow.specs.Here.{by_id, place_in}
use Rattle.fol_follow.specs.Visits.{AreLeft, Pending, waiting_at, waiting_in}
use Rattle.fol_follow.specs.Table.{Table, count_of, pending, pending_row}
use Rattle.fol_follow.proofs.Numbers.{nat_self, one_eq}
use Rattle.fol_follow.proofs.Pendings.{AreRaised}
use Rattle.fol_follow.proofs.Collecting.{next_in_order, place_none, place_push}

-- ---- the entities of the opening

abbrev pub has_id : ℕ → Entity → Bool
has_id id e = nat_eq e.id id

pub standing_any : (es : List Entity) (id : ℕ) → is_some (standing_in es id) ≡ list_any (has_id id) es
standing_any [] id = refl
standing_any (e ∷ es) id = elim (cases_Bool (nat_eq e.id id)) [ inl t ↦ rw t refl | inr t ↦ rw t (standing_any es id) ]

-- ---- a visit of each entity that is there

pub raised_none : (counts : ℕ → Option ℕ) → AreRaised [] counts counts
raised_none counts = record { raised = λ id h. absurd (cc); kept = λ id h. refl; known = λ id. refl }

module _ (xs : List EntityAt) (p : EntityAt) (order : IsStrictlySortedBy by_id (xs ++ p ∷ [])) (old now more : ℕ → Option ℕ) (count : ℕ) (raised : AreRaised xs old now) where
  pub raised_more : is_some (old p.id) ≡ true → count ≡ unwrap_or (now p.id) 0 + 1 → ((id : ℕ) → more id ≡ cond (nat_eq p.id id) (Some count) (now id)) → AreRaised (xs ++ p ∷ []) old more
  raised_more some is put = record { raised = λ id h. up id h; kept = λ id h. same id h; known = λ id. known id }
    where
      up : (id : ℕ) → is_some (place_in (xs ++ p ∷ []) id) ≡ true → unwrap_or (more id) 0 ≡ unwrap_or (old id) 0 + 1
      up id h =
          let push = place_push xs p order id in
          let q = put id in
          elim (cases_Bool (nat_eq p.id id)) [
            | inl e ↦
                let s : p.id ≡ id = eqb-true p.id id e in
                let none = place_none xs p order in
                let k : unwrap_or (now p.id) 0 ≡ unwrap_or (old p.id) 0 = raised.kept p.id (ap is_some none) in
                let c : count ≡ unwrap_or (old id) 0 + 1 = is ∙ ap (λ (x : ℕ). x + 1) k ∙ ap (λ (x : ℕ). unwrap_or (old x) 0 + 1) s in
                rw (q, e) c
            | inr e ↦ let g : is_some (place_in xs id) ≡ true = rw (push, e) at h in rw (q, e) (raised.raised id g)
          ]

      same : (id : ℕ) → is_some (place_in (xs ++ p ∷ []) id) ≡ false → unwrap_or (more id) 0 ≡ unwrap_or (old id) 0
      same id h =
          let push = place_push xs p order id in
          let q = put id in
          elim (cases_Bool (nat_eq p.id id)) [
            | inl e ↦ let g : true ≡ false = rw (push, e) at h in absurd (cc)
            | inr e ↦ let g : is_some (place_in xs id) ≡ false = rw (push, e) at h in rw (q, e) (raised.kept id g)
          ]

      known : (id : ℕ) → is_some (more id) ≡ is_some (old id)
      known id =
          let q = put id in
          elim (cases_Bool (nat_eq p.id id)) [
            | inl e ↦ let s : p.id ≡ id = eqb-true p.id id e in rw (q, e) (sym some ∙ ap (λ (x : ℕ). is_some (old x)) s)
            | inr e ↦ rw (q, e) (raised.known id)
          ]

pub raised_bound : (here : List EntityAt) (old new : ℕ → Option ℕ) → AreRaised here old new → (id : ℕ) → unwrap_or (new id) 0 ≤ unwrap_or (old id) 0 + 1
raised_bound here old new raised id = elim (cases_Bool (is_some (place_in here id))) [
  | inl e ↦ let r = raised.raised id e in omega arith
  | inr e ↦ let r = raised.kept id e in omega arith
]

-- ---- what is left

abbrev pub by_waiting : Waiting → Waiting → Ordering
by_waiting a b = nat_cmp a.number b.number

-- a list in order with a greater number behind it
pub sorted_push : (xs : List Waiting) (y : Waiting) → IsStrictlySortedBy by_waiting xs → AllByRecursion (λ (w : Waiting). w.number < y.number) xs → IsStrictlySortedBy by_waiting (xs ++ y ∷ [])
unfolding IsStrictlySortedBy
sorted_push [] y order low = (tt, tt)
sorted_push (x ∷ xs) y order low = (behind x xs y order.0 (sym (nat_cmp_is x.number y.number Less low.0)), sorted_push xs y order.1 low.1)
  where
    behind : (x : Waiting) (xs : List Waiting) (y : Waiting) → AllByRecursion (λ (z : Waiting). by_waiting x z ≡ Less) xs → by_waiting x y ≡ Less → AllByRecursion (λ (z : Waiting). by_waiting x z ≡ Less) (xs ++ y ∷ [])
    behind x [] y h l = (l, tt)
    behind x (z ∷ zs) y h l = (h.0, behind x zs y h.1 l)

all_higher : (n m : ℕ) (xs : List Waiting) → n ≤ m → AllByRecursion (λ (w : Waiting). w.number < n) xs → AllByRecursion (λ (w : Waiting). w.number < m) xs
all_higher n m [] l h = tt
all_higher n m (x ∷ xs) l h = (omega (arith, h.0), all_higher n m xs l h.1)

all_push : (n : ℕ) (xs : List Waiting) (y : Waiting) → y.number < n → AllByRecursion (λ (w : Waiting). w.number < n) xs → AllByRecursion (λ (w : Waiting). w.number < n) (xs ++ y ∷ [])
all_push n [] y l h = (l, tt)
all_push n (x ∷ xs) y l h = (h.0, all_push n xs y l h.1)

-- the queued asks of a number up to i
abbrev pub pending_upto : Table → ℕ → ℕ → Option Pending
pending_upto t i n = if nat_le n i then pending t n else None

pub record IsLeaving (t : Table) (i : ℕ) (room : List Waiting) : Type 0 where
  pub order : IsStrictlySortedBy by_waiting room
  pub low : AllByRecursion (λ (w : Waiting). w.number < i + 1) room
  pub each : (n : ℕ) → waiting_in room n ≡ option_map (waiting_at n) (pending_upto t i n)
  pub few : length room ≤ i

pub leaving_begins : (t : Table) → IsLeaving t 0 []
unfolding IsStrictlySortedBy
leaving_begins t = record { order = tt; low = tt; each = λ n. none n; few = omega arith }
  where
    none : (n : ℕ) → None ≡ option_map (waiting_at n) (pending_upto t 0 n)
    none zero = refl
    none (suc n) = elim (cases_Bool (nat_le (suc n) 0)) [ inl e ↦ let l : suc n ≤ 0 = leb-true (suc n) 0 e in absurd (omega arith) | inr e ↦ rw e refl ]

module _ (t : Table) (i : ℕ) (room : List Waiting) (leaving : IsLeaving t i room) where
  -- the next number is no ask's that is queued
  pub leaving_skips : pending t (suc i) ≡ None → IsLeaving t (i + 1) room
  leaving_skips none = record {
    order = leaving.order;
    low = all_higher (i + 1) (i + 1 + 1) room (omega arith) leaving.low;
    each = λ n. leaving.each n ∙ ap (option_map (waiting_at n)) (upto n);
    few = let few = leaving.few in omega arith;
  }
    where
      upto : (n : ℕ) → pending_upto t i n ≡ pending_upto t (i + 1) n
      upto n = elim (cases_Bool (nat_eq n (suc i))) [
        | inl e ↦
            let s : n ≡ suc i = eqb-true n (suc i) e in
            let z : pending t n ≡ None = ap (pending t) s ∙ none in
            elim (cases_Bool (nat_le n i)) [
              | inl f ↦ let l : n ≤ i = leb-true n i f in absurd (omega arith)
              | inr f ↦ elim (cases_Bool (nat_le n (i + 1))) [ inl g ↦ rw (f, g, z) refl | inr g ↦ rw (f, g) refl ]
            ]
        | inr e ↦
            let d : n ≢ suc i = eqb-false n (suc i) e in
            elim (cases_Bool (nat_le n i)) [
              | inl f ↦ elim (cases_Bool (nat_le n (i + 1))) [
                | inl g ↦ rw (f, g) refl
                | inr g ↦ let l : n ≤ i = leb-true n i f in let m : i + 1 < n = leb-false n (i + 1) g in absurd (omega arith)
              ]
              | inr f ↦ elim (cases_Bool (nat_le n (i + 1))) [
                | inl g ↦ let l : i < n = leb-false n i f in let m : n ≤ i + 1 = leb-true n (i + 1) g in absurd (omega arith)
                | inr g ↦ rw (f, g) refl
              ]
            ]
      ]

  -- the next number's ask is queued
  pub leaving_adds : (p : Pending) (w : Waiting) → pending t (suc i) ≡ Some p → w ≡ waiting_at (suc i) p → IsLeaving t (i + 1) (room ++ w ∷ [])
  leaving_adds p w some is = record {
    order = sorted_push room w leaving.order (let n : w.number ≡ suc i = ap (λ (x : Waiting). x.number) is in all_higher (i + 1) w.number room (omega arith) leaving.low);
    low = all_push (i + 1 + 1) room w (let n : w.number ≡ suc i = ap (λ (x : Waiting). x.number) is in omega arith) (all_higher (i + 1) (i + 1 + 1) room (omega arith) leaving.low);
    each = λ n. find_push nat_eq eqb-true nat_self (λ (x : Waiting). x.number) room w fresh n ∙ ap (cond (nat_eq w.number n) (Some w)) (leaving.each n) ∙ at_number n;
    few = (let few = leaving.few in let l = long room w in omega arith);
  }
    where
      long : (xs : List Waiting) (y : Waiting) → length (xs ++ y ∷ []) ≡ length xs + 1
      long [] y = refl
      long (x ∷ xs) y = let l = long xs y in omega arith

      number_is : w.number ≡ suc i
      number_is = ap (λ (x : Waiting). x.number) is

      fresh : waiting_in room w.number ≡ None
      fresh = leaving.each w.number ∙ (let f : nat_le w.number i ≡ false = above in rw f refl)
        where
          above : nat_le w.number i ≡ false
          above = elim (cases_Bool (nat_le w.number i)) [ inl e ↦ let l : w.number ≤ i = leb-true w.number i e in absurd (omega (arith, number_is)) | inr e ↦ e ]

      at_number : (n : ℕ) → cond (nat_eq w.number n) (Some w) (option_map (waiting_at n) (pending_upto t i n)) ≡ option_map (waiting_at n) (pending_upto t (i + 1) n)
      at_number n = elim (cases_Bool (nat_eq w.number n)) [
        | inl e ↦
            let s : w.number ≡ n = eqb-true w.number n e in
            let m : suc i ≡ n = sym number_is ∙ s in
            let z : pending t n ≡ Some p = ap (pending t) (sym m) ∙ some in
            let v : w ≡ waiting_at n p = is ∙ ap (λ (x : ℕ). waiting_at x p) m in
            elim (cases_Bool (nat_le n (i + 1))) [
              | inl g ↦ rw (e, g, z) (ap Some v)
              | inr g ↦ let l : i + 1 < n = leb-false n (i + 1) g in absurd (omega arith)
            ]
        | inr e ↦
            let d : w.number ≢ n = eqb-false w.number n e in
            elim (cases_Bool (nat_le n i)) [
              | inl f ↦ elim (cases_Bool (nat_le n (i + 1))) [
                | inl g ↦ rw (e, f, g) refl
                | inr g ↦ let l : n ≤ i = leb-true n i f in let m : i + 1 < n = leb-false n (i + 1) g in absurd (omega arith)
              ]
              | inr f ↦ elim (cases_Bool (nat_le n (i + 1))) [
                | inl g ↦ let l : i < n = leb-false n i f in let m : n ≤ i + 1 = leb-true n (i + 1) g in absurd (omega (arith, number_is))
                | inr g ↦ rw (e, f, g) refl
              ]
            ]
      ]

-- what was found of the next number: nothing, or the ask that waits
waits_none : (f : Pending → Waiting) (o : Option Pending) → None ≡ option_map f o → o ≡ None
waits_none f None h = refl
waits_none f (Some p) h = absurd (cc)

waits_some : (f : Pending → Waiting) (w : Waiting) (o : Option Pending) → Some w ≡ option_map f o → (p : Pending) × (o ≡ Some p) × (w ≡ f p)
waits_some f w None h = absurd (cc)
waits_some f w (Some p) h = (p, refl, cc)

module _ (t : Table) (i : ℕ) (room : List Waiting) (leaving : IsLeaving t i room) (o : Option Waiting) (is : o ≡ option_map (waiting_at (i + 1)) (pending t (i + 1))) where
  next_is : o ≡ option_map (waiting_at (suc i)) (pending t (suc i))
  next_is = let s : i + 1 ≡ suc i = omega arith in is ∙ ap (λ (n : ℕ). option_map (waiting_at n) (pending t n)) s

  pub found_none : o ≡ None → IsLeaving t (i + 1) room
  found_none none = leaving_skips t i room leaving (waits_none (waiting_at (suc i)) (pending t (suc i)) (sym none ∙ next_is))

  pub found_some : (w : Waiting) → o ≡ Some w → IsLeaving t (i + 1) (room ++ w ∷ [])
  found_some w some = let p = waits_some (waiting_at (suc i)) w (pending t (suc i)) (sym some ∙ next_is) in leaving_adds t i room leaving p.0 w p.1 p.2

-- no ask has a number beyond the last row
pub leaving_ends : (t : Table) (room : List Waiting) → IsLeaving t (length t.rows) room → AreLeft (pending t) room
leaving_ends t room leaving = record { order = leaving.order; each = λ n. leaving.each n ∙ ap (option_map (waiting_at n)) (whole n) }
  where
    past : (rows : List Row) (k : ℕ) → length rows ≤ k → slice_get rows k ≡ None
    past [] k l = refl
    past (r ∷ rows) zero l = absurd (omega arith)
    past (r ∷ rows) (suc k) l = past rows k (omega arith)

    beyond : (n : ℕ) → length t.rows < n → pending t n ≡ None
    beyond zero l = refl
    beyond (suc k) l = ap (pending_row (count_of t)) (past t.rows k (omega arith))

    whole : (n : ℕ) → pending_upto t (length t.rows) n ≡ pending t n
    whole n = elim (cases_Bool (nat_le n (length t.rows))) [
      | inl e ↦ rw e refl
      | inr e ↦ let z = beyond n (leb-false n (length t.rows) e) in rw (e, z) refl
    ]

-- ---- the steps of the loops

abbrev unvisited : Option ℕ
unvisited = Some 0

-- one entity more is known
pub known_next : (f g : ℕ → Option ℕ) (es : List Entity) (i : ℕ) (d : Entity) → i < length es → ((q : ℕ) → f q ≡ (if list_any (has_id q) (take i es) then unvisited else None))
    → ((q : ℕ) → g q ≡ cond (is_eq (nat_cmp (get_or es i d).id q)) (unvisited) (f q)) → (q : ℕ) → g q ≡ (if list_any (has_id q) (take (i + 1) es) then unvisited else None)
known_next f g es i d l before put q =
    let e : Entity = get_or es i d in
    let more = take_more es i d l in
    let split = list_any-append (has_id q) (take i es) (e ∷ []) in
    let same = one_eq e.id q in
    let old = before q in
    let now = put q in
    rw (now, more, split, same, old) (both (list_any (has_id q) (take i es)) (nat_eq e.id q))
  where
    both : (a b : Bool) → cond b (unvisited) (if a then unvisited else None) ≡ (if (a || (b || false)) then unvisited else None)
    both true true = refl
    both true false = refl
    both false true = refl
    both false false = refl

-- all of them are
pub known_all : (f : ℕ → Option ℕ) (es : List Entity) (i : ℕ) → length es ≤ i → ((q : ℕ) → f q ≡ (if list_any (has_id q) (take i es) then unvisited else None))
    → ((id : ℕ) → is_some (f id) ≡ is_some (standing_in es id)) × ((id : ℕ) → unwrap_or (f id) 0 ≡ 0)
known_all f es i l h = ((λ id. let e = h id in let w = take_all i es l in let s = standing_any es id in rw (e, w, s) (some (list_any (has_id id) es))), (λ id. let e = h id in rw e (zero_is (list_any (has_id id) (take i es)))))
  where
    some : (b : Bool) → is_some (if b then unvisited else None) ≡ b
    some true = refl
    some false = refl

    zero_is : (b : Bool) → unwrap_or (if b then unvisited else None) 0 ≡ 0
    zero_is true = refl
    zero_is false = refl

-- the next entity of a list is counted
pub raised_next : (here : List EntityAt) (i : ℕ) (x : EntityAt) (old now more : ℕ → Option ℕ) → IsStrictlySortedBy by_id here → i < length here → x ≡ get_or here i x → is_some (old x.id) ≡ true
    → AreRaised (take i here) old now → ((id : ℕ) → more id ≡ (if nat_eq x.id id then Some (unwrap_or (now x.id) 0 + 1) else now id)) → AreRaised (take (i + 1) here) old more
raised_next here i x old now more order l is some raised put =
    let next = next_in_order here i x order l is in
    let P : List EntityAt → Type 0 = λ xs. AreRaised xs old more in
    subst P (sym next.0) (raised_more (take i here) x next.1 old now more (unwrap_or (now x.id) 0 + 1) raised some refl put)
