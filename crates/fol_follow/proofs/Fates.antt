-- What becomes of an ask, along a run.
use Rattle.std.proofs.Common.{◌≡◌, ◌≢◌, ℕ, zero, suc, ◌+◌, ◌-◌, ◌<◌, ◌≤◌, Bool, true, false, refl, sym, ◌∙◌, ap, inl, inr, arith, List, [], ◌∷◌, ◌++◌}
use Rattle.std.specs.Prelude.{nat_eq, nat_lt, count_by, if◌then◌else◌, Option, Some, None}
use Rattle.std.specs.Option.{option_map, is_some}
use Rattle.std.proofs.lemmas.Bool.{cases_Bool, eqb-true, eqb-false, eq-eqb, ne_eqb, ltb-true, ltb-false, lt-ltb, le-ltb}
use Rattle.std.proofs.lemmas.List.Sums.{sum_by-cons}
use Rattle.fol_model.specs.declared.places.BlockPos.{BlockPos}
use Rattle.fol_model.specs.declared.openings.Opening.{Opening}
use Rattle.fol_model.specs.ActionStep.{at_id}
use Rattle.fol_follow.specs.declared.entries.EntityAt.{EntityAt}
use Rattle.fol_follow.specs.declared.entries.Asked.TheVariants.{Queued, Unknown}
use Rattle.fol_follow.specs.declared.entries.BookEvent.{BookEvent}
use Rattle.fol_follow.specs.declared.entries.BookEvent.TheVariants.{Ask, Visit}
use Rattle.fol_follow.specs.declared.entries.BookEntry.{BookEntry}
use Rattle.fol_follow.specs.Here.{place_in, is_known}
use Rattle.fol_follow.specs.Visits.{Allowed, IsRun, Pending, RunFrom, State, after, after_all, answer_to, book_after, lowered, start, visit_at, visit_due}
use Rattle.fol_follow.specs.Fates.{AsksAreFollowed, IsFollowed, ask_entry, found_at, visit_made, visits_of}
use Rattle.fol_follow.proofs.Numbers.{nat_self}
use Rattle.fol_follow.proofs.Runs.{after_both, run_parts}

-- ---- the next number

-- no number from the next one on is queued
abbrev NoneAhead : State → Type 0
NoneAhead s = (n : ℕ) → s.next ≤ n → s.asks n ≡ None

-- an answer that is allowed has the next number
queued_next : (o : Opening) (s : State) (entity n : ℕ) → Queued n ≡ answer_to o s entity → n ≡ s.next
queued_next o s entity n h = elim (cases_Bool (is_known o entity)) [
  | inl e ↦ let t : Queued n ≡ Queued s.next = rw e at h in cc
  | inr e ↦ let t : Queued n ≡ Unknown = rw e at h in absurd (cc)
]

apart : {X : Type 0} (f : ℕ → Option X) (k n : ℕ) (x : Option X) → k ≢ n → at_id f k x n ≡ f n
apart f k n x d = let t = ne_eqb k n d in rw t refl

one_on : (o : Opening) (s : State) (e : BookEvent) → Allowed o s e → NoneAhead s → NoneAhead (after s e) × (s.next ≤ (after s e).next)
one_on o s (Ask entity delay (Queued k)) allowed none =
    let k_is : k ≡ s.next = queued_next o s entity k allowed.2 in
    ((λ n l. apart s.asks k n _ (λ same. omega arith) ∙ none n (omega arith)), omega arith)
one_on o s (Ask entity delay Unknown) allowed none = (none, omega arith)
one_on o s (Visit region begun here visits) allowed none = ((λ n l. let z = none n l in rw z refl), omega arith)

on_along : (o : Opening) (s : State) (es : List BookEntry) → RunFrom o s es → NoneAhead s → NoneAhead (after_all s es) × (s.next ≤ (after_all s es).next)
on_along o s [] run none = (none, omega arith)
on_along o s (e ∷ es) run none =
    let one = one_on o s e.event run.0 none in
    let more = on_along o (after s e.event) es run.1 one.0 in
    (more.0, omega (arith, one.1, more.1))

-- ---- one ask on its way

-- the ask when its entity was in k visits
abbrev on_way : ℕ → ℕ → ℕ → Option Pending
on_way entity delay k = if nat_lt k delay then Some (record { entity = entity; rest = delay - k }) else None

abbrev seen_by : BookEvent → ℕ → ℕ
seen_by e id = if is_some (found_at e id) then 1 else 0

-- a visit lowers its rest where it has the entity
lowers : (here : List EntityAt) (entity delay k : ℕ) → lowered here (on_way entity delay k) ≡ on_way entity delay (k + (if is_some (place_in here entity) then 1 else 0))
lowers here entity delay k = elim (cases_Bool (nat_lt k delay)) [
  | inl f ↦
      let l : k < delay = ltb-true k delay f in
      elim (cases_Bool (is_some (place_in here entity))) [
        | inl e ↦ elim (cases_Bool (nat_eq (delay - k - 1) 0)) [
          | inl z ↦
              let y : delay - k - 1 ≡ 0 = eqb-true (delay - k - 1) 0 z in
              let g : nat_lt (k + 1) delay ≡ false = le-ltb (k + 1) delay (omega arith) in
              rw (f, e, z, g) refl
          | inr z ↦
              let y : delay - k - 1 ≢ 0 = eqb-false (delay - k - 1) 0 z in
              let g : nat_lt (k + 1) delay ≡ true = lt-ltb (k + 1) delay (omega arith) in
              let d : delay - (k + 1) ≡ delay - k - 1 = omega arith in
              rw (f, e, z, g, d) refl
        ]
        | inr e ↦ let n : k + 0 ≡ k = omega arith in rw (e, n, f, e) refl
      ]
  | inr f ↦
      let l : delay ≤ k = ltb-false k delay f in
      let g : nat_lt (k + (if is_some (place_in here entity) then 1 else 0)) delay ≡ false = le-ltb _ delay (omega arith) in
      rw (f, g) refl
]

-- and makes its visit where that comes to 0
makes : (here : List EntityAt) (entity delay k n : ℕ) → visit_due here n (on_way entity delay k) ≡ (if nat_eq (k + 1) delay then option_map (visit_at n entity) (place_in here entity) else None)
makes here entity delay k n = elim (cases_Bool (nat_lt k delay)) [
  | inl f ↦
      let l : k < delay = ltb-true k delay f in
      elim (cases_Bool (nat_eq (k + 1) delay)) [
        | inl e ↦
            let s : k + 1 ≡ delay = eqb-true (k + 1) delay e in
            let z : nat_eq (delay - k - 1) 0 ≡ true = eq-eqb (delay - k - 1) 0 (omega arith) in
            rw (f, e, z) refl
        | inr e ↦
            let s : k + 1 ≢ delay = eqb-false (k + 1) delay e in
            let z : nat_eq (delay - k - 1) 0 ≡ false = ne_eqb (delay - k - 1) 0 (λ (y : delay - k - 1 ≡ 0). omega arith) in
            rw (f, e, z) refl
      ]
  | inr f ↦
      let l : delay ≤ k = ltb-false k delay f in
      let e : nat_eq (k + 1) delay ≡ false = ne_eqb (k + 1) delay (λ (y : k + 1 ≡ delay). omega arith) in
      rw (f, e) refl
]

module _ (o : Opening) (entity delay n : ℕ) where
  goes_one : (s : State) (e : BookEvent) (k : ℕ) → Allowed o s e → n < s.next → s.asks n ≡ on_way entity delay k → (after s e).asks n ≡ on_way entity delay (k + seen_by e entity)
  goes_one s (Ask id d (Queued m)) k allowed low h =
      let m_is : m ≡ s.next = queued_next o s id m allowed.2 in
      let z : k + 0 ≡ k = omega arith in
      rw z (apart s.asks m n _ (λ same. omega arith) ∙ h)
  goes_one s (Ask id d Unknown) k allowed low h = let z : k + 0 ≡ k = omega arith in rw z h
  goes_one s (Visit region begun here visits) k allowed low h = ap (lowered here) h ∙ lowers here entity delay k

  next_grows : (s : State) (e : BookEvent) → Allowed o s e → s.next ≤ (after s e).next
  next_grows s (Ask id d (Queued m)) allowed = omega arith
  next_grows s (Ask id d Unknown) allowed = omega arith
  next_grows s (Visit region begun here visits) allowed = omega arith

  count_first : (e : BookEntry) (es : List BookEntry) → visits_of entity (e ∷ es) ≡ seen_by e.event entity + visits_of entity es
  count_first e es = sum_by-cons (λ (x : BookEntry). if is_some (found_at x.event entity) then 1 else 0) e es

  goes_along : (s : State) (es : List BookEntry) (k : ℕ) → RunFrom o s es → n < s.next → s.asks n ≡ on_way entity delay k → (after_all s es).asks n ≡ on_way entity delay (k + visits_of entity es)
  goes_along s [] k run low h = let z : k + 0 ≡ k = omega arith in rw z h
  goes_along s (e ∷ es) k run low h =
      let grows = next_grows s e.event run.0 in
      let rest = goes_along (after s e.event) es (k + seen_by e.event entity) run.1 (omega arith) (goes_one s e.event k run.0 low h) in
      let sum : k + seen_by e.event entity + visits_of entity es ≡ k + visits_of entity (e ∷ es) = omega (arith, count_first e es) in
      rest ∙ ap (on_way entity delay) sum

  made_one : (s : State) (e : BookEvent) (k : ℕ) → Allowed o s e → s.asks n ≡ on_way entity delay k
      → visit_made e n ≡ (if nat_eq (k + 1) delay then option_map (visit_at n entity) (found_at e entity) else None)
  made_one s (Ask id d answer) k allowed h = elim (cases_Bool (nat_eq (k + 1) delay)) [ inl t ↦ rw t refl | inr t ↦ rw t refl ]
  made_one s (Visit region begun here visits) k allowed h = allowed.2.each n ∙ ap (visit_due here n) h ∙ makes here entity delay k n

none_made : (o : Opening) (s : State) (e : BookEvent) (n : ℕ) → Allowed o s e → s.asks n ≡ None → visit_made e n ≡ None
none_made o s (Ask id d answer) n allowed h = refl
none_made o s (Visit region begun here visits) n allowed h = allowed.2.each n ∙ ap (visit_due here n) h

pub asks_followed : AsksAreFollowed
asks_followed o before since by entity delay n run =
    let parts = run_parts o start before (ask_entry by entity delay n ∷ since) run in
    let s : State = book_after before in
    let allowed : Allowed o s (Ask entity delay (Queued n)) = parts.1.0 in
    let n_is : n ≡ s.next = queued_next o s entity n allowed.2 in
    let t : State = after s (Ask entity delay (Queued n)) in
    let none = on_along o start before parts.0 (λ m l. refl) in
    let first : t.asks n ≡ on_way entity delay 0 =
    (let self = nat_self n in let l : nat_lt 0 delay ≡ true = lt-ltb 0 delay (omega (arith, allowed.0)) in let z : delay - 0 ≡ delay = omega arith in rw (self, l, z) refl) in
    record {
      left = ap (λ (x : State). x.asks n) (after_both start before (ask_entry by entity delay n ∷ since))
          ∙ goes_along o entity delay n t since 0 parts.1.1 (omega arith) first
          ∙ ap (on_way entity delay) (let z : 0 + visits_of entity since ≡ visits_of entity since = omega arith in z);
      visited = λ mid rest e is. at_since o entity delay n t since mid rest e parts.1.1 (omega arith) first is;
      not_before = λ mid rest e is. at_before o before mid rest e n parts.0 (omega (arith, n_is)) is;
    }
  where
    at_since : (o : Opening) (entity delay n : ℕ) (t : State) (since mid rest : List BookEntry) (e : BookEntry) → RunFrom o t since → n < t.next → t.asks n ≡ on_way entity delay 0 → since ≡ mid ++ e ∷ rest
        → visit_made e.event n ≡ (if nat_eq (visits_of entity mid + 1) delay then option_map (visit_at n entity) (found_at e.event entity) else None)
    at_since o entity delay n t since mid rest e run low first is =
        let parts = run_parts o t mid (e ∷ rest) (rw is at run) in
        let k : 0 + visits_of entity mid ≡ visits_of entity mid = omega arith in
        made_one o entity delay n (after_all t mid) e.event (visits_of entity mid) parts.1.0 (goes_along o entity delay n t mid 0 parts.0 low first ∙ ap (on_way entity delay) k)

    at_before : (o : Opening) (before mid rest : List BookEntry) (e : BookEntry) (n : ℕ) → RunFrom o start before → (book_after before).next ≤ n → before ≡ mid ++ e ∷ rest → visit_made e.event n ≡ None
    at_before o before mid rest e n run low is =
        let parts = run_parts o start mid (e ∷ rest) (rw is at run) in
        let none = on_along o start mid parts.0 (λ m l. refl) in
        let more = on_along o (after_all start mid) (e ∷ rest) parts.1 none.0 in
        let same : book_after before ≡ after_all (after_all start mid) (e ∷ rest) = ap book_after is ∙ after_both start mid (e ∷ rest) in
        let next : (book_after before).next ≡ (after_all (after_all start mid) (e ∷ rest)).next = ap (λ (x : State). x.next) same in
        none_made o (after_all start mid) e.event n parts.1.0 (none.0 n (omega (arith, more.1, next, low)))
