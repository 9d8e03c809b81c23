-- Sections in order, put among others in order.
use Rattle.std.proofs.Common.{◌≡◌, ℕ, zero, suc, ◌+◌, ◌-◌, ◌≤◌, ◌<◌, refl, sym, ◌∙◌, ap, arith, subst, Bool, true, false, ◌||◌, List, [], ◌∷◌, ◌++◌, length, take, drop, get_or, append_assoc, inl, inr, length-drop, length-take-le}
use Rattle.std.specs.List.{AllByRecursion, slice_range}
use Rattle.std.specs.List.Sorted.{IsStrictlySortedBy}
use Rattle.std.specs.declared.cmp.Ordering.{Ordering}
use Rattle.std.specs.declared.cmp.Ordering.TheVariants.{Less, Equal, Greater}
use Rattle.std.specs.Ordering.{ordering_reverse}
use Rattle.std.proofs.Math.Bool.{or-false}
use Rattle.std.proofs.lemmas.List.{append-nil, drop-take, drop_all, drop_at, get_or-drop, get_or-take, get_or_append_left, get_or_default, take-append-drop, take-append-le, take-take, take_all, take_more}
use Rattle.std.proofs.lemmas.List.Folds.{list_any-append}
use Rattle.std.proofs.lemmas.Bool.{cases_lt, false≢true, or_cases}
use Rattle.std.proofs.lemmas.Map.Keys.{Less-from_sorted}
use Rattle.fol_model.specs.declared.places.SectionPos.{SectionPos}
use Rattle.fol_model.specs.Geometry.{same_section, is_among}
use Rattle.fol_model.specs.Universe.{section_cmp}
use Rattle.fol_lists.specs.Numbered.{shifted}
use Rattle.fol_laws.proofs.SectionOrder.{sections_tell, section_rows_are}
use Rattle.fol_laws.proofs.SortedRows.{all_append}
use Rattle.fol_region_tables.specs.Rows.{united, AreApart, IsRow}
use Rattle.fol_region_tables.proofs.Among.{among_at}

abbrev pub Sorted : List SectionPos → Type 0
Sorted xs = IsStrictlySortedBy section_cmp xs

pub all_after : (x y : SectionPos) (ys : List SectionPos) → section_cmp x y ≡ Less → AllByRecursion (λ b. section_cmp y b ≡ Less) ys → AllByRecursion (λ b. section_cmp x b ≡ Less) ys
all_after x y [] l h = tt
all_after x y (b ∷ ys) l h = (sections_tell.order.trans x y b l h.0, all_after x y ys l h.1)

all_first : (P : SectionPos → Type 0) (n : ℕ) (xs : List SectionPos) → AllByRecursion P xs → AllByRecursion P (take n xs)
all_first P zero xs h = tt
all_first P (suc n) [] h = tt
all_first P (suc n) (x ∷ xs) h = (h.0, all_first P n xs h.1)

-- the front of a list, and behind it one that begins behind the front
pub front_sorted : (xs ys : List SectionPos) (n : ℕ) (d : SectionPos) → Sorted xs → Sorted ys → 0 < length ys → ((k : ℕ) → k < n → section_cmp (get_or xs k d) (get_or ys 0 d) ≡ Less) → Sorted (take n xs ++ ys)
unfolding IsStrictlySortedBy
front_sorted xs [] n d a b l before = absurd (omega arith)
front_sorted xs (y ∷ ys) zero d a b l before = b
front_sorted [] (y ∷ ys) (suc n) d a b l before = b
front_sorted (x ∷ xs) (y ∷ ys) (suc n) d a b l before =
    let less : section_cmp x y ≡ Less = before 0 (omega arith) in (
      all_append (λ s. section_cmp x s ≡ Less) (take n xs) (y ∷ ys) (all_first (λ s. section_cmp x s ≡ Less) n xs a.0) (less, all_after x y ys less b.0),
      front_sorted xs (y ∷ ys) n d a.1 b l (λ k h. before (suc k) (omega arith)),
    )

-- a search by halves: where the place in the middle is before a section
pub before_more : (xs : List SectionPos) (s : SectionPos) (m k : ℕ) (e d : SectionPos) → Sorted xs → m < length xs → section_cmp (get_or xs m e) s ≡ Less → k < m + 1 → section_cmp (get_or xs k d) s ≡ Less
before_more xs s m k e d sorted l h u =
    let same : get_or xs m e ≡ get_or xs m d = get_or_default xs m e d l in
    let here : section_cmp (get_or xs m d) s ≡ Less = ap (λ x. section_cmp x s) (sym same) ∙ h in
    elim (cases_lt k m) [
      | inl v ↦ sections_tell.order.trans (get_or xs k d) (get_or xs m d) s (Less-from_sorted section_cmp xs k m d sorted v l) here
      | inr v ↦ let at : k ≡ m = omega arith in ap (λ i. section_cmp (get_or xs i d) s) at ∙ here
    ]

-- and where it is not
pub behind_more : (xs : List SectionPos) (s : SectionPos) (m k : ℕ) (e d : SectionPos) → Sorted xs → m < length xs → k < length xs → (section_cmp (get_or xs m e) s ≡ Less → ⊥) → m ≤ k → section_cmp (get_or xs k d) s ≡ Less → ⊥
behind_more xs s m k e d sorted l n never u h =
    let same : get_or xs m e ≡ get_or xs m d = get_or_default xs m e d l in
    elim (cases_lt m k) [
      | inl v ↦ never (ap (λ x. section_cmp x s) same ∙ sections_tell.order.trans (get_or xs m d) (get_or xs k d) s (Less-from_sorted section_cmp xs m k d sorted v n) h)
      | inr v ↦ let at : m ≡ k = omega arith in never (ap (λ x. section_cmp x s) same ∙ ap (λ i. section_cmp (get_or xs i d) s) at ∙ h)
    ]

-- what stands behind in a list in order is in order
pub sorted_behind : (out rest : List SectionPos) → Sorted (out ++ rest) → Sorted rest
unfolding IsStrictlySortedBy
sorted_behind [] rest h = h
sorted_behind (o ∷ out) rest h = sorted_behind out rest h.1

-- and what stands in front
all_front : (P : SectionPos → Type 0) (xs ys : List SectionPos) → AllByRecursion P (xs ++ ys) → AllByRecursion P xs
all_front P [] ys h = tt
all_front P (x ∷ xs) ys h = (h.0, all_front P xs ys h.1)

pub sorted_front : (xs ys : List SectionPos) → Sorted (xs ++ ys) → Sorted xs
unfolding IsStrictlySortedBy
sorted_front [] ys h = tt
sorted_front (x ∷ xs) ys h = (all_front (λ b. section_cmp x b ≡ Less) xs ys h.0, sorted_front xs ys h.1)

pub sorted_take : (n : ℕ) (xs : List SectionPos) → Sorted xs → Sorted (take n xs)
sorted_take n xs h = sorted_front (take n xs) (drop n xs) (subst Sorted (sym (take-append-drop n xs)) h)

-- of two sections not each is before the other
less_not_less : (s t : SectionPos) → section_cmp s t ≡ Less → section_cmp t s ≡ Less → ⊥
less_not_less s t a b = let k : Less ≡ Greater = sym a ∙ sections_tell.order.antisymm s t ∙ ap ordering_reverse b in cc

-- an element before the first one is before all
pub before_all : (s : SectionPos) (xs : List SectionPos) (d : SectionPos) → Sorted xs → (0 < length xs → section_cmp s (get_or xs 0 d) ≡ Less) → Sorted (s ∷ xs)
unfolding IsStrictlySortedBy
before_all s [] d h l = (tt, tt)
before_all s (x ∷ xs) d h l = let less : section_cmp s x ≡ Less = l (omega arith) in ((less, all_after s x xs less h.0), h)

-- of two sections the one that is not before the other is behind it
pub other_less : (s t : SectionPos) → (s ≡ t → ⊥) → (section_cmp s t ≡ Less → ⊥) → section_cmp t s ≡ Less
other_less s t other never = go (section_cmp s t) refl
  where
    go : (o : Ordering) → section_cmp s t ≡ o → section_cmp t s ≡ Less
    go Less e = absurd (never e)
    go Equal e = absurd (other (sections_tell.same s t e))
    go Greater e = sections_tell.order.antisymm t s ∙ ap ordering_reverse e

apart_other : (xs ys : List SectionPos) (i j : ℕ) (d : SectionPos) → AreApart xs ys → i < length xs → j < length ys → get_or xs i d ≡ get_or ys j d → ⊥
apart_other xs ys i j d apart h l same = false≢true (sym (apart (get_or xs i d) (among_at xs i d h)) ∙ ap (is_among ys) same ∙ among_at ys j d l)

-- sections in order of which the last is not behind another one are before it
pub all_before : (xs ys : List SectionPos) (n k : ℕ) (d e : SectionPos) → Sorted xs → AreApart xs ys → n ≤ length xs → k < length ys
    → (0 < n → section_cmp (get_or ys k d) (get_or xs (n - 1) d) ≡ Less → ⊥) → (j : ℕ) → j < n → section_cmp (get_or xs j e) (get_or ys k d) ≡ Less
all_before xs ys n k d e sorted apart few l never j h =
    let last : n - 1 < length xs = omega (arith, h, few) in
    let less : section_cmp (get_or xs (n - 1) d) (get_or ys k d) ≡ Less = other_less (get_or ys k d) (get_or xs (n - 1) d) (λ same. apart_other xs ys (n - 1) k d apart last l (sym same)) (never (omega (arith, h))) in
    before_more xs (get_or ys k d) (n - 1) j d e sorted last less (omega (arith, h))

-- the front `rest` of the list, the first new sections, so many of them, and behind these what was merged, together all sections
pub record Merging (xs ys rest done : List SectionPos) (left : ℕ) : Type 0 where
  pub first : Sorted (rest ++ done)
  pub second : Sorted (take left ys ++ done)
  pub apart : AreApart rest ys
  pub members : (s : SectionPos) → ((is_among rest s || is_among (take left ys) s) || is_among done s) ≡ (is_among xs s || is_among ys s)

pub merging_none : (xs ys rest done : List SectionPos) (left : ℕ) → rest ≡ xs → done ≡ [] → left ≡ length ys → Sorted xs → Sorted ys → AreApart xs ys → Merging xs ys rest done left
merging_none xs ys rest done left e f g a b apart =
    let all : take left ys ≡ ys = take_all left ys (omega (arith, g)) in
    rw (e, f) (record {
      first = subst Sorted (sym (append-nil xs)) a;
      second = subst Sorted (sym (append-nil (take left ys) ∙ all)) b;
      apart = apart;
      members = λ s. or-false (is_among xs s || is_among (take left ys) s) ∙ ap (λ zs. is_among xs s || is_among zs s) all;
    })

-- where no new section is left
pub merged_all : (xs ys rest done : List SectionPos) → Merging xs ys rest done 0 → IsRow xs → IsRow ys → rest ++ done ≡ united xs ys
unfolding united
merged_all xs ys rest done m a b = (section_rows_are (λ s. is_among xs s || is_among ys s) (rest ++ done) m.first
    (λ s. list_any-append (same_section s) rest done ∙ ap (λ b. b || is_among done s) (sym (or-false (is_among rest s))) ∙ m.members s)
    (λ s k. elim (or_cases (is_among xs s) (is_among ys s) k) [ inl e ↦ a.limits s e | inr e ↦ b.limits s e ])).0

-- the last new section goes in behind `at` ones
module _ (xs ys rest done : List SectionPos) (left at : ℕ) (d : SectionPos) (m : Merging xs ys rest done (left + 1)) (sorted : Sorted ys) (l : left < length ys) (u : at ≤ length rest)
    (before : (k : ℕ) (e : SectionPos) → k < at → section_cmp (get_or rest k e) (get_or ys left d) ≡ Less)
    (behind : (k : ℕ) (e : SectionPos) → at ≤ k → k < length rest → section_cmp (get_or rest k e) (get_or ys left d) ≡ Less → ⊥) where
  abbrev new : SectionPos
  new = get_or ys left d

  abbrev after : List SectionPos
  after = drop at rest ++ done

  last : take (left + 1) ys ≡ take left ys ++ new ∷ []
  last = take_more ys left d l

  parts : take at rest ++ after ≡ rest ++ done
  parts = sym (append_assoc (take at rest) (drop at rest) done) ∙ ap (λ zs. zs ++ done) (take-append-drop at rest)

  after_sorted : Sorted after
  after_sorted = sorted_behind (take at rest) after (subst Sorted (sym parts) m.first)

  second : Sorted (take left ys ++ new ∷ done)
  second = subst Sorted (append_assoc (take left ys) (new ∷ []) done) (subst (λ (zs : List SectionPos). Sorted (zs ++ done)) last m.second)

  -- the first one that it is not behind is behind it, since it is another one
  less : at < length rest → section_cmp new (get_or rest at d) ≡ Less
  less h = other_less (get_or rest at d) new (apart_other rest ys at left d m.apart h l) (behind at d (omega arith) h)

  before_after : Sorted (new ∷ after)
  unfolding IsStrictlySortedBy
  before_after = elim (cases_lt at (length rest)) [
    | inl h ↦ before_all new after d after_sorted (λ _. ap (section_cmp new) (get_or_append_left (drop at rest) done d 0 (omega (arith, h, length-drop at rest)) ∙ get_or-drop at rest 0 d ∙ ap (λ k. get_or rest k d) (let e : at + 0 ≡ at = omega arith in e)) ∙ less h)
    | inr h ↦ let none : drop at rest ≡ [] = drop_all at rest h in subst (λ (zs : List SectionPos). Sorted (new ∷ (zs ++ done))) (sym none) (sorted_behind (take left ys) (new ∷ done) second)
  ]

  whole : (s : SectionPos) → (is_among (take at rest) s || is_among (drop at rest) s) ≡ is_among rest s
  whole s = sym (list_any-append (same_section s) (take at rest) (drop at rest)) ∙ ap (λ zs. is_among zs s) (take-append-drop at rest)

  ends : (s : SectionPos) → (is_among (take left ys) s || same_section s new) ≡ is_among (take (left + 1) ys) s
  ends s = ap (λ b. is_among (take left ys) s || b) (sym (or-false (same_section s new))) ∙ sym (list_any-append (same_section s) (take left ys) (new ∷ [])) ∙ ap (λ zs. is_among zs s) (sym last)

  pub merging_more : Merging xs ys (take at rest) (new ∷ (drop at rest ++ done)) left
  merging_more = record {
    first = front_sorted rest (new ∷ after) at d (sorted_front rest done m.first) before_after (omega arith) (λ k h. before k d h);
    second = front_sorted ys (new ∷ after) left d sorted before_after (omega arith) (λ k h. Less-from_sorted section_cmp ys k left d sorted h l);
    apart = λ s h. m.apart s (sym (whole s) ∙ ap (λ b. b || is_among (drop at rest) s) h);
    members = λ s. ap (λ b. (is_among (take at rest) s || is_among (take left ys) s) || (same_section s new || b)) (list_any-append (same_section s) (drop at rest) done)
        ∙ five (is_among (take at rest) s) (is_among (take left ys) s) (same_section s new) (is_among (drop at rest) s) (is_among done s)
        ∙ ap (λ b. (b || (is_among (take left ys) s || same_section s new)) || is_among done s) (whole s)
        ∙ ap (λ b. (is_among rest s || b) || is_among done s) (ends s) ∙ m.members s;
  }
    where
      five : (a b e f g : Bool) → ((a || b) || (e || (f || g))) ≡ (((a || f) || (b || e)) || g)
      five true b e f g = refl
      five false true e true g = refl
      five false true e false g = refl
      five false false true true g = refl
      five false false true false g = refl
      five false false false true g = refl
      five false false false false g = refl

-- an element of a list in order is before those behind it
before_next : (ys : List SectionPos) (j k : ℕ) (d : SectionPos) → Sorted ys → j ≤ k → k < length ys → (s : SectionPos) → section_cmp s (get_or ys j d) ≡ Less → section_cmp s (get_or ys k d) ≡ Less
before_next ys j k d sorted l h s less = elim (cases_lt j k) [
  | inl v ↦ sections_tell.order.trans s (get_or ys j d) (get_or ys k d) less (Less-from_sorted section_cmp ys j k d sorted v h)
  | inr v ↦ let at : j ≡ k = omega arith in subst (λ (i : ℕ). section_cmp s (get_or ys i d) ≡ Less) at less
]

-- so many of the last new sections go in behind all that is left
merging_run : (xs ys rest done : List SectionPos) (from n : ℕ) (d : SectionPos) → Merging xs ys rest done (from + n) → Sorted ys → from + n ≤ length ys
    → (0 < n → (k : ℕ) (e : SectionPos) → k < length rest → section_cmp (get_or rest k e) (get_or ys from d) ≡ Less) → Merging xs ys rest (slice_range ys from (from + n) ++ done) from
merging_run xs ys rest done from zero d m sorted l before =
    let none : from + 0 - from ≡ 0 = omega arith in
    let same : from + 0 ≡ from = omega arith in
    subst (λ (k : ℕ). Merging xs ys rest (take k (drop from ys) ++ done) from) (sym none) (subst (Merging xs ys rest done) same m)
merging_run xs ys rest done from (suc n) d m sorted l before =
    let new = get_or ys (from + n) d in
    let next : from + suc n ≡ from + n + 1 = omega arith in
    let many : from + suc n - from ≡ n + 1 = omega arith in
    let fewer : n ≡ from + n - from = omega arith in
    let inside : from + n < length ys = omega (arith, l) in
    let front : take (length rest) rest ≡ rest = take_all (length rest) rest (omega arith) in
    let back : drop (length rest) rest ≡ [] = drop_all (length rest) rest (omega arith) in
    let one : Merging xs ys (take (length rest) rest) (new ∷ (drop (length rest) rest ++ done)) (from + n) =
    merging_more xs ys rest done (from + n) (length rest) d (subst (Merging xs ys rest done) next m) sorted inside (omega arith)
    (λ k e h. before_next ys from (from + n) d sorted (omega arith) inside (get_or rest k e) (before (omega arith) k e h)) (λ k e u h _. absurd (omega (arith, u, h))) in
    let step : Merging xs ys rest (new ∷ done) (from + n) = subst (λ (zs : List SectionPos). Merging xs ys rest (new ∷ (zs ++ done)) (from + n)) back (subst (λ (zs : List SectionPos). Merging xs ys zs (new ∷ (drop (length rest) rest ++ done)) (from + n)) front one) in
    let last : take (n + 1) (drop from ys) ≡ take n (drop from ys) ++ new ∷ [] =
    take_more (drop from ys) n d (omega (arith, inside, length-drop from ys)) ∙ ap (λ s. take n (drop from ys) ++ s ∷ []) (get_or-drop from ys n d) in
    let joined : slice_range ys from (from + n) ++ new ∷ done ≡ slice_range ys from (from + suc n) ++ done =
    ap (λ k. take k (drop from ys) ++ new ∷ done) (sym fewer) ∙ sym (append_assoc (take n (drop from ys)) (new ∷ []) done) ∙ ap (λ zs. zs ++ done) (sym last) ∙ ap (λ k. take k (drop from ys) ++ done) (sym many) in
    subst (λ (zs : List SectionPos). Merging xs ys rest zs from) joined
    (merging_run xs ys rest (new ∷ done) from n d step sorted (omega (arith, l)) (λ _ k e h. before (omega arith) k e h))

-- the new sections from `from` on go in behind `at` ones: the last of them is behind these and before the others, and the last of these is not behind the first of them
merging_runs : (xs ys rest done : List SectionPos) (from left at : ℕ) (d : SectionPos) → Merging xs ys rest done left → Sorted ys → from < left → left ≤ length ys → at ≤ length rest
    → ((k : ℕ) (e : SectionPos) → k < at → section_cmp (get_or rest k e) (get_or ys (left - 1) d) ≡ Less)
    → ((k : ℕ) (e : SectionPos) → at ≤ k → k < length rest → section_cmp (get_or rest k e) (get_or ys (left - 1) d) ≡ Less → ⊥)
    → ((k : ℕ) (e : SectionPos) → k < at → section_cmp (get_or rest k e) (get_or ys from d) ≡ Less)
    → Merging xs ys (take at rest) (slice_range ys from left ++ (drop at rest ++ done)) from
merging_runs xs ys rest done from left at d m sorted u l v before behind first =
    let n = left - 1 - from in
    let one : left ≡ left - 1 + 1 = omega (arith, u) in
    let all : left - 1 ≡ from + n = omega (arith, u) in
    let step : Merging xs ys (take at rest) (get_or ys (left - 1) d ∷ (drop at rest ++ done)) (left - 1) =
    merging_more xs ys rest done (left - 1) at d (subst (Merging xs ys rest done) one m) sorted (omega (arith, u, l)) v before behind in
    let long : length (take at rest) ≡ at = length-take-le at rest v in
    let run : Merging xs ys (take at rest) (slice_range ys from (from + n) ++ (get_or ys (left - 1) d ∷ (drop at rest ++ done))) from =
    merging_run xs ys (take at rest) (get_or ys (left - 1) d ∷ (drop at rest ++ done)) from n d (subst (Merging xs ys (take at rest) (get_or ys (left - 1) d ∷ (drop at rest ++ done))) all step) sorted (omega (arith, u, l))
    (λ _ k e h. ap (λ s. section_cmp s (get_or ys from d)) (get_or-take at rest k e (omega (arith, h, long))) ∙ first k e (omega (arith, h, long))) in
    let place : from + (left - 1 - from) ≡ left - 1 = omega (arith, u) in
    let few : from + n - from ≡ n = omega arith in
    let many : left - from ≡ n + 1 = omega (arith, u) in
    let last : take (n + 1) (drop from ys) ≡ take n (drop from ys) ++ get_or ys (left - 1) d ∷ [] =
    take_more (drop from ys) n d (omega (arith, u, l, length-drop from ys)) ∙ ap (λ s. take n (drop from ys) ++ s ∷ []) (get_or-drop from ys n d ∙ ap (λ k. get_or ys k d) place) in
    let joined : slice_range ys from (from + n) ++ (get_or ys (left - 1) d ∷ (drop at rest ++ done)) ≡ slice_range ys from left ++ (drop at rest ++ done) =
    ap (λ k. take k (drop from ys) ++ (get_or ys (left - 1) d ∷ (drop at rest ++ done))) few ∙ sym (append_assoc (take n (drop from ys)) (get_or ys (left - 1) d ∷ []) (drop at rest ++ done))
    ∙ ap (λ zs. zs ++ (drop at rest ++ done)) (sym last) ∙ ap (λ k. take k (drop from ys) ++ (drop at rest ++ done)) (sym many) in
    subst (λ (zs : List SectionPos). Merging xs ys (take at rest) zs from) joined run

-- the row, whose front is not merged yet, and behind a gap what was merged, after a step
pub merging_shifted : (xs ys row : List SectionPos) (start end left from : ℕ) (d : SectionPos) → Merging xs ys (take end row) (drop (end + left) row) left → Sorted ys → from < left → left ≤ length ys → end + left ≤ length row → start ≤ length (take end row)
    → ((n : ℕ) (e : SectionPos) → n < start → section_cmp (get_or (take end row) n e) (get_or ys (left - 1) d) ≡ Less)
    → ((n : ℕ) (e : SectionPos) → start ≤ n → n < length (take end row) → section_cmp (get_or (take end row) n e) (get_or ys (left - 1) d) ≡ Less → ⊥)
    → ((n : ℕ) (e : SectionPos) → n < start → section_cmp (get_or (take end row) n e) (get_or ys from d) ≡ Less)
    → Merging xs ys (take start (shifted row start end from (slice_range ys from left))) (drop (start + from) (shifted row start end from (slice_range ys from left))) from
merging_shifted xs ys row start end left from d m sorted some l fits u before behind least =
    let run = slice_range ys from left in
    let many : length run ≡ left - from = length-take-le (left - from) (drop from ys) (omega (arith, l, length-drop from ys)) in
    let long : length (take end row) ≡ end = length-take-le end row (omega (arith, fits)) in
    let first : length (take (start + from) row) ≡ start + from = length-take-le (start + from) row (omega (arith, fits, some, u, long)) in
    let tail = run ++ (slice_range row start end ++ drop (end + from + length run) row) in
    let front : take start (take end row) ≡ take start (shifted row start end from run) =
    take-take start end row (omega (arith, u, long)) ∙ sym (take-append-le start (take (start + from) row) tail (omega (arith, first)) ∙ take-take start (start + from) row (omega arith)) in
    let middle : drop start (take end row) ≡ slice_range row start end = ap (λ n. drop start (take n row)) (let e : end ≡ start + (end - start) = omega (arith, u, long) in e) ∙ drop-take start (end - start) row in
    let last : end + left ≡ end + from + length run = omega (arith, some, many) in
    let back : run ++ (drop start (take end row) ++ drop (end + left) row) ≡ drop (start + from) (shifted row start end from run) =
    (λ i. run ++ (middle i ++ drop (last i) row)) ∙ sym (drop_at (take (start + from) row) tail (start + from) first) in
    subst (λ (zs : List SectionPos). Merging xs ys zs (drop (start + from) (shifted row start end from run)) from) front
    (subst (λ (zs : List SectionPos). Merging xs ys (take start (take end row)) zs from) back
    (merging_runs xs ys (take end row) (drop (end + left) row) from left start d m sorted some l u before behind least))

-- the same by two searches: for the last new section among those that are left, and for the last of these before it among the new ones
pub merging_found : (xs ys row : List SectionPos) (start end left from : ℕ) (d : SectionPos) → Merging xs ys (take end row) (drop (end + left) row) left → Sorted ys → 0 < left → left ≤ length ys → end + left ≤ length row → start ≤ length (take end row)
    → ((n : ℕ) (e : SectionPos) → n < start → section_cmp (get_or (take end row) n e) (get_or (take left ys) (length (take left ys) - 1) e) ≡ Less)
    → ((n : ℕ) (e : SectionPos) → start ≤ n → n < length (take end row) → 0 < length (take left ys) → section_cmp (get_or (take end row) n e) (get_or (take left ys) (length (take left ys) - 1) e) ≡ Less → ⊥)
    → (length (take start row) ≡ 0 → from ≡ 0)
    → ((n : ℕ) (e : SectionPos) → n < from → section_cmp (get_or (take left ys) n e) (get_or (take start row) (length (take start row) - 1) e) ≡ Less)
    → ((n : ℕ) (e : SectionPos) → from ≤ n → n < length (take left ys) → 0 < length (take start row) → section_cmp (get_or (take left ys) n e) (get_or (take start row) (length (take start row) - 1) e) ≡ Less → ⊥)
    → (from < left) × Merging xs ys (take start (shifted row start end from (slice_range ys from left))) (drop (start + from) (shifted row start end from (slice_range ys from left))) from
merging_found xs ys row start end left from d m sorted some l fits u before behind none least most =
    let rest = take end row in
    let long : length rest ≡ end = length-take-le end row (omega (arith, fits)) in
    let many : length (take left ys) ≡ left = length-take-le left ys l in
    let short : length (take start row) ≡ start = length-take-le start row (omega (arith, u, long, fits)) in
    let last : (e : SectionPos) → get_or (take left ys) (length (take left ys) - 1) e ≡ get_or ys (left - 1) e =
    λ e. ap (λ k. get_or (take left ys) (k - 1) e) many ∙ get_or-take left ys (left - 1) e (omega (arith, some)) in
    let told : (e : SectionPos) → get_or ys (left - 1) e ≡ get_or ys (left - 1) d = λ e. get_or_default ys (left - 1) e d (omega (arith, some, l)) in
    let first : (e : SectionPos) → 0 < start → get_or (take start row) (length (take start row) - 1) e ≡ get_or rest (start - 1) e =
    λ e h. ap (λ k. get_or (take start row) (k - 1) e) short ∙ get_or-take start row (start - 1) e (omega (arith, h)) ∙ sym (get_or-take end row (start - 1) e (omega (arith, h, u, long))) in
    let ahead : (n : ℕ) (e : SectionPos) → n < start → section_cmp (get_or rest n e) (get_or ys (left - 1) d) ≡ Less =
    λ n e h. ap (section_cmp (get_or rest n e)) (sym (last e ∙ told e)) ∙ before n e h in
    let after : (n : ℕ) (e : SectionPos) → start ≤ n → n < length rest → section_cmp (get_or rest n e) (get_or ys (left - 1) d) ≡ Less → ⊥ =
    λ n e h v less. behind n e h v (omega (arith, some, many)) (ap (section_cmp (get_or rest n e)) (last e ∙ told e) ∙ less) in
    let never : 0 < start → left ≤ from → ⊥ =
    λ h v.
    let less : section_cmp (get_or ys (left - 1) d) (get_or rest (start - 1) d) ≡ Less =
    (λ i. section_cmp (sym (get_or-take left ys (left - 1) d (omega (arith, some))) i) (sym (first d h) i)) ∙ least (left - 1) d (omega (arith, some, v)) in
    less_not_less (get_or ys (left - 1) d) (get_or rest (start - 1) d) less (ahead (start - 1) d (omega (arith, h))) in
    let fewer : from < left = elim (cases_lt from left) [
      | inl h ↦ h
      | inr h ↦ elim (cases_lt 0 start) [
        | inl v ↦ absurd (never v h)
        | inr v ↦ absurd (let e : from ≡ 0 = none (omega (arith, short, v)) in let no : left ≤ 0 = omega (arith, e, h) in (omega (arith, no, some)))
      ]
    ] in
    let in_front : (n : ℕ) (e : SectionPos) → n < start → section_cmp (get_or rest n e) (get_or ys from d) ≡ Less =
    λ n e h. all_before rest ys start from d e (sorted_front rest (drop (end + left) row) m.first) m.apart u (omega (arith, fewer, l))
    (λ v less. most from d (omega arith) (omega (arith, fewer, many)) (omega (arith, v, short)) ((λ i. section_cmp (get_or-take left ys from d fewer i) (first d v i)) ∙ less)) n h in
    (fewer, merging_shifted xs ys row start end left from d m sorted fewer l fits u ahead after in_front)

pub merged_row : (xs ys row : List SectionPos) (end left : ℕ) → left ≤ 0 → Merging xs ys (take end row) (drop (end + left) row) left → IsRow xs → IsRow ys → row ≡ united xs ys
merged_row xs ys row end left l m a b =
    let none : left ≡ 0 = omega (arith, l) in
    let all : end + left ≡ end = omega (arith, l) in
    sym (take-append-drop end row) ∙ ap (λ n. take end row ++ drop n row) (sym all) ∙ merged_all xs ys (take end row) (drop (end + left) row) (subst (Merging xs ys (take end row) (drop (end + left) row)) none m) a b
