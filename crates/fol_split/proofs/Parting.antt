-- One more part: what was taken behind what was taken before.
use Rattle.std.proofs.Common.{◌≡◌, ℕ, suc, ◌+◌, ◌-◌, ◌≤◌, ◌<◌, refl, sym, ◌∙◌, ap, arith, true, false, not, ◌⊎◌, inl, inr, subst, List, [], ◌∷◌, ◌++◌, length, take, drop, length-append, length-drop}
use Rattle.std.specs.Prelude.{IsTrue, ◌<ℤ◌}
use Rattle.std.specs.List.{All, AllByRecursion, list_any, slice_range}
use Rattle.std.specs.List.Sorted.{IsStrictlySortedBy}
use Rattle.std.specs.Ordering.{on, ordering_reverse}
use Rattle.std.specs.declared.cmp.Ordering.{Ordering}
use Rattle.std.specs.declared.cmp.Ordering.TheVariants.{Less}
use Rattle.std.proofs.lemmas.Bool.{cases_Bool, cases_lt, cases_eq, and_parts, and_from, or_cases, or_left, or_right, or_parts, true≢false, not-true, not_from_false}
use Rattle.std.proofs.lemmas.List.{take-append-le, drop-append-le, take_all, map-append}
use Rattle.std.proofs.lemmas.List.Elements.{All-push, All-weaker, recursion_from_All}
use Rattle.std.proofs.lemmas.List.Folds.{list_any-append}
use Rattle.std.proofs.lemmas.Map.Keys.{sorted_head}
use Rattle.std.proofs.Math.Seq.{drop-append_seam}
use borrow.Author.Differences.{ints}
use Rattle.fol_model.specs.declared.places.SectionPos.{SectionPos}
use Rattle.fol_model.specs.Geometry.{same_section, is_among}
use Rattle.fol_model.specs.Universe.{section_cmp}
use Rattle.fol_model.proofs.PlaceKeys.{same_section-true, same_section-self, section_cmp_total}
use Rattle.fol_split.specs.declared.runs.Run.{Run}
use Rattle.fol_split.specs.declared.spans.Span.{Span}
use Rattle.fol_split.specs.Parts.{least_of, IsJoined, IsPart, ArePartsOf}
use Rattle.fol_split.specs.Runs.{no_run, AreRuns, run_at, all_of, sections_of, first_of}
use Rattle.fol_split.specs.Pool.{Taken, TakesClass, IsApart, is_left}
use Rattle.fol_split.specs.Spans.{IsSpan, IsSplit, piece_of, pieces_of}
use Rattle.fol_split.proofs.Chains.{joined_both, joined_back, part_over}
use Rattle.fol_split.proofs.Members.{all_at, at_index, among-append}
use Rattle.fol_split.proofs.Near.{from_first}
use Rattle.fol_split.proofs.Places.{less_in_row}
use Rattle.fol_split.proofs.Rows.{in_run-gives, first_in}
use Rattle.fol_split.proofs.RunLists.{run_of, of_run, run_before}

-- ---- pieces
piece-front : (xs ys : List SectionPos) (span : Span) → IsSpan (length xs) span → piece_of (xs ++ ys) span ≡ piece_of xs span
piece-front xs ys span fit =
    ap (take (span.to - span.from)) (drop-append-le span.from xs ys (omega (arith, fit.rising, fit.within)))
    ∙ take-append-le (span.to - span.from) (drop span.from xs) ys (omega (arith, fit.rising, fit.within, length-drop span.from xs))

pieces-front : (xs ys : List SectionPos) (spans : List Span) → All (IsSpan (length xs)) spans → pieces_of (xs ++ ys) spans ≡ pieces_of xs spans
pieces-front xs ys [] fit = refl
pieces-front xs ys (s ∷ spans) fit =
    let head = piece-front xs ys s (fit 0 s (omega arith)) in
    let rest = pieces-front xs ys spans (λ k d l. fit (suc k) d (omega arith)) in
    λ i. head i ∷ rest i

piece-last : (xs ys : List SectionPos) (n : ℕ) → n ≡ length (xs ++ ys) → slice_range (xs ++ ys) (length xs) n ≡ ys
piece-last xs ys n e =
    ap (take (n - length xs)) (drop-append_seam xs ys) ∙ take_all (n - length xs) ys (omega (arith, length-append xs ys))

-- the pieces of a longer list, with one span more
pub pieces-more : (xs ys : List SectionPos) (spans : List Span) (n : ℕ) → All (IsSpan (length xs)) spans → n ≡ length (xs ++ ys)
    → pieces_of (xs ++ ys) (spans ++ record { from = length xs; to = n } ∷ []) ≡ pieces_of xs spans ++ ys ∷ []
pieces-more xs ys spans n fit e =
    map-append (piece_of (xs ++ ys)) spans (record { from = length xs; to = n } ∷ [])
    ∙ ap (λ ps. ps ++ slice_range (xs ++ ys) (length xs) n ∷ []) (pieces-front xs ys spans fit)
    ∙ ap (λ p. pieces_of xs spans ++ p ∷ []) (piece-last xs ys n e)

-- ---- one more at the end of a list in order
sorted-push : {X : Type 0} (c : X → X → Ordering) (xs : List X) (y : X) → IsStrictlySortedBy c xs → AllByRecursion (λ x. c x y ≡ Less) xs → IsStrictlySortedBy c (xs ++ y ∷ [])
unfolding IsStrictlySortedBy
sorted-push c [] y h less = (tt, tt)
sorted-push {X} c (x ∷ xs) y h less = (all-push xs h.0 less.0, sorted-push c xs y h.1 less.1)
  where
    all-push : (zs : List X) → AllByRecursion (λ z. c x z ≡ Less) zs → c x y ≡ Less → AllByRecursion (λ z. c x z ≡ Less) (zs ++ y ∷ [])
    all-push [] a l = (l, tt)
    all-push (z ∷ zs) a l = (a.0, all-push zs a.1 l)

-- ---- the least section of a part
not_both_less : (a b : SectionPos) → section_cmp a b ≡ Less → section_cmp b a ≡ Less → ⊥
not_both_less a b h k = let t = section_cmp_total.antisymm a b in let f : Less ≡ ordering_reverse Less = rw (h, k) at t in cc

least_is : (part : List SectionPos) (first : SectionPos) → IsStrictlySortedBy section_cmp part → is_among part first ≡ true
    → ((s : SectionPos) → is_among part s ≡ true → (s ≡ first) ⊎ (section_cmp first s ≡ Less)) → least_of part ≡ first
least_is [] first h i later = absurd (true≢false (sym i))
least_is (p ∷ ps) first h i later = elim (later p (or_left _ _ (same_section-self p))) [
  | inl e ↦ e
  | inr less ↦ elim (or_cases (same_section first p) (is_among ps first) i) [
    | inl e ↦ sym (same_section-true first p e)
    | inr e ↦ absurd (not_both_less first p less (all_at (λ y. section_cmp p y ≡ Less) ps first (sorted_head section_cmp p ps h) e))
  ]
]

-- the least section of the part is before each section of the runs from the place i on
abbrev IsBefore : List Run → ℕ → List SectionPos → Type 0
IsBefore runs i part = (k : ℕ) (s : SectionPos) → i ≤ k → k < length runs → IsTrue (is_among (sections_of (run_at runs k)) s) → section_cmp (least_of part) s ≡ Less

-- ---- the step
-- a section of a run is its first one, or behind it
first_or_later : (run : Run) (s : SectionPos) → run.from <ℤ run.to → is_among (sections_of run) s ≡ true → (s ≡ first_of run) ⊎ (section_cmp (first_of run) s ≡ Less)
first_or_later run s solid h =
    let r = in_run-gives run solid s h in
    elim (cases_Bool (same_section s (first_of run))) [
      | inl e ↦ inl (same_section-true s (first_of run) e)
      | inr e ↦
          let other : s.x ≡ run.from → ⊥ = λ q. let z = r.0 in let same : s ≡ first_of run = (λ i. record { x = q i; z = z i }) in true≢false (sym (ap (λ t. same_section t (first_of run)) same ∙ same_section-self (first_of run)) ∙ e) in
          inr (less_in_row (first_of run) s (sym r.0) (omega (arith, ints, r.1, other)))
    ]

module _ (old new : Taken) (spans : List Span) (merge i : ℕ) (low : 1 ≤ merge) (split : IsSplit old spans merge i) (l : i < length old.runs) (sound : AreRuns old.runs)
    (left : is_left old (first_of (run_at old.runs i)) ≡ true) (takes : TakesClass old new merge (first_of (run_at old.runs i)) (drop (length old.found) new.found)) (apart : IsApart new merge) where
  first : SectionPos
  first = first_of (run_at old.runs i)

  part : List SectionPos
  part = drop (length old.found) new.found

  solid : (k : ℕ) → k < length old.runs → (run_at old.runs k).from <ℤ (run_at old.runs k).to
  solid k m = sound.solid k no_run m

  after : Taken
  after = record { runs = old.runs; found = old.found ++ part }

  is_after : new ≡ after
  unfolding after part
  is_after = let runs = takes.runs in let found = takes.found in λ j. record { runs = runs j; found = found j }

  class_to : (s : SectionPos) → is_among part s ≡ true → IsTrue (is_among (all_of old.runs) s) × IsJoined (all_of old.runs) merge first s
  unfolding part first
  class_to s h = (takes.class s).0 h

  class_from : (s : SectionPos) → IsTrue (is_among (all_of old.runs) s) → IsJoined (all_of old.runs) merge first s → is_among part s ≡ true
  unfolding part first
  class_from s h j = (takes.class s).1 (h, j)

  first_in_all : is_among (all_of old.runs) first ≡ true
  unfolding first
  first_in_all = (and_parts (is_among (all_of old.runs) (first_of (run_at old.runs i))) (not (is_among old.found (first_of (run_at old.runs i)))) left).0

  first_taken : is_among part first ≡ true
  first_taken = class_from first first_in_all ([], refl)

  was_left : (s : SectionPos) → is_among part s ≡ true → is_left old s ≡ true
  unfolding part
  was_left s h = takes.was_left s h

  -- with its first section each one of the run was taken
  run_taken : (s : SectionPos) → is_among (sections_of (run_at old.runs i)) s ≡ true → is_among part s ≡ true
  unfolding first
  run_taken s h = class_from s (of_run old.runs i s l h) (from_first (all_of old.runs) merge low (run_at old.runs i) (solid i l) (λ t e. of_run old.runs i t l e) s h)

  -- the first is the least
  later : (s : SectionPos) → is_among part s ≡ true → (s ≡ first) ⊎ (section_cmp first s ≡ Less)
  unfolding first
  later s h =
      let k = run_of old.runs s (class_to s h).0 in
      elim (cases_lt k.0 i) [
        | inl lower ↦ absurd (true≢false (sym (was_left s h) ∙ split.done k.0 s lower k.1 k.2))
        | inr upper ↦ elim (cases_eq i k.0) [
          | inl e ↦ first_or_later (run_at old.runs i) s (solid i l) (ap (λ n. is_among (sections_of (run_at old.runs n)) s) e ∙ k.2)
          | inr n ↦ inr (run_before old.runs i k.0 (first_of (run_at old.runs i)) s sound.in_order (omega (arith, n, upper)) k.1 (first_in (run_at old.runs i) (solid i l)) k.2)
        ]
      ]

  rising : IsStrictlySortedBy section_cmp part
  unfolding part
  rising = takes.in_order

  least : least_of part ≡ first
  least = least_is part first rising first_taken later

  some : 0 < length part
  some = let k = at_index part first first_taken in omega (arith, k.1)

  is_part : IsPart (all_of old.runs) merge part
  is_part = record {
    some = some;
    in_order = rising;
    whole = λ a b i.
        let to_a = class_to a i in (
          (λ h. let to_b = class_to b h in
              (to_b.0, joined_both (all_of old.runs) merge a first b (joined_back (all_of old.runs) merge first to_a.1.0 a first_in_all to_a.1.1) to_b.1)),
          (λ h. class_from b h.0 (joined_both (all_of old.runs) merge first a b to_a.1 h.1)),
        );
  }

  after_apart : IsApart after merge
  after_apart = subst (λ p. IsApart p merge) is_after apart

  taken_stays : (s : SectionPos) → is_left old s ≡ false → is_left after s ≡ false
  unfolding after
  taken_stays s h = elim (cases_Bool (is_left after s)) [
    | inr e ↦ e
    | inl e ↦
        let p = and_parts (is_among (all_of old.runs) s) (not (is_among (old.found ++ part) s)) e in
        let q = or_parts (is_among old.found s) (is_among part s) (sym (among-append old.found part s) ∙ not-true _ p.1) in
        absurd (true≢false (sym (and_from _ _ p.0 (not_from_false _ q.0)) ∙ h))
  ]

  run_gone : (s : SectionPos) → is_among (sections_of (run_at old.runs i)) s ≡ true → is_left after s ≡ false
  unfolding after
  run_gone s h = elim (cases_Bool (is_left after s)) [
    | inr e ↦ e
    | inl e ↦
        let p = and_parts (is_among (all_of old.runs) s) (not (is_among (old.found ++ part) s)) e in
        let q = or_parts (is_among old.found s) (is_among part s) (sym (among-append old.found part s) ∙ not-true _ p.1) in
        absurd (true≢false (sym (run_taken s h) ∙ q.1))
  ]

  first_there : is_among (sections_of (run_at old.runs i)) first ≡ true
  unfolding first
  first_there = first_in (run_at old.runs i) (solid i l)

  span : Span
  span = record { from = length old.found; to = length (old.found ++ part) }

  pieces : pieces_of (old.found ++ part) (spans ++ span ∷ []) ≡ pieces_of old.found spans ++ part ∷ []
  unfolding span
  pieces = pieces-more old.found part spans (length (old.found ++ part)) split.fit refl

  after_split : IsSplit after (spans ++ span ∷ []) merge (i + 1)
  unfolding after span
  after_split =
      let len = length-append old.found part in
      let ps = pieces in
      record {
        apart = after_apart;
        done = λ k s a b h. elim (cases_eq k i) [
          | inl e ↦ run_gone s (ap (λ n. is_among (sections_of (run_at old.runs n)) s) (sym e) ∙ h)
          | inr n ↦ taken_stays s (split.done k s (omega (arith, n)) b h)
        ];
        fit = All-push (IsSpan (length (old.found ++ part))) spans span
            (All-weaker (IsSpan (length old.found)) (IsSpan (length (old.found ++ part))) (λ s fit. record { rising = fit.rising; within = omega (arith, fit.within) }) spans split.fit)
            (record { rising = omega arith; within = omega arith });
        few = omega (arith, split.few, length-append spans (span ∷ []), some);
        classes = rw ps (All-push (IsPart (all_of old.runs) merge) (pieces_of old.found spans) part split.classes is_part);
        cover = λ s h. rw ps (list_any-append (λ p. is_among p s) (pieces_of old.found spans) (part ∷ []) ∙
            elim (or_cases (is_among old.found s) (is_among part s) (sym (among-append old.found part s) ∙ h)) [
              | inl e ↦ or_left (list_any (λ p. is_among p s) (pieces_of old.found spans)) _ (split.cover s e)
              | inr e ↦ or_right (list_any (λ p. is_among p s) (pieces_of old.found spans)) _ (or_left (is_among part s) _ e)
            ]);
        by_least = rw ps (sorted-push (on least_of section_cmp) (pieces_of old.found spans) part split.by_least
            (recursion_from_All (λ p. section_cmp (least_of p) (least_of part) ≡ Less) (pieces_of old.found spans) (All-weaker (IsBefore old.runs i) (λ p. section_cmp (least_of p) (least_of part) ≡ Less)
            (λ p h. ap (section_cmp (least_of p)) least ∙ h i first (omega arith) l first_there) (pieces_of old.found spans) split.before)));
        before = rw ps (All-push (IsBefore old.runs (i + 1)) (pieces_of old.found spans) part
            (All-weaker (IsBefore old.runs i) (IsBefore old.runs (i + 1)) (λ p h k s a b e. h k s (omega arith) b e) (pieces_of old.found spans) split.before)
            (λ k s a b e. ap (λ t. section_cmp t s) least ∙ run_before old.runs i k first s sound.in_order (omega arith) b first_there e));
      }

  pub split_part : IsSplit new (spans ++ record { from = length old.found; to = length new.found } ∷ []) merge (i + 1)
  unfolding span after
  split_part =
      let P : Taken → Type 0 = λ p. IsSplit p (spans ++ record { from = length old.found; to = length p.found } ∷ []) merge (i + 1) in
      subst P (sym is_after) after_split

-- ---- the start, a run that has its part, and the end
pub split_start : (p : Taken) (spans : List Span) (merge : ℕ) → p.found ≡ [] → spans ≡ [] → IsSplit p spans merge 0
unfolding IsStrictlySortedBy
split_start p spans merge e f =
    let none : (s : SectionPos) → is_among p.found s ≡ false = λ s. ap (λ xs. is_among xs s) e in
    rw f (record {
      apart = λ a b h k. absurd (true≢false (sym h ∙ none a));
      done = λ k s a b h. absurd (omega arith);
      fit = λ k d a. absurd (omega arith);
      few = omega arith;
      classes = λ k d a. absurd (omega arith);
      cover = λ s h. absurd (true≢false (sym h ∙ none s));
      by_least = tt;
      before = λ k d a. absurd (omega arith);
    })

pub split_next : (p : Taken) (spans : List Span) (merge i : ℕ) → IsSplit p spans merge i → ((s : SectionPos) → is_among (sections_of (run_at p.runs i)) s ≡ true → is_left p s ≡ false) → IsSplit p spans merge (i + 1)
split_next p spans merge i split taken = record {
  apart = split.apart;
  done = λ k s a b h. elim (cases_eq k i) [
    | inl e ↦ taken s (ap (λ n. is_among (sections_of (run_at p.runs n)) s) (sym e) ∙ h)
    | inr n ↦ split.done k s (omega (arith, n)) b h
  ];
  fit = split.fit;
  few = split.few;
  classes = split.classes;
  cover = split.cover;
  by_least = split.by_least;
  before = All-weaker (IsBefore p.runs i) (IsBefore p.runs (i + 1)) (λ part h k s a b e. h k s (omega arith) b e) (pieces_of p.found spans) split.before;
}

-- where each run has its part, these are the parts
pub parts_are : (p : Taken) (spans : List Span) (merge i : ℕ) (sections : List SectionPos) → IsSplit p spans merge i → length p.runs ≤ i
    → ((s : SectionPos) → is_among (all_of p.runs) s ≡ is_among sections s) → ArePartsOf sections merge (pieces_of p.found spans)
parts_are p spans merge i sections split end same = record {
  classes = All-weaker (IsPart (all_of p.runs) merge) (IsPart sections merge) (λ part h. part_over (all_of p.runs) sections same merge part h) (pieces_of p.found spans) split.classes;
  cover = λ s h.
      let there : is_among (all_of p.runs) s ≡ true = same s ∙ h in
      let k = run_of p.runs s there in
      split.cover s (found s there (split.done k.0 s (omega (arith, k.1)) k.1 k.2));
  by_least = split.by_least;
}
  where
    found : (s : SectionPos) → is_among (all_of p.runs) s ≡ true → is_left p s ≡ false → is_among p.found s ≡ true
    found s h e = elim (cases_Bool (is_among p.found s)) [
      | inl t ↦ t
      | inr f ↦ absurd (true≢false (sym (and_from _ _ h (not_from_false _ f)) ∙ e))
    ]
