-- A pool of sections, before and after a search.
use Rattle.std.proofs.Common.{◌≡◌, ℕ, ◌+◌, ◌≤◌, ◌<◌, refl, sym, ◌∙◌, ap, arith, Bool, true, false, not, ◌&&◌, ◌||◌, inl, inr, List, [], ◌∷◌, ◌++◌, length, drop, length-append}
use Rattle.std.specs.Prelude.{IsTrue}
use Rattle.std.specs.List.{All, IsDistinct}
use Rattle.std.specs.List.Sorted.{IsStrictlySortedBy}
use Rattle.std.proofs.lemmas.Bool.{cases_Bool, cases_lt, cases_eq, and_parts, and_from, or_cases, or_parts, true≢false, not-true, not_from_false}
use Rattle.std.proofs.lemmas.Map.Made.{length-le_from_is_member}
use Rattle.std.proofs.Math.Seq.{drop-append_seam}
use Rattle.fol_model.specs.declared.places.SectionPos.{SectionPos}
use Rattle.fol_model.specs.Geometry.{same_section, is_among, is_within}
use Rattle.fol_model.specs.Universe.{section_cmp}
use Rattle.fol_model.proofs.PlaceKeys.{same_section-self}
use Rattle.fol_split.specs.declared.runs.Run.{Run}
use Rattle.fol_split.specs.Parts.{IsChain, IsJoined}
use Rattle.fol_split.specs.Runs.{no_run, Marks, AreRuns, IsClass, run_at, all_of, sections_of, sections_at, first_of, is_left_at, is_place}
use Rattle.fol_split.specs.Pool.{Taken, IsPool, IsApart, TakesClass, is_left}
use Rattle.fol_split.proofs.Places.{less_not_same, same_section_equiv, within-swap}
use Rattle.fol_split.proofs.Members.{among-append, sorted-distinct, distinct-join}
use Rattle.fol_split.proofs.Near.{near-from}
use Rattle.fol_split.proofs.Rows.{first_in}
use Rattle.fol_split.proofs.RunLists.{run_of, of_run, run_before, at_place, of_place, places_rise}

pub pool_none : (m : Marks) (found : List SectionPos) → m.runs ≡ [] → found ≡ [] → IsPool m found
unfolding IsDistinct
pool_none m found e f = rw f (record {
  few = omega (arith, ap (λ runs. length (all_of runs)) e);
  distinct = tt;
  within = λ s h. absurd (true≢false (sym h));
  taken = λ k s l h. absurd (omega (arith, ap length e));
})

-- a pool of which nothing was taken
pub pool_loaded : (m : Marks) (found : List SectionPos) → found ≡ [] → length (all_of m.runs) ≤ 16384 → All IsTrue m.left → length m.left ≡ length m.runs → IsPool m found
unfolding IsDistinct
pool_loaded m found e few left flags = rw e (record {
  few = few;
  distinct = tt;
  within = λ s h. absurd (true≢false (sym h));
  taken = λ k s l h. ap not (sym (left k false (omega (arith, l, flags))));
})

-- what was taken is no more than there is
pub found_few : (m : Marks) (found : List SectionPos) → IsPool m found → length found ≤ 16384
found_few m found pool = omega (arith, pool.few, length-le_from_is_member same_section_equiv found (all_of m.runs) pool.distinct pool.within)

-- whether a section of a run is left
pub left_is : (m : Marks) (found : List SectionPos) (k : ℕ) (s : SectionPos) → IsPool m found → k < length m.runs → is_among (sections_of (run_at m.runs k)) s ≡ true
    → is_left (record { runs = m.runs; found = found }) s ≡ is_left_at m k
left_is m found k s pool l h = rw (of_run m.runs k s l h, pool.taken k s l h) (twice (is_left_at m k))
  where
    twice : (b : Bool) → not (not b) ≡ b
    twice true = refl
    twice false = refl

-- each section is in one run
one_run : (runs : List Run) (sound : AreRuns runs) (i j : ℕ) (s : SectionPos) → i < length runs → j < length runs → is_among (sections_of (run_at runs i)) s ≡ true
    → is_among (sections_of (run_at runs j)) s ≡ true → i ≡ j
one_run runs sound i j s l m p q = elim (cases_eq i j) [
  | inl e ↦ e
  | inr n ↦ elim (cases_lt i j) [
    | inl a ↦ absurd (less_not_same s s (run_before runs i j s s sound.in_order a m p q) (same_section-self s))
    | inr a ↦ absurd (less_not_same s s (run_before runs j i s s sound.in_order (omega (arith, a, n)) l q p) (same_section-self s))
  ]
]

module _ (old new : Marks) (found : List SectionPos) (merge first : ℕ) (pool : IsPool old found) (class : IsClass old new merge first) where
  before : Taken
  before = record { runs = old.runs; found = found }

  more : List SectionPos
  more = sections_at old.runs new.class

  in_class : (s : SectionPos) → is_among more s ≡ true → (k : ℕ) × (is_place new.class k ≡ true) × (is_among (sections_of (run_at old.runs k)) s ≡ true)
  unfolding more
  in_class s h = at_place old.runs new.class s h

  of_class : (k : ℕ) (s : SectionPos) → is_place new.class k ≡ true → is_among (sections_of (run_at old.runs k)) s ≡ true → is_among more s ≡ true
  unfolding more
  of_class k s h e = of_place old.runs new.class k s h e

  rises : IsStrictlySortedBy section_cmp more
  unfolding more
  rises = places_rise old.runs new.class class.sound.in_order class.rising (λ k h. (class.was_left k h).0)

  was_left : (s : SectionPos) → is_among more s ≡ true → is_left before s ≡ true
  unfolding before
  was_left s h = let k = in_class s h in let l = class.was_left k.0 k.1 in left_is old found k.0 s pool l.0 k.2 ∙ l.1

  not_found : (s : SectionPos) → is_among more s ≡ true → is_among found s ≡ false
  unfolding before
  not_found s h = not-true _ (and_parts (is_among (all_of old.runs) s) (not (is_among found s)) (was_left s h)).1

  in_all : (s : SectionPos) → is_among more s ≡ true → is_among (all_of old.runs) s ≡ true
  unfolding before
  in_all s h = (and_parts (is_among (all_of old.runs) s) (not (is_among found s)) (was_left s h)).0

  distinct : IsDistinct same_section (found ++ more)
  distinct = distinct-join found more pool.distinct (sorted-distinct more rises) (λ t p q. true≢false (sym p ∙ not_found t q))

  within : (s : SectionPos) → is_among (found ++ more) s ≡ true → is_among (all_of old.runs) s ≡ true
  within s h = elim (or_cases (is_among found s) (is_among more s) (sym (among-append found more s) ∙ h)) [
    | inl e ↦ pool.within s e
    | inr e ↦ in_all s e
  ]

  all_few : length (found ++ more) ≤ 16384
  all_few = omega (arith, pool.few, length-le_from_is_member same_section_equiv (found ++ more) (all_of old.runs) distinct within)

  pub class_room : length found + length (sections_at new.runs new.class) ≤ 16384
  unfolding more
  class_room = rw class.runs (omega (arith, all_few, length-append found more))

  -- of a run of the class each section was taken
  more-run : (k : ℕ) (s : SectionPos) → k < length old.runs → is_among (sections_of (run_at old.runs k)) s ≡ true → is_among more s ≡ is_place new.class k
  more-run k s l h = elim (cases_Bool (is_place new.class k)) [
    | inl e ↦ of_class k s e h ∙ sym e
    | inr e ↦ elim (cases_Bool (is_among more s)) [
      | inl f ↦
          let j = in_class s f in
          let same = one_run old.runs class.sound j.0 k s (class.was_left j.0 j.1).0 l j.2 h in
          absurd (true≢false (sym j.1 ∙ ap (is_place new.class) same ∙ e))
      | inr f ↦ f ∙ sym e
    ]
  ]

  taken : (k : ℕ) (s : SectionPos) → k < length old.runs → is_among (sections_of (run_at old.runs k)) s ≡ true → is_among (found ++ more) s ≡ not (is_left_at new k)
  taken k s l h =
      among-append found more s ∙ ap (λ b. b || is_among more s) (pool.taken k s l h) ∙ ap (λ b. not (is_left_at old k) || b) (more-run k s l h)
      ∙ either (is_left_at old k) (is_place new.class k) ∙ sym (ap not (class.left k))
    where
      either : (free placed : Bool) → (not free || placed) ≡ not (free && not placed)
      either true true = refl
      either true false = refl
      either false placed = refl

  pub pool_after : IsPool new (found ++ sections_at new.runs new.class)
  unfolding more
  pool_after = rw class.runs (record {
    few = pool.few;
    distinct = distinct;
    within = within;
    taken = taken;
  })

  -- ---- what is joined
  module _ (apart : IsApart (record { runs = old.runs; found = found }) merge) where
    -- from what was taken each step leads to what was taken
    next_taken : (a t : SectionPos) → is_among more a ≡ true → is_among (all_of old.runs) t ≡ true → is_within a merge t ≡ true → is_among more t ≡ true
    unfolding before
    next_taken a t h i w =
        let j = in_class a h in
        let k = run_of old.runs t i in
        let solid = class.sound.solid in
        let p = solid j.0 no_run (class.was_left j.0 j.1).0 in
        let q = solid k.0 no_run k.1 in
        elim (cases_Bool (is_place new.class k.0)) [
          | inl e ↦ of_class k.0 t e k.2
          | inr e ↦ elim (cases_Bool (is_left_at old k.0)) [
            | inl f ↦
                let left : is_left_at new k.0 ≡ true = class.left k.0 ∙ and_from _ _ f (not_from_false _ e) in
                absurd (true≢false (sym (near-from merge (run_at old.runs j.0) (run_at old.runs k.0) p q a t j.2 k.2 w) ∙ class.closed j.0 k.0 j.1 left))
            | inr f ↦
                let gone : is_among found t ≡ true = pool.taken k.0 t k.1 k.2 ∙ ap not f in
                absurd (true≢false (sym w ∙ within-swap a merge t ∙ apart t a gone (was_left a h)))
          ]
        ]

    chain_taken : (a : SectionPos) (ms : List SectionPos) (b : SectionPos) → is_among more a ≡ true → IsChain (all_of old.runs) merge a ms b → is_among more b ≡ true
    chain_taken a [] b h e = ap (is_among more) (sym e) ∙ h
    chain_taken a (m ∷ ms) b h chain = chain_taken m ms b (next_taken a m h chain.0 chain.1) chain.2

    joined : (s : SectionPos) → is_among more s ≡ true → IsJoined (all_of old.runs) merge (first_of (run_at old.runs first)) s
    joined s h = let k = in_class s h in class.joined k.0 s k.1 k.2

    first_taken : is_among more (first_of (run_at old.runs first)) ≡ true
    first_taken =
        let l = class.was_left first class.started in
        of_class first (first_of (run_at old.runs first)) class.started (first_in (run_at old.runs first) (class.sound.solid first no_run l.0))

    takes_more : TakesClass before (record { runs = old.runs; found = found ++ more }) merge (first_of (run_at old.runs first)) more
    unfolding before
    takes_more = record {
      runs = refl;
      found = refl;
      in_order = rises;
      was_left = was_left;
      class = λ s. ((λ h. (in_all s h, joined s h)), (λ h. chain_taken (first_of (run_at old.runs first)) h.1.0 s first_taken h.1.1));
    }

    pub takes_class : TakesClass (record { runs = old.runs; found = found }) (record { runs = new.runs; found = found ++ sections_at new.runs new.class }) merge (first_of (run_at old.runs first)) (drop (length found) (found ++ sections_at new.runs new.class))
    unfolding before more
    takes_class = rw (drop-append_seam found (sections_at new.runs new.class), class.runs) takes_more

    apart_more : IsApart (record { runs = old.runs; found = found ++ more }) merge
    apart_more a b h left =
        let l = and_parts (is_among (all_of old.runs) b) (not (is_among (found ++ more) b)) left in
        let out = or_parts (is_among found b) (is_among more b) (sym (among-append found more b) ∙ not-true _ l.1) in
        elim (or_cases (is_among found a) (is_among more a) (sym (among-append found more a) ∙ h)) [
          | inl e ↦ apart a b e (and_from _ _ l.0 (not_from_false _ out.0))
          | inr e ↦ elim (cases_Bool (is_within a merge b)) [
            | inl w ↦ absurd (true≢false (sym (next_taken a b e l.0 w) ∙ out.1))
            | inr w ↦ w
          ]
        ]

    pub class_apart : IsApart (record { runs = new.runs; found = found ++ sections_at new.runs new.class }) merge
    unfolding more
    class_apart = rw class.runs apart_more
