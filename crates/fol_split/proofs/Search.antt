-- The search for the runs that are joined with one: what holds while it goes on, and what was taken when it ends.
use Rattle.std.proofs.Common.{◌≡◌, ℕ, zero, suc, ◌+◌, ◌≤◌, ◌<◌, refl, sym, ◌∙◌, ap, arith, Bool, true, false, not, ◌&&◌, ◌||◌, ◌⊎◌, inl, inr, List, [], ◌∷◌, ◌++◌, length, get_or, length-append}
use Rattle.std.specs.Prelude.{nat_eq, ◌<ℤ◌}
use Rattle.std.proofs.lemmas.Bool.{cases_lt, and_parts, and_from, or_cases, or_left, true≢false, not-true}
use Rattle.fol_model.specs.declared.places.SectionPos.{SectionPos}
use Rattle.fol_model.specs.Geometry.{is_among}
use Rattle.fol_split.specs.Parts.{IsJoined}
use Rattle.fol_split.specs.Runs.{no_run, Marks, IsMarked, TakesRuns, SortsClass, IsClass, is_left_at, is_place, is_near, run_at, sections_of, first_of, all_of}
use Rattle.fol_split.proofs.Near.{from_first, joined_near}
use Rattle.fol_split.proofs.RunLists.{of_run, same_place, place_self, place_at}
use Rattle.fol_split.proofs.Taking.{left_within}

pub record IsSearch (old now : Marks) (merge first next : ℕ) : Type 0 where
  pub runs : now.runs ≡ old.runs
  pub left : (k : ℕ) → is_left_at now k ≡ (is_left_at old k && not (is_place now.class k))
  pub was_left : (k : ℕ) → is_place now.class k ≡ true → is_left_at old k ≡ true
  pub started : is_place now.class first ≡ true
  pub joined : (k : ℕ) (s : SectionPos) → is_place now.class k ≡ true → is_among (sections_of (run_at old.runs k)) s ≡ true → IsJoined (all_of old.runs) merge (first_of (run_at old.runs first)) s
  pub high : next ≤ length now.class
  pub closed : (i j : ℕ) → i < next → is_left_at now j ≡ true → is_near merge (run_at old.runs (get_or now.class i 0)) (run_at old.runs j) ≡ false

-- the place that is one of these stands at some index
place_index : (ks : List ℕ) (k : ℕ) → is_place ks k ≡ true → (i : ℕ) × (i < length ks) × (get_or ks i 0 ≡ k)
place_index [] k h = absurd (true≢false (sym h))
place_index (j ∷ ks) k h = elim (or_cases (nat_eq k j) (is_place ks k) h) [
  | inl e ↦ (0, omega arith, sym (same_place k j e))
  | inr e ↦ let i = place_index ks k e in (suc i.0, omega (arith, i.1), i.2)
]

front : (xs ys : List ℕ) (i : ℕ) → i < length xs → get_or (xs ++ ys) i 0 ≡ get_or xs i 0
front [] ys i l = absurd (omega arith)
front (x ∷ xs) ys zero l = refl
front (x ∷ xs) ys (suc i) l = front xs ys i (omega arith)

module _ (old : Marks) (marked : IsMarked old) (merge : ℕ) (low : 1 ≤ merge) (first : ℕ) where
  solid : (k : ℕ) → is_left_at old k ≡ true → (run_at old.runs k).from <ℤ (run_at old.runs k).to
  solid k h = marked.sound.solid k no_run (omega (arith, left_within old.left k h, marked.flags))

  in_all : (k : ℕ) → is_left_at old k ≡ true → (s : SectionPos) → is_among (sections_of (run_at old.runs k)) s ≡ true → is_among (all_of old.runs) s ≡ true
  in_all k h s = of_run old.runs k s (omega (arith, left_within old.left k h, marked.flags))

  pub search_start : (now : Marks) → is_left_at old first ≡ true → TakesRuns (record { runs = old.runs; left = old.left; class = [] }) now (nat_eq first) → IsSearch old now merge first 0
  search_start now is takes =
      let place : (k : ℕ) → is_place now.class k ≡ true → k ≡ first =
      λ k h. let p = and_parts (is_left_at old k) (nat_eq first k) (sym (takes.members k) ∙ h) in sym (same_place first k p.1) in
      record {
        runs = takes.runs;
        left = λ k. takes.left k ∙ once (is_left_at old k) (nat_eq first k) ∙ ap (λ b. is_left_at old k && not b) (sym (takes.members k));
        was_left = λ k h. (and_parts (is_left_at old k) (nat_eq first k) (sym (takes.members k) ∙ h)).0;
        started = takes.members first ∙ and_from _ _ is (place_self first);
        joined = λ k s h i.
            let e = place k h in
            from_first (all_of old.runs) merge low (run_at old.runs first) (solid first is) (in_all first is) s (ap (λ n. is_among (sections_of (run_at old.runs n)) s) (sym e) ∙ i);
        high = omega arith;
        closed = λ i j l h. absurd (omega arith);
      }
    where
      once : (free same : Bool) → (free && not same) ≡ (free && not (free && same))
      once true same = refl
      once false same = refl

  pub search_step : (now new : Marks) (next : ℕ) → IsSearch old now merge first next → next < length now.class
      → TakesRuns now new (λ j. is_near merge (run_at now.runs (get_or now.class next 0)) (run_at now.runs j)) → IsSearch old new merge first (next + 1)
  search_step now new next search l takes = record {
    runs = takes.runs ∙ search.runs;
    left = λ k. takes.left k ∙ ap (λ b. b && not (near k)) (search.left k) ∙ both (is_left_at old k) (is_place now.class k) (near k)
        ∙ ap (λ b. is_left_at old k && not (is_place now.class k || (b && near k))) (sym (search.left k)) ∙ ap (λ b. is_left_at old k && not b) (sym (takes.members k));
    was_left = λ k h. elim (cases k h) [
      | inl e ↦ search.was_left k e
      | inr e ↦ (before k e).0
    ];
    started = takes.members first ∙ or_left _ _ search.started;
    joined = λ k s h i. elim (cases k h) [
      | inl e ↦ search.joined k s e i
      | inr e ↦
          let free = (before k e).0 in
          let was = search.was_left at here in
          joined_near (all_of old.runs) merge low (run_at old.runs k) (solid k free) (in_all k free) (run_at old.runs at) (solid at was)
          (ap (λ rs. is_near merge (run_at rs at) (run_at rs k)) (sym search.runs) ∙ (before k e).1) (first_of (run_at old.runs first)) (λ t h. search.joined at t here h) s i
    ];
    high = omega (arith, ap length takes.class.1, length-append now.class takes.class.0);
    closed = λ i j m h.
        let p = and_parts (is_left_at now j) (not (near j)) (sym (takes.left j) ∙ h) in
        elim (cases_lt i next) [
          | inl lower ↦
              ap (λ n. is_near merge (run_at old.runs n) (run_at old.runs j)) (ap (λ ks. get_or ks i 0) takes.class.1 ∙ front now.class takes.class.0 i (omega (arith, lower, l))) ∙ search.closed i j lower p.0
          | inr upper ↦
              let e : i ≡ next = omega arith in
              ap (λ n. is_near merge (run_at old.runs n) (run_at old.runs j)) (ap (λ n. get_or new.class n 0) e ∙ ap (λ ks. get_or ks next 0) takes.class.1 ∙ front now.class takes.class.0 next l)
              ∙ ap (λ rs. is_near merge (run_at rs at) (run_at rs j)) (sym search.runs) ∙ not-true _ p.1
        ];
  }
    where
      at : ℕ
      at = get_or now.class next 0

      near : ℕ → Bool
      near j = is_near merge (run_at now.runs at) (run_at now.runs j)

      cases : (k : ℕ) → is_place new.class k ≡ true → (is_place now.class k ≡ true) ⊎ ((is_left_at now k && near k) ≡ true)
      cases k h = or_cases (is_place now.class k) (is_left_at now k && near k) (sym (takes.members k) ∙ h)

      before : (k : ℕ) → (is_left_at now k && near k) ≡ true → (is_left_at old k ≡ true) × (near k ≡ true)
      before k h =
          let p = and_parts (is_left_at now k) (near k) h in
          ((and_parts (is_left_at old k) (not (is_place now.class k)) (sym (search.left k) ∙ p.0)).0, p.1)

      here : is_place now.class at ≡ true
      here = place_at now.class next 0 l

      both : (free placed near : Bool) → ((free && not placed) && not near) ≡ (free && not (placed || ((free && not placed) && near)))
      both true true near = refl
      both true false near = refl
      both false placed near = refl

  pub search_class : (now new : Marks) (next : ℕ) → IsSearch old now merge first next → length now.class ≤ next → SortsClass now new → IsClass old new merge first
  search_class now new next search done sorts = record {
    runs = sorts.runs ∙ search.runs;
    sound = marked.sound;
    left = λ k. ap (λ flags. get_or flags k false) sorts.left ∙ search.left k ∙ ap (λ b. is_left_at old k && not b) (sym (sorts.members k));
    was_left = λ k h. let l = search.was_left k (sym (sorts.members k) ∙ h) in (omega (arith, left_within old.left k l, marked.flags), l);
    rising = sorts.rising;
    started = sorts.members first ∙ search.started;
    joined = λ k s h i. search.joined k s (sym (sorts.members k) ∙ h) i;
    closed = λ k j h l.
        let i = place_index now.class k (sym (sorts.members k) ∙ h) in
        ap (λ n. is_near merge (run_at old.runs n) (run_at old.runs j)) (sym i.2) ∙ search.closed i.0 j (omega (arith, i.1, done)) (ap (λ flags. get_or flags j false) (sym sorts.left) ∙ l);
  }
