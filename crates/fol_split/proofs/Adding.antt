-- Runs with one run more.
use Rattle.std.proofs.Common.{◌≡◌, ℕ, suc, ◌+◌, ◌<◌, ◌≤◌, refl, sym, ◌∙◌, ap, arith, true, false, Bool, inl, inr, List, [], ◌∷◌, ◌++◌, length, length-append}
use Rattle.std.specs.Prelude.{pos, ◌-ℤ◌, ◌<ℤ◌, IsTrue}
use Rattle.std.specs.List.{All, IsDistinct}
use Rattle.std.specs.List.Sorted.{IsStrictlySortedBy}
use Rattle.std.specs.declared.cmp.Ordering.TheVariants.{Less}
use borrow.Author.Differences.{ints}
use Rattle.std.proofs.lemmas.Bool.{true≢false}
use Rattle.std.proofs.lemmas.List.{append-nil}
use Rattle.std.proofs.lemmas.List.Concat.{flat_map-append}
use Rattle.std.proofs.lemmas.List.Elements.{All-push, All-append}
use Rattle.fol_model.specs.declared.places.SectionPos.{SectionPos}
use Rattle.fol_model.specs.Geometry.{is_section, is_among}
use Rattle.fol_model.specs.Universe.{section_cmp}
use Rattle.fol_split.specs.declared.runs.Run.{Run}
use Rattle.fol_split.specs.Runs.{no_run, sections_of, first_of, all_of, run_at, AreRuns, Marks, IsMarked, ends_before}
use Rattle.fol_split.proofs.Places.{less_row, less_in_row, less-gives}
use Rattle.fol_split.proofs.Members.{at_index, sorted-join, sorted-across}
use Rattle.fol_split.proofs.Rows.{first_in, in_run-gives, in_run-from, run-rises}
use Rattle.fol_split.proofs.RunLists.{run_of, of_run, ends_parted, ends-gives, ends-row, ends-in_row}

-- ---- whether a run is behind the others
pub no-runs : (runs : List Run) → length runs ≡ 0 → runs ≡ []
no-runs [] e = refl
no-runs (r ∷ runs) e = absurd (omega arith)

module _ (runs : List Run) (run : Run) (sound : AreRuns runs) (solid : run.from <ℤ run.to) where
  less_from_end : (r : Run) (s t : SectionPos) → r.from <ℤ r.to → ends_before run.z run.from r ≡ true → is_among (sections_of r) s ≡ true → is_among (sections_of run) t ≡ true → section_cmp s t ≡ Less
  less_from_end r s t firm ends p q =
      let a = in_run-gives r firm s p in
      let b = in_run-gives run solid t q in
      elim (ends-gives run.z run.from r ends) [
        | inl e ↦ less_row s t (omega (arith, ints, a.0, b.0, e))
        | inr e ↦ less_in_row s t (a.0 ∙ e.0 ∙ sym b.0) (omega (arith, ints, a.2, b.1, e.1))
      ]

  pub behind-none : runs ≡ [] → IsStrictlySortedBy section_cmp (all_of runs ++ sections_of run)
  behind-none e = rw e (run-rises run)

  module _ (k : ℕ) (last : k + 1 ≡ length runs) where
    pub behind-gives : ends_before run.z run.from (run_at runs k) ≡ true → IsStrictlySortedBy section_cmp (all_of runs ++ sections_of run)
    behind-gives ends = sorted-join (all_of runs) (sections_of run) sound.in_order (run-rises run) (λ s t p q.
        let j = run_of runs s p in
        less_from_end (run_at runs j.0) s t (sound.solid j.0 no_run j.1) (ends_parted runs sound run.z run.from j.0 k (omega (arith, j.1)) (omega arith) ends) j.2 q)

    pub behind-from : IsStrictlySortedBy section_cmp (all_of runs ++ sections_of run) → ends_before run.z run.from (run_at runs k) ≡ true
    behind-from order =
        let r = run_at runs k in
        let firm = sound.solid k no_run (omega arith) in
        let end : SectionPos = record { x = r.to -ℤ pos 1; z = r.z } in
        let inside = in_run-from r firm end refl (omega (arith, ints, firm)) (omega (arith, ints)) in
        let less = sorted-across (all_of runs) (sections_of run) end (first_of run) order (of_run runs k end (omega arith) inside) (first_in run solid) in
        elim (less-gives end (first_of run) less) [
          | inl e ↦ ends-row run.z run.from r e
          | inr e ↦ ends-in_row run.z run.from r e.0 (omega (arith, ints, e.1))
        ]

module _ (runs : List Run) (run : Run) where
  pub all-more : all_of (runs ++ run ∷ []) ≡ all_of runs ++ sections_of run
  all-more = flat_map-append sections_of runs (run ∷ []) ∙ ap (λ xs. all_of runs ++ xs) (append-nil (sections_of run))

  module _ (sound : AreRuns runs) (few : length (all_of runs ++ sections_of run) ≤ 16384) (solid : run.from <ℤ run.to) (order : IsStrictlySortedBy section_cmp (all_of runs ++ sections_of run))
      (range : All (λ (s : SectionPos). IsTrue (is_section s)) (sections_of run)) where
    pub sound_more : AreRuns (runs ++ run ∷ [])
    sound_more = record {
      few = omega (arith, ap length all-more, few);
      solid = All-push (λ (r : Run). r.from <ℤ r.to) runs run sound.solid solid;
      in_order = rw all-more order;
      in_range = rw all-more (All-append (λ (s : SectionPos). IsTrue (is_section s)) (all_of runs) (sections_of run) sound.in_range range);
    }

-- at least one section in each run
runs_at_most : (runs : List Run) → All (λ r. r.from <ℤ r.to) runs → ((r : Run) → r.from <ℤ r.to → 0 < length (sections_of r)) → length runs ≤ length (all_of runs)
runs_at_most [] all some = omega arith
runs_at_most (r ∷ runs) all some = omega (arith, length-append (sections_of r) (all_of runs), some r (all 0 r (omega arith)), runs_at_most runs (λ k d l. all (suc k) d (omega arith)) some)

pub run_some : (r : Run) → r.from <ℤ r.to → 0 < length (sections_of r)
run_some r h = let k = at_index (sections_of r) (first_of r) (first_in r h) in omega (arith, k.1)

pub runs_few : (runs : List Run) → AreRuns runs → length runs ≤ length (all_of runs)
runs_few runs sound = runs_at_most runs sound.solid run_some

pub few_runs : (runs : List Run) → AreRuns runs → length runs ≤ 16384
few_runs runs sound = omega (arith, sound.few, runs_few runs sound)

-- ---- the marks of runs with one run more
module _ (m : Marks) (run : Run) (marked : IsMarked m) (few : length (all_of m.runs ++ sections_of run) ≤ 16384) (solid : run.from <ℤ run.to)
    (order : IsStrictlySortedBy section_cmp (all_of m.runs ++ sections_of run)) (range : All (λ (s : SectionPos). IsTrue (is_section s)) (sections_of run)) where
  pub marked_more : All IsTrue m.left → IsMarked (record { runs = m.runs ++ run ∷ []; left = m.left ++ true ∷ []; class = m.class })
  marked_more left = record {
    sound = sound_more m.runs run marked.sound few solid order range;
    flags = omega (arith, marked.flags, length-append m.left (true ∷ []), length-append m.runs (run ∷ []));
    distinct = marked.distinct;
    gone = λ k h. let g = marked.gone k h in absurd (true≢false (sym (left k false (omega (arith, g.0, marked.flags))) ∙ g.1));
  }

  -- there is room for it
  pub room_more : length m.runs < 16384
  room_more = omega (arith, few, length-append (all_of m.runs) (sections_of run), runs_few m.runs marked.sound, run_some run solid)

pub marked_none : (runs : List Run) (left : List Bool) (class : List ℕ) → runs ≡ [] → left ≡ [] → class ≡ [] → IsMarked (record { runs = runs; left = left; class = class })
unfolding IsDistinct IsStrictlySortedBy
marked_none runs left class e f g = rw (e, f, g) (record {
  sound = record { few = omega arith; solid = λ k d l. absurd (omega arith); in_order = tt; in_range = λ k d l. absurd (omega arith) };
  flags = refl;
  distinct = tt;
  gone = λ k h. absurd (true≢false (sym h));
})
