use Rattle.std.proofs.Common.{rules, ◌≡◌, ℕ, ◌+◌, ◌<◌, ◌≤◌, refl, sym, ◌∙◌, ap, arith, Bool, true, false, cond, ◌||◌, inl, inr, List, length, get_or, take}
use Rattle.std.specs.Prelude.{nat_eq, pos, slice_index_or, slice_set}
use Rattle.std.specs.List.{list_any}
use Rattle.std.proofs.lemmas.Bool.{cases_eq, eq-eqb, ne_eqb}
use Rattle.std.proofs.lemmas.Grind.{common_steps}
use Rattle.std.proofs.lemmas.List.{get_or-set_same, get_or-set_other}
use Rattle.std.proofs.lemmas.List.Folds.{list_any_more}
use Rattle.fol_model.specs.declared.places.SectionPos.{SectionPos}
use Rattle.fol_pages.specs.Pages.{place_of}
use Rattle.fol_region_tables.proofs.pages.write_on.Goals as goal

abbrev origin : SectionPos
origin = record { x = pos 0; z = pos 0 }

abbrev at_place : ℕ → SectionPos → Bool
at_place k s = nat_eq (place_of s) k

written : (id : ℕ) (first now : List ℕ) (whole : 32 ≤ length now) (sections : List SectionPos) (i : ℕ) → i < length sections → (place : ℕ) → place ≡ place_of (get_or sections i origin) → place < 32
    → ((k : ℕ) → slice_index_or now k 0 ≡ cond (list_any (at_place k) (take i sections)) id (slice_index_or first k 0))
    → (k : ℕ) → slice_index_or (slice_set now place id) k 0 ≡ cond (list_any (at_place k) (take (i + 1) sections)) id (slice_index_or first k 0)
written id first now whole sections i l place is few before k = elim (cases_eq (place_of (get_or sections i origin)) k) [
  | inl e ↦
      let y = eq-eqb (place_of (get_or sections i origin)) k e in
      ap (λ n. slice_index_or (slice_set now place id) n 0) (sym e ∙ sym is) ∙ get_or-set_same now place id 0 (omega arith)
      ∙ sym (ap (λ b. cond b id (slice_index_or first k 0)) (list_any_more (at_place k) sections i origin l ∙ ap (λ b. list_any (at_place k) (take i sections) || b) y ∙ or_true (list_any (at_place k) (take i sections))))
  | inr n ↦
      let y = ne_eqb (place_of (get_or sections i origin)) k n in
      get_or-set_other now place k id 0 (λ m. n (sym is ∙ sym m)) ∙ before k
      ∙ sym (ap (λ b. cond b id (slice_index_or first k 0)) (list_any_more (at_place k) sections i origin l ∙ ap (λ b. list_any (at_place k) (take i sections) || b) y ∙ or_false (list_any (at_place k) (take i sections))))
]
  where
    or_true : (b : Bool) → (b || true) ≡ true
    or_true true = refl
    or_true false = refl

    or_false : (b : Bool) → (b || false) ≡ b
    or_false true = refl
    or_false false = refl

pub loop-s-init : goal.loop-s-init
loop-s-init c = λ k. refl

pub loop-s-preserved : goal.loop-s-preserved
loop-s-preserved c =
    let n : length c.loop-s.page.owners ≡ 32 = search rules in
    written c.args.id c.args.page.now.owners c.loop-s.page.owners (omega (arith, n)) c.args.sections.now c.loop-s.s-index c.loop-s-test.true c.place_of.result c.place_of.ensures.value c.place_of.ensures.few c.loop-s.invariant

pub returns : goal.returns
returns c = λ k. c.loop-s.invariant k ∙ ap (λ xs. cond (list_any (at_place k) xs) c.args.id (slice_index_or c.args.page.now.owners k 0)) (grind (arith, common_steps))
