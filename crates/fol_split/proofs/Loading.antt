-- The runs of the sections of a list, from the front on.
use Rattle.std.proofs.Common.{◌≡◌, ℕ, ◌+◌, ◌-◌, ◌≤◌, ◌<◌, sym, ◌∙◌, ap, arith, List, ◌∷◌, ◌++◌, length, get_or, take, drop, length-append}
use Rattle.std.specs.List.Sorted.{IsStrictlySortedBy}
use Rattle.std.proofs.Math.Seq.{take-add}
use Rattle.std.proofs.lemmas.List.{take-append-drop, take_rest, drop_more, length-take}
use Rattle.fol_model.specs.declared.places.SectionPos.{SectionPos}
use Rattle.fol_model.specs.Universe.{section_cmp}
use Rattle.fol_split.specs.declared.runs.Run.{Run}
use Rattle.fol_split.specs.Runs.{sections_of}
use Rattle.fol_split.proofs.Members.{sorted-front}

-- a run of sections that follow the first ones of the list
module _ (order : List SectionPos) (done : ℕ) (d : SectionPos) (run : Run) (l : done < length order)
    (front : take (length (sections_of run)) (get_or order done d ∷ take (length order - (done + 1)) (drop (done + 1) order)) ≡ sections_of run) where
  run-next : take (length (sections_of run)) (drop done order) ≡ sections_of run
  run-next = ap (take (length (sections_of run))) (drop_more order done d l ∙ ap (λ xs. get_or order done d ∷ xs) (sym (take_rest order (done + 1)))) ∙ front

  pub front_more : take done order ++ sections_of run ≡ take (done + length (sections_of run)) order
  front_more = ap (λ xs. take done order ++ xs) (sym run-next) ∙ sym (take-add done (length (sections_of run)) order)

  pub front_fits : done + length (sections_of run) ≤ length order
  front_fits = omega (arith, ap length front_more, length-append (take done order) (sections_of run), length-take done order, length-take (done + length (sections_of run)) order)

  pub front_in_order : IsStrictlySortedBy section_cmp order → IsStrictlySortedBy section_cmp (take done order ++ sections_of run)
  front_in_order sorted =
      let n = done + length (sections_of run) in
      let whole : IsStrictlySortedBy section_cmp (take n order ++ drop n order) = rw (take-append-drop n order) sorted in
      rw front_more (sorted-front (take n order) (drop n order) whole)
