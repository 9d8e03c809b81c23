-- Shares one behind the other are the whole.
use Rattle.std.proofs.Common.{◌≡◌, ℕ, zero, suc, ◌+◌, ◌*◌, ◌/◌, ◌%◌, ◌<◌, ◌≤◌, inl, inr, sym, ap, ◌∙◌, add-one, append_assoc, List, ◌++◌, length, take, flat_map, get_or, arith}
use Rattle.std.specs.Prelude.{◌∷◌, codes, decimal, IfOk, IsOk, Ok, Err, Result, Vec, min, []}
use Rattle.std.specs.Fork.{slice_chunk}
use Rattle.std.proofs.lemmas.Bool.{cases_lt}
use Rattle.std.proofs.lemmas.Nat.{div-add-mod', mod_below}
use Rattle.std.proofs.Math.Seq.{take-add}
use Rattle.std.proofs.lemmas.List.{append-nil, take_all, take_more}
use Rattle.std.proofs.lemmas.List.Concat.{flat_map-append}
use native.Mathlib.Nat.{add-mul, one-mul, suc-mul, zero-mul}
use Rattle.fol_model.specs.declared.closings.Closing.{Closing}
use Rattle.fol_model.specs.LineWords.{line, lines_of, part}
use Rattle.fol_model.specs.Report.{report_text}
use Rattle.fol_model.specs.ReportWords.{entry_words, region_words, owner_words, task_words, entity_words, block_row_words}
use Rattle.fol_report.specs.Shares.{foot_text, head_text, text_of}

-- the parts of a report, the lines of its history apart
regroup : (title count lines regions owners tasks entities blocks end : List ℕ) → (title ++ count ++ lines) ++ (regions ++ owners ++ tasks ++ entities ++ blocks ++ end)
    ≡ title ++ (count ++ lines) ++ regions ++ owners ++ tasks ++ entities ++ blocks ++ end
regroup title count lines regions owners tasks entities blocks end = simp append_assoc

whole_text : (c : Closing) → (head_text c ++ lines_of entry_words c.history) ++ foot_text c ≡ report_text c
whole_text c =
    regroup (codes "report 1\n") (line (codes "events" ∷ decimal (length c.history) ∷ [])) (lines_of entry_words c.history)
    (part (codes "regions") region_words c.regions) (part (codes "owners") owner_words c.owners) (part (codes "tasks") task_words c.tasks)
    (part (codes "entities") entity_words c.entities) (part (codes "blocks") block_row_words c.blocks) (codes "end\n")

pub joined_whole : (c : Closing) (all head lines foot : List ℕ) → all ≡ head ++ lines ++ foot → head ≡ head_text c → lines ≡ lines_of entry_words c.history → foot ≡ foot_text c → all ≡ report_text c
joined_whole c all head lines foot is h l f = is ∙ ap (λ t. t ++ lines ++ foot) h ∙ ap (λ t. head_text c ++ t ++ foot) l ∙ ap (λ t. head_text c ++ lines_of entry_words c.history ++ t) f ∙ whole_text c

-- the text of a share that was made, of which it is known that it is this one
pub made_text : {A E : Type 0} (r : Result (Vec ℕ A) E) (text : List ℕ) → IsOk r → IfOk r (λ t. t.items ≡ text) → text_of r ≡ text
made_text (Ok t) text made is = is
made_text (Err e) text made is = cc

-- so many chunks of a size hold all
enough : (count len size : ℕ) → 0 < size → count ≡ len / size + min 1 (len % size) → len ≤ count * size
enough count len size some is =
    let whole : len / size * size + len % size ≡ len = div-add-mod' len size in
    let rest : len % size < size = mod_below len size some in
    elim (cases_lt 0 (len % size)) [
      | inl more ↦ let e : count ≡ len / size + 1 = omega arith in let w = ap (λ (n : ℕ). n * size) e ∙ add-mul (len / size) 1 size in let o = one-mul size in omega arith
      | inr none ↦ let e : count ≡ len / size = omega arith in let w = ap (λ (n : ℕ). n * size) e in omega arith
    ]

module _ {X R : Type 0} (lines : X → List ℕ) (text : R → List ℕ) (size : ℕ) (xs : List X) (rs : List R) (d : R) (each : (n : ℕ) → n < length rs → text (get_or rs n d) ≡ flat_map lines (slice_chunk xs size n)) where
  so_far : (n : ℕ) → n ≤ length rs → flat_map text (take n rs) ≡ flat_map lines (take (n * size) xs)
  so_far zero l = ap (λ (k : ℕ). flat_map lines (take k xs)) (sym (zero-mul size))
  so_far (suc n) l =
      let one : flat_map text (get_or rs n d ∷ []) ≡ flat_map lines (slice_chunk xs size n) = append-nil (text (get_or rs n d)) ∙ each n (omega arith) in
      let more : take (suc n) rs ≡ take n rs ++ get_or rs n d ∷ [] = ap (λ (k : ℕ). take k rs) (sym (add-one n)) ∙ take_more rs n d (omega arith) in
      ap (flat_map text) more ∙ flat_map-append text (take n rs) (get_or rs n d ∷ [])
      ∙ ap (λ t. t ++ flat_map text (get_or rs n d ∷ [])) (so_far n (omega arith))
      ∙ ap (λ t. flat_map lines (take (n * size) xs) ++ t) one
      ∙ sym (flat_map-append lines (take (n * size) xs) (slice_chunk xs size n))
      ∙ ap (flat_map lines) (sym (take-add (n * size) size xs))
      ∙ ap (λ (k : ℕ). flat_map lines (take k xs)) (sym (suc-mul n size))

  -- the texts of the chunks are that of the whole
  pub texts_of_chunks : 0 < size → length rs ≡ length xs / size + min 1 (length xs % size) → flat_map text rs ≡ flat_map lines xs
  texts_of_chunks p e =
      ap (flat_map text) (sym (take_all (length rs) rs (omega arith)))
      ∙ so_far (length rs) (omega arith)
      ∙ ap (flat_map lines) (take_all (length rs * size) xs (enough (length rs) (length xs) size p e))
