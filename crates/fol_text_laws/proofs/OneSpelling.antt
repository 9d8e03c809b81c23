-- A line with no cause by its words is the spelling of its row, and the spelling of a row has none and is that row.
use Rattle.std.proofs.Common.{◌≡◌, ℕ, ◌+◌, inl, inr, ℤ, Bool, true, false, cond, List, [], ◌∷◌, map, Option, Some, None, refl, sym, ap, subst, ◌∙◌}
use Rattle.std.specs.Prelude.{is_none}
use Rattle.std.specs.List.{list_any, count_by, find}
use Rattle.std.specs.Str.{bytes_eq}
use Rattle.std.specs.Cmp.Lexicographic.{same_text}
use Rattle.std.proofs.lemmas.Bool.{cases_Bool, or_parts, or_from}
use Rattle.std.proofs.lemmas.List.Sums.{sum_by-cons}
use Rattle.fol_model.specs.declared.words.Keyword.{Keyword}
use Rattle.fol_model.specs.declared.words.Keyword.TheVariants as keys
use Rattle.fol_model.specs.declared.words.Field.{Field}
use Rattle.fol_model.specs.declared.words.Field.TheVariants as fields
use Rattle.fol_model.specs.declared.words.Cell.{Cell}
use Rattle.fol_model.specs.declared.words.Cell.TheVariants as cells
use Rattle.fol_model.specs.declared.words.Reading.{Reading}
use Rattle.fol_model.specs.declared.words.Reading.TheVariants as readings
use Rattle.fol_model.specs.TextNumbers.{reading, spelled}
use Rattle.fol_model.specs.TextForms.{key_of, all_keys, key_spelled, cell_spelled, action_form}
use Rattle.fol_text_laws.specs.FieldLimits.{InLimits}
use Rattle.fol_model.specs.TextCauses.{placed, fills, form_of, or_nothing, after_action, is_no_action, is_nested, is_no_number, is_outside, is_post, key_or, is_no_reading, is_outside_reading, number_or, cell_of}
use Rattle.fol_model.specs.TextRows.{Fits, is_post_cell}
use Rattle.fol_text_laws.proofs.FieldLimits.{after_near}
use Rattle.fol_text_laws.proofs.Numerals.{reading_is, reading_again}

-- ---- keys

-- a word that is found among keys by its spelling is the spelling of what is found
pub find_spelled : {K : Type 0} (spelt : K → List ℕ) (w : List ℕ) (ks : List K) (key : K) → find (λ k. bytes_eq w (spelt k)) ks ≡ Some key → w ≡ spelt key
find_spelled spelt w [] key e = absurd cc
find_spelled {K} spelt w (k ∷ ks) key e = elim (cases_Bool (bytes_eq w (spelt k))) [
  | inl h ↦ let s : Some k ≡ Some key = rw h at e in let t : k ≡ key = cc in same_text w (spelt k) (sym h) ∙ ap spelt t
  | inr h ↦ find_spelled spelt w ks key (rw h at e)
]

pub key_is : (w : List ℕ) (key : Keyword) → key_of w ≡ Some key → w ≡ key_spelled key
unfolding key_of
key_is w key e = find_spelled key_spelled w all_keys key e

pub key_again : (key : Keyword) → key_of (key_spelled key) ≡ Some key
unfolding key_of
key_again keys.World = refl
key_again keys.Grid = refl
key_again keys.Block = refl
key_again keys.Entity = refl
key_again keys.Load = refl
key_again keys.Unload = refl
key_again keys.Post = refl
key_again keys.Every = refl
key_again keys.Run = refl
key_again keys.End = refl
key_again keys.Set = refl
key_again keys.Copy = refl
key_again keys.Send = refl
key_again keys.Arrive = refl

-- ---- cells

number_found : (r : Reading) → is_no_reading r ≡ false → is_outside_reading r ≡ false → r ≡ readings.Is (number_or r)
number_found readings.NoNumber a b = absurd cc
number_found readings.Outside a b = absurd cc
number_found (readings.Is z) a b = refl

pub key_found : (o : Option Keyword) → is_none (form_of action_form o) ≡ false → o ≡ Some (key_or o)
key_found None e = absurd cc
key_found (Some key) e = refl

pub cells_spelled : (ps : List Field) (ws : List (List ℕ)) → InLimits ps → fills ps ws ≡ true → list_any is_no_action (placed ps ws) ≡ false → list_any is_no_number (placed ps ws) ≡ false → list_any is_outside (placed ps ws) ≡ false
    → map cell_spelled (map cell_of (placed ps ws)) ≡ ws
cells_spelled [] [] near f a n o = refl
cells_spelled [] (w ∷ ws) near f a n o = absurd cc
cells_spelled (p ∷ ps) [] near f a n o = absurd cc
cells_spelled (fields.Number low high ∷ ps) (w ∷ ws) near f a n o =
    let n2 = or_parts _ _ n in
    let o2 = or_parts _ _ o in
    let i = reading_is low high (number_or (reading low high w)) w near.0.0 near.0.2 (number_found (reading low high w) n2.0 o2.0) in
    let rest = cells_spelled ps ws near.1 f a n2.1 o2.1 in
    ap (λ (x : List ℕ). x ∷ map cell_spelled (map cell_of (placed ps ws))) i.2 ∙ ap (λ (l : List (List ℕ)). w ∷ l) rest
cells_spelled (fields.Action ∷ ps) (w ∷ ws) near f a n o =
    let a2 = or_parts _ _ a in
    let k = key_found (key_of w) a2.0 in
    let s = key_is w (key_or (key_of w)) k in
    let rest = cells_spelled (after_action w) ws (after_near (key_of w)) f a2.1 n o in
    ap (λ (x : List ℕ). x ∷ map cell_spelled (map cell_of (placed (after_action w) ws))) (sym s) ∙ ap (λ (l : List (List ℕ)). w ∷ l) rest

pub cells_fit : (ps : List Field) (ws : List (List ℕ)) → InLimits ps → fills ps ws ≡ true → list_any is_no_action (placed ps ws) ≡ false → list_any is_no_number (placed ps ws) ≡ false → list_any is_outside (placed ps ws) ≡ false
    → Fits ps (map cell_of (placed ps ws))
cells_fit [] [] near f a n o = tt
cells_fit [] (w ∷ ws) near f a n o = absurd cc
cells_fit (p ∷ ps) [] near f a n o = absurd cc
cells_fit (fields.Number low high ∷ ps) (w ∷ ws) near f a n o =
    let n2 = or_parts _ _ n in
    let o2 = or_parts _ _ o in
    let i = reading_is low high (number_or (reading low high w)) w near.0.0 near.0.2 (number_found (reading low high w) n2.0 o2.0) in
    (i.0, i.1, cells_fit ps ws near.1 f a n2.1 o2.1)
cells_fit (fields.Action ∷ ps) (w ∷ ws) near f a n o =
    let a2 = or_parts _ _ a in
    let k = key_found (key_of w) a2.0 in
    let rest = cells_fit (after_action w) ws (after_near (key_of w)) f a2.1 n o in
    (subst (λ (q : Option Keyword). is_none (form_of action_form q) ≡ false) k a2.0, subst (λ (q : Option Keyword). Fits (or_nothing (form_of action_form q)) (map cell_of (placed (after_action w) ws))) k rest)

-- ---- the spelling of a row is read as that row

-- the words us, in the places ps, are these cells and have no fault
pub record Reads (ps : List Field) (us : List (List ℕ)) (cs : List Cell) : Type 0 where
  pub fill : fills ps us ≡ true
  pub acts : list_any is_no_action (placed ps us) ≡ false
  pub numbers : list_any is_no_number (placed ps us) ≡ false
  pub ranges : list_any is_outside (placed ps us) ≡ false
  pub nested : count_by is_nested (placed ps us) ≡ count_by is_post_cell cs
  pub cells : map cell_of (placed ps us) ≡ cs

pub same_count : (p : Field) (w : List ℕ) (rest : List (Field × List ℕ)) (c : Cell) (cs : List Cell) → is_nested (p, w) ≡ is_post_cell c → count_by is_nested rest ≡ count_by is_post_cell cs → count_by is_nested ((p, w) ∷ rest) ≡ count_by is_post_cell (c ∷ cs)
same_count p w rest c cs e h =
    sum_by-cons (λ x. cond (is_nested x) 1 0) (p, w) rest ∙ ap (λ (b : Bool). cond b 1 0 + count_by is_nested rest) e ∙ ap (λ (n : ℕ). cond (is_post_cell c) 1 0 + n) h ∙ sym (sum_by-cons (λ x. cond (is_post_cell x) 1 0) c cs)

after_is : (w : List ℕ) (key : Keyword) → key_of w ≡ Some key → after_action w ≡ or_nothing (action_form key)
after_is w key e = ap (λ (o : Option Keyword). or_nothing (form_of action_form o)) e

reads_number : (low high z : ℤ) (ps : List Field) (w : List ℕ) (us : List (List ℕ)) (cs : List Cell) → reading low high w ≡ readings.Is z → Reads ps us cs → Reads (fields.Number low high ∷ ps) (w ∷ us) (cells.Number z ∷ cs)
reads_number low high z ps w us cs e r = record {
  fill = r.fill;
  acts = r.acts;
  numbers = or_from _ _ (ap is_no_reading e) r.numbers;
  ranges = or_from _ _ (ap is_outside_reading e) r.ranges;
  nested = same_count (fields.Number low high) w (placed ps us) (cells.Number z) cs refl r.nested;
  cells = ap (λ (q : Reading). cells.Number (number_or q) ∷ map cell_of (placed ps us)) e ∙ ap (λ (l : List Cell). cells.Number z ∷ l) r.cells;
}

reads_action : (key : Keyword) (ps : List Field) (w : List ℕ) (us : List (List ℕ)) (cs : List Cell) → key_of w ≡ Some key → is_none (action_form key) ≡ false → Reads (after_action w) us cs → Reads (fields.Action ∷ ps) (w ∷ us) (cells.Word key ∷ cs)
reads_action key ps w us cs e f r = record {
  fill = r.fill;
  acts = or_from _ _ (ap (λ (o : Option Keyword). is_none (form_of action_form o)) e ∙ f) r.acts;
  numbers = r.numbers;
  ranges = r.ranges;
  nested = same_count fields.Action w (placed (after_action w) us) (cells.Word key) cs (ap is_post e) r.nested;
  cells = ap (λ (o : Option Keyword). cells.Word (key_or o) ∷ map cell_of (placed (after_action w) us)) e ∙ ap (λ (l : List Cell). cells.Word key ∷ l) r.cells;
}

near_form : (key : Keyword) → InLimits (or_nothing (action_form key))
near_form key = after_near (Some key)

no_cells : (p : Field) (ps : List Field) → Fits (p ∷ ps) [] → ⊥
no_cells fields.Action ps h = h
no_cells (fields.Number low high) ps h = h

pub cells_again : (ps : List Field) (cs : List Cell) → InLimits ps → Fits ps cs → Reads ps (map cell_spelled cs) cs
cells_again [] [] near fits = record { fill = refl; acts = refl; numbers = refl; ranges = refl; nested = refl; cells = refl }
cells_again [] (c ∷ cs) near fits = absurd fits
cells_again (p ∷ ps) [] near fits = absurd (no_cells p ps fits)
cells_again (fields.Number low high ∷ ps) (cells.Number z ∷ cs) near fits =
    reads_number low high z ps (spelled z) (map cell_spelled cs) cs (reading_again low high z near.0.0 near.0.2 fits.0 fits.1) (cells_again ps cs near.1 fits.2)
cells_again (fields.Number low high ∷ ps) (cells.Word key ∷ cs) near fits = absurd fits
cells_again (fields.Action ∷ ps) (cells.Number z ∷ cs) near fits = absurd fits
cells_again (fields.Action ∷ ps) (cells.Word key ∷ cs) near fits =
    let k = key_again key in
    let r = cells_again (or_nothing (action_form key)) cs (near_form key) fits.1 in
    reads_action key ps (key_spelled key) (map cell_spelled cs) cs k fits.0 (subst (λ (qs : List Field). Reads qs (map cell_spelled cs) cs) (sym (after_is (key_spelled key) key k)) r)
