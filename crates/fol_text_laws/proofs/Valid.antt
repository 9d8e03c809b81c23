-- A text without a bad line is the spelling of its rows.
use Rattle.std.proofs.Common.{◌≡◌, ℕ, ◌+◌, Bool, true, false, cond, List, [], ◌∷◌, ◌++◌, map, Option, Some, None, refl, sym, ap, subst, ◌∙◌, inl, inr}
use Rattle.std.proofs.lemmas.Bool.{cases_Bool}
use Rattle.fol_model.specs.declared.words.TextKind.{TextKind}
use Rattle.fol_model.specs.declared.causes.Cause.{Cause}
use Rattle.fol_model.specs.declared.causes.Cause.TheVariants as causes
use Rattle.fol_model.specs.TextLines.{lines, kept, is_skipped}
use Rattle.fol_model.specs.TextCauses.{Row, row_of, cause_of, bad_from, bad_or, first_bad, first_cause, or_else, spelling_cause, order_cause, form_cause, sum_cause, is_out_of_order, is_twice, is_too_much, is_whole}
use Rattle.fol_model.specs.TextRows.{IsRow, row_line, Follow, Spells}
use Rattle.fol_text_laws.proofs.Again.{row_is_line}
use Rattle.fol_text_laws.proofs.OneLine.{Clean, clean, line_is_row, two_none}

no_bad : (c : Option Cause) (n : ℕ) (later : Option (ℕ × Cause)) → bad_or c n later ≡ None → (c ≡ None) × (later ≡ None)
no_bad None n later e = (refl, e)
no_bad (Some c) n later e = absurd cc

or_none : (a b : Option Cause) → or_else a b ≡ None → (a ≡ None) × (b ≡ None)
or_none None b e = (refl, e)
or_none (Some c) b e = absurd cc

one_none : (b : Bool) (c : Cause) → first_cause ((b, c) ∷ []) ≡ None → b ≡ false
one_none true c e = absurd cc
one_none false c e = refl

-- what a line without a cause is
pub record Good (kind : TextKind) (before : List Row) (l : List ℕ) : Type 0 where
  pub row : IsRow kind (row_of kind l)
  pub line : row_line (row_of kind l) ≡ l
  pub order : is_out_of_order kind before (row_of kind l) ≡ false
  pub once : is_twice before (row_of kind l) ≡ false
  pub sums : is_too_much before (row_of kind l) ≡ false

pub good : (kind : TextKind) (before : List Row) (l : List ℕ) → cause_of kind before l ≡ None → Good kind before l
unfolding cause_of
good kind before l e =
    let a = or_none (spelling_cause kind l) (or_else (order_cause kind before (row_of kind l)) (or_else (form_cause kind l) (sum_cause before (row_of kind l)))) e in
    let b = or_none (order_cause kind before (row_of kind l)) (or_else (form_cause kind l) (sum_cause before (row_of kind l))) a.1 in
    let c = or_none (form_cause kind l) (sum_cause before (row_of kind l)) b.1 in
    let d = two_none (is_twice before (row_of kind l)) (is_too_much before (row_of kind l)) causes.Twice causes.Total c.1 in
    let r = line_is_row kind l (clean kind l a.0 c.0) in
    record { row = r.0; line = r.1; order = one_none (is_out_of_order kind before (row_of kind l)) causes.Order b.0; once = d.0; sums = d.1 }

record Rest (kind : TextKind) (before : List Row) (ls : List (List ℕ)) : Type 0 where
  rows : List Row
  lines : kept ls ≡ map row_line rows
  follow : Follow kind before rows

abbrev none_bad : Option (ℕ × Cause)
none_bad = None

whole : (b : Bool) (n : ℕ) → cond b none_bad (Some (n, causes.Missing)) ≡ None → b ≡ true
whole true n e = refl
whole false n e = absurd cc

rest_of : (kind : TextKind) (before : List Row) (n : ℕ) (ls : List (List ℕ)) → bad_from kind before n ls ≡ None → Rest kind before ls
unfolding bad_from
rest_of kind before n [] e = record { rows = []; lines = refl; follow = whole (is_whole kind before) n e }
rest_of kind before n (l ∷ ls) e = elim (cases_Bool (is_skipped l)) [
  | inl s ↦
      let h = rest_of kind before (n + 1) ls (rw s at e) in
      record { rows = h.rows; lines = rw s h.lines; follow = h.follow }
  | inr s ↦
      let b = no_bad (cause_of kind before l) n (bad_from kind (before ++ row_of kind l ∷ []) (n + 1) ls) (rw s at e) in
      let g = good kind before l b.0 in
      let h = rest_of kind (before ++ row_of kind l ∷ []) (n + 1) ls b.1 in
      record {
        rows = row_of kind l ∷ h.rows;
        lines = rw s (ap (λ (k : List ℕ). k ∷ kept ls) (sym g.line) ∙ ap (λ (ks : List (List ℕ)). row_line (row_of kind l) ∷ ks) h.lines);
        follow = (g.row, g.order, g.once, g.sums, h.follow);
      }
]

-- a text without a bad line is spelled by some rows
pub valid_is_spelled : (kind : TextKind) (bytes : List ℕ) → first_bad kind bytes ≡ None → (rows : List Row) × Spells kind bytes rows
valid_is_spelled kind bytes e =
    let h = rest_of kind [] 1 (lines bytes) e in
    (h.rows, record { lines = h.lines; follow = h.follow })

-- ---- and the other way round

head_is : (a b : List ℕ) (xs ys : List (List ℕ)) → a ∷ xs ≡ b ∷ ys → (a ≡ b) × (xs ≡ ys)
head_is a b xs ys e = (cc, cc)

cause_none : (kind : TextKind) (before : List Row) (l : List ℕ) → Clean kind l → is_out_of_order kind before (row_of kind l) ≡ false → is_twice before (row_of kind l) ≡ false → is_too_much before (row_of kind l) ≡ false → cause_of kind before l ≡ None
unfolding cause_of
cause_none kind before l c o t m = rw (c.text, c.line_word, c.acts, o, c.fill, c.nest, c.numbers, c.ranges, t, m) refl

none_kept : (kind : TextKind) (before : List Row) (n : ℕ) (l : List ℕ) (ls : List (List ℕ)) (rows : List Row) → l ∷ kept ls ≡ map row_line rows → Follow kind before rows
    → ((rs : List Row) → kept ls ≡ map row_line rs → Follow kind (before ++ row_of kind l ∷ []) rs → (bad_from kind (before ++ row_of kind l ∷ []) (n + 1) ls ≡ None) × (map (row_of kind) (kept ls) ≡ rs))
    → (bad_or (cause_of kind before l) n (bad_from kind (before ++ row_of kind l ∷ []) (n + 1) ls) ≡ None) × (row_of kind l ∷ map (row_of kind) (kept ls) ≡ rows)
none_kept kind before n l ls [] e f later = absurd cc
none_kept kind before n l ls (r ∷ rs) e f later =
    let h = head_is l (row_line r) (kept ls) (map row_line rs) e in
    let k = row_is_line kind r f.0 in
    let clean : Clean kind l = subst (Clean kind) (sym h.0) k.0 in
    let row : row_of kind l ≡ r = ap (row_of kind) h.0 ∙ k.1 in
    let c = cause_none kind before l clean
    (subst (λ (q : Row). is_out_of_order kind before q ≡ false) (sym row) f.1)
    (subst (λ (q : Row). is_twice before q ≡ false) (sym row) f.2)
    (subst (λ (q : Row). is_too_much before q ≡ false) (sym row) f.3) in
    let t = later rs h.1 (subst (λ (q : Row). Follow kind (before ++ q ∷ []) rs) (sym row) f.4) in
    (rw c t.0, ap (λ (q : Row). q ∷ map (row_of kind) (kept ls)) row ∙ ap (λ (qs : List Row). r ∷ qs) t.1)

none_from : (kind : TextKind) (before : List Row) (n : ℕ) (ls : List (List ℕ)) (rows : List Row) → kept ls ≡ map row_line rows → Follow kind before rows → (bad_from kind before n ls ≡ None) × (map (row_of kind) (kept ls) ≡ rows)
unfolding bad_from
none_from kind before n [] [] e f = (rw f refl, refl)
none_from kind before n [] (r ∷ rs) e f = absurd cc
none_from kind before n (l ∷ ls) rows e f = elim (cases_Bool (is_skipped l)) [
  | inl s ↦ let h = none_from kind before (n + 1) ls rows (rw s at e) f in rw s h
  | inr s ↦ rw s (none_kept kind before n l ls rows (rw s at e) f (λ rs. none_from kind (before ++ row_of kind l ∷ []) (n + 1) ls rs))
]

-- a text that some rows spell has no bad line, and is read as these rows: so there is at most one list of them
pub spelled_is_valid : (kind : TextKind) (bytes : List ℕ) (rows : List Row) → Spells kind bytes rows → (first_bad kind bytes ≡ None) × (map (row_of kind) (kept (lines bytes)) ≡ rows)
spelled_is_valid kind bytes rows s = none_from kind [] 1 (lines bytes) rows s.lines s.follow
