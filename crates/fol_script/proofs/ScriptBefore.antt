-- What a script's reader keeps stands for the rows before, after each row.
use Rattle.std.proofs.Common.{◌≡◌, ℕ, ◌+◌, ◌≤◌, Bool, true, false, cond, not, List, [], ◌∷◌, ◌++◌, length, Option, Some, None, refl, sym, ap, subst, ◌∙◌, arith, nat_lt}
use Rattle.std.specs.List.{sum_by}
use Rattle.std.proofs.lemmas.List.Sums.{sum_by_push}
use Rattle.std.proofs.lemmas.Bool.{le-ltb, lt-ltb}
use Rattle.fol_model.specs.declared.words.Keyword.{Keyword}
use Rattle.fol_model.specs.declared.words.Keyword.TheVariants as keys
use Rattle.fol_model.specs.declared.words.Cell.{Cell}
use Rattle.fol_model.specs.declared.causes.Cause.{Cause}
use Rattle.fol_model.specs.declared.causes.Cause.TheVariants as causes
use Rattle.fol_script.specs.declared.script_lines.Before.{Before}
use Rattle.fol_model.specs.TextCauses.{Row, is_running, is_key, ticks, times, count_key, first_cause, is_too_much, number_at, is_out_of_order, cause_of, bad_from, or_else, spelling_cause, order_cause, form_cause, sum_cause, row_of}
use Rattle.fol_script.specs.ScriptBefore.{Stands, TakesRow, TakesLine, is_script, misplaced}
use Rattle.fol_script.specs.declared.taken.Taken.TheVariants as taken
use Rattle.std.specs.Prelude.{is_none}
use Rattle.fol_model.specs.declared.words.TextKind.{TextKind}
use Rattle.fol_model.specs.declared.words.TextKind.TheVariants as kinds
use Rattle.fol_model.specs.TextForms.{line_form}
use Rattle.fol_model.specs.TextLines.{lines}
use Rattle.std.proofs.lemmas.List.{nil_from_length}
use Rattle.fol_text_laws.proofs.OneLine.{line_word_of}

abbrev row : Keyword → List Cell → Row
row key cs = record { key = key; cells = cs }

more_key : (key : Keyword) (rows : List Row) (row : Row) → count_key key (rows ++ row ∷ []) ≡ count_key key rows + cond (is_key key row.key) 1 0
more_key key rows row = sum_by_push (λ r. cond (is_key key r.key) 1 0) rows row

-- a row that is no `run`, `end` or `every` changes nothing
record Counts (rows : List Row) (row : Row) : Type 0 where
  runs : count_key keys.Run (rows ++ row ∷ []) ≡ count_key keys.Run rows + cond (is_key keys.Run row.key) 1 0
  ends : count_key keys.End (rows ++ row ∷ []) ≡ count_key keys.End rows + cond (is_key keys.End row.key) 1 0
  ticks : sum_by ticks (rows ++ row ∷ []) ≡ sum_by ticks rows + ticks row
  times : sum_by times (rows ++ row ∷ []) ≡ sum_by times rows + times row

counts : (rows : List Row) (row : Row) → Counts rows row
counts rows row = record { runs = more_key keys.Run rows row; ends = more_key keys.End rows row; ticks = sum_by_push ticks rows row; times = sum_by_push times rows row }

fits_in : (t n m : ℕ) → t ≡ m → t + n ≤ 10000 → nat_lt 10000 (m + n) ≡ false
fits_in t n m e h = le-ltb _ _ (omega arith)

pub takes_run : (cells : List Cell) (old : Before) (n : ℕ) → n ≡ number_at 0 (record { key = keys.Run; cells = cells }) → old.running ≡ false → old.ticks + n ≤ 10000
    → TakesRow (record { key = keys.Run; cells = cells }) old (record { running = true; ticks = old.ticks + n; times = old.times }) None
takes_run cells old n e still fit = λ rows s.
    let row : Row = record { key = keys.Run; cells = cells } in
    let c = counts rows row in
    let over : nat_lt 10000 (sum_by ticks rows + number_at 0 row) ≡ false = rw (← e) (fits_in old.ticks n (sum_by ticks rows) s.ticks fit) in
    let a : count_key keys.Run rows ≡ count_key keys.End rows + 0 = rw still at s.alternate in (
      rw over refl,
      λ _. record {
        alternate = omega (arith, c.runs, c.ends, a);
        ticks = omega (arith, c.ticks, s.ticks, e);
        times = omega (arith, c.times, s.times);
        few_ticks = fit;
        few_times = s.few_times;
      },
    )

pub takes_end : (cells : List Cell) (old : Before) → old.running ≡ true
    → TakesRow (record { key = keys.End; cells = cells }) old (record { running = false; ticks = old.ticks; times = old.times }) None
takes_end cells old running = λ rows s.
    let row : Row = record { key = keys.End; cells = cells } in
    let c = counts rows row in
    let a : count_key keys.Run rows ≡ count_key keys.End rows + 1 = rw running at s.alternate in (
      refl,
      λ _. record {
        alternate = omega (arith, c.runs, c.ends, a);
        ticks = omega (arith, c.ticks, s.ticks);
        times = omega (arith, c.times, s.times);
        few_ticks = s.few_ticks;
        few_times = s.few_times;
      },
    )

still : (b : Bool) → misplaced b keys.Run ≡ false → b ≡ false
still true e = absurd cc
still false e = refl

under_way : (b : Bool) → misplaced b keys.End ≡ false → b ≡ true
under_way true e = refl
under_way false e = absurd cc

pub run_taken : (key : Keyword) (cells : List Cell) (old : Before) (n : ℕ) → key ≡ keys.Run → n ≡ number_at 0 (record { key = keys.Run; cells = cells }) → misplaced old.running key ≡ false → old.ticks + n ≤ 10000
    → TakesRow (record { key = key; cells = cells }) old (record { running = true; ticks = old.ticks + n; times = old.times }) None
run_taken key cells old n k e order fit = subst (λ (j : Keyword). TakesRow (record { key = j; cells = cells }) old (record { running = true; ticks = old.ticks + n; times = old.times }) None) (sym k)
    (takes_run cells old n e (still old.running (subst (λ (j : Keyword). misplaced old.running j ≡ false) k order)) fit)

pub end_taken : (key : Keyword) (cells : List Cell) (old : Before) → key ≡ keys.End → misplaced old.running key ≡ false
    → TakesRow (record { key = key; cells = cells }) old (record { running = false; ticks = old.ticks; times = old.times }) None
end_taken key cells old k order = subst (λ (j : Keyword). TakesRow (record { key = j; cells = cells }) old (record { running = false; ticks = old.ticks; times = old.times }) None) (sym k)
    (takes_end cells old (under_way old.running (subst (λ (j : Keyword). misplaced old.running j ≡ false) k order)))

-- ---- a line

running_at : (e r : ℕ) (b : Bool) → r ≡ e + cond b 1 0 → nat_lt e r ≡ b
running_at e r true h = lt-ltb _ _ (omega arith)
running_at e r false h = le-ltb _ _ (omega arith)

pub running_is : (rows : List Row) (b : Before) → Stands rows b → is_running rows ≡ b.running
running_is rows b s = running_at (count_key keys.End rows) (count_key keys.Run rows) b.running s.alternate

pub order_is : (kind : TextKind) (rows : List Row) (row : Row) → is_script kind ≡ true → is_out_of_order kind rows row ≡ misplaced (is_running rows) row.key
order_is kinds.World rows row e = absurd cc
order_is kinds.ScriptOne rows row e = refl
order_is kinds.ScriptTwo rows row e = refl

pub causes_are : (kind : TextKind) (rows : List Row) (l : List ℕ) → cause_of kind rows l ≡ or_else (spelling_cause kind l) (or_else (order_cause kind rows (row_of kind l)) (or_else (form_cause kind l) (sum_cause rows (row_of kind l))))
unfolding cause_of
causes_are kind rows l = refl

pub order_none : (b : Bool) (c : Cause) → b ≡ false → first_cause ((b, c) ∷ []) ≡ None
order_none b c e = rw e refl

pub order_some : (b : Bool) (c : Cause) → b ≡ true → first_cause ((b, c) ∷ []) ≡ Some c
order_some b c e = rw e refl

pub line_bad : (kind : TextKind) (l : List ℕ) (old new : Before) (cs : List Cell) (c : Cause) → spelling_cause kind l ≡ Some c → TakesLine kind l old new cs (taken.Bad c)
line_bad kind l old new cs c e = λ rows s. causes_are kind rows l ∙ ap (λ (o : Option Cause). or_else o (or_else (order_cause kind rows (row_of kind l)) (or_else (form_cause kind l) (sum_cause rows (row_of kind l))))) e

pub after_spelling : (kind : TextKind) (rows : List Row) (l : List ℕ) → spelling_cause kind l ≡ None → cause_of kind rows l ≡ or_else (order_cause kind rows (row_of kind l)) (or_else (form_cause kind l) (sum_cause rows (row_of kind l)))
after_spelling kind rows l e = causes_are kind rows l ∙ ap (λ (o : Option Cause). or_else o (or_else (order_cause kind rows (row_of kind l)) (or_else (form_cause kind l) (sum_cause rows (row_of kind l))))) e

out_of_order : (kind : TextKind) (rows : List Row) (l : List ℕ) (b : Before) (key : Keyword) (t : Bool) → is_script kind ≡ true → Stands rows b → key ≡ (row_of kind l).key → misplaced b.running key ≡ t → is_out_of_order kind rows (row_of kind l) ≡ t
out_of_order kind rows l b key t k s e m = order_is kind rows (row_of kind l) k ∙ ap (λ (r : Bool). misplaced r (row_of kind l).key) (running_is rows b s) ∙ ap (misplaced b.running) (sym e) ∙ m

pub line_misplaced : (kind : TextKind) (l : List ℕ) (old new : Before) (cs : List Cell) (key : Keyword) → is_script kind ≡ true → spelling_cause kind l ≡ None → key ≡ (row_of kind l).key → misplaced old.running key ≡ true → TakesLine kind l old new cs (taken.Bad causes.Order)
line_misplaced kind l old new cs key k sp e m = λ rows s.
    let o = order_some (is_out_of_order kind rows (row_of kind l)) causes.Order (out_of_order kind rows l old key true k s e m) in
    after_spelling kind rows l sp ∙ ap (λ (c : Option Cause). or_else c (or_else (form_cause kind l) (sum_cause rows (row_of kind l)))) o

after_order : (kind : TextKind) (rows : List Row) (l : List ℕ) (b : Before) (key : Keyword) → is_script kind ≡ true → Stands rows b → spelling_cause kind l ≡ None → key ≡ (row_of kind l).key → misplaced b.running key ≡ false → cause_of kind rows l ≡ or_else (form_cause kind l) (sum_cause rows (row_of kind l))
after_order kind rows l b key k s sp e m =
    after_spelling kind rows l sp ∙ ap (λ (c : Option Cause). or_else c (or_else (form_cause kind l) (sum_cause rows (row_of kind l)))) (order_none (is_out_of_order kind rows (row_of kind l)) causes.Order (out_of_order kind rows l b key false k s e m))

pub line_fault : (kind : TextKind) (l : List ℕ) (old new : Before) (cs : List Cell) (key : Keyword) (c : Cause) → is_script kind ≡ true → spelling_cause kind l ≡ None → key ≡ (row_of kind l).key → misplaced old.running key ≡ false → Some c ≡ form_cause kind l → TakesLine kind l old new cs (taken.Bad c)
line_fault kind l old new cs key c k sp e m f = λ rows s.
    after_order kind rows l old key k s sp e m ∙ ap (λ (o : Option Cause). or_else o (sum_cause rows (row_of kind l))) (sym f)

pub no_twice : (kind : TextKind) (key : Keyword) → is_script kind ≡ true → is_none (line_form kind key) ≡ false → (is_key keys.Block key ≡ false) × (is_key keys.Entity key ≡ false)
no_twice kinds.World key k e = absurd cc
no_twice kinds.ScriptOne keys.Block k e = absurd cc
no_twice kinds.ScriptOne keys.Entity k e = absurd cc
no_twice kinds.ScriptOne _ k e = (refl, refl)
no_twice kinds.ScriptTwo keys.Block k e = absurd cc
no_twice kinds.ScriptTwo keys.Entity k e = absurd cc
no_twice kinds.ScriptTwo _ k e = (refl, refl)

once : (rows : List Row) (row : Row) → (is_key keys.Block row.key ≡ false) × (is_key keys.Entity row.key ≡ false) → sum_cause rows row ≡ first_cause ((is_too_much rows row, causes.Total) ∷ [])
once rows row e = rw (e.0, e.1) refl

counted : (kind : TextKind) (rows : List Row) (l : List ℕ) (old : Before) (key : Keyword) (c : Option Cause) → is_script kind ≡ true → Stands rows old → spelling_cause kind l ≡ None → key ≡ (row_of kind l).key → misplaced old.running key ≡ false → None ≡ form_cause kind l
    → c ≡ first_cause ((is_too_much rows (row_of kind l), causes.Total) ∷ []) → cause_of kind rows l ≡ c
counted kind rows l old key c k s sp e m f t =
    let o = once rows (row_of kind l) (no_twice kind (row_of kind l).key k (line_word_of kind l sp)) in
    after_order kind rows l old key k s sp e m ∙ ap (λ (q : Option Cause). or_else q (sum_cause rows (row_of kind l))) (sym f) ∙ o ∙ sym t

row_is : (kind : TextKind) (l : List ℕ) (key : Keyword) (cs : List Cell) → key ≡ (row_of kind l).key → cs ≡ (row_of kind l).cells → row key cs ≡ row_of kind l
row_is kind l key cs e es = λ i. record { key = e i; cells = es i }

pub line_total : (kind : TextKind) (l : List ℕ) (old new : Before) (key : Keyword) (cs all : List Cell) (c : Cause) → is_script kind ≡ true → spelling_cause kind l ≡ None → key ≡ (row_of kind l).key → cs ≡ (row_of kind l).cells → misplaced old.running key ≡ false → None ≡ form_cause kind l
    → TakesRow (record { key = key; cells = cs }) old new (Some c) → TakesLine kind l old new all (taken.Bad c)
line_total kind l old new key cs all c k sp e es m f takes = λ rows s.
    let t = subst (λ (r : Row). TakesRow r old new (Some c)) (row_is kind l key cs e es) takes rows s in
    counted kind rows l old key (Some c) k s sp e m f t.0

pub line_counted : (kind : TextKind) (l : List ℕ) (old new : Before) (key : Keyword) (cs : List Cell) → is_script kind ≡ true → spelling_cause kind l ≡ None → key ≡ (row_of kind l).key → cs ≡ (row_of kind l).cells → misplaced old.running key ≡ false → None ≡ form_cause kind l
    → TakesRow (record { key = key; cells = cs }) old new None → TakesLine kind l old new cs (taken.Row key)
line_counted kind l old new key cs k sp e es m f takes = λ rows s.
    let t = subst (λ (r : Row). TakesRow r old new None) (row_is kind l key cs e es) takes rows s in
    (counted kind rows l old key None k s sp e m f t.0, e, es, t.1 refl)

-- ---- the end of the text

swap : (b : Bool) (x : Option (ℕ × Cause)) → cond (not b) None x ≡ cond b x None
swap true x = refl
swap false x = refl

at_end : (kind : TextKind) (rows : List Row) (b : Before) (n : ℕ) → is_script kind ≡ true → Stands rows b → bad_from kind rows n [] ≡ cond b.running (Some (n, causes.Missing)) None
unfolding bad_from
at_end kinds.World rows b n k s = absurd cc
at_end kinds.ScriptOne rows b n k s = rw (running_is rows b s) (swap b.running (Some (n, causes.Missing)))
at_end kinds.ScriptTwo rows b n k s = rw (running_is rows b s) (swap b.running (Some (n, causes.Missing)))

pub ended : (kind : TextKind) (rows : List Row) (b : Before) (n : ℕ) (rest : List ℕ) → is_script kind ≡ true → Stands rows b → length rest ≡ 0 → bad_from kind rows n (lines rest) ≡ cond b.running (Some (n, causes.Missing)) None
ended kind rows b n rest k s none = ap (λ (r : List ℕ). bad_from kind rows n (lines r)) (nil_from_length rest none) ∙ at_end kind rows b n k s
