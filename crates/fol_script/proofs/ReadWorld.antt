-- One line more of a world, and its end.
use Rattle.std.proofs.Common.{◌≡◌, ℕ, ◌<◌, ◌≤◌, ◌^◌, ◌≤ℤ◌, ℤ, pos, negsuc, Bool, true, false, cond, List, [], ◌∷◌, ◌++◌, map, Option, Some, None, refl, sym, ap, subst, ◌∙◌, arith}
use borrow.Author.Differences.{ints}
use Rattle.std.specs.Prelude.{is_none, is_some, nat_abs}
use Rattle.std.specs.List.{AllByRecursion}
use Rattle.std.specs.Ordering.{nat_cmp}
use Rattle.std.specs.BTreeMap.{is_at}
use Rattle.std.specs.Map.{lookup, keys_of}
use Rattle.std.specs.List.Sorted.{IsPermutation, IsStrictlySortedBy}
use Rattle.std.proofs.lemmas.List.Sorted.{IsPermutation-refl}
use Rattle.fol_model.specs.declared.entities.Entity.{Entity}
use Rattle.fol_model.specs.declared.grids.Grid.{Grid}
use Rattle.fol_model.specs.declared.words.Keyword.{Keyword}
use Rattle.fol_model.specs.declared.words.Keyword.TheVariants as keys
use Rattle.fol_model.specs.declared.words.TextKind.TheVariants as kinds
use Rattle.fol_model.specs.declared.words.Cell.{Cell}
use Rattle.fol_model.specs.declared.causes.Cause.{Cause}
use Rattle.fol_model.specs.declared.causes.Cause.TheVariants as causes
use Rattle.fol_model.specs.Geometry.{is_block}
use Rattle.fol_model.specs.Limits.{is_entity}
use Rattle.fol_model.specs.TextForms.{line_form}
use Rattle.fol_model.specs.TextLines.{is_skipped}
use Rattle.fol_model.specs.TextCauses.{Row, is_key, is_twice, is_out_of_order, cause_of, row_of, bad_from, first_bad, or_else, spelling_cause, order_cause, form_cause, sum_cause}
use Rattle.fol_model.specs.TextRows.{IsRow, Spells}
use Rattle.fol_model.specs.Texts.{IsWorldText, world_rows, item_row, grid_row}
use Rattle.fol_text_laws.specs.RowValues.{natural_in, block_in_cells, entity_of, grid_of, z_at}
use Rattle.fol_text_laws.proofs.Sorting.{sorted_none}
use Rattle.fol_text_laws.proofs.OneLine.{clean, line_is_row, line_word_of}
use Rattle.fol_text_laws.proofs.Valid.{valid_is_spelled, spelled_is_valid}
use Rattle.fol_text_laws.proofs.Worlds.{row, within_entity}
use Rattle.fol_script.specs.declared.world_lines.Spot.{Spot}
use Rattle.fol_script.specs.declared.world_lines.WorldBefore.{WorldBefore}
use Rattle.fol_script.specs.WorldRows.{version_row}
use Rattle.fol_script.specs.declared.kept.Kept.{Kept}
use Rattle.fol_script.specs.Kept.{entries_in, Keeps}
use Rattle.fol_script.specs.WorldMaps.{spot_of, stored_blocks, values_of}
use Rattle.fol_script.specs.WorldBefore.{spot_cmp, misplaced_in, Holds, StandsFor, Stands, TakesRow, Goes, IsRead}
use Rattle.fol_script.proofs.WorldMaps.{stored_in_order, ids_are_keys}
use Rattle.fol_script.proofs.WorldBefore.{version_taken, grid_taken, block_taken, entity_taken}
use Rattle.fol_script.proofs.ScriptBefore.{causes_are, order_none, order_some, after_spelling}
use Rattle.fol_script.proofs.ReadScript.{skip_bad, skip_rows, row_bad, row_rows}

-- ---- the arms of a row

pub with_key : (key k : Keyword) (cs : List Cell) → key ≡ k → IsRow kinds.World (row key cs) → IsRow kinds.World (row k cs)
with_key key k cs e is = subst (λ (q : Keyword). IsRow kinds.World (row q cs)) e is

in_place : (version : Option ℕ) (grid : Option Grid) (key k : Keyword) → key ≡ k → misplaced_in version grid key ≡ false → misplaced_in version grid k ≡ false
in_place version grid key k e m = subst (λ (q : Keyword). misplaced_in version grid q ≡ false) e m

pub version_arm : (key : Keyword) (cs : List Cell) (old : WorldBefore) (n : ℕ) → key ≡ keys.World → misplaced_in old.version old.grid key ≡ false → IsRow kinds.World (row key cs) → n ≡ natural_in 0 cs
    → TakesRow (row key cs) old (record { version = Some n; grid = old.grid; blocks = old.blocks; entities = old.entities }) false
version_arm key cs old n e m is ne = subst (λ (k : Keyword). TakesRow (row k cs) old (record { version = Some n; grid = old.grid; blocks = old.blocks; entities = old.entities }) false) (sym e)
    (λ rows s. (
      refl,
      λ _. subst (λ (v : ℕ). StandsFor (rows ++ row keys.World cs ∷ []) (Some v) old.grid (entries_in old.blocks) (entries_in old.entities)) (sym ne)
          (version_taken old.version old.grid (entries_in old.blocks) (entries_in old.entities) cs rows (in_place old.version old.grid key keys.World e m) (with_key key keys.World cs e is) s),
    ))

pub grid_arm : (key : Keyword) (cs : List Cell) (old : WorldBefore) (g : Option Grid) → key ≡ keys.Grid → misplaced_in old.version old.grid key ≡ false → IsRow kinds.World (row key cs) → g ≡ Some (grid_of cs)
    → TakesRow (row key cs) old (record { version = old.version; grid = g; blocks = old.blocks; entities = old.entities }) false
grid_arm key cs old g e m is ge = subst (λ (k : Keyword). TakesRow (row k cs) old (record { version = old.version; grid = g; blocks = old.blocks; entities = old.entities }) false) (sym e)
    (λ rows s. (
      refl,
      λ _. subst (λ (x : Option Grid). StandsFor (rows ++ row keys.Grid cs ∷ []) old.version x (entries_in old.blocks) (entries_in old.entities)) (sym ge)
          (grid_taken old.version old.grid (entries_in old.blocks) (entries_in old.entities) cs rows (in_place old.version old.grid key keys.Grid e m) (with_key key keys.Grid cs e is) s),
    ))

pub block_arm : (key : Keyword) (cs : List Cell) (old : WorldBefore) (ds : Kept Spot ℕ) (twice : Bool) → key ≡ keys.Block → misplaced_in old.version old.grid key ≡ false → IsRow kinds.World (row key cs)
    → (IsStrictlySortedBy spot_cmp (keys_of (entries_in old.blocks)) → Keeps spot_cmp (entries_in old.blocks) (entries_in ds) (spot_of (block_in_cells 0 cs)) (natural_in 3 cs) twice)
    → TakesRow (row key cs) old (record { version = old.version; grid = old.grid; blocks = ds; entities = old.entities }) twice
block_arm key cs old ds twice e m is kept = subst (λ (k : Keyword). TakesRow (row k cs) old (record { version = old.version; grid = old.grid; blocks = ds; entities = old.entities }) twice) (sym e)
    (λ rows s. block_taken old.version old.grid (entries_in old.blocks) (entries_in ds) (entries_in old.entities) cs twice rows (in_place old.version old.grid key keys.Block e m) (with_key key keys.Block cs e is) kept s)

pub entity_arm : (key : Keyword) (cs : List Cell) (old : WorldBefore) (fs : Kept ℕ Entity) (twice : Bool) → key ≡ keys.Entity → misplaced_in old.version old.grid key ≡ false → IsRow kinds.World (row key cs)
    → (IsStrictlySortedBy nat_cmp (keys_of (entries_in old.entities)) → Keeps nat_cmp (entries_in old.entities) (entries_in fs) (natural_in 0 cs) (entity_of cs) twice)
    → TakesRow (row key cs) old (record { version = old.version; grid = old.grid; blocks = old.blocks; entities = fs }) twice
entity_arm key cs old fs twice e m is kept = subst (λ (k : Keyword). TakesRow (row k cs) old (record { version = old.version; grid = old.grid; blocks = old.blocks; entities = fs }) twice) (sym e)
    (λ rows s. entity_taken old.version old.grid (entries_in old.blocks) (entries_in old.entities) (entries_in fs) cs twice rows (in_place old.version old.grid key keys.Entity e m) (with_key key keys.Entity cs e is) kept s)

-- ---- the limits of an entity's numbers

pub record EntityNear (cs : List Cell) : Type 0 where
  pub id : natural_in 0 cs < 2 ^ 32
  pub at : is_block (block_in_cells 1 cs) ≡ true
  pub x_low : negsuc 2147483647 ≤ℤ z_at 4 cs
  pub x_high : z_at 4 cs ≤ℤ pos 2147483647
  pub z_low : negsuc 2147483647 ≤ℤ z_at 5 cs
  pub z_high : z_at 5 cs ≤ℤ pos 2147483647

low_size : (z : ℤ) → nat_abs z ≤ 16 → negsuc 2147483647 ≤ℤ z
low_size (pos n) h = omega (arith, ints)
low_size (negsuc n) h = omega (arith, ints)

high_size : (z : ℤ) → nat_abs z ≤ 16 → z ≤ℤ pos 2147483647
high_size (pos n) h = omega (arith, ints)
high_size (negsuc n) h = omega (arith, ints)

pub entity_near : (cs : List Cell) → is_entity (entity_of cs) ≡ true → EntityNear cs
entity_near cs h =
    let w = within_entity (entity_of cs) h in
    record { id = omega (arith, w.high); at = w.at; x_low = low_size (z_at 4 cs) w.vx; x_high = high_size (z_at 4 cs) w.vx; z_low = low_size (z_at 5 cs) w.vz; z_high = high_size (z_at 5 cs) w.vz }

-- ---- the cause of a line

order_at : (version : Option ℕ) (grid : Option Grid) (bs : List (Spot × ℕ)) (es : List (ℕ × Entity)) (rows : List Row) (r : Row) → StandsFor rows version grid bs es → is_out_of_order kinds.World rows r ≡ misplaced_in version grid r.key
order_at None None bs es rows r s = ap (λ (rs : List Row). is_out_of_order kinds.World rs r) s.0
order_at None (Some g) bs es rows r s = absurd s
order_at (Some v) None bs es rows r s = ap (λ (rs : List Row). is_out_of_order kinds.World rs r) s.0
order_at (Some v) (Some g) bs es rows r s = ap (λ (rs : List Row). is_out_of_order kinds.World rs r) s.1

order_is : (rows : List Row) (l : List ℕ) (b : WorldBefore) (key : Keyword) (t : Bool) → Stands rows b → key ≡ (row_of kinds.World l).key → misplaced_in b.version b.grid key ≡ t → is_out_of_order kinds.World rows (row_of kinds.World l) ≡ t
order_is rows l b key t s e m = order_at b.version b.grid (entries_in b.blocks) (entries_in b.entities) rows (row_of kinds.World l) s ∙ ap (misplaced_in b.version b.grid) (sym e) ∙ m

pub spelled_badly : (rows : List Row) (l : List ℕ) (c : Cause) → spelling_cause kinds.World l ≡ Some c → cause_of kinds.World rows l ≡ Some c
spelled_badly rows l c e = causes_are kinds.World rows l ∙ ap (λ (o : Option Cause). or_else o (or_else (order_cause kinds.World rows (row_of kinds.World l)) (or_else (form_cause kinds.World l) (sum_cause rows (row_of kinds.World l))))) e

pub out_of_place : (rows : List Row) (l : List ℕ) (b : WorldBefore) (key : Keyword) → Stands rows b → spelling_cause kinds.World l ≡ None → key ≡ (row_of kinds.World l).key → misplaced_in b.version b.grid key ≡ true → cause_of kinds.World rows l ≡ Some causes.Order
out_of_place rows l b key s sp e m =
    after_spelling kinds.World rows l sp ∙ ap (λ (c : Option Cause). or_else c (or_else (form_cause kinds.World l) (sum_cause rows (row_of kinds.World l)))) (order_some (is_out_of_order kinds.World rows (row_of kinds.World l)) causes.Order (order_is rows l b key true s e m))

after_order : (rows : List Row) (l : List ℕ) (b : WorldBefore) (key : Keyword) → Stands rows b → spelling_cause kinds.World l ≡ None → key ≡ (row_of kinds.World l).key → misplaced_in b.version b.grid key ≡ false → cause_of kinds.World rows l ≡ or_else (form_cause kinds.World l) (sum_cause rows (row_of kinds.World l))
after_order rows l b key s sp e m =
    after_spelling kinds.World rows l sp ∙ ap (λ (c : Option Cause). or_else c (or_else (form_cause kinds.World l) (sum_cause rows (row_of kinds.World l)))) (order_none (is_out_of_order kinds.World rows (row_of kinds.World l)) causes.Order (order_is rows l b key false s e m))

pub formed_badly : (rows : List Row) (l : List ℕ) (b : WorldBefore) (key : Keyword) (c : Cause) → Stands rows b → spelling_cause kinds.World l ≡ None → key ≡ (row_of kinds.World l).key → misplaced_in b.version b.grid key ≡ false → Some c ≡ form_cause kinds.World l → cause_of kinds.World rows l ≡ Some c
formed_badly rows l b key c s sp e m f = after_order rows l b key s sp e m ∙ ap (λ (o : Option Cause). or_else o (sum_cause rows (row_of kinds.World l))) (sym f)

no_sum : (key : Keyword) → is_none (line_form kinds.World key) ≡ false → (is_key keys.Run key ≡ false) × (is_key keys.Every key ≡ false)
no_sum keys.World h = (refl, refl)
no_sum keys.Grid h = (refl, refl)
no_sum keys.Block h = (refl, refl)
no_sum keys.Entity h = (refl, refl)
no_sum keys.Load h = absurd cc
no_sum keys.Unload h = absurd cc
no_sum keys.Post h = absurd cc
no_sum keys.Every h = absurd cc
no_sum keys.Run h = absurd cc
no_sum keys.End h = absurd cc
no_sum keys.Set h = absurd cc
no_sum keys.Copy h = absurd cc
no_sum keys.Send h = absurd cc
no_sum keys.Arrive h = absurd cc

if_twice : Bool → Option Cause
if_twice t = cond t (Some causes.Twice) None

only_twice : (rows : List Row) (r : Row) (t : Bool) → (is_key keys.Run r.key ≡ false) × (is_key keys.Every r.key ≡ false) → t ≡ is_twice rows r → sum_cause rows r ≡ if_twice t
unfolding if_twice
only_twice rows r true n e = rw (← e) refl
only_twice rows r false n e = rw (← e, n.0, n.1) refl

row_is : (l : List ℕ) (key : Keyword) (cs : List Cell) → key ≡ (row_of kinds.World l).key → cs ≡ (row_of kinds.World l).cells → row key cs ≡ row_of kinds.World l
row_is l key cs e es = λ i. record { key = e i; cells = es i }

pub is_good_row : (l : List ℕ) (key : Keyword) (cs : List Cell) → spelling_cause kinds.World l ≡ None → key ≡ (row_of kinds.World l).key → None ≡ form_cause kinds.World l → cs ≡ (row_of kinds.World l).cells → IsRow kinds.World (row key cs)
is_good_row l key cs sp e f es = subst (IsRow kinds.World) (sym (row_is l key cs e es)) (line_is_row kinds.World l (clean kinds.World l sp (sym f))).0

cause_is : (rows : List Row) (l : List ℕ) (b : WorldBefore) (key : Keyword) (t : Bool) → Stands rows b → spelling_cause kinds.World l ≡ None → key ≡ (row_of kinds.World l).key → misplaced_in b.version b.grid key ≡ false → None ≡ form_cause kinds.World l → t ≡ is_twice rows (row_of kinds.World l)
    → cause_of kinds.World rows l ≡ if_twice t
cause_is rows l b key t s sp e m f tw =
    after_order rows l b key s sp e m ∙ ap (λ (o : Option Cause). or_else o (sum_cause rows (row_of kinds.World l))) (sym f) ∙ only_twice rows (row_of kinds.World l) t (no_sum (row_of kinds.World l).key (line_word_of kinds.World l sp)) tw

takes_line : (l : List ℕ) (key : Keyword) (cs : List Cell) (old new : WorldBefore) (t : Bool) (rows : List Row) → key ≡ (row_of kinds.World l).key → cs ≡ (row_of kinds.World l).cells → TakesRow (row key cs) old new t → Stands rows old
    → (t ≡ is_twice rows (row_of kinds.World l)) × (t ≡ false → Stands (rows ++ row_of kinds.World l ∷ []) new)
takes_line l key cs old new t rows e es takes s = subst (λ (r : Row). TakesRow r old new t) (row_is l key cs e es) takes rows s

pub stood_before : (l : List ℕ) (key : Keyword) (cs : List Cell) (old new : WorldBefore) (t : Bool) (rows : List Row) → Stands rows old → spelling_cause kinds.World l ≡ None → key ≡ (row_of kinds.World l).key → None ≡ form_cause kinds.World l → cs ≡ (row_of kinds.World l).cells
    → misplaced_in old.version old.grid key ≡ false → TakesRow (row key cs) old new t → t ≡ true → cause_of kinds.World rows l ≡ Some causes.Twice
unfolding if_twice
stood_before l key cs old new t rows s sp e f es m takes stands_twice = cause_is rows l old key t s sp e m f (takes_line l key cs old new t rows e es takes s).0 ∙ ap if_twice stands_twice

pub goes_on : (l : List ℕ) (key : Keyword) (cs : List Cell) (old new : WorldBefore) (t : Bool) (rows : List Row) → Stands rows old → is_skipped l ≡ false → spelling_cause kinds.World l ≡ None → key ≡ (row_of kinds.World l).key → None ≡ form_cause kinds.World l → cs ≡ (row_of kinds.World l).cells
    → misplaced_in old.version old.grid key ≡ false → TakesRow (row key cs) old new t → t ≡ false → Goes l rows new
unfolding if_twice
goes_on l key cs old new t rows s skipped sp e f es m takes stands_once =
    let k = takes_line l key cs old new t rows e es takes s in
    let none : cause_of kinds.World rows l ≡ None = cause_is rows l old key t s sp e m f k.0 ∙ ap if_twice stands_once in
    record {
      more = rows ++ row_of kinds.World l ∷ [];
      stands = k.1 stands_once;
      bad = λ n ls. row_bad kinds.World l rows n ls skipped none;
      rows_are = λ ls. row_rows kinds.World l rows ls skipped;
    }

pub skips : (l : List ℕ) (rows : List Row) (b : WorldBefore) → is_skipped l ≡ true → Stands rows b → Goes l rows b
skips l rows b e s = record {
  more = rows;
  stands = s;
  bad = λ n ls. skip_bad kinds.World l rows n ls e;
  rows_are = λ ls. skip_rows kinds.World l rows ls e;
}

-- ---- before the first line

pub nothing_held : (bs : List (Spot × ℕ)) (es : List (ℕ × Entity)) → bs ≡ [] → es ≡ [] → Holds [] bs es
nothing_held bs es e f = record {
  from_blocks = subst (λ (l : List (Spot × ℕ)). IsPermutation [] (stored_blocks l)) (sym e) (IsPermutation-refl []);
  from_entities = subst (λ (l : List (ℕ × Entity)). IsPermutation [] (values_of l)) (sym f) (IsPermutation-refl []);
  block_stood = λ b. sym (ap (λ (l : List (Spot × ℕ)). is_some (lookup (is_at (spot_cmp (spot_of b.at))) l)) e);
  entity_stood = λ b. sym (ap (λ (l : List (ℕ × Entity)). is_some (lookup (is_at (nat_cmp b.id)) l)) f);
  own_ids = subst (AllByRecursion (λ (x : ℕ × Entity). x.0 ≡ x.1.id)) (sym f) tt;
  spots = subst (λ (l : List (Spot × ℕ)). IsStrictlySortedBy spot_cmp (keys_of l)) (sym e) (sorted_none spot_cmp);
  ids = subst (λ (l : List (ℕ × Entity)). IsStrictlySortedBy nat_cmp (keys_of l)) (sym f) (sorted_none nat_cmp);
}

-- ---- behind the last line

ends_early : (rows : List Row) (line : ℕ) (grid : Option Grid) (bs : List (Spot × ℕ)) (es : List (ℕ × Entity)) → StandsFor rows None grid bs es → bad_from kinds.World rows line [] ≡ Some (line, causes.Missing)
unfolding bad_from
ends_early rows line None bs es s = ap (λ (rs : List Row). bad_from kinds.World rs line []) s.0
ends_early rows line (Some g) bs es s = absurd s

one_row_bad : (v line : ℕ) → bad_from kinds.World (version_row v ∷ []) line [] ≡ Some (line, causes.Missing)
unfolding bad_from
one_row_bad v line = refl

whole : (v : ℕ) (g : Grid) (rs : List Row) (line : ℕ) → bad_from kinds.World (version_row v ∷ grid_row g ∷ rs) line [] ≡ None
unfolding bad_from
whole v g rs line = refl

pub no_version : (bytes : List ℕ) (b : WorldBefore) (line : ℕ) → IsRead bytes b line → b.version ≡ None → first_bad kinds.World bytes ≡ Some (line, causes.Missing)
no_version bytes b line r e = sym r.bad ∙ ends_early r.rows line b.grid (entries_in b.blocks) (entries_in b.entities) (subst (λ (v : Option ℕ). StandsFor r.rows v b.grid (entries_in b.blocks) (entries_in b.entities)) e r.stands)

pub no_grid : (bytes : List ℕ) (b : WorldBefore) (line v : ℕ) → IsRead bytes b line → b.version ≡ Some v → b.grid ≡ None → first_bad kinds.World bytes ≡ Some (line, causes.Missing)
no_grid bytes b line v r e f =
    let s = subst (λ (g : Option Grid). StandsFor r.rows (Some v) g (entries_in b.blocks) (entries_in b.entities)) f (subst (λ (x : Option ℕ). StandsFor r.rows x b.grid (entries_in b.blocks) (entries_in b.entities)) e r.stands) in
    sym r.bad ∙ ap (λ (rs : List Row). bad_from kinds.World rs line []) s.0 ∙ one_row_bad v line

pub opened : (bytes : List ℕ) (b : WorldBefore) (line v : ℕ) (g : Grid) → IsRead bytes b line → b.version ≡ Some v → b.grid ≡ Some g → IsWorldText bytes (record { version = v; grid = g; blocks = stored_blocks (entries_in b.blocks); entities = values_of (entries_in b.entities) })
opened bytes b line v g r e f =
    let s = subst (λ (x : Option Grid). StandsFor r.rows (Some v) x (entries_in b.blocks) (entries_in b.entities)) f (subst (λ (x : Option ℕ). StandsFor r.rows x b.grid (entries_in b.blocks) (entries_in b.entities)) e r.stands) in
    let good : first_bad kinds.World bytes ≡ None = sym r.bad ∙ ap (λ (rs : List Row). bad_from kinds.World rs line []) s.1 ∙ whole v g (map item_row s.0) line in
    let spelled = valid_is_spelled kinds.World bytes good in
    let all : spelled.0 ≡ world_rows v g s.0 = sym (spelled_is_valid kinds.World bytes spelled.0 spelled.1).1 ∙ sym r.all ∙ s.1 in
    record {
      items = s.0;
      lines = subst (Spells kinds.World bytes) all spelled.1;
      blocks = s.2.from_blocks;
      entities = s.2.from_entities;
      blocks_in_order = stored_in_order (entries_in b.blocks) s.2.spots;
      entities_in_order = subst (IsStrictlySortedBy nat_cmp) (sym (ids_are_keys (entries_in b.entities) s.2.own_ids)) s.2.ids;
    }
