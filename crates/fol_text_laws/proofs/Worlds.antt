-- The rows of a world are those of an opening, and the other way round.
use Rattle.std.proofs.Common.{◌≡◌, ℕ, zero, suc, ◌≤◌, ◌≤ℤ◌, ℤ, pos, negsuc, Bool, true, false, not, ◌&&◌, ◌||◌, List, [], ◌∷◌, ◌++◌, map, nat_abs, refl, sym, ap, subst, ◌∙◌, arith, append_assoc}
use borrow.Author.Differences.{ints}
use Rattle.std.specs.Prelude.{is_none, nat_le, nat_lt}
use Rattle.std.specs.List.{AllByRecursion, list_all, list_any, flat_map}
use Rattle.std.proofs.lemmas.Bool.{and_parts, and_from, lt-ltb, le-leb, leb-true, ltb-true}
use Rattle.std.proofs.lemmas.List.{map-append, append-nil}
use Rattle.fol_model.specs.declared.openings.BlockAt.{BlockAt}
use Rattle.fol_model.specs.declared.openings.Opening.{Opening}
use Rattle.fol_model.specs.declared.entities.Entity.{Entity}
use Rattle.fol_model.specs.declared.grids.Grid.{Grid}
use Rattle.fol_model.specs.GridNumbers.{IsGrid}
use Rattle.fol_model.specs.declared.words.Keyword.{Keyword}
use Rattle.fol_model.specs.declared.words.Keyword.TheVariants as keys
use Rattle.fol_model.specs.declared.words.TextKind.TheVariants as kinds
use Rattle.fol_model.specs.declared.words.Cell.{Cell}
use Rattle.fol_model.specs.declared.words.Cell.TheVariants as cells
use Rattle.fol_model.specs.Geometry.{is_block}
use Rattle.fol_model.specs.Limits.{is_entity, is_entity_id}
use Rattle.fol_model.specs.OpeningParts.{IsOpening, is_block_at}
use Rattle.fol_model.specs.TextForms.{side, upto, speed, line_form}
use Rattle.fol_model.specs.TextCauses.{Row, is_key, is_twice, is_out_of_order, is_too_much, number_at, or_nothing}
use Rattle.fol_model.specs.TextRows.{Fits, IsRow, Follow}
use Rattle.fol_model.specs.ActionCells.{natural_cell, block_cells}
use Rattle.fol_model.specs.Texts.{Item, block, entity, item_row, grid_row, world_rows, blocks_in, entities_in, stored}
use Rattle.fol_text_laws.specs.Printed.{items_of}
use Rattle.fol_text_laws.proofs.Ranges.{in_block, in_range, range_in}
use Rattle.fol_text_laws.proofs.Cells.{nothing_left, number_first, natural_first, block_first}
use Rattle.fol_text_laws.proofs.Deeds.{block_fits, number_fits}
use Rattle.fol_text_laws.specs.SameItem.{is_same_item}
use Rattle.fol_text_laws.specs.RowValues.{item_of, grid_of, natural_in}
use Rattle.fol_text_laws.proofs.Items.{twice_is, Ordered, none_ordered, order_more, Distinct, Fresh, fresh_next, all_fresh, items_distinct}

abbrev pub row : Keyword → List Cell → Row
row key cs = record { key = key; cells = cs }

line_row : (r : Row) (key : Keyword) (cs : List Cell) → r.key ≡ key → r.cells ≡ cs → row key cs ≡ r
line_row r key cs k e = λ i. record { key = sym k i; cells = sym e i }

world_fits : (r : Row) (key : Keyword) → r.key ≡ key → IsRow kinds.World r → Fits (or_nothing (line_form kinds.World key)) r.cells
world_fits r key k is = subst (λ (q : Keyword). Fits (or_nothing (line_form kinds.World q)) r.cells) k is.fits

-- ---- the first row

abbrev pub version_row : ℕ → Row
version_row version = row keys.World (natural_cell version ∷ [])

record VersionOf (r : Row) : Type 0 where
  version : ℕ
  is : version_row version ≡ r
  low : 1 ≤ version
  high : version ≤ 2

version_at : (r : Row) → r.key ≡ keys.World → IsRow kinds.World r → VersionOf r
version_at r k is =
    let n = natural_first 1 2 [] r.cells (world_fits r keys.World k is) in
    record { version = n.n; is = line_row r keys.World (natural_cell n.n ∷ []) k (n.is ∙ ap (λ (l : List Cell). natural_cell n.n ∷ l) (nothing_left n.rest n.fits)); low = n.at_least; high = n.at_most }

-- ---- the second row

record GridOf (r : Row) : Type 0 where
  grid : Grid
  is : grid_row grid ≡ r
  within : IsGrid grid

grid_at : (r : Row) → r.key ≡ keys.Grid → IsRow kinds.World r → GridOf r
grid_at r k is =
    let a = natural_first 0 5 (upto 1 8 ∷ upto 1 4 ∷ upto 1 16384 ∷ upto 0 1000 ∷ upto 1 1000 ∷ []) r.cells (world_fits r keys.Grid k is) in
    let b = natural_first 1 8 (upto 1 4 ∷ upto 1 16384 ∷ upto 0 1000 ∷ upto 1 1000 ∷ []) a.rest a.fits in
    let c = natural_first 1 4 (upto 1 16384 ∷ upto 0 1000 ∷ upto 1 1000 ∷ []) b.rest b.fits in
    let d = natural_first 1 16384 (upto 0 1000 ∷ upto 1 1000 ∷ []) c.rest c.fits in
    let e = natural_first 0 1000 (upto 1 1000 ∷ []) d.rest d.fits in
    let f = natural_first 1 1000 [] e.rest e.fits in
    let g : Grid = record { shift = a.n; create = b.n; merge = c.n; min = d.n; num = e.n; den = f.n } in
    let all : r.cells ≡ (grid_row g).cells =
    a.is ∙ ap (λ (l : List Cell). natural_cell a.n ∷ l) (b.is ∙ ap (λ (l : List Cell). natural_cell b.n ∷ l) (c.is ∙ ap (λ (l : List Cell). natural_cell c.n ∷ l)
    (d.is ∙ ap (λ (l : List Cell). natural_cell d.n ∷ l) (e.is ∙ ap (λ (l : List Cell). natural_cell e.n ∷ l) (f.is ∙ ap (λ (l : List Cell). natural_cell f.n ∷ l) (nothing_left f.rest f.fits)))))) in
    record {
      grid = g;
      is = line_row r keys.Grid (grid_row g).cells k all;
      within = record { shift = a.at_most; create_low = b.at_least; create_high = b.at_most; merge_low = c.at_least; merge_high = c.at_most; min_low = d.at_least; min_high = d.at_most; num = e.at_most; den_low = f.at_least; den_high = f.at_most };
    }

-- ---- the other rows

-- within the limits; a block with number 0 too
abbrev pub is_item : Item → Bool
is_item (block b) = is_block b.at && nat_le b.id 65535
is_item (entity e) = is_entity e

pub record ItemOf (r : Row) : Type 0 where
  pub item : Item
  pub is : item_row item ≡ r
  pub within : is_item item ≡ true

block_at : (r : Row) → r.key ≡ keys.Block → IsRow kinds.World r → ItemOf r
block_at r k is =
    let b = block_first (upto 0 65535 ∷ []) r.cells (world_fits r keys.Block k is) in
    let i = natural_first 0 65535 [] b.rest b.fits in
    let e : r.cells ≡ block_cells b.at ++ natural_cell i.n ∷ [] = b.is ∙ ap (λ (l : List Cell). block_cells b.at ++ l) (i.is ∙ ap (λ (l : List Cell). natural_cell i.n ∷ l) (nothing_left i.rest i.fits)) in
    record {
      item = block (record { at = b.at; id = i.n });
      is = line_row r keys.Block (block_cells b.at ++ natural_cell i.n ∷ []) k e;
      within = and_from (is_block b.at) (nat_le i.n 65535) (in_block b.at b.within) (le-leb i.n 65535 i.at_most);
    }

size_of : (z : ℤ) → negsuc 15 ≤ℤ z → z ≤ℤ pos 16 → nat_abs z ≤ 16
size_of (pos n) l h = omega (arith, ints)
size_of (negsuc n) l h = omega (arith, ints)

of_size : (z : ℤ) → nat_abs z ≤ 16 → (negsuc 15 ≤ℤ z) × (z ≤ℤ pos 16)
of_size (pos n) h = (omega (arith, ints), omega (arith, ints))
of_size (negsuc n) h = (omega (arith, ints), omega (arith, ints))

entity_within : (e : Entity) → 1 ≤ e.id → e.id ≤ 1000000000 → is_block e.at ≡ true → nat_abs e.vx ≤ 16 → nat_abs e.vz ≤ 16 → is_entity e ≡ true
unfolding is_entity is_entity_id
entity_within e l h b x z = and_from (nat_le 1 e.id && nat_le e.id 1000000000) (is_block e.at && (nat_le (nat_abs e.vx) 16 && nat_le (nat_abs e.vz) 16)) (in_range 1 e.id 1000000000 l h)
    (and_from (is_block e.at) (nat_le (nat_abs e.vx) 16 && nat_le (nat_abs e.vz) 16) b (and_from (nat_le (nat_abs e.vx) 16) (nat_le (nat_abs e.vz) 16) (le-leb (nat_abs e.vx) 16 x) (le-leb (nat_abs e.vz) 16 z)))

pub record EntityWithin (e : Entity) : Type 0 where
  pub low : 1 ≤ e.id
  pub high : e.id ≤ 1000000000
  pub at : is_block e.at ≡ true
  pub vx : nat_abs e.vx ≤ 16
  pub vz : nat_abs e.vz ≤ 16

pub within_entity : (e : Entity) → is_entity e ≡ true → EntityWithin e
unfolding is_entity is_entity_id
within_entity e h =
    let p = and_parts (nat_le 1 e.id && nat_le e.id 1000000000) (is_block e.at && (nat_le (nat_abs e.vx) 16 && nat_le (nat_abs e.vz) 16)) h in
    let n = range_in 1 e.id 1000000000 p.0 in
    let q = and_parts (is_block e.at) (nat_le (nat_abs e.vx) 16 && nat_le (nat_abs e.vz) 16) p.1 in
    let v = and_parts (nat_le (nat_abs e.vx) 16) (nat_le (nat_abs e.vz) 16) q.1 in
    record { low = n.0; high = n.1; at = q.0; vx = leb-true (nat_abs e.vx) 16 v.0; vz = leb-true (nat_abs e.vz) 16 v.1 }

entity_at : (r : Row) → r.key ≡ keys.Entity → IsRow kinds.World r → ItemOf r
entity_at r k is =
    let n = natural_first 1 1000000000 (side ∷ upto 0 255 ∷ side ∷ speed ∷ speed ∷ []) r.cells (world_fits r keys.Entity k is) in
    let b = block_first (speed ∷ speed ∷ []) n.rest n.fits in
    let x = number_first (negsuc 15) (pos 16) (speed ∷ []) b.rest b.fits in
    let z = number_first (negsuc 15) (pos 16) [] x.rest x.fits in
    let all : r.cells ≡ natural_cell n.n ∷ block_cells b.at ++ cells.Number x.z ∷ cells.Number z.z ∷ [] =
    n.is ∙ ap (λ (l : List Cell). natural_cell n.n ∷ l) (b.is ∙ ap (λ (l : List Cell). block_cells b.at ++ l) (x.is ∙ ap (λ (l : List Cell). cells.Number x.z ∷ l) (z.is ∙ ap (λ (l : List Cell). cells.Number z.z ∷ l) (nothing_left z.rest z.fits)))) in
    let e : Entity = record { id = n.n; at = b.at; vx = x.z; vz = z.z } in
    record {
      item = entity e;
      is = line_row r keys.Entity (natural_cell n.n ∷ block_cells b.at ++ cells.Number x.z ∷ cells.Number z.z ∷ []) k all;
      within = entity_within e n.at_least n.at_most (in_block b.at b.within) (size_of x.z x.at_least x.at_most) (size_of z.z z.at_least z.at_most);
    }

item_with : (key : Keyword) (r : Row) → r.key ≡ key → IsRow kinds.World r → (is_key keys.World key || is_key keys.Grid key) ≡ false → is_none (line_form kinds.World key) ≡ false → ItemOf r
item_with keys.World r k is o h = absurd (let q = o in cc)
item_with keys.Grid r k is o h = absurd (let q = o in cc)
item_with keys.Block r k is o h = block_at r k is
item_with keys.Entity r k is o h = entity_at r k is
item_with keys.Load r k is o h = absurd (let q = h in cc)
item_with keys.Unload r k is o h = absurd (let q = h in cc)
item_with keys.Post r k is o h = absurd (let q = h in cc)
item_with keys.Every r k is o h = absurd (let q = h in cc)
item_with keys.Run r k is o h = absurd (let q = h in cc)
item_with keys.End r k is o h = absurd (let q = h in cc)
item_with keys.Set r k is o h = absurd (let q = h in cc)
item_with keys.Copy r k is o h = absurd (let q = h in cc)
item_with keys.Send r k is o h = absurd (let q = h in cc)
item_with keys.Arrive r k is o h = absurd (let q = h in cc)

pub item_at : (r : Row) → IsRow kinds.World r → (is_key keys.World r.key || is_key keys.Grid r.key) ≡ false → ItemOf r
item_at r is o = item_with r.key r refl is o is.is_line_word

-- ---- all rows

-- behind the two first rows and the rows of these items
abbrev pub behind : ℕ → Grid → List Item → List Row
behind version grid done = version_row version ∷ grid_row grid ∷ map item_row done

one_more : (version : ℕ) (grid : Grid) (done : List Item) (t : Item) → behind version grid (done ++ t ∷ []) ≡ behind version grid done ++ item_row t ∷ []
one_more version grid done t = ap (λ (l : List Row). version_row version ∷ grid_row grid ∷ l) (map-append item_row done (t ∷ []))

record ItemsOf (done : List Item) (rs : List Row) : Type 0 where
  items : List Item
  are : map item_row items ≡ rs
  each : list_all is_item items ≡ true
  order : Ordered (done ++ items)

items_more : (done : List Item) (t : Item) (r : Row) (rs : List Row) → item_row t ≡ r → is_item t ≡ true → ItemsOf (done ++ t ∷ []) rs → ItemsOf done (r ∷ rs)
items_more done t r rs e within later = record {
  items = t ∷ later.items;
  are = ap (λ (q : Row). q ∷ map item_row later.items) e ∙ ap (λ (qs : List Row). r ∷ qs) later.are;
  each = and_from (is_item t) (list_all is_item later.items) within later.each;
  order = subst Ordered (append_assoc done (t ∷ []) later.items) later.order;
}

items_at : (version : ℕ) (grid : Grid) (done : List Item) (rs : List Row) → Ordered done → Follow kinds.World (behind version grid done) rs → ItemsOf done rs
items_at version grid done [] o f = record { items = []; are = refl; each = refl; order = subst Ordered (sym (append-nil done)) o }
items_at version grid done (r ∷ rs) o f =
    let t = item_at r f.0 f.1 in
    let once : list_any (λ s. is_same_item s t.item) done ≡ false =
    sym (twice_is (version_row version) (grid_row grid) done t.item refl refl) ∙ ap (λ (q : Row). is_twice (behind version grid done) q) t.is ∙ f.2 in
    let next = subst (λ (l : List Row). Follow kinds.World l rs) (ap (λ (q : Row). behind version grid done ++ q ∷ []) (sym t.is) ∙ sym (one_more version grid done t.item)) f.4 in
    items_more done t.item r rs t.is t.within (items_at version grid (done ++ t.item ∷ []) rs (order_more done t.item once o) next)

-- the rows of a world, and what they tell
pub record WorldOf (rs : List Row) : Type 0 where
  pub version : ℕ
  pub grid : Grid
  pub items : List Item
  pub are : world_rows version grid items ≡ rs
  pub low : 1 ≤ version
  pub high : version ≤ 2
  pub within : IsGrid grid
  pub each : list_all is_item items ≡ true
  pub order : Ordered items

pub world_key : (key : Keyword) → not (is_key keys.World key) ≡ false → key ≡ keys.World
world_key keys.World h = refl
world_key keys.Grid h = absurd cc
world_key keys.Block h = absurd cc
world_key keys.Entity h = absurd cc
world_key keys.Load h = absurd cc
world_key keys.Unload h = absurd cc
world_key keys.Post h = absurd cc
world_key keys.Every h = absurd cc
world_key keys.Run h = absurd cc
world_key keys.End h = absurd cc
world_key keys.Set h = absurd cc
world_key keys.Copy h = absurd cc
world_key keys.Send h = absurd cc
world_key keys.Arrive h = absurd cc

pub grid_key : (key : Keyword) → not (is_key keys.Grid key) ≡ false → key ≡ keys.Grid
grid_key keys.World h = absurd cc
grid_key keys.Grid h = refl
grid_key keys.Block h = absurd cc
grid_key keys.Entity h = absurd cc
grid_key keys.Load h = absurd cc
grid_key keys.Unload h = absurd cc
grid_key keys.Post h = absurd cc
grid_key keys.Every h = absurd cc
grid_key keys.Run h = absurd cc
grid_key keys.End h = absurd cc
grid_key keys.Set h = absurd cc
grid_key keys.Copy h = absurd cc
grid_key keys.Send h = absurd cc
grid_key keys.Arrive h = absurd cc

pub world_at : (rs : List Row) → Follow kinds.World [] rs → WorldOf rs
world_at [] f = absurd (let k = f in cc)
world_at (r ∷ []) f = absurd (let k = f.4 in cc)
world_at (r ∷ s ∷ rs) f =
    let v = version_at r (world_key r.key f.1) f.0 in
    let g = grid_at s (grid_key s.key f.4.1) f.4.0 in
    let heads : r ∷ s ∷ [] ≡ behind v.version g.grid [] = ap (λ (q : Row). q ∷ s ∷ []) (sym v.is) ∙ ap (λ (q : Row). version_row v.version ∷ q ∷ []) (sym g.is) in
    let i = items_at v.version g.grid [] rs none_ordered (subst (λ (l : List Row). Follow kinds.World l rs) heads f.4.4) in
    record {
      version = v.version;
      grid = g.grid;
      items = i.items;
      are = ap (λ (q : Row). q ∷ grid_row g.grid ∷ map item_row i.items) v.is ∙ ap (λ (q : Row). r ∷ q ∷ map item_row i.items) g.is ∙ ap (λ (qs : List Row). r ∷ s ∷ qs) i.are;
      low = v.low;
      high = v.high;
      within = g.within;
      each = i.each;
      order = i.order;
    }

-- ---- one version, one grid and one list of items

abbrev item_from : Row → Item
item_from r = item_of r.key r.cells

item_again : (t : Item) → item_from (item_row t) ≡ t
item_again (block b) = refl
item_again (entity e) = refl

items_again : (ts : List Item) → map item_from (map item_row ts) ≡ ts
items_again [] = refl
items_again (t ∷ ts) = ap (λ (u : Item). u ∷ map item_from (map item_row ts)) (item_again t) ∙ ap (λ (us : List Item). t ∷ us) (items_again ts)

no_row : Row
no_row = row keys.End []

first_row : List Row → Row
first_row [] = no_row
first_row (r ∷ rs) = r

later_rows : List Row → List Row
later_rows [] = []
later_rows (r ∷ rs) = rs

pub record SameWorld (v w : ℕ) (g h : Grid) (ts us : List Item) : Type 0 where
  pub version : v ≡ w
  pub grid : g ≡ h
  pub items : ts ≡ us

pub same_world : (v w : ℕ) (g h : Grid) (ts us : List Item) → world_rows v g ts ≡ world_rows w h us → SameWorld v w g h ts us
unfolding first_row later_rows
same_world v w g h ts us e = record {
  version = ap (λ (rs : List Row). number_at 0 (first_row rs)) e;
  grid = ap (λ (rs : List Row). grid_of (first_row (later_rows rs)).cells) e;
  items = sym (items_again ts) ∙ ap (λ (rs : List Row). map item_from (later_rows (later_rows rs))) e ∙ items_again us;
}

-- ---- what a row tells

pub item_tells : (r : Row) → IsRow kinds.World r → (is_key keys.World r.key || is_key keys.Grid r.key) ≡ false → (item_row (item_of r.key r.cells) ≡ r) × (is_item (item_of r.key r.cells) ≡ true)
item_tells r is o =
    let t = item_at r is o in
    let e : item_of r.key r.cells ≡ t.item = ap item_from (sym t.is) ∙ item_again t.item in
    (ap item_row e ∙ t.is, subst (λ (u : Item). is_item u ≡ true) (sym e) t.within)

pub version_tells : (r : Row) → IsRow kinds.World r → r.key ≡ keys.World → (version_row (natural_in 0 r.cells) ≡ r) × (natural_in 0 r.cells ≤ 2)
version_tells r is k =
    let v = version_at r k is in
    let e : natural_in 0 r.cells ≡ v.version = ap (λ (q : Row). natural_in 0 q.cells) (sym v.is) in
    (ap version_row e ∙ v.is, subst (λ (n : ℕ). n ≤ 2) (sym e) v.high)

pub grid_tells : (r : Row) → IsRow kinds.World r → r.key ≡ keys.Grid → (grid_row (grid_of r.cells) ≡ r) × IsGrid (grid_of r.cells)
grid_tells r is k =
    let g = grid_at r k is in
    let e : grid_of r.cells ≡ g.grid = ap (λ (q : Row). grid_of q.cells) (sym g.is) in
    (ap grid_row e ∙ g.is, subst IsGrid (sym e) g.within)

-- ---- what the items come to is within the limits

pub stored_within : (n : ℕ) (b : BlockAt) → b.id ≡ n → is_item (block b) ≡ true → AllByRecursion (λ c. is_block_at c ≡ true) (stored n b)
stored_within zero b e h = tt
stored_within (suc n) b e h =
    let p = and_parts (is_block b.at) (nat_le b.id 65535) h in
    (and_from (is_block b.at) (nat_lt 0 b.id && nat_le b.id 65535) p.0 (and_from (nat_lt 0 b.id) (nat_le b.id 65535) (lt-ltb 0 b.id (omega (arith, e))) p.1), tt)

all_both : {X : Type 0} (P : X → Type 0) (xs ys : List X) → AllByRecursion P xs → AllByRecursion P ys → AllByRecursion P (xs ++ ys)
all_both P [] ys a b = b
all_both P (x ∷ xs) ys a b = (a.0, all_both P xs ys a.1 b)

pub blocks_within : (ts : List Item) → list_all is_item ts ≡ true → AllByRecursion (λ b. is_block_at b ≡ true) (flat_map blocks_in ts)
blocks_within [] h = tt
blocks_within (entity e ∷ ts) h = blocks_within ts (and_parts (is_item (entity e)) (list_all is_item ts) h).1
blocks_within (block b ∷ ts) h =
    let p = and_parts (is_item (block b)) (list_all is_item ts) h in
    all_both (λ c. is_block_at c ≡ true) (stored b.id b) (flat_map blocks_in ts) (stored_within b.id b refl p.0) (blocks_within ts p.1)

pub entities_within : (ts : List Item) → list_all is_item ts ≡ true → AllByRecursion (λ e. is_entity e ≡ true) (flat_map entities_in ts)
entities_within [] h = tt
entities_within (block b ∷ ts) h = entities_within ts (and_parts (is_item (block b)) (list_all is_item ts) h).1
entities_within (entity e ∷ ts) h =
    let p = and_parts (is_item (entity e)) (list_all is_item ts) h in
    (p.0, entities_within ts p.1)

pub all_pass : {X : Type 0} (p : X → Bool) (xs : List X) → AllByRecursion (λ x. p x ≡ true) xs → list_all p xs ≡ true
all_pass p [] a = refl
all_pass p (x ∷ xs) a = and_from (p x) (list_all p xs) a.0 (all_pass p xs a.1)

-- ---- the rows of an opening may stand in a world text

item_is_row : (t : Item) → is_item t ≡ true → IsRow kinds.World (item_row t)
item_is_row (block b) h =
    let p = and_parts (is_block b.at) (nat_le b.id 65535) h in
    record {
      is_line_word = refl;
      fits = block_fits b.at (upto 0 65535 ∷ []) (natural_cell b.id ∷ []) p.0 (number_fits 0 65535 b.id [] [] (omega arith) (leb-true b.id 65535 p.1) tt);
      nest = omega arith;
    }
item_is_row (entity e) h =
    let w = within_entity e h in
    let x = of_size e.vx w.vx in
    let z = of_size e.vz w.vz in
    record {
      is_line_word = refl;
      fits = number_fits 1 1000000000 e.id (side ∷ upto 0 255 ∷ side ∷ speed ∷ speed ∷ []) (block_cells e.at ++ cells.Number e.vx ∷ cells.Number e.vz ∷ []) w.low w.high
          (block_fits e.at (speed ∷ speed ∷ []) (cells.Number e.vx ∷ cells.Number e.vz ∷ []) w.at (x.0, x.1, (z.0, z.1, tt)));
      nest = omega arith;
    }

item_in_order : (version : ℕ) (grid : Grid) (done : List Item) (t : Item) → is_out_of_order kinds.World (behind version grid done) (item_row t) ≡ false
item_in_order version grid done (block b) = refl
item_in_order version grid done (entity e) = refl

item_counts_nothing : (rows : List Row) (t : Item) → is_too_much rows (item_row t) ≡ false
item_counts_nothing rows (block b) = refl
item_counts_nothing rows (entity e) = refl

items_follow : (version : ℕ) (grid : Grid) (done ts : List Item) → list_all is_item ts ≡ true → Distinct ts → Fresh done ts → Follow kinds.World (behind version grid done) (map item_row ts)
items_follow version grid done [] each d f = refl
items_follow version grid done (t ∷ ts) each d f =
    let p = and_parts (is_item t) (list_all is_item ts) each in
    let next = items_follow version grid (done ++ t ∷ []) ts p.1 d.1 (fresh_next done t ts d f) in (
      item_is_row t p.0,
      item_in_order version grid done t,
      twice_is (version_row version) (grid_row grid) done t refl refl ∙ f.0,
      item_counts_nothing (behind version grid done) t,
      subst (λ (l : List Row). Follow kinds.World l (map item_row ts)) (one_more version grid done t) next,
    )

version_is_row : (version : ℕ) → 1 ≤ version → version ≤ 2 → IsRow kinds.World (version_row version)
version_is_row version l h = record { is_line_word = refl; fits = number_fits 1 2 version [] [] l h tt; nest = omega arith }

grid_is_row : (g : Grid) → IsGrid g → IsRow kinds.World (grid_row g)
grid_is_row g is = record {
  is_line_word = refl;
  fits = number_fits 0 5 g.shift (upto 1 8 ∷ upto 1 4 ∷ upto 1 16384 ∷ upto 0 1000 ∷ upto 1 1000 ∷ []) (natural_cell g.create ∷ natural_cell g.merge ∷ natural_cell g.min ∷ natural_cell g.num ∷ natural_cell g.den ∷ []) (omega arith) is.shift
      (number_fits 1 8 g.create (upto 1 4 ∷ upto 1 16384 ∷ upto 0 1000 ∷ upto 1 1000 ∷ []) (natural_cell g.merge ∷ natural_cell g.min ∷ natural_cell g.num ∷ natural_cell g.den ∷ []) is.create_low is.create_high
      (number_fits 1 4 g.merge (upto 1 16384 ∷ upto 0 1000 ∷ upto 1 1000 ∷ []) (natural_cell g.min ∷ natural_cell g.num ∷ natural_cell g.den ∷ []) is.merge_low is.merge_high
      (number_fits 1 16384 g.min (upto 0 1000 ∷ upto 1 1000 ∷ []) (natural_cell g.num ∷ natural_cell g.den ∷ []) is.min_low is.min_high
      (number_fits 0 1000 g.num (upto 1 1000 ∷ []) (natural_cell g.den ∷ []) (omega arith) is.num
      (number_fits 1 1000 g.den [] [] is.den_low is.den_high tt)))));
  nest = omega arith;
}

blocks_are_items : (bs : List BlockAt) (es : List Entity) → list_all is_block_at bs ≡ true → list_all is_entity es ≡ true → list_all is_item (map block bs ++ map entity es) ≡ true
blocks_are_items [] [] b e = refl
blocks_are_items [] (x ∷ xs) b e = let p = and_parts (is_entity x) (list_all is_entity xs) e in and_from (is_entity x) (list_all is_item (map entity xs)) p.0 (blocks_are_items [] xs refl p.1)
blocks_are_items (x ∷ xs) es b e =
    let p = and_parts (is_block_at x) (list_all is_block_at xs) b in
    let q = and_parts (is_block x.at) (nat_lt 0 x.id && nat_le x.id 65535) p.0 in
    and_from (is_item (block x)) (list_all is_item (map block xs ++ map entity es)) (and_from (is_block x.at) (nat_le x.id 65535) q.0 (and_parts (nat_lt 0 x.id) (nat_le x.id 65535) q.1).1) (blocks_are_items xs es p.1 e)

pub opening_follows : (o : Opening) → IsOpening o → Follow kinds.World [] (world_rows o.version o.grid (items_of o))
opening_follows o is = (
  version_is_row o.version is.version_low is.version_high,
  refl,
  refl,
  refl,
  (
    grid_is_row o.grid is.grid,
    refl,
    refl,
    refl,
    items_follow o.version o.grid [] (items_of o) (blocks_are_items o.blocks o.entities is.each_block is.each_entity) (items_distinct o.blocks o.entities is.block_order is.entity_order) (all_fresh (items_of o)),
  ),
)

-- ---- the blocks and entities of an opening's items are its own

stored_whole : (n : ℕ) (b : BlockAt) → b.id ≡ n → is_block_at b ≡ true → stored n b ≡ b ∷ []
stored_whole zero b e h = absurd (let p = ltb-true 0 b.id (and_parts (nat_lt 0 b.id) (nat_le b.id 65535) (and_parts (is_block b.at) (nat_lt 0 b.id && nat_le b.id 65535) h).1).0 in omega (arith, p, e))
stored_whole (suc n) b e h = refl

no_blocks : (es : List Entity) → flat_map blocks_in (map entity es) ≡ []
no_blocks [] = refl
no_blocks (e ∷ es) = no_blocks es

all_entities : (es : List Entity) → flat_map entities_in (map entity es) ≡ es
all_entities [] = refl
all_entities (e ∷ es) = ap (λ (l : List Entity). e ∷ l) (all_entities es)

pub own_blocks : (bs : List BlockAt) (es : List Entity) → list_all is_block_at bs ≡ true → flat_map blocks_in (map block bs ++ map entity es) ≡ bs
own_blocks [] es h = no_blocks es
own_blocks (b ∷ bs) es h =
    let p = and_parts (is_block_at b) (list_all is_block_at bs) h in
    ap (λ (l : List BlockAt). l ++ flat_map blocks_in (map block bs ++ map entity es)) (stored_whole b.id b refl p.0) ∙ ap (λ (l : List BlockAt). b ∷ l) (own_blocks bs es p.1)

pub own_entities : (bs : List BlockAt) (es : List Entity) → flat_map entities_in (map block bs ++ map entity es) ≡ es
own_entities [] es = all_entities es
own_entities (b ∷ bs) es = own_entities bs es
