-- What a world's reader keeps stands for the rows before, after each row.
use Rattle.std.proofs.Common.{◌≡◌, ℕ, ◌<◌, ◌≤◌, ◌^◌, Bool, true, false, cond, ◌&&◌, ◌||◌, List, [], ◌∷◌, ◌++◌, Option, Some, None, pos, refl, sym, ap, subst, ◌∙◌, arith}
use Rattle.std.specs.Prelude.{is_none, is_some, nat_le}
use Rattle.std.specs.List.{AllByRecursion, list_any, flat_map}
use Rattle.std.specs.Ordering.{nat_cmp, int_cmp, int_eq, is_eq}
use Rattle.std.proofs.lemmas.Bool.Decides.{nat_tests}
use Rattle.std.specs.BTreeMap.{is_at, insert_entry}
use Rattle.std.specs.Map.{lookup, keys_of}
use Rattle.std.specs.List.Sorted.{IsPermutation, IsStrictlySortedBy}
use Rattle.std.proofs.lemmas.Bool.{and_parts, leb-true}
use Rattle.std.proofs.lemmas.List.{map-append}
use Rattle.std.proofs.lemmas.List.Folds.{list_any-append}
use Rattle.std.proofs.lemmas.List.Sorted.{IsPermutation-trans, IsPermutation-append_comm, IsPermutation-append_right, IsPermutation-push_more}
use Rattle.fol_model.specs.declared.openings.BlockAt.{BlockAt}
use Rattle.fol_model.specs.declared.entities.Entity.{Entity}
use Rattle.fol_model.specs.declared.grids.Grid.{Grid}
use Rattle.fol_model.specs.declared.words.Keyword.{Keyword}
use Rattle.fol_model.specs.declared.words.Keyword.TheVariants as keys
use Rattle.fol_model.specs.declared.words.TextKind.TheVariants as kinds
use Rattle.fol_model.specs.declared.words.Cell.{Cell}
use Rattle.fol_model.specs.Geometry.{is_block}
use Rattle.fol_model.specs.GridNumbers.{IsGrid}
use Rattle.fol_model.specs.Limits.{is_entity}
use Rattle.fol_model.specs.TextForms.{line_form}
use Rattle.fol_model.specs.TextCauses.{Row, is_twice}
use Rattle.fol_model.specs.TextRows.{IsRow}
use Rattle.fol_model.specs.Texts.{Item, block, entity, item_row, grid_row, blocks_in, entities_in, stored}
use Rattle.fol_text_laws.specs.SameItem.{is_same_item}
use Rattle.fol_text_laws.specs.RowValues.{natural_in, block_in_cells, block_of, entity_of, grid_of}
use Rattle.fol_text_laws.proofs.Items.{twice_is, at_end, still}
use Rattle.fol_text_laws.proofs.Worlds.{row, item_tells, version_tells, grid_tells}
use Rattle.fol_script.specs.declared.world_lines.Spot.{Spot}
use Rattle.fol_script.specs.WorldRows.{version_row, behind}
use Rattle.fol_script.specs.Kept.{Keeps}
use Rattle.fol_script.specs.WorldMaps.{spot_of, stored_blocks, values_of}
use Rattle.fol_script.specs.WorldBefore.{spot_cmp, misplaced_in, Holds, StandsFor}
use Rattle.fol_script.proofs.WorldMaps.{stored_more, values_more, all_more, same_spot}

-- ---- the first two rows

pub version_taken : (version : Option ℕ) (grid : Option Grid) (bs : List (Spot × ℕ)) (es : List (ℕ × Entity)) (cs : List Cell) (rows : List Row) → misplaced_in version grid keys.World ≡ false → IsRow kinds.World (row keys.World cs) → StandsFor rows version grid bs es
    → StandsFor (rows ++ row keys.World cs ∷ []) (Some (natural_in 0 cs)) grid bs es
version_taken None None bs es cs rows m is s =
    (ap (λ (rs : List Row). rs ++ row keys.World cs ∷ []) s.0 ∙ ap (λ (r : Row). r ∷ []) (sym (version_tells (row keys.World cs) is refl).0), s.1)
version_taken None (Some g) bs es cs rows m is s = absurd s
version_taken (Some v) None bs es cs rows m is s = absurd (let k = m in cc)
version_taken (Some v) (Some g) bs es cs rows m is s = absurd (let k = m in cc)

pub grid_taken : (version : Option ℕ) (grid : Option Grid) (bs : List (Spot × ℕ)) (es : List (ℕ × Entity)) (cs : List Cell) (rows : List Row) → misplaced_in version grid keys.Grid ≡ false → IsRow kinds.World (row keys.Grid cs) → StandsFor rows version grid bs es
    → StandsFor (rows ++ row keys.Grid cs ∷ []) version (Some (grid_of cs)) bs es
grid_taken None None bs es cs rows m is s = absurd (let k = m in cc)
grid_taken None (Some g) bs es cs rows m is s = absurd s
grid_taken (Some v) None bs es cs rows m is s =
    ([], ap (λ (rs : List Row). rs ++ row keys.Grid cs ∷ []) s.0 ∙ ap (λ (r : Row). version_row v ∷ r ∷ []) (sym (grid_tells (row keys.Grid cs) is refl).0), s.1)
grid_taken (Some v) (Some g) bs es cs rows m is s = absurd (let k = m in cc)

-- ---- blocks and entities

or_false : (b : Bool) → (b || false) ≡ b
or_false true = refl
or_false false = refl

or_true : (b : Bool) → (b || true) ≡ true
or_true true = refl
or_true false = refl

found_more : {X : Type 0} (old : Bool) (here : Bool) (o p : Option X) (v : X) → old ≡ is_some o → p ≡ cond here (Some v) o → (old || (here || false)) ≡ is_some p
found_more old true o p v e f = rw f (or_true old)
found_more old false o p v e f = rw f (or_false old ∙ e)

is_absent : {X : Type 0} (o : Option X) → is_some o ≡ false → o ≡ None
is_absent None e = refl
is_absent (Some x) e = absurd cc

block_end : (f : Item → Bool) (items : List Item) (t : Item) → f t ≡ false → list_any f (items ++ t ∷ []) ≡ list_any f items
block_end f items t e = list_any-append f items (t ∷ []) ∙ ap (λ (b : Bool). list_any f items || (b || false)) e ∙ or_false (list_any f items)

pub block_held : (items : List Item) (bs cs : List (Spot × ℕ)) (es : List (ℕ × Entity)) (b : BlockAt) (stood : Bool) → Holds items bs es → is_some (lookup (is_at (spot_cmp (spot_of b.at))) bs) ≡ false
    → Keeps spot_cmp bs cs (spot_of b.at) b.id stood → Holds (items ++ block b ∷ []) cs es
block_held items bs cs es b stood h absent keeps =
    let none : lookup (is_at (spot_cmp (spot_of b.at))) bs ≡ None = is_absent (lookup (is_at (spot_cmp (spot_of b.at))) bs) absent in
    record {
      from_blocks =
          let all : flat_map blocks_in (items ++ block b ∷ []) ≡ flat_map blocks_in items ++ stored b.id b = at_end blocks_in items (block b) (stored b.id b) refl in
          let p = IsPermutation-trans (flat_map blocks_in items ++ stored b.id b) (stored b.id b ++ flat_map blocks_in items) (stored_blocks (insert_entry spot_cmp bs (spot_of b.at) b.id))
          (IsPermutation-append_comm (flat_map blocks_in items) (stored b.id b))
          (IsPermutation-trans (stored b.id b ++ flat_map blocks_in items) (stored b.id b ++ stored_blocks bs) (stored_blocks (insert_entry spot_cmp bs (spot_of b.at) b.id))
          (IsPermutation-append_right (stored b.id b) (flat_map blocks_in items) (stored_blocks bs) h.from_blocks) (stored_more (spot_of b.at) b.id bs none)) in
          subst (λ (l : List BlockAt). IsPermutation l (stored_blocks cs)) (sym all) (subst (λ (l : List (Spot × ℕ)). IsPermutation (flat_map blocks_in items ++ stored b.id b) (stored_blocks l)) (sym keeps.entries) p);
      from_entities = subst (λ (l : List Entity). IsPermutation l (values_of es)) (sym (still entities_in items (block b) refl)) h.from_entities;
      block_stood = λ c. list_any-append (λ s. is_same_item s (block c)) items (block b ∷ []) ∙ ap (λ (x : Bool). list_any (λ s. is_same_item s (block c)) items || (x || false)) (same_spot b c)
          ∙ found_more (list_any (λ s. is_same_item s (block c)) items) (is_eq (spot_cmp (spot_of b.at) (spot_of c.at))) (lookup (is_at (spot_cmp (spot_of c.at))) bs) (lookup (is_at (spot_cmp (spot_of c.at))) cs) b.id (h.block_stood c) (keeps.updates (spot_of c.at));
      entity_stood = λ e. block_end (λ s. is_same_item s (entity e)) items (block b) refl ∙ h.entity_stood e;
      own_ids = h.own_ids;
      spots = keeps.ordered;
      ids = h.ids;
    }

nat_int : (a b : ℕ) → int_cmp (pos a) (pos b) ≡ nat_cmp a b
nat_int a b = grind (arith, nat_tests)

and_true : (b : Bool) → (b && true) ≡ b
and_true true = refl
and_true false = refl

same_id : (a b : Entity) → is_same_item (entity a) (entity b) ≡ is_eq (nat_cmp a.id b.id)
same_id a b = and_true (int_eq (pos a.id) (pos b.id)) ∙ ap is_eq (nat_int a.id b.id)

pub entity_held : (items : List Item) (bs : List (Spot × ℕ)) (es fs : List (ℕ × Entity)) (e : Entity) (stood : Bool) → Holds items bs es → is_some (lookup (is_at (nat_cmp e.id)) es) ≡ false
    → Keeps nat_cmp es fs e.id e stood → Holds (items ++ entity e ∷ []) bs fs
entity_held items bs es fs e stood h absent keeps =
    let none : lookup (is_at (nat_cmp e.id)) es ≡ None = is_absent (lookup (is_at (nat_cmp e.id)) es) absent in
    record {
      from_blocks = subst (λ (l : List BlockAt). IsPermutation l (stored_blocks bs)) (sym (still blocks_in items (entity e) refl)) h.from_blocks;
      from_entities =
          let all : flat_map entities_in (items ++ entity e ∷ []) ≡ flat_map entities_in items ++ e ∷ [] = at_end entities_in items (entity e) (e ∷ []) refl in
          let p = IsPermutation-push_more (flat_map entities_in items) (values_of es) (values_of (insert_entry nat_cmp es e.id e)) e h.from_entities (values_more nat_cmp e.id e es none) in
          subst (λ (l : List Entity). IsPermutation l (values_of fs)) (sym all) (subst (λ (l : List (ℕ × Entity)). IsPermutation (flat_map entities_in items ++ e ∷ []) (values_of l)) (sym keeps.entries) p);
      block_stood = λ c. block_end (λ s. is_same_item s (block c)) items (entity e) refl ∙ h.block_stood c;
      entity_stood = λ c. list_any-append (λ s. is_same_item s (entity c)) items (entity e ∷ []) ∙ ap (λ (x : Bool). list_any (λ s. is_same_item s (entity c)) items || (x || false)) (same_id e c)
          ∙ found_more (list_any (λ s. is_same_item s (entity c)) items) (is_eq (nat_cmp e.id c.id)) (lookup (is_at (nat_cmp c.id)) es) (lookup (is_at (nat_cmp c.id)) fs) e (h.entity_stood c) (keeps.updates c.id);
      own_ids = subst (AllByRecursion (λ (x : ℕ × Entity). x.0 ≡ x.1.id)) (sym keeps.entries) (all_more (λ x. x.0 ≡ x.1.id) nat_cmp e.id e es none refl h.own_ids);
      spots = h.spots;
      ids = keeps.ordered;
    }

-- ---- a row of a block or an entity

one_more : (version : ℕ) (grid : Grid) (done : List Item) (t : Item) (r : Row) (rows : List Row) → rows ≡ behind version grid done → item_row t ≡ r → rows ++ r ∷ [] ≡ behind version grid (done ++ t ∷ [])
one_more version grid done t r rows e f =
    (λ i. e i ++ sym f i ∷ []) ∙ ap (λ (l : List Row). version_row version ∷ grid_row grid ∷ l) (sym (map-append item_row done (t ∷ [])))

twice_at : (version : ℕ) (grid : Grid) (done : List Item) (t : Item) (r : Row) (rows : List Row) → rows ≡ behind version grid done → item_row t ≡ r → is_twice rows r ≡ list_any (λ s. is_same_item s t) done
twice_at version grid done t r rows e f = (λ i. is_twice (e i) (sym f i)) ∙ twice_is (version_row version) (grid_row grid) done t refl refl

pub block_taken : (version : Option ℕ) (grid : Option Grid) (bs ds : List (Spot × ℕ)) (es : List (ℕ × Entity)) (cs : List Cell) (twice : Bool) (rows : List Row) → misplaced_in version grid keys.Block ≡ false → IsRow kinds.World (row keys.Block cs)
    → (IsStrictlySortedBy spot_cmp (keys_of bs) → Keeps spot_cmp bs ds (spot_of (block_in_cells 0 cs)) (natural_in 3 cs) twice)
    → StandsFor rows version grid bs es → (twice ≡ is_twice rows (row keys.Block cs)) × (twice ≡ false → StandsFor (rows ++ row keys.Block cs ∷ []) version grid ds es)
block_taken None grid bs ds es cs twice rows m is kept s = absurd (let k = m in cc)
block_taken (Some v) None bs ds es cs twice rows m is kept s = absurd (let k = m in cc)
block_taken (Some v) (Some g) bs ds es cs twice rows m is kept s =
    let tells : item_row (block (block_of cs)) ≡ row keys.Block cs = (item_tells (row keys.Block cs) is refl).0 in
    let keeps = kept s.2.spots in (
      keeps.stood ∙ sym (s.2.block_stood (block_of cs)) ∙ sym (twice_at v g s.0 (block (block_of cs)) (row keys.Block cs) rows s.1 tells),
      λ no. (s.0 ++ block (block_of cs) ∷ [], one_more v g s.0 (block (block_of cs)) (row keys.Block cs) rows s.1 tells, block_held s.0 bs ds es (block_of cs) twice s.2 (sym keeps.stood ∙ no) keeps),
    )

pub entity_taken : (version : Option ℕ) (grid : Option Grid) (bs : List (Spot × ℕ)) (es fs : List (ℕ × Entity)) (cs : List Cell) (twice : Bool) (rows : List Row) → misplaced_in version grid keys.Entity ≡ false → IsRow kinds.World (row keys.Entity cs)
    → (IsStrictlySortedBy nat_cmp (keys_of es) → Keeps nat_cmp es fs (natural_in 0 cs) (entity_of cs) twice)
    → StandsFor rows version grid bs es → (twice ≡ is_twice rows (row keys.Entity cs)) × (twice ≡ false → StandsFor (rows ++ row keys.Entity cs ∷ []) version grid bs fs)
entity_taken None grid bs es fs cs twice rows m is kept s = absurd (let k = m in cc)
entity_taken (Some v) None bs es fs cs twice rows m is kept s = absurd (let k = m in cc)
entity_taken (Some v) (Some g) bs es fs cs twice rows m is kept s =
    let tells : item_row (entity (entity_of cs)) ≡ row keys.Entity cs = (item_tells (row keys.Entity cs) is refl).0 in
    let keeps = kept s.2.ids in (
      keeps.stood ∙ sym (s.2.entity_stood (entity_of cs)) ∙ sym (twice_at v g s.0 (entity (entity_of cs)) (row keys.Entity cs) rows s.1 tells),
      λ no. (s.0 ++ entity (entity_of cs) ∷ [], one_more v g s.0 (entity (entity_of cs)) (row keys.Entity cs) rows s.1 tells, entity_held s.0 bs es fs (entity_of cs) twice s.2 (sym keeps.stood ∙ no) keeps),
    )

-- ---- limits

pub block_limits : (cs : List Cell) → IsRow kinds.World (row keys.Block cs) → (is_block (block_in_cells 0 cs) ≡ true) × (natural_in 3 cs < 2 ^ 16)
block_limits cs is =
    let p = and_parts (is_block (block_in_cells 0 cs)) (nat_le (natural_in 3 cs) 65535) (item_tells (row keys.Block cs) is refl).1 in
    let l = leb-true (natural_in 3 cs) 65535 p.1 in
    (p.0, omega (arith, l))

pub entity_limits : (cs : List Cell) → IsRow kinds.World (row keys.Entity cs) → is_entity (entity_of cs) ≡ true
entity_limits cs is = (item_tells (row keys.Entity cs) is refl).1

pub version_limit : (cs : List Cell) → IsRow kinds.World (row keys.World cs) → natural_in 0 cs ≤ 2
version_limit cs is = (version_tells (row keys.World cs) is refl).1

pub grid_limits : (cs : List Cell) → IsRow kinds.World (row keys.Grid cs) → IsGrid (grid_of cs)
grid_limits cs is = (grid_tells (row keys.Grid cs) is refl).1

-- the only line word that is left
pub entity_key : (key : Keyword) → is_none (line_form kinds.World key) ≡ false → (key ≡ keys.World → ⊥) → (key ≡ keys.Grid → ⊥) → (key ≡ keys.Block → ⊥) → key ≡ keys.Entity
entity_key keys.World h w g b = absurd (w refl)
entity_key keys.Grid h w g b = absurd (g refl)
entity_key keys.Block h w g b = absurd (b refl)
entity_key keys.Entity h w g b = refl
entity_key keys.Load h w g b = absurd cc
entity_key keys.Unload h w g b = absurd cc
entity_key keys.Post h w g b = absurd cc
entity_key keys.Every h w g b = absurd cc
entity_key keys.Run h w g b = absurd cc
entity_key keys.End h w g b = absurd cc
entity_key keys.Set h w g b = absurd cc
entity_key keys.Copy h w g b = absurd cc
entity_key keys.Send h w g b = absurd cc
entity_key keys.Arrive h w g b = absurd cc
