-- The rows of blocks and entities, and their order.
use Rattle.std.proofs.Common.{◌≡◌, ◌≢◌, ℕ, zero, suc, ℤ, pos, Bool, true, false, ◌&&◌, ◌||◌, inl, inr, List, [], ◌∷◌, ◌++◌, map, take, nat_abs, refl, sym, ap, subst, ◌∙◌}
use Rattle.std.specs.List.{AllByRecursion, list_any, flat_map}
use Rattle.std.specs.Cmp.{IsTotalOrder}
use Rattle.std.specs.Cmp.Lexicographic.{pointwise}
use Rattle.std.specs.Ordering.{int_eq, int_cmp, nat_cmp, is_eq, ordering_then}
use Rattle.std.specs.declared.cmp.Ordering.{Ordering}
use Rattle.std.specs.declared.cmp.Ordering.TheVariants.{Less, Equal, Greater}
use Rattle.std.specs.List.Sorted.{IsPermutation, IsStrictlySortedBy}
use Rattle.std.proofs.lemmas.Bool.{cases_Bool, and_parts, and_from, or_parts, or_from}
use Rattle.std.proofs.lemmas.Bool.Decides.{Decides-int_eq}
use Rattle.std.proofs.lemmas.Cmp.{nat_cmp_total, int_cmp_total, on_total, then_total, tied_itself, ranked}
use Rattle.std.proofs.lemmas.List.Sorted.{IsPermutation-refl}
use Rattle.std.proofs.lemmas.List.Folds.{list_any-append}
use Rattle.std.proofs.lemmas.Grind.{flat_map-append}
use Rattle.std.proofs.lemmas.List.{append-nil}
use Rattle.std.proofs.lemmas.Map.Keys.{sorted_head, sorted_tail}
use Rattle.fol_model.specs.declared.places.BlockPos.{BlockPos}
use Rattle.fol_model.specs.declared.openings.BlockAt.{BlockAt}
use Rattle.fol_model.specs.declared.entities.Entity.{Entity}
use Rattle.fol_model.specs.declared.words.Keyword.TheVariants as keys
use Rattle.fol_model.specs.Universe.{block_cmp}
use Rattle.fol_model.specs.TextCauses.{Row, is_key, numbers, is_twice}
use Rattle.fol_model.specs.Texts.{Item, block, entity, item_row, blocks_in, entities_in, stored}
use Rattle.fol_text_laws.specs.SameItem.{is_same_item}
use Rattle.fol_text_laws.proofs.Sorting.{insert_by, sort_more, sorted_none}

-- ---- orders

pub block_total : IsTotalOrder block_cmp
unfolding block_cmp
block_total = then_total (on_total (λ (b : BlockPos). b.x) int_cmp_total) (then_total (on_total (λ (b : BlockPos). b.y) int_cmp_total) (on_total (λ (b : BlockPos). b.z) int_cmp_total))

int_same : (x y : ℤ) → int_eq x y ≡ true → x ≡ y
int_same x y e = (Decides-int_eq x y).0 e

int_tie : (x y : ℤ) → int_cmp x y ≡ Equal → x ≡ y
int_tie x y e = int_same x y (ap is_eq e)

both_tie : (a b : Ordering) → ordering_then a b ≡ Equal → (a ≡ Equal) × (b ≡ Equal)
both_tie Less b e = absurd cc
both_tie Greater b e = absurd cc
both_tie Equal b e = (refl, e)

pub block_tie : (a b : BlockPos) → block_cmp a b ≡ Equal → a ≡ b
unfolding block_cmp
block_tie a b e =
    let p = both_tie (int_cmp a.x b.x) (ordering_then (int_cmp a.y b.y) (int_cmp a.z b.z)) e in
    let q = both_tie (int_cmp a.y b.y) (int_cmp a.z b.z) p.1 in
    let x = int_tie a.x b.x p.0 in
    let y = int_tie a.y b.y q.0 in
    let z = int_tie a.z b.z q.1 in
    λ i. record { x = x i; y = y i; z = z i }

nat_tie : (a b : ℕ) → nat_cmp a b ≡ Equal → a ≡ b
nat_tie a b e = ranked a b Equal (sym e)

int_itself : (z : ℤ) → int_eq z z ≡ true
int_itself z = ap is_eq (tied_itself int_cmp_total z)

-- ---- which items take the place of others

pub blocks_same : (a b : BlockAt) → is_same_item (block a) (block b) ≡ true → a.at ≡ b.at
blocks_same a b e =
    let p = and_parts (int_eq a.at.x b.at.x) (int_eq a.at.y b.at.y && (int_eq a.at.z b.at.z && true)) e in
    let q = and_parts (int_eq a.at.y b.at.y) (int_eq a.at.z b.at.z && true) p.1 in
    let r = and_parts (int_eq a.at.z b.at.z) true q.1 in
    let x = int_same a.at.x b.at.x p.0 in
    let y = int_same a.at.y b.at.y q.0 in
    let z = int_same a.at.z b.at.z r.0 in
    λ i. record { x = x i; y = y i; z = z i }

same_blocks : (a b : BlockAt) → a.at ≡ b.at → is_same_item (block a) (block b) ≡ true
same_blocks a b e =
    let k : is_same_item (block a) (block a) ≡ true =
    and_from (int_eq a.at.x a.at.x) (int_eq a.at.y a.at.y && (int_eq a.at.z a.at.z && true)) (int_itself a.at.x)
    (and_from (int_eq a.at.y a.at.y) (int_eq a.at.z a.at.z && true) (int_itself a.at.y) (and_from (int_eq a.at.z a.at.z) true (int_itself a.at.z) refl)) in
    subst (λ (p : BlockPos). is_same_item (block a) (block (record { at = p; id = b.id })) ≡ true) e k

pos_same : (a b : ℕ) → pos a ≡ pos b → a ≡ b
pos_same a b e = ap nat_abs e

entities_same : (a b : Entity) → is_same_item (entity a) (entity b) ≡ true → a.id ≡ b.id
entities_same a b e = pos_same a.id b.id (int_same (pos a.id) (pos b.id) (and_parts (int_eq (pos a.id) (pos b.id)) true e).0)

same_entities : (a b : Entity) → a.id ≡ b.id → is_same_item (entity a) (entity b) ≡ true
same_entities a b e = and_from (int_eq (pos a.id) (pos b.id)) true (subst (λ (n : ℕ). int_eq (pos a.id) (pos n) ≡ true) e (int_itself (pos a.id))) refl

-- ---- a line stands twice where its item does

or_false : (b : Bool) → (b || false) ≡ b
or_false true = refl
or_false false = refl

block_stood : (done : List Item) (b : BlockAt) → list_any (λ r. is_key keys.Block r.key && pointwise int_eq (take 3 (numbers r)) (take 3 (numbers (item_row (block b))))) (map item_row done) ≡ list_any (λ s. is_same_item s (block b)) done
block_stood [] b = refl
block_stood (block a ∷ done) b = ap (λ (x : Bool). is_same_item (block a) (block b) || x) (block_stood done b)
block_stood (entity a ∷ done) b = block_stood done b

entity_stood : (done : List Item) (e : Entity) → list_any (λ r. is_key keys.Entity r.key && pointwise int_eq (take 1 (numbers r)) (take 1 (numbers (item_row (entity e))))) (map item_row done) ≡ list_any (λ s. is_same_item s (entity e)) done
entity_stood [] e = refl
entity_stood (block a ∷ done) e = entity_stood done e
entity_stood (entity a ∷ done) e = ap (λ (x : Bool). is_same_item (entity a) (entity e) || x) (entity_stood done e)

-- behind the two first rows of a world
pub twice_is : (w g : Row) (done : List Item) (t : Item) → w.key ≡ keys.World → g.key ≡ keys.Grid → is_twice (w ∷ g ∷ map item_row done) (item_row t) ≡ list_any (λ s. is_same_item s t) done
twice_is w g done (block b) e f = rw (e, f) (or_false _ ∙ block_stood done b)
twice_is w g done (entity b) e f = rw (e, f) (entity_stood done b)

-- ---- the blocks and entities of the items, in order

pub record Ordered (items : List Item) : Type 0 where
  pub blocks : List BlockAt
  pub entities : List Entity
  pub from_blocks : IsPermutation (flat_map blocks_in items) blocks
  pub from_entities : IsPermutation (flat_map entities_in items) entities
  pub blocks_in_order : IsStrictlySortedBy block_cmp (map (λ b. b.at) blocks)
  pub entities_in_order : IsStrictlySortedBy nat_cmp (map (λ e. e.id) entities)

pub none_ordered : Ordered []
none_ordered = record {
  blocks = [];
  entities = [];
  from_blocks = IsPermutation-refl [];
  from_entities = IsPermutation-refl [];
  blocks_in_order = sorted_none block_cmp;
  entities_in_order = sorted_none nat_cmp;
}

apart_block : (a b : BlockAt) → is_same_item (block a) (block b) ≡ false → block_cmp b.at a.at ≢ Equal
apart_block a b h e = let k : true ≡ false = sym (same_blocks a b (sym (block_tie b.at a.at e))) ∙ h in cc

stored_apart : (n : ℕ) (a b : BlockAt) → is_same_item (block a) (block b) ≡ false → AllByRecursion (λ c. block_cmp b.at c.at ≢ Equal) (stored n a)
stored_apart zero a b h = tt
stored_apart (suc n) a b h = (apart_block a b h, tt)

pub all_append : {X : Type 0} (P : X → Type 0) (xs ys : List X) → AllByRecursion P xs → AllByRecursion P ys → AllByRecursion P (xs ++ ys)
all_append P [] ys a b = b
all_append P (x ∷ xs) ys a b = (a.0, all_append P xs ys a.1 b)

pub blocks_apart : (done : List Item) (b : BlockAt) → list_any (λ s. is_same_item s (block b)) done ≡ false → AllByRecursion (λ c. block_cmp b.at c.at ≢ Equal) (flat_map blocks_in done)
blocks_apart [] b h = tt
blocks_apart (entity a ∷ done) b h = blocks_apart done b h
blocks_apart (block a ∷ done) b h =
    let p = or_parts (is_same_item (block a) (block b)) (list_any (λ s. is_same_item s (block b)) done) h in
    all_append (λ c. block_cmp b.at c.at ≢ Equal) (stored a.id a) (flat_map blocks_in done) (stored_apart a.id a b p.0) (blocks_apart done b p.1)

pub entities_apart : (done : List Item) (e : Entity) → list_any (λ s. is_same_item s (entity e)) done ≡ false → AllByRecursion (λ c. nat_cmp e.id c.id ≢ Equal) (flat_map entities_in done)
entities_apart [] e h = tt
entities_apart (block a ∷ done) e h = entities_apart done e h
entities_apart (entity a ∷ done) e h =
    let p = or_parts (is_same_item (entity a) (entity e)) (list_any (λ s. is_same_item s (entity e)) done) h in
    (λ t. let k : true ≡ false = sym (same_entities a e (sym (nat_tie e.id a.id t))) ∙ p.0 in cc, entities_apart done e p.1)

pub at_end : {X : Type 0} (f : Item → List X) (done : List Item) (t : Item) (xs : List X) → f t ≡ xs → flat_map f (done ++ t ∷ []) ≡ flat_map f done ++ xs
at_end f done t xs e = flat_map-append f done (t ∷ []) ∙ ap (λ l. flat_map f done ++ l) (append-nil (f t) ∙ e)

pub still : {X : Type 0} (f : Item → List X) (done : List Item) (t : Item) → f t ≡ [] → flat_map f (done ++ t ∷ []) ≡ flat_map f done
still f done t e = at_end f done t [] e ∙ append-nil (flat_map f done)

order_block : (n : ℕ) (done : List Item) (b : BlockAt) → stored b.id b ≡ stored n b → list_any (λ s. is_same_item s (block b)) done ≡ false → Ordered done → Ordered (done ++ block b ∷ [])
order_block zero done b e h o = record {
  blocks = o.blocks;
  entities = o.entities;
  from_blocks = subst (λ (l : List BlockAt). IsPermutation l o.blocks) (sym (still blocks_in done (block b) e)) o.from_blocks;
  from_entities = subst (λ (l : List Entity). IsPermutation l o.entities) (sym (still entities_in done (block b) refl)) o.from_entities;
  blocks_in_order = o.blocks_in_order;
  entities_in_order = o.entities_in_order;
}
order_block (suc n) done b e h o =
    let s = sort_more (λ (c : BlockAt). c.at) block_cmp block_total (flat_map blocks_in done) o.blocks b o.from_blocks o.blocks_in_order (blocks_apart done b h) in
    record {
      blocks = insert_by (λ (c : BlockAt). c.at) block_cmp b o.blocks;
      entities = o.entities;
      from_blocks = subst (λ (l : List BlockAt). IsPermutation l (insert_by (λ (c : BlockAt). c.at) block_cmp b o.blocks)) (sym (at_end blocks_in done (block b) (b ∷ []) e)) s.0;
      from_entities = subst (λ (l : List Entity). IsPermutation l o.entities) (sym (still entities_in done (block b) refl)) o.from_entities;
      blocks_in_order = s.1;
      entities_in_order = o.entities_in_order;
    }

order_entity : (done : List Item) (e : Entity) → list_any (λ s. is_same_item s (entity e)) done ≡ false → Ordered done → Ordered (done ++ entity e ∷ [])
order_entity done e h o =
    let s = sort_more (λ (c : Entity). c.id) nat_cmp nat_cmp_total (flat_map entities_in done) o.entities e o.from_entities o.entities_in_order (entities_apart done e h) in
    record {
      blocks = o.blocks;
      entities = insert_by (λ (c : Entity). c.id) nat_cmp e o.entities;
      from_blocks = subst (λ (l : List BlockAt). IsPermutation l o.blocks) (sym (still blocks_in done (entity e) refl)) o.from_blocks;
      from_entities = subst (λ (l : List Entity). IsPermutation l (insert_by (λ (c : Entity). c.id) nat_cmp e o.entities)) (sym (at_end entities_in done (entity e) (e ∷ []) refl)) s.0;
      blocks_in_order = o.blocks_in_order;
      entities_in_order = s.1;
    }

-- one more item, which takes no place of the others
pub order_more : (done : List Item) (t : Item) → list_any (λ s. is_same_item s t) done ≡ false → Ordered done → Ordered (done ++ t ∷ [])
order_more done (block b) h o = order_block b.id done b refl h o
order_more done (entity e) h o = order_entity done e h o

-- ---- items of sorted lists take no place of one another

abbrev pub Distinct : List Item → Type 0
Distinct [] = Unit {0}
Distinct (t ∷ ts) = AllByRecursion (λ u. is_same_item t u ≡ false) ts × Distinct ts

after_block : (b : BlockAt) (bs : List BlockAt) → AllByRecursion (λ p. block_cmp b.at p ≡ Less) (map (λ c. c.at) bs) → AllByRecursion (λ u. is_same_item (block b) u ≡ false) (map block bs)
after_block b [] all = tt
after_block b (c ∷ cs) all = (
  elim (cases_Bool (is_same_item (block b) (block c))) [
    | inl e ↦ absurd (let k : Equal ≡ Less = sym (tied_itself block_total b.at) ∙ ap (block_cmp b.at) (blocks_same b c e) ∙ all.0 in cc)
    | inr e ↦ e
  ],
  after_block b cs all.1,
)

after_entity : (e : Entity) (es : List Entity) → AllByRecursion (λ n. nat_cmp e.id n ≡ Less) (map (λ c. c.id) es) → AllByRecursion (λ u. is_same_item (entity e) u ≡ false) (map entity es)
after_entity e [] all = tt
after_entity e (c ∷ cs) all = (
  elim (cases_Bool (is_same_item (entity e) (entity c))) [
    | inl s ↦ absurd (let k : Equal ≡ Less = sym (tied_itself nat_cmp_total e.id) ∙ ap (nat_cmp e.id) (entities_same e c s) ∙ all.0 in cc)
    | inr s ↦ s
  ],
  after_entity e cs all.1,
)

no_entity : (b : BlockAt) (es : List Entity) → AllByRecursion (λ u. is_same_item (block b) u ≡ false) (map entity es)
no_entity b [] = tt
no_entity b (e ∷ es) = (refl, no_entity b es)

entities_distinct : (es : List Entity) → IsStrictlySortedBy nat_cmp (map (λ e. e.id) es) → Distinct (map entity es)
entities_distinct [] up = tt
entities_distinct (e ∷ es) up = (after_entity e es (sorted_head nat_cmp e.id (map (λ c. c.id) es) up), entities_distinct es (sorted_tail nat_cmp e.id (map (λ c. c.id) es) up))

pub items_distinct : (bs : List BlockAt) (es : List Entity) → IsStrictlySortedBy block_cmp (map (λ b. b.at) bs) → IsStrictlySortedBy nat_cmp (map (λ e. e.id) es) → Distinct (map block bs ++ map entity es)
items_distinct [] es up vp = entities_distinct es vp
items_distinct (b ∷ bs) es up vp = (
  all_append (λ u. is_same_item (block b) u ≡ false) (map block bs) (map entity es) (after_block b bs (sorted_head block_cmp b.at (map (λ c. c.at) bs) up)) (no_entity b es),
  items_distinct bs es (sorted_tail block_cmp b.at (map (λ c. c.at) bs) up) vp,
)

-- none of the items to come takes the place of one that is done
abbrev pub Fresh : List Item → List Item → Type 0
Fresh done ts = AllByRecursion (λ t. list_any (λ s. is_same_item s t) done ≡ false) ts

fresh_more : (done : List Item) (t : Item) (ts : List Item) → AllByRecursion (λ u. is_same_item t u ≡ false) ts → Fresh done ts → Fresh (done ++ t ∷ []) ts
fresh_more done t [] a f = tt
fresh_more done t (u ∷ us) a f = (
  list_any-append (λ s. is_same_item s u) done (t ∷ []) ∙ or_from (list_any (λ s. is_same_item s u) done) (is_same_item t u || false) f.0 (or_from (is_same_item t u) false a.0 refl),
  fresh_more done t us a.1 f.1,
)

pub fresh_next : (done : List Item) (t : Item) (ts : List Item) → Distinct (t ∷ ts) → Fresh done (t ∷ ts) → Fresh (done ++ t ∷ []) ts
fresh_next done t ts d f = fresh_more done t ts d.0 f.1

pub all_fresh : (ts : List Item) → Fresh [] ts
all_fresh [] = tt
all_fresh (t ∷ ts) = (refl, all_fresh ts)
