-- One more entry of the maps of a world's reader.
use Rattle.std.proofs.Common.{◌≡◌, ℕ, zero, suc, Bool, true, false, ◌&&◌, ◌⊎◌, inl, inr, List, [], ◌∷◌, ◌++◌, map, Some, None, refl, sym, ap, subst, ◌∙◌, append_assoc, arith}
use Rattle.std.specs.Prelude.{nat_lt}
use Rattle.std.specs.List.{AllByRecursion}
use Rattle.std.specs.Ordering.{int_cmp, int_eq, is_eq, ordering_then}
use Rattle.std.specs.declared.cmp.Ordering.{Ordering}
use Rattle.std.specs.declared.cmp.Ordering.TheVariants.{Less, Equal, Greater}
use Rattle.std.specs.BTreeMap.{insert_entry, is_at}
use Rattle.std.specs.Map.{lookup, keys_of}
use Rattle.std.specs.List.Sorted.{IsPermutation, IsStrictlySortedBy}
use Rattle.std.proofs.lemmas.Bool.{lt-ltb, cases_Bool}
use Rattle.std.proofs.lemmas.List.Sorted.{IsPermutation-refl, IsPermutation-trans, IsPermutation-cons, IsPermutation-middle, IsPermutation-append_comm, IsPermutation-append_left, IsPermutation-append_right}
use Rattle.std.proofs.lemmas.Map.Keys.{sorted_head, sorted_tail}
use Rattle.fol_model.specs.declared.openings.BlockAt.{BlockAt}
use Rattle.fol_model.specs.declared.entities.Entity.{Entity}
use Rattle.fol_model.specs.Universe.{block_cmp}
use Rattle.fol_model.specs.Texts.{block, stored}
use Rattle.fol_text_laws.specs.SameItem.{is_same_item}
use Rattle.fol_text_laws.proofs.Sorting.{sorted_cons, sorted_none}
use Rattle.fol_script.specs.declared.world_lines.Spot.{Spot}
use Rattle.fol_script.specs.WorldMaps.{place_of, spot_of, block_from, is_stored, stored_blocks, values_of}
use Rattle.fol_script.specs.WorldBefore.{spot_cmp}

ordered : (o : Ordering) → (o ≡ Less) ⊎ ((o ≡ Equal) ⊎ (o ≡ Greater))
ordered Less = inl refl
ordered Equal = inr (inl refl)
ordered Greater = inr (inr refl)

-- ---- the entries with a new one

stored_head : (k : Spot) (n : ℕ) (es : List (Spot × ℕ)) → stored_blocks ((k, n) ∷ es) ≡ stored n (block_from (k, n)) ++ stored_blocks es
stored_head k zero es = refl
stored_head k (suc n) es = let e : nat_lt 0 (suc n) ≡ true = lt-ltb 0 (suc n) (omega arith) in rw e refl

found_at : {K X : Type 0} (R : K → K → Ordering) (k : K) (x : K × X) (es : List (K × X)) → R k x.0 ≡ Equal → lookup (is_at (R k)) (x ∷ es) ≡ None → ⊥
found_at R k x es e h = let s : Some x.1 ≡ None = rw e at h in cc

not_at : {K X : Type 0} (R : K → K → Ordering) (k : K) (x : K × X) (es : List (K × X)) → R k x.0 ≡ Greater → lookup (is_at (R k)) (x ∷ es) ≡ None → lookup (is_at (R k)) es ≡ None
not_at R k x es e h = rw e at h

pub insert_before : {K X : Type 0} (R : K → K → Ordering) (k : K) (v : X) (x : K × X) (es : List (K × X)) → R k x.0 ≡ Less → insert_entry R (x ∷ es) k v ≡ (k, v) ∷ x ∷ es
insert_before R k v x es e = rw e refl

pub insert_behind : {K X : Type 0} (R : K → K → Ordering) (k : K) (v : X) (x : K × X) (es : List (K × X)) → R k x.0 ≡ Greater → insert_entry R (x ∷ es) k v ≡ x ∷ insert_entry R es k v
insert_behind R k v x es e = rw e refl

past : (a x s : List BlockAt) (t : List BlockAt) → IsPermutation (a ++ s) t → IsPermutation (a ++ (x ++ s)) (x ++ t)
past a x s t p =
    let one : IsPermutation (a ++ (x ++ s)) (x ++ (a ++ s)) =
    subst (λ (l : List BlockAt). IsPermutation l (x ++ (a ++ s))) (append_assoc a x s) (subst (λ (l : List BlockAt). IsPermutation ((a ++ x) ++ s) l) (append_assoc x a s) (IsPermutation-append_left s (a ++ x) (x ++ a) (IsPermutation-append_comm a x))) in
    IsPermutation-trans (a ++ (x ++ s)) (x ++ (a ++ s)) (x ++ t) one (IsPermutation-append_right x (a ++ s) t p)

pub stored_more : (k : Spot) (n : ℕ) (es : List (Spot × ℕ)) → lookup (is_at (spot_cmp k)) es ≡ None → IsPermutation (stored n (block_from (k, n)) ++ stored_blocks es) (stored_blocks (insert_entry spot_cmp es k n))
stored_more k n [] h = subst (λ (l : List BlockAt). IsPermutation (stored n (block_from (k, n)) ++ []) l) (sym (stored_head k n [])) (IsPermutation-refl (stored n (block_from (k, n)) ++ []))
stored_more k n (x ∷ es) h = elim (ordered (spot_cmp k x.0)) [
  | inl less ↦
      let e : stored_blocks (insert_entry spot_cmp (x ∷ es) k n) ≡ stored n (block_from (k, n)) ++ stored_blocks (x ∷ es) = ap stored_blocks (insert_before spot_cmp k n x es less) ∙ stored_head k n (x ∷ es) in
      subst (λ (l : List BlockAt). IsPermutation (stored n (block_from (k, n)) ++ stored_blocks (x ∷ es)) l) (sym e) (IsPermutation-refl (stored n (block_from (k, n)) ++ stored_blocks (x ∷ es)))
  | inr (inl equal) ↦ absurd (found_at spot_cmp k x es equal h)
  | inr (inr greater) ↦
      let e : stored_blocks (insert_entry spot_cmp (x ∷ es) k n) ≡ stored x.1 (block_from x) ++ stored_blocks (insert_entry spot_cmp es k n) = ap stored_blocks (insert_behind spot_cmp k n x es greater) ∙ stored_head x.0 x.1 (insert_entry spot_cmp es k n) in
      let rest = stored_more k n es (not_at spot_cmp k x es greater h) in
      let p = past (stored n (block_from (k, n))) (stored x.1 (block_from x)) (stored_blocks es) (stored_blocks (insert_entry spot_cmp es k n)) rest in
      subst (λ (l : List BlockAt). IsPermutation (stored n (block_from (k, n)) ++ stored_blocks (x ∷ es)) l) (sym e)
      (subst (λ (l : List BlockAt). IsPermutation (stored n (block_from (k, n)) ++ l) (stored x.1 (block_from x) ++ stored_blocks (insert_entry spot_cmp es k n))) (sym (stored_head x.0 x.1 es)) p)
]

pub values_more : {K X : Type 0} (R : K → K → Ordering) (k : K) (v : X) (es : List (K × X)) → lookup (is_at (R k)) es ≡ None → IsPermutation (v ∷ values_of es) (values_of (insert_entry R es k v))
values_more R k v [] h = IsPermutation-refl (v ∷ [])
values_more R k v (x ∷ es) h = elim (ordered (R k x.0)) [
  | inl less ↦ rw (insert_before R k v x es less) (IsPermutation-refl (v ∷ x.1 ∷ values_of es))
  | inr (inl equal) ↦ absurd (found_at R k x es equal h)
  | inr (inr greater) ↦
      rw (insert_behind R k v x es greater) (IsPermutation-trans (v ∷ x.1 ∷ values_of es) (x.1 ∷ v ∷ values_of es) (x.1 ∷ values_of (insert_entry R es k v)) (IsPermutation-middle (v ∷ []) x.1 (values_of es))
      (IsPermutation-cons x.1 (v ∷ values_of es) (values_of (insert_entry R es k v)) (values_more R k v es (not_at R k x es greater h))))
]

pub all_more : {K X : Type 0} (P : K × X → Type 0) (R : K → K → Ordering) (k : K) (v : X) (es : List (K × X)) → lookup (is_at (R k)) es ≡ None → P (k, v) → AllByRecursion P es → AllByRecursion P (insert_entry R es k v)
all_more P R k v [] h p all = (p, tt)
all_more P R k v (x ∷ es) h p all = elim (ordered (R k x.0)) [
  | inl less ↦ rw (insert_before R k v x es less) (p, all)
  | inr (inl equal) ↦ absurd (found_at R k x es equal h)
  | inr (inr greater) ↦ rw (insert_behind R k v x es greater) (all.0, all_more P R k v es (not_at R k x es greater h) p all.1)
]

-- ---- the same place

both_eq : (a b : Ordering) → is_eq (ordering_then a b) ≡ (is_eq a && is_eq b)
both_eq Less b = refl
both_eq Equal b = refl
both_eq Greater b = refl

and_true : (b : Bool) → (b && true) ≡ b
and_true true = refl
and_true false = refl

pub same_spot : (a b : BlockAt) → is_same_item (block a) (block b) ≡ is_eq (spot_cmp (spot_of a.at) (spot_of b.at))
same_spot a b =
    ap (λ (x : Bool). int_eq a.at.x b.at.x && (int_eq a.at.y b.at.y && x)) (and_true (int_eq a.at.z b.at.z))
    ∙ ap (λ (x : Bool). int_eq a.at.x b.at.x && x) (sym (both_eq (int_cmp a.at.y b.at.y) (int_cmp a.at.z b.at.z)))
    ∙ sym (both_eq (int_cmp a.at.x b.at.x) (ordering_then (int_cmp a.at.y b.at.y) (int_cmp a.at.z b.at.z)))

-- ---- the order of what is kept

stored_above : (k : Spot) (es : List (Spot × ℕ)) → AllByRecursion (λ q. spot_cmp k q ≡ Less) (keys_of es) → AllByRecursion (λ p. block_cmp (place_of k) p ≡ Less) (map (λ b. b.at) (stored_blocks es))
unfolding block_cmp
stored_above k [] all = tt
stored_above k (x ∷ es) all = elim (cases_Bool (is_stored x)) [
  | inl e ↦ rw e (all.0, stored_above k es all.1)
  | inr e ↦ rw e (stored_above k es all.1)
]

pub stored_in_order : (es : List (Spot × ℕ)) → IsStrictlySortedBy spot_cmp (keys_of es) → IsStrictlySortedBy block_cmp (map (λ b. b.at) (stored_blocks es))
stored_in_order [] up = sorted_none block_cmp
stored_in_order (x ∷ es) up = elim (cases_Bool (is_stored x)) [
  | inl e ↦ rw e (sorted_cons block_cmp (place_of x.0) (map (λ b. b.at) (stored_blocks es)) (stored_above x.0 es (sorted_head spot_cmp x.0 (keys_of es) up)) (stored_in_order es (sorted_tail spot_cmp x.0 (keys_of es) up)))
  | inr e ↦ rw e (stored_in_order es (sorted_tail spot_cmp x.0 (keys_of es) up))
]

pub ids_are_keys : (es : List (ℕ × Entity)) → AllByRecursion (λ e. e.0 ≡ e.1.id) es → map (λ (e : Entity). e.id) (values_of es) ≡ keys_of es
ids_are_keys [] all = refl
ids_are_keys (x ∷ es) all = ap (λ (n : ℕ). n ∷ map (λ (e : Entity). e.id) (values_of es)) (sym all.0) ∙ ap (λ (l : List ℕ). x.0 ∷ l) (ids_are_keys es all.1)
