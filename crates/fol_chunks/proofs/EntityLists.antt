-- What a list of entities in order says of each entity.
use Rattle.std.proofs.Common.{◌≡◌, ℕ, ◌<◌, ◌≤◌, ◌||◌, Bool, true, cond, not, List, [], ◌∷◌, ◌++◌, length, get_or, refl, sym, ◌∙◌, ap, inl, inr, Option, Some, None, IsNone}
use Rattle.std.specs.Prelude.{Contains, nat_eq, if◌then◌else◌}
use Rattle.std.specs.List.{find, filter, insert, remove}
use Rattle.std.specs.List.Sorted.{IsStrictlySortedBy, IsPermutation, IsPartitionPoint}
use Rattle.std.specs.Option.{option_or, option_map, is_none}
use Rattle.std.specs.Cmp.{nat_cmp_total, nat_eq_equiv}
use Rattle.std.specs.Ordering.{nat_cmp}
use Rattle.std.specs.declared.cmp.Ordering.TheVariants.{Less, Greater}
use Rattle.std.proofs.lemmas.Bool.{cases_Bool, eqb-true}
use Rattle.std.proofs.lemmas.List.Folds.{find-append}
use Rattle.std.proofs.lemmas.List.Kept.{IsStrictlySortedBy-filter}
use Rattle.std.proofs.Math.Path.{fun_ext}
use Rattle.fol_model.specs.declared.entities.Entity.{Entity}
use Rattle.fol_model.specs.ActionStep.{Standing, standing_of, at_id}
use Rattle.fol_model.specs.World.{standing_in}
use Rattle.fol_chunks.specs.Contents.{entity_of, option_filter}
use Rattle.fol_keyed.specs.Apart.{Untied}
use Rattle.fol_chunks.specs.Rows.{by_id}
use Rattle.fol_keyed.proofs.Keyed.{Differ, find_absent, find_at, find_removed, find_inserted, find_permuted, find_filter, differ_append, no_shared_key}
use Rattle.fol_keyed.proofs.Places.{nat_cmp_tells}
use Rattle.fol_keyed.proofs.Sorted.{differ_from_sorted, none_between, sorted_remove, sorted_insert}

abbrev InOrder : List Entity → Type 0
InOrder es = IsStrictlySortedBy by_id es

pub nat_self : (n : ℕ) → nat_eq n n ≡ true
nat_self n = nat_eq_equiv.refl n

pub standing_found : (es : List Entity) (id : ℕ) → standing_in es id ≡ option_map standing_of (find (λ e. nat_eq e.id id) es)
standing_found [] id = refl
standing_found (e ∷ es) id =
    elim (cases_Bool (nat_eq e.id id)) [
      | inl t ↦ rw t refl
      | inr t ↦ rw t (standing_found es id)
    ]

-- what stands under the id of an entity is that entity
pub entity_back : (e : Entity) (id : ℕ) → e.id ≡ id → e ≡ entity_of id (standing_of e)
entity_back e id h = ap (λ k. record e { id = k }) h

none_is : {X : Type 0} (o : Option X) → IsNone o → o ≡ None
none_is None h = refl
none_is (Some x) h = cc

none_mapped : (o : Option Entity) → option_map standing_of o ≡ None → o ≡ None
none_mapped None h = refl
none_mapped (Some x) h = cc

module _ (es : List Entity) where
  pub differ : InOrder es → Differ nat_eq eqb-true nat_self (λ (e : Entity). e.id) es
  differ s = differ_from_sorted (λ (e : Entity). e.id) nat_cmp nat_cmp_total nat_eq eqb-true es s

  pub standing_at : (i id : ℕ) (d : Entity) → InOrder es → i < length es → ((e : Entity) → (get_or es i e).id ≡ id) → standing_in es id ≡ Some (standing_of (get_or es i d))
  standing_at i id d s l e = rw (standing_found es id, find_at nat_eq eqb-true nat_self (λ (e : Entity). e.id) es i id d (differ s) l e) refl

  pub absent : (i id : ℕ) → IsPartitionPoint (λ x. nat_cmp x.id id ≡ Less) (λ x. nat_cmp x.id id ≡ Greater) es i → find (λ e. nat_eq e.id id) es ≡ None
  absent i id p = find_absent nat_eq eqb-true nat_self (λ (e : Entity). e.id) es id (none_between (λ (e : Entity). e.id) nat_cmp nat_cmp_total es i id p)

  pub none_stands : (i id : ℕ) → IsPartitionPoint (λ x. nat_cmp x.id id ≡ Less) (λ x. nat_cmp x.id id ≡ Greater) es i → standing_in es id ≡ None
  none_stands i id p = rw (standing_found es id, absent i id p) refl

  pub standing_removed : (i id : ℕ) (d : Entity) → InOrder es → i < length es → ((e : Entity) → (get_or es i e).id ≡ id) → standing_in (remove es i) ≡ at_id (standing_in es) id None
  standing_removed i id d s l e =
      fun_ext (λ q.
      rw (standing_found (remove es i) q, find_removed nat_eq eqb-true nat_self (λ (e : Entity). e.id) es i id q d (differ s) l e, standing_found es q) (split q))
    where
      split : (q : ℕ) → option_map standing_of (cond (nat_eq id q) None (find (λ e. nat_eq e.id q) es)) ≡ (if nat_eq id q then None else option_map standing_of (find (λ e. nat_eq e.id q) es))
      split q = elim (cases_Bool (nat_eq id q)) [ inl t ↦ rw t refl | inr t ↦ rw t refl ]

  pub standing_inserted : (i : ℕ) (y : Entity) → InOrder es → IsPartitionPoint (λ x. nat_cmp x.id y.id ≡ Less) (λ x. nat_cmp x.id y.id ≡ Greater) es i → standing_in (insert es i y) ≡ at_id (standing_in es) y.id (Some (standing_of y))
  standing_inserted i y s p =
      fun_ext (λ q.
      rw (standing_found (insert es i y) q, find_inserted nat_eq eqb-true nat_self (λ (e : Entity). e.id) es i y q (differ s) (absent i y.id p), standing_found es q) (split q))
    where
      split : (q : ℕ) → option_map standing_of (cond (nat_eq y.id q) (Some y) (find (λ e. nat_eq e.id q) es)) ≡ (if nat_eq y.id q then Some (standing_of y) else option_map standing_of (find (λ e. nat_eq e.id q) es))
      split q = elim (cases_Bool (nat_eq y.id q)) [ inl t ↦ rw t refl | inr t ↦ rw t refl ]

  -- none stays none
  pub standing_stays : (id : ℕ) → standing_in es id ≡ None → standing_in es ≡ at_id (standing_in es) id None
  standing_stays id h = fun_ext (λ q.
      elim (cases_Bool (nat_eq id q)) [
        | inl t ↦ let e : id ≡ q = eqb-true id q t in rw t (ap (standing_in es) (sym e) ∙ h)
        | inr t ↦ rw t refl
      ])

  pub order_removed : (i : ℕ) → InOrder es → InOrder (remove es i)
  order_removed i s = sorted_remove (λ (e : Entity). e.id) nat_cmp nat_cmp_total es i s

  pub order_inserted : (i : ℕ) (y : Entity) → InOrder es → i ≤ length es → IsPartitionPoint (λ x. nat_cmp x.id y.id ≡ Less) (λ x. nat_cmp x.id y.id ≡ Greater) es i → InOrder (insert es i y)
  order_inserted i y s l p = sorted_insert (λ (e : Entity). e.id) nat_cmp nat_cmp_total es i y s l p

  -- the entities whose standing passes
  pub standing_filtered : (p : Standing → Bool) → InOrder es → standing_in (filter (λ e. p (standing_of e)) es) ≡ λ id. option_filter p (standing_in es id)
  standing_filtered p s =
      fun_ext (λ id.
      rw (standing_found (filter (λ e. p (standing_of e)) es) id, find_filter nat_eq eqb-true nat_self (λ (e : Entity). e.id) (λ e. p (standing_of e)) es id (differ s), standing_found es id) (swap (find (λ (e : Entity). nat_eq e.id id) es)))
    where
      swap : (o : Option Entity) → option_map standing_of (option_filter (λ e. p (standing_of e)) o) ≡ option_filter p (option_map standing_of o)
      swap None = refl
      swap (Some e) = elim (cases_Bool (p (standing_of e))) [ inl t ↦ rw t refl | inr t ↦ rw t refl ]

  pub order_filtered : (p : Entity → Bool) → InOrder es → InOrder (filter p es)
  order_filtered p s = IsStrictlySortedBy-filter by_id p es s

module _ (es fs : List Entity) where
  no_entity_in_both : InOrder es → InOrder fs → ((id : ℕ) → (is_none (standing_in es id) || is_none (standing_in fs id)) ≡ true) → (x y : Entity) → Contains es x → Contains fs y → x.id ≡ y.id → ⊥
  no_entity_in_both s t none = no_shared_key nat_eq eqb-true nat_self (λ (e : Entity). e.id) es fs (differ es s) (differ fs t) found_none
    where
      same_none : (o : Option Entity) → is_none (option_map standing_of o) ≡ is_none o
      same_none None = refl
      same_none (Some e) = refl

      found_none : (id : ℕ) → (is_none (find (λ (e : Entity). nat_eq e.id id) es) || is_none (find (λ (e : Entity). nat_eq e.id id) fs)) ≡ true
      found_none id = rw (standing_found es id, standing_found fs id, same_none (find (λ (e : Entity). nat_eq e.id id) es), same_none (find (λ (e : Entity). nat_eq e.id id) fs)) at (none id)

  -- the entities of both
  pub joined_differ : InOrder es → InOrder fs → ((id : ℕ) → (is_none (standing_in es id) || is_none (standing_in fs id)) ≡ true) → Differ nat_eq eqb-true nat_self (λ (e : Entity). e.id) (es ++ fs)
  joined_differ s t none = differ_append nat_eq eqb-true nat_self (λ (e : Entity). e.id) es fs (differ es s) (differ fs t) (no_entity_in_both s t none)

  -- the two lists in order have no entity in common
  pub entities_untied : InOrder es → InOrder fs → ((id : ℕ) → (is_none (standing_in es id) || is_none (standing_in fs id)) ≡ true) → Untied by_id es fs
  entities_untied s t none = λ x y m n e. no_entity_in_both s t none x y m n (nat_cmp_tells x.id y.id e)

  -- the entities of both, in whatever order
  pub standing_joined : (gs : List Entity) → InOrder es → InOrder fs → ((id : ℕ) → (is_none (standing_in es id) || is_none (standing_in fs id)) ≡ true) → IsPermutation (es ++ fs) gs → standing_in gs ≡ λ id. option_or (standing_in es id) (standing_in fs id)
  standing_joined gs s t none m =
      fun_ext (λ id.
      standing_found gs id
      ∙ ap (λ o. option_map standing_of o) (find_permuted nat_eq eqb-true nat_self (λ (e : Entity). e.id) (es ++ fs) gs (joined_differ s t none) m id)
      ∙ ap (λ o. option_map standing_of o) (find-append (λ (e : Entity). nat_eq e.id id) es fs)
      ∙ swap (find (λ (e : Entity). nat_eq e.id id) es) (find (λ (e : Entity). nat_eq e.id id) fs)
      ∙ ap (λ o. option_or o (option_map standing_of (find (λ (e : Entity). nat_eq e.id id) fs))) (sym (standing_found es id))
      ∙ ap (λ o. option_or (standing_in es id) o) (sym (standing_found fs id)))
    where
      swap : (o r : Option Entity) → option_map standing_of (option_or o r) ≡ option_or (option_map standing_of o) (option_map standing_of r)
      swap None r = refl
      swap (Some e) r = refl

-- none is in a list and in what passes of another
pub none_passes : (p : Standing → Bool) (es fs : List Entity) → InOrder fs → ((id : ℕ) → (is_none (standing_in es id) || is_none (option_filter p (standing_in fs id))) ≡ true)
    → (id : ℕ) → (is_none (standing_in es id) || is_none (standing_in (filter (λ e. p (standing_of e)) fs) id)) ≡ true
none_passes p es fs s none id = rw (ap (λ (f : ℕ → Option Standing). f id) (standing_filtered fs p s)) (none id)

-- ---- what passes goes to another list
module _ (p : Standing → Bool) (es fs : List Entity) (s : InOrder es) where
  pub left_rest : fs ≡ filter (λ e. not (p (standing_of e))) es → standing_in fs ≡ λ id. option_filter (λ t. not (p t)) (standing_in es id)
  left_rest e = ap standing_in e ∙ standing_filtered es (λ t. not (p t)) s

  pub joined_parts : (is : List Entity) → InOrder is → ((id : ℕ) → (is_none (standing_in is id) || is_none (option_filter p (standing_in es id))) ≡ true) → IsPermutation (is ++ filter (λ e. p (standing_of e)) es) fs
      → standing_in fs ≡ λ id. option_or (standing_in is id) (option_filter p (standing_in es id))
  joined_parts is t none m =
      standing_joined is (filter (λ e. p (standing_of e)) es) fs t (order_filtered es (λ e. p (standing_of e)) s) (none_passes p is es s none) m
      ∙ ap (λ (f : ℕ → Option Standing). λ (id : ℕ). option_or (standing_in is id) (f id)) (standing_filtered es p s)
