-- Regions that become part of a released one, one after another.
use Rattle.std.proofs.Common.{◌≡◌, ℕ, refl, sym, ◌∙◌, ap, Bool, true, false, inl, inr, not, ◌&&◌, ◌||◌, List, [], ◌∷◌, ◌++◌}
use Rattle.std.specs.Prelude.{◌≢◌, nat_eq, if◌then◌else◌}
use Rattle.std.specs.List.{list_any}
use Rattle.std.proofs.Math.Path.{fun_ext}
use Rattle.std.proofs.lemmas.Bool.{cases_Bool, cases_eq, eq-eqb, ne_eqb}
use Rattle.std.proofs.lemmas.List.Folds.{list_any-append}
use Rattle.fol_model.specs.declared.regions.State.TheVariants.{Dead}
use Rattle.fol_model.specs.declared.places.SectionPos.{SectionPos}
use Rattle.fol_region_tables.specs.Book.{Book, owner_of, state_of, waits_of, is_live, Merges}
use Rattle.fol_regions.specs.Added.{is_id}
use Rattle.fol_regions.specs.Released.{Joins}
use Rattle.fol_region_tables.proofs.HandSteps.{keeps_room-trans}

-- a test of one more
pub one_more : (p : ℕ → Bool) (ids : List ℕ) (u : ℕ) → list_any p (ids ++ u ∷ []) ≡ (list_any p ids || p u)
one_more p ids u = list_any-append p ids (u ∷ []) ∙ elim (cases_Bool (p u)) [ inl e ↦ rw e refl | inr e ↦ rw e refl ]

module _ (old mid new : Book) (t u : ℕ) (ids : List ℕ) (h : Joins old mid t ids) (m : Merges mid new u t) (apart : u ≢ t) (fresh : is_id ids u ≡ false) where
  owner_more : (s : SectionPos) → owner_of new s ≡ (if is_id (ids ++ u ∷ []) (owner_of old s) then t else owner_of old s)
  owner_more s =
      let a = one_more (nat_eq (owner_of old s)) ids u in
      let x : owner_of new s ≡ (if nat_eq (owner_of mid s) u then t else owner_of mid s) = ap (λ f. f s) m.owner in
      let y : owner_of mid s ≡ (if is_id ids (owner_of old s) then t else owner_of old s) = ap (λ f. f s) h.owner in
      let n : nat_eq t u ≡ false = ne_eqb t u (λ e. apart (sym e)) in
      elim (cases_Bool (is_id ids (owner_of old s))) [
        | inl e ↦ let z : owner_of mid s ≡ t = rw e at y in rw (x, z, n, a, e) refl
        | inr e ↦ let z : owner_of mid s ≡ owner_of old s = rw e at y in rw (x, z, a, e) refl
      ]

  state_more : (r : ℕ) → state_of new r ≡ (if is_id (ids ++ u ∷ []) r then Dead else state_of old r)
  state_more r =
      let a = one_more (nat_eq r) ids u in
      let x : state_of new r ≡ (if nat_eq u r then Dead else state_of mid r) = ap (λ f. f r) m.state in
      let y : state_of mid r ≡ (if is_id ids r then Dead else state_of old r) = ap (λ f. f r) h.state in
      elim (cases_eq u r) [
        | inl e ↦ let k = eq-eqb u r e in let j = eq-eqb r u (sym e) in rw (x, k, a, j) (elim (cases_Bool (is_id ids r)) [ inl i ↦ rw i refl | inr i ↦ rw i refl ])
        | inr n ↦ let k = ne_eqb u r n in let j = ne_eqb r u (λ e. n (sym e)) in rw (x, k, y, a, j) (elim (cases_Bool (is_id ids r)) [ inl i ↦ rw i refl | inr i ↦ rw i refl ])
      ]

  waits_more : (a b : ℕ) → waits_of new a b ≡ (if nat_eq a t then (not (nat_eq b t) && list_any (λ w. waits_of old w b) (ids ++ u ∷ [])) else (not (is_id (ids ++ u ∷ []) a) && waits_of old a b))
  waits_more a b =
      let x : waits_of new a b ≡ (if nat_eq a t then (not (nat_eq b t) && (waits_of mid t b || waits_of mid u b)) else (not (nat_eq a u) && waits_of mid a b)) = ap (λ f. f a b) m.waits in
      let from_t : waits_of mid t b ≡ (if nat_eq t t then (not (nat_eq b t) && list_any (λ w. waits_of old w b) ids) else (not (is_id ids t) && waits_of old t b)) = ap (λ f. f t b) h.waits in
      let from_u : waits_of mid u b ≡ (if nat_eq u t then (not (nat_eq b t) && list_any (λ w. waits_of old w b) ids) else (not (is_id ids u) && waits_of old u b)) = ap (λ f. f u b) h.waits in
      let from_a : waits_of mid a b ≡ (if nat_eq a t then (not (nat_eq b t) && list_any (λ w. waits_of old w b) ids) else (not (is_id ids a) && waits_of old a b)) = ap (λ f. f a b) h.waits in
      let one = one_more (λ w. waits_of old w b) ids u in
      let two = one_more (nat_eq a) ids u in
      let tt_same : nat_eq t t ≡ true = eq-eqb t t refl in
      let ut : nat_eq u t ≡ false = ne_eqb u t apart in
      elim (cases_Bool (nat_eq a t)) [
        | inl e ↦
            let p : waits_of mid t b ≡ (not (nat_eq b t) && list_any (λ w. waits_of old w b) ids) = rw tt_same at from_t in
            let q : waits_of mid u b ≡ waits_of old u b = rw (ut, fresh) at from_u in
            rw (x, e, p, q, one) (elim (cases_Bool (nat_eq b t)) [ inl k ↦ rw k refl | inr k ↦ rw k refl ])
        | inr e ↦
            let p : waits_of mid a b ≡ (not (is_id ids a) && waits_of old a b) = rw e at from_a in
            rw (x, e, p, two) (elim (cases_Bool (is_id ids a)) [
              | inl i ↦ rw i (elim (cases_Bool (nat_eq a u)) [ inl k ↦ rw k refl | inr k ↦ rw k refl ])
              | inr i ↦ rw i (elim (cases_Bool (nat_eq a u)) [ inl k ↦ rw k refl | inr k ↦ rw k refl ])
            ])
      ]

  live_more : (r : ℕ) → is_live new r ≡ (not (is_id (ids ++ u ∷ []) r) && is_live old r)
  live_more r =
      let a = one_more (nat_eq r) ids u in
      let x : is_live new r ≡ (not (nat_eq r u) && is_live mid r) = ap (λ f. f r) m.live in
      let y : is_live mid r ≡ (not (is_id ids r) && is_live old r) = ap (λ f. f r) h.live in
      rw (x, y, a) (elim (cases_Bool (is_id ids r)) [
        | inl i ↦ rw i (elim (cases_Bool (nat_eq r u)) [ inl k ↦ rw k refl | inr k ↦ rw k refl ])
        | inr i ↦ rw i (elim (cases_Bool (nat_eq r u)) [ inl k ↦ rw k refl | inr k ↦ rw k refl ])
      ])

  pub joins_more : Joins old new t (ids ++ u ∷ [])
  joins_more = record {
    owner = fun_ext owner_more;
    state = fun_ext state_more;
    waits = fun_ext (λ a. fun_ext (λ b. waits_more a b));
    live = fun_ext live_more;
    next = m.next ∙ h.next;
    rooms = keeps_room-trans old mid new h.rooms m.rooms;
  }
