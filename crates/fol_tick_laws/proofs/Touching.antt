-- What an event on a chunk touches is among what it may touch.
use Rattle.std.proofs.Common.{◌≡◌, ◌≢◌, ℕ, sym, ◌∙◌, ap, Bool, true, false, inl, inr, List, [], ◌∷◌, ◌<◌, refl}
use Rattle.std.specs.Prelude.{◌&&◌, ◌||◌, filter, if◌then◌else◌, nat_eq, nat_lt, not}
use Rattle.std.specs.List.{list_any}
use Rattle.std.proofs.Math.Bool.{and-false}
use Rattle.std.proofs.Math.Path.{fun_ext}
use Rattle.std.proofs.lemmas.Bool.{cases_Bool, eq-eqb, eqb-true, false_from_ne_true, lt-ltb, or_parts, true≢false}
use Rattle.std.proofs.lemmas.List.{append-nil}
use Rattle.std.proofs.lemmas.Map.Views.{any-filter_same}
use Rattle.fol_model.specs.declared.places.ChunkPos.{ChunkPos}
use Rattle.fol_model.specs.declared.regions.State.TheVariants.{Dead}
use Rattle.fol_model.specs.Add.{is_full}
use Rattle.fol_model.specs.GridState.{is_loaded, is_ready}
use Rattle.fol_model.specs.Rules.{Rules}
use Rattle.fol_model.specs.Universe.{numbers_below}
use Rattle.fol_model.specs.World.{World}
use Rattle.fol_laws.specs.LateBegin.{draws_in, ground, load_touches, post_touches, unload_touches}
use Rattle.fol_laws.proofs.NumberOrder.{in_numbers}
use Rattle.fol_laws.proofs.RuleLaws.{rules_hold}
use Rattle.fol_laws.proofs.Tests.{same_answer}
use Rattle.fol_world.proofs.AddBags.{filter_none}
use Rattle.fol_core.specs.Ahead.{PreparedAreReady, Spares, may_touch}
use Rattle.fol_core.specs.Meaning.{Meaning, is_prepared, world_of}
use Rattle.fol_core.proofs.HeldTouched.{alone, alone_listed, owner, owner_below}
use Rattle.fol_tick_laws.specs.Touching.{IsSpared, OwnerIsListedAlone, is_touched, lists}

-- each of the three asks that the region owns the section of the chunk, or that it is drawn in
within : (owns draws room new last : Bool) → ((draws || (room && (owns && new))) || ((draws || (room && owns)) || (owns && last))) ≡ true → (owns || draws) ≡ true
within true draws room new last h = refl
within false true room new last h = refl
within false false true new last h = absurd (true≢false (sym h))
within false false false new last h = absurd (true≢false (sym h))

pub touched_within : (w : World) (c : ChunkPos) (r : ℕ) → is_ready (w.grid.state r) ≡ true → is_touched w c r ≡ true → may_touch w c r ≡ true
touched_within w c r ready touched =
    rw ready (within (ground w.grid r c) (draws_in w.grid c r) (not (is_full w.grid c)) (not (is_loaded w.grid c)) (nat_lt 0 (w.tickets c) && nat_eq (w.grid.holds c) 1) touched)

-- a region below the bound that passes the test is one of the list
listed : (p : ℕ → Bool) (n r : ℕ) → r < n → p r ≡ true → lists (filter p (numbers_below n)) r ≡ true
listed p n r below passes =
    any-filter_same (λ id. nat_eq id r) p true (λ k same. ap p (eqb-true k r same) ∙ passes) (numbers_below n)
    ∙ ap (λ f. list_any f (numbers_below n)) (fun_ext (λ id. same_answer (nat_eq id r) (nat_eq r id) (λ e. eq-eqb r id (sym (eqb-true id r e))) (λ e. eq-eqb id r (sym (eqb-true r id e))))) ∙ in_numbers n r below

module _ (m : Meaning) (c : ChunkPos) (ids : List ℕ) (ready : PreparedAreReady m) (all : ids ≡ filter (may_touch (world_of m) c) (numbers_below (world_of m).grid.next)) (none : Spares m (lists ids)) where
  untouched : (r : ℕ) → is_prepared m r ≡ true → is_touched (world_of m) c r ≡ false
  untouched r prepared = false_from_ne_true (is_touched (world_of m) c r) (λ touched.
      let given = ready r prepared in
      let there : lists ids r ≡ true = ap (λ xs. lists xs r) all ∙ listed (may_touch (world_of m) c) (world_of m).grid.next r given.0 (touched_within (world_of m) c r given.1 touched) in
      true≢false (sym there ∙ none r prepared))

  pub unlisted_spared : IsSpared m c
  unlisted_spared =
      let parts : (r : ℕ) → is_prepared m r ≡ true → _ = λ r prepared. or_parts (load_touches (world_of m).grid c r) _ (untouched r prepared) in
      record {
        load = λ r prepared. (parts r prepared).0;
        post = λ r prepared. (or_parts (post_touches (world_of m).grid c r) (unload_touches (world_of m) c r) (parts r prepared).1).0;
        unload = λ r prepared. (or_parts (post_touches (world_of m).grid c r) (unload_touches (world_of m) c r) (parts r prepared).1).1;
      }

-- ---- a chunk with a hold

module _ (w : World) (c : ChunkPos) (rules : Rules w.grid) (held : 0 < w.grid.holds c) where
  abbrev home : ℕ
  home = owner w.grid c

  owner_touched : (r : ℕ) → may_touch w c r ≡ (is_ready (w.grid.state r) && nat_eq home r)
  owner_touched r = elim (cases_Bool (is_ready (w.grid.state r))) [
    | inl e ↦
        let lives : w.grid.state r ≢ Dead = λ d. let y : is_ready Dead ≡ true = rw d at e in true≢false (sym y) in
        let given : nat_lt 0 r ≡ true = lt-ltb 0 r (rules.given r lives) in
        let own = rw given at (alone w.grid c rules held r) in
        rw e own
    | inr e ↦ rw e refl
  ]

  by_owner : (ready : Bool) → is_ready (w.grid.state home) ≡ ready → (r : ℕ) → may_touch w c r ≡ (ready && nat_eq home r)
  by_owner ready is r = owner_touched r ∙ elim (cases_Bool (nat_eq home r)) [
    | inl own ↦ let here : is_ready (w.grid.state r) ≡ ready = ap (λ k. is_ready (w.grid.state k)) (sym (eqb-true home r own)) ∙ is in rw here refl
    | inr other ↦ rw other (and-false (is_ready (w.grid.state r)) ∙ sym (and-false ready))
  ]

  listed_alone : filter (may_touch w c) (numbers_below w.grid.next) ≡ (if is_ready (w.grid.state home) then home ∷ [] else [])
  listed_alone = elim (cases_Bool (is_ready (w.grid.state home))) [
    | inl ready ↦ rw ready (sym (alone_listed (may_touch w c) home w.grid.next (owner_below w.grid c rules held) (by_owner true ready)))
    | inr busy ↦ rw busy (filter_none (may_touch w c) (numbers_below w.grid.next) (by_owner false busy))
  ]

pub owner_listed : OwnerIsListedAlone
owner_listed m c id ids grid run held is all =
    let rules : Rules (world_of m).grid = rules_hold m.opening m.history [] grid (rw append-nil run) in
    all ∙ (listed_alone (world_of m) c rules held ∙ ap (λ (k : ℕ). if is_ready ((world_of m).grid.state k) then k ∷ [] else []) (sym is))
