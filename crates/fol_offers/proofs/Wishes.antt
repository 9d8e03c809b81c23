-- What the wishes of an End may touch, told from the world before it.
use Rattle.std.proofs.Common.{◌≡◌, ◌≢◌, ℕ, ◌+◌, ◌≤◌, zero, suc, refl, sym, ◌∙◌, ap, arith, Bool, true, false, inl, inr, not, ◌&&◌, ◌||◌, List, [], ◌∷◌, true≢false}
use Rattle.std.specs.Prelude.{All, nat_eq, nat_lt, Option, Some, None}
use Rattle.std.specs.List.{AllByRecursion, count_by}
use Rattle.std.proofs.lemmas.Bool.{cases_Bool, and_parts, and_from, eqb-true, eq-eqb, false_from_ne_true, lt-ltb, ltb-true, not_from_false, not-true, or_parts}
use Rattle.fol_model.specs.declared.actions.Action.{Action}
use Rattle.fol_model.specs.declared.actions.Action.TheVariants as action
use Rattle.fol_model.specs.declared.places.BlockPos.{BlockPos}
use Rattle.fol_model.specs.declared.places.ChunkPos.{ChunkPos}
use Rattle.fol_model.specs.declared.places.SectionPos.{SectionPos}
use Rattle.fol_model.specs.declared.regions.State.TheVariants.{Dead, Ready}
use Rattle.fol_model.specs.declared.tasks.Ran.{Ran}
use Rattle.fol_model.specs.declared.tasks.Wish.{Wish}
use Rattle.fol_model.specs.Add.{add, is_full, is_near, is_wanted, wanted}
use Rattle.fol_model.specs.ActionStep.{Recorded}
use Rattle.fol_model.specs.End.{accepted, all_accepted, dropped, ended, put_back, released, run_down, ticked}
use Rattle.fol_model.specs.Geometry.{is_chunk, is_within, section_of}
use Rattle.fol_model.specs.GridNumbers.{IsGrid}
use Rattle.fol_model.specs.GridState.{GridState, is_present}
use Rattle.fol_model.specs.Holds.{posted}
use Rattle.fol_model.specs.Rules.{Rules}
use Rattle.fol_model.specs.Universe.{all_sections, some_section}
use Rattle.fol_model.specs.World.{World}
use Rattle.fol_laws.specs.LateBegin.{draws_in, ground, post_touches, wishes_touch}
use Rattle.fol_laws.specs.Steps.{SameSections}
use Rattle.fol_laws.proofs.AddEffect.{present_after}
use Rattle.fol_laws.proofs.AddSections.{add_far_sections, add_far_state, grid_add}
use Rattle.fol_laws.proofs.ListCounts.{count_by-cons, count_by-mono}
use Rattle.fol_laws.proofs.SoundRuns.{Ending, accepted_ending}
use Rattle.fol_laws.proofs.Tests.{same_answer}
use Rattle.fol_laws.proofs.WishLimits.{WishOk}
use Rattle.fol_core.specs.Answers.{is_over}

-- the region owns the section of the chunk, or an Add on it draws the region in
abbrev pub reaches : GridState → ChunkPos → ℕ → Bool
reaches g c r = ground g r c || draws_in g c r

-- ---- a wish that is accepted

put_back_is : (w : World) (a : Action) (b : Option BlockPos) → put_back w a b ≡ record w { flat = (put_back w a b).flat }
put_back_is w (action.Set at k) b = refl
put_back_is w (action.Copy at to) b = refl
put_back_is w (action.Load c) b = refl
put_back_is w (action.Unload c) b = refl
put_back_is w (action.Post c d inner) b = refl
put_back_is w (action.Send k to) b = refl
put_back_is w (action.Arrive e) None = refl
put_back_is w (action.Arrive e) (Some b) = refl
put_back_is w (action.Every k l inner) b = refl

accepted_over : (w : World) (x : Wish) → is_over (accepted w x) ≡ is_over w
unfolding accepted posted
accepted_over w x = elim (cases_Bool (is_full w.grid x.chunk)) [
  | inl f ↦ rw f (ap is_over (put_back_is w x.action x.back))
  | inr f ↦ rw f refl
]

accepted_grid : (w : World) (x : Wish) → (accepted w x).grid ≡ add w.grid x.chunk
unfolding accepted posted add
accepted_grid w x = elim (cases_Bool (is_full w.grid x.chunk)) [
  | inl f ↦ rw f (ap (λ (v : World). v.grid) (put_back_is w x.action x.back))
  | inr f ↦ rw f refl
]

all_over : (w : World) (xs : List Wish) → is_over (all_accepted w xs) ≡ is_over w
all_over w [] = refl
all_over w (x ∷ xs) = all_over (accepted w x) xs ∙ accepted_over w x

-- an End neither ends a history nor takes its end back
pub over_ended : (w : World) (r : ℕ) (ran : List Ran) → is_over (ended w r ran) ≡ is_over w
unfolding ended released dropped
over_ended w r ran = all_over (run_down w r ran) (ticked w r ran).wishes

-- ---- sections are only added

count_two : {X : Type 0} (p q p' q' : X → Bool) → ((x : X) → p x ≡ true → (p' x ≡ true) × (q x ≡ false)) → ((x : X) → q x ≡ true → (p' x || q' x) ≡ true)
    → (xs : List X) → count_by p xs + count_by q xs ≤ count_by p' xs + count_by q' xs
count_two p q p' q' kept wanted [] = omega arith
count_two p q p' q' kept wanted (x ∷ xs) =
    let a = count_by-cons p x xs in
    let b = count_by-cons q x xs in
    let c = count_by-cons p' x xs in
    let d = count_by-cons q' x xs in
    let rest = count_two p q p' q' kept wanted xs in
    let k = kept x in
    let l = wanted x in
    grind arith

module _ (g h : GridState) (same : h.grid ≡ g.grid) (grows : (s : SectionPos) → is_present g s ≡ true → is_present h s ≡ true) where
  wanted_before : (d : ChunkPos) (s : SectionPos) → is_wanted h d s ≡ true → is_wanted g d s ≡ true
  wanted_before d s e =
      let parts = and_parts (not (is_present h s)) (is_within (section_of h.grid d) h.grid.create s) e in
      let gone : is_present g s ≡ false = false_from_ne_true (is_present g s) (λ k. true≢false (sym (grows s k) ∙ not-true (is_present h s) parts.0)) in
      and_from (not (is_present g s)) (is_within (section_of g.grid d) g.grid.create s) (not_from_false (is_present g s) gone) (rw same at parts.1)

  -- a section that was wanted is there, or is wanted still
  wanted_then : (d : ChunkPos) (s : SectionPos) → is_wanted g d s ≡ true → (is_present h s || is_wanted h d s) ≡ true
  wanted_then d s e = elim (cases_Bool (is_present h s)) [
    | inl k ↦ rw k refl
    | inr k ↦ let near = (and_parts (not (is_present g s)) (is_within (section_of g.grid d) g.grid.create s) e).1 in rw (k, same) near
  ]

  none_wanted : (d : ChunkPos) → nat_eq (wanted g d) 0 ≡ true → nat_eq (wanted h d) 0 ≡ true
  unfolding wanted
  none_wanted d e =
      let none = eqb-true _ _ e in
      let most = count_by-mono (is_wanted h d) (is_wanted g d) (wanted_before d) all_sections in
      eq-eqb _ _ (omega arith)

  full_then : (d : ChunkPos) → is_full g d ≡ true → is_full h d ≡ true
  unfolding is_full wanted
  full_then d e =
      let more = count_two (is_present g) (is_wanted g d) (is_present h) (is_wanted h d)
      (λ s k. (grows s k, rw k refl)) (wanted_then d) all_sections in
      let full = ltb-true _ _ e in
      lt-ltb _ _ (omega arith)

  module _ (r : ℕ) (sections : SameSections g h r) where
    owner_same : (s : SectionPos) → nat_eq (h.owner s) r ≡ nat_eq (g.owner s) r
    owner_same s = same_answer (nat_eq (h.owner s) r) (nat_eq (g.owner s) r)
        (λ e. eq-eqb _ _ ((sections s).1 (eqb-true _ _ e))) (λ e. eq-eqb _ _ ((sections s).0 (eqb-true _ _ e)))

    near_same : (d : ChunkPos) → is_near h d r ≡ is_near g d r
    unfolding is_near
    near_same d = λ i. nat_lt 0 r && some_section (λ s. owner_same s i && is_within (section_of (same i) d) ((same i).create + (same i).merge) s)

    ground_same : (d : ChunkPos) → ground h r d ≡ ground g r d
    ground_same d = ap (λ f. nat_eq (h.owner (section_of f d)) r) same ∙ owner_same (section_of g.grid d)

    draws_before : (d : ChunkPos) → draws_in h d r ≡ true → draws_in g d r ≡ true
    draws_before d e =
        let outer = and_parts (not (is_full h d)) (not (nat_eq (wanted h d) 0) && is_near h d r) e in
        let inner = and_parts (not (nat_eq (wanted h d) 0)) (is_near h d r) outer.1 in
        let room : is_full g d ≡ false = false_from_ne_true (is_full g d) (λ k. true≢false (sym (full_then d k) ∙ not-true _ outer.0)) in
        let some : nat_eq (wanted g d) 0 ≡ false = false_from_ne_true (nat_eq (wanted g d) 0) (λ k. true≢false (sym (none_wanted d k) ∙ not-true _ inner.0)) in
        let near : is_near g d r ≡ true = sym (near_same d) ∙ inner.1 in
        rw (room, some, near) refl

    -- what did not reach the region does not then
    reaches_no_more : (d : ChunkPos) → reaches g d r ≡ false → reaches h d r ≡ false
    reaches_no_more d e =
        let parts = or_parts (ground g r d) (draws_in g d r) e in
        let own : ground h r d ≡ false = ground_same d ∙ parts.0 in
        let draws : draws_in h d r ≡ false = false_from_ne_true (draws_in h d r) (λ k. true≢false (sym (draws_before d k) ∙ parts.1)) in
        rw (own, draws) refl

-- ---- an Add that does not reach a region

module _ (g : GridState) (c : ChunkPos) (rules : Rules g) (ok : IsGrid g.grid) (limits : is_chunk c ≡ true) where
  present_then : (s : SectionPos) → is_present g s ≡ true → is_present (add g c) s ≡ true
  unfolding add
  present_then s h = elim (cases_Bool (is_full g c)) [
    | inl f ↦ rw f h
    | inr f ↦ elim (cases_Bool (nat_eq (wanted g c) 0)) [
      | inl k ↦ rw (f, k) h
      | inr k ↦ rw (f, k) (lt-ltb 0 _ (present_after g c rules ok limits s (ltb-true 0 _ h)))
    ]
  ]

  module _ (r : ℕ) (lives : g.state r ≢ Dead) (spared : draws_in g c r ≡ false) where
    sections_kept : SameSections g (add g c) r
    unfolding add
    sections_kept = elim (cases_Bool (is_full g c)) [
      | inl f ↦ rw f (λ s. ((λ e. e), (λ e. e)))
      | inr f ↦ elim (cases_Bool (nat_eq (wanted g c) 0)) [
        | inl k ↦ rw (f, k) (λ s. ((λ e. e), (λ e. e)))
        | inr k ↦ let far : is_near g c r ≡ false = rw (f, k) at spared in add_far_sections g c rules ok limits r lives far
      ]
    ]

    state_kept : (add g c).state r ≡ g.state r
    unfolding add
    state_kept = elim (cases_Bool (is_full g c)) [
      | inl f ↦ rw f refl
      | inr f ↦ elim (cases_Bool (nat_eq (wanted g c) 0)) [
        | inl k ↦ rw (f, k) refl
        | inr k ↦ let far : is_near g c r ≡ false = rw (f, k) at spared in add_far_state g c rules ok limits r lives far
      ]
    ]

-- ---- all wishes

post_spared : (own draws full : Bool) → (own || draws) ≡ false → (draws || (not full && own)) ≡ false
post_spared true draws full e = absurd (true≢false e)
post_spared false true full e = absurd (true≢false e)
post_spared false false true e = refl
post_spared false false false e = refl

pub weaken : {X : Type 0} (P Q : X → Type 0) → ((x : X) → P x → Q x) → (xs : List X) → AllByRecursion P xs → AllByRecursion Q xs
weaken P Q f [] h = tt
weaken P Q f (x ∷ xs) h = (f x h.0, weaken P Q f xs h.1)

-- as a fact of each place
pub each : {X : Type 0} (P Q : X → Type 0) → ((x : X) → P x → Q x) → (xs : List X) → AllByRecursion P xs → All Q xs
each P Q f [] h k d low = absurd (omega (arith, low))
each P Q f (x ∷ xs) h zero d low = f x h.0
each P Q f (x ∷ xs) h (suc k) d low = each P Q f xs h.1 k d (omega (arith, low))

-- where no wish's chunk reaches a Ready region in the world before the first, none of the wishes touches it
pub wishes_spare : (rec : Recorded) (w : World) (xs : List Wish) (q r : ℕ) → Ending q w → w.grid.state r ≡ Ready → AllByRecursion (WishOk rec) xs
    → AllByRecursion (λ x. reaches w.grid x.chunk r ≡ false) xs → wishes_touch w xs r ≡ false
wishes_spare rec w [] q r m ready ok none = refl
wishes_spare rec w (x ∷ xs) q r m ready ok none =
    let g : GridState = w.grid in
    let c : ChunkPos = x.chunk in
    let lives : g.state r ≢ Dead = λ d. cc in
    let spared : draws_in g c r ≡ false = (or_parts (ground g r c) (draws_in g c r) none.0).1 in
    let now : post_touches g c r ≡ false = post_spared (ground g r c) (draws_in g c r) (is_full g c) none.0 in
    let is : (accepted w x).grid ≡ add g c = accepted_grid w x in
    let ready' : (accepted w x).grid.state r ≡ Ready = ap (λ (f : GridState). f.state r) is ∙ (state_kept g c m.sound.rules m.sound.grid ok.0.chunk r lives spared ∙ ready) in
    let kept : (d : ChunkPos) → reaches g d r ≡ false → reaches (accepted w x).grid d r ≡ false = λ d e.
    ap (λ (f : GridState). reaches f d r) is ∙ reaches_no_more g (add g c) (grid_add g c) (present_then g c m.sound.rules m.sound.grid ok.0.chunk) r (sections_kept g c m.sound.rules m.sound.grid ok.0.chunk r lives spared) d e in
    rw now (wishes_spare rec (accepted w x) xs q r (accepted_ending rec w x q m ok.0) ready' ok.1 (weaken (λ y. reaches g y.chunk r ≡ false) (λ y. reaches (accepted w x).grid y.chunk r ≡ false) (λ y e. kept y.chunk e) xs none.1))

-- the tasks that ran drop holds, which nobody asks for
pub reaches_down : (w : World) (q : ℕ) (ran : List Ran) (c : ChunkPos) (r : ℕ) → reaches (run_down w q ran).grid c r ≡ reaches w.grid c r
unfolding dropped is_full wanted is_near
reaches_down w q ran c r = refl

pub state_down : (w : World) (q : ℕ) (ran : List Ran) (r : ℕ) → (run_down w q ran).grid.state r ≡ w.grid.state r
unfolding dropped
state_down w q ran r = refl
