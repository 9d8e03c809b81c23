-- What an Add leaves of the holds, the largest region as its target, and the sections of regions that tick or are not near.
use Rattle.std.proofs.Common.{◌≡◌, ℕ, ◌+◌, ◌≤◌, ◌<◌, refl, sym, ◌∙◌, true, false, inl, inr, ◌&&◌, not}
use Rattle.std.specs.Prelude.{◌≢◌, nat_eq, nat_lt}
use Rattle.std.proofs.lemmas.Bool.{cases_Bool, true≢false, and_parts, and_from, not-true, lt-ltb, cases_lt}
use Rattle.fol_model.specs.declared.places.ChunkPos.{ChunkPos}
use Rattle.fol_model.specs.declared.regions.State.TheVariants.{Ticking, Dead}
use Rattle.fol_model.specs.Geometry.{is_chunk}
use Rattle.fol_model.specs.GridNumbers.{IsGrid}
use Rattle.fol_model.specs.GridState.{GridState, size, at_chunk}
use Rattle.fol_model.specs.Counting.{some_below}
use Rattle.fol_model.specs.Add.{wanted, is_near, is_near_calm, is_greatest, target, is_full, add}
use Rattle.fol_model.specs.Rules.{Rules}
use Rattle.fol_laws.specs.Target.{TargetIsLargest}
use Rattle.fol_laws.specs.Steps.{SameSections}
use Rattle.fol_laws.proofs.NumbersBelow.{some_below-is, least-passes, least-below}
use Rattle.fol_laws.proofs.AddTarget.{calm_below, target_is, greatest_from}
use Rattle.fol_laws.proofs.AddEffect.{state_stays, owner_after, ticking_stays, stays_owner, Stays, live_stays}

-- what an addition does to the holds, to the grid and to a Ticking region
pub holds_add : (g : GridState) (c q : ChunkPos) → is_full g c ≡ false → (add g c).holds q ≡ at_chunk g.holds c (g.holds c + 1) q
unfolding add
holds_add g c q room = elim (cases_Bool (nat_eq (wanted g c) 0)) [ inl k ↦ rw (room, k) refl | inr k ↦ rw (room, k) refl ]

pub grid_add : (g : GridState) (c : ChunkPos) → (add g c).grid ≡ g.grid
unfolding add
grid_add g c = elim (cases_Bool (is_full g c)) [ inl f ↦ rw f refl | inr f ↦ elim (cases_Bool (nat_eq (wanted g c) 0)) [ inl k ↦ rw (f, k) refl | inr k ↦ rw (f, k) refl ] ]

pub ticking_add : (g : GridState) (c : ChunkPos) → Rules g → IsGrid g.grid → is_chunk c ≡ true → (r : ℕ) → g.state r ≡ Ticking → (add g c).state r ≡ Ticking
unfolding add
ticking_add g c rules ok l r t = elim (cases_Bool (is_full g c)) [
  | inl f ↦ rw f t
  | inr f ↦ elim (cases_Bool (nat_eq (wanted g c) 0)) [ inl k ↦ rw (f, k) t | inr k ↦ rw (f, k) (state_stays g c rules ok l r (ticking_stays g c rules ok l r t) ∙ t) ]
]

module _ (g : GridState) (c : ChunkPos) (rules : Rules g) (ok : IsGrid g.grid) (limits : is_chunk c ≡ true) where
  most_of : (m : ℕ) → is_greatest g c m ≡ true → (q : ℕ) → is_near_calm g c q ≡ true → size g q ≤ size g m
  unfolding is_greatest
  most_of m h q k = elim (cases_lt (size g m) (size g q)) [
    | inl l ↦ let some = some_below-is (λ q. is_near_calm g c q && nat_lt (size g m) (size g q)) g.next q (calm_below g c rules ok limits q k) (and_from _ _ k (lt-ltb _ _ l)) in
        absurd (true≢false (sym some ∙ not-true _ (and_parts (is_near_calm g c m) (not (some_below (λ q. is_near_calm g c q && nat_lt (size g m) (size g q)) g.next)) h).1))
    | inr l ↦ l
  ]

  target_greatest : target g c < g.next → is_greatest g c (target g c) ≡ true
  unfolding target
  target_greatest l = least-passes (is_greatest g c) g.next l

  target_lowest : (q : ℕ) → q < g.next → is_greatest g c q ≡ true → target g c ≤ q
  unfolding target
  target_lowest q l h = least-below (is_greatest g c) g.next q l h

  pub target_largest : TargetIsLargest g c
  target_largest = elim (target_is g c rules ok limits) [
    | inr h ↦ inr h
    | inl k ↦ let m = target_greatest (calm_below g c rules ok limits (target g c) k) in
        inl (record {
          near = k;
          most = most_of (target g c) m;
          lowest = λ q kq e. target_lowest q (calm_below g c rules ok limits q kq) (greatest_from g c rules ok limits q kq (λ p pl kp. rw e (most_of (target g c) m p kp)));
        })
  ]

  -- a Ticking region neither gains nor loses a section
  pub add_ticking_sections : (r : ℕ) → g.state r ≡ Ticking → SameSections g (add g c) r
  unfolding add
  add_ticking_sections r t s = elim (cases_Bool (is_full g c)) [
    | inl f ↦ rw f ((λ e. e), (λ e. e))
    | inr f ↦ elim (cases_Bool (nat_eq (wanted g c) 0)) [
      | inl k ↦ rw (f, k) ((λ e. e), (λ e. e))
      | inr k ↦ rw (f, k) (
        (λ e. stays_owner g c rules ok limits s r e (rules.given r (λ d. cc)) (ticking_stays g c rules ok limits r t)),
        (λ e. let p : 0 < r = rules.given r (λ d. cc) in elim (owner_after g c rules ok limits s (rw e p)) [
          | inl x ↦ absurd ((ticking_stays g c rules ok limits r t).apart (sym e ∙ x))
          | inr x ↦ sym x.same ∙ e
        ]),
      )
    ]
  ]

  -- a region that is not near keeps its state and its sections
  far_stays : (r : ℕ) → g.state r ≢ Dead → is_near g c r ≡ false → Stays g c rules ok limits r
  far_stays r l f = live_stays g c rules ok limits r l (rw f refl)

  pub add_far_sections : (r : ℕ) → g.state r ≢ Dead → is_near g c r ≡ false → SameSections g (add g c) r
  unfolding add
  add_far_sections r l n s = elim (cases_Bool (is_full g c)) [
    | inl f ↦ rw f ((λ e. e), (λ e. e))
    | inr f ↦ elim (cases_Bool (nat_eq (wanted g c) 0)) [
      | inl k ↦ rw (f, k) ((λ e. e), (λ e. e))
      | inr k ↦ rw (f, k) (
        (λ e. stays_owner g c rules ok limits s r e (rules.given r l) (far_stays r l n)),
        (λ e. let p : 0 < r = rules.given r l in elim (owner_after g c rules ok limits s (rw e p)) [
          | inl x ↦ absurd ((far_stays r l n).apart (sym e ∙ x))
          | inr x ↦ sym x.same ∙ e
        ]),
      )
    ]
  ]

  pub add_far_state : (r : ℕ) → g.state r ≢ Dead → is_near g c r ≡ false → (add g c).state r ≡ g.state r
  unfolding add
  add_far_state r l n = elim (cases_Bool (is_full g c)) [
    | inl f ↦ rw f refl
    | inr f ↦ elim (cases_Bool (nat_eq (wanted g c) 0)) [ inl k ↦ rw (f, k) refl | inr k ↦ rw (f, k) (state_stays g c rules ok limits r (far_stays r l n)) ]
  ]

  pub far_target : (r : ℕ) → g.state r ≢ Dead → is_near g c r ≡ false → r ≢ target g c
  far_target r l n = (far_stays r l n).apart
