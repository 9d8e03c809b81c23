-- A bag that has to be gathered anew.
use Rattle.std.proofs.Common.{◌≡◌, ◌≢◌, ℕ, ◌≤◌, ◌<◌, refl, sym, ◌∙◌, arith, true, false, inl, inr, [], filter, ◌||◌, not, ◌&&◌}
use Rattle.std.specs.Prelude.{nat_eq, nat_lt}
use Rattle.std.proofs.lemmas.Bool.{and_parts, cases_Bool, eqb-true, eqb-false, ltb-false, not-true, true≢false}
use Rattle.fol_model.specs.declared.regions.State.{State}
use Rattle.fol_model.specs.declared.regions.State.TheVariants.{Transient, Ready, Ticking, Dead}
use Rattle.fol_model.specs.Universe.{all_chunks}
use Rattle.fol_model.specs.GridState.{GridState, is_dead, is_ready, is_ticking}
use Rattle.fol_model.specs.ActionStep.{Recorded}
use Rattle.fol_model.specs.Outputs.{is_chunk_of}
use Rattle.fol_store.specs.Bag.{Bag}
use Rattle.fol_world.specs.Hands.{rests}
use Rattle.fol_world.specs.Bags.{IsBagOf, KeepsUp, unsettled_at}
use Rattle.fol_world.specs.Agenda.{HaveBags}
use Rattle.fol_world.proofs.KeptUp.{exact}

-- as `IsBagOf`, but that a bag of region n need not be that of its chunks
pub record IsBagBut (g : GridState) (tick owed : ℕ → ℕ) (recorded : ℕ → Recorded) (n r : ℕ) (b : Bag) : Type 0 where
  pub here : b.here ≡ rests g r
  pub taken : b.taken ≡ is_ticking (g.state r)
  pub counter : rests g r ≡ true → b.tick ≡ tick r
  pub owes : rests g r ≡ true → b.owed ≡ owed r
  pub listed : g.state r ≢ Dead → n ≢ r → b.listed ≡ true → KeepsUp b (filter (is_chunk_of g r) all_chunks)
  pub since : rests g r ≡ true → b.since ≡ []
  pub out : g.state r ≡ Ticking → b.chunks ≡ filter (recorded r) all_chunks

pub unsettled_bag : (g : GridState) (tick owed : ℕ → ℕ) (recorded : ℕ → Recorded) (n : ℕ) (h : ℕ → Bag) → ((r : ℕ) → g.state r ≢ Dead → 0 < r)
    → ((r : ℕ) → IsBagBut g tick owed recorded n r (h r)) → (r : ℕ) → IsBagOf g tick owed recorded r (unsettled_at n h r)
unsettled_bag g tick owed recorded n h given is r = elim (cases_Bool (nat_lt 0 n)) [
  | inl l ↦ elim (cases_Bool (nat_eq n r)) [
    | inl e ↦ let same : n ≡ r = eqb-true n r e in let b = is n in rw (l, e, ← same) (record {
      here = b.here;
      taken = b.taken;
      counter = b.counter;
      owes = b.owes;
      listed = λ d w. absurd (true≢false (sym w));
      since = b.since;
      out = b.out;
    })
    | inr e ↦ let b = is r in rw (l, e) (record {
      here = b.here;
      taken = b.taken;
      counter = b.counter;
      owes = b.owes;
      listed = λ d w. b.listed d (eqb-false n r e) w;
      since = b.since;
      out = b.out;
    })
  ]
  | inr l ↦ let b = is r in rw l (record {
    here = b.here;
    taken = b.taken;
    counter = b.counter;
    owes = b.owes;
    listed = λ d w. b.listed d (λ e. let p : 0 < r = given r d in let z : n ≤ 0 = ltb-false 0 n l in omega arith) w;
    since = b.since;
    out = b.out;
  })
]

pub bag_but : (g : GridState) (tick owed : ℕ → ℕ) (recorded : ℕ → Recorded) (n r : ℕ) (b : Bag) → IsBagOf g tick owed recorded r b → IsBagBut g tick owed recorded n r b
bag_but g tick owed recorded n r b is = record { here = is.here; taken = is.taken; counter = is.counter; owes = is.owes; listed = λ d m w. is.listed d w; since = is.since; out = is.out }

pub not_dead : (s : State) → s ≢ Dead → not (is_dead s) ≡ true
not_dead Transient d = refl
not_dead Ready d = refl
not_dead Ticking d = refl
not_dead Dead d = absurd (d refl)

live_known : (s : State) → s ≢ Dead → ((not (is_dead s) && not (is_ticking s)) || is_ticking s) ≡ true
live_known Transient d = refl
live_known Ready d = refl
live_known Ticking d = refl
live_known Dead d = absurd (d refl)

pub ready_rests : (s : State) → is_ready s ≡ true → (not (is_dead s) && not (is_ticking s)) ≡ true
ready_rests Ready h = refl
ready_rests Transient h = absurd (true≢false (sym h))
ready_rests Ticking h = absurd (true≢false (sym h))
ready_rests Dead h = absurd (true≢false (sym h))

-- the bag of a region that rests is not with a worker
pub rests_home : (s : State) → (not (is_dead s) && not (is_ticking s)) ≡ true → is_ticking s ≡ false
rests_home s h = not-true (is_ticking s) (and_parts (not (is_dead s)) (not (is_ticking s)) h).1

-- the bag of a region that rests is listed for its loaded chunks
pub exact_bag : (g : GridState) (tick owed : ℕ → ℕ) (recorded : ℕ → Recorded) (r : ℕ) (b : Bag) → IsBagOf g tick owed recorded r b → g.state r ≢ Dead → rests g r ≡ true → b.listed ≡ true → b.chunks ≡ filter (is_chunk_of g r) all_chunks
exact_bag g tick owed recorded r b is lives h w = exact b.since b.chunks (is_chunk_of g r) (is.listed lives w) (is.since h)

-- a region that lives has its bag here or with a worker
pub known_bag : (g : GridState) (tick owed : ℕ → ℕ) (recorded : ℕ → Recorded) (n r : ℕ) (f : ℕ → Bag) → IsBagBut g tick owed recorded n r (f r) → g.state r ≢ Dead → ((f r).here || (f r).taken) ≡ true
known_bag g tick owed recorded n r f is d = rw (is.here, is.taken) (live_known (g.state r) d)

pub have_bags : (g : GridState) (tick owed : ℕ → ℕ) (recorded : ℕ → Recorded) (f : ℕ → Bag) → ((r : ℕ) → IsBagOf g tick owed recorded r (f r)) → HaveBags g f
have_bags g tick owed recorded f is r h = (is r).here ∙ ready_rests (g.state r) h
