-- Slots that are tried, one after another.
use Rattle.std.proofs.Common.{◌≡◌, ◌∙◌, sym, ap, refl, ℕ, zero, suc, ◌+◌, ◌-◌, ◌≤◌, arith, List, [], ◌∷◌, ◌++◌, append_assoc, map}
use Rattle.std.specs.Prelude.{◌≢◌, Option, None, Some}
use Rattle.std.specs.List.{range_with_len}
use Rattle.std.proofs.lemmas.List.{append-nil, map-append}
use Rattle.std.proofs.lemmas.List.Elements.{All-nil, All-cons, All-append}
use Rattle.fol_slots.specs.declared.word.Word.{Word}
use Rattle.fol_slots.specs.declared.word.Word.TheVariants.{Ready}
use Rattle.fol_slots.specs.Shown.{Worker, missing}
use Rattle.fol_offers.specs.Offered.{Offered}
use Rattle.fol_live.specs.Hands.{IsHand, MissesAll, MissesThese}
use Rattle.fol_live.specs.Rounds.{numbers_from, round}

one_more : (a n : ℕ) → range_with_len a (suc n) ≡ range_with_len a n ++ (a + n) ∷ []
one_more a zero = let e : a ≡ a + 0 = omega arith in rw (← e) refl
one_more a (suc n) = let e : a + 1 + n ≡ a + suc n = omega arith in rw (← e) (ap (λ (xs : List ℕ). a ∷ xs) (one_more (a + 1) n))

pub numbers_more : (first i : ℕ) → first ≤ i → numbers_from first (i + 1) ≡ numbers_from first i ++ i ∷ []
numbers_more first i low =
    let n : ℕ = i - first in
    let up : i + 1 - first ≡ suc n = omega (arith, low) in
    let there : first + n ≡ i = omega (arith, low) in
    rw (up, one_more first n, there) refl

pub misses_none : (w : Worker Offered) (first : ℕ) → MissesThese w w (numbers_from first first)
misses_none w first =
    let none : first - first ≡ 0 = omega arith in
    record {
      met = [];
      slots_are = rw none refl;
      none_ready = All-nil (λ (m : ℕ × Word). m.1 ≢ Ready);
      is = rw (append-nil w.found) refl;
    }

-- one slot more
pub misses_more : (old now new : Worker Offered) (first i : ℕ) (w : Word) → first ≤ i → MissesThese old now (numbers_from first i) → w ≢ Ready → new ≡ missing now i w
    → MissesThese old new (numbers_from first (i + 1))
misses_more old now new first i w low before other is =
    let m : ℕ × Word = (i, w) in
    let same = before.is in
    record {
      met = before.met ++ m ∷ [];
      slots_are = map-append (λ (x : ℕ × Word). x.0) before.met (m ∷ []) ∙ ap (λ (xs : List ℕ). xs ++ i ∷ []) before.slots_are ∙ sym (numbers_more first i low);
      none_ready = All-append (λ (x : ℕ × Word). x.1 ≢ Ready) before.met (m ∷ []) before.none_ready (All-cons (λ (x : ℕ × Word). x.1 ≢ Ready) m [] other (All-nil (λ (x : ℕ × Word). x.1 ≢ Ready)));
      is = is ∙ ap (λ (x : Worker Offered). missing x i w) same ∙ ap (λ (f : List (ℕ × Word)). record old { found = f }) (append_assoc old.found before.met (m ∷ []));
    }

-- the rest of the slots, and then those before
pub misses_round : (old now new : Worker Offered) (from count : ℕ) → count ≡ old.slots.slots → MissesThese old now (numbers_from from count) → MissesThese now new (numbers_from 0 from) → MissesAll old new
misses_round old now new from count all p q =
    let here = p.is in
    record {
      from = from;
      misses = record {
        met = p.met ++ q.met;
        slots_are = map-append (λ (x : ℕ × Word). x.0) p.met q.met ∙ ap (λ (xs : List ℕ). xs ++ map (λ (x : ℕ × Word). x.0) q.met) p.slots_are ∙ ap (λ (xs : List ℕ). numbers_from from count ++ xs) q.slots_are
            ∙ ap (round from) all;
        none_ready = All-append (λ (x : ℕ × Word). x.1 ≢ Ready) p.met q.met p.none_ready q.none_ready;
        is = q.is ∙ ap (λ (x : Worker Offered). record x { found = x.found ++ q.met }) here ∙ ap (λ (f : List (ℕ × Word)). record old { found = f }) (append_assoc old.found p.met q.met);
      };
    }

-- a worker that holds no slot holds no region's tick
pub no_region : (region : Option ℕ) (w : Worker Offered) → IsHand region w → w.slot ≡ None → region ≡ None
no_region None w hand free = refl
no_region (Some r) w hand free = let holds = (hand.has r refl).slot in absurd (let none = rw free at holds in cc)
