-- New slots keep the rule.
use Rattle.std.proofs.Common.{◌≡◌, ℕ, zero, suc, ◌<◌, List, [], ◌∷◌, length, get_or, map, replicate, sym, refl, ap, ◌∙◌, subst, arith, Option, Some, None}
use mathlib.Core.Option.{some, some-ne-none}
use lib.ListN.{get_elem?}
use Rattle.atomic_table.specs.Table.{opening}
use Rattle.fol_slots.specs.Hands.{place, place_at, SlotFits, SeatFits, Ruled}
use Rattle.fol_slots.specs.Steps.{first_view, all_kept}
use Rattle.fol_slots.proofs.Changes.{not_true, none_some}
use Rattle.fol_slots.proofs.Frames.{seats_stay, at_same}

length_map : {A B : Type 0} (f : A → B) (l : List A) → length (map f l) ≡ length l
length_map f [] = refl
length_map f (x ∷ xs) = ap suc (length_map f xs)

pub somes_long : {A : Type 0} (bodies : List A) → length (map (λ (b : A). Some b) bodies) ≡ length bodies
somes_long {A} bodies = length_map (λ (b : A). Some b) bodies

body_at : {T : Type 0} (bodies : List T) (i : ℕ) → i < length bodies → (b : T) × (get_elem? (map some (map (λ (c : T). Some c) bodies)) i ≡ some (some (Some b))) × (place_at (all_kept bodies) i ≡ place (Some b) None None)
body_at [] i low = absurd (omega arith)
body_at (x ∷ xs) zero low = (x, refl, refl)
body_at (x ∷ xs) (suc i) low = body_at xs i (omega arith)

abbrev zeros : ℕ → List ℕ
zeros count = replicate count 0

zeros_long : (count : ℕ) → length (zeros count) ≡ count
zeros_long zero = refl
zeros_long (suc count) = ap suc (zeros_long count)

all_zero : (count i : ℕ) → get_or (zeros count) i 0 ≡ 0
all_zero zero i = refl
all_zero (suc count) zero = refl
all_zero (suc count) (suc i) = all_zero count i

module _ {T : Type 0} (fit : T → Type 0) where
  opens : (bodies : List T) (words : List ℕ) → length words ≡ length bodies → ((i : ℕ) → get_or words i 0 ≡ 0) → Ruled fit (length bodies) (opening words (map (λ b. Some b) bodies) (first_view bodies))
  opens bodies words wide all_kept_words = record {
    keeper = 0;
    made = 0;
    owner = λ _. 0;
    hold = λ _. None;
    outer = λ _. None;
    ps = all_kept bodies;
    wide = wide;
    deep = length_map some (map (λ b. Some b) bodies) ∙ length_map (λ (b : T). Some b) bodies;
    long = length_map (λ (b : T). place (Some b) None None) bodies;
    few = omega arith;
    unmade = λ _ _. refl;
    seated = λ i j e. absurd (none_some j e);
    each_slot = λ i low. let h = body_at bodies i low in at_same (SlotFits fit 0 (λ _. 0) (λ _. None) (λ _. None) i) 0 _ (some (some (Some h.0))) _ (place (Some h.0) None None) _ (all_kept_words i) h.1 h.2 record {
      kept = λ _. refl;
      keeps = λ _. refl;
      ready = λ e. absurd (omega arith);
      fits = λ x e. absurd (none_some x e);
      offered = λ e. absurd (omega arith);
      home = λ _ _. refl;
      empty = λ e. absurd (omega arith);
      ticks = λ e. absurd (omega arith);
      held = λ k e. absurd (none_some i e);
      found = λ k e. absurd (none_some k e);
      out_by = λ j e. absurd (none_some j e);
    };
    each_seat = seats_stay (SeatFits (length bodies) 0 0 (λ _. 0) (λ _. None) (λ _. None) (all_kept bodies)) (first_view bodies ∷ []) 0 (first_view bodies)
        record {
          keeper_is = λ _. (refl, refl, refl);
          worker = λ e. absurd (not_true e);
          claims = λ e. absurd (not_true e);
          out = λ i e. absurd (none_some i e);
          outer_is = λ i e. absurd (none_some 0 e);
        }
        (λ j u other there. absurd (other (elim j as (λ k. get_elem? (first_view bodies ∷ []) k ≡ some u → k ≡ 0) [ zero ↦ λ _. refl | suc k ↦ λ e. absurd (some-ne-none u (sym e)) ] there)));
  }

  pub starts : (key bodies : List T) (slots : List (Option T)) (words : List ℕ) (count : ℕ) → key ≡ bodies → slots ≡ map (λ b. Some b) bodies → words ≡ zeros count → count ≡ length bodies → Ruled fit (length key) (opening words slots (first_view key))
  starts key bodies slots words count same filled zero_words long =
      let wide : length words ≡ length bodies = ap length zero_words ∙ (zeros_long count ∙ long) in
      let kept : (i : ℕ) → get_or words i 0 ≡ 0 = λ i. ap (λ (ws : List ℕ). get_or ws i 0) zero_words ∙ all_zero count i in
      subst (λ (x : List T × List (Option T)). Ruled fit (length x.0) (opening words x.1 (first_view x.0))) (λ j. (sym same j, sym filled j)) (opens bodies words wide kept)
