-- Reading the words of a line by their places, as the loop does.
use Rattle.std.proofs.Common.{◌≡◌, ℕ, suc, ◌+◌, ◌<◌, ◌≤◌, ℤ, inl, inr, Bool, true, false, cond, not, ◌||◌, List, [], ◌∷◌, ◌++◌, length, map, Option, Some, None, refl, sym, ap, ◌∙◌, append_assoc, arith, subst, ◌⊎◌, ◌-◌, get_or, take, drop, eqb, to_z, of_z}
use Rattle.std.specs.List.{onto_first}
use Rattle.std.proofs.lemmas.Int.{to_z-of_z}
use borrow.Author.Differences.{ints}
use mir.Syntax.{w64}
use mir.Val.{SFits}
use Rattle.fol_model.specs.TextLines.{words}
use Rattle.std.specs.Prelude.{is_none}
use Rattle.std.proofs.lemmas.Bool.{cases_Bool, eqb-true}
use Rattle.std.proofs.lemmas.Bool.Decides.{nat_tests}
use Rattle.std.proofs.lemmas.List.Sums.{sum_by-cons}
use Rattle.std.specs.List.{list_any, count_by}
use Rattle.std.proofs.lemmas.List.{take_all, append-nil, length-append}
use Rattle.fol_model.specs.declared.words.Keyword.{Keyword}
use Rattle.fol_model.specs.declared.words.Field.{Field}
use Rattle.fol_model.specs.declared.words.Field.TheVariants as fields
use Rattle.fol_model.specs.declared.words.Cell.{Cell}
use Rattle.fol_model.specs.declared.words.Cell.TheVariants as cells
use Rattle.fol_model.specs.declared.words.Reading.{Reading}
use Rattle.fol_model.specs.declared.words.Reading.TheVariants as readings
use Rattle.fol_script.specs.declared.cells.Marks.{Marks}
use Rattle.fol_model.specs.TextForms.{key_of, action_form}
use Rattle.fol_model.specs.TextNumbers.{reading}
use Rattle.fol_text_laws.specs.FieldLimits.{InLimits, IsNear}
use Rattle.fol_model.specs.TextCauses.{placed, after_action, fills, form_of, or_nothing, is_no_action, is_nested, is_no_number, is_outside, is_post, key_or, is_no_reading, is_outside_reading, number_or, cell_of}
use Rattle.fol_script.specs.Marks.{Tells, Going, GoesOn, noted, left}
use Rattle.fol_text_laws.proofs.FieldLimits.{after_near}

or_assoc : (a b c : Bool) → ((a || b) || c) ≡ (a || (b || c))
or_assoc true b c = refl
or_assoc false b c = refl

regroup : (now : List Cell) (c : Cell) (cs : List Cell) → (now ++ c ∷ []) ++ cs ≡ now ++ c ∷ cs
regroup now c cs = append_assoc now (c ∷ []) cs

nest_is : (p : Field) (w : List ℕ) (rest : List (Field × List ℕ)) (k t : ℕ) → k + count_by is_nested ((p, w) ∷ rest) ≡ t → k + (cond (is_nested (p, w)) 1 0 + count_by is_nested rest) ≡ t
nest_is p w rest k t e = omega (arith, e, sum_by-cons (λ x. cond (is_nested x) 1 0) (p, w) rest)

pub step_number : (m : Marks) (low high : ℤ) (ps : List Field) (w : List ℕ) (ws : List (List ℕ)) (now : List Cell) (qs : List Field) (us : List (List ℕ)) (old : List Cell)
    → Going m (fields.Number low high ∷ ps) (w ∷ ws) now qs us old
    → Going (noted m (reading low high w)) ps ws (now ++ cells.Number (number_or (reading low high w)) ∷ []) qs us old
step_number m low high ps w ws now qs us old g = record {
  near = g.near.1;
  acts = g.acts;
  no_action = g.no_action;
  fill = g.fill;
  nested = omega (arith, nest_is (fields.Number low high) w (placed ps ws) m.nested (count_by is_nested (placed qs us)) g.nested);
  no_number = or_assoc m.no_number (is_no_reading (reading low high w)) (list_any is_no_number (placed ps ws)) ∙ g.no_number;
  outside = or_assoc m.outside (is_outside_reading (reading low high w)) (list_any is_outside (placed ps ws)) ∙ g.outside;
  cells = regroup now (cells.Number (number_or (reading low high w))) (map cell_of (placed ps ws)) ∙ g.cells;
  few = omega (arith, g.few, length-append now (cells.Number (number_or (reading low high w)) ∷ []));
}

one_post : (key : Keyword) → cond (is_post (Some key)) 1 0 ≤ 1
one_post key = elim (cases_Bool (is_post (Some key))) [ inl e ↦ rw e (omega arith) | inr e ↦ rw e (omega arith) ]

pub step_action : (m : Marks) (key : Keyword) (next ps : List Field) (w : List ℕ) (ws : List (List ℕ)) (now : List Cell) (qs : List Field) (us : List (List ℕ)) (old : List Cell)
    → key_of w ≡ Some key → form_of action_form (key_of w) ≡ Some next
    → Going m (fields.Action ∷ ps) (w ∷ ws) now qs us old
    → Going (record m { nested = m.nested + cond (is_post (Some key)) 1 0 }) next ws (now ++ cells.Word key ∷ []) qs us old
step_action m key next ps w ws now qs us old k f g =
    let R = placed qs us in
    let nested : (m.nested + (cond (is_post (Some key)) 1 0 + count_by is_nested (placed next ws))) ≡ count_by is_nested R =
    subst (λ (o : Option Keyword). (m.nested + (cond (is_post o) 1 0 + count_by is_nested (placed next ws))) ≡ count_by is_nested R) k
    (subst (λ (o : Option (List Field)). (m.nested + (cond (is_post (key_of w)) 1 0 + count_by is_nested (placed (or_nothing o) ws))) ≡ count_by is_nested R) f (nest_is fields.Action w (placed (after_action w) ws) m.nested (count_by is_nested R) g.nested)) in
    let cell : (now ++ cells.Word key ∷ map cell_of (placed next ws)) ≡ (old ++ map cell_of R) =
    subst (λ (o : Option Keyword). (now ++ cells.Word (key_or o) ∷ map cell_of (placed next ws)) ≡ (old ++ map cell_of R)) k
    (subst (λ (o : Option (List Field)). (now ++ cells.Word (key_or (key_of w)) ∷ map cell_of (placed (or_nothing o) ws)) ≡ (old ++ map cell_of R)) f g.cells) in
    let one : cond (is_post (Some key)) 1 0 ≤ 1 = one_post key in
    record {
      near = subst (λ (o : Option (List Field)). InLimits (or_nothing o)) f (after_near (key_of w));
      acts = g.acts;
      no_action = subst (λ (o : Option (List Field)). (is_none o || list_any is_no_action (placed (or_nothing o) ws)) ≡ list_any is_no_action R) f g.no_action;
      fill = subst (λ (o : Option (List Field)). fills (or_nothing o) ws ≡ fills qs us) f g.fill;
      nested = omega (arith, nested);
      no_number = subst (λ (o : Option (List Field)). (m.no_number || list_any is_no_number (placed (or_nothing o) ws)) ≡ list_any is_no_number R) f g.no_number;
      outside = subst (λ (o : Option (List Field)). (m.outside || list_any is_outside (placed (or_nothing o) ws)) ≡ list_any is_outside R) f g.outside;
      cells = regroup now (cells.Word key) (map cell_of (placed next ws)) ∙ cell;
      few = omega (arith, g.few, one, length-append now (cells.Word key ∷ []));
    }

or_false : (b : Bool) → (b || false) ≡ b
or_false true = refl
or_false false = refl

or_true : (b : Bool) → (b || true) ≡ true
or_true true = refl
or_true false = refl

mark_eq : (m n : Marks) → m.no_action ≡ n.no_action → m.unfilled ≡ n.unfilled → m.nested ≡ n.nested → m.no_number ≡ n.no_number → m.outside ≡ n.outside → m ≡ n
mark_eq m n a b c d e = λ i. record { no_action = a i; unfilled = b i; nested = c i; no_number = d i; outside = e i }

ended : (m : Marks) (ps : List Field) (ws : List (List ℕ)) (now : List Cell) (qs : List Field) (us : List (List ℕ)) (old : List Cell) (u : Bool)
    → placed ps ws ≡ [] → Going m ps ws now qs us old → u ≡ not (fills ps ws) → Tells qs us old now (record m { unfilled = u })
ended m ps ws now qs us old u none g e =
    let a = subst (λ (l : List (Field × List ℕ)). list_any is_no_action l ≡ list_any is_no_action (placed qs us)) none g.no_action in
    let b = subst (λ (l : List (Field × List ℕ)). (m.nested + count_by is_nested l) ≡ count_by is_nested (placed qs us)) none g.nested in
    let c = subst (λ (l : List (Field × List ℕ)). (m.no_number || list_any is_no_number l) ≡ list_any is_no_number (placed qs us)) none g.no_number in
    let d = subst (λ (l : List (Field × List ℕ)). (m.outside || list_any is_outside l) ≡ list_any is_outside (placed qs us)) none g.outside in
    let f = subst (λ (l : List (Field × List ℕ)). (now ++ map cell_of l) ≡ (old ++ map cell_of (placed qs us))) none g.cells in
    record {
      no_action = g.acts ∙ a;
      unfilled = λ _. e ∙ ap not g.fill;
      nested = λ _. omega (arith, b);
      no_number = λ _. sym (or_false m.no_number) ∙ c;
      outside = λ _. sym (or_false m.outside) ∙ d;
      cells = λ _. sym (append-nil now) ∙ f;
    }

-- where the words have run out, or the places
pub ends : (m : Marks) (ps : List Field) (ws : List (List ℕ)) (now : List Cell) (qs : List Field) (us : List (List ℕ)) (old : List Cell) (u : Bool)
    → (ws ≡ []) ⊎ (ps ≡ []) → Going m ps ws now qs us old → u ≡ not (fills ps ws) → Tells qs us old now (record m { unfilled = u })
ends m [] ws now qs us old u why g e = ended m [] ws now qs us old u refl g e
ends m (p ∷ ps) [] now qs us old u why g e = ended m (p ∷ ps) [] now qs us old u refl g e
ends m (p ∷ ps) (w ∷ ws) now qs us old u why g e = absurd (elim why [ inl h ↦ cc | inr h ↦ cc ])

pub stops : (m : Marks) (ps : List Field) (w : List ℕ) (ws : List (List ℕ)) (now new : List Cell) (qs : List Field) (us : List (List ℕ)) (old : List Cell)
    → form_of action_form (key_of w) ≡ None → Going m (fields.Action ∷ ps) (w ∷ ws) now qs us old → Tells qs us old new (record m { no_action = true })
stops m ps w ws now new qs us old f g =
    let a = subst (λ (o : Option (List Field)). (is_none o || list_any is_no_action (placed (or_nothing o) ws)) ≡ list_any is_no_action (placed qs us)) f g.no_action in
    record {
      no_action = a;
      unfilled = λ h. absurd cc;
      nested = λ h. absurd cc;
      no_number = λ h. absurd cc;
      outside = λ h. absurd cc;
      cells = λ h. absurd cc;
    }

pub starts : (m : Marks) (qs : List Field) (us : List (List ℕ)) (old : List Cell) → InLimits qs → m.no_action ≡ false → m.nested ≡ 0 → m.no_number ≡ false → m.outside ≡ false → Going m qs us old qs us old
starts m qs us old near a b c d = record {
  near = near;
  acts = a;
  no_action = refl;
  fill = refl;
  nested = omega arith;
  no_number = rw c refl;
  outside = rw d refl;
  cells = refl;
  few = omega arith;
}

pub notes_none : (m : Marks) (r : Reading) → readings.NoNumber ≡ r → record m { no_number = true } ≡ noted m r
notes_none m r e = rw (← e) (mark_eq _ _ refl refl refl (sym (or_true m.no_number)) (sym (or_false m.outside)))

pub notes_far : (m : Marks) (r : Reading) → readings.Outside ≡ r → record m { outside = true } ≡ noted m r
notes_far m r e = rw (← e) (mark_eq _ _ refl refl refl (sym (or_false m.no_number)) (sym (or_true m.outside)))

near_fits : (ps : List Field) (low high : ℤ) → InLimits ps → 0 < length ps → get_or ps 0 fields.Action ≡ fields.Number low high → SFits w64 low × SFits w64 high
near_fits [] low high near lt e = absurd (omega arith)
near_fits (p ∷ ps) low high near lt e =
    let n = subst IsNear e near.0 in
    (omega (arith, ints, n.0, n.1, n.2), omega (arith, ints, n.0, n.1, n.2))

pub goes_number : (ps : List Field) (low high : ℤ) (w : List ℕ) (m n : Marks) (now new : List Cell) (c : Cell) → InLimits ps → 0 < length ps → get_or ps 0 fields.Action ≡ fields.Number low high
    → c ≡ cells.Number (number_or (reading (to_z w64 (of_z w64 low)) (to_z w64 (of_z w64 high)) w)) → n ≡ noted m (reading (to_z w64 (of_z w64 low)) (to_z w64 (of_z w64 high)) w) → new ≡ now ++ c ∷ []
    → GoesOn ps w m n now new (take (length ps - 1) (drop 1 ps))
goes_number [] low high w m n now new c near lt e ec en enew = absurd (omega arith)
goes_number (p ∷ ps) low high w m n now new c near lt e ec en enew = λ ws qs us old g.
    let f = near_fits (p ∷ ps) low high near lt e in
    let fl : SFits w64 low = f.0 in
    let fh : SFits w64 high = f.1 in
    let g2 = subst (λ (q : Field). Going m (q ∷ ps) (w ∷ ws) now qs us old) e g in
    let s = step_number m low high ps w ws now qs us old g2 in
    let rest : take (suc (length ps) - 1) ps ≡ ps = take_all (suc (length ps) - 1) ps (omega arith) in
    let ec2 = rw (to_z-of_z w64 low fl, to_z-of_z w64 high fh) at ec in
    let en2 = rw (to_z-of_z w64 low fl, to_z-of_z w64 high fh) at en in
    rw (en2, enew, ec2, rest) s

some_long : (n : ℕ) → eqb (suc n) 0 ≡ false
some_long n = grind (arith, nat_tests)

fills_none : (ps : List Field) → fills ps [] ≡ eqb (length ps) 0
fills_none [] = refl
fills_none (p ∷ ps) = sym (some_long (length ps))

some_first : (b : ℕ) (ws : List (List ℕ)) → fills [] (onto_first b ws) ≡ false
some_first b [] = refl
some_first b (w ∷ ws) = refl

some_words : (text : List ℕ) → fills [] (words text) ≡ false
some_words [] = refl
some_words (b ∷ bs) = elim (cases_Bool (eqb b 32)) [ inl e ↦ rw e refl | inr e ↦ rw e (some_first b (words bs)) ]

pub done_at : (m : Marks) (ps : List Field) (more : Bool) (rest : List ℕ) (now : List Cell) (qs : List Field) (us : List (List ℕ)) (old : List Cell) (u : Bool)
    → (more ≡ false) ⊎ (length ps ≡ 0) → u ≡ (more || not (eqb (length ps) 0)) → Going m ps (left more rest) now qs us old → Tells qs us old now (record m { unfilled = u })
done_at m ps false rest now qs us old u why e g = ends m ps [] now qs us old u (inl refl) g (e ∙ sym (ap not (fills_none ps)))
done_at m [] true rest now qs us old u why e g = ends m [] (words rest) now qs us old u (inr refl) g (e ∙ sym (ap not (some_words rest)))
done_at m (p ∷ ps) true rest now qs us old u why e g = absurd (elim why [ inl h ↦ cc | inr h ↦ omega (arith, h) ])

pub no_places : (ps : List Field) → eqb (length ps) 0 ≡ true → length ps ≡ 0
no_places ps e = eqb-true _ _ e
