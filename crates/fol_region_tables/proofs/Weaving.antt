-- Two lists of sections in order become one.
use Rattle.std.proofs.Common.{◌≡◌, ◌+◌, refl, sym, ◌∙◌, ap, arith, subst, Bool, true, false, ◌||◌, List, [], ◌∷◌, ◌++◌, length, get_or, append_assoc, length-append, inl, inr}
use Rattle.std.specs.Prelude.{◌≢◌}
use Rattle.std.specs.List.{AllByRecursion}
use Rattle.std.specs.List.Sorted.{IsStrictlySortedBy}
use Rattle.std.specs.declared.cmp.Ordering.TheVariants.{Less}
use Rattle.std.proofs.lemmas.List.Folds.{list_any-append}
use Rattle.std.proofs.lemmas.Bool.{or_cases, or_left, or_right, true≢false}
use Rattle.fol_model.specs.declared.places.SectionPos.{SectionPos}
use Rattle.fol_model.specs.Geometry.{same_section, is_among}
use Rattle.fol_model.specs.Universe.{section_cmp}
use Rattle.fol_laws.proofs.SamePlaces.{same_section-self}
use Rattle.fol_laws.proofs.SectionOrder.{section_rows_are}
use Rattle.fol_laws.proofs.SortedRows.{all_append}
use Rattle.fol_region_tables.specs.Rows.{united, AreApart, IsRow, MovesFront}
use Rattle.fol_region_tables.proofs.MergeSteps.{Sorted, all_after, before_all, other_less, sorted_behind, sorted_front}

-- the sections that were put, and those that are left of both lists
pub record Weaving (xs ys done rest later : List SectionPos) : Type 0 where
  pub first : Sorted (done ++ rest)
  pub second : Sorted (done ++ later)
  pub apart : AreApart rest later
  pub members : (q : SectionPos) → (is_among done q || (is_among rest q || is_among later q)) ≡ (is_among xs q || is_among ys q)
  pub many : length done + (length rest + length later) ≡ length xs + length ys

pub weaving_none : (xs ys done : List SectionPos) → done ≡ [] → IsRow xs → IsRow ys → AreApart xs ys → Weaving xs ys done xs ys
weaving_none xs ys done none a b apart = rw none (record { first = a.in_order; second = b.in_order; apart = apart; members = λ q. refl; many = omega arith })

-- one that is behind all of a list in order comes behind it
snoc_sorted : (a : List SectionPos) (s : SectionPos) → Sorted a → AllByRecursion (λ x. section_cmp x s ≡ Less) a → Sorted (a ++ s ∷ [])
unfolding IsStrictlySortedBy
snoc_sorted [] s h l = (tt, tt)
snoc_sorted (x ∷ a) s h l = (all_append (λ b. section_cmp x b ≡ Less) a (s ∷ []) h.0 (l.0, tt), snoc_sorted a s h.1 l.1)

-- all before a section of a list in order
all_ahead : (a b : List SectionPos) (s : SectionPos) → Sorted (a ++ s ∷ b) → AllByRecursion (λ x. section_cmp x s ≡ Less) a
unfolding IsStrictlySortedBy
all_ahead [] b s h = tt
all_ahead (x ∷ a) b s h = (there a h.0, all_ahead a b s h.1)
  where
    there : (zs : List SectionPos) → AllByRecursion (λ y. section_cmp x y ≡ Less) (zs ++ s ∷ b) → section_cmp x s ≡ Less
    there [] l = l.0
    there (z ∷ zs) l = there zs l.1

-- two lists in order that have a section in common, the last of one and the first of the other
glue_sorted : (a b : List SectionPos) (s : SectionPos) → Sorted (a ++ s ∷ []) → Sorted (s ∷ b) → Sorted (a ++ s ∷ b)
unfolding IsStrictlySortedBy
glue_sorted [] b s h k = k
glue_sorted (x ∷ a) b s h k = (over a h.0, glue_sorted a b s h.1 k)
  where
    over : (zs : List SectionPos) → AllByRecursion (λ y. section_cmp x y ≡ Less) (zs ++ s ∷ []) → AllByRecursion (λ y. section_cmp x y ≡ Less) (zs ++ s ∷ b)
    over [] l = (l.0, all_after x s b l.0 k.0)
    over (z ∷ zs) l = (l.0, over zs l.1)

shuffle : (d f x o l : Bool) → (((d || f) || (x || false)) || (o || l)) ≡ (d || ((x || o) || (f || l)))
shuffle true f x o l = refl
shuffle false true true o l = refl
shuffle false true false true l = refl
shuffle false true false false l = refl
shuffle false false true o l = refl
shuffle false false false o l = refl

no_left : (f l : Bool) → (f || l) ≡ false → l ≡ false
no_left true l e = cc
no_left false l e = e

-- the section at the front of one list is put, behind those of the other one that are before it
module _ (xs ys done others later new left : List SectionPos) (s : SectionPos) (w : Weaving xs ys done (s ∷ others) later) (m : MovesFront s later done new left)
    (behind : (x : SectionPos) (zs : List SectionPos) → left ≡ x ∷ zs → section_cmp x s ≢ Less) where
  abbrev ahead : List SectionPos
  ahead = done ++ m.front

  whole_second : Sorted (ahead ++ left)
  whole_second = subst Sorted (sym (append_assoc done m.front left)) (subst (λ (zs : List SectionPos). Sorted (done ++ zs)) m.whole w.second)

  up_to : Sorted (ahead ++ s ∷ [])
  up_to = snoc_sorted ahead s (sorted_front ahead left whole_second) (all_append (λ x. section_cmp x s ≡ Less) done m.front (all_ahead done others s w.first) m.before)

  in_later : (q : SectionPos) → is_among later q ≡ (is_among m.front q || is_among left q)
  in_later q = ap (λ zs. is_among zs q) m.whole ∙ list_any-append (same_section q) m.front left

  from_left : Sorted (s ∷ left)
  from_left = go left refl
    where
      other : (x : SectionPos) (zs : List SectionPos) → left ≡ x ∷ zs → x ≡ s → ⊥
      other x zs e same =
          let here : same_section s s ≡ true = same_section-self s in
          let mine : is_among (s ∷ others) s ≡ true = or_left (same_section s s) (is_among others s) here in
          let none : is_among left s ≡ false = no_left (is_among m.front s) (is_among left s) (sym (in_later s) ∙ w.apart s mine) in
          let there : is_among left s ≡ true = ap (λ v. is_among v s) e ∙ or_left (same_section s x) (is_among zs s) (ap (same_section s) same ∙ here) in
          true≢false (sym there ∙ none)

      go : (zs : List SectionPos) → left ≡ zs → Sorted (s ∷ left)
      go [] e = let none = e in before_all s left s (sorted_behind ahead left whole_second) (λ some. absurd (omega (arith, some, ap length none)))
      go (x ∷ zs) e = before_all s left s (sorted_behind ahead left whole_second) (λ some. ap (λ (v : List SectionPos). section_cmp s (get_or v 0 s)) e ∙ other_less x s (λ same. other x zs e same) (behind x zs e))

  pub weaving_more : Weaving xs ys (new ++ s ∷ []) others left
  weaving_more = let put = m.put in rw put (record {
    first = subst Sorted (sym (append_assoc ahead (s ∷ []) others)) (glue_sorted ahead others s up_to (sorted_behind done (s ∷ others) w.first));
    second = subst Sorted (sym (append_assoc ahead (s ∷ []) left)) (glue_sorted ahead left s up_to from_left);
    apart = λ q h. no_left (is_among m.front q) (is_among left q) (sym (in_later q) ∙ w.apart q (or_right (same_section q s) (is_among others q) h));
    members = λ q. ap (λ b. b || (is_among others q || is_among left q)) (list_any-append (same_section q) ahead (s ∷ []) ∙ ap (λ b. b || (same_section q s || false)) (list_any-append (same_section q) done m.front))
        ∙ shuffle (is_among done q) (is_among m.front q) (same_section q s) (is_among others q) (is_among left q)
        ∙ ap (λ b. is_among done q || ((same_section q s || is_among others q) || b)) (sym (in_later q)) ∙ w.members q;
    many = omega (arith, length-append ahead (s ∷ []), length-append done m.front, ap length m.whole, length-append m.front left, w.many);
  })

-- where all of the first list was put
pub weaving_all : (xs ys done later : List SectionPos) → Weaving xs ys done [] later → IsRow xs → IsRow ys → done ++ later ≡ united xs ys
unfolding united
weaving_all xs ys done later w a b = (section_rows_are (λ s. is_among xs s || is_among ys s) (done ++ later) w.second
    (λ s. list_any-append (same_section s) done later ∙ w.members s)
    (λ s k. elim (or_cases (is_among xs s) (is_among ys s) k) [ inl e ↦ a.limits s e | inr e ↦ b.limits s e ])).0

pub none_left : (xs : List SectionPos) → length xs ≡ 0 → xs ≡ []
none_left [] none = refl
none_left (x ∷ xs) none = absurd (omega (arith, none))
