-- Spans that share no place, after a step.
use Rattle.std.proofs.Common.{◌≡◌, ◌⊎◌, ℕ, ◌-◌, ◌≤◌, ◌<◌, refl, sym, ◌∙◌, ap, arith, inl, inr, List, [], ◌∷◌, ◌++◌, length, get_or, length-append}
use Rattle.std.specs.Prelude.{slice_set, replicate}
use Rattle.std.specs.List.{All}
use Rattle.std.proofs.lemmas.List.{get_or_append_left, get_or-append_right, get_or-replicate, length-replicate, length-set, get_or-set_other, get_or-set_same, get_or_default}
use Rattle.std.proofs.lemmas.Bool.{cases_eq, cases_lt}
use Rattle.fol_lists.specs.declared.spans.Span.{Span}
use Rattle.fol_lists.specs.Spans.{AreApart, IsSpan}

module _ (spans : List Span) (n : ℕ) (l : n < length spans) (s : Span) where
  -- a span with the same places
  module _ (d : Span) (from : s.from ≡ (get_or spans n d).from) (end : s.end ≡ (get_or spans n d).end) where
    same_from : (k : ℕ) (e : Span) → (get_or (slice_set spans n s) k e).from ≡ (get_or spans k e).from
    same_from k e = elim (cases_eq k n) [
      | inl x ↦
          let here = ap (λ i. get_or (slice_set spans n s) i e) x ∙ get_or-set_same spans n s e l in
          let was = ap (λ i. get_or spans i e) x ∙ get_or_default spans n e d l in
          omega (arith, ap (λ (i : Span). i.from) here, ap (λ (i : Span). i.from) was, from)
      | inr x ↦ ap (λ (i : Span). i.from) (get_or-set_other spans n k s e x)
    ]

    same_end : (k : ℕ) (e : Span) → (get_or (slice_set spans n s) k e).end ≡ (get_or spans k e).end
    same_end k e = elim (cases_eq k n) [
      | inl x ↦
          let here = ap (λ i. get_or (slice_set spans n s) i e) x ∙ get_or-set_same spans n s e l in
          let was = ap (λ i. get_or spans i e) x ∙ get_or_default spans n e d l in
          omega (arith, ap (λ (i : Span). i.end) here, ap (λ (i : Span). i.end) was, end)
      | inr x ↦ ap (λ (i : Span). i.end) (get_or-set_other spans n k s e x)
    ]

    pub apart_kept : AreApart spans → AreApart (slice_set spans n s)
    apart_kept h = record {
      apart = λ j k e a b other.
          elim (h.apart j k e (omega (arith, a, length-set spans n s)) (omega (arith, b, length-set spans n s)) other) [
            | inl x ↦ inl (omega (arith, x, same_end j e, same_from k e))
            | inr x ↦ inr (omega (arith, x, same_end k e, same_from j e))
          ];
    }

  -- a span behind all others
  pub apart_moved : (m : ℕ) → All (IsSpan m) spans → s.from ≡ m → AreApart spans → AreApart (slice_set spans n s)
  apart_moved m fit from h = record {
    apart = λ j k e a b other.
        let c : j < length spans = omega (arith, a, length-set spans n s) in
        let d : k < length spans = omega (arith, b, length-set spans n s) in
        elim (cases_eq j n) [
          | inl x ↦
              let here = ap (λ i. get_or (slice_set spans n s) i e) x ∙ get_or-set_same spans n s e l in
              let there = get_or-set_other spans n k s e (λ y. other (x ∙ sym y)) in
              inr (omega (arith, ap (λ (i : Span). i.from) here, ap (λ (i : Span). i.end) there, (fit k e d).within, from))
          | inr x ↦
              let here = get_or-set_other spans n j s e x in
              elim (cases_eq k n) [
                | inl y ↦
                    let there = ap (λ i. get_or (slice_set spans n s) i e) y ∙ get_or-set_same spans n s e l in
                    inl (omega (arith, ap (λ (i : Span). i.end) here, ap (λ (i : Span). i.from) there, (fit j e c).within, from))
                | inr y ↦
                    let there = get_or-set_other spans n k s e y in
                    rw (here, there) (h.apart j k e c d other)
              ]
        ];
  }

-- more spans, none of which shares a place with another one
pub apart_joined : (spans more : List Span) → AreApart spans → AreApart more
    → ((j k : ℕ) (d : Span) → j < length spans → k < length more → (get_or spans j d).end ≤ (get_or more k d).from ⊎ (get_or more k d).end ≤ (get_or spans j d).from)
    → AreApart (spans ++ more)
apart_joined spans more h i between = record {
  apart = λ j k e a b other.
      let all = length-append spans more in
      elim (cases_lt j (length spans)) [
        | inl x ↦
            let here = get_or_append_left spans more e j x in
            elim (cases_lt k (length spans)) [
              | inl y ↦
                  let there = get_or_append_left spans more e k y in
                  rw (here, there) (h.apart j k e x y other)
              | inr y ↦
                  let there = get_or-append_right spans more (length spans) k e refl y in
                  rw (here, there) (between j (k - length spans) e x (omega (arith, b, all, y)))
            ]
        | inr x ↦
            let here = get_or-append_right spans more (length spans) j e refl x in
            elim (cases_lt k (length spans)) [
              | inl y ↦
                  let there = get_or_append_left spans more e k y in
                  elim (between k (j - length spans) e y (omega (arith, a, all, x))) [
                    | inl z ↦ rw (here, there) (inr z)
                    | inr z ↦ rw (here, there) (inl z)
                  ]
              | inr y ↦
                  let there = get_or-append_right spans more (length spans) k e refl y in
                  rw (here, there) (i.apart (j - length spans) (k - length spans) e (omega (arith, a, all, x)) (omega (arith, b, all, y)) (λ z. other (omega (arith, z, x, y))))
            ]
      ];
}

pub apart_one : (s : Span) → AreApart (s ∷ [])
apart_one s = record { apart = λ j k e a b other. absurd (other (omega (arith, a, b))) }

-- empty lists behind
pub apart_added : (spans : List Span) (m : ℕ) → AreApart spans → AreApart (spans ++ replicate m (record { from = 0; to = 0; end = 0 }))
apart_added spans m h =
    apart_joined spans (replicate m empty) h
    (record {
      apart = λ j k e a b other.
          let is = get_or-replicate m j empty e (omega (arith, a, length-replicate {A = Span} m empty)) in
          inl (omega (arith, ap (λ (i : Span). i.end) is));
    })
    (λ j k e a b.
    let is = get_or-replicate m k empty e (omega (arith, b, length-replicate {A = Span} m empty)) in
    inr (omega (arith, ap (λ (i : Span). i.end) is)))
  where
    empty : Span
    empty = record { from = 0; to = 0; end = 0 }

-- one that begins where all others end
pub apart_push : (spans : List Span) (s : Span) (m : ℕ) → All (IsSpan m) spans → s.from ≡ m → AreApart spans → AreApart (spans ++ s ∷ [])
apart_push spans s m fit from h =
    apart_joined spans (s ∷ []) h (apart_one s)
    (λ j k e a b.
    let first : k ≡ 0 = omega (arith, b) in
    let is = ap (λ i. get_or (s ∷ []) i e) first in
    inl (omega (arith, ap (λ (i : Span). i.from) is, from, (fit j e a).within)))
