-- The bytes that are given next of two texts, one behind the other.
use Rattle.std.proofs.Common.{◌≡◌, ℕ, ◌+◌, ◌-◌, inl, inr, List, ◌++◌, length, take, drop, min, sym, ap, ◌∙◌, arith}
use Rattle.std.proofs.Math.Seq.{drop-append-add, take-append-add}
use Rattle.std.proofs.lemmas.Bool.{cases_lt}
use Rattle.std.proofs.lemmas.List.{append-nil, drop_all, drop-append-le, length-take-le, take_all, take-append-le}

-- as many bytes as a text has of these
take_min : (n count : ℕ) (text : List ℕ) → count ≡ min (length text) n → take n text ≡ take count text
take_min n count text is =
    elim (cases_lt n (length text)) [
      | inl short ↦ let e : n ≡ count = omega (arith, is, short) in ap (λ (k : ℕ). take k text) e
      | inr long ↦ take_all n text (omega (arith, long)) ∙ sym (take_all count text (omega (arith, is, long)))
    ]

drop_min : (n count : ℕ) (text : List ℕ) → count ≡ min (length text) n → drop n text ≡ drop count text
drop_min n count text is =
    elim (cases_lt n (length text)) [
      | inl short ↦ let e : n ≡ count = omega (arith, is, short) in ap (λ (k : ℕ). drop k text) e
      | inr long ↦ drop_all n text (omega (arith, long)) ∙ sym (drop_all count text (omega (arith, is, long)))
    ]

module _ (n len count : ℕ) (first second : List ℕ) (taken : len ≡ length (take n first)) (is : count ≡ min (length second) (n - len)) where
  pub taken_both : take n (first ++ second) ≡ take n first ++ take count second
  taken_both =
      elim (cases_lt n (length first)) [
        | inl short ↦
            let none : count ≡ 0 = omega (arith, taken, is, length-take-le n first (omega (arith, short))) in
            take-append-le n first second (omega (arith, short)) ∙ sym (append-nil (take n first)) ∙ ap (λ (k : ℕ). take n first ++ take k second) (sym none)
        | inr long ↦
            let whole = take_all n first (omega (arith, long)) in
            let split : length first + (n - length first) ≡ n = omega (arith, long) in
            ap (λ (k : ℕ). take k (first ++ second)) (sym split)
            ∙ take-append-add first second (n - length first)
            ∙ ap (λ t. t ++ take (n - length first) second) (sym whole)
            ∙ ap (λ t. take n first ++ t) (take_min (n - length first) count second (omega (arith, taken, is, ap length whole)))
      ]

  pub left_both : drop n (first ++ second) ≡ drop n first ++ drop count second
  left_both =
      elim (cases_lt n (length first)) [
        | inl short ↦
            let none : count ≡ 0 = omega (arith, taken, is, length-take-le n first (omega (arith, short))) in
            drop-append-le n first second (omega (arith, short)) ∙ ap (λ (k : ℕ). drop n first ++ drop k second) (sym none)
        | inr long ↦
            let whole = take_all n first (omega (arith, long)) in
            let split : length first + (n - length first) ≡ n = omega (arith, long) in
            ap (λ (k : ℕ). drop k (first ++ second)) (sym split)
            ∙ drop-append-add first second (n - length first)
            ∙ drop_min (n - length first) count second (omega (arith, taken, is, ap length whole))
            ∙ ap (λ t. t ++ drop count second) (sym (drop_all n first (omega (arith, long))))
      ]
