-- Where each of several parts has something or nothing: what is found in them together, before and after a step.
use Rattle.std.proofs.Common.{◌≡◌, ◌≢◌, ℕ, zero, suc, Bool, true, false, not, List, [], ◌∷◌, get_or, refl, sym, ◌∙◌, ap, ◌⊎◌, inl, inr, Option, Some, None}
use Rattle.std.specs.Option.{option_or}
use Rattle.std.proofs.lemmas.Bool.{cases_Bool}
use Rattle.fol_queues.specs.Waiting.{option_filter}
use Rattle.fol_store.specs.Columns.{first}

module _ {X : Type 0} where
  -- the two are both none or both the same
  pub or_cases_of : (o r : Option X) (x : X) → option_or o r ≡ Some x → (o ≡ Some x) ⊎ (r ≡ Some x)
  or_cases_of None r x h = inr h
  or_cases_of (Some y) r x h = inl h

  pub or_none_left : (o r : Option X) → option_or o r ≡ None → o ≡ None
  or_none_left None r h = refl
  or_none_left (Some y) r h = cc

  pub or_none_right : (o r : Option X) → option_or o r ≡ None → r ≡ None
  or_none_right None r h = h
  or_none_right (Some y) r h = cc

  pub or_none : (o : Option X) → option_or o None ≡ o
  or_none None = refl
  or_none (Some y) = refl

  pub filter_some : (p : X → Bool) (o : Option X) (x : X) → option_filter p o ≡ Some x → (o ≡ Some x) × (p x ≡ true)
  filter_some p None x h = cc
  filter_some p (Some y) x h =
      elim (cases_Bool (p y)) [
        | inl e ↦ let f : Some y ≡ Some x = rw e at h in let s : y ≡ x = cc in (f, ap p (sym s) ∙ e)
        | inr e ↦ let f : None ≡ Some x = rw e at h in cc
      ]

  pub filter_yes : (p : X → Bool) (o : Option X) (x : X) → o ≡ Some x → p x ≡ true → option_filter p o ≡ Some x
  filter_yes p o x h e = rw (h, e) refl

  pub filter_no : (p : X → Bool) (o : Option X) (x : X) → o ≡ Some x → p x ≡ false → option_filter p o ≡ None
  filter_no p o x h e = rw (h, e) refl

module _ {P X : Type 0} (f : P → Option X) (d : P) (none : f d ≡ None) where
  pub first_at : (xs : List P) (x : X) → first f xs ≡ Some x → (i : ℕ) × (f (get_or xs i d) ≡ Some x)
  first_at [] x h = cc
  first_at (y ∷ ys) x h =
      elim (or_cases_of (f y) (first f ys) x h) [
        | inl e ↦ (0, e)
        | inr e ↦ let r : (i : ℕ) × (f (get_or ys i d) ≡ Some x) = first_at ys x e in (suc r.0, r.1)
      ]

  pub first_none : (xs : List P) → first f xs ≡ None → (i : ℕ) → f (get_or xs i d) ≡ None
  first_none [] h i = none
  first_none (y ∷ ys) h zero = or_none_left (f y) (first f ys) h
  first_none (y ∷ ys) h (suc i) = first_none ys (or_none_right (f y) (first f ys) h) i

-- parts named by W, each with something or nothing
module _ {W X : Type 0} (cases : (v w : W) → (v ≡ w) ⊎ (v ≢ w)) (a b : W → Option X) where
  -- what passes went from one part to another
  pub record Moves («from» to : W) (p : X → Bool) : Type 0 where
    pub left : b «from» ≡ option_filter (λ x. not (p x)) (a «from»)
    pub come : b to ≡ option_or (a to) (option_filter p (a «from»))
    pub rest : (u : W) → u ≢ «from» → u ≢ to → b u ≡ a u

  pub record Came («from» to u : W) (p : X → Bool) (x : X) : Type 0 where
    pub there : u ≡ to
    pub had : a «from» ≡ Some x
    pub passes : p x ≡ true

  pub record Stayed («from» u : W) (p : X → Bool) (x : X) : Type 0 where
    pub had : a u ≡ Some x
    pub fails : u ≡ «from» → p x ≡ false

  -- what is somewhere afterwards came there or stayed there
  pub moves_back : («from» to : W) (p : X → Bool) → «from» ≢ to → Moves «from» to p → (u : W) (x : X) → b u ≡ Some x → Came «from» to u p x ⊎ Stayed «from» u p x
  moves_back «from» to p apart m u x h =
      elim (cases u «from») [
        | inl e ↦
            let g : option_filter (λ y. not (p y)) (a «from») ≡ Some x = sym m.left ∙ ap b (sym e) ∙ h in
            let r = filter_some (λ y. not (p y)) (a «from») x g in
            inr (record { had = ap a e ∙ r.0; fails = λ _. not_true (p x) r.1 })
        | inr n ↦
            elim (cases u to) [
              | inl e ↦
                  let g : option_or (a to) (option_filter p (a «from»)) ≡ Some x = sym m.come ∙ ap b (sym e) ∙ h in
                  elim (or_cases_of (a to) (option_filter p (a «from»)) x g) [
                    | inl k ↦ inr (record { had = ap a e ∙ k; fails = λ q. absurd (n q) })
                    | inr k ↦ let r = filter_some p (a «from») x k in inl (record { there = e; had = r.0; passes = r.1 })
                  ]
              | inr o ↦ inr (record { had = sym (m.rest u n o) ∙ h; fails = λ q. absurd (n q) })
            ]
      ]
    where
      not_true : (q : Bool) → not q ≡ true → q ≡ false
      not_true true h = cc
      not_true false h = refl

  -- what was somewhere stays there, or goes to the part named
  pub moves_forth : («from» to : W) (p : X → Bool) → «from» ≢ to → Moves «from» to p → ((v w : W) (x y : X) → a v ≡ Some x → a w ≡ Some y → v ≡ w)
      → (u : W) (x : X) → a u ≡ Some x → (v : W) × (b v ≡ Some x)
  moves_forth «from» to p apart m one u x h =
      elim (cases u «from») [
        | inl e ↦
            let g : a «from» ≡ Some x = ap a (sym e) ∙ h in
            elim (cases_Bool (p x)) [
              | inl k ↦ (to, m.come ∙ rw (nothing_at to (a to) refl (λ y t. apart (one «from» to x y g t)), filter_yes p (a «from») x g k) refl)
              | inr k ↦ («from», m.left ∙ filter_yes (λ y. not (p y)) (a «from») x g (ap not k))
            ]
        | inr n ↦
            elim (cases u to) [
              | inl e ↦ (to, m.come ∙ ap (λ o. option_or o (option_filter p (a «from»))) (ap a (sym e) ∙ h))
              | inr o ↦ (u, m.rest u n o ∙ h)
            ]
      ]
    where
      nothing_at : (w : W) (o : Option X) → a w ≡ o → ((y : X) → a w ≡ Some y → ⊥) → a w ≡ None
      nothing_at w None e h = e
      nothing_at w (Some y) e h = absurd (h y e)

  pub moves_one : («from» to : W) (p : X → Bool) → «from» ≢ to → Moves «from» to p → ((v w : W) (x y : X) → a v ≡ Some x → a w ≡ Some y → v ≡ w)
      → (v w : W) (x y : X) → b v ≡ Some x → b w ≡ Some y → v ≡ w
  moves_one «from» to p apart m one v w x y g h =
      elim (moves_back «from» to p apart m v x g) [
        | inl c ↦
            elim (moves_back «from» to p apart m w y h) [
              | inl d ↦ c.there ∙ sym d.there
              | inr d ↦
                  let e : «from» ≡ w = one «from» w x y c.had d.had in
                  let s : Some x ≡ Some y = sym c.had ∙ ap a e ∙ d.had in
                  let t : x ≡ y = cc in
                  let z : true ≡ false = sym c.passes ∙ ap p t ∙ d.fails (sym e) in
                  cc
            ]
        | inr c ↦
            elim (moves_back «from» to p apart m w y h) [
              | inl d ↦
                  let e : v ≡ «from» = one v «from» x y c.had d.had in
                  let s : Some x ≡ Some y = sym c.had ∙ ap a e ∙ d.had in
                  let t : x ≡ y = cc in
                  let z : true ≡ false = sym d.passes ∙ ap p (sym t) ∙ c.fails e in
                  cc
              | inr d ↦ one v w x y c.had d.had
            ]
      ]
