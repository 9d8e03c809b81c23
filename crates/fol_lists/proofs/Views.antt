-- What the lists are seen as, after a step on the spans.
use Rattle.std.proofs.Common.{◌≡◌, ℕ, ◌+◌, ◌-◌, ◌≤◌, ◌<◌, List, [], ◌++◌, sym, ◌∙◌, ap, arith, append_assoc, get_or, length, length-append, take, drop}
use Rattle.fol_lists.specs.declared.spans.Span.{Span}
use Rattle.std.specs.Prelude.{replicate, slice_set, sum_by}
use Rattle.fol_lists.specs.Numbered.{Numbered, with_numbers}
use Rattle.fol_lists.proofs.Pieces.{pieces_added, spans_added, total_empty}
use Rattle.fol_lists.specs.Spans.{AreSpans, lists_of, piece_of, pieces_of}
use Rattle.std.proofs.lemmas.List.{append-nil, drop_all, get_or_append_left, length-map, length-replicate, replicate-append-replicate, set-append_left, take_all}
use Rattle.std.proofs.lemmas.List.Sums.{sum_by-append}

-- the lists of these spans, in so much room
abbrev pub numbered : {T : Type 0} → List (List T) → ℕ → Numbered T
numbered lists room = record { lists = lists; room = room }

pub numbered_is : {T : Type 0} (xs ys : List (List T)) (room : ℕ) → xs ≡ ys → numbered xs room ≡ numbered ys room
numbered_is xs ys room e = ap (λ lists. numbered lists room) e

-- a list that was written over as a whole
pub all_written : {X : Type 0} (new old : List X) (n : ℕ) → length new ≡ length old → n ≡ length old → take n (new ++ drop (length new) old) ≡ new
all_written new old n e f = ap (λ ys. take n (new ++ ys)) (drop_all (length new) old (omega (arith, e))) ∙ ap (take n) (append-nil new) ∙ take_all n new (omega (arith, e, f))

module _ {T : Type 0} (cells : List T) (spans : List Span) (numbers : ℕ) where
  abbrev none : List (List T)
  none = replicate (numbers - length spans) []

  pub length_listed_all : length spans ≤ numbers → length (lists_of cells spans numbers) ≡ numbers
  length_listed_all l = omega (arith, length-append (pieces_of cells spans) none, length-map spans (piece_of cells), length-replicate {A = List T} (numbers - length spans) [], l)

  -- the lists without a span hold nothing
  pub total_listed : sum_by length (lists_of cells spans numbers) ≡ sum_by length (pieces_of cells spans)
  total_listed = omega (arith, sum_by-append length (pieces_of cells spans) none, total_empty T (numbers - length spans))

  module _ (n : ℕ) where
    -- a list that has a span
    pub listed_at : n < length spans → get_or (lists_of cells spans numbers) n [] ≡ get_or (pieces_of cells spans) n []
    listed_at l = get_or_append_left (pieces_of cells spans) none [] n (omega (arith, l, length-map spans (piece_of cells)))

    pub listed_set : (xs : List T) → n < length spans → slice_set (lists_of cells spans numbers) n xs ≡ slice_set (pieces_of cells spans) n xs ++ none
    listed_set xs l = set-append_left (pieces_of cells spans) none n xs (omega (arith, l, length-map spans (piece_of cells)))

-- one list that has a span is another one
pub listed_changed : {T : Type 0} (cells new : List T) (spans changed : List Span) (numbers n : ℕ) (to : List T → List T) → n < length spans → length changed ≡ length spans
    → pieces_of new changed ≡ slice_set (pieces_of cells spans) n (to (get_or (pieces_of cells spans) n []))
    → lists_of new changed numbers ≡ slice_set (lists_of cells spans numbers) n (to (get_or (lists_of cells spans numbers) n []))
listed_changed cells new spans changed numbers n to l same e =
    let xs = to (get_or (pieces_of cells spans) n []) in
    ap (λ ps. ps ++ replicate (numbers - length changed) []) e ∙ ap (λ k. slice_set (pieces_of cells spans) n xs ++ replicate (numbers - k) []) same
    ∙ sym (listed_set cells spans numbers n xs l) ∙ ap (λ ys. slice_set (lists_of cells spans numbers) n (to ys)) (sym (listed_at cells spans numbers n l))

-- spans were added up to a number
module _ {T : Type 0} (cells : List T) (spans filled : List Span) (numbers n : ℕ) (is : filled ≡ spans ++ replicate (n + 1 - length spans) (record { from = 0; to = 0; end = 0 })) where
  filled_long : length filled ≡ length spans + (n + 1 - length spans)
  filled_long = ap length is ∙ length-append spans (replicate (n + 1 - length spans) (record { from = 0; to = 0; end = 0 })) ∙ ap (λ k. length spans + k) (length-replicate {A = Span} (n + 1 - length spans) (record { from = 0; to = 0; end = 0 }))

  pub filled_reaches : n < length filled
  filled_reaches = omega (arith, filled_long)

  pub filled_same : n < numbers → lists_of cells filled numbers ≡ lists_of cells spans numbers
  filled_same l =
      let more = n + 1 - length spans in
      let left : numbers - length filled ≡ numbers - length spans - more = omega (arith, filled_long) in
      let all : more + (numbers - length spans - more) ≡ numbers - length spans = omega (arith, l) in
      ap (λ ss. pieces_of cells ss ++ replicate (numbers - length filled) []) is
      ∙ ap (λ k. pieces_of cells (spans ++ replicate more (record { from = 0; to = 0; end = 0 })) ++ replicate k []) left
      ∙ ap (λ ps. ps ++ replicate (numbers - length spans - more) []) (pieces_added cells spans more)
      ∙ append_assoc (pieces_of cells spans) (replicate more []) (replicate (numbers - length spans - more) [])
      ∙ ap (λ ps. pieces_of cells spans ++ ps) (replicate-append-replicate more (numbers - length spans - more) [] ∙ ap (λ k. replicate k []) all)

  pub filled_spans : (room : ℕ) → AreSpans cells spans room → AreSpans cells filled room
  filled_spans room h = rw is (spans_added cells spans room (n + 1 - length spans) h)

  module _ (l : n < numbers) where
    pub filled_total : sum_by length (pieces_of cells filled) ≡ sum_by length (lists_of cells spans numbers)
    filled_total = sym (total_listed cells filled numbers) ∙ ap (sum_by length) (filled_same l)

    -- and the list with that number is another one
    pub filled_changed : (new : List T) (changed : List Span) (to : List T → List T) → length changed ≡ length filled
        → pieces_of new changed ≡ slice_set (pieces_of cells filled) n (to (get_or (pieces_of cells filled) n []))
        → lists_of new changed numbers ≡ slice_set (lists_of cells spans numbers) n (to (get_or (lists_of cells spans numbers) n []))
    filled_changed new changed to same e =
        listed_changed cells new filled changed numbers n to filled_reaches same e ∙ ap (λ ls. slice_set ls n (to (get_or ls n []))) (filled_same l)

-- more numbers, or no more than there are
pub numbers_added : {T : Type 0} (cells : List T) (spans : List Span) (room numbers n : ℕ) → length spans ≤ numbers → numbers ≤ n
    → numbered (lists_of cells spans n) room ≡ with_numbers (numbered (lists_of cells spans numbers) room) n
numbers_added cells spans room numbers n l m =
    let more : n - length (lists_of cells spans numbers) ≡ n - numbers = omega (arith, length_listed_all cells spans numbers l) in
    let all : n - length spans ≡ numbers - length spans + (n - numbers) = omega (arith, l, m) in
    numbered_is (lists_of cells spans n) (lists_of cells spans numbers ++ replicate (n - length (lists_of cells spans numbers)) []) room
    (ap (λ k. pieces_of cells spans ++ replicate k []) all
    ∙ ap (λ ps. pieces_of cells spans ++ ps) (sym (replicate-append-replicate (numbers - length spans) (n - numbers) []))
    ∙ sym (append_assoc (pieces_of cells spans) (replicate (numbers - length spans) []) (replicate (n - numbers) []))
    ∙ ap (λ k. lists_of cells spans numbers ++ replicate k []) (sym more))
