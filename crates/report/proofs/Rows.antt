-- The marks of a row, one after another from left to right, and that questions change none of them.
use Rattle.std.proofs.Common.{◌≡◌, ℕ, zero, suc, ◌+◌, ◌-◌, ◌<◌, ◌≤◌, Bool, true, false, Some, List, [], ◌∷◌, ◌++◌, length, get_or, drop, set, ℤ, pos, negsuc, ◌+ℤ◌, ◌-ℤ◌, ◌≤ℤ◌, unsigned_abs, sym, refl, ap, ◌∙◌, add-one, zero-add, append_assoc, drop-cons, length-append, arith, Ok, Err}
use Rattle.std.proofs.Math.Seq.{set-append_seam}
use Rattle.std.proofs.lemmas.Int.{ints}
use Rattle.std.proofs.lemmas.Bool.Decides.{nat_tests}
use Rattle.std.specs.Int.{int_gap}
use Rattle.std.specs.declared.ops.RangeInclusive.{RangeInclusive}
use Rattle.std.specs.Range.{range_inclusive_start, range_inclusive_end, range_inclusive_exhausted, range_inclusive_len, range_inclusive_left, range_inclusive_steps}
use Rattle.plate.specs.declared.Window.{Window}
use Rattle.plate.specs.World.{Dot, inside}
use Rattle.plate.specs.Windows.{inside_orders, orders_inside}
use Rattle.plate.specs.Plates.{Strike, Meaning, Layer, Laws}
use Rattle.report.specs.Lines.{mark, marks, breadth, has_row, row_line, row_answer, row_written}

-- one mark more, at the right
marks_more : (lit : Dot → Bool) (n : ℕ) (x y : ℤ) → marks lit (n + 1) x y ≡ marks lit n x y ++ mark (lit (x +ℤ pos n, y)) ∷ []
marks_more lit zero x y = let a : x +ℤ pos 0 ≡ x = omega (arith, ints) in cc
marks_more lit (suc n) x y =
    let a : (x +ℤ pos 1) +ℤ pos n ≡ x +ℤ pos (suc n) = omega (arith, ints) in
    cc (marks_more lit n (x +ℤ pos 1) y, add-one n, add-one (suc n))

length-marks : (lit : Dot → Bool) (n : ℕ) (x y : ℤ) → length (marks lit n x y) ≡ n
length-marks lit zero x y = refl
length-marks lit (suc n) x y = ap suc (length-marks lit n (x +ℤ pos 1) y)

same_marks : (f g : Dot → Bool) (n : ℕ) (x y : ℤ) → ((k : ℕ) → k < n → f (x +ℤ pos k, y) ≡ g (x +ℤ pos k, y)) → marks f n x y ≡ marks g n x y
same_marks f g zero x y h = refl
same_marks f g (suc n) x y h =
    let r = same_marks f g n x y (λ k l. h k (omega arith)) in
    let e = h n (omega arith) in
    cc (marks_more f n x y, marks_more g n x y, add-one n)

-- one byte more, after the marks
put_next : (lit : Dot → Bool) (n : ℕ) (x y : ℤ) (v : ℕ) (was out : List ℕ) → n < length was → out ≡ marks lit n x y ++ drop n was → set out n v ≡ (marks lit n x y ++ v ∷ []) ++ drop (n + 1) was
put_next lit n x y v was out h e =
    let ms = marks lit n x y in
    cc (length-marks lit n x y, drop-cons was n 0 h, set-append_seam ms (get_or was n 0) (drop (suc n) was) v, append_assoc ms (v ∷ []) (drop (suc n) was), add-one n)

-- how far a loop over a row of dots has come: n of them are done, and r has those that are left
pub record Along (w : Window) (n : ℕ) (r : RangeInclusive ℤ) : Type 0 where
  pub count : n + range_inclusive_left int_gap r ≡ breadth w
  pub next : range_inclusive_exhausted r ≡ false → range_inclusive_start r ≡ w.left +ℤ pos n

span : (a b : ℤ) → a ≤ℤ b → int_gap a b + 1 - int_gap b a ≡ unsigned_abs (b -ℤ a) + 1
span (pos a) (pos b) h = omega (arith, ints)
span (pos a) (negsuc b) h = omega (arith, ints)
span (negsuc a) (pos b) h = omega (arith, ints)
span (negsuc a) (negsuc b) h = omega (arith, ints)

pub along_start : (w : Window) (y : ℤ) (n : ℕ) (r q : RangeInclusive ℤ) → has_row w y ≡ true → range_inclusive_start q ≡ w.left → range_inclusive_end q ≡ w.right → range_inclusive_exhausted q ≡ false → n ≡ 0 → r ≡ q → Along w n r
along_start w y n r q t a b e z d =
    let s = span w.left w.right (inside_orders w (w.left, y) t).1 in
    let l = ap (λ b. range_inclusive_len int_gap q.start q.end b) e in
    let f = ap (λ k. range_inclusive_start k) d in
    record { count = (cc (zero-add (range_inclusive_left int_gap q))); next = λ _. omega (arith, ints) }

pub along_step : (w : Window) (n : ℕ) (r q : RangeInclusive ℤ) (x : ℤ) → Along w n r → range_inclusive_steps int_gap (λ a b. b ≡ a +ℤ pos 1) r (Some x) q → (n < breadth w) × (x ≡ w.left +ℤ pos n) × Along w (n + 1) q
along_step w n r q x h s =
    let c = h.count in
    let k = s.1.1 in
    let f : range_inclusive_exhausted r ≡ false = going r.start r.end r.exhausted (range_inclusive_left int_gap q) (sym k) in
    let d = h.next f in
    (omega arith, s.1.0 ∙ d, record { count = omega arith; next = λ e. let g = s.1.2 e in omega (arith, ints) })
  where
    going : (a b : ℤ) (e : Bool) (n : ℕ) → range_inclusive_len int_gap a b e ≡ n + 1 → e ≡ false
    going a b true n h = absurd (omega arith)
    going a b false n h = refl

-- every dot of a row of the window is a dot of the window
row_dots : (w : Window) (y : ℤ) → has_row w y ≡ true → (k : ℕ) → k < breadth w → inside w (w.left +ℤ pos k, y) ≡ true
row_dots w y t k h =
    let i = inside_orders w (w.left, y) t in
    orders_inside w (w.left +ℤ pos k, y) (omega (arith, ints), omega (arith, ints), i.2, i.3)

length_row : (w : Window) (lit : Dot → Bool) (y : ℤ) → length (row_line w lit y) ≡ breadth w + 1
length_row w lit y = length-append (marks lit (breadth w) w.left y) (10 ∷ []) ∙ ap (λ n. n + 1) (length-marks lit (breadth w) w.left y)

-- a row for which there are too few bytes
pub short_answer : (w : Window) (lit : Dot → Bool) (y : ℤ) (bytes : List ℕ) → has_row w y ≡ true → length bytes ≤ breadth w → Err 11 ≡ row_answer w lit y bytes
short_answer w lit y bytes t h = let d = length_row w lit y in grind (arith, nat_tests)

pub short_bytes : (w : Window) (lit : Dot → Bool) (y : ℤ) (bytes : List ℕ) → has_row w y ≡ true → length bytes ≤ breadth w → bytes ≡ row_written w lit y bytes
short_bytes w lit y bytes t h = let d = length_row w lit y in grind (arith, nat_tests)

-- a row that fits: its marks, and then its line feed
pub whole_answer : (w : Window) (lit : Dot → Bool) (y : ℤ) (bytes : List ℕ) (n : ℕ) → has_row w y ≡ true → n ≡ breadth w → n < length bytes → Ok (n + 1) ≡ row_answer w lit y bytes
whole_answer w lit y bytes n t e h = let d = length_row w lit y in grind (arith, nat_tests)

pub whole_bytes : (w : Window) (lit : Dot → Bool) (y : ℤ) (was out : List ℕ) (n : ℕ) → has_row w y ≡ true → n ≡ breadth w → n < length was → out ≡ marks lit (breadth w) w.left y ++ drop (breadth w) was → set out n 10 ≡ row_written w lit y was
whole_bytes w lit y was out n t e h o =
    let d = length_row w lit y in
    let r : row_line w lit y ++ drop (breadth w + 1) was ≡ row_written w lit y was = grind (arith, nat_tests) in
    cc (put_next lit (breadth w) w.left y 10 was out (omega arith) o)

module _ {S : Type 0} {window : S → Window} {lit : S → Dot → Bool} {shots : S → ℕ} {strikes : S → List Strike → S → Type 0} {layers : S → List Layer} {floor : S → Meaning} (laws : Laws window lit shots strikes layers floor) where
  -- a dot of a row, asked about after other questions
  asked_later : (s t : S) (w : Window) (y : ℤ) → w ≡ window s → has_row w y ≡ true → strikes s [] t → (k : ℕ) → k < breadth w
      → (inside (window t) (w.left +ℤ pos k, y) ≡ true) × (lit t (w.left +ℤ pos k, y) ≡ lit s (w.left +ℤ pos k, y))
  asked_later s t w y e r a k h =
      let d = laws.after s t [] a in
      let p : Dot = (w.left +ℤ pos k, y) in
      let i = row_dots w y r k h in
      (cc (ap (λ v. inside v p) d.window), d.lit p (sym (ap (λ v. inside v p) e) ∙ i))

  -- one dot further on: v is its mark, as the plate told it
  pub row_turn : (s t u : S) (w : Window) (y : ℤ) (n v : ℕ) (r q : RangeInclusive ℤ) (x : ℤ) (was out : List ℕ)
      → w ≡ window s → has_row w y ≡ true → breadth w ≤ length was
      → strikes s [] t → Along w n r → out ≡ marks (lit s) n w.left y ++ drop n was
      → range_inclusive_steps int_gap (λ a b. b ≡ a +ℤ pos 1) r (Some x) q → (inside (window t) (x, y) ≡ true → v ≡ mark (lit t (x, y))) → strikes t [] u
      → strikes s [] u × Along w (n + 1) q × (set out n v ≡ marks (lit s) (n + 1) w.left y ++ drop (n + 1) was)
  row_turn s t u w y n v r q x was out e h k a i o c m b =
      let z = along_step w n r q x i c in
      let l = asked_later s t w y e h a n z.0 in
      let seen = m (cc (l.0, z.1)) in
      (laws.join s t u [] [] a b, z.2, cc (seen, l.1, z.1, put_next (lit s) n w.left y v was out (omega (arith, z.0)) o, marks_more (lit s) n w.left y))

  -- a row, asked about after other questions
  pub row_told : (s t : S) (w : Window) (y : ℤ) → w ≡ window s → has_row w y ≡ true → strikes s [] t → marks (lit t) (breadth w) w.left y ≡ marks (lit s) (breadth w) w.left y
  row_told s t w y e h a = same_marks (lit t) (lit s) (breadth w) w.left y (λ k i. (asked_later s t w y e h a k i).1)
