-- A figure's call: count, compare, strike.
use Rattle.std.proofs.Common.{◌≡◌, ℕ, zero, suc, ◌+◌, ◌*◌, ◌^◌, ◌<◌, ◌≤◌, Bool, true, false, cond, leb, List, [], ◌∷◌, length, take, ℤ, pos, ◌+ℤ◌, neg_ℤ, nat_abs, None, Option, sym, refl, ap, ◌∙◌, subst, inl, inr, arith, Result, Ok, Err}
use Rattle.std.proofs.lemmas.List.{take_all, length-append}
use Rattle.std.proofs.lemmas.Nat.{mul-le}
use Rattle.std.proofs.lemmas.Bool.{cases_Bool, le-leb, lt-leb}
use Rattle.plate.specs.declared.Ink.{Ink}
use Rattle.plate.specs.declared.Window.{Window}
use Rattle.plate.specs.World.{Dot, inside, world}
use Rattle.plate.specs.Plates.{Strike, Layer, Meaning, Laws}
use Rattle.plate.specs.Windows.{world_parts}
use Rattle.figure.specs.Drawing.{visible, has, inked_with, figure_answer, figure_strikes}
use Rattle.figure.specs.declared.shapes.Shape.{Shape}
use Rattle.figure.specs.declared.shapes.Shape.TheVariants.{Line, Outline, Filled}
use Rattle.figure.specs.Lines.{longer, line_dot, line_dots, dots_from}
use Rattle.figure.specs.Outlines.{corners, once, outline_dots}
use Rattle.figure.specs.Fills.{filled_pair, fill_row, fill_rows, filled_dots}
use Rattle.figure.specs.Shapes.{shape_dots}
use Rattle.ellipse.specs.Ellipses.{lighted, column, columns, pairs}
use Rattle.figure.proofs.Kept.{pair_dots}
use Rattle.figure.proofs.Crossings.{gap_few}

cond_few : (b : Bool) (p : Dot) (ps : List Dot) (n : ℕ) → length ps ≤ n → length (cond b (p ∷ ps) ps) ≤ suc n
cond_few true p ps n h = omega arith
cond_few false p ps n h = omega arith

visible_few : (w : Window) (ps : List Dot) → length (visible w ps) ≤ length ps
visible_few w [] = omega arith
visible_few w (p ∷ ps) = cond_few (inside w p) p (visible w ps) (length ps) (visible_few w ps)

dots_length : (dot : ℕ → Dot) (k n : ℕ) → length (dots_from dot k n) ≡ n
dots_length dot k zero = refl
dots_length dot k (suc n) = ap suc (dots_length dot (suc k) n)

-- the dots of a line can be counted
line_few : (w : Window) (p q : Dot) → world p ≡ true → world q ≡ true → length (visible w (line_dots p q)) < 2 ^ 32
unfolding line_dots
line_few w p q f g =
    let a = world_parts p f in
    let b = world_parts q g in
    let x = gap_few p.0 q.0 a.0 b.0 in
    let y = gap_few p.1 q.1 a.1 b.1 in
    let v = visible_few w (line_dots p q) in
    let n : length (line_dots p q) ≡ longer p q + 1 = dots_length (line_dot p q) 0 (longer p q + 1) in
    omega arith

-- the pairs of a column, of some columns; the dots of pairs
column_few : (p : ℕ → ℕ → Bool) (x k : ℕ) → length (column p x k) ≤ k
column_few p x zero = omega arith
column_few p x (suc k) = pair_few (p x k) (x, k) (column p x k) k (column_few p x k)
  where
    pair_few : (b : Bool) (q : ℕ × ℕ) (ps : List (ℕ × ℕ)) (n : ℕ) → length ps ≤ n → length (cond b (q ∷ ps) ps) ≤ suc n
    pair_few true q ps n h = omega arith
    pair_few false q ps n h = omega arith

columns_few : (p : ℕ → ℕ → Bool) (b x n : ℕ) → length (columns p b x n) ≤ n * suc b
columns_few p b x zero = omega arith
columns_few p b x (suc n) = let h = column_few p x (suc b) in let k = columns_few p b (suc x) n in simp length-append (omega arith)

pairs_few : (c : Dot) (ps : List (ℕ × ℕ)) → length (pair_dots c ps) ≤ 4 * length ps
pairs_few c [] = omega arith
pairs_few c (p ∷ ps) = let h = once_few [] (corners c p) in let k = pairs_few c ps in simp length-append (omega arith)
  where
    once_few : (named ds : List Dot) → length (once named ds) ≤ length ds
    once_few named [] = omega arith
    once_few named (d ∷ ds) = elim (cases_Bool (has d named)) [
      | inl t ↦ (let h = once_few named ds in simp t (omega arith))
      | inr f ↦ (let h = once_few (d ∷ named) ds in simp f (omega arith))
    ]

outline_few : (w : Window) (c : Dot) (a b : ℕ) → a ≤ 4095 → b ≤ 4095 → length (visible w (outline_dots c a b)) < 2 ^ 32
unfolding outline_dots pairs
outline_few w c a b f g =
    let v = visible_few w (outline_dots c a b) in
    let k = pairs_few c (pairs a b) in
    let n = columns_few (lighted a b) b 0 (suc a) in
    let m : suc a * suc b ≤ 4096 * 4096 = mul-le (suc a) (suc b) 4096 4096 (omega arith) (omega arith) in
    omega (arith, m)

-- the dots of a row, of some rows
row_few : (c : Dot) (a b : ℕ) (dy dx : ℤ) (n : ℕ) → length (fill_row c a b dy dx n) ≤ n
row_few c a b dy dx zero = omega arith
row_few c a b dy dx (suc n) = cond_few (filled_pair a b (nat_abs dx) (nat_abs dy)) (c.0 +ℤ dx, c.1 +ℤ dy) (fill_row c a b dy (dx +ℤ pos 1) n) n (row_few c a b dy (dx +ℤ pos 1) n)

rows_few : (c : Dot) (a b : ℕ) (dy : ℤ) (n : ℕ) → length (fill_rows c a b dy n) ≤ n * (2 * a + 1)
rows_few c a b dy zero = omega arith
rows_few c a b dy (suc n) = let h = row_few c a b dy (neg_ℤ (pos a)) (2 * a + 1) in let k = rows_few c a b (dy +ℤ pos 1) n in simp length-append (omega arith)

filled_few : (w : Window) (c : Dot) (a b : ℕ) → a ≤ 4095 → b ≤ 4095 → length (visible w (filled_dots c a b)) < 2 ^ 32
unfolding filled_dots
filled_few w c a b f g =
    let v = visible_few w (filled_dots c a b) in
    let n = rows_few c a b (neg_ℤ (pos b)) (2 * b + 1) in
    let m : (2 * b + 1) * (2 * a + 1) ≤ 8191 * 8191 = mul-le (2 * b + 1) (2 * a + 1) 8191 8191 (omega arith) (omega arith) in
    omega (arith, m)

pub shape_few : (w : Window) (shape : Shape) → length (visible w (shape_dots shape)) < 2 ^ 32
shape_few w (Line line) = line_few w line.from.at line.to.at line.from.worldly line.to.worldly
shape_few w (Outline centre axes) = outline_few w centre.at axes.ellipse.a axes.ellipse.b axes.narrow axes.low
shape_few w (Filled centre axes) = filled_few w centre.at axes.ellipse.a axes.ellipse.b axes.narrow axes.low

module _ {Q : Type 0} {window : Q → Window} {lit : Q → Dot → Bool} {shots : Q → ℕ} {strikes : Q → List Strike → Q → Type 0} {layers : Q → List Layer} {floor : Q → Meaning} (h : Laws window lit shots strikes layers floor) where
  -- what a call answered, and what the plate went through
  pub record Called (s t : Q) (cause : Option ℕ) (dots : List Dot) (ink : Ink) (told : Result ℕ ℕ) : Type 0 where
    pub answer : told ≡ figure_answer cause dots (window s) (shots s)
    pub history : strikes s (figure_strikes cause dots (window s) (shots s) ink) t

  module _ (s t u : Q) (cause : Option ℕ) (dots : List Dot) (ink : Ink) (seen n : ℕ) (none : cause ≡ None) (st : strikes s [] t) (tu : strikes t [] u) (is : seen ≡ length (visible (window s) dots)) (left : n ≡ shots t) where
    still : strikes s [] u
    still = h.join s t u [] [] st tu

    same_shots : shots s ≡ n
    same_shots = let a : shots s ≡ 0 + shots t = (h.after s t [] st).shots in omega arith

    pub too_few : n < seen → Called s u cause dots ink (Err 22)
    too_few less =
        let e = same_shots in
        let l : leb (length (visible (window s) dots)) (shots s) ≡ false = lt-leb (length (visible (window s) dots)) (shots s) (omega arith) in
        subst (λ o. Called s u o dots ink (Err 22)) (sym none) (record { answer = simp l; history = simp l still })

    pub struck_all : (v : Q) → seen ≤ n → strikes u (inked_with ink (take (shots u) (visible (window u) dots))) v → Called s v cause dots ink (Ok seen)
    struck_all v enough uv =
        let e = same_shots in
        let b : shots t ≡ 0 + shots u = (h.after t u [] tu).shots in
        let w : window u ≡ window s = (h.after s u [] still).window in
        let l : leb (length (visible (window s) dots)) (shots s) ≡ true = le-leb (length (visible (window s) dots)) (shots s) (omega arith) in
        let all : take (shots u) (visible (window u) dots) ≡ visible (window s) dots = ap (λ x. take (shots u) (visible x dots)) w ∙ take_all (shots u) (visible (window s) dots) (omega arith) in
        subst (λ o. Called s v o dots ink (Ok seen)) (sym none) (record {
          answer = simp l (ap Ok is);
          history = simp l (subst (λ zs. strikes s (inked_with ink zs) v) all (h.join s u v [] (inked_with ink (take (shots u) (visible (window u) dots))) still uv));
        })
