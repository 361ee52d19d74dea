-- A walk over the lighted pairs, a test of `lighted` to a step: what is known at its place (x, y), and which pairs are to come.
-- It starts at (0, b). From a place that is not lighted it goes down; from a lighted one down if the place below is lighted too, else to the next column.
use Rattle.std.proofs.Common.{◌≡◌, ℕ, ◌+◌, ◌-◌, ◌<◌, ◌≤◌, true, false, List, [], ◌∷◌, subst, arith}
use Rattle.std.proofs.lemmas.Bool.{both_ways}
use Rattle.ellipse.specs.Ellipses.{lighted, pairs}
use Rattle.ellipse.proofs.Laws.{falls, peopled}
use Rattle.ellipse.proofs.Listing.{rest, began, skipped, downward, sideways, ended, none_below, none_above}

-- the column x still has a lighted pair, at y or below
pub record Place (a b x y : ℕ) : Type 0 where
  pub across : x ≤ a
  pub down : y ≤ b
  pub some : (w : ℕ) × (w ≤ y) × (lighted a b x w ≡ true)

-- the pairs to come: of the column x from y downward, and of the columns after it
abbrev pub coming : ℕ → ℕ → ℕ → ℕ → List (ℕ × ℕ)
coming a b x y = rest (lighted a b) a b x y

-- at the start: what is known holds, and all pairs are to come
pub place_start : (a b : ℕ) → Place a b 0 b
place_start a b = record { across = omega arith; down = omega arith; some = peopled a b 0 (omega arith) }

pub coming_start : (a b : ℕ) → coming a b 0 b ≡ pairs a b
coming_start = began

module _ {a b x y : ℕ} (i : Place a b x y) where
  not_here : lighted a b x y ≡ false → i.some.0 ≡ y → ⊥
  not_here e q = both_ways _ e (subst (λ k. lighted a b x k ≡ true) q i.some.2)

  -- a place that is not lighted has one below it: y − 1 does not wrap
  pub above_0 : lighted a b x y ≡ false → 0 < y
  above_0 e = omega (arith, i.some.1, not_here e)

  -- not lighted: nothing is handed over, and the walk goes down
  pub go_on : lighted a b x y ≡ false → Place a b x (y - 1) × (coming a b x y ≡ coming a b x (y - 1))
  go_on e = (
    record { across = i.across; down = omega (arith, i.down); some = (i.some.0, omega (arith, i.some.1, not_here e), i.some.2) },
    skipped (lighted a b) a b x y e (above_0 e),
  )

  -- lighted, and so is the place below: (x, y) is handed over, and the walk goes down
  pub go_down : lighted a b x y ≡ true → 0 < y → lighted a b x (y - 1) ≡ true → Place a b x (y - 1) × (coming a b x y ≡ (x, y) ∷ coming a b x (y - 1))
  go_down e h f =
      (record { across = i.across; down = omega (arith, i.down); some = (y - 1, omega arith, f) }, downward (lighted a b) a b x y e h)

  -- lighted, and the column ends here: (x, y) is handed over, and the walk goes to the next column, at the same height
  pub go_side : lighted a b x y ≡ true → (0 < y → lighted a b x (y - 1) ≡ false) → x < a → Place a b (x + 1) y × (coming a b x y ≡ (x, y) ∷ coming a b (x + 1) y)
  go_side e n h =
      let s = peopled a b (x + 1) (omega arith) in (
        record { across = omega arith; down = i.down; some = (s.0, falls a b x (x + 1) y s.0 (omega arith) e s.2, s.2) },
        sideways (lighted a b) a b x y e (none_below a b x y e n) h i.down (none_above a b x y e),
      )

  -- and where there is no next column, (x, y) is the last
  pub go_end : lighted a b x y ≡ true → (0 < y → lighted a b x (y - 1) ≡ false) → a ≤ x → coming a b x y ≡ (x, y) ∷ []
  go_end e n h = ended (lighted a b) a b x y e (none_below a b x y e n) h
