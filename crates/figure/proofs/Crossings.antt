-- How far apart numbers of the world lie.
use Rattle.std.proofs.Common.{◌≡◌, cond, ◌+ℤ◌, ℕ, ◌≤◌, true, ℤ, pos, negsuc, ◌-ℤ◌, neg_ℤ, nat_abs, ◌≤ℤ◌, arith}
use Rattle.std.proofs.lemmas.Int.{ints}
use lib.Signed.{lt_z}
use Rattle.plate.specs.World.{within}
use Rattle.plate.specs.Windows.{within_orders}
use Rattle.figure.specs.Lines.{gap, toward}

pub abs_few : (z : ℤ) (n : ℕ) → neg_ℤ (pos n) ≤ℤ z → z ≤ℤ pos n → nat_abs z ≤ n
abs_few (pos k) n low high = omega (arith, ints)
abs_few (negsuc k) n low high = omega (arith, ints)

-- two numbers of the world are at most 65,534 apart
pub gap_few : (a b : ℤ) → within a ≡ true → within b ≡ true → gap a b ≤ 65534
gap_few a b p q =
    let m = within_orders a p in
    let n = within_orders b q in
    abs_few (a -ℤ b) 65534 (omega (arith, ints)) (omega (arith, ints))

-- steps back where the end lies before the start, as the code takes them, are steps toward the end
pub moved_toward : (a b a' b' : ℤ) (k n : ℕ) (r : ℤ) → a' ≡ a → b' ≡ b → n ≡ k → r ≡ cond (lt_z b' a') (a -ℤ pos n) (a +ℤ pos n) → r ≡ toward a b k
unfolding toward
moved_toward a b a' b' k n r e f g h = grind (arith, ints)
