-- What walks rest on: a visitor is handed a figure's dots one after another.
use Rattle.std.specs.Prelude.{◌≡◌, ℕ, ◌+◌, ◌^◌, ◌<◌, List, [], ◌++◌, length, take}
use Rattle.std.specs.Borrow.{MutBor}
use Rattle.plate.specs.declared.Ink.{Ink}
use Rattle.plate.specs.declared.Window.{Window}
use Rattle.plate.specs.World.{Dot}
use Rattle.plate.specs.Plates.{Strike}
use Rattle.figure.specs.Drawing.{visible, inked_with}

-- `visits s ps t`: the visitor t is s after it was handed the dots ps, in this order
pub record VisitLaws {S : Type 0} (visits : S → List Dot → S → Type 0) : Type 0 where
  pub none : (s : S) → visits s [] s
  pub join : (s t u : S) (ps qs : List Dot) → visits s ps t → visits t qs u → visits s (ps ++ qs) u

-- a count goes from n to m: nothing is struck, and the visible dots are counted
pub record Counts {Q : Type 0} (window : Q → Window) (strikes : Q → List Strike → Q → Type 0) (before after : MutBor Q) (n m : ℕ) (ps : List Dot) : Type 0 where
  pub lent : after.ghost_name ≡ before.ghost_name
  pub same : strikes before.now [] after.now
  pub seen : n + length (visible (window before.now) ps) < 2 ^ 32 → m ≡ n + length (visible (window before.now) ps)

-- the visible dots are struck with one ink, as far as the shots reach
pub record Inks {Q : Type 0} (window : Q → Window) (shots : Q → ℕ) (strikes : Q → List Strike → Q → Type 0) (before after : MutBor Q) (ink next : Ink) (ps : List Dot) : Type 0 where
  pub lent : after.ghost_name ≡ before.ghost_name
  pub held : next ≡ ink
  pub struck : strikes before.now (inked_with ink (take (shots before.now) (visible (window before.now) ps))) after.now
