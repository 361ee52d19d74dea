-- What a figure's call answers and strikes, by the figure's dots.
use Rattle.std.specs.Prelude.{◌≡◌, ℕ, Bool, false, cond, ◌||◌, List, [], ◌∷◌, map, length, Some, None, Option, nat_le, Result, Ok, Err}
use Rattle.plate.specs.declared.Ink.{Ink}
use Rattle.plate.specs.declared.Window.{Window}
use Rattle.plate.specs.World.{Dot, inside}
use Rattle.plate.specs.Plates.{Strike, same}
use Rattle.figure.specs.declared.FigureRefusal.{FigureRefusal}
use Rattle.figure.specs.declared.FigureRefusal.TheVariants.{BeyondWorld, BadAxis, TooFewShots}

abbrev pub figure_number : FigureRefusal → ℕ
figure_number BeyondWorld = 1
figure_number BadAxis = 2
figure_number TooFewShots = 22

-- the visible dots: those in the window, in their order
abbrev pub visible : Window → List Dot → List Dot
visible w [] = []
visible w (p ∷ ps) = cond (inside w p) (p ∷ visible w ps) (visible w ps)

-- no dot stands in the list twice
abbrev pub has : Dot → List Dot → Bool
has p [] = false
has p (q ∷ qs) = same p q || has p qs

abbrev pub Distinct : List Dot → Type 0
Distinct [] = Unit {0}
Distinct (p ∷ ps) = (has p ps ≡ false) × Distinct ps

-- each of these dots struck, with one ink
abbrev pub inked_with : Ink → List Dot → List Strike
inked_with ink ps = map (λ p. (p, ink)) ps

-- what a figure's call answers: the first cause that its own numbers give, next 22, else how many dots it strikes
abbrev pub figure_answer : Option ℕ → List Dot → Window → ℕ → Result ℕ ℕ
figure_answer (Some cause) dots w shots = Err cause
figure_answer None dots w shots = cond (nat_le (length (visible w dots)) shots) (Ok (length (visible w dots))) (Err 22)

-- the strikes that it makes
abbrev pub figure_strikes : Option ℕ → List Dot → Window → ℕ → Ink → List Strike
figure_strikes (Some cause) dots w shots ink = []
figure_strikes None dots w shots ink = cond (nat_le (length (visible w dots)) shots) (inked_with ink (visible w dots)) []

-- the dots that an answer reports: a refused figure reports none
abbrev pub reported : Result ℕ ℕ → ℕ
reported (Ok n) = n
reported (Err number) = 0
