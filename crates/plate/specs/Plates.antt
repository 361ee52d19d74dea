-- What a plate means, how strikes change it, and what a pile of masks, shifts and turns shows of its lowest plate.
use Rattle.std.specs.Prelude.{◌≡◌, ℕ, ◌+◌, Bool, true, cond, ◌&&◌, List, [], ◌∷◌, ◌++◌, map, length, ℤ, ◌+ℤ◌, neg_ℤ, Some, None, Option, ◌==◌, int_le, Result, Ok, Err}
use Rattle.plate.specs.declared.Ink.{Ink}
use Rattle.plate.specs.declared.Window.{Window}
use Rattle.plate.specs.declared.Facing.{Facing}
use Rattle.plate.specs.declared.Facing.TheVariants.{Same, Quarter, Half, Back, AcrossX, AcrossY, Swap, Anti}
use Rattle.plate.specs.World.{Dot, world, inside, canonical, inked}

-- a strike: which dot, and with which ink
abbrev pub Strike : Type 0
Strike = Dot × Ink

-- a plate's window, which of its dots are lit, and the shots left; outside the window `lit` means nothing
pub record Meaning : Type 0 where
  pub window : Window
  pub lit : Dot → Bool
  pub shots : ℕ

-- asked about a dot: lit or unlit inside the window, and nothing outside it
abbrev pub asked : Window → (Dot → Bool) → Dot → Option Bool
asked w lit p = cond (inside w p) (Some (lit p)) None

-- what a strike answers: 20 outside the window, next 21 without shots
abbrev pub strike_answer : Window → ℕ → Dot → Result Unit ℕ
strike_answer w shots p = cond (inside w p) (cond (shots == 0) (Err 21) (Ok tt)) (Err 20)

-- the strikes that an order to strike makes: itself, or none where it is refused
abbrev pub accepted : Window → ℕ → Strike → List Strike
accepted w shots k = cond (inside w k.0) (cond (shots == 0) [] (k ∷ [])) []

unfoldable pub same : Dot → Dot → Bool
same p q = (int_le p.0 q.0 && int_le q.0 p.0) && (int_le p.1 q.1 && int_le q.1 p.1)

-- one strike inks its own dot
abbrev pub struck : Strike → (Dot → Bool) → Dot → Bool
struck k lit p = cond (same p k.0) (inked k.1 (lit p)) (lit p)

-- strikes one after another
abbrev pub lit_after : List Strike → (Dot → Bool) → Dot → Bool
lit_after [] lit p = lit p
lit_after (k ∷ ks) lit p = lit_after ks (struck k lit) p

-- strikes of which each is at a dot that f admits
abbrev pub AllIn : (Dot → Bool) → List Strike → Type 0
AllIn f [] = Unit {0}
AllIn f (k ∷ ks) = (f k.0 ≡ true) × AllIn f ks

-- the meaning n is m after just these strikes: each inked its dot and took one shot
pub record After (ks : List Strike) (m n : Meaning) : Type 0 where
  pub window : n.window ≡ m.window
  pub lit : (p : Dot) → inside m.window p ≡ true → n.lit p ≡ lit_after ks m.lit p
  pub shots : m.shots ≡ length ks + n.shots

-- a window as plates tell it: a rectangle of the world, and the empty one always as 1, 1, 0, 0
pub record Framed (w : Window) : Type 0 where
  pub told : canonical w ≡ w
  pub worldly : (p : Dot) → inside w p ≡ true → world p ≡ true

-- a mask shows the dots of its window; a shift and a turn show a plate elsewhere
pub data Layer : Type 0 where
  mask : Window → Layer
  shift : ℤ → ℤ → Layer
  turn : Facing → Layer

-- where a turn sends a dot
abbrev pub turned : Facing → Dot → Dot
turned Same p = (p.0, p.1)
turned Quarter p = (neg_ℤ p.1, p.0)
turned Half p = (neg_ℤ p.0, neg_ℤ p.1)
turned Back p = (p.1, neg_ℤ p.0)
turned AcrossX p = (neg_ℤ p.0, p.1)
turned AcrossY p = (p.0, neg_ℤ p.1)
turned Swap p = (p.1, p.0)
turned Anti p = (neg_ℤ p.1, neg_ℤ p.0)

-- the place below of a dot above
abbrev pub step : Layer → Dot → Dot
step (mask m) p = p
step (shift dx dy) p = (p.0 +ℤ dx, p.1 +ℤ dy)
step (turn k) p = turned k p

-- a mask hides the dots outside its window
abbrev pub admits : Layer → Dot → Bool
admits (mask m) p = inside m p
admits (shift dx dy) p = true
admits (turn k) p = true

-- the place on the lowest plate, layer by layer; the top layer stands first
abbrev pub place : List Layer → Dot → Dot
place [] p = p
place (l ∷ ls) p = place ls (step l p)

-- whether a window w below the layers shows at the dot p above them: at each layer p is a dot of the world and is admitted
abbrev pub shows : List Layer → Window → Dot → Bool
shows [] w p = inside w p
shows (l ∷ ls) w p = world p && (admits l p && shows ls w (step l p))

-- the meaning n is m seen through layers
pub record Seen (ls : List Layer) (m n : Meaning) : Type 0 where
  pub window : (p : Dot) → inside n.window p ≡ shows ls m.window p
  pub lit : (p : Dot) → inside n.window p ≡ true → n.lit p ≡ m.lit (place ls p)
  pub shots : n.shots ≡ m.shots

-- a strike carried down
abbrev pub sunk : List Layer → Strike → Strike
sunk ls k = (place ls k.0, k.1)

-- a shift goes by numbers of the world
abbrev pub near : Layer → Bool
near (mask m) = true
near (shift dx dy) = world (dx, dy)
near (turn k) = true

abbrev pub Near : List Layer → Type 0
Near [] = Unit {0}
Near (l ∷ ls) = (near l ≡ true) × Near ls

abbrev pub meaning : Window → (Dot → Bool) → ℕ → Meaning
meaning w lit shots = record { window = w; lit = lit; shots = shots }

-- What every plate promises of its ghost members.
-- `strikes s ks t` is the history: t is s after exactly the accepted strikes ks, in this order.
-- `layers` are the masks, shifts and turns over the lowest plate, whose meaning is `floor`.
pub record Laws {S : Type 0} (window : S → Window) (lit : S → Dot → Bool) (shots : S → ℕ) (strikes : S → List Strike → S → Type 0) (layers : S → List Layer) (floor : S → Meaning) : Type 0 where
  pub none : (s : S) → strikes s [] s
  pub join : (s t u : S) (xs ys : List Strike) → strikes s xs t → strikes t ys u → strikes s (xs ++ ys) u
  pub after : (s t : S) (xs : List Strike) → strikes s xs t → After xs (meaning (window s) (lit s) (shots s)) (meaning (window t) (lit t) (shots t))
  pub framed : (s : S) → Framed (window s)
  pub framed_below : (s : S) → Framed (floor s).window
  pub sees : (s : S) → Seen (layers s) (floor s) (meaning (window s) (lit s) (shots s))
  pub near : (s : S) → Near (layers s)
  pub stays : (s t : S) (xs : List Strike) → strikes s xs t → layers t ≡ layers s
  pub sinks : (s t : S) (xs : List Strike) → strikes s xs t → After (map (sunk (layers s)) xs) (floor s) (floor t)
