-- Proofs: a layer over a plate keeps the laws of plates. Nothing here needs to be believed.
use Rattle.std.specs.Prelude.{◌≡◌, ℕ, ◌+◌, Bool, true, cond, ◌&&◌, List, [], ◌∷◌, ◌++◌, map, ℤ, pos, ◌+ℤ◌, refl}
use Rattle.std.proofs.Common.{sym, ap, subst, ◌∙◌, inl, inr, arith}
use mathlib.Core.List.{map-map}
use Rattle.std.proofs.lemmas.List.{map-append, length-map}
use Rattle.std.proofs.lemmas.Int.{ints, clamps}
use Rattle.std.proofs.lemmas.Bool.{and_parts, and_from, cases_Bool, cond-true, cond-false}
use Rattle.plate.specs.declared.Facing.{Facing}
use Rattle.plate.specs.declared.Facing.TheVariants.{Same, Quarter, Half, Back, AcrossX, AcrossY, Swap, Anti}
use Rattle.plate.specs.declared.Window.{Window}
use Rattle.plate.specs.World.{Dot, within, world, inside, inked}
use Rattle.plate.specs.Plates.{Strike, Meaning, After, Framed, Seen, Layer, mask, shift, turn, Laws, same, struck, lit_after, turned, step, admits, sunk, near, meaning}
use Rattle.plate.specs.Windows.{both, In, inside_orders, orders_inside, same_orders, orders_same, inside-canonical, canonical_twice}
use Rattle.layer.specs.Layers.{shift_by}
use Rattle.layer.specs.Views.{whole, overlap, clipped, unturned, pulled, view}

same_inside : (v w : Window) (p q : Dot) → (In v p → In w q) → (In w q → In v p) → inside v p ≡ inside w q
same_inside v w p q f g = both (inside v p) (inside w q) (λ t. orders_inside w q (f (inside_orders v p t))) (λ t. orders_inside v p (g (inside_orders w q t)))

inside-overlap : (v w : Window) (p : Dot) → inside (overlap v w) p ≡ (inside v p && inside w p)
inside-overlap v w p =
    both (inside (overlap v w) p) (inside v p && inside w p)
    (λ t. let i = inside_orders (overlap v w) p t in and_from (inside v p) (inside w p) (orders_inside v p (omega (arith, ints, clamps))) (orders_inside w p (omega (arith, ints, clamps))))
    (λ t. let a = and_parts (inside v p) (inside w p) t in let i = inside_orders v p a.0 in let j = inside_orders w p a.1 in orders_inside (overlap v w) p (omega (arith, ints, clamps)))

inside-whole : (p : Dot) → inside whole p ≡ world p
unfolding inside world within
inside-whole p = refl

pub inside-clipped : (w : Window) (p : Dot) → inside (clipped w) p ≡ (world p && inside w p)
unfolding clipped
inside-clipped w p = inside-canonical (overlap whole w) p ∙ inside-overlap whole w p ∙ ap (λ b. b && inside w p) (inside-whole p)

Framed-clipped : (w : Window) → Framed (clipped w)
unfolding clipped
Framed-clipped w = record { told = canonical_twice (overlap whole w); worldly = λ p t. (and_parts (world p) (inside w p) (sym (inside-clipped w p) ∙ t)).0 }

turn_orders : (k : Facing) (w : Window) (p : Dot) → (In (unturned k w) p → In w (turned k p)) × (In w (turned k p) → In (unturned k w) p)
unfolding unturned
turn_orders Same w p = omega (arith, ints)
turn_orders Quarter w p = omega (arith, ints)
turn_orders Half w p = omega (arith, ints)
turn_orders Back w p = omega (arith, ints)
turn_orders AcrossX w p = omega (arith, ints)
turn_orders AcrossY w p = omega (arith, ints)
turn_orders Swap w p = omega (arith, ints)
turn_orders Anti w p = omega (arith, ints)

inside-pulled : (l : Layer) (w : Window) (p : Dot) → inside (pulled l w) p ≡ (admits l p && inside w (step l p))
inside-pulled (mask m) w p = inside-overlap m w p
inside-pulled (shift dx dy) w p = same_inside (pulled (shift dx dy) w) w p (p.0 +ℤ dx, p.1 +ℤ dy) (λ h. omega (arith, ints)) (λ h. omega (arith, ints))
inside-pulled (turn k) w p = let t = turn_orders k w p in same_inside (unturned k w) w p (turned k p) t.0 t.1

-- the window above a layer holds the world's dots that the layer admits and whose places are in the window below
pub inside-view : (l : Layer) (w : Window) (p : Dot) → inside (view l w) p ≡ (world p && (admits l p && inside w (step l p)))
inside-view l w p = inside-clipped (pulled l w) p ∙ ap (λ b. world p && b) (inside-pulled l w p)

pub view_below : (l : Layer) (w : Window) (p : Dot) → inside (view l w) p ≡ true → inside w (step l p) ≡ true
view_below l w p t = (and_parts (admits l p) (inside w (step l p)) (and_parts (world p) (admits l p && inside w (step l p)) (sym (inside-view l w p) ∙ t)).1).1

-- a step sends two dots to one place only if they are one
turn_once : (k : Facing) (p q : Dot) → ((turned k p).0 ≡ (turned k q).0 → (turned k p).1 ≡ (turned k q).1 → (p.0 ≡ q.0) × (p.1 ≡ q.1)) × (p.0 ≡ q.0 → p.1 ≡ q.1 → ((turned k p).0 ≡ (turned k q).0) × ((turned k p).1 ≡ (turned k q).1))
turn_once Same p q = (λ a b. omega (arith, ints), λ a b. omega (arith, ints))
turn_once Quarter p q = (λ a b. omega (arith, ints), λ a b. omega (arith, ints))
turn_once Half p q = (λ a b. omega (arith, ints), λ a b. omega (arith, ints))
turn_once Back p q = (λ a b. omega (arith, ints), λ a b. omega (arith, ints))
turn_once AcrossX p q = (λ a b. omega (arith, ints), λ a b. omega (arith, ints))
turn_once AcrossY p q = (λ a b. omega (arith, ints), λ a b. omega (arith, ints))
turn_once Swap p q = (λ a b. omega (arith, ints), λ a b. omega (arith, ints))
turn_once Anti p q = (λ a b. omega (arith, ints), λ a b. omega (arith, ints))

step_once : (l : Layer) (p q : Dot) → ((step l p).0 ≡ (step l q).0 → (step l p).1 ≡ (step l q).1 → (p.0 ≡ q.0) × (p.1 ≡ q.1)) × (p.0 ≡ q.0 → p.1 ≡ q.1 → ((step l p).0 ≡ (step l q).0) × ((step l p).1 ≡ (step l q).1))
step_once (mask m) p q = (λ a b. (a, b), λ a b. (a, b))
step_once (shift dx dy) p q = (λ a b. omega (arith, ints), λ a b. omega (arith, ints))
step_once (turn k) p q = turn_once k p q

pub step_same : (l : Layer) (p q : Dot) → same (step l p) (step l q) ≡ same p q
step_same l p q =
    let once = step_once l p q in
    both (same (step l p) (step l q)) (same p q)
    (λ t. let e = same_orders (step l p) (step l q) t in let d = once.0 e.0 e.1 in orders_same p q d.0 d.1)
    (λ t. let e = same_orders p q t in let d = once.1 e.0 e.1 in orders_same (step l p) (step l q) d.0 d.1)

-- a strike carried down by one layer
abbrev pub down : Layer → Strike → Strike
down l k = (step l k.0, k.1)

-- strikes carried down change a dot's place as the strikes change the dot
lit_down : (l : Layer) (xs : List Strike) (f g : Dot → Bool) (p : Dot) → f (step l p) ≡ g p → lit_after (map (down l) xs) f (step l p) ≡ lit_after xs g p
lit_down l [] f g p h = h
lit_down l (x ∷ xs) f g p h = lit_down l xs (struck (down l x) f) (struck x g) p (ap (λ b. cond b (inked x.1 (f (step l p))) (f (step l p))) (step_same l p x.0) ∙ ap (λ b. cond (same p x.0) (inked x.1 b) b) h)

view_after : (l : Layer) (xs : List Strike) (v w : Window) (f g : Dot → Bool) (m n : ℕ) → After (map (down l) xs) (meaning v f m) (meaning w g n) → After xs (meaning (view l v) (λ p. f (step l p)) m) (meaning (view l w) (λ p. g (step l p)) n)
view_after l xs v w f g m n a = record {
  window = ap (view l) a.window;
  lit = λ p t. a.lit (step l p) (view_below l v p t) ∙ lit_down l xs f (λ q. f (step l q)) p refl;
  shots = a.shots ∙ ap (λ k. k + n) (length-map xs (down l));
}

view-Seen : (l : Layer) (ls : List Layer) (m : Meaning) (w : Window) (f : Dot → Bool) (n : ℕ) → Seen ls m (meaning w f n) → Seen (l ∷ ls) m (meaning (view l w) (λ p. f (step l p)) n)
view-Seen l ls m w f n s = record {
  window = λ p. inside-view l w p ∙ ap (λ b. world p && (admits l p && b)) (s.window (step l p));
  lit = λ p t. s.lit (step l p) (view_below l w p t);
  shots = s.shots;
}

-- a layer's history: it is the same layer, and the plate below went through the places
abbrev pub Lowered : {S Q : Type 0} (layer : S → Layer) (below : S → Q) (strikes : Q → List Strike → Q → Type 0) → S → List Strike → S → Type 0
Lowered layer below strikes s xs t = (layer t ≡ layer s) × strikes (below s) (map (down (layer s)) xs) (below t)

pub layer_laws : {S Q : Type 0} {window : Q → Window} {lit : Q → Dot → Bool} {shots : Q → ℕ} {strikes : Q → List Strike → Q → Type 0} {layers : Q → List Layer} {floor : Q → Meaning} (layer : S → Layer) (below : S → Q) → ((s : S) → near (layer s) ≡ true) → Laws window lit shots strikes layers floor → Laws {S = S} (λ s. view (layer s) (window (below s))) (λ s p. lit (below s) (step (layer s) p)) (λ s. shots (below s)) (Lowered layer below strikes) (λ s. layer s ∷ layers (below s)) (λ s. floor (below s))
layer_laws {window = window} {lit = lit} {shots = shots} {strikes = strikes} {layers = layers} {floor = floor} layer below small h = record {
  none = λ s. (refl, h.none (below s));
  join = λ s t u xs ys p q. (q.0 ∙ p.0, subst (λ zs. strikes (below s) zs (below u)) (ap (λ l. map (down (layer s)) xs ++ map (down l) ys) p.0 ∙ sym (map-append (down (layer s)) xs ys)) (h.join (below s) (below t) (below u) (map (down (layer s)) xs) (map (down (layer t)) ys) p.1 q.1));
  after = λ s t xs p. subst (λ l. After xs (meaning (view (layer s) (window (below s))) (λ q. lit (below s) (step (layer s) q)) (shots (below s))) (meaning (view l (window (below t))) (λ q. lit (below t) (step l q)) (shots (below t)))) (sym p.0) (view_after (layer s) xs (window (below s)) (window (below t)) (lit (below s)) (lit (below t)) (shots (below s)) (shots (below t)) (h.after (below s) (below t) (map (down (layer s)) xs) p.1));
  framed = λ s. Framed-clipped (pulled (layer s) (window (below s)));
  framed_below = λ s. h.framed_below (below s);
  sees = λ s. view-Seen (layer s) (layers (below s)) (floor (below s)) (window (below s)) (lit (below s)) (shots (below s)) (h.sees (below s));
  near = λ s. (small s, h.near (below s));
  stays = λ s t xs p. ap (λ l. l ∷ layers (below t)) p.0 ∙ ap (λ ls. layer s ∷ ls) (h.stays (below s) (below t) (map (down (layer s)) xs) p.1);
  sinks = λ s t xs p. subst (λ zs. After zs (floor (below s)) (floor (below t))) (map-map (sunk (layers (below s))) (down (layer s)) xs) (h.sinks (below s) (below t) (map (down (layer s)) xs) p.1);
}

-- a shift goes by numbers of the world, whatever it was made from
pub shift_near : (dx dy : ℤ) → near (shift_by dx dy) ≡ true
unfolding world within
shift_near dx dy = elim (cases_Bool (world (dx, dy))) [
  | inl t ↦ ap near (cond-true (world (dx, dy)) (shift dx dy) (shift (pos 0) (pos 0)) t) ∙ t
  | inr f ↦ ap near (cond-false (world (dx, dy)) (shift dx dy) (shift (pos 0) (pos 0)) f)
]
