-- The laws of a pile's map: it is one turn and one shift, and the other laws follow from that.
use Rattle.std.proofs.Common.{◌≡◌, ℕ, suc, ◌+◌, ◌*◌, ◌%◌, Bool, true, false, cond, ◌&&◌, eqb, List, [], ◌∷◌, ℤ, pos, ◌+ℤ◌, ◌-ℤ◌, neg_ℤ, nat_abs, ◌≤ℤ◌, sym, refl, ap, ◌∙◌, inl, inr, mul_comm, arith}
use lib.Signed.{le_z}
use Rattle.std.specs.Int.{int_max, int_min}
use Rattle.std.proofs.Math.Bool.{and_comm}
use Rattle.std.proofs.lemmas.Int.{ints, clamps}
use Rattle.std.proofs.lemmas.Bool.{and_parts, and_from, cases_Bool, cases_eq, cond-true, cond-false, eq-eqb, ne_eqb}
use Rattle.plate.specs.declared.Window.{Window}
use Rattle.plate.specs.declared.Facing.{Facing}
use Rattle.plate.specs.declared.Facing.TheVariants.{Same, Quarter, Half, Back, AcrossX, AcrossY, Swap, Anti}
use Rattle.plate.specs.World.{Dot, inside, empty, canonical}
use Rattle.plate.specs.Plates.{Layer, mask, shift, turn, turned, step, place}
use Rattle.plate.specs.Piles.{exchanges, negates_first, negates_second, facing_by, differs, joined_turn, turn_of, facing_of, exchangings, spanned, has_dots, lowered, dot_count, apart, moved, MapLaws}
use Rattle.plate.specs.Windows.{both, le_true, inside-empty, inside-canonical}

pair : {a b c d : ℤ} → a ≡ b → c ≡ d → ◌≡◌ {A = Dot} (a, c) (b, d)
pair e f = λ i. (e i, f i)

-- a turn by its parts
abbrev signed : Bool → ℤ → ℤ
signed true z = neg_ℤ z
signed false z = z

abbrev swapped : Bool → Dot → Dot
swapped true p = (p.1, p.0)
swapped false p = (p.0, p.1)

abbrev by_parts : Bool → Bool → Bool → Dot → Dot
by_parts e a b p = (signed a (swapped e p).0, signed b (swapped e p).1)

turned_parts : (f : Facing) (p : Dot) → turned f p ≡ by_parts (exchanges f) (negates_first f) (negates_second f) p
turned_parts Same p = refl
turned_parts Quarter p = refl
turned_parts Half p = refl
turned_parts Back p = refl
turned_parts AcrossX p = refl
turned_parts AcrossY p = refl
turned_parts Swap p = refl
turned_parts Anti p = refl

-- the turn with given parts has those parts
has_parts : (e a b : Bool) → (exchanges (facing_by e a b) ≡ e) × (negates_first (facing_by e a b) ≡ a) × (negates_second (facing_by e a b) ≡ b)
has_parts false false false = (refl, refl, refl)
has_parts false false true = (refl, refl, refl)
has_parts false true false = (refl, refl, refl)
has_parts false true true = (refl, refl, refl)
has_parts true false false = (refl, refl, refl)
has_parts true false true = (refl, refl, refl)
has_parts true true false = (refl, refl, refl)
has_parts true true true = (refl, refl, refl)

turned_by : (e a b : Bool) (p : Dot) → turned (facing_by e a b) p ≡ by_parts e a b p
turned_by e a b p = let h = has_parts e a b in turned_parts (facing_by e a b) p ∙ (λ i. by_parts (h.0 i) (h.1 i) (h.2 i) p)

signed_twice : (a b : Bool) (z : ℤ) → signed (differs a b) z ≡ signed a (signed b z)
signed_twice true true z = omega (arith, ints)
signed_twice true false z = refl
signed_twice false true z = refl
signed_twice false false z = refl

parts_joined : (e a b f c d : Bool) (p : Dot) → by_parts (differs f e) (differs a (cond e d c)) (differs b (cond e c d)) p ≡ by_parts e a b (by_parts f c d p)
parts_joined true a b true c d p = pair (signed_twice a d p.0) (signed_twice b c p.1)
parts_joined true a b false c d p = pair (signed_twice a d p.1) (signed_twice b c p.0)
parts_joined false a b true c d p = pair (signed_twice a c p.1) (signed_twice b d p.0)
parts_joined false a b false c d p = pair (signed_twice a c p.0) (signed_twice b d p.1)

-- the joined turn does what the two do one after the other
turned_joined : (f g : Facing) (p : Dot) → turned (joined_turn f g) p ≡ turned g (turned f p)
turned_joined f g p =
    turned_by (differs (exchanges f) (exchanges g)) (differs (negates_first g) (cond (exchanges g) (negates_second f) (negates_first f))) (differs (negates_second g) (cond (exchanges g) (negates_first f) (negates_second f))) p
    ∙ parts_joined (exchanges g) (negates_first g) (negates_second g) (exchanges f) (negates_first f) (negates_second f) p
    ∙ ap (by_parts (exchanges g) (negates_first g) (negates_second g)) (sym (turned_parts f p))
    ∙ sym (turned_parts g (turned f p))

signed_sum : (a : Bool) (y z : ℤ) → signed a (y +ℤ z) ≡ signed a y +ℤ signed a z
signed_sum true y z = omega (arith, ints)
signed_sum false y z = refl

parts_moved : (e a b : Bool) (p q : Dot) → by_parts e a b (moved p q) ≡ moved (by_parts e a b p) (by_parts e a b q)
parts_moved true a b p q = pair (signed_sum a p.1 q.1) (signed_sum b p.0 q.0)
parts_moved false a b p q = pair (signed_sum a p.0 q.0) (signed_sum b p.1 q.1)

turned-moved : (f : Facing) (p q : Dot) → turned f (moved p q) ≡ moved (turned f p) (turned f q)
turned-moved f p q = let t = turned_parts f in simp t (parts_moved (exchanges f) (negates_first f) (negates_second f) p q)

abbrev pub origin : Dot
origin = (pos 0, pos 0)

signed_zero : (a : Bool) → signed a (pos 0) ≡ pos 0
signed_zero true = refl
signed_zero false = refl

parts_origin : (e a b : Bool) → by_parts e a b origin ≡ origin
parts_origin true a b = pair (signed_zero a) (signed_zero b)
parts_origin false a b = pair (signed_zero a) (signed_zero b)

pub turned-origin : (f : Facing) → turned f origin ≡ origin
turned-origin f = turned_parts f origin ∙ parts_origin (exchanges f) (negates_first f) (negates_second f)

moved_none : (p : Dot) → p ≡ moved p origin
moved_none p = pair (omega (arith, ints)) (omega (arith, ints))

moved_twice : (p q r : Dot) → moved (moved p q) r ≡ moved p (moved q r)
moved_twice p q r = pair (omega (arith, ints)) (omega (arith, ints))

-- one layer, and then a pile, is one turn followed by one shift
step_turns : (l : Layer) (p : Dot) → step l p ≡ moved (turned (turn_of l) p) (step l origin)
step_turns (mask w) p = moved_none p
step_turns (shift dx dy) p = pair (omega (arith, ints)) (omega (arith, ints))
step_turns (turn f) p = moved_none (turned f p) ∙ ap (moved (turned f p)) (sym (turned-origin f))

place_turns : (ls : List Layer) (p : Dot) → place ls p ≡ moved (turned (facing_of ls) p) (place ls origin)
place_turns [] p = moved_none p
place_turns (l ∷ ls) p =
    let f = facing_of ls in
    let k = turn_of l in
    let o = step l origin in
    let here = place ls origin in
    place_turns ls (step l p)
    ∙ ap (λ q. moved (turned f q) here) (step_turns l p)
    ∙ ap (λ q. moved q here) (turned-moved f (turned k p) o ∙ ap (λ q. moved q (turned f o)) (sym (turned_joined k f p)))
    ∙ moved_twice (turned (joined_turn k f) p) (turned f o) here
    ∙ ap (moved (turned (joined_turn k f) p)) (sym (place_turns ls o))

-- along one axis the map negates or not, and shifts
abbrev along : Bool → ℤ → ℤ → ℤ
along a c z = signed a z +ℤ c

along_one : (a : Bool) (c y z : ℤ) → along a c y ≡ along a c z → y ≡ z
along_one true c y z e = omega (arith, ints)
along_one false c y z e = omega (arith, ints)

along_back : (a : Bool) (c z : ℤ) → along a c (signed a (z -ℤ c)) ≡ z
along_back true c z = omega (arith, ints)
along_back false c z = omega (arith, ints)

along_apart : (a : Bool) (c y z : ℤ) → nat_abs (along a c y -ℤ along a c z) ≡ nat_abs (y -ℤ z)
along_apart true c y z = omega (arith, ints)
along_apart false c y z = omega (arith, ints)

abbrev Spans : ℤ → ℤ → ℤ → Type 0
Spans x z y = (x ≤ℤ z) × (z ≤ℤ y)

Spans_orders : (x z y : ℤ) → (le_z x z && le_z z y) ≡ true → Spans x z y
Spans_orders x z y t = let a = and_parts (le_z x z) (le_z z y) t in omega (arith, ints)

orders_Spans : (x z y : ℤ) → Spans x z y → (le_z x z && le_z z y) ≡ true
orders_Spans x z y h = and_from (le_z x z) (le_z z y) (le_true x z h.0) (le_true z y h.1)

Spans_same : (x z y u v w : ℤ) → (Spans x z y → Spans u v w) → (Spans u v w → Spans x z y) → (le_z x z && le_z z y) ≡ (le_z u v && le_z v w)
Spans_same x z y u v w f g = both (le_z x z && le_z z y) (le_z u v && le_z v w) (λ t. orders_Spans u v w (f (Spans_orders x z y t))) (λ t. orders_Spans x z y (g (Spans_orders u v w t)))

-- what lies between two numbers has its place between their places
along_spans : (a : Bool) (c x z y : ℤ) → le_z x y ≡ true → (le_z (int_min (along a c x) (along a c y)) (along a c z) && le_z (along a c z) (int_max (along a c x) (along a c y))) ≡ (le_z x z && le_z z y)
along_spans true c x z y h = Spans_same (int_min (along true c x) (along true c y)) (along true c z) (int_max (along true c x) (along true c y)) x z y (λ i. omega (arith, ints, clamps)) (λ i. omega (arith, ints, clamps))
along_spans false c x z y h = Spans_same (int_min (along false c x) (along false c y)) (along false c z) (int_max (along false c x) (along false c y)) x z y (λ i. omega (arith, ints, clamps)) (λ i. omega (arith, ints, clamps))

along_wide : (a : Bool) (c y z : ℤ) → nat_abs (int_max (along a c y) (along a c z) -ℤ int_min (along a c y) (along a c z)) ≡ nat_abs (z -ℤ y)
along_wide true c y z = omega (arith, ints, clamps)
along_wide false c y z = omega (arith, ints, clamps)

-- the map, axis by axis, once the axes are exchanged or not
abbrev laid : Bool → Bool → Bool → Dot → Dot → Dot
laid e a b c p = (along a c.0 (swapped e p).0, along b c.1 (swapped e p).1)

laid_one : (e a b : Bool) (c p q : Dot) → laid e a b c p ≡ laid e a b c q → p ≡ q
laid_one true a b c p q h = pair (along_one b c.1 p.0 q.0 (ap (λ d. d.1) h)) (along_one a c.0 p.1 q.1 (ap (λ d. d.0) h))
laid_one false a b c p q h = pair (along_one a c.0 p.0 q.0 (ap (λ d. d.0) h)) (along_one b c.1 p.1 q.1 (ap (λ d. d.1) h))

-- the dot with a given place
abbrev raised : Bool → Bool → Bool → Dot → Dot → Dot
raised e a b c q = swapped e (signed a (q.0 -ℤ c.0), signed b (q.1 -ℤ c.1))

laid_onto : (e a b : Bool) (c q : Dot) → laid e a b c (raised e a b c q) ≡ q
laid_onto true a b c q = pair (along_back a c.0 q.0) (along_back b c.1 q.1)
laid_onto false a b c q = pair (along_back a c.0 q.0) (along_back b c.1 q.1)

laid-apart : (e a b : Bool) (c p q : Dot) → apart (laid e a b c p) (laid e a b c q) ≡ apart p q
unfolding apart
laid-apart true a b c p q = let h = along_apart a c.0 p.1 q.1 in let k = along_apart b c.1 p.0 q.0 in omega arith
laid-apart false a b c p q = let h = along_apart a c.0 p.0 q.0 in let k = along_apart b c.1 p.1 q.1 in omega arith

-- a window's opposite corners have their places at opposite corners
abbrev laid_window : Bool → Bool → Bool → Dot → Window → Window
laid_window e a b c w = spanned (laid e a b c (w.left, w.top)) (laid e a b c (w.right, w.bottom))

laid-inside : (e a b : Bool) (c : Dot) (w : Window) (p : Dot) → has_dots w ≡ true → inside (laid_window e a b c w) (laid e a b c p) ≡ inside w p
unfolding inside
laid-inside true a b c w p h =
    let o = and_parts (le_z w.left w.right) (le_z w.top w.bottom) h in
    (λ i. along_spans a c.0 w.top p.1 w.bottom o.1 i && along_spans b c.1 w.left p.0 w.right o.0 i)
    ∙ and_comm (le_z w.top p.1 && le_z p.1 w.bottom) (le_z w.left p.0 && le_z p.0 w.right)
laid-inside false a b c w p h =
    let o = and_parts (le_z w.left w.right) (le_z w.top w.bottom) h in
    λ i. along_spans a c.0 w.left p.0 w.right o.0 i && along_spans b c.1 w.top p.1 w.bottom o.1 i

spanned_dots : (p q : Dot) → has_dots (spanned p q) ≡ true
spanned_dots p q =
    and_from (le_z (int_min p.0 q.0) (int_max p.0 q.0)) (le_z (int_min p.1 q.1) (int_max p.1 q.1))
    (le_true (int_min p.0 q.0) (int_max p.0 q.0) (omega (arith, ints, clamps)))
    (le_true (int_min p.1 q.1) (int_max p.1 q.1) (omega (arith, ints, clamps)))

abbrev sides : Window → ℕ
sides w = suc (nat_abs (w.right -ℤ w.left)) * suc (nat_abs (w.bottom -ℤ w.top))

count_dots : (w : Window) → has_dots w ≡ true → dot_count w ≡ sides w
unfolding dot_count
count_dots w h = cond-true (has_dots w) (sides w) 0 h

count_none : (w : Window) → has_dots w ≡ false → dot_count w ≡ 0
unfolding dot_count
count_none w f = cond-false (has_dots w) (sides w) 0 f

laid-sides : (e a b : Bool) (c : Dot) (w : Window) → sides (laid_window e a b c w) ≡ sides w
laid-sides true a b c w = (λ i. suc (along_wide a c.0 w.top w.bottom i) * suc (along_wide b c.1 w.left w.right i)) ∙ mul_comm _ _
laid-sides false a b c w = λ i. suc (along_wide a c.0 w.left w.right i) * suc (along_wide b c.1 w.top w.bottom i)

outside_none : (w : Window) (p : Dot) → has_dots w ≡ false → inside w p ≡ false
unfolding canonical
outside_none w p f = sym (inside-canonical w p) ∙ ap (λ v. inside v p) (cond-false (has_dots w) w empty f) ∙ inside-empty p

-- how often the axes are exchanged
odd_more : (e : Bool) (n : ℕ) → differs e (eqb (n % 2) 1) ≡ eqb ((cond e 1 0 + n) % 2) 1
odd_more true n = elim (cases_eq (n % 2) 1) [
  | inl h ↦ ap (differs true) (eq-eqb (n % 2) 1 h) ∙ sym (ne_eqb ((1 + n) % 2) 1 (λ k. omega arith))
  | inr h ↦ ap (differs true) (ne_eqb (n % 2) 1 h) ∙ sym (eq-eqb ((1 + n) % 2) 1 (omega arith))
]
odd_more false n = elim (cases_eq (n % 2) 1) [
  | inl h ↦ ap (differs false) (eq-eqb (n % 2) 1 h) ∙ sym (eq-eqb ((0 + n) % 2) 1 (omega arith))
  | inr h ↦ ap (differs false) (ne_eqb (n % 2) 1 h) ∙ sym (ne_eqb ((0 + n) % 2) 1 (λ k. omega arith))
]

pub exchanges_odd : (ls : List Layer) → exchanges (facing_of ls) ≡ eqb (exchangings ls % 2) 1
exchanges_odd [] = refl
exchanges_odd (l ∷ ls) =
    (has_parts (differs (exchanges (turn_of l)) (exchanges (facing_of ls))) _ _).0
    ∙ ap (differs (exchanges (turn_of l))) (exchanges_odd ls)
    ∙ odd_more (exchanges (turn_of l)) (exchangings ls)

-- a pile's map by its parts, and the laws that they have
module _ (ls : List Layer) where
  abbrev across : Bool
  across = exchanges (facing_of ls)

  abbrev first : Bool
  first = negates_first (facing_of ls)

  abbrev second : Bool
  second = negates_second (facing_of ls)

  abbrev by : Dot
  by = place ls origin

  place-laid : (p : Dot) → place ls p ≡ laid across first second by p
  place-laid p = place_turns ls p ∙ ap (λ q. moved q by) (turned_parts (facing_of ls) p)

  lowered_dots : (w : Window) → has_dots w ≡ true → lowered ls w ≡ laid_window across first second by w
  unfolding lowered
  lowered_dots w h = cond-true (has_dots w) (spanned (place ls (w.left, w.top)) (place ls (w.right, w.bottom))) empty h ∙ (λ i. spanned (place-laid (w.left, w.top) i) (place-laid (w.right, w.bottom) i))

  lowered_none : (w : Window) → has_dots w ≡ false → lowered ls w ≡ empty
  unfolding lowered
  lowered_none w f = cond-false (has_dots w) (spanned (place ls (w.left, w.top)) (place ls (w.right, w.bottom))) empty f

  window_kept : (w : Window) (p : Dot) → inside (lowered ls w) (place ls p) ≡ inside w p
  window_kept w p = elim (cases_Bool (has_dots w)) [
    | inl t ↦ (λ i. inside (lowered_dots w t i) (place-laid p i)) ∙ laid-inside across first second by w p t
    | inr f ↦ ap (λ v. inside v (place ls p)) (lowered_none w f) ∙ inside-empty (place ls p) ∙ sym (outside_none w p f)
  ]

  count_kept : (w : Window) → dot_count (lowered ls w) ≡ dot_count w
  count_kept w = elim (cases_Bool (has_dots w)) [
    | inl t ↦ ap dot_count (lowered_dots w t) ∙ count_dots (laid_window across first second by w) (spanned_dots (laid across first second by (w.left, w.top)) (laid across first second by (w.right, w.bottom))) ∙ laid-sides across first second by w ∙ sym (count_dots w t)
    | inr f ↦ ap dot_count (lowered_none w f) ∙ count_none empty refl ∙ sym (count_none w f)
  ]

  pub map_laws : MapLaws ls
  map_laws = record {
    one_to_one = λ p q h. laid_one across first second by p q (sym (place-laid p) ∙ h ∙ place-laid q);
    onto = λ q. (raised across first second by q, place-laid (raised across first second by q) ∙ laid_onto across first second by q);
    turn_then_shift = place_turns ls;
    distances = λ p q. (λ i. apart (place-laid p i) (place-laid q i)) ∙ laid-apart across first second by p q;
    odd = exchanges_odd ls;
    window = window_kept;
    as_many = count_kept;
    none = lowered_none empty refl;
  }
