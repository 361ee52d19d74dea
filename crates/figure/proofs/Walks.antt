-- A walk: what a visitor was handed so far, followed by what is still to come, is the whole.
use Rattle.std.proofs.Common.{◌≡◌, ℕ, suc, ◌+◌, ◌-◌, ◌<◌, ◌≤◌, List, [], ◌∷◌, ◌++◌, ℤ, pos, ◌+ℤ◌, ◌-ℤ◌, ◌*◌, sym, ap, ◌∙◌, subst, append_assoc, append-nil, arith}
use Rattle.plate.specs.World.{Dot}
use Rattle.figure.specs.Visits.{VisitLaws}
use Rattle.figure.specs.Lines.{longer, line_dot, line_dots, dots_from}
use Rattle.figure.specs.Reaches.{row_dot}

pub record Walked {S : Type 0} (visits : S → List Dot → S → Type 0) (s t : S) (rest all : List Dot) : Type 0 where
  pub past : List Dot
  pub did : visits s past t
  pub whole : past ++ rest ≡ all

module _ {S : Type 0} {visits : S → List Dot → S → Type 0} (h : VisitLaws visits) where
  pub start : (s : S) (rest all : List Dot) → rest ≡ all → Walked visits s s rest all
  start s rest all e = record { past = []; did = h.none s; whole = e }

  pub turn : (s t u : S) (ps qs rest all : List Dot) → Walked visits s t rest all → rest ≡ ps ++ qs → visits t ps u → Walked visits s u qs all
  turn s t u ps qs rest all w e v = record {
    past = w.past ++ ps;
    did = h.join s t u w.past ps w.did v;
    whole = append_assoc w.past ps qs ∙ ap (λ l. w.past ++ l) (sym e) ∙ w.whole;
  }

  pub finish : (s t : S) (rest all : List Dot) → Walked visits s t rest all → rest ≡ [] → visits s all t
  finish s t rest all w e = subst (λ l. visits s l t) (sym (append-nil w.past) ∙ ap (λ l. w.past ++ l) (sym e) ∙ w.whole) w.did

-- all dots of a line, one dot more, and none
pub all_dots : (p q : Dot) → dots_from (line_dot p q) 0 (longer p q + 1 - 0) ≡ line_dots p q
unfolding line_dots
all_dots p q = let e : longer p q + 1 - 0 ≡ longer p q + 1 = omega arith in ap (dots_from (line_dot p q) 0) e

pub next_dot : (dot : ℕ → Dot) (k n : ℕ) → k < n → dots_from dot k (n - k) ≡ (dot k ∷ []) ++ dots_from dot (k + 1) (n - (k + 1))
next_dot dot k n h =
    let e : n - k ≡ suc (n - (k + 1)) = omega arith in
    let d : suc k ≡ k + 1 = omega arith in
    ap (dots_from dot k) e ∙ ap (λ j. dot k ∷ dots_from dot j (n - (k + 1))) d

pub no_dot : (dot : ℕ → Dot) (k n : ℕ) → n ≤ k → dots_from dot k (n - k) ≡ []
no_dot dot k n h = let e : n - k ≡ 0 = omega arith in ap (dots_from dot k) e

-- one dot more of a row
pub row_turn : {S : Type 0} {visits : S → List Dot → S → Type 0} (h : VisitLaws visits) (x y : ℤ) (r k : ℕ) (s t u : S) (d : Dot) (all : List Dot)
    → Walked visits s t (dots_from (row_dot x y r) k (2 * r + 1 - k)) all → k < 2 * r + 1 → d.0 ≡ x -ℤ pos r +ℤ pos k → d.1 ≡ y → visits t (d ∷ []) u
    → Walked visits s u (dots_from (row_dot x y r) (k + 1) (2 * r + 1 - (k + 1))) all
row_turn {visits = visits} h x y r k s t u d all w less p q v =
    turn h s t u (row_dot x y r k ∷ []) (dots_from (row_dot x y r) (k + 1) (2 * r + 1 - (k + 1))) (dots_from (row_dot x y r) k (2 * r + 1 - k)) all w (next_dot (row_dot x y r) k (2 * r + 1) less)
    (subst (λ e. visits t (e ∷ []) u) (ap (λ z. (z, d.1)) p ∙ ap (λ z. ((row_dot x y r k).0, z)) q) v)
