-- Proofs: the laws of a plate over which nothing lies. Nothing here needs to be believed.
use Rattle.std.specs.Prelude.{◌≡◌, ℕ, Bool, cond, List, [], ◌∷◌, ◌++◌, refl}
use Rattle.std.proofs.Common.{sym, ap, subst, ◌∙◌, map-id, arith, length-append}
use Rattle.plate.specs.declared.Window.{Window}
use Rattle.plate.specs.World.{Dot, inside, inked}
use Rattle.plate.specs.Plates.{Strike, Meaning, After, Framed, Laws, same, struck, lit_after, AllIn, meaning}

-- strikes after strikes
pub lit_after-append : (xs ys : List Strike) (lit : Dot → Bool) (p : Dot) → lit_after (xs ++ ys) lit p ≡ lit_after ys (λ q. lit_after xs lit q) p
lit_after-append [] ys lit p = refl
lit_after-append (x ∷ xs) ys lit p = lit_after-append xs ys (struck x lit) p

-- what strikes do to a dot depends on that dot alone
pub lit_after_at : (xs : List Strike) (f g : Dot → Bool) (p : Dot) → f p ≡ g p → lit_after xs f p ≡ lit_after xs g p
lit_after_at [] f g p h = h
lit_after_at (x ∷ xs) f g p h = lit_after_at xs (struck x f) (struck x g) p (ap (λ b. cond (same p x.0) (inked x.1 b) b) h)

pub AllIn-append : (f : Dot → Bool) (xs ys : List Strike) → AllIn f xs → AllIn f ys → AllIn f (xs ++ ys)
AllIn-append f [] ys a b = b
AllIn-append f (x ∷ xs) ys a b = (a.0, AllIn-append f xs ys a.1 b)

pub After_none : (m : Meaning) → After [] m m
After_none m = record { window = refl; lit = λ p h. refl; shots = omega arith }

pub After-append : (xs ys : List Strike) (l m n : Meaning) → After xs l m → After ys m n → After (xs ++ ys) l n
After-append xs ys l m n a b = record {
  window = b.window ∙ a.window;
  lit = λ p h. b.lit p (ap (λ w. inside w p) a.window ∙ h) ∙ lit_after_at ys m.lit (λ q. lit_after xs l.lit q) p (a.lit p h) ∙ sym (lit_after-append xs ys l.lit p);
  shots = (let e = a.shots in let d = b.shots in omega (arith, length-append xs ys));
}

-- a plate over which nothing lies: its own meaning is the lowest
pub bare_laws : {S : Type 0} (window : S → Window) (lit : S → Dot → Bool) (shots : S → ℕ) (strikes : S → List Strike → S → Type 0)
    → ((s : S) → strikes s [] s)
    → ((s t u : S) (xs ys : List Strike) → strikes s xs t → strikes t ys u → strikes s (xs ++ ys) u)
    → ((s t : S) (xs : List Strike) → strikes s xs t → After xs (meaning (window s) (lit s) (shots s)) (meaning (window t) (lit t) (shots t)))
    → ((s : S) → Framed (window s))
    → Laws window lit shots strikes (λ s. []) (λ s. meaning (window s) (lit s) (shots s))
bare_laws window lit shots strikes none join after framed = record {
  none = none;
  join = join;
  after = after;
  framed = framed;
  framed_below = framed;
  sees = λ s. record { window = λ p. refl; lit = λ p h. refl; shots = refl };
  near = λ s. tt;
  stays = λ s t xs h. refl;
  sinks = λ s t xs h. subst (λ zs. After zs (meaning (window s) (lit s) (shots s)) (meaning (window t) (lit t) (shots t))) (sym (map-id xs)) (after s t xs h);
}

-- a plate of which no more is known than that it shows the rules: its history is what its meaning tells
abbrev pub ByRules : {S : Type 0} (window : S → Window) (lit : S → Dot → Bool) (shots : S → ℕ) → S → List Strike → S → Type 0
ByRules window lit shots s xs t = After xs (meaning (window s) (lit s) (shots s)) (meaning (window t) (lit t) (shots t))

pub rule_laws : {S : Type 0} (window : S → Window) (lit : S → Dot → Bool) (shots : S → ℕ) → ((s : S) → Framed (window s)) → Laws window lit shots (ByRules window lit shots) (λ s. []) (λ s. meaning (window s) (lit s) (shots s))
rule_laws window lit shots framed =
    bare_laws window lit shots (ByRules window lit shots)
    (λ s. After_none (meaning (window s) (lit s) (shots s)))
    (λ s t u xs ys a b. After-append xs ys (meaning (window s) (lit s) (shots s)) (meaning (window t) (lit t) (shots t)) (meaning (window u) (lit u) (shots u)) a b)
    (λ s t xs a. a)
    framed
